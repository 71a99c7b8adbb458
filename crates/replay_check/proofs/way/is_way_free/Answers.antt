use Rattle.std.specs.Prelude.{◌↔◌}
use Rattle.std.proofs.Common.{◌≡◌, ◌∙◌, ◌∷◌, ◌<◌, [], List, All, Option, None, Some, length, refl, sym, subst, ap, arith}
use Rattle.std.proofs.lemmas.List.Elements.{All-nil}
use Rattle.ps_time.specs.declared.key.RunKey.{RunKey}
use Rattle.host_timeline.specs.Booking.{conflicting_after, key_and, keys_of}
use Rattle.host_timeline.specs.declared.booking.Booking.{Booking}
use Rattle.replay_check.specs.Way.{IsFreeWay, IsWaiting}
use Rattle.replay_check.proofs.WayLemmas.{stopped, walk_on, way_decided}
use Rattle.replay_check.proofs.way.is_way_free.Goals as goal

pub loop-key-preserved : goal.loop-key-preserved
loop-key-preserved c =
    let left : Option RunKey → List RunKey = λ o. keys_of (conflicting_after c.args.class c.args.interval.now o c.args.timeline.now.list) in
    let next : left c.loop-key.last ≡ c.in-Some.key ∷ left (Some c.in-Some.key) = c.next_conflict.ensures.walk ∙ ap (λ r. key_and r (λ k. left (Some k))) c.in-Some.is in
    walk_on (IsWaiting c.args.rows.now.list) (left c.loop-key.last) (left None) (left (Some c.in-Some.key)) c.in-Some.key next c.loop-key.invariant (c.is_waiting.ensures.0 c.if-not-is_waiting.false)

pub loop-key-smaller : goal.loop-key-smaller
loop-key-smaller c =
    let later : RunKey → List RunKey = λ k. keys_of (conflicting_after c.args.class c.args.interval.now (Some k) c.args.timeline.now.list) in
    let next : keys_of (conflicting_after c.args.class c.args.interval.now c.loop-key.last c.args.timeline.now.list) ≡ c.in-Some.key ∷ later c.in-Some.key = c.next_conflict.ensures.walk ∙ ap (λ r. key_and r later) c.in-Some.is in
    let fewer : length (later c.in-Some.key) < length (keys_of (conflicting_after c.args.class c.args.interval.now c.loop-key.last c.args.timeline.now.list)) = rw next (omega arith) in
    fewer

pub returns-then-not-is_waiting : goal.returns-then-not-is_waiting
returns-then-not-is_waiting c =
    let rows = c.args.rows.now.list in
    let left : Option RunKey → List RunKey = λ o. keys_of (conflicting_after c.args.class c.args.interval.now o c.args.timeline.now.list) in
    let next : left c.loop-key.last ≡ c.in-Some.key ∷ left (Some c.in-Some.key) = c.next_conflict.ensures.walk ∙ ap (λ r. key_and r (λ k. left (Some k))) c.in-Some.is in
    let decided = subst (λ (bs : List Booking). All (IsWaiting rows) (keys_of (conflicting_after c.args.class c.args.interval.now None bs)) ↔ IsFreeWay c.args.class c.args.interval.now rows) (sym c.requires) (way_decided c.args.class c.args.interval.now rows c.in_order-known.ensures.ascending) in (
      λ yes. cc,
      λ free.
          let here = stopped (IsWaiting rows) (left c.loop-key.last) (left None) (left (Some c.in-Some.key)) c.in-Some.key next c.loop-key.invariant (decided.1 free) in
          let waits = c.is_waiting.ensures.1 here in
          let never = c.if-not-is_waiting.true in
          cc,
    )

pub returns : goal.returns
returns c =
    let rows = c.args.rows.now.list in
    let left : Option RunKey → List RunKey = λ o. keys_of (conflicting_after c.args.class c.args.interval.now o c.args.timeline.now.list) in
    let none : left c.loop-key.last ≡ [] = c.next_conflict.ensures.walk ∙ ap (λ r. key_and r (λ k. left (Some k))) c.in_default.is in
    let decided = subst (λ (bs : List Booking). All (IsWaiting rows) (keys_of (conflicting_after c.args.class c.args.interval.now None bs)) ↔ IsFreeWay c.args.class c.args.interval.now rows) (sym c.requires) (way_decided c.args.class c.args.interval.now rows c.in_order-known.ensures.ascending) in
    (λ yes. decided.0 (c.loop-key.invariant.0 (subst (All (IsWaiting rows)) (sym none) (All-nil (IsWaiting rows)))), λ free. refl)
