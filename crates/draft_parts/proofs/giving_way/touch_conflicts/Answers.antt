use Rattle.std.proofs.Common.{◌≡◌, ◌∙◌, ◌∷◌, ◌<◌, [], List, Some, length, sym, ap, arith}
use Rattle.ps_time.specs.declared.key.RunKey.{RunKey}
use Rattle.host_timeline.specs.Booking.{conflicting_after, key_and, keys_of}
use Rattle.draft_parts.specs.Overlay.{below, over}
use Rattle.draft_parts.specs.Way.{touched_each}
use Rattle.draft_parts.proofs.OverLemmas.{below_own, found_touched}
use Rattle.draft_parts.proofs.giving_way.touch_conflicts.Goals as goal

-- the next key's row is copied, and those above it are left
pub loop-key-preserved : goal.loop-key-preserved
loop-key-preserved c =
    let run = c.args.run.now in
    let later : RunKey → List RunKey = λ k. keys_of (conflicting_after run.class run.interval (Some k) c.args.timeline.now.list) in
    let next : keys_of (conflicting_after run.class run.interval c.loop-key.last c.args.timeline.now.list) ≡ c.in-Some.key ∷ later c.in-Some.key = c.next_conflict.ensures.walk ∙ ap (λ r. key_and r later) c.in-Some.is in
    let gone = c.args.gone.now in
    let book = c.args.book.now.list in
    record {
      same = λ k. ap (λ l. over l gone book k) c.in_ok-touch.ensures.ok ∙ (found_touched (below gone book) (below_own gone book) c.loop-key.touched.list c.in-Some.key k ∙ c.loop-key.invariant.same k);
      left = c.loop-key.invariant.left ∙ (ap (λ ks. touched_each gone book ks c.loop-key.touched.list) next ∙ ap (touched_each gone book (later c.in-Some.key)) (sym c.in_ok-touch.ensures.ok));
    }

pub loop-key-smaller : goal.loop-key-smaller
loop-key-smaller c =
    let run = c.args.run.now in
    let later : RunKey → List RunKey = λ k. keys_of (conflicting_after run.class run.interval (Some k) c.args.timeline.now.list) in
    let next : keys_of (conflicting_after run.class run.interval c.loop-key.last c.args.timeline.now.list) ≡ c.in-Some.key ∷ later c.in-Some.key = c.next_conflict.ensures.walk ∙ ap (λ r. key_and r later) c.in-Some.is in
    let fewer : length (later c.in-Some.key) < length (keys_of (conflicting_after run.class run.interval c.loop-key.last c.args.timeline.now.list)) = rw next (omega arith) in
    fewer

-- none is left
pub returns-clause-touched : goal.returns-clause-touched
returns-clause-touched c =
    let run = c.args.run.now in
    let later : RunKey → List RunKey = λ k. keys_of (conflicting_after run.class run.interval (Some k) c.args.timeline.now.list) in
    let none : keys_of (conflicting_after run.class run.interval c.loop-key.last c.args.timeline.now.list) ≡ [] = c.next_conflict.ensures.walk ∙ ap (λ r. key_and r later) c.in_default.is in
    sym (c.loop-key.invariant.left ∙ ap (λ ks. touched_each c.args.gone.now c.args.book.now.list ks c.loop-key.touched.list) none)
