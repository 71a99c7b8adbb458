use Rattle.std.specs.Prelude.{find}
use Rattle.std.proofs.Common.{◌≡◌, ◌∙◌, ◌∷◌, ◌<◌, [], List, Some, cond, length, sym, ap, arith}
use Rattle.ps_time.specs.declared.key.RunKey.{RunKey}
use Rattle.host_timeline.specs.Booking.{conflicting_after, key_and, keys_of}
use Rattle.draft_parts.specs.Overlay.{meets_below}
use Rattle.draft_parts.proofs.overlay.first_below.Goals as goal

-- the next key is passed over, and those above it are left
pub loop-key-preserved : goal.loop-key-preserved
loop-key-preserved c =
    let s = c.args.sought.now in
    let later : RunKey → List RunKey = λ k. keys_of (conflicting_after s.class s.interval (Some k) c.args.timeline.now.list) in
    let next : keys_of (conflicting_after s.class s.interval c.loop-key.last c.args.timeline.now.list) ≡ c.in-Some.key ∷ later c.in-Some.key = c.next_conflict.ensures.walk ∙ ap (λ r. key_and r later) c.in-Some.is in
    let passes = meets_below c.args.moment s c.args.touched.now.list c.args.gone.now c.args.book.now.list in
    c.loop-key.invariant ∙ (ap (find passes) next ∙ ap (λ b. cond b (Some c.in-Some.key) (find passes (later c.in-Some.key))) (sym c.meets_below.ensures ∙ c.if-meets_below.false))

pub loop-key-smaller : goal.loop-key-smaller
loop-key-smaller c =
    let s = c.args.sought.now in
    let later : RunKey → List RunKey = λ k. keys_of (conflicting_after s.class s.interval (Some k) c.args.timeline.now.list) in
    let next : keys_of (conflicting_after s.class s.interval c.loop-key.last c.args.timeline.now.list) ≡ c.in-Some.key ∷ later c.in-Some.key = c.next_conflict.ensures.walk ∙ ap (λ r. key_and r later) c.in-Some.is in
    let fewer : length (later c.in-Some.key) < length (keys_of (conflicting_after s.class s.interval c.loop-key.last c.args.timeline.now.list)) = rw next (omega arith) in
    fewer

-- it is this one
pub returns-then-meets_below : goal.returns-then-meets_below
returns-then-meets_below c =
    let s = c.args.sought.now in
    let later : RunKey → List RunKey = λ k. keys_of (conflicting_after s.class s.interval (Some k) c.args.timeline.now.list) in
    let next : keys_of (conflicting_after s.class s.interval c.loop-key.last c.args.timeline.now.list) ≡ c.in-Some.key ∷ later c.in-Some.key = c.next_conflict.ensures.walk ∙ ap (λ r. key_and r later) c.in-Some.is in
    let passes = meets_below c.args.moment s c.args.touched.now.list c.args.gone.now c.args.book.now.list in
    sym (c.loop-key.invariant ∙ (ap (find passes) next ∙ ap (λ b. cond b (Some c.in-Some.key) (find passes (later c.in-Some.key))) (sym c.meets_below.ensures ∙ c.if-meets_below.true)))

-- none is left
pub returns : goal.returns
returns c =
    let s = c.args.sought.now in
    let later : RunKey → List RunKey = λ k. keys_of (conflicting_after s.class s.interval (Some k) c.args.timeline.now.list) in
    let none : keys_of (conflicting_after s.class s.interval c.loop-key.last c.args.timeline.now.list) ≡ [] = c.next_conflict.ensures.walk ∙ ap (λ r. key_and r later) c.in_default.is in
    let passes = meets_below c.args.moment s c.args.touched.now.list c.args.gone.now c.args.book.now.list in
    sym (c.loop-key.invariant ∙ ap (find passes) none)
