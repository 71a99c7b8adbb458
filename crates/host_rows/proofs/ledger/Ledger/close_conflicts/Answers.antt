use Rattle.std.proofs.Common.{◌≡◌, ◌∙◌, ◌∷◌, ◌<◌, [], List, Some, length, refl, sym, ap, arith}
use Rattle.ps_time.specs.declared.key.RunKey.{RunKey}
use Rattle.host_timeline.specs.Booking.{conflicting_after, key_and, keys_of}
use Rattle.host_rows.specs.Closing.{closed_keys}
use Rattle.host_rows.proofs.ClosingLemmas.{closed_each_keys}
use Rattle.host_rows.proofs.ledger.Ledger.close_conflicts.Goals as goal

pub loop-key-init : goal.loop-key-init
loop-key-init c =
    let run = c.args.run.now in
    record { left = closed_each_keys c.args.moment run.key run.class run.interval c.args.timeline.now.list c.args.self.now.list; number = refl; room = omega arith }

-- the next key is closed, and those above it are left
pub loop-key-preserved : goal.loop-key-preserved
loop-key-preserved c =
    let run = c.args.run.now in
    let later : RunKey → List RunKey = λ k. keys_of (conflicting_after run.class run.interval (Some k) c.args.timeline.now.list) in
    let next : keys_of (conflicting_after run.class run.interval c.loop-key.last c.args.timeline.now.list) ≡ c.in-Some.key ∷ later c.in-Some.key = c.next_conflict.ensures.walk ∙ ap (λ r. key_and r later) c.in-Some.is in
    record {
      left = c.loop-key.invariant.left ∙ ap (λ ks. closed_keys c.args.moment run.key ks c.loop-key.self.list) next ∙ ap (closed_keys c.args.moment run.key (later c.in-Some.key)) (sym c.preempt.ensures.rows);
      number = c.preempt.ensures.number ∙ c.loop-key.invariant.number;
      room = let before = c.loop-key.invariant.room in let here = c.preempt.ensures.room in omega (arith, before, here);
    }

pub loop-key-smaller : goal.loop-key-smaller
loop-key-smaller c =
    let run = c.args.run.now in
    let later : RunKey → List RunKey = λ k. keys_of (conflicting_after run.class run.interval (Some k) c.args.timeline.now.list) in
    let next : keys_of (conflicting_after run.class run.interval c.loop-key.last c.args.timeline.now.list) ≡ c.in-Some.key ∷ later c.in-Some.key = c.next_conflict.ensures.walk ∙ ap (λ r. key_and r later) c.in-Some.is in
    let fewer : length (later c.in-Some.key) < length (keys_of (conflicting_after run.class run.interval c.loop-key.last c.args.timeline.now.list)) = rw next (omega arith) in
    fewer

-- none is left
pub returns-clause-rows : goal.returns-clause-rows
returns-clause-rows c =
    let run = c.args.run.now in
    let later : RunKey → List RunKey = λ k. keys_of (conflicting_after run.class run.interval (Some k) c.args.timeline.now.list) in
    let none : keys_of (conflicting_after run.class run.interval c.loop-key.last c.args.timeline.now.list) ≡ [] = c.next_conflict.ensures.walk ∙ ap (λ r. key_and r later) c.in_default.is in
    sym (c.loop-key.invariant.left ∙ ap (λ ks. closed_keys c.args.moment run.key ks c.loop-key.self.list) none)
