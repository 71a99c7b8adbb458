use Rattle.std.proofs.Common.{◌∙◌, ◌+◌, ◌-◌, None, ap, arith, refl, subst, sym}
use Rattle.host_journal.specs.State.{has_record, stored}
use Rattle.machine_keep.specs.Faulted.{seen_on}
use Rattle.machine_keep.specs.Kept.{caught}
use Rattle.simulated_machine.specs.Held.{Held, armed_at}
use Rattle.simulated_machine.specs.IsHeld.{IsHeld, held_of}
use Rattle.simulated_machine.proofs.SimulatedLemmas.{counted_there, faults_armed, held_armed, held_over, is_view}
use Rattle.simulated_machine.proofs.StepLemmas.{over_size}
use Rattle.simulated_machine.proofs.simulated.SimulatedMachine.over.Goals as goal

pub invariant_of-result : goal.invariant_of-result
invariant_of-result g c fed_now =
    let m = g.M.Machine in
    let old = c.args.keep in
    let new = c.fail_at.new.self in
    let fed = c.requires.fed in
    let f = c.fail_at.ensures in
    let ready = c.requires.ready in
    let stood = held_over m.state m.stands_for m.after old ready (c.known.ensures.sure ready) (c.known.ensures.stands tt ready) (c.known.ensures.each tt ready)
    (record { reads = c.requires.reads.0; fed = fed.0; few = omega (arith, c.requires.faults.0); armed = refl })
    (record { reads = c.requires.reads.1; fed = fed.1; few = omega (arith, c.requires.faults.1); armed = refl }) in
    let armed = held_armed m.state m.stands_for m.after 0 old new f.on_first f.on_second f.pending f.machine f.unsure (held_of m.state m.after old None) stood in
    let view = is_view m.state m.stands_for m.after new (armed_at (held_of m.state m.after old None) 0) armed None refl in (
      record {
        held = subst (IsHeld m.state m.stands_for m.after new) (sym view) armed;
        few = faults_armed m.state m.stands_for m.after 0 old new f.on_first f.on_second f.pending f.machine f.unsure 0 c.requires.faults;
        made = f.put_off ∙ c.requires.made;
        is_fixed = ap (λ u. m.fixed (caught m.after (m.state new.machine) u (has_record new.journal.pending (stored seen_on new.journal)))) (f.unsure ∙ c.known.ensures.sure ready);
        size = λ below. (let size = over_size old.journal (stored seen_on old.journal) c.snapshot_bytes.result c.record_bytes.result (c.snapshot_bytes.ensures ∙ ap (λ n. n - 21) f.start) (omega (arith, c.record_bytes.ensures, f.start, f.end)) (c.known.ensures.place tt ready) in
            let same = ap (λ (x : Held g.M.Machine.State). x.place.snapshot + x.place.records) view in omega (arith, below, same, size, c.saturating_add-most_bytes.ensures));
      },
      record {
        is_second = c.is_second-second.ensures ∙ (f.second ∙ (sym (counted_there old.journal (stored seen_on old.journal) (c.known.ensures.place tt ready)) ∙ sym (ap (λ (x : Held g.M.Machine.State). x.place.second) view)));
        is_unsynced = tt;
      },
    )
