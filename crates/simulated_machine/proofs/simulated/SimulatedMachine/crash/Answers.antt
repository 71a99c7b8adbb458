use Rattle.std.specs.Prelude.{IfOk}
use Rattle.std.proofs.Common.{◌≡◌, ◌∙◌, ◌-◌, false, true, ap, arith, if◌then◌else◌, length, nat_lt, refl, subst, sym}
use Rattle.std.proofs.lemmas.Result.{IfOk-weaker}
use Rattle.ps_disks.specs.History.{bytes_now, image_bytes}
use Rattle.ps_disks.specs.MemoryDisk.{DiskState}
use Rattle.host_journal.specs.Pair.{pair_of}
use Rattle.host_journal.specs.State.{first_disk, has_record, is_ready, second_disk, stored}
use Rattle.machine_keep.specs.Crash.{LeftBehind, LeftExactly}
use Rattle.machine_keep.specs.Faulted.{seen_on}
use Rattle.machine_keep.specs.Kept.{Kept, caught}
use Rattle.simulated_machine.specs.Crashed.{StandsAt, Stops, place_unsynced, state_unsynced}
use Rattle.simulated_machine.specs.Held.{syncs}
use Rattle.simulated_machine.specs.IsHeld.{held, held_of}
use Rattle.simulated_machine.proofs.CrashedLemmas.{ok_both, stops_behind, stops_held, unsynced_held}
use Rattle.simulated_machine.proofs.simulated.SimulatedMachine.crash.Goals as goal

pub returns-then-is_ready-clause-stops : goal.returns-then-is_ready-clause-stops
returns-then-is_ready-clause-stops g c late =
    let m = g.M.Machine in
    let k = c.self.inside.keep in
    let h = held_of m.state m.after k c.self.inside.unsynced in
    let holds = (c.self.invariant c.if-not-self.false).0 in
    let same : c.into_keep-keep.result ≡ k = c.into_keep-keep.ensures ∙ ap (λ s. s.keep) (sym c.self.view_is) in
    let ready : is_ready k.journal.pending ≡ true = sym c.if-is_ready.ensures in
    let number : c.args.stop ≡ c.args.stop - length (syncs h.ready) = subst (λ b. c.args.stop ≡ c.args.stop - length (syncs b)) (sym ready) (omega arith) in
    IfOk-weaker c.crash_in.result _ _
    (λ disks left.
    let pair = pair_of (bytes_now disks.0.history) (bytes_now disks.1.history) in
    let own = subst (λ x. LeftExactly seen_on m.stands_for m.record_of m.answers m.follows m.after (m.state x.machine) x.journal c.args.call c.args.stop c.args.image pair) same left in
    subst (λ s. Stops m.stands_for m.record_of m.answers m.follows m.after (held m.state m.after s) c.args.call (c.args.stop - length (syncs (held m.state m.after s).ready)) c.args.image pair) c.self.view_is
    (subst (λ n. Stops m.stands_for m.record_of m.answers m.follows m.after h c.args.call n c.args.image pair) number
    (stops_held m.state m.stands_for m.record_of m.answers m.follows m.after k h holds.held c.args.call c.args.stop c.args.image pair (c.known.ensures.sure ready) (c.known.ensures.place tt ready) own)))
    c.crash_in.ensures.left

pub returns-clause-sync_failed : goal.returns-clause-sync_failed
returns-clause-sync_failed g c unready early =
    let m = g.M.Machine in
    let k = c.self.inside.keep in
    let h = held_of m.state m.after k c.self.inside.unsynced in
    let holds = (c.self.invariant c.if-not-self.false).0 in
    let same : c.into_keep-keep.result ≡ k = c.into_keep-keep.ensures ∙ ap (λ s. s.keep) (sym c.self.view_is) in
    let one = subst (λ (x : Kept g.row.M.Denot DiskState g.row.M-Step.Denot). IfOk c.crash_in_again.result (λ disks. bytes_now disks.0.history ≡ (if nat_lt 1 c.args.stop then bytes_now (first_disk x.journal).history else image_bytes c.args.image (first_disk x.journal).history))) same (c.crash_in_again.ensures.one early) in
    let two = subst (λ (x : Kept g.row.M.Denot DiskState g.row.M-Step.Denot). IfOk c.crash_in_again.result (λ disks. bytes_now disks.1.history ≡ image_bytes c.args.image (second_disk x.journal).history)) same (c.crash_in_again.ensures.two early) in
    ok_both _ _ _
    (λ disks is_one is_two.
    subst (λ s. StandsAt m.stands_for (state_unsynced (held m.state m.after s).state (held m.state m.after s).unsynced c.args.stop c.args.image) (place_unsynced (held m.state m.after s).place (held m.state m.after s).unsynced c.args.stop c.args.image) (pair_of (bytes_now disks.0.history) (bytes_now disks.1.history))) c.self.view_is
    (unsynced_held m.state m.stands_for m.record_of m.answers m.follows m.after k h holds.held c.args.stop c.args.image (bytes_now disks.0.history) (bytes_now disks.1.history) is_one is_two))
    c.crash_in_again.result one two

pub returns-clause-stops : goal.returns-clause-stops
returns-clause-stops g c late =
    let m = g.M.Machine in
    let k = c.self.inside.keep in
    let h = held_of m.state m.after k c.self.inside.unsynced in
    let holds = (c.self.invariant c.if-not-self.false).0 in
    let same : c.into_keep-keep.result ≡ k = c.into_keep-keep.ensures ∙ ap (λ s. s.keep) (sym c.self.view_is) in
    let unready : is_ready k.journal.pending ≡ false = sym c.if-is_ready.ensures in
    let behind = late (subst (λ s. (held m.state m.after s).ready ≡ false) c.self.view_is unready) in
    let number : c.args.stop - 2 ≡ c.args.stop - length (syncs h.ready) = subst (λ b. c.args.stop - 2 ≡ c.args.stop - length (syncs b)) (sym unready) refl in
    IfOk-weaker c.crash_in_again.result _ _
    (λ disks left.
    let pair = pair_of (bytes_now disks.0.history) (bytes_now disks.1.history) in
    let own = subst (λ x. LeftBehind seen_on m.stands_for m.record_of m.answers m.follows m.after (caught m.after (m.state x.machine) x.unsure (has_record x.journal.pending (stored seen_on x.journal))) x.journal c.args.call (c.args.stop - 2) c.args.image pair) same left in
    subst (λ s. Stops m.stands_for m.record_of m.answers m.follows m.after (held m.state m.after s) c.args.call (c.args.stop - length (syncs (held m.state m.after s).ready)) c.args.image pair) c.self.view_is
    (subst (λ n. Stops m.stands_for m.record_of m.answers m.follows m.after h c.args.call n c.args.image pair) number
    (stops_behind m.state m.stands_for m.record_of m.answers m.follows m.after k h holds.held c.args.call (c.args.stop - 2) c.args.image pair own)))
    (c.crash_in_again.ensures.left behind)
