use Rattle.std.proofs.Common.{◌≡◌, ◌∙◌, ap, sym, subst}
use Rattle.ps_disks.specs.History.{bytes_now, image_bytes}
use Rattle.ps_disks.specs.MemoryDisk.{DiskState}
use Rattle.host_journal.specs.Pair.{pair_of}
use Rattle.host_journal.specs.State.{first_disk, second_disk}
use Rattle.simulated_machine.specs.Crashed.{StandsAt, place_unsynced, state_unsynced}
use Rattle.simulated_machine.specs.IsHeld.{held, held_of}
use Rattle.simulated_machine.proofs.CrashedLemmas.{unsynced_held}
use Rattle.simulated_machine.proofs.simulated.SimulatedMachine.crash_now.Goals as goal

pub returns-clause-left : goal.returns-clause-left
returns-clause-left g c =
    let m = g.M.Machine in
    let k = c.self.inside.keep in
    let h = held_of m.state m.after k c.self.inside.unsynced in
    let holds = (c.self.invariant c.if-not-self.false).0 in
    let same : c.into_keep.result ≡ k = c.into_keep.ensures ∙ ap (λ s. s.keep) (sym c.self.view_is) in
    let one = c.in_ok-first.ensures.bytes ∙ ap (λ (d : DiskState). image_bytes c.args.image d.history) (c.into_disks-first.ensures.first ∙ ap (λ x. first_disk x.journal) same) in
    let two = c.in_ok-second.ensures.bytes ∙ ap (λ (d : DiskState). image_bytes c.args.image d.history) (c.into_disks-first.ensures.second ∙ ap (λ x. second_disk x.journal) same) in
    let first = bytes_now c.in_ok-first.first.history in
    let second = bytes_now c.in_ok-second.second.history in
    subst (λ s. StandsAt m.stands_for (state_unsynced (held m.state m.after s).state (held m.state m.after s).unsynced 0 c.args.image) (place_unsynced (held m.state m.after s).place (held m.state m.after s).unsynced 0 c.args.image) (pair_of first second)) c.self.view_is
    (unsynced_held m.state m.stands_for m.record_of m.answers m.follows m.after k h holds.held 0 c.args.image first second one two)
