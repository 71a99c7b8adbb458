use Rattle.std.proofs.Common.{◌≡◌, ◌∙◌, ap, false, subst, sym, true}
use Rattle.host_journal.specs.State.{first_disk, is_ready, second_disk}
use Rattle.machine_keep.specs.Calls.{TellsSome, TellsSomeIn, sync_calls}
use Rattle.machine_keep.specs.Kept.{caught}
use Rattle.host_journal.proofs.CallLemmas.{on_err}
use Rattle.machine_keep.proofs.CourseLemmas.{found_ready, syncs_some}
use Rattle.machine_keep.proofs.keep.Keep.catch_up.Goals as goal

pub returns-then-is_ready-clause-found : goal.returns-then-is_ready-clause-found
returns-then-is_ready-clause-found g c =
    let old = c.args.self.now in
    let ready : is_ready old.journal.pending ≡ true = ap (λ k. is_ready k.journal.pending) (sym c.self.view_is) ∙ (sym c.is_ready.ensures ∙ c.if-is_ready.true) in (
      false,
      found_ready g.D.Disk.premise g.D.Disk.seen old.journal ready (λ p. c.known.ensures.place p ready),
      ap (λ u. caught g.M.Machine.after (g.M.Machine.state old.machine) u false) (sym (c.known.ensures.sure ready)),
    )

pub returns-in_err-stood-clause-unfound : goal.returns-in_err-stood-clause-unfound
returns-in_err-stood-clause-unfound g c =
    let at = c.self.inside.journal in
    let failed : is_ready at.pending ≡ false = sym c.is_ready.ensures ∙ c.if-is_ready.false in
    on_err _ c.from_residual.result (record {
      became = ap (λ k. g.M.Machine.state k.machine) c.self.view_is;
      unsure = ap (λ k. k.unsure) c.self.view_is;
      told = subst (λ k. TellsSomeIn g.D.Disk.told g.D.Disk.disk_faults g.D.Disk.calls_advance k.journal c.reload.new.self (sync_calls (is_ready k.journal.pending))) c.self.view_is
          (subst (λ b. TellsSome g.D.Disk.told g.D.Disk.disk_faults g.D.Disk.calls_advance (first_disk at) (second_disk at) (first_disk c.reload.new.self) (second_disk c.reload.new.self) (sync_calls b)) (sym failed)
          (syncs_some g.D.Disk.told g.D.Disk.disk_faults g.D.Disk.calls_advance g.met.D.Disk.calls_advance_refl g.met.D.Disk.calls_advance_trans (first_disk at) (second_disk at) (first_disk c.reload.new.self) (second_disk c.reload.new.self) c.in_err-stood.ensures.told_err));
    })
