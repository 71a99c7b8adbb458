use Rattle.std.proofs.Common.{◌∙◌, None, ap, subst}
use Rattle.std.proofs.lemmas.Result.{IfOk-weaker}
use Rattle.ps_disks.specs.History.{bytes_now}
use Rattle.host_journal.specs.Pair.{pair_of}
use Rattle.host_journal.specs.State.{stored}
use Rattle.machine_keep.specs.Crash.{keeps_step}
use Rattle.machine_keep.specs.Faulted.{seen_on}
use Rattle.machine_keep.specs.Kept.{StandsFor}
use Rattle.machine_keep.proofs.CrashLemmas.{kept_either, left_none}
use Rattle.machine_keep.proofs.KeepLemmas.{ok_both}
use Rattle.machine_keep.proofs.crash.Keep+M+MemoryDisk.crash_in.Goals as goal

pub returns-in-None-clause-kept : goal.returns-in-None-clause-kept
returns-in-None-clause-kept g c =
    let same = c.decide.ensures.same ∙ ap (λ k. g.M.Machine.state k.machine) c.keep.view_is in
    let answered = subst (λ k. g.M.Machine.answers (g.M.Machine.state k.machine) c.args.call c.in_ok-step.field-0.reply c.in_ok-step.field-0.step) c.keep.view_is c.in_ok-step.ensures.answer in
    let none = subst (λ o. g.M.Machine.answers (g.M.Machine.state c.args.self.machine) c.args.call c.in_ok-step.field-0.reply o) c.in-None.is answered in
    IfOk-weaker c.crash_at_rest.result _ _
    (λ disks stands. (
      c.in_ok-step.field-0.reply,
      None,
      none,
      kept_either (λ s. StandsFor g.M.Machine.stands_for s (pair_of (bytes_now disks.0.history) (bytes_now disks.1.history))) (g.M.Machine.state c.args.self.machine) (keeps_step c.args.stop c.args.image)
          (subst (λ s. StandsFor g.M.Machine.stands_for s (pair_of (bytes_now disks.0.history) (bytes_now disks.1.history))) same stands),
    ))
    c.crash_at_rest.ensures.stands

pub returns-in-None-clause-left : goal.returns-in-None-clause-left
returns-in-None-clause-left g c =
    let s = g.M.Machine.state c.args.self.machine in
    let reply = c.in_ok-step.field-0.reply in
    let same = c.decide.ensures.same ∙ ap (λ k. g.M.Machine.state k.machine) c.keep.view_is in
    let answered = subst (λ k. g.M.Machine.answers (g.M.Machine.state k.machine) c.args.call reply c.in_ok-step.field-0.step) c.keep.view_is c.in_ok-step.ensures.answer in
    let none = subst (λ o. g.M.Machine.answers s c.args.call reply o) c.in-None.is answered in
    ok_both _ _ _
    (λ disks stands left. left_none g.M.Machine.stands_for g.M.Machine.record_of g.M.Machine.answers g.M.Machine.follows g.M.Machine.after s c.args.self.journal c.args.call c.args.stop c.args.image (pair_of (bytes_now disks.0.history) (bytes_now disks.1.history)) reply none
    (subst (λ s. StandsFor g.M.Machine.stands_for s (pair_of (bytes_now disks.0.history) (bytes_now disks.1.history))) same stands) (left ∙ ap (λ k. stored seen_on k.journal) c.keep.view_is))
    c.crash_at_rest.result c.crash_at_rest.ensures.stands c.crash_at_rest.ensures.left
