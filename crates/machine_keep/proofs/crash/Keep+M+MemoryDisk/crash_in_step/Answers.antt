use Rattle.std.proofs.Common.{◌∙◌, ap, if◌then◌else◌, subst, sym}
use Rattle.std.proofs.lemmas.Result.{IfOk-weaker}
use Rattle.ps_disks.specs.History.{bytes_now}
use Rattle.ps_disks.specs.MemoryDisk.{DiskState}
use Rattle.host_journal.specs.Crash.{opens_gate}
use Rattle.host_journal.specs.Pair.{pair_of}
use Rattle.host_journal.specs.State.{SameButRoom, stored, which}
use Rattle.machine_keep.specs.Crash.{keeps_step}
use Rattle.machine_keep.specs.Kept.{StandsFor}
use Rattle.machine_keep.proofs.CrashLemmas.{kept_early, kept_late, left_early, left_late, with_which}
use Rattle.machine_keep.proofs.crash.Keep+M+MemoryDisk.crash_in_step.Goals as goal

pub returns-then-stop-gt4-clause-kept : goal.returns-then-stop-gt4-clause-kept
returns-then-stop-gt4-clause-kept g c =
    let before = g.M.Machine.state c.args.self.machine in
    let after = g.M.Machine.after before c.args.step in
    let became = c.in-Ok.ensures.state ∙ ap (λ k. g.M.Machine.after (g.M.Machine.state k.machine) c.args.step) c.keep.view_is in
    IfOk-weaker c.crash_in_shorten.result _ _
    (λ disks stands. subst (λ kept. StandsFor g.M.Machine.stands_for (if kept then after else before) (pair_of (bytes_now disks.0.history) (bytes_now disks.1.history))) (sym (kept_late c.args.stop c.args.image c.if-stop-gt4.true))
    (subst (λ s. StandsFor g.M.Machine.stands_for s (pair_of (bytes_now disks.0.history) (bytes_now disks.1.history))) became stands))
    c.crash_in_shorten.ensures.stands

pub returns-clause-kept : goal.returns-clause-kept
returns-clause-kept g c =
    let payload = c.deref-2.result.now in
    let opens = opens_gate c.args.stop c.args.image in
    let same = ap (λ j. which payload opens (stored (λ (d : DiskState). bytes_now d.history) j)) (c.into_journal.ensures ∙ c.reserve.ensures.same)
    ∙ ap (λ k. which payload opens (stored (λ (d : DiskState). bytes_now d.history) k.journal)) c.keep.view_is in
    IfOk-weaker c.crash_in_append.result _ _
    (λ disks found. with_which g.M.Machine.stands_for g.M.Machine.record_of g.M.Machine.follows g.M.Machine.after g.met.M.Machine.stands_more (g.M.Machine.state c.args.self.machine) c.args.step payload
    (pair_of (bytes_now disks.0.history) (bytes_now disks.1.history)) (stored (λ (d : DiskState). bytes_now d.history) c.args.self.journal) (keeps_step c.args.stop c.args.image) opens
    (c.deref-2.ensures.value ∙ c.in_ok-bytes.ensures) (kept_early c.args.stop c.args.image c.if-stop-gt4.false) (found ∙ same) c.requires.follows (c.known.ensures.stands tt c.requires.ready))
    c.crash_in_append.ensures.kept

pub returns-then-stop-gt4-clause-left : goal.returns-then-stop-gt4-clause-left
returns-then-stop-gt4-clause-left g c =
    let old = c.args.self.journal in
    let begun = c.reserve.new.self in
    let mid = c.put.new.self.journal in
    let after = g.M.Machine.after (g.M.Machine.state c.args.self.machine) c.args.step in
    let became = c.in-Ok.ensures.state ∙ ap (λ k. g.M.Machine.after (g.M.Machine.state k.machine) c.args.step) c.keep.view_is in
    let same = subst (λ k. SameButRoom k.journal begun) c.keep.view_is c.reserve.ensures.same in
    IfOk-weaker c.crash_in_shorten.result _ _
    (λ disks left. left_late g.M.Machine.stands_for after (g.M.Machine.record_of c.args.step) old begun mid same c.put.ensures.kept c.in-Ok.ensures.end c.args.stop c.args.image c.if-stop-gt4.true (c.in-Ok.ensures.appended tt)
    (g.M.Machine.state c.put.new.self.machine) became (pair_of (bytes_now disks.0.history) (bytes_now disks.1.history)) left)
    c.crash_in_shorten.ensures.left

pub returns-clause-left : goal.returns-clause-left
returns-clause-left g c =
    let payload = c.deref-2.result.now in
    let opens = opens_gate c.args.stop c.args.image in
    let old = c.args.self.journal in
    let same = ap (λ j. which payload opens (stored (λ (d : DiskState). bytes_now d.history) j)) (c.into_journal.ensures ∙ c.reserve.ensures.same)
    ∙ ap (λ k. which payload opens (stored (λ (d : DiskState). bytes_now d.history) k.journal)) c.keep.view_is in
    IfOk-weaker c.crash_in_append.result _ _
    (λ disks found. left_early g.M.Machine.stands_for (g.M.Machine.after (g.M.Machine.state c.args.self.machine) c.args.step) c.args.stop c.args.image (g.M.Machine.record_of c.args.step) old (pair_of (bytes_now disks.0.history) (bytes_now disks.1.history)) c.if-stop-gt4.false
    (found ∙ same ∙ ap (λ b. which b opens (stored (λ (d : DiskState). bytes_now d.history) old)) (c.deref-2.ensures.value ∙ c.in_ok-bytes.ensures)))
    c.crash_in_append.ensures.kept
