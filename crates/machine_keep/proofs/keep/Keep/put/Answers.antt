use Rattle.std.proofs.Common.{◌≡◌, IfSome, None, Some, subst, sym}
use Rattle.host_journal.specs.State.{stored}
use Rattle.machine_keep.specs.Calls.{TellsIn, TellsSomeIn, record_calls}
use Rattle.machine_keep.specs.Kept.{StandsExcept, StandsFor}
use Rattle.host_journal.proofs.CallLemmas.{on_err}
use Rattle.machine_keep.proofs.KeepLemmas.{taken_in}
use Rattle.machine_keep.proofs.keep.Keep.put.Goals as goal

pub invariant_of-self-2 : goal.invariant_of-self-2
invariant_of-self-2 g c =
    let none : c.append.new.unsure ≡ None = c.in_ok-step.ensures.sure in (
      λ _. none,
      (
        subst (λ u. IfSome u (λ step. g.M.Machine.follows (g.M.Machine.state c.take.new.self) step × g.M.Machine.has_room c.take.new.self step)) (sym none) tt,
        λ p. subst (λ u. StandsExcept g.M.Machine.stands_for g.M.Machine.record_of (g.M.Machine.state c.take.new.self) c.append.new.journal.pending (stored g.D.Disk.seen c.append.new.journal) u) (sym none)
            (taken_in g.M.Machine.stands_for g.M.Machine.record_of g.M.Machine.follows g.M.Machine.after g.met.M.Machine.stands_more (g.M.Machine.state c.self.inside.machine) (g.M.Machine.state c.take.new.self) c.args.step c.in_ok-step.step c.args.bytes.now
            (stored g.D.Disk.seen c.self.inside.journal) (stored g.D.Disk.seen c.append.new.journal) c.in_ok-step.ensures.step c.requires.bytes c.take.ensures (c.in_ok-step.ensures.appended p)
            (subst (λ k. g.M.Machine.follows (g.M.Machine.state k.machine) c.args.step) (sym c.self.view_is) c.requires.follows)
            (subst (λ k. StandsFor g.M.Machine.stands_for (g.M.Machine.state k.machine) (stored g.D.Disk.seen k.journal)) (sym c.self.view_is) (c.known.ensures.stands p c.requires.ready))),
      ),
    )

pub returns-in_err-step-clause-told_first : goal.returns-in_err-step-clause-told_first
returns-in_err-step-clause-told_first g c =
    let at = c.self.inside.journal in
    on_err _ c.from_residual.result (subst (λ k. TellsSomeIn g.D.Disk.told g.D.Disk.disk_faults g.D.Disk.calls_advance k.journal c.append.new.journal (record_calls k.journal (Some (g.M.Machine.record_of c.args.step)))) c.self.view_is
    (subst (λ b. TellsSomeIn g.D.Disk.told g.D.Disk.disk_faults g.D.Disk.calls_advance at c.append.new.journal (record_calls at (Some b))) c.requires.bytes c.in_err-step.ensures.told_first))

pub returns-clause-told : goal.returns-clause-told
returns-clause-told g c =
    let at = c.self.inside.journal in
    subst (λ k. TellsIn g.D.Disk.told k.journal c.append.new.journal (record_calls k.journal (Some (g.M.Machine.record_of c.args.step)))) c.self.view_is
    (subst (λ b. TellsIn g.D.Disk.told at c.append.new.journal (record_calls at (Some b))) c.requires.bytes c.in_ok-step.ensures.told)
