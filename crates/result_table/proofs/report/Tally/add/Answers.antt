use Rattle.std.proofs.Common.{◌/◌, refl, arith}
use Rattle.result_table.proofs.ReportLemmas.{days_kept}
use Rattle.result_table.proofs.report.Tally.add.Goals as goal

pub invariant_of-self-in_err-count-2 : goal.invariant_of-self-in_err-count-2
invariant_of-self-in_err-count-2 c =
    let kept = c.args.kept.now in
    days_kept c.count-2.result c.self.inside.days.entries c.count-2.new.lines.entries (kept.since / 86_400) kept.good c.count-2.ensures.ok c.count-2.ensures.err (omega (arith, c.requires.0)) c.self.invariant

pub invariant_of-self-2 : goal.invariant_of-self-2
invariant_of-self-2 c =
    let kept = c.args.kept.now in
    days_kept c.count-2.result c.self.inside.days.entries c.count-2.new.lines.entries (kept.since / 86_400) kept.good c.count-2.ensures.ok c.count-2.ensures.err (omega (arith, c.requires.0)) c.self.invariant

pub returns : goal.returns
returns c = rw (← c.self.view_is, c.in_ok-count.ensures.ok, c.in_ok-count-2.ensures.ok, c.with-self-inside.ensures) refl
