use Rattle.std.proofs.Common.{◌≡◌, ◌∙◌, ap, rules}
use Rattle.result_table.specs.Report.{tally_text}
use Rattle.result_table.proofs.ReportLemmas.{report_is}
use Rattle.result_table.proofs.report.report.Goals as goal

pub returns-clause-text : goal.returns-clause-text
returns-clause-text g c table has sound =
    let told : c.in_ok-text.field-0 ≡ tally_text c.visit_table.new.visitor = search rules in
    told ∙ (ap tally_text (c.in_ok-visit_table.ensures.visited table has sound) ∙ rw c.new-tally.ensures (report_is c.args.from c.args.to table))
