use Rattle.std.proofs.Common.{◌≡◌, ◌*◌, ◌∙◌, ap, string_bytes}
use Rattle.std.specs.List.{fold}
use Rattle.result_table.specs.Report.{PageState, listed}
use Rattle.result_table.proofs.ReportLemmas.{page_with, listing_is}
use Rattle.result_table.proofs.listing.listing.Goals as goal

pub returns-clause-text : goal.returns-clause-text
returns-clause-text g c table has sound =
    let went : c.from_string.result ≡ (fold listed (page_with (c.from.result * 50) 50 (string_bytes c.new.result)) table).text =
    c.from_string.ensures ∙ ap (λ (s : PageState). s.text) (c.lines.view_is ∙ c.in_ok-visit_table.ensures.visited table has sound) in
    went ∙ rw (c.from.ensures, c.new.ensures.bytes) (listing_is c.args.page table)
