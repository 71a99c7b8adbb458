use Rattle.std.proofs.Common.{◌≡◌, ◌∙◌, ◌++◌, ap, subst, sym}
use Rattle.std.specs.List.{filter_map}
use Rattle.ps_time.specs.Span.{Span}
use Rattle.host_model.specs.Book.{keys_of_rows}
use Rattle.host_model.specs.Views.{in_order, line_of}
use Rattle.host_pages.specs.Walks.{HaveKeysAscending, line_at}
use Rattle.host_pages.proofs.ShownLemmas.{lines_are, lines_up}
use Rattle.host_pages.proofs.schedule.schedule_lines.Goals as goal

-- the lines are those of the rows, whose keys ascend
pub sort-requires : goal.sort-requires
sort-requires g c =
    let rows = g.R.Reading.seen c.args.book.now in
    let m = g.R.Reading.at c.args.book.now in
    let w : Span = record { start = c.args.start; end = c.args.end } in
    let lines : c.add_lines.new.lines.items ≡ filter_map (λ r. line_of m w r r.interval) rows =
    c.in_ok-add_lines.ensures.list ∙ (ap (λ l. l ++ filter_map (line_at m w rows) (keys_of_rows rows)) c.new-lines.ensures.items ∙ lines_are m w rows c.add_lines.ensures.ascending) in
    subst HaveKeysAscending (sym lines) (lines_up m w rows c.add_lines.ensures.ascending)

pub returns : goal.returns
returns g c =
    let rows = g.R.Reading.seen c.args.book.now in
    let m = g.R.Reading.at c.args.book.now in
    let w : Span = record { start = c.args.start; end = c.args.end } in
    let lines : c.add_lines.new.lines.items ≡ filter_map (λ r. line_of m w r r.interval) rows =
    c.in_ok-add_lines.ensures.list ∙ (ap (λ l. l ++ filter_map (line_at m w rows) (keys_of_rows rows)) c.new-lines.ensures.items ∙ lines_are m w rows c.add_lines.ensures.ascending) in
    c.from_vec.ensures ∙ (c.in_ok-sort.ensures ∙ ap in_order lines)
