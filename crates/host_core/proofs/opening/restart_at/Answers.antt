use Rattle.std.specs.Option.{option_copied}
use Rattle.std.specs.Prelude.{IfOk, option_and_then}
use Rattle.std.proofs.Common.{◌≡◌, ◌∙◌, Option, Some, ap, subst, sym}
use Rattle.run_states.specs.Rows.{find_row}
use Rattle.host_model.specs.Book.{Book}
use Rattle.host_model.specs.Ending.{restart_run}
use Rattle.host_model.specs.declared.change.Change.{Change}
use Rattle.host_inputs.specs.Kept.{book_of}
use Rattle.host_core.proofs.OpeningLemmas.{row_may_end}
use Rattle.host_core.proofs.opening.restart_at.Goals as goal

-- a row of a lawful book may end
pub restart_run-requires : goal.restart_run-requires
restart_run-requires g c =
    let b : Book = book_of (g.R.Reading.at c.args.book.now) (g.R.Reading.seen c.args.book.now) (g.R.Hosting.kept c.args.book.now) in
    let found : find_row b.rows c.args.key ≡ Some c.in-Some.row.now = sym c.find.ensures.row ∙ ap option_copied c.in-Some.is in
    record { may = row_may_end c.args.config.now.number b c.args.key c.in-Some.row.now c.requires found }

pub returns-in-Some : goal.returns-in-Some
returns-in-Some g c =
    let b : Book = book_of (g.R.Reading.at c.args.book.now) (g.R.Reading.seen c.args.book.now) (g.R.Hosting.kept c.args.book.now) in
    let found : find_row b.rows c.args.key ≡ Some c.in-Some.row.now = sym c.find.ensures.row ∙ ap option_copied c.in-Some.is in
    let here : restart_run c.args.config.now b c.in-Some.row.now ≡ option_and_then (restart_run c.args.config.now b) (find_row b.rows c.args.key) = ap (option_and_then (restart_run c.args.config.now b)) (sym found) in
    subst (λ (o : Option Change). IfOk c.restart_run.result (λ change. change ≡ o)) here (c.restart_run.ensures b)
