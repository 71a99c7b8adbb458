use Rattle.std.specs.List.{filter_map}
use Rattle.std.proofs.Common.{◌∙◌, ◌++◌, ◌∷◌, [], cond, ap}
use Rattle.host_model.specs.Book.{Book, keys_of_rows}
use Rattle.host_model.specs.declared.change.Change.TheVariants.{LimitsSet}
use Rattle.host_inputs.specs.Kept.{book_of}
use Rattle.host_core.specs.Restarts.{restart_at}
use Rattle.host_core.proofs.OpeningLemmas.{opened_are}
use Rattle.host_core.proofs.opening.open_changes.Goals as goal

-- the limits, and the runs that the walk finds
pub returns : goal.returns
returns g c =
    let m = g.R.Reading.at c.args.book.now in
    let config = c.args.config.now in
    let b : Book = book_of m (g.R.Reading.seen c.args.book.now) (g.R.Hosting.kept c.args.book.now) in
    let ends = filter_map (restart_at config b) (keys_of_rows b.rows) in
    c.in_ok-add_restarts.ensures.list
    ∙ (ap (λ l. l ++ ends) (c.in_ok-list.ensures ∙ ap (λ new. cond new (LimitsSet config.limits ∷ []) []) c.requires.new)
    ∙ opened_are config m b c.add_restarts.ensures.ascending)
