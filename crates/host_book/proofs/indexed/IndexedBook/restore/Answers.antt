use Rattle.std.proofs.Common.{sym, subst}
use Rattle.host_model.specs.Book.{Book}
use Rattle.host_model.specs.Lawful.{Lawful}
use Rattle.host_book.proofs.MomentLemmas.{book_moments}
use Rattle.host_book.proofs.RestoreLemmas.{pairs_up}
use Rattle.host_book.proofs.indexed.IndexedBook.restore.Goals as goal

-- the pairs of a lawful book ascend, and its rows have their moments in bounds
pub restore-requires : goal.restore-requires
restore-requires c =
    let b : Book = record { moment = c.parts.inside.moment; epochs = c.parts.inside.epochs; pairs = c.parts.inside.pairs; tasks = c.parts.inside.tasks; rows = c.parts.inside.rows } in
    pairs_up c.args.number b (subst (Lawful c.args.number) (sym c.parts.view_is) c.requires.lawful)

pub restore-requires-2-clause-moments : goal.restore-requires-2-clause-moments
restore-requires-2-clause-moments c =
    let b : Book = record { moment = c.parts.inside.moment; epochs = c.parts.inside.epochs; pairs = c.parts.inside.pairs; tasks = c.parts.inside.tasks; rows = c.parts.inside.rows } in
    book_moments c.args.number b (subst (Lawful c.args.number) (sym c.parts.view_is) c.requires.lawful)
