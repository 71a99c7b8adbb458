use Rattle.std.proofs.Common.{All, sym, subst}
use Rattle.std.proofs.lemmas.List.Elements.{All-weaker}
use Rattle.book_check.specs.Known.{IsReadTask}
use Rattle.host_model.specs.Lawful.{IsLawfulTask}
use Rattle.replay_check.proofs.goes_on.fits_tried.Goals as goal

pub tries-requires : goal.tries-requires
tries-requires c =
    let b = c.args.book.now.book in
    c.archives_of.ensures.policies (subst (All IsReadTask) (sym c.tasks.ensures) (All-weaker (IsLawfulTask b.moment) IsReadTask (λ t lawful. lawful.task) b.tasks c.rows.ensures.lawful.tasks))
