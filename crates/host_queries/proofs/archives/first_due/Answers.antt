use Rattle.std.specs.Prelude.{All, max, slice_get}
use Rattle.std.proofs.Common.{◌∙◌, ap, subst, sym}
use Rattle.host_queries.specs.DueKeys.{HasFewArchives}
use Rattle.host_queries.proofs.DueLemmas.{book_few, named_due}
use Rattle.host_queries.proofs.archives.first_due.Goals as goal

pub first_of_keys-requires : goal.first_of_keys-requires
first_of_keys-requires c = subst (All HasFewArchives) (sym c.rows.ensures.list) (book_few c.args.book.now.number c.args.book.now.book c.rows.ensures.lawful)

pub returns : goal.returns
returns c =
    let at = c.max-moment.ensures ∙ ap (λ n. max n c.args.clock) c.moment.ensures.value in
    let same = named_due c.args.book.now.number c.args.book.now.book c.rows.ensures.lawful c.args.clock c.max-moment.result c.live.result c.rows.result.now.list at c.live.ensures c.rows.ensures.list in
    c.first_of_keys.ensures ∙ ap (λ list. slice_get list 0) same
