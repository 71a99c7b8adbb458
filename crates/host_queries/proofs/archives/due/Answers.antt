use Rattle.std.specs.Prelude.{All, IfOk, max}
use Rattle.std.proofs.Common.{◌≡◌, ◌∙◌, ap, subst, sym}
use Rattle.host_queries.specs.DueKeys.{HasFewArchives}
use Rattle.host_queries.proofs.DueLemmas.{book_few, named_due}
use Rattle.host_queries.proofs.archives.due.Goals as goal

pub due_of_keys-requires : goal.due_of_keys-requires
due_of_keys-requires c = subst (All HasFewArchives) (sym c.rows.ensures.list) (book_few c.args.book.now.number c.args.book.now.book c.rows.ensures.lawful)

pub returns : goal.returns
returns c =
    let at = c.max-moment.ensures ∙ ap (λ n. max n c.args.clock) c.moment.ensures.value in
    let same = named_due c.args.book.now.number c.args.book.now.book c.rows.ensures.lawful c.args.clock c.max-moment.result c.live.result c.rows.result.now.list at c.live.ensures c.rows.ensures.list in
    subst (λ wanted. IfOk c.due_of_keys.result (λ list. list ≡ wanted)) same c.due_of_keys.ensures
