use Rattle.std.proofs.Common.{◌∙◌, ap, option_and_then, sym}
use Rattle.std.proofs.lemmas.Result.{IfOk-weaker}
use Rattle.host_model.specs.Merging.{merge_run}
use Rattle.host_turns.proofs.RowLemmas.{may_merge}
use Rattle.host_turns.proofs.wishes.merge_at.Goals as goal

pub merge_run-requires : goal.merge_run-requires
merge_run-requires c = may_merge c.args.config.now.number c.args.draft.now.draft.book c.requires.book.lawful c.args.key c.in-Some.row.now (sym c.in-Some.ensures.row)

pub returns-in-Some : goal.returns-in-Some
returns-in-Some c =
    let book = c.args.draft.now.draft.book in
    IfOk-weaker c.merge_run.result _ _ (λ wish is. is ∙ (ap (λ m. merge_run c.args.config.now m book c.in-Some.row.now) c.moment.ensures.value ∙ ap (option_and_then (merge_run c.args.config.now book.moment book)) c.in-Some.ensures.row)) (c.merge_run.ensures book)
