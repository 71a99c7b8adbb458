use Rattle.std.proofs.Common.{◌∙◌, ap, option_and_then, sym}
use Rattle.std.proofs.lemmas.Result.{IfOk-weaker}
use Rattle.host_model.specs.Ending.{end_run}
use Rattle.host_turns.proofs.RowLemmas.{may_end}
use Rattle.host_turns.proofs.wishes.end_at.Goals as goal

pub end_run-requires-clause-may : goal.end_run-requires-clause-may
end_run-requires-clause-may c = may_end c.args.config.now.number c.args.draft.now.draft.book c.requires.book.lawful c.args.key c.in-Some.row.now (sym c.in-Some.ensures.row)

pub returns-in-Some : goal.returns-in-Some
returns-in-Some c =
    let book = c.args.draft.now.draft.book in
    IfOk-weaker c.end_run.result _ _ (λ wish is. is ∙ (ap (λ m. end_run c.args.config.now m book c.in-Some.row.now) c.moment.ensures.value ∙ ap (option_and_then (end_run c.args.config.now book.moment book)) c.in-Some.ensures.row)) (c.end_run.ensures book)
