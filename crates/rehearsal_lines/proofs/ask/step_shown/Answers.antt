use Rattle.std.proofs.Common.{◌∙◌, subst, sym}
use Rattle.std.proofs.lemmas.Result.{IfOk-weaker}
use Rattle.api_reply.specs.Bounds.{IsReplyShown}
use Rattle.rehearsal_model.specs.Simulations.{book_of, config_of}
use Rattle.rehearsal_state.proofs.MoveLemmas.{said_so}
use Rattle.rehearsal_lines.proofs.ask.step_shown.Goals as goal

-- what a host replies to an input that it may be given can be shown
pub returns-clause-shown : goal.returns-clause-shown
returns-clause-shown c =
    let b = c.args.now.now in
    let place = c.args.place in
    let ready = c.requires.ready in
    IfOk-weaker c.step.result _ _
    (λ outcome is reply e.
    subst IsReplyShown (said_so b place c.args.clock c.args.input reply (sym is ∙ e))
    (c.law_reply.ensures (config_of b place) (book_of b place) c.args.clock c.args.input (record { config = ready.config; book = ready.book; moment = ready.in_time; bounds = c.requires.input })))
    c.step.ensures.outcome
