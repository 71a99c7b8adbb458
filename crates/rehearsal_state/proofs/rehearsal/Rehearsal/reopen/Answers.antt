use Rattle.std.proofs.Common.{◌∙◌, sym}
use Rattle.host_model.specs.declared.input.Input.TheVariants.{Open}
use Rattle.rehearsal_state.proofs.MoveLemmas.{act_done}
use Rattle.rehearsal_state.proofs.rehearsal.Rehearsal.reopen.Goals as goal

-- its step was answered
pub returns-in-Some : goal.returns-in-Some
returns-in-Some c = λ hosts.
    c.in_ok-reply.ensures.simulation ∙ act_done c.args.self.now c.args.place c.args.clock Open c.in-Some.reply (sym c.in_ok-reply.ensures.reply ∙ c.in-Some.is)
