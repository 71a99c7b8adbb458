use Rattle.std.specs.Prelude.{All}
use Rattle.std.proofs.Common.{◌∙◌, ap, subst, sym}
use Rattle.host_model.specs.declared.config.Config.{Config}
use Rattle.host_model.specs.declared.input.Input.TheVariants.{Turn}
use Rattle.rehearsal_model.specs.Moves.{sent_by}
use Rattle.rehearsal_model.specs.Reaching.{IsScriptPeer}
use Rattle.rehearsal_model.specs.Simulations.{Simulation, as_read, config_of, held_at}
use Rattle.rehearsal_state.specs.Moved.{with_messages}
use Rattle.rehearsal_state.proofs.MoveLemmas.{config_then, turn_crashed, turn_faulted, turned}
use Rattle.rehearsal_state.proofs.turn.turn.Goals as goal

-- the turn leaves the configuration
pub send_orders-requires-clause-peers : goal.send_orders-requires-clause-peers
send_orders-requires-clause-peers c =
    subst (λ (x : Config). All IsScriptPeer x.peers)
    (config_then c.args.now.now c.args.place c.args.clock Turn c.in-Answered.reply (sym c.in_ok-reply.ensures.outcome ∙ c.in-Answered.is) c.requires.ready.there
    ∙ sym (ap (λ (x : Simulation). config_of x c.args.place) c.in_ok-reply.ensures.simulation))
    c.requires.peers

-- what the host sends is read off its book after the turn
pub returns-in-Ok-clause-simulation : goal.returns-in-Ok-clause-simulation
returns-in-Ok-clause-simulation c = λ hosts.
    c.in-Ok.ensures
    ∙ (ap (λ (x : Simulation). with_messages x (sent_by (as_read x) (held_at x c.args.place).state c.args.clock)) c.in_ok-reply.ensures.simulation
    ∙ turned hosts c.args.now.now c.args.place c.args.clock c.requires.ready.there c.in-Answered.reply (sym c.in_ok-reply.ensures.outcome ∙ c.in-Answered.is))

-- it sends nothing
pub returns-in-Crashed-clause-simulation : goal.returns-in-Crashed-clause-simulation
returns-in-Crashed-clause-simulation c = λ hosts.
    c.in_ok-reply.ensures.simulation ∙ turn_crashed hosts c.args.now.now c.args.place c.args.clock (sym c.in_ok-reply.ensures.outcome ∙ c.in-Crashed.is)

pub returns-in-Faulted-clause-simulation : goal.returns-in-Faulted-clause-simulation
returns-in-Faulted-clause-simulation c = λ hosts.
    c.in_ok-reply.ensures.simulation ∙ turn_faulted hosts c.args.now.now c.args.place c.args.clock (sym c.in_ok-reply.ensures.outcome ∙ c.in-Faulted.is)
