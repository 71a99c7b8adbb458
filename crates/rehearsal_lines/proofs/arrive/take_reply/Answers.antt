use Rattle.std.proofs.Common.{◌∙◌, sym}
use Rattle.rehearsal_model.specs.Simulations.{Simulation}
use Rattle.rehearsal_lines.proofs.ArriveLemmas.{left_crashed, left_faulted, left_heard}
use Rattle.rehearsal_lines.proofs.arrive.take_reply.Goals as goal

pub returns-in-Crashed-clause-simulation : goal.returns-in-Crashed-clause-simulation
returns-in-Crashed-clause-simulation c =
    let b : Simulation = c.args.now.now in
    let l = c.message_at-message.result.now in
    let sent = c.message_at-message.ensures in
    left_crashed c.args.hosts.now b c.args.position c.args.clock l sent c.bring.new.now (c.in_ok-bring.ensures.simulation l sent) (sym (c.in_ok-bring.ensures.outcome l sent) ∙ c.in-Crashed.is)

pub returns-in-Faulted-clause-simulation : goal.returns-in-Faulted-clause-simulation
returns-in-Faulted-clause-simulation c =
    let b : Simulation = c.args.now.now in
    let l = c.message_at-message.result.now in
    let sent = c.message_at-message.ensures in
    let told = c.requires.reply l sent in
    left_faulted c.args.hosts.now b c.args.position c.args.clock l sent c.bring.new.now (c.in_ok-bring.ensures.simulation l sent) told.0 told.1 (sym (c.in_ok-bring.ensures.outcome l sent) ∙ c.in-Faulted.is)

pub returns-in-Answered-clause-simulation : goal.returns-in-Answered-clause-simulation
returns-in-Answered-clause-simulation c =
    let b : Simulation = c.args.now.now in
    let l = c.message_at-message.result.now in
    let sent = c.message_at-message.ensures in
    let told = c.requires.reply l sent in
    left_heard c.args.hosts.now b c.args.position c.args.clock l sent c.bring.new.now (c.in_ok-bring.ensures.simulation l sent) told.0 told.1 c.in-Answered.reply (sym (c.in_ok-bring.ensures.outcome l sent) ∙ c.in-Answered.is)
