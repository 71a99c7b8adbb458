use Rattle.std.specs.Prelude.{codes}
use Rattle.std.proofs.Common.{◌+◌, ◌++◌, ◌∙◌, List, sym}
use Rattle.std.proofs.lemmas.Result.{on_ok_weaker}
use Rattle.world_law.specs.World.{Message}
use Rattle.rehearsal_report.specs.Line.{changes_text}
use Rattle.rehearsal_model.specs.Moves.{sent_at}
use Rattle.rehearsal_model.specs.Rehearsal.{messages_told}
use Rattle.rehearsal_model.specs.Simulations.{Simulation, as_read, count_sent}
use Rattle.rehearsal_model.specs.Telling.{disk_fault, turn_said}
use Rattle.rehearsal_lines.proofs.ResultLemmas.{reported}
use Rattle.rehearsal_lines.proofs.TellLemmas.{told_as}
use Rattle.psched_rehearse.proofs.TurnLemmas.{after_turn, crash_told, fault_told, longer, turn_told}
use Rattle.psched_rehearse.proofs.line.take_turn.Goals as goal

pub add_messages-requires-clause-before : goal.add_messages-requires-clause-before
add_messages-requires-clause-before c =
    let hosts = c.args.hosts.now in
    let b : Simulation = c.args.now.now in
    let said = sym c.in_ok-reply.ensures.outcome ∙ c.in-Answered.is in
    longer hosts b c.args.place c.args.clock c.in-Answered.reply said c.turn.new.now (c.in_ok-reply.ensures.simulation hosts)
    c.messages.result.now c.messages.ensures c.messages-before.result.now c.messages-before.ensures

-- what was sent is told behind what changed
pub returns-in_ok-begun-in-Answered-clause-report : goal.returns-in_ok-begun-in-Answered-clause-report
returns-in_ok-begun-in-Answered-clause-report c =
    let hosts = c.args.hosts.now in
    let b : Simulation = c.args.now.now in
    let place = c.args.place in
    let clock = c.args.clock in
    let reply = c.in-Answered.reply in
    let said = sym c.in_ok-reply.ensures.outcome ∙ c.in-Answered.is in
    let sent : List Message = sent_at (as_read b) place clock in
    let before : List Message = c.messages-before.result.now in
    let after : List Message = c.messages.result.now in
    reported c.add_messages.result c.add_messages.new.report c.args.report.now c.args.line (changes_text reply ++ messages_told hosts (count_sent b + 1) sent) (turn_said hosts b place clock)
    (turn_told hosts b place clock reply said)
    (on_ok_weaker c.add_messages.result
    (told_as hosts b c.args.line c.count_broken-broken.result c.args.report.now (changes_text reply) c.begin_turn-begun.new.report c.add_messages.new.report before after sent c.messages-before.ensures c.count_broken-broken.ensures.count
    (after_turn hosts b place clock reply said c.turn.new.now (c.in_ok-reply.ensures.simulation hosts) after c.messages.ensures) c.in_ok-begun-in-Answered.ensures)
    c.add_messages.ensures)

pub returns-in-Faulted-clause-report : goal.returns-in-Faulted-clause-report
returns-in-Faulted-clause-report c =
    let hosts = c.args.hosts.now in
    let b : Simulation = c.args.now.now in
    reported c.add_said.result c.add_said.new.report c.args.report.now c.args.line disk_fault (turn_said hosts b c.args.place c.args.clock)
    (fault_told hosts b c.args.place c.args.clock (sym c.in_ok-reply.ensures.outcome ∙ c.in-Faulted.is)) c.add_said.ensures

pub returns-in-Crashed-clause-report : goal.returns-in-Crashed-clause-report
returns-in-Crashed-clause-report c =
    let hosts = c.args.hosts.now in
    let b : Simulation = c.args.now.now in
    reported c.add_said-in-Crashed.result c.add_said-in-Crashed.new.report c.args.report.now c.args.line (codes "crashed") (turn_said hosts b c.args.place c.args.clock)
    (crash_told hosts b c.args.place c.args.clock (sym c.in_ok-reply.ensures.outcome ∙ c.in-Crashed.is)) c.add_said-in-Crashed.ensures
