-- What comes of a message that arrives, and what is told of it.
use Rattle.std.specs.Fmt.{decimal}
use Rattle.std.specs.Prelude.{◌+◌, ◌++◌, List, None, Option, Some, codes, ℕ}
use Rattle.api_reply.specs.Replies.{reply_status}
use Rattle.host_model.specs.declared.reply.Reply.{Reply}
use Rattle.world_law.specs.Events.{brings}
use Rattle.world_law.specs.World.{Message}
use Rattle.rehearsal_script.specs.declared.script.ScriptHost.{ScriptHost}
use Rattle.rehearsal_report.specs.Line.{sent_text}
use Rattle.rehearsal_model.specs.Hosts.{name_numbered}
use Rattle.rehearsal_model.specs.Moves.{receiver, replies}
use Rattle.rehearsal_model.specs.Rehearsal.{messages_told}
use Rattle.rehearsal_model.specs.Simulations.{Simulation, as_read, outcome_at, count_sent}
use Rattle.rehearsal_model.specs.Telling.{disk_fault}
use Rattle.rehearsal_model.specs.declared.outcome.StepOutcome.{StepOutcome}
use Rattle.rehearsal_model.specs.declared.outcome.StepOutcome.TheVariants as outcome
use Rattle.rehearsal_lines.specs.declared.arrive.Arrival.{Arrival}
use Rattle.rehearsal_lines.specs.declared.arrive.Arrival.TheVariants as arrival

-- by what came of its step
abbrev pub arrived_by : StepOutcome → Message → Option Reply → Arrival
arrived_by outcome.Crashed l told = arrival.Crashed
arrived_by outcome.Faulted l None = arrival.Unanswered l.asker l.asked
arrived_by outcome.Faulted l (Some told) = arrival.Faulted
arrived_by (outcome.Answered reply) l None = arrival.Replied (reply_status reply)
arrived_by (outcome.Answered reply) l (Some told) = arrival.Heard

abbrev pub arrival_of : List ScriptHost → Simulation → ℕ → Option Message → Arrival
arrival_of hosts b clock None = arrival.Missing
arrival_of hosts b clock (Some l) = arrived_by (outcome_at b (receiver hosts l) clock (brings l l.reply)) l l.reply

abbrev pub arrival_told : List ScriptHost → Simulation → ℕ → Option Message → Arrival → List ℕ
arrival_told hosts b clock m arrival.Missing = codes "not in flight"
arrival_told hosts b clock m arrival.Crashed = codes "crashed"
arrival_told hosts b clock m (arrival.Unanswered asker asked) = decimal 503 ++ sent_text (count_sent b + 1) (name_numbered hosts asked) (name_numbered hosts asker) (codes "reply")
arrival_told hosts b clock m arrival.Faulted = disk_fault
arrival_told hosts b clock m (arrival.Replied status) = decimal status ++ messages_told hosts (count_sent b + 1) (replies hosts (as_read b) clock m)
arrival_told hosts b clock m arrival.Heard = codes "heard"
