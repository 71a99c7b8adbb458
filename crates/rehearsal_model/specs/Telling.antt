-- The report: what is told of each line, and of the hosts in the end.
use Rattle.std.specs.Fmt.{decimal}
use Rattle.std.specs.Prelude.{◌+◌, ◌++◌, ◌∷◌, List, None, Ok, Err, Option, Result, Some, [], codes, flat_map, if◌then◌else◌, ℕ}
use Rattle.api_reply.specs.Replies.{reply_status, response_of}
use Rattle.host_model.specs.declared.input.Input.{Input}
use Rattle.host_model.specs.declared.input.Input.TheVariants as input
use Rattle.host_model.specs.declared.lead.Due.{Due}
use Rattle.host_model.specs.declared.reply.Reply.{Reply}
use Rattle.host_model.specs.declared.view.Page.TheVariants as page
use Rattle.ps_http.specs.declared.message.Response.{Response}
use Rattle.world_law.specs.Events.{brings}
use Rattle.world_law.specs.World.{Message}
use Rattle.rehearsal_script.specs.declared.script.Numbered.{Numbered}
use Rattle.rehearsal_script.specs.declared.script.Script.{Script}
use Rattle.rehearsal_script.specs.declared.script.ScriptHost.{ScriptHost}
use Rattle.rehearsal_script.specs.declared.script.ScriptLine.{ScriptLine}
use Rattle.rehearsal_script.specs.declared.script.ScriptLine.TheVariants as line
use Rattle.rehearsal_report.specs.Line.{archive_text, booking_text, changes_text, limits_text, line_text, response_text, sent_text}
use Rattle.rehearsal_model.specs.Hosts.{name_numbered}
use Rattle.rehearsal_model.specs.Moves.{Outcomes, attempt, receiver, replied, sent_at, tried_as}
use Rattle.rehearsal_model.specs.Rehearsal.{messages_told, stage_table}
use Rattle.rehearsal_model.specs.Requests.{delete, get, post}
use Rattle.rehearsal_model.specs.Simulations.{Simulation, as_read, book_of, outcome_at, config_of, count_sent, first_simulation, flies, has_come, is_broken, last_simulation, message_position, looks, simulation_line, simulation_looked, held_at}
use Rattle.rehearsal_model.specs.Seen.{message}
use Rattle.rehearsal_model.specs.declared.outcome.StepOutcome.{StepOutcome}
use Rattle.rehearsal_model.specs.declared.outcome.StepOutcome.TheVariants as outcome

-- to somebody who asks, and of what a host does of itself
abbrev pub unavailable : List ℕ
unavailable = codes "503 {\"error\":\"disk\"}"

abbrev pub disk_fault : List ℕ
disk_fault = codes "disk fault"

-- what came of a step is told: that it stopped, that a call of a disk failed, or what it was answered
abbrev pub outcome_said : StepOutcome → List ℕ → (Reply → List ℕ) → List ℕ
outcome_said outcome.Crashed fault says = codes "crashed"
outcome_said outcome.Faulted fault says = fault
outcome_said (outcome.Answered reply) fault says = says reply

-- a request is answered by what its host replies, or refused as it is read
abbrev pub request_said : Simulation → ℕ → ℕ → Result Input Response → List ℕ
request_said b place clock (Ok i) = outcome_said (outcome_at b place clock i) unavailable (λ reply. response_text (response_of (config_of b place) reply))
request_said b place clock (Err response) = response_text response

abbrev pub turn_said : List ScriptHost → Simulation → ℕ → ℕ → List ℕ
turn_said hosts b place clock = outcome_said (outcome_at b place clock input.Turn) disk_fault (λ reply. changes_text reply ++ messages_told hosts (count_sent b + 1) (sent_at (as_read b) place clock))

-- an order that arrives is answered with a status, by a message; a reply is heard
abbrev pub brought_said : List ScriptHost → Simulation → ℕ → Message → Option Reply → List ℕ
brought_said hosts b clock l None =
    outcome_said (outcome_at b (receiver hosts l) clock (brings l None))
    (decimal 503 ++ sent_text (count_sent b + 1) (name_numbered hosts l.asked) (name_numbered hosts l.asker) (codes "reply"))
    (λ reply. decimal (reply_status reply) ++ messages_told hosts (count_sent b + 1) (replied hosts (as_read b) clock l None))
brought_said hosts b clock l (Some said) = outcome_said (outcome_at b (receiver hosts l) clock (brings l (Some said))) disk_fault (λ reply. codes "heard")

abbrev pub arrival_said : List ScriptHost → Simulation → ℕ → Option Message → List ℕ
arrival_said hosts b clock None = codes "not in flight"
arrival_said hosts b clock (Some l) = brought_said hosts b clock l l.reply

-- an answer that a fault took the place of is heard, and that is all
abbrev pub message_said : List ScriptHost → Simulation → ℕ → ℕ → List ℕ
message_said hosts b clock n = if is_broken b n then codes "heard" else arrival_said hosts b clock (message (as_read b) (message_position b n))

abbrev pub due_said : Outcomes → Simulation → ℕ → ℕ → Option Due → List ℕ
due_said comes b place clock None = codes "nothing due"
due_said comes b place clock (Some d) = outcome_said (outcome_at b place clock (tried_as d (comes d.archiver d.settings d.tried))) disk_fault archive_text

abbrev pub tried_said : Outcomes → Simulation → ℕ → ℕ → List ℕ
tried_said comes b place clock = due_said comes b place clock (attempt (book_of b place) clock)

-- Before an archive is tried behind a fault the host finds out what stands; where that crashes or meets a fault, that is told.
abbrev pub archive_said : Outcomes → List ScriptHost → Simulation → ℕ → ℕ → List ℕ
archive_said comes hosts b place clock =
    if (held_at b place).ready then tried_said comes b place clock
    else (if looks b place clock then tried_said comes (simulation_looked hosts b place clock) place clock
    else outcome_said (outcome_at b place clock (input.View page.Home)) disk_fault (λ reply. []))

abbrev pub line_said : Outcomes → List ScriptHost → Simulation → ScriptLine → List ℕ
line_said comes hosts b (line.Host place) = codes "ok"
line_said comes hosts b (line.Tools host tools) = codes "ok"
line_said comes hosts b (line.Limits host limits) = outcome_said (outcome_at b host b.last (input.Limits limits)) unavailable limits_text
line_said comes hosts b (line.Book at host class priority start len) = outcome_said (outcome_at b host at (input.Book class priority start len)) unavailable booking_text
line_said comes hosts b (line.Post at host address body) = request_said b host at (post (config_of b host) address body at)
line_said comes hosts b (line.Get at host path) = request_said b host at (get (config_of b host) path at)
line_said comes hosts b (line.Delete at host address path) = request_said b host at (delete (config_of b host) address path at)
line_said comes hosts b (line.Turn at host) = turn_said hosts b host at
line_said comes hosts b (line.Archive at host) = archive_said comes hosts b host at
line_said comes hosts b (line.Crash at host stop) = codes "armed"
line_said comes hosts b (line.Fail at host call) = codes "armed"
line_said comes hosts b (line.Deliver at n) = if flies b n then message_said hosts b at n else codes "not in flight"
line_said comes hosts b (line.Repeat at n) = if has_come b n then message_said hosts b at n else codes "not in flight"
line_said comes hosts b (line.Lose n) = if flies b n then codes "lost" else codes "not in flight"

-- ---- the report
abbrev pub lines_said : Outcomes → List ScriptHost → Simulation → List Numbered → List ℕ
lines_said comes hosts b [] = []
lines_said comes hosts b (l ∷ ls) = line_text l.number (line_said comes hosts b l.line) ++ lines_said comes hosts (simulation_line comes hosts b l.line) ls

-- the runs of each host, as its disks read, at the greatest moment
abbrev pub tables_said : Simulation → List ℕ
tables_said b = flat_map (λ h. stage_table b.last h.state) b.held_hosts

-- the lines' reports, then a table for each host, in the order of their declaration
abbrev pub report_of : Outcomes → Script → List ℕ
report_of comes script = lines_said comes script.hosts (first_simulation script.hosts) script.lines ++ tables_said (last_simulation comes script)
