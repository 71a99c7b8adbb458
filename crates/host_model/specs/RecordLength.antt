-- How many bytes a record of changes takes: numbers by their widths, a text and a list with 4 bytes for their lengths, an
-- option and a variant with 1 byte before their values, tests and tasks as compact JSON.
use Rattle.std.specs.Prelude.{◌+◌, List, None, Option, Some, length, map, sum, ℕ}
use Rattle.serde_json.specs.Written.{compact_text}
use Rattle.ps_time.specs.Span.{Range}
use Rattle.ps_time.specs.declared.asker.Asker.{Asker}
use Rattle.ps_time.specs.declared.asker.Verdict.{Verdict}
use Rattle.ps_time.specs.declared.asker.Verdict.TheVariants.{Permitted, Stopped, Exhausted, AboveCeiling}
use Rattle.plugin_core.specs.WriteTest.{test_data}
use Rattle.plugin_core.specs.declared.test_spec.TestSpec.{TestSpec}
use Rattle.archive_retry.specs.declared.state.ArchiveState.{ArchiveState}
use Rattle.run_states.specs.declared.answer.FreeAnswer.{FreeAnswer}
use Rattle.run_states.specs.declared.proposal.Proposal.{Proposal}
use Rattle.run_states.specs.declared.why.Cause.{Cause}
use Rattle.run_states.specs.declared.why.Cause.TheVariants.{NoSlot, NoTool as no_tool, Denied, Silent, HoldEnded}
use Rattle.run_states.specs.declared.why.Denial.{Denial}
use Rattle.run_states.specs.declared.why.Denial.TheVariants.{Limits, Past, Conflict, Full, Differs, Closed as closed_there, NotParticipant, NoTool}
use Rattle.run_states.specs.declared.why.Why.{Why}
use Rattle.run_states.specs.declared.why.Why.TheVariants.{Missed, Preempted, Nonstart, Canceled}
use Rattle.task_spec.specs.WriteTask.{task_data}
use Rattle.task_spec.specs.declared.task.Task.{Task}
use Rattle.host_model.specs.declared.change.Change.{Change}
use Rattle.host_model.specs.declared.change.Change.TheVariants.{Posted, TaskClosed, Accepted, Asked, Planned, Confirmed, Closed, Started, Ended, FreeHeard, AcceptHeard, Told as told_there, MaterialHeard, ResultHeard, Merged, Tried, LimitsSet, Purged}
use Rattle.host_model.specs.declared.task_row.TaskRow.{TaskRow}

-- a text with its length
abbrev pub text_bytes : List ℕ → ℕ
text_bytes text = 4 + length text

-- an option: whether it is there, and its value
abbrev pub option_bytes : {A : Type 0} → (A → ℕ) → Option A → ℕ
option_bytes size None = 1
option_bytes size (Some a) = 1 + size a

-- a list: its count, and its items
abbrev pub list_bytes : {A : Type 0} → (A → ℕ) → List A → ℕ
list_bytes size xs = 4 + sum (map size xs)

-- lead 2, task 4, number 4, attempt 2
abbrev pub key_bytes : ℕ
key_bytes = 12

-- a moment has 8 bytes
abbrev pub moment_bytes : ℕ
moment_bytes = 8

-- who asks
abbrev pub asker_bytes : Asker → ℕ
asker_bytes a = text_bytes a.requester + text_bytes a.server

-- a test, as JSON
abbrev pub test_bytes : TestSpec → ℕ
test_bytes test = text_bytes (compact_text (test_data test))

-- a task, as JSON
abbrev pub task_bytes : Task → ℕ
task_bytes task = text_bytes (compact_text (task_data task))

-- a priority has 2 bytes
abbrev pub proposal_bytes : Proposal → ℕ
proposal_bytes p = key_bytes + test_bytes p.test + text_bytes p.tool + moment_bytes + 2 + asker_bytes p.asker

-- ---- why a run was closed
-- a verdict by its number, with an index of 4 bytes or a ceiling of 2
abbrev pub verdict_bytes : Verdict → ℕ
verdict_bytes (Permitted index) = 5
verdict_bytes (Stopped index) = 5
verdict_bytes Exhausted = 1
verdict_bytes (AboveCeiling ceiling) = 3

-- a denial by its number
abbrev pub denial_bytes : Denial → ℕ
denial_bytes (Limits verdict) = 1 + verdict_bytes verdict
denial_bytes (Past m start) = 1 + moment_bytes + moment_bytes
denial_bytes (Conflict k) = 1 + key_bytes
denial_bytes (Full what count) = 1 + 1 + 8
denial_bytes (Differs kept sent) = 1 + proposal_bytes kept + proposal_bytes sent
denial_bytes (closed_there state) = 1 + 1
denial_bytes NotParticipant = 1
denial_bytes (NoTool tool) = 1 + text_bytes tool

-- a cause by its number
abbrev pub cause_bytes : Cause → ℕ
cause_bytes NoSlot = 1
cause_bytes no_tool = 1
cause_bytes (Denied host denial) = 1 + text_bytes host + denial_bytes denial
cause_bytes Silent = 1
cause_bytes HoldEnded = 1

-- a reason by its number
abbrev pub why_bytes : Why → ℕ
why_bytes Missed = 1
why_bytes (Preempted k) = 1 + key_bytes
why_bytes (Nonstart cause) = 1 + cause_bytes cause
why_bytes Canceled = 1

-- ---- changes
-- the two ends of a window
abbrev pub window_bytes : Range → ℕ
window_bytes w = moment_bytes + moment_bytes

-- a free answer
abbrev pub answer_bytes : FreeAnswer → ℕ
answer_bytes a = list_bytes text_bytes a.tools + list_bytes window_bytes a.tiers.first + list_bytes window_bytes a.tiers.second

-- a count of 4 bytes, the next moment, and whether it is done
abbrev pub state_bytes : ArchiveState → ℕ
state_bytes s = 4 + option_bytes (λ m. moment_bytes) s.next + 1

-- a task's row
abbrev pub task_row_bytes : TaskRow → ℕ
task_row_bytes t = 4 + task_bytes t.task + asker_bytes t.asker + moment_bytes + option_bytes (λ m. moment_bytes) t.closed

-- what follows the tag; a serial and an epoch have 4 bytes, a place and an index have 1
abbrev pub fields_bytes : Change → ℕ
fields_bytes (Posted t) = task_row_bytes t
fields_bytes (TaskClosed serial) = 4
fields_bytes (Accepted p participants epoch) = proposal_bytes p + list_bytes text_bytes participants + 4
fields_bytes (Asked q participants asker) = key_bytes + test_bytes q.test + 2 + list_bytes text_bytes participants + asker_bytes asker + window_bytes q.window
fields_bytes (Planned k start tool epoch) = key_bytes + moment_bytes + text_bytes tool + 4
fields_bytes (Confirmed k) = key_bytes
fields_bytes (Closed k why) = key_bytes + why_bytes why
fields_bytes (Started k) = key_bytes
fields_bytes (Ended k good body) = key_bytes + 1 + text_bytes body
fields_bytes (FreeHeard k place answer) = key_bytes + 1 + answer_bytes answer
fields_bytes (AcceptHeard k place) = key_bytes + 1
fields_bytes (told_there k place told) = key_bytes + 1 + 1
fields_bytes (MaterialHeard k) = key_bytes
fields_bytes (ResultHeard k place result) = key_bytes + 1 + option_bytes text_bytes result
fields_bytes (Merged k body) = key_bytes + text_bytes body
fields_bytes (Tried k index state) = key_bytes + 1 + state_bytes state
fields_bytes (LimitsSet l) = text_bytes l.text
fields_bytes (Purged k) = key_bytes

-- a change: its tag, and what follows
abbrev pub change_bytes : Change → ℕ
change_bytes c = 1 + fields_bytes c

-- a record has its moment, and the list of its changes
abbrev pub record_bytes : List Change → ℕ
record_bytes cs = moment_bytes + list_bytes change_bytes cs
