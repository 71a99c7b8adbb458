-- Single hosts, computed: proposals, free starts, a common start, a task from its posting to its start.
use Rattle.std.specs.Fmt.{digits}
use Rattle.std.specs.Prelude.{◌∷◌, ◌≡◌, List, None, Some, [], codes, false, pos, true, ℕ, ℤ}
use Rattle.std.proofs.Common.{refl}
use Rattle.json.specs.Print.{escape_byte}
use Rattle.ps_time.specs.Length.{length_text_of}
use Rattle.ps_time.specs.Span.{Range, span_of}
use Rattle.ps_time.specs.declared.asker.Asker.{Asker}
use Rattle.ps_time.specs.declared.class.Class.TheVariants.{Exclusive}
use Rattle.ps_time.specs.declared.key.RunKey.{RunKey}
use Rattle.schedule_rule.specs.Rule.{Schedule, first_from}
use Rattle.plugin_core.specs.declared.test_spec.TestSpec.{TestSpec}
use Rattle.plugin_core.specs.TestSpec.{sleep_of}
use Rattle.plugin_core.specs.declared.test_spec.TestSpec.TheVariants.{Idle, Idlemany}
use Rattle.limit_apply.specs.Open.{open_config}
use Rattle.run_states.specs.Life.{first_there}
use Rattle.run_states.specs.declared.proposal.Proposal.{Proposal}
use Rattle.run_states.specs.declared.proposal.Question.{Question}
use Rattle.run_states.specs.declared.row.RunRow.{RunRow}
use Rattle.run_states.specs.declared.why.Cause.TheVariants.{HoldEnded}
use Rattle.run_states.specs.declared.why.Denial.TheVariants.{Differs}
use Rattle.run_states.specs.declared.why.Why.TheVariants.{Nonstart}
use Rattle.slot_search.specs.CommonStart.{earliest}
use Rattle.task_spec.specs.declared.task.Task.{Task}
use Rattle.host_model.specs.Ending.{end_run}
use Rattle.host_model.specs.Book.{Book, empty_book}
use Rattle.host_model.specs.NewRow.{asked_row}
use Rattle.host_model.specs.Propose.{answered}
use Rattle.host_model.specs.Step.{step, step_book, step_changes, step_reply}
use Rattle.host_model.specs.declared.config.Config.{Config}
use Rattle.host_model.specs.declared.config.Peer.{Peer}
use Rattle.host_model.specs.declared.task_row.TaskRow.{TaskRow}
use Rattle.host_model.specs.declared.change.Change.TheVariants as change
use Rattle.host_model.specs.declared.input.Input.TheVariants as input
use Rattle.host_model.specs.declared.reply.Reply.TheVariants as reply

-- ---- hosts
abbrev pub all_tools : List (List ℕ)
all_tools = codes "sleep" ∷ codes "snooze" ∷ codes "sleepbgm" ∷ codes "simplestreamer" ∷ []

abbrev pub peer : ℕ → List ℕ → Peer
peer number name = record { number = number; name = name; authority = name; key = codes "script" }

abbrev pub host : ℕ → List ℕ → List Peer → Config
host number name peers = record { number = number; name = name; authority = name; peers = peers; installed = all_tools; limits = open_config }

abbrev pub host_a : Config
host_a = host 1 (codes "a") (peer 2 (codes "b") ∷ [])

abbrev pub host_b : Config
host_b = host 2 (codes "b") (peer 1 (codes "a") ∷ peer 3 (codes "c") ∷ [])

-- ---- a proposal at a participant
abbrev pub key : RunKey
key = record { lead = 1; task = 1; number = 0; attempt = 0 }

abbrev pub many : TestSpec
many = Idlemany (sleep_of 10) (codes "a" ∷ codes "b" ∷ [])

abbrev pub asker : Asker
asker = record { requester = codes "10.0.0.9"; server = codes "a" }

abbrev pub proposal_at : ℕ → Proposal
proposal_at start = record { key = key; test = many; tool = codes "sleep"; start = start; priority = pos 0; asker = asker }

proposed : step_reply host_b empty_book 1003 (input.Propose 1 (proposal_at 1007)) ≡ reply.Accepted 1003
proposed = refl

abbrev pub accepted_book : Book
accepted_book = step_book host_b empty_book 1003 (input.Propose 1 (proposal_at 1007))

proposed_again : step host_b accepted_book 1005 (input.Propose 1 (proposal_at 1007)) ≡ answered (reply.Accepted 1003)
proposed_again = refl

proposed_otherwise : step host_b accepted_book 1005 (input.Propose 1 (proposal_at 1008)) ≡ answered (reply.Denied (Differs (proposal_at 1007) (proposal_at 1008)))
proposed_otherwise = refl

proposed_by_another : step host_b accepted_book 1005 (input.Propose 3 (proposal_at 1007)) ≡ answered reply.NotLead
proposed_by_another = refl

abbrev pub confirmed_book : Book
confirmed_book = step_book host_b accepted_book 1006 (input.Confirm 1 key)

confirmed : step_reply host_b accepted_book 1006 (input.Confirm 1 key) ≡ reply.Confirmed 1006
confirmed = refl

confirmed_again : step host_b confirmed_book 1007 (input.Confirm 1 key) ≡ answered (reply.Confirmed 1006)
confirmed_again = refl

confirmed_too_late : step host_b accepted_book 1007 (input.Confirm 1 key) ≡ answered (reply.Closed (Nonstart HoldEnded))
confirmed_too_late = refl

-- ---- free starts
abbrev booked_book : Book
booked_book = step_book host_b empty_book 0 (input.Book Exclusive (pos 0) 1010 10)

abbrev question_of : ℤ → Question
question_of priority = record { key = key; test = many; priority = priority; window = record { first = 1000; last = 1030 } }

abbrev pub window : ℕ → ℕ → Range
window first last = record { first = first; last = last }

freeable : step_reply host_b booked_book 990 (input.Free 1 (question_of (pos 1)))
    ≡ reply.Free (record { tools = codes "sleep" ∷ []; tiers = record { first = window 1000 1000 ∷ window 1020 1030 ∷ []; second = window 1000 1030 ∷ [] } })
freeable = refl

not_freeable : step_reply host_b booked_book 990 (input.Free 1 (question_of (pos 0)))
    ≡ reply.Free (record { tools = codes "sleep" ∷ []; tiers = record { first = window 1000 1000 ∷ window 1020 1030 ∷ []; second = window 1000 1000 ∷ window 1020 1030 ∷ [] } })
not_freeable = refl

-- ---- a common start
in_first_tiers : earliest (window 0 100) (record { first = window 0 10 ∷ window 40 50 ∷ []; second = window 0 100 ∷ [] } ∷ record { first = window 20 30 ∷ window 45 60 ∷ []; second = [] } ∷ [])
    ≡ Some (record { start = 45; second = false })
in_first_tiers = refl

-- a start that nobody must preempt for comes before an earlier one
rather_first_tiers : earliest (window 0 100) (record { first = window 40 50 ∷ []; second = window 0 100 ∷ [] } ∷ record { first = window 45 60 ∷ []; second = window 0 100 ∷ [] } ∷ [])
    ≡ Some (record { start = 45; second = false })
rather_first_tiers = refl

in_second_tiers : earliest (window 0 100) (record { first = window 0 10 ∷ window 40 50 ∷ []; second = window 0 100 ∷ [] } ∷ record { first = []; second = window 5 5 ∷ [] } ∷ [])
    ≡ Some (record { start = 5; second = true })
in_second_tiers = refl

-- ---- a task of one host
abbrev pub rule : Schedule
rule = record { anchor = 1000; slip = 300; repeat = None; until = None; max_runs = None }

abbrev pub idle_task : Task
idle_task = record { test = Idle (sleep_of 10); tools = []; rule = rule; archives = []; reference = None; priority = pos 0 }

abbrev pub idle_key : RunKey
idle_key = record { lead = 1; task = 1; number = 0; attempt = 0 }

abbrev turns_of : Config → List ℕ → Book → Book
turns_of c [] b = b
turns_of c (clock ∷ clocks) b = turns_of c clocks (step_book c b clock input.Turn)

abbrev pub idle_row : TaskRow
idle_row = record { serial = 1; task = idle_task; asker = asker; posted = 1000; closed = None }

abbrev pub posted_book : Book
posted_book = record { moment = 1000; epochs = []; pairs = []; tasks = idle_row ∷ []; rows = [] }

posted_idle : step_reply host_a empty_book 1000 (input.Post idle_task (codes "10.0.0.9")) ≡ reply.Posted 1
posted_idle = refl

posted_idle_book : step_book host_a empty_book 1000 (input.Post idle_task (codes "10.0.0.9")) ≡ posted_book
posted_idle_book = refl

abbrev idle_question : Question
idle_question = record { key = idle_key; test = Idle (sleep_of 10); priority = pos 0; window = window 1006 1300 }

abbrev idle_asked : RunRow
idle_asked = asked_row 1001 idle_question (codes "a" ∷ []) asker

abbrev pub with_run : ℕ → List (RunKey × ℕ) → RunRow → Book
with_run m pairs r = record { moment = m; epochs = []; pairs = pairs; tasks = idle_row ∷ []; rows = r ∷ [] }

asked_idle : step_changes host_a posted_book 1001 input.Turn ≡ record { moment = 1001; list = change.Asked idle_question (codes "a" ∷ []) asker ∷ [] }
unfolding first_from length_text_of escape_byte digits
asked_idle = refl

asked_idle_book : step_book host_a posted_book 1001 input.Turn ≡ with_run 1001 [] idle_asked
unfolding first_from length_text_of escape_byte digits
asked_idle_book = refl

abbrev pub idle_planned : RunRow
idle_planned = record idle_asked { tool = Some (codes "sleep"); interval = Some (span_of 1007 10); accepted = Some 1002; confirmed = Some 1002 }

planned_idle : step_book host_a (with_run 1001 [] idle_asked) 1002 input.Turn ≡ with_run 1002 ((idle_key, 0) ∷ []) idle_planned
unfolding first_from
planned_idle = refl

abbrev pub idle_started : RunRow
idle_started = record idle_planned { started = Some 1007 }

started_idle : step_book host_a (with_run 1002 ((idle_key, 0) ∷ []) idle_planned) 1007 input.Turn ≡ with_run 1007 ((idle_key, 0) ∷ []) idle_started
unfolding first_from
started_idle = refl

abbrev idle_result : List ℕ
idle_result = codes "{\"duration\":\"PT10S\",\"schema\":1,\"succeeded\":true}"

ended_idle : end_run host_a 1017 (with_run 1007 ((idle_key, 0) ∷ []) idle_started) idle_started ≡ Some (change.Ended idle_key true idle_result)
unfolding length_text_of escape_byte digits
ended_idle = refl

not_yet_ended : end_run host_a 1016 (with_run 1007 ((idle_key, 0) ∷ []) idle_started) idle_started ≡ None
not_yet_ended = refl
