-- What a lead decides, computed: the next attempt, the plan of a run, what is canceled.
use Rattle.std.specs.Prelude.{◌∷◌, ◌≡◌, List, None, Option, Some, [], codes, map, option_and_then, pos, ℕ}
use Rattle.std.proofs.Common.{refl}
use Rattle.ps_time.specs.declared.asker.Asker.{Asker}
use Rattle.ps_time.specs.declared.key.RunKey.{RunKey}
use Rattle.schedule_rule.specs.Rule.{Schedule, first_from}
use Rattle.limit_apply.specs.Open.{open_config}
use Rattle.run_states.specs.Rows.{find_row}
use Rattle.run_states.specs.declared.answer.FreeAnswer.{FreeAnswer}
use Rattle.run_states.specs.declared.row.RunRow.{RunRow}
use Rattle.run_states.specs.declared.why.Cause.TheVariants.{NoSlot as no_slot}
use Rattle.run_states.specs.declared.why.Closing.{Closing}
use Rattle.run_states.specs.declared.why.Why.TheVariants.{Canceled, Nonstart}
use Rattle.host_model.specs.Book.{Book, empty_book}
use Rattle.host_model.specs.NewRow.{asked_row, unheard}
use Rattle.host_model.specs.NextAttempt.{ask, attempt_by}
use Rattle.host_model.specs.Plan.{plan, plan_run}
use Rattle.host_model.specs.Post.{cancel_run, cancel_task, close_unless}
use Rattle.host_model.specs.declared.change.Change.{Change}
use Rattle.host_model.specs.declared.config.Config.{Config}
use Rattle.host_model.specs.declared.lead.Attempt.{Attempt}
use Rattle.host_model.specs.declared.lead.Planned.{Planned}
use Rattle.host_model.specs.declared.lead.Planned.TheVariants.{At, NoTool, NoSlot}
use Rattle.host_model.specs.declared.reply.Reply.{Reply}
use Rattle.host_model.specs.declared.task_row.TaskRow.{TaskRow}
use Rattle.host_model_tests.proofs.Given.{free_in, idle, k, pair, peer, question, window}
use Rattle.host_model.specs.declared.change.Change.TheVariants as change
use Rattle.host_model.specs.declared.reply.Reply.TheVariants as reply

abbrev asker : Asker
asker = record { requester = codes "10.0.0.9"; server = codes "a" }

-- ---- the next attempt
-- number 0 may start from 1000 up to 1900, number 1 from 101,000 on
abbrev seldom : Schedule
seldom = record { anchor = 1000; slip = 900; repeat = Some 100_000; until = None; max_runs = None }

-- once an hour, up to 300 s late
abbrev each_hour : Schedule
each_hour = record { anchor = 1000; slip = 300; repeat = Some 3600; until = None; max_runs = None }

-- what is next at a moment, after the newest row of the task, if there is one
pub record Case : Type 0 where
  pub newest : Option RunRow
  pub moment : ℕ
  pub next : Option Attempt

-- an attempt at number 0, which was asked about at 1001
abbrev attempt_row : ℕ → Option ℕ → Option Closing → RunRow
attempt_row attempt confirmed closed = record (asked_row 1001 (question (k 1 1 0 attempt) idle (pos 0) 1006 1300) (codes "a" ∷ []) asker) { confirmed = confirmed; closed = closed }

abbrev case : Option RunRow → ℕ → Option Attempt → Case
case newest m next = record { newest = newest; moment = m; next = next }

-- the attempt was closed unconfirmed at its moment
abbrev closed : ℕ → ℕ → ℕ → Option Attempt → Case
closed attempt at m next = case (Some (attempt_row attempt None (Some (record { moment = at; why = Nonstart no_slot })))) m next

-- the first attempt is confirmed, or neither confirmed nor closed
abbrev confirmed : ℕ → Option Attempt → Case
confirmed m next = case (Some (attempt_row 0 (Some 1003) None)) m next

abbrev unclosed : ℕ → Option Attempt → Case
unclosed m next = case (Some (attempt_row 0 None None)) m next

-- an attempt at a number, which asks about these starts
abbrev asks : ℕ → ℕ → ℕ → ℕ → Option Attempt
asks number attempt first last = Some (record { number = number; attempt = attempt; window = window first last })

-- Each attempt is closed a minute after it was made, and half a minute later the next one is made. The eighth is the last, and the
-- next number begins in more than a day. It is asked about once it begins within a day; its window is cut there.
abbrev of_seldom : List Case
of_seldom =
    closed 0 1061 1090 None ∷ closed 0 1061 1091 (asks 0 1 1096 1900) ∷
    closed 1 1151 1180 None ∷ closed 1 1151 1181 (asks 0 2 1186 1900) ∷
    closed 2 1241 1270 None ∷ closed 2 1241 1271 (asks 0 3 1276 1900) ∷
    closed 3 1331 1360 None ∷ closed 3 1331 1361 (asks 0 4 1366 1900) ∷
    closed 4 1421 1450 None ∷ closed 4 1421 1451 (asks 0 5 1456 1900) ∷
    closed 5 1511 1540 None ∷ closed 5 1511 1541 (asks 0 6 1546 1900) ∷
    closed 6 1601 1630 None ∷ closed 6 1601 1631 (asks 0 7 1636 1900) ∷
    closed 7 1691 1721 None ∷
    closed 7 1691 14_599 None ∷ closed 7 1691 14_600 (asks 1 0 101_000 101_000) ∷ closed 7 1691 14_700 (asks 1 0 101_000 101_100) ∷
    confirmed 14_600 (asks 1 0 101_000 101_000) ∷ unclosed 14_600 None ∷ []

seldom_next : map (λ c. attempt_by c.moment seldom c.newest) of_seldom ≡ map (λ c. c.next) of_seldom
unfolding first_from
seldom_next = refl

-- A number whose window is open, and one whose window has gone by: where the window still reaches five seconds on, the half minute
-- is waited for. Without a row the first attempt is next.
abbrev of_each_hour : List Case
of_each_hour =
    closed 0 1033 1062 None ∷ closed 0 1033 1063 (asks 0 1 1068 1300) ∷
    closed 0 1290 1295 None ∷ closed 0 1290 1296 (asks 1 0 4600 4900) ∷
    closed 7 1200 1200 (asks 1 0 4600 4900) ∷ closed 7 1200 4890 (asks 1 0 4895 4900) ∷ closed 7 1200 4896 (asks 2 0 8200 8500) ∷
    confirmed 1003 (asks 1 0 4600 4900) ∷
    case None 900 (asks 0 0 1000 1300) ∷ case None 1001 (asks 0 0 1006 1300) ∷ case None 1295 (asks 0 0 1300 1300) ∷ case None 1296 (asks 1 0 4600 4900) ∷ []

each_hour_next : map (λ c. attempt_by c.moment each_hour c.newest) of_each_hour ≡ map (λ c. c.next) of_each_hour
unfolding first_from
each_hour_next = refl

-- ---- the tool and the start of a run that may start from 0 up to 100
-- when hosts are free, and with which tools
abbrev always : FreeAnswer
always = free_in (codes "sleep" ∷ []) (window 0 100 ∷ []) (window 0 100 ∷ [])

-- at two times, and for a greater priority always
abbrev twice : FreeAnswer
twice = free_in (codes "sleep" ∷ []) (window 0 10 ∷ window 40 50 ∷ []) (window 0 100 ∷ [])

-- at two other times
abbrev also_twice : FreeAnswer
also_twice = free_in (codes "sleep" ∷ []) (window 20 30 ∷ window 45 60 ∷ []) (window 0 100 ∷ [])

-- at no time, and for a greater priority at 5
abbrev at_five : FreeAnswer
at_five = free_in (codes "sleep" ∷ []) [] (window 5 5 ∷ [])

abbrev late : FreeAnswer
late = free_in (codes "sleep" ∷ []) (window 48 48 ∷ window 55 100 ∷ []) (window 3 100 ∷ [])

abbrev both : FreeAnswer
both = record always { tools = codes "sleep" ∷ codes "snooze" ∷ [] }

abbrev snooze : FreeAnswer
snooze = record always { tools = codes "snooze" ∷ [] }

-- the others told this; by the lead's own answer, with these tools wanted, at a moment
abbrev planned : ℕ → List (List ℕ) → FreeAnswer → List FreeAnswer → Planned
planned m wished own theirs = plan m wished (record (asked_row 1001 (question (k 1 1 0 0) idle (pos 0) 0 100) [] asker) { others = map (λ a. record unheard { free = Some a }) theirs }) own

abbrev with_sleep : ℕ → Planned
with_sleep start = At start (codes "sleep")

-- the least start of all first tiers, 5 s ahead or more; else the least of all second tiers
starts :
    planned 0 [] always (always ∷ []) ∷
    planned 0 [] twice (also_twice ∷ []) ∷
    planned 0 [] twice (also_twice ∷ late ∷ []) ∷
    planned 0 [] twice (at_five ∷ []) ∷
    planned 0 [] twice (late ∷ at_five ∷ []) ∷
    planned 1 [] twice (at_five ∷ []) ∷
    planned 20 [] always (always ∷ []) ∷
    planned 95 [] always (always ∷ []) ∷
    planned 96 [] always (always ∷ []) ∷ []
    ≡ with_sleep 5 ∷ with_sleep 45 ∷ with_sleep 48 ∷ with_sleep 5 ∷ with_sleep 5 ∷ NoSlot ∷ with_sleep 25 ∷ with_sleep 100 ∷ NoSlot ∷ []
starts = refl

-- without a wish the most preferred tool that all have, else the first wish that all can meet
tools :
    planned 0 [] both (both ∷ both ∷ []) ∷
    planned 0 [] both (both ∷ snooze ∷ []) ∷
    planned 0 (codes "snooze" ∷ codes "sleep" ∷ []) both (both ∷ []) ∷
    planned 0 (codes "snooze" ∷ codes "sleep" ∷ []) both (always ∷ []) ∷
    planned 0 (codes "snooze" ∷ []) both (always ∷ []) ∷
    planned 0 [] always (always ∷ snooze ∷ []) ∷ []
    ≡ with_sleep 5 ∷ At 5 (codes "snooze") ∷ At 5 (codes "snooze") ∷ with_sleep 5 ∷ NoTool ∷ NoTool ∷ []
tools = refl

-- ---- the first run of a task of hosts a and b is asked about, planned and canceled
-- host a with the tool `sleep`, whose one peer is host b
abbrev lead : Config
lead = record { number = 1; name = codes "a"; authority = []; peers = peer 2 (codes "b") ∷ []; installed = codes "sleep" ∷ []; limits = open_config }

abbrev task_row : TaskRow
task_row = record { serial = 1; task = pair 1000; asker = asker; posted = 1000; closed = None }

asked_about : ask lead 1001 empty_book task_row ≡ Some (change.Asked (question (k 1 1 0 0) (pair 1000).test (pos 0) 1006 1300) (codes "a" ∷ codes "b" ∷ []) asker)
unfolding first_from
asked_about = refl

-- the other host is always free
abbrev free_row : RunRow
free_row = record (asked_row 1001 (question (k 1 1 0 0) idle (pos 0) 1006 1300) (codes "a" ∷ codes "b" ∷ []) asker) { others = record unheard { free = Some (free_in (codes "sleep" ∷ []) (window 1006 1300 ∷ []) []) } ∷ [] }

abbrev free_book : Book
free_book = record empty_book { rows = free_row ∷ [] }

planned_at_once : plan_run lead 1002 free_book free_row ≡ Some (change.Planned (k 1 1 0 0) 1007 (codes "sleep") 0)
planned_at_once = refl

-- of the task of a lead and a serial, and a key
abbrev canceled_run : ℕ → ℕ → RunKey → Option Change
canceled_run number serial key = option_and_then (cancel_run number serial free_book) (find_row free_book.rows key)

run_canceled : canceled_run 1 1 (k 1 1 0 0) ∷ canceled_run 2 1 (k 1 1 0 0) ∷ canceled_run 1 2 (k 1 1 0 0) ∷ canceled_run 1 1 (k 1 1 1 0) ∷ []
    ≡ Some (change.Closed (k 1 1 0 0) Canceled) ∷ None ∷ None ∷ None ∷ []
run_canceled = refl

-- only who posted the task may cancel it
abbrev canceled_by : List ℕ → Option TaskRow → Reply
canceled_by requester found = (cancel_task lead empty_book 1002 requester found).reply

task_canceled : canceled_by (codes "10.0.0.9") (Some task_row) ∷ canceled_by (codes "10.0.0.8") (Some task_row) ∷ canceled_by (codes "10.0.0.9") None ∷ [] ≡ reply.Canceled ∷ reply.NotPoster ∷ reply.NotFound ∷ []
task_canceled = refl

task_closed : close_unless task_row ≡ change.TaskClosed 1 ∷ []
task_closed = refl
