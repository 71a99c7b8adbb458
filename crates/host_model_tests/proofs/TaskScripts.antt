-- Tasks of a host alone, and its limits, computed.
use Rattle.std.specs.Prelude.{List, None, Some, [], codes, false, pos, true, ◌∷◌, ◌≡◌}
use Rattle.std.specs.Fmt.{digits}
use Rattle.std.specs.Net.Reader.{read_ipv4, read_ipv6, read_number, read_octet, read_segment, read_segments}
use Rattle.std.specs.Str.{chars, is_utf8}
use Rattle.std.proofs.Common.{refl}
use lib.Utf8.{encode}
use Rattle.json.specs.Print.{escape_byte}
use Rattle.serde_json.proofs.OnLiterals.{serde_json_on_literals}
use Rattle.ps_time.specs.Length.{amount_of, clock_at, count_at, days_at, length_of, length_text_of, seconds_at}
use Rattle.ps_time.specs.Picture.{begins_as, fraction_at, leading_number}
use Rattle.schedule_rule.specs.Rule.{first_from}
use Rattle.limit_ident.specs.Address.{ipv4_of, ipv6_of}
use Rattle.ps_time.specs.declared.asker.Verdict.TheVariants.{AboveCeiling, Exhausted, Stopped}
use Rattle.ps_time.specs.declared.class.Class.TheVariants.{Exclusive, Normal}
use Rattle.host_model.specs.Book.{empty_book}
use Rattle.host_model_tests.proofs.Given.{archived, free_in, host_a, hourly, k, many, nobody, order_to_b, ours, pair, proposal, propose_of, question, stranger, tried_so, urgent, window}
use Rattle.host_model_tests.proofs.Script.{Line, Line.Asks, Line.Epoch, Line.Stands, Said.Says, Said.ShowsRun, Said.ShowsTask, told, wanted}
use Rattle.host_model.specs.declared.order.PeerAnswer.TheVariants as answer
use Rattle.run_states.specs.declared.why.Denial.TheVariants as denial
use Rattle.host_model.specs.declared.input.Input.TheVariants as input
use Rattle.host_model.specs.declared.view.Page.TheVariants as page
use Rattle.host_model.specs.declared.reply.Reply.TheVariants as reply
use Rattle.run_states.specs.declared.state.State.TheVariants as state
use Rattle.host_model.specs.declared.view.View.TheVariants as view

-- ---- a task whose result is archived
abbrev archived_task_script : List Line
archived_task_script =
    Asks 1000 input.Open (Says (reply.Changes 1)) ∷
    Asks 1000 (input.Post (archived 1000) (codes "10.0.0.9")) (Says (reply.Posted 1)) ∷
    Asks 1000 input.Turn (Says (reply.Changes 1)) ∷
    Asks 1000 (input.View (page.Run (k 1 1 0 0))) (ShowsRun (Some 1000 ∷ None ∷ None ∷ None ∷ None ∷ None ∷ []) state.Pending []) ∷
    Asks 1002 input.Turn (Says (reply.Changes 1)) ∷
    Asks 1002 (input.View (page.Run (k 1 1 0 0))) (ShowsRun (Some 1000 ∷ Some 1002 ∷ Some 1002 ∷ None ∷ None ∷ None ∷ []) state.OnDeck []) ∷
    Asks 1007 input.Turn (Says (reply.Changes 1)) ∷
    Asks 1017 input.Turn (Says (reply.Changes 2)) ∷
    Asks 1017 (input.View (page.Run (k 1 1 0 0))) (ShowsRun (Some 1000 ∷ Some 1002 ∷ Some 1002 ∷ Some 1007 ∷ Some 1017 ∷ None ∷ []) state.Finished (codes "bitbucket" ∷ codes "failer" ∷ [])) ∷
    Asks 1017 (input.Tried (k 1 1 0 0) 0 true None) (Says (reply.Archive (tried_so 1 None true))) ∷
    Asks 1017 (input.Tried (k 1 1 0 0) 0 true None) (Says (reply.Archive (tried_so 1 None true))) ∷
    Asks 1017 (input.Tried (k 1 1 0 0) 1 false (Some 0)) (Says (reply.Archive (tried_so 1 (Some 1077) false))) ∷
    Asks 1076 (input.Tried (k 1 1 0 0) 1 false (Some 0)) (Says (reply.Archive (tried_so 1 (Some 1077) false))) ∷
    Asks 1077 (input.Tried (k 1 1 0 0) 1 false (Some 90)) (Says (reply.Archive (tried_so 2 (Some 1167) false))) ∷
    Asks 1167 (input.Tried (k 1 1 0 0) 1 false (Some 0)) (Says (reply.Archive (tried_so 3 None false))) ∷
    Asks 1167 (input.Tried (k 1 1 0 0) 2 true None) (Says reply.NotFound) ∷
    Asks 1167 (input.Tried (k 1 0 9 0) 0 true None) (Says reply.NotFound) ∷
    []

archived_task : told host_a empty_book archived_task_script ≡ wanted archived_task_script
unfolding is_utf8 chars encode digits serde_json_on_literals escape_byte length_of amount_of days_at count_at clock_at seconds_at leading_number begins_as fraction_at length_text_of first_from ipv4_of ipv6_of read_number read_octet read_ipv4 read_segment read_segments read_ipv6
archived_task = refl

-- ---- a task of two runs, the first of which goes after seven days
abbrev two_runs_script : List Line
two_runs_script =
    Asks 1000 input.Open (Says (reply.Changes 1)) ∷
    Asks 1000 (input.Post (hourly 1000) (codes "10.0.0.9")) (Says (reply.Posted 1)) ∷
    Asks 1000 input.Turn (Says (reply.Changes 1)) ∷
    Asks 1000 input.Turn (Says (reply.Changes 2)) ∷
    Asks 1000 input.Turn (Says (reply.Changes 1)) ∷
    Asks 1000 input.Turn (Says (reply.Changes 0)) ∷
    Asks 1000 (input.View (page.Runs 1)) (Says (reply.View (view.Runs (k 1 1 0 0 ∷ k 1 1 1 0 ∷ [])))) ∷
    Asks 1005 input.Turn (Says (reply.Changes 1)) ∷
    Asks 1015 input.Turn (Says (reply.Changes 2)) ∷
    Asks 4600 input.Turn (Says (reply.Changes 1)) ∷
    Asks 4610 input.Turn (Says (reply.Changes 2)) ∷
    Asks 605814 input.Turn (Says (reply.Changes 0)) ∷
    Asks 605815 input.Turn (Says (reply.Changes 1)) ∷
    Asks 605815 (input.View (page.Runs 1)) (Says (reply.View (view.Runs (k 1 1 1 0 ∷ [])))) ∷
    Asks 900000 input.Turn (Says (reply.Changes 0)) ∷
    []

two_runs : told host_a empty_book two_runs_script ≡ wanted two_runs_script
unfolding is_utf8 chars encode digits serde_json_on_literals escape_byte length_of amount_of days_at count_at clock_at seconds_at leading_number begins_as fraction_at length_text_of first_from ipv4_of ipv6_of read_number read_octet read_ipv4 read_segment read_segments read_ipv6
two_runs = refl

-- ---- tasks that are posted and canceled, and then steps that refuse or only read: every change would move the book's moment on
abbrev tasks_script : List Line
tasks_script =
    Asks 1000 input.Open (Says (reply.Changes 1)) ∷
    Asks 1000 (input.Post (pair 1000) (codes "10.0.0.9")) (Says (reply.Posted 1)) ∷
    Asks 1000 (input.Post (stranger 1000) (codes "10.0.0.9")) (Says (reply.UnknownHost (codes "d"))) ∷
    Asks 1000 (input.Post (urgent 1000) (codes "203.0.113.5")) (Says (reply.NotAdmitted Exhausted)) ∷
    Asks 1000 (input.Post (urgent 1000) (codes "198.51.100.1")) (Says (reply.NotAdmitted (Stopped 0))) ∷
    Asks 1000 (input.Post (pair 1000) (codes "192.0.2.7")) (Says (reply.NotAdmitted Exhausted)) ∷
    Asks 1000 (input.Post (urgent 1000) (codes "192.0.2.7")) (Says (reply.Posted 2)) ∷
    Asks 1000 (input.Post (urgent 1000) (codes "10.0.0.9")) (Says (reply.Posted 3)) ∷
    Asks 1000 (input.View (page.Task 2)) (ShowsTask 2 (codes "192.0.2.7") (pos 0) 1000 None) ∷
    Asks 1000 (input.View (page.Task 3)) (ShowsTask 3 (codes "10.0.0.9") (pos 100) 1000 None) ∷
    Asks 1000 (input.View page.Tasks) (Says (reply.View (view.Tasks (1 ∷ 2 ∷ 3 ∷ [])))) ∷
    Asks 1000 input.Turn (Says (reply.Changes 3)) ∷
    Asks 1000 input.Turn (Says (reply.Changes 2)) ∷
    Asks 1000 (input.Cancel 3 (codes "192.0.2.7")) (Says reply.NotPoster) ∷
    Asks 1000 (input.Cancel 9 (codes "10.0.0.9")) (Says reply.NotFound) ∷
    Asks 1000 (input.Cancel 3 (codes "10.0.0.9")) (Says reply.Canceled) ∷
    Asks 1000 (input.View (page.Run (k 1 3 0 0))) (ShowsRun (Some 1000 ∷ Some 1000 ∷ Some 1000 ∷ None ∷ None ∷ Some 1000 ∷ []) state.Canceled []) ∷
    Asks 1000 (input.View (page.Task 3)) (ShowsTask 3 (codes "10.0.0.9") (pos 100) 1000 (Some 1000)) ∷
    Asks 1001 (input.Cancel 3 (codes "10.0.0.9")) (Says reply.Canceled) ∷
    Stands 1000 3 3 1 ∷
    Asks 1005 input.Turn (Says (reply.Changes 1)) ∷
    Asks 1006 (input.Cancel 2 (codes "192.0.2.7")) (Says reply.Canceled) ∷
    Asks 1006 (input.View (page.Task 2)) (ShowsTask 2 (codes "192.0.2.7") (pos 0) 1000 (Some 1006)) ∷
    Asks 1006 (input.View (page.Run (k 1 2 0 0))) (ShowsRun (Some 1000 ∷ Some 1000 ∷ Some 1000 ∷ Some 1005 ∷ None ∷ None ∷ []) state.Running []) ∷
    Asks 1007 input.Turn (Says (reply.Changes 0)) ∷
    Asks 1007 (input.Post (urgent 1007) (codes "203.0.113.5")) (Says (reply.NotAdmitted Exhausted)) ∷
    Asks 1007 (input.Post (stranger 1007) (codes "10.0.0.9")) (Says (reply.UnknownHost (codes "d"))) ∷
    Asks 1007 (input.Book Normal (pos 101) 1200 10) (Says (reply.Denied (denial.Limits (AboveCeiling (pos 100))))) ∷
    Asks 1007 (input.Cancel 1 (codes "10.0.0.8")) (Says reply.NotPoster) ∷
    Asks 1007 (input.Cancel 2 (codes "192.0.2.7")) (Says reply.Canceled) ∷
    Asks 1007 (input.Free 2 (question (k 2 1 0 0) many (pos 0) 1020 1030)) (Says (reply.Free (free_in (codes "sleep" ∷ []) (window 1020 1030 ∷ []) (window 1020 1030 ∷ [])))) ∷
    Asks 1007 (input.Propose 2 (proposal (k 2 1 0 0) many (codes "sleep") 1000 (pos 0) (codes "10.0.0.9") (codes "b"))) (Says (reply.Denied (denial.Past 1007 1000))) ∷
    Asks 1007 (input.Confirm 2 (k 2 1 0 0)) (Says reply.Unknown) ∷
    Asks 1007 (input.Drop 2 (k 2 1 0 0)) (Says reply.Dropped) ∷
    Asks 1007 (input.Collect 2 (k 2 1 0 0)) (Says reply.NotFound) ∷
    Asks 1007 (input.Material 2 (k 2 1 0 0) (codes "hello")) (Says reply.NotFound) ∷
    Asks 1007 (input.Heard (order_to_b (k 1 1 0 0) 1 (propose_of (k 1 1 0 0))) answer.Unknown) (Says reply.Heard) ∷
    Asks 1007 (input.Tried (k 1 2 0 0) 0 true None) (Says reply.NotFound) ∷
    Asks 1007 (input.Limits ours) (Says (reply.LimitsSet 1)) ∷
    Asks 1007 (input.View page.Tasks) (Says (reply.View (view.Tasks (1 ∷ 2 ∷ 3 ∷ [])))) ∷
    Asks 1007 (input.View (page.Runs 2)) (Says (reply.View (view.Runs (k 1 2 0 0 ∷ [])))) ∷
    Asks 1007 (input.View (page.Run (k 1 3 0 0))) (ShowsRun (Some 1000 ∷ Some 1000 ∷ Some 1000 ∷ None ∷ None ∷ Some 1000 ∷ []) state.Canceled []) ∷
    Asks 1060 (input.View (page.Run (k 1 1 0 0))) (ShowsRun (Some 1000 ∷ None ∷ None ∷ None ∷ None ∷ Some 1060 ∷ []) state.Nonstart []) ∷
    Asks 1060 (input.View (page.Run (k 1 2 0 0))) (ShowsRun (Some 1000 ∷ Some 1000 ∷ Some 1000 ∷ Some 1005 ∷ None ∷ None ∷ []) state.Overdue []) ∷
    Stands 1006 3 3 1 ∷
    []

tasks : told host_a empty_book tasks_script ≡ wanted tasks_script
unfolding is_utf8 chars encode digits serde_json_on_literals escape_byte length_of amount_of days_at count_at clock_at seconds_at leading_number begins_as fraction_at length_text_of first_from ipv4_of ipv6_of read_number read_octet read_ipv4 read_segment read_segments read_ipv6
tasks = refl

-- ---- limits that replace others
abbrev limits_script : List Line
limits_script =
    Asks 999 (input.Book Exclusive (pos 0) 1090 10) (Says (reply.Booked (k 1 0 1 0) [])) ∷
    Epoch (k 1 0 1 0) (Some 0) ∷
    Asks 1000 input.Open (Says (reply.Changes 1)) ∷
    Asks 1000 (input.Limits ours) (Says (reply.LimitsSet 1)) ∷
    Asks 1000 (input.Limits nobody) (Says (reply.LimitsSet 2)) ∷
    Asks 1001 (input.Limits nobody) (Says (reply.LimitsSet 2)) ∷
    Stands 1000 1 0 2 ∷
    Asks 1001 (input.Book Exclusive (pos 0) 1100 10) (Says (reply.Denied (denial.Limits Exhausted))) ∷
    Asks 1001 (input.Post (pair 1001) (codes "10.0.0.9")) (Says (reply.NotAdmitted Exhausted)) ∷
    Asks 1002 (input.Limits ours) (Says (reply.LimitsSet 3)) ∷
    Asks 1002 (input.Book Exclusive (pos 0) 1100 10) (Says (reply.Booked (k 1 0 2 0) [])) ∷
    Epoch (k 1 0 1 0) (Some 0) ∷
    Epoch (k 1 0 2 0) (Some 3) ∷
    Epoch (k 1 0 3 0) None ∷
    []

limits : told host_a empty_book limits_script ≡ wanted limits_script
unfolding is_utf8 chars encode digits serde_json_on_literals escape_byte length_of amount_of days_at count_at clock_at seconds_at leading_number begins_as fraction_at length_text_of first_from ipv4_of ipv6_of read_number read_octet read_ipv4 read_segment read_segments read_ipv6
limits = refl
