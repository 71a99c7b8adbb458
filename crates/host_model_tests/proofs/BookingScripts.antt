-- Bookings and pages of a host, computed.
use Rattle.std.specs.Prelude.{List, None, Some, [], codes, negsuc, pos, ◌∷◌, ◌≡◌}
use Rattle.std.specs.Fmt.{digits}
use Rattle.std.specs.Net.Reader.{read_ipv4, read_ipv6, read_number, read_octet, read_segment, read_segments}
use Rattle.std.specs.Str.{chars, is_utf8}
use Rattle.std.proofs.Common.{refl}
use lib.Utf8.{encode}
use Rattle.json.specs.Print.{escape_byte}
use Rattle.serde_json.proofs.OnLiterals.{serde_json_on_literals}
use Rattle.ps_time.specs.Length.{amount_of, clock_at, count_at, days_at, length_of, length_text_of, seconds_at}
use Rattle.ps_time.specs.Picture.{begins_as, fraction_at, leading_number}
use Rattle.schedule_rule.specs.Rule.{first_from}
use Rattle.limit_ident.specs.Address.{ipv4_of, ipv6_of}
use Rattle.ps_time.specs.declared.asker.Verdict.TheVariants.{AboveCeiling}
use Rattle.ps_time.specs.declared.class.Class.TheVariants.{Background, BackgroundMulti, Exclusive, Normal}
use Rattle.host_model.specs.Book.{empty_book}
use Rattle.host_model_tests.proofs.Given.{host_a, k, line, pair}
use Rattle.host_model_tests.proofs.Script.{Line, Line.Asks, Line.Epoch, Line.Stands, Said.Says, Said.ShowsRun, told, wanted}
use Rattle.run_states.specs.declared.why.Denial.TheVariants as denial
use Rattle.host_model.specs.declared.input.Input.TheVariants as input
use Rattle.host_model.specs.declared.view.Page.TheVariants as page
use Rattle.host_model.specs.declared.reply.Reply.TheVariants as reply
use Rattle.run_states.specs.declared.state.State.TheVariants as state
use Rattle.host_model.specs.declared.view.View.TheVariants as view

-- ---- conflicts, a preemption, runs that start, end, are missed or hindered, and go; a restart
abbrev bookings_script : List Line
bookings_script =
    Asks 1000 input.Turn (Says (reply.Changes 0)) ∷
    Stands 0 0 0 0 ∷
    Asks 1000 input.Open (Says (reply.Changes 1)) ∷
    Stands 1000 0 0 1 ∷
    Asks 1000 input.Open (Says (reply.Changes 0)) ∷
    Asks 1000 (input.Book Exclusive (pos 0) 1100 10) (Says (reply.Booked (k 1 0 1 0) [])) ∷
    Epoch (k 1 0 1 0) (Some 1) ∷
    Asks 1000 (input.Book Exclusive (pos 0) 999 10) (Says (reply.Denied (denial.Past 1000 999))) ∷
    Asks 1000 (input.Book Exclusive (pos 0) 1109 10) (Says (reply.Denied (denial.Conflict (k 1 0 1 0)))) ∷
    Asks 1000 (input.Book Exclusive (pos 101) 1109 10) (Says (reply.Denied (denial.Limits (AboveCeiling (pos 100))))) ∷
    Asks 1000 (input.Book BackgroundMulti (pos 0) 1200 10) (Says (reply.Denied (denial.NoTool (codes "sleepbgm")))) ∷
    Asks 1000 (input.Book Exclusive (pos 50) 1109 10) (Says (reply.Booked (k 1 0 2 0) (k 1 0 1 0 ∷ []))) ∷
    Asks 1000 (input.View (page.Run (k 1 0 1 0))) (ShowsRun (None ∷ Some 1000 ∷ Some 1000 ∷ None ∷ None ∷ Some 1000 ∷ []) state.Preempted []) ∷
    Asks 1000 (input.Book Exclusive (pos 0) 1100 9) (Says (reply.Booked (k 1 0 3 0) [])) ∷
    Asks 1000 (input.Book Normal (pos 0) 1118 5) (Says (reply.Denied (denial.Conflict (k 1 0 2 0)))) ∷
    Asks 1000 (input.Book Background (pos 0) 1109 5) (Says (reply.Booked (k 1 0 4 0) [])) ∷
    Asks 1099 (input.Book Exclusive (pos 100) 1109 10) (Says (reply.Denied (denial.Conflict (k 1 0 2 0)))) ∷
    Asks 990 (input.View page.Clock) (Says (reply.View (view.Clock 1000))) ∷
    Asks 1100 input.Turn (Says (reply.Changes 1)) ∷
    Asks 1100 (input.View (page.Run (k 1 0 3 0))) (ShowsRun (None ∷ Some 1000 ∷ Some 1000 ∷ Some 1100 ∷ None ∷ None ∷ []) state.Running []) ∷
    Asks 1108 input.Turn (Says (reply.Changes 0)) ∷
    Asks 1109 input.Turn (Says (reply.Changes 4)) ∷
    Asks 1109 (input.View (page.Run (k 1 0 3 0))) (ShowsRun (None ∷ Some 1000 ∷ Some 1000 ∷ Some 1100 ∷ Some 1109 ∷ None ∷ []) state.Finished []) ∷
    Asks 1109 (input.Book Normal (pos 0) 1130 5) (Says (reply.Booked (k 1 0 5 0) [])) ∷
    Asks 1146 input.Turn (Says (reply.Changes 4)) ∷
    Asks 1146 (input.View (page.Run (k 1 0 5 0))) (ShowsRun (None ∷ Some 1109 ∷ Some 1109 ∷ None ∷ None ∷ Some 1146 ∷ []) state.Missed []) ∷
    Asks 1146 (input.Book Exclusive (pos 0) 1200 10) (Says (reply.Booked (k 1 0 6 0) [])) ∷
    Asks 1146 (input.Book Exclusive (pos 0) 1210 10) (Says (reply.Booked (k 1 0 7 0) [])) ∷
    Asks 1205 input.Turn (Says (reply.Changes 1)) ∷
    Asks 1210 input.Turn (Says (reply.Changes 0)) ∷
    Asks 1215 input.Turn (Says (reply.Changes 3)) ∷
    Asks 1225 input.Turn (Says (reply.Changes 2)) ∷
    Asks 606014 input.Turn (Says (reply.Changes 5)) ∷
    Stands 606014 2 0 1 ∷
    Asks 606014 input.Turn (Says (reply.Changes 0)) ∷
    Asks 606015 input.Turn (Says (reply.Changes 1)) ∷
    Asks 606015 (input.View (page.Run (k 1 0 6 0))) (Says reply.NotFound) ∷
    Asks 999998 input.Turn (Says (reply.Changes 0)) ∷
    Asks 999999 (input.Book Exclusive (pos 0) 1000100 5) (Says (reply.Booked (k 1 0 8 0) [])) ∷
    Asks 1000100 input.Turn (Says (reply.Changes 2)) ∷
    Asks 1000101 input.Open (Says (reply.Changes 1)) ∷
    Asks 1000101 (input.View (page.Run (k 1 0 8 0))) (ShowsRun (None ∷ Some 999999 ∷ Some 999999 ∷ Some 1000100 ∷ Some 1000101 ∷ None ∷ []) state.Failed []) ∷
    Asks 1000101 input.Turn (Says (reply.Changes 1)) ∷
    Stands 1000101 1 0 1 ∷
    []

bookings : told host_a empty_book bookings_script ≡ wanted bookings_script
unfolding is_utf8 chars encode digits serde_json_on_literals escape_byte length_of amount_of days_at count_at clock_at seconds_at leading_number begins_as fraction_at length_text_of first_from ipv4_of ipv6_of read_number read_octet read_ipv4 read_segment read_segments read_ipv6
bookings = refl

-- ---- every page
abbrev pages_script : List Line
pages_script =
    Asks 1000 (input.View page.Home) (Says (reply.View view.Home)) ∷
    Asks 1000 (input.View page.Clock) (Says (reply.View (view.Clock 1000))) ∷
    Asks 1000 (input.View page.Tests) (Says (reply.View view.Tests)) ∷
    Asks 1000 (input.View page.Tools) (Says (reply.View view.Tools)) ∷
    Asks 1000 (input.View page.Archivers) (Says (reply.View view.Archivers)) ∷
    Asks 1000 (input.View (page.Test (codes "idle"))) (Says (reply.View (view.Test (codes "idle") Background))) ∷
    Asks 1000 (input.View (page.Test (codes "idlebgm"))) (Says (reply.View (view.Test (codes "idlebgm") BackgroundMulti))) ∷
    Asks 1000 (input.View (page.Test (codes "simplestream"))) (Says (reply.View (view.Test (codes "simplestream") Normal))) ∷
    Asks 1000 (input.View (page.Test (codes "idlemany"))) (Says (reply.View (view.Test (codes "idlemany") Exclusive))) ∷
    Asks 1000 (input.View (page.Test (codes "rtt"))) (Says reply.NotFound) ∷
    Asks 1000 (input.View page.Tasks) (Says (reply.View (view.Tasks []))) ∷
    Asks 1000 (input.View (page.Task 1)) (Says reply.NotFound) ∷
    Asks 1000 (input.View (page.Runs 1)) (Says reply.NotFound) ∷
    Asks 1000 (input.View (page.Run (k 1 0 1 0))) (Says reply.NotFound) ∷
    Asks 1000 (input.View (page.Schedule 0 4102444800)) (Says (reply.View (view.Schedule []))) ∷
    Asks 1000 (input.Book Exclusive (negsuc 4) 1200 10) (Says (reply.Booked (k 1 0 1 0) [])) ∷
    Asks 1000 (input.Book Exclusive (pos 7) 1100 10) (Says (reply.Booked (k 1 0 2 0) [])) ∷
    Asks 1000 (input.Book Background (pos 0) 1100 5) (Says (reply.Booked (k 1 0 3 0) [])) ∷
    Asks 1000 (input.Book Normal (pos 0) 1110 90) (Says (reply.Booked (k 1 0 4 0) [])) ∷
    Asks 1000 (input.View (page.Schedule 1000 2000)) (Says (reply.View (view.Schedule (line (k 1 0 3 0) Background 1100 1105 (pos 0) state.Pending ∷ line (k 1 0 2 0) Exclusive 1100 1110 (pos 7) state.Pending ∷ line (k 1 0 4 0) Normal 1110 1200 (pos 0) state.Pending ∷ line (k 1 0 1 0) Exclusive 1200 1210 (negsuc 4) state.Pending ∷ [])))) ∷
    Asks 1000 (input.View (page.Schedule 1105 1110)) (Says (reply.View (view.Schedule (line (k 1 0 2 0) Exclusive 1100 1110 (pos 7) state.Pending ∷ [])))) ∷
    Asks 1000 (input.View (page.Schedule 1110 1110)) (Says (reply.View (view.Schedule []))) ∷
    Asks 1100 (input.View (page.Schedule 1209 1210)) (Says (reply.View (view.Schedule (line (k 1 0 1 0) Exclusive 1200 1210 (negsuc 4) state.Pending ∷ [])))) ∷
    Asks 1190 (input.View (page.Schedule 1199 1201)) (Says (reply.View (view.Schedule (line (k 1 0 4 0) Normal 1110 1200 (pos 0) state.Missed ∷ line (k 1 0 1 0) Exclusive 1200 1210 (negsuc 4) state.OnDeck ∷ [])))) ∷
    Asks 1190 (input.View (page.Runs 0)) (Says reply.NotFound) ∷
    Asks 1190 (input.Post (pair 1190) (codes "10.0.0.9")) (Says (reply.Posted 1)) ∷
    Asks 1190 input.Turn (Says (reply.Changes 1)) ∷
    Asks 1190 (input.View (page.Runs 1)) (Says (reply.View (view.Runs []))) ∷
    Asks 1190 (input.View page.Tasks) (Says (reply.View (view.Tasks (1 ∷ [])))) ∷
    []

pages : told host_a empty_book pages_script ≡ wanted pages_script
unfolding is_utf8 chars encode digits serde_json_on_literals escape_byte length_of amount_of days_at count_at clock_at seconds_at leading_number begins_as fraction_at length_text_of first_from ipv4_of ipv6_of read_number read_octet read_ipv4 read_segment read_segments read_ipv6
pages = refl
