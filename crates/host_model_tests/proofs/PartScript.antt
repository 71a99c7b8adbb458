-- Runs that other hosts lead, computed.
use Rattle.std.specs.Prelude.{List, None, Some, [], codes, pos, ◌∷◌, ◌≡◌}
use Rattle.std.specs.Fmt.{digits}
use Rattle.std.specs.Net.Reader.{read_ipv4, read_ipv6, read_number, read_octet, read_segment, read_segments}
use Rattle.std.specs.Str.{chars, is_utf8}
use Rattle.std.proofs.Common.{refl}
use lib.Utf8.{encode}
use Rattle.json.specs.Print.{escape_byte}
use Rattle.serde_json.proofs.OnLiterals.{serde_json_on_literals}
use Rattle.ps_time.specs.Length.{amount_of, clock_at, count_at, days_at, length_of, length_text_of, seconds_at}
use Rattle.ps_time.specs.Picture.{begins_as, fraction_at, leading_number}
use Rattle.schedule_rule.specs.Rule.{first_from}
use Rattle.limit_ident.specs.Address.{ipv4_of, ipv6_of}
use Rattle.ps_time.specs.declared.asker.Verdict.TheVariants.{Exhausted, Stopped}
use Rattle.host_model.specs.Book.{empty_book}
use Rattle.host_model_tests.proofs.Given.{free_in, host_a, k, many, others, proposal, question, stream, window}
use Rattle.host_model_tests.proofs.Script.{Line, Line.Asks, Line.Stands, Said.ClosedAs, Said.DiffersBy, Said.Says, Said.ShowsRun, told, wanted}
use Rattle.run_states.specs.declared.why.Denial.TheVariants as denial
use Rattle.host_model.specs.declared.input.Input.TheVariants as input
use Rattle.host_model.specs.declared.view.Page.TheVariants as page
use Rattle.host_model.specs.declared.reply.Reply.TheVariants as reply
use Rattle.run_states.specs.declared.state.State.TheVariants as state

-- ---- questions, proposals, confirmations, cancellations, material, results
abbrev taken_part_script : List Line
taken_part_script =
    Asks 1000 input.Open (Says (reply.Changes 1)) ∷
    Asks 1000 (input.Free 2 (question (k 2 1 0 0) many (pos 0) 1006 1300)) (Says (reply.Free (free_in (codes "sleep" ∷ []) (window 1006 1300 ∷ []) (window 1006 1300 ∷ [])))) ∷
    Asks 1000 (input.Free 3 (question (k 2 1 0 0) many (pos 0) 1006 1300)) (Says reply.NotLead) ∷
    Asks 1000 (input.Free 4 (question (k 4 1 0 0) many (pos 0) 1006 1300)) (Says reply.NotLead) ∷
    Asks 1000 (input.Free 2 (question (k 2 1 0 0) others (pos 0) 1006 1300)) (Says (reply.Denied denial.NotParticipant)) ∷
    Asks 1003 (input.Propose 2 (proposal (k 2 1 0 0) many (codes "sleep") 1007 (pos 0) (codes "10.0.0.9") (codes "b"))) (Says (reply.Accepted 1003)) ∷
    Asks 1004 (input.Propose 2 (proposal (k 2 1 0 0) many (codes "sleep") 1007 (pos 0) (codes "10.0.0.9") (codes "b"))) (Says (reply.Accepted 1003)) ∷
    Stands 1003 1 0 1 ∷
    Asks 1004 (input.Propose 2 (proposal (k 2 1 0 0) many (codes "sleep") 1008 (pos 0) (codes "10.0.0.9") (codes "b"))) (DiffersBy 1007 1008) ∷
    Asks 1004 (input.Propose 2 (proposal (k 2 2 0 0) many (codes "sleep") 1010 (pos 0) (codes "10.0.0.9") (codes "b"))) (Says (reply.Denied (denial.Conflict (k 2 1 0 0)))) ∷
    Asks 1004 (input.Propose 2 (proposal (k 2 2 0 0) many (codes "snooze") 1020 (pos 0) (codes "10.0.0.9") (codes "b"))) (Says (reply.Denied (denial.NoTool (codes "snooze")))) ∷
    Asks 1004 (input.Propose 2 (proposal (k 2 2 0 0) many (codes "sleep") 1000 (pos 0) (codes "10.0.0.9") (codes "b"))) (Says (reply.Denied (denial.Past 1004 1000))) ∷
    Asks 1004 (input.Propose 2 (proposal (k 2 2 0 0) many (codes "sleep") 1020 (pos 0) (codes "203.0.113.5") (codes "b"))) (Says (reply.Denied (denial.Limits Exhausted))) ∷
    Asks 1004 (input.Propose 2 (proposal (k 2 2 0 0) many (codes "sleep") 1020 (pos 0) (codes "198.51.100.1") (codes "b"))) (Says (reply.Denied (denial.Limits (Stopped 0)))) ∷
    Asks 1004 (input.Propose 2 (proposal (k 2 2 0 0) many (codes "sleep") 1020 (pos 0) (codes "192.0.2.7") (codes "b"))) (Says (reply.Denied (denial.Limits Exhausted))) ∷
    Asks 1004 (input.Propose 2 (proposal (k 2 2 0 0) others (codes "sleep") 1020 (pos 0) (codes "10.0.0.9") (codes "b"))) (Says (reply.Denied denial.NotParticipant)) ∷
    Asks 1004 (input.Propose 3 (proposal (k 2 2 0 0) many (codes "sleep") 1020 (pos 0) (codes "10.0.0.9") (codes "b"))) (Says reply.NotLead) ∷
    Asks 1004 (input.Propose 2 (proposal (k 2 3 0 0) many (codes "sleep") 1030 (pos 0) (codes "10.0.0.9") (codes "b"))) (Says (reply.Accepted 1004)) ∷
    Asks 1004 (input.Free 2 (question (k 2 4 0 0) many (pos 1) 1000 1050)) (Says (reply.Free (free_in (codes "sleep" ∷ []) (window 1017 1020 ∷ window 1040 1050 ∷ []) (window 1017 1050 ∷ [])))) ∷
    Asks 1005 (input.Propose 2 (proposal (k 2 4 0 0) many (codes "sleep") 1025 (pos 1) (codes "10.0.0.9") (codes "b"))) (Says (reply.Accepted 1005)) ∷
    Asks 1005 (input.Confirm 2 (k 2 3 0 0)) (ClosedAs state.Preempted) ∷
    Asks 1006 (input.Confirm 2 (k 2 1 0 0)) (Says (reply.Confirmed 1006)) ∷
    Asks 1007 (input.Confirm 2 (k 2 1 0 0)) (Says (reply.Confirmed 1006)) ∷
    Asks 1007 (input.Confirm 2 (k 2 9 0 0)) (Says reply.Unknown) ∷
    Asks 1007 (input.Confirm 3 (k 2 1 0 0)) (Says reply.NotLead) ∷
    Asks 1007 (input.Collect 2 (k 2 1 0 0)) (Says (reply.State state.OnDeck)) ∷
    Asks 1007 (input.Material 2 (k 2 1 0 0) (codes "hello")) (Says reply.NotRunning) ∷
    Asks 1007 (input.Drop 2 (k 2 4 0 0)) (Says reply.Dropped) ∷
    Asks 1007 (input.View (page.Run (k 2 4 0 0))) (ShowsRun (None ∷ Some 1005 ∷ None ∷ None ∷ None ∷ Some 1007 ∷ []) state.Canceled []) ∷
    Asks 1007 (input.Drop 2 (k 2 9 0 0)) (Says reply.Dropped) ∷
    Asks 1007 input.Turn (Says (reply.Changes 1)) ∷
    Asks 1008 (input.Drop 2 (k 2 1 0 0)) (Says reply.Dropped) ∷
    Asks 1008 (input.Collect 2 (k 2 1 0 0)) (Says (reply.State state.Running)) ∷
    Stands 1007 3 0 1 ∷
    Asks 1017 input.Turn (Says (reply.Changes 1)) ∷
    Asks 1017 (input.Collect 2 (k 2 1 0 0)) (Says (reply.Result (codes "{\"duration\":\"PT10S\",\"schema\":1,\"succeeded\":true}"))) ∷
    Asks 1017 (input.Collect 2 (k 2 9 0 0)) (Says reply.NotFound) ∷
    Asks 1017 (input.Collect 2 (k 2 3 0 0)) (ClosedAs state.Preempted) ∷
    Asks 1017 (input.Collect 3 (k 2 1 0 0)) (Says reply.NotLead) ∷
    Asks 1020 (input.Propose 2 (proposal (k 2 5 0 0) many (codes "sleep") 1200 (pos 0) (codes "10.0.0.9") (codes "b"))) (Says (reply.Accepted 1020)) ∷
    Asks 1079 (input.Collect 2 (k 2 5 0 0)) (Says (reply.State state.Pending)) ∷
    Asks 1080 (input.Confirm 2 (k 2 5 0 0)) (ClosedAs state.Nonstart) ∷
    Asks 1080 (input.Propose 2 (proposal (k 2 5 0 0) many (codes "sleep") 1200 (pos 0) (codes "10.0.0.9") (codes "b"))) (Says (reply.Denied (denial.Closed state.Nonstart))) ∷
    Asks 1100 (input.Propose 2 (proposal (k 2 6 0 0) stream (codes "simplestreamer") 1110 (pos 0) (codes "10.0.0.9") (codes "b"))) (Says (reply.Accepted 1100)) ∷
    Asks 1101 (input.Confirm 2 (k 2 6 0 0)) (Says (reply.Confirmed 1101)) ∷
    Asks 1110 input.Turn (Says (reply.Changes 1)) ∷
    Asks 1111 input.Turn (Says (reply.Changes 0)) ∷
    Asks 1112 (input.Material 2 (k 2 6 0 0) (codes "hello")) (Says reply.MaterialHeard) ∷
    Stands 1112 5 0 1 ∷
    Asks 1113 (input.Material 2 (k 2 6 0 0) (codes "hello")) (Says reply.MaterialHeard) ∷
    Stands 1112 5 0 1 ∷
    Asks 1113 input.Turn (Says (reply.Changes 1)) ∷
    Asks 1113 (input.Material 2 (k 2 6 0 0) (codes "hello")) (Says reply.NotRunning) ∷
    Asks 1113 (input.Material 2 (k 2 9 0 0) (codes "hello")) (Says reply.NotFound) ∷
    Asks 1113 (input.Material 2 (k 2 3 0 0) (codes "hello")) (ClosedAs state.Preempted) ∷
    Asks 1113 (input.Collect 2 (k 2 6 0 0)) (Says (reply.Result (codes "{\"received\":\"hello\",\"schema\":1,\"succeeded\":true}"))) ∷
    Asks 1200 (input.Propose 3 (proposal (k 3 1 0 0) stream (codes "simplestreamer") 1210 (pos 0) (codes "10.0.0.9") (codes "c"))) (Says (reply.Accepted 1200)) ∷
    Asks 1201 (input.Confirm 3 (k 3 1 0 0)) (Says (reply.Confirmed 1201)) ∷
    Asks 1210 input.Turn (Says (reply.Changes 1)) ∷
    Asks 1216 input.Turn (Says (reply.Changes 0)) ∷
    Asks 1217 input.Turn (Says (reply.Changes 1)) ∷
    Asks 1217 (input.Collect 3 (k 3 1 0 0)) (Says (reply.Result (codes "{\"error\":\"timed out\",\"schema\":1,\"succeeded\":false}"))) ∷
    Asks 700000 input.Turn (Says (reply.Changes 6)) ∷
    Stands 700000 0 0 1 ∷
    []

taken_part : told host_a empty_book taken_part_script ≡ wanted taken_part_script
unfolding is_utf8 chars encode digits serde_json_on_literals escape_byte length_of amount_of days_at count_at clock_at seconds_at leading_number begins_as fraction_at length_text_of first_from ipv4_of ipv6_of read_number read_octet read_ipv4 read_segment read_segments read_ipv6
taken_part = refl
