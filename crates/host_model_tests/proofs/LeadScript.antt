-- Runs with another host, which a host leads, computed.
use Rattle.std.specs.Prelude.{List, None, Some, [], codes, ◌∷◌, ◌≡◌}
use Rattle.std.specs.Fmt.{digits}
use Rattle.std.specs.Net.Reader.{read_ipv4, read_ipv6, read_number, read_octet, read_segment, read_segments}
use Rattle.std.specs.Str.{chars, is_utf8}
use Rattle.std.proofs.Common.{refl}
use lib.Utf8.{encode}
use Rattle.json.specs.Print.{escape_byte}
use Rattle.serde_json.proofs.OnLiterals.{serde_json_on_literals}
use Rattle.ps_time.specs.Length.{amount_of, clock_at, count_at, days_at, length_of, length_text_of, seconds_at}
use Rattle.ps_time.specs.Picture.{begins_as, fraction_at, leading_number}
use Rattle.schedule_rule.specs.Rule.{first_from}
use Rattle.limit_ident.specs.Address.{ipv4_of, ipv6_of}
use Rattle.host_model.specs.Book.{empty_book}
use Rattle.host_model_tests.proofs.Given.{free_of, free_with, good_result, host_a, k, order_to_b, pair, propose_of, stream_out}
use Rattle.host_model_tests.proofs.Script.{Line, Line.Asks, Line.Stands, Said.Says, Said.ShowsRun, told, wanted}
use Rattle.host_model.specs.declared.order.PeerAnswer.TheVariants as answer
use Rattle.run_states.specs.declared.why.Denial.TheVariants as denial
use Rattle.host_model.specs.declared.input.Input.TheVariants as input
use Rattle.host_model.specs.declared.order.OrderBody.TheVariants as order
use Rattle.host_model.specs.declared.view.Page.TheVariants as page
use Rattle.host_model.specs.declared.reply.Reply.TheVariants as reply
use Rattle.run_states.specs.declared.state.State.TheVariants as state

-- ---- attempts, plans, and what becomes of every answer
abbrev led_script : List Line
led_script =
    Asks 1000 input.Open (Says (reply.Changes 1)) ∷
    Asks 1000 (input.Post (pair 1000) (codes "10.0.0.9")) (Says (reply.Posted 1)) ∷
    Asks 1001 input.Turn (Says (reply.Changes 1)) ∷
    Asks 1001 (input.Heard (order_to_b (k 1 1 0 0) 0 (free_of (k 1 1 0 0))) (answer.Free (free_with (codes "sleep") 1006 1300))) (Says reply.Heard) ∷
    Asks 1001 (input.Heard (order_to_b (k 1 1 0 0) 1 (free_of (k 1 1 0 0))) (answer.Accepted 1001)) (Says reply.Heard) ∷
    Asks 1001 (input.Heard (order_to_b (k 1 1 0 0) 1 (free_of (k 1 1 0 0))) (answer.Other 500)) (Says reply.Heard) ∷
    Asks 1001 (input.Heard (order_to_b (k 1 1 0 1) 1 (free_of (k 1 1 0 1))) (answer.Free (free_with (codes "sleep") 1006 1300))) (Says reply.Heard) ∷
    Asks 1002 input.Turn (Says (reply.Changes 0)) ∷
    Stands 1001 1 1 1 ∷
    Asks 1002 (input.Heard (order_to_b (k 1 1 0 0) 1 (free_of (k 1 1 0 0))) (answer.Free (free_with (codes "sleep") 1006 1300))) (Says reply.Heard) ∷
    Stands 1002 1 1 1 ∷
    Asks 1002 input.Turn (Says (reply.Changes 1)) ∷
    Asks 1002 (input.View (page.Run (k 1 1 0 0))) (ShowsRun (Some 1001 ∷ Some 1002 ∷ None ∷ None ∷ None ∷ None ∷ []) state.Pending []) ∷
    Asks 1003 (input.Heard (order_to_b (k 1 1 0 0) 1 (propose_of (k 1 1 0 0))) (answer.Accepted 1003)) (Says reply.Heard) ∷
    Asks 1003 (input.View (page.Run (k 1 1 0 0))) (ShowsRun (Some 1001 ∷ Some 1002 ∷ Some 1003 ∷ None ∷ None ∷ None ∷ []) state.OnDeck []) ∷
    Asks 1004 (input.Heard (order_to_b (k 1 1 0 0) 1 order.Confirm) (answer.Confirmed 1004)) (Says reply.Heard) ∷
    Stands 1004 1 1 1 ∷
    Asks 1005 (input.Heard (order_to_b (k 1 1 0 0) 1 order.Confirm) (answer.Confirmed 1004)) (Says reply.Heard) ∷
    Stands 1004 1 1 1 ∷
    Asks 1007 input.Turn (Says (reply.Changes 1)) ∷
    Asks 1017 input.Turn (Says (reply.Changes 1)) ∷
    Asks 1018 (input.Heard (order_to_b (k 1 1 0 0) 1 order.Result) (answer.State state.Running)) (Says reply.Heard) ∷
    Stands 1017 1 1 1 ∷
    Asks 1019 (input.Heard (order_to_b (k 1 1 0 0) 1 order.Result) (answer.Result good_result)) (Says reply.Heard) ∷
    Stands 1019 1 1 1 ∷
    Asks 1019 input.Turn (Says (reply.Changes 1)) ∷
    Asks 1100 (input.Post (pair 1100) (codes "10.0.0.9")) (Says (reply.Posted 2)) ∷
    Asks 1100 input.Turn (Says (reply.Changes 1)) ∷
    Asks 1100 (input.Heard (order_to_b (k 1 2 0 0) 1 (free_of (k 1 2 0 0))) (answer.Free (free_with (codes "sleep") 1006 1300))) (Says reply.Heard) ∷
    Asks 1100 input.Turn (Says (reply.Changes 1)) ∷
    Asks 1101 (input.Heard (order_to_b (k 1 2 0 0) 1 (propose_of (k 1 2 0 0))) (answer.Denied denial.NotParticipant)) (Says reply.Heard) ∷
    Asks 1101 (input.View (page.Run (k 1 2 0 0))) (ShowsRun (Some 1100 ∷ Some 1100 ∷ None ∷ None ∷ None ∷ Some 1101 ∷ []) state.Nonstart []) ∷
    Asks 1130 input.Turn (Says (reply.Changes 0)) ∷
    Asks 1131 input.Turn (Says (reply.Changes 1)) ∷
    Asks 1191 (input.View (page.Run (k 1 2 0 1))) (ShowsRun (Some 1131 ∷ None ∷ None ∷ None ∷ None ∷ Some 1191 ∷ []) state.Nonstart []) ∷
    Asks 1220 input.Turn (Says (reply.Changes 0)) ∷
    Asks 1221 input.Turn (Says (reply.Changes 1)) ∷
    Asks 1221 (input.Heard (order_to_b (k 1 2 0 2) 1 (free_of (k 1 2 0 2))) (answer.Free (free_with (codes "sleep") 1006 1300))) (Says reply.Heard) ∷
    Asks 1222 input.Turn (Says (reply.Changes 1)) ∷
    Asks 1223 (input.Heard (order_to_b (k 1 2 0 2) 1 (propose_of (k 1 2 0 2))) (answer.Accepted 1223)) (Says reply.Heard) ∷
    Asks 1224 (input.Heard (order_to_b (k 1 2 0 2) 1 order.Confirm) answer.Unknown) (Says reply.Heard) ∷
    Asks 1224 (input.View (page.Run (k 1 2 0 2))) (ShowsRun (Some 1221 ∷ Some 1222 ∷ Some 1223 ∷ None ∷ None ∷ Some 1224 ∷ []) state.Canceled []) ∷
    Asks 1225 (input.Heard (order_to_b (k 1 2 0 2) 1 order.Cancel) answer.Dropped) (Says reply.Heard) ∷
    Asks 1226 (input.Heard (order_to_b (k 1 2 0 2) 1 order.Cancel) answer.Dropped) (Says reply.Heard) ∷
    Stands 1225 4 2 1 ∷
    Asks 1300 (input.Post (stream_out 1300) (codes "10.0.0.9")) (Says (reply.Posted 3)) ∷
    Asks 1300 input.Turn (Says (reply.Changes 1)) ∷
    Asks 1300 (input.Heard (order_to_b (k 1 3 0 0) 1 (free_of (k 1 3 0 0))) (answer.Free (free_with (codes "simplestreamer") 1300 1600))) (Says reply.Heard) ∷
    Asks 1300 input.Turn (Says (reply.Changes 1)) ∷
    Asks 1300 (input.Heard (order_to_b (k 1 3 0 0) 1 (propose_of (k 1 3 0 0))) (answer.Accepted 1300)) (Says reply.Heard) ∷
    Asks 1305 input.Turn (Says (reply.Changes 1)) ∷
    Asks 1306 input.Turn (Says (reply.Changes 0)) ∷
    Asks 1307 (input.Heard (order_to_b (k 1 3 0 0) 1 (order.Material (codes "hello"))) answer.MaterialHeard) (Says reply.Heard) ∷
    Asks 1307 input.Turn (Says (reply.Changes 1)) ∷
    Asks 1307 (input.View (page.Run (k 1 3 0 0))) (ShowsRun (Some 1300 ∷ Some 1300 ∷ Some 1300 ∷ Some 1305 ∷ Some 1307 ∷ None ∷ []) state.Finished []) ∷
    Asks 1308 (input.Heard (order_to_b (k 1 3 0 0) 1 order.Result) (answer.Denied (denial.Closed state.Canceled))) (Says reply.Heard) ∷
    Asks 1308 input.Turn (Says (reply.Changes 1)) ∷
    Asks 1400 (input.Post (pair 1400) (codes "10.0.0.9")) (Says (reply.Posted 4)) ∷
    Asks 1400 input.Turn (Says (reply.Changes 1)) ∷
    Asks 1400 (input.Heard (order_to_b (k 1 4 0 0) 1 (free_of (k 1 4 0 0))) (answer.Free (free_with (codes "sleep") 2000 2100))) (Says reply.Heard) ∷
    Asks 1400 input.Turn (Says (reply.Changes 1)) ∷
    Asks 1400 (input.View (page.Run (k 1 4 0 0))) (ShowsRun (Some 1400 ∷ None ∷ None ∷ None ∷ None ∷ Some 1400 ∷ []) state.Nonstart []) ∷
    Asks 1500 (input.Post (pair 1500) (codes "10.0.0.9")) (Says (reply.Posted 5)) ∷
    Asks 1500 input.Turn (Says (reply.Changes 2)) ∷
    Asks 1500 (input.Heard (order_to_b (k 1 5 0 0) 1 (free_of (k 1 5 0 0))) (answer.Denied denial.NotParticipant)) (Says reply.Heard) ∷
    Asks 1500 (input.View (page.Run (k 1 5 0 0))) (ShowsRun (Some 1500 ∷ None ∷ None ∷ None ∷ None ∷ Some 1500 ∷ []) state.Nonstart []) ∷
    []

led : told host_a empty_book led_script ≡ wanted led_script
unfolding is_utf8 chars encode digits serde_json_on_literals escape_byte length_of amount_of days_at count_at clock_at seconds_at leading_number begins_as fraction_at length_text_of first_from ipv4_of ipv6_of read_number read_octet read_ipv4 read_segment read_segments read_ipv6
led = refl
