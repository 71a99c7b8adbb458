-- The request that each order is.
use Rattle.std.specs.Str.{bytes_eq}
use Rattle.std.specs.Prelude.{◌++◌, List, None, Option, Some, [], codes, find, option_map, true, ℕ}
use Rattle.serde_json.specs.Data.{Data, member, no_members, number, object, string}
use Rattle.serde_json.specs.Find.{of_integer}
use Rattle.serde_json.specs.Written.{compact_text}
use Rattle.ps_http.specs.declared.message.PeerMark.{PeerMark}
use Rattle.ps_http.specs.declared.message.Request.{Request}
use Rattle.ps_time.specs.declared.key.RunKey.{RunKey}
use Rattle.plugin_core.specs.Bounds.{IsTest}
use Rattle.plugin_core.specs.WriteTest.{test_data}
use Rattle.run_states.specs.declared.proposal.Question.{Question}
use Rattle.host_model.specs.declared.config.Config.{Config}
use Rattle.host_model.specs.declared.config.Peer.{Peer}
use Rattle.host_model.specs.declared.order.Order.{Order}
use Rattle.host_model.specs.declared.order.OrderBody.{OrderBody}
use Rattle.host_model.specs.declared.order.OrderBody.TheVariants.{Free, Propose, Confirm, Cancel, Material, Result}
use Rattle.api_reply.specs.Denials.{proposal_data}
use Rattle.api_reply.specs.Shown.{run_text, second_data}

-- ---- bodies
-- `{"first":A,"key":ID,"last":B,"priority":P,"test":TEST}`
abbrev pub question_data : Question → Data
question_data q =
    object (member (codes "first") (second_data q.window.first) (
    member (codes "key") (string (run_text q.key)) (
    member (codes "last") (second_data q.window.last) (
    member (codes "priority") (number (of_integer q.priority)) (
    member (codes "test") (test_data q.test) no_members)))))

-- `{"material":TEXT}`
abbrev pub material_data : List ℕ → Data
material_data text = object (member (codes "material") (string text) no_members)

-- ---- requests
-- what is asked of a run, at the host that has it
abbrev pub run_path : RunKey → List ℕ → List ℕ
run_path k asked = codes "/pscheduler/peer/runs/" ++ (run_text k ++ asked)

-- with this method, path and body; its connection is closed after the reply
abbrev pub asked : PeerMark → List ℕ → List ℕ → List ℕ → Request
asked mark method path body = record { method = method; path = path; query = None; peer = Some mark; close = true; body = body }

-- an order about the run of a key
abbrev pub request_by : PeerMark → RunKey → OrderBody → Request
request_by mark k (Free q) = asked mark (codes "POST") (codes "/pscheduler/peer/free") (compact_text (question_data q))
request_by mark k (Propose p) = asked mark (codes "POST") (codes "/pscheduler/peer/runs") (compact_text (proposal_data p))
request_by mark k Confirm = asked mark (codes "PUT") (run_path k (codes "/confirm")) []
request_by mark k Cancel = asked mark (codes "DELETE") (run_path k []) []
request_by mark k (Material text) = asked mark (codes "PUT") (run_path k (codes "/material")) (compact_text (material_data text))
request_by mark k Result = asked mark (codes "GET") (run_path k (codes "/result")) []

-- ---- to whom
abbrev pub peer_named : List Peer → List ℕ → Option Peer
peer_named peers name = find (λ p. bytes_eq p.name name) peers

-- a host shows its number and the key that it shares with the peer
abbrev pub mark_for : Config → Peer → PeerMark
mark_for c p = record { number = c.number; key = p.key }

-- None where the participant is no peer
abbrev pub order_request_of : Config → Order → Option Request
order_request_of c order = option_map (λ p. request_by (mark_for c p) order.key order.body) (peer_named c.peers order.to)

-- ---- what may be ordered
-- its test is within bounds
abbrev pub IsOrder : OrderBody → Type 0
IsOrder (Free q) = IsTest q.test
IsOrder (Propose p) = IsTest p.test
IsOrder _ = Unit {0}
