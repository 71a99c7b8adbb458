-- A host, requests to it and responses to its orders, and what they come to, in words.
use Rattle.std.specs.Fmt.{decimal, signed_decimal}
use Rattle.std.specs.Prelude.{◌∷◌, ◌++◌, Err, List, None, Ok, Option, Result, Some, [], codes, false, length, pos, true, ℕ}
use Rattle.ps_http.specs.declared.message.PeerMark.{PeerMark}
use Rattle.ps_http.specs.declared.message.Request.{Request}
use Rattle.ps_http.specs.declared.message.Response.{Response}
use Rattle.ps_time.specs.declared.asker.Verdict.{Verdict}
use Rattle.ps_time.specs.declared.asker.Verdict.TheVariants.{AboveCeiling, Exhausted, Permitted, Stopped}
use Rattle.ps_time.specs.declared.key.RunKey.{RunKey}
use Rattle.plugin_core.specs.TestSpec.{sleep_of}
use Rattle.plugin_core.specs.declared.test_spec.TestSpec.{TestSpec}
use Rattle.plugin_core.specs.declared.test_spec.TestSpec.TheVariants.{Idle}
use Rattle.limit_apply.specs.Open.{open_config}
use Rattle.run_states.specs.State.{state_text}
use Rattle.run_states.specs.declared.answer.FreeAnswer.{FreeAnswer}
use Rattle.run_states.specs.declared.proposal.Proposal.{Proposal}
use Rattle.run_states.specs.declared.proposal.Question.{Question}
use Rattle.run_states.specs.declared.why.Denial.{Denial}
use Rattle.run_states.specs.declared.why.What.{What}
use Rattle.run_states.specs.declared.why.What.TheVariants.{Numbers, Results, Runs}
use Rattle.host_model.specs.declared.config.Config.{Config}
use Rattle.host_model.specs.declared.config.Peer.{Peer}
use Rattle.host_model.specs.declared.input.Input.{Input}
use Rattle.host_model.specs.declared.order.OrderBody.{OrderBody}
use Rattle.host_model.specs.declared.order.PeerAnswer.{PeerAnswer}
use Rattle.host_model.specs.declared.view.Page.{Page}
use Rattle.api_input.specs.Understood.{understood}
use Rattle.api_input.specs.declared.refusal.Refusal.{Refusal}
use Rattle.api_reply.specs.Shown.{run_text}
use Rattle.api_reply.specs.Errors.{refused}
use Rattle.api_answer.specs.Heard.{heard_of}
use Rattle.api_peer.specs.Ordered.{order_request_of}
use Rattle.run_states.specs.declared.why.Denial.TheVariants as denial
use Rattle.host_model.specs.declared.input.Input.TheVariants as input
use Rattle.host_model.specs.declared.order.OrderBody.TheVariants as order
use Rattle.host_model.specs.declared.order.PeerAnswer.TheVariants as answer
use Rattle.host_model.specs.declared.view.Page.TheVariants as page

-- ---- the host `a` with number 1 and the peers `b` and `c`
abbrev peer : ℕ → List ℕ → List ℕ → Peer
peer number name key = record { number = number; name = name; authority = codes "localhost:8081"; key = key }

abbrev host : Config
host = record { number = 1; name = codes "a"; authority = codes "localhost:8080"; peers = peer 2 (codes "b") (codes "secret") ∷ peer 3 (codes "c") (codes "other") ∷ []; installed = []; limits = open_config }

-- ---- a request, and what is told of it
pub record Case : Type 0 where
  pub want : List ℕ
  pub request : Request

abbrev pub from : ℕ → List ℕ → Option PeerMark
from number key = Some (record { number = number; key = key })

abbrev pub asks : List ℕ → List ℕ → List ℕ → Option (List ℕ) → Option PeerMark → List ℕ → Case
asks want method path query peer body = record { want = want; request = record { method = method; path = path; query = query; peer = peer; close = false; body = body } }

-- ---- answers of peers in words
abbrev told_verdict : Verdict → List ℕ
told_verdict (Permitted index) = codes "denied permitted"
told_verdict (Stopped index) = codes "denied stopped " ++ decimal index
told_verdict Exhausted = codes "denied exhausted"
told_verdict (AboveCeiling ceiling) = codes "denied above " ++ signed_decimal ceiling

abbrev told_what : What → List ℕ
told_what Runs = codes "runs"
told_what Results = codes "results"
told_what Numbers = codes "numbers"

abbrev told_differs : Proposal → Proposal → List ℕ
told_differs kept sent =
    codes "denied differs " ++ decimal kept.start ++ codes " from " ++ kept.asker.server ++ codes ", " ++ decimal sent.start ++ codes " from " ++ sent.asker.server

abbrev told_denial : Denial → List ℕ
told_denial (denial.Limits verdict) = told_verdict verdict
told_denial (denial.Past m start) = codes "denied past " ++ decimal m ++ codes " " ++ decimal start
told_denial (denial.Conflict key) = codes "denied conflict " ++ run_text key
told_denial (denial.Full what count) = codes "denied full " ++ told_what what ++ codes " " ++ decimal count
told_denial (denial.Differs kept sent) = told_differs kept sent
told_denial (denial.Closed state) = codes "denied closed " ++ state_text state
told_denial denial.NotParticipant = codes "denied stranger"
told_denial (denial.NoTool tool) = codes "denied no tool " ++ tool

-- how many windows are in each tier, and how many tools
abbrev told_free : FreeAnswer → List ℕ
told_free free = codes "free " ++ decimal (length free.tiers.first) ++ codes " " ++ decimal (length free.tiers.second) ++ codes " " ++ decimal (length free.tools)

abbrev told_answer : PeerAnswer → List ℕ
told_answer (answer.Free free) = told_free free
told_answer (answer.Accepted m) = codes "accepted " ++ decimal m
told_answer (answer.Confirmed m) = codes "confirmed " ++ decimal m
told_answer answer.Dropped = codes "dropped"
told_answer answer.MaterialHeard = codes "heard"
told_answer (answer.Result text) = codes "result " ++ text
told_answer (answer.State state) = codes "state " ++ state_text state
told_answer (answer.Denied d) = told_denial d
told_answer answer.Unknown = codes "unknown"
told_answer (answer.Other status) = codes "other " ++ decimal status

-- ---- inputs in words
abbrev told_run : List ℕ → ℕ → RunKey → List ℕ
told_run word sender key = word ++ codes " of " ++ decimal sender ++ codes " " ++ run_text key

abbrev told_page : Page → List ℕ
told_page page.Home = codes "home"
told_page page.Clock = codes "clock"
told_page page.Tests = codes "tests"
told_page page.Tools = codes "tools"
told_page page.Archivers = codes "archivers"
told_page (page.Test name) = codes "test " ++ name
told_page page.Tasks = codes "tasks"
told_page (page.Task serial) = codes "task " ++ decimal serial
told_page (page.Runs serial) = codes "runs " ++ decimal serial
told_page (page.Run key) = codes "run " ++ run_text key
told_page (page.Schedule start end) = codes "schedule " ++ decimal start ++ codes " " ++ decimal end

abbrev told_question : ℕ → Question → List ℕ
told_question sender q =
    codes "free of " ++ decimal sender ++ codes " for " ++ run_text q.key ++ codes " from " ++ decimal q.window.first ++ codes " to " ++ decimal q.window.last ++ codes " at " ++ signed_decimal q.priority

abbrev told_proposal : ℕ → Proposal → List ℕ
told_proposal sender p =
    codes "propose of " ++ decimal sender ++ codes " of " ++ run_text p.key ++ codes " at " ++ decimal p.start ++ codes " by " ++ p.asker.requester ++ codes " from " ++ p.asker.server ++ codes " with " ++ p.tool ++ codes " at " ++ signed_decimal p.priority

abbrev told_input : Input → List ℕ
told_input (input.Post task requester) = codes "post of a by " ++ requester ++ codes " with " ++ decimal (length task.tools) ++ codes " tools"
told_input (input.Cancel task requester) = codes "cancel " ++ decimal task ++ codes " by " ++ requester
told_input (input.View shown) = told_page shown
told_input (input.Free sender question) = told_question sender question
told_input (input.Propose sender proposal) = told_proposal sender proposal
told_input (input.Confirm sender key) = told_run (codes "confirm") sender key
told_input (input.Drop sender key) = told_run (codes "drop") sender key
told_input (input.Collect sender key) = told_run (codes "collect") sender key
told_input (input.Material sender key text) = told_run (codes "material") sender key ++ codes " " ++ text
told_input (input.Heard asked said) = told_answer said
told_input _ = codes "another input"

-- the status, the methods where there are some, and the body
abbrev told_response : Response → Option (List ℕ) → List ℕ
told_response r None = decimal r.status ++ codes " " ++ r.body
told_response r (Some methods) = decimal r.status ++ codes " " ++ methods ++ codes " " ++ r.body

abbrev told_refusal : Response → List ℕ
told_refusal r = told_response r r.allow

abbrev told_result : Result Input Refusal → List ℕ
told_result (Ok i) = told_input i
told_result (Err refusal) = told_refusal (refused refusal)

-- from 10.0.0.9, at moment 1000
abbrev pub told : Case → List ℕ
told c = told_result (understood host c.request (codes "10.0.0.9") 1000)

-- ---- a response to an order, and what is told of it
pub record Answer : Type 0 where
  pub want : List ℕ
  pub order : OrderBody
  pub response : Response

abbrev pub answers : List ℕ → OrderBody → ℕ → List ℕ → Answer
answers want body status bytes = record { want = want; order = body; response = record { status = status; allow = None; close = true; body = bytes } }

abbrev key : RunKey
key = record { lead = 1; task = 1; number = 0; attempt = 0 }

abbrev test : TestSpec
test = Idle (sleep_of 10)

abbrev pub a_question : OrderBody
a_question = order.Free (record { key = key; test = test; priority = pos 0; window = record { first = 1000; last = 2000 } })

abbrev pub a_proposal : OrderBody
a_proposal = order.Propose (record { key = key; test = test; tool = codes "sleep"; start = 1007; priority = pos 0; asker = record { requester = codes "10.0.0.9"; server = codes "a" } })

abbrev told_heard : Option Input → List ℕ
told_heard None = codes "none"
told_heard (Some i) = told_input i

abbrev pub told_answer_to : Answer → List ℕ
told_answer_to a = told_heard (heard_of (record { key = key; place = 1; to = []; body = a.order }) a.response)

-- ---- the request of an order, and what is told of it
abbrev told_mark : Option PeerMark → List ℕ
told_mark None = codes "no mark"
told_mark (Some mark) = decimal mark.number ++ codes ":" ++ mark.key

abbrev told_request : Option Request → List ℕ
told_request None = codes "none"
told_request (Some r) = r.method ++ codes " " ++ r.path ++ codes " " ++ told_mark r.peer ++ codes " " ++ r.body

-- to the host of this name
abbrev pub told_order : List ℕ → OrderBody → List ℕ
told_order to body = told_request (order_request_of host (record { key = key; place = 1; to = to; body = body }))
