-- What is replied to an order is heard as it was meant.
use Rattle.std.proofs.Common.{◌==◌, ◌||◌, ◌≡◌, ◌≤◌, ◌∙◌, Err, IfOk, List, None, Ok, Option, Result, Some, arith, false, if◌then◌else◌, length, nat_le, refl, true, ℕ}
use Rattle.std.proofs.lemmas.Bool.Decides.{nat_tests}
use Rattle.std.specs.Result.{result_ok}
use Rattle.serde_json.specs.Data.{Data, depth}
use Rattle.serde_json.specs.Written.{compact_text}
use Rattle.ps_http.specs.declared.message.Response.{Response}
use Rattle.ps_json.specs.Tree.{tree_of}
use Rattle.ps_time.specs.Numbers.{most_request_bytes}
use Rattle.plugin_core.specs.Bounds.{IsTest}
use Rattle.plugin_core.specs.ReadTest.{test_of}
use Rattle.plugin_core.specs.WriteTest.{test_data}
use Rattle.plugin_core.specs.declared.test_spec.TestSpec.{TestSpec}
use Rattle.run_states.specs.Life.{closed_state}
use Rattle.run_states.specs.declared.proposal.Proposal.{Proposal}
use Rattle.run_states.specs.declared.proposal.Question.{Question}
use Rattle.run_states.specs.declared.why.Denial.{Denial}
use Rattle.run_states.specs.declared.why.Denial.TheVariants as denial
use Rattle.host_model.specs.declared.config.Config.{Config}
use Rattle.host_model.specs.declared.input.Input.{Input}
use Rattle.host_model.specs.declared.input.Input.TheVariants as input
use Rattle.host_model.specs.declared.order.Order.{Order}
use Rattle.host_model.specs.declared.order.OrderBody.{OrderBody}
use Rattle.host_model.specs.declared.order.OrderBody.TheVariants as order
use Rattle.host_model.specs.declared.order.PeerAnswer.{PeerAnswer}
use Rattle.host_model.specs.declared.order.PeerAnswer.TheVariants as answer
use Rattle.host_model.specs.declared.reply.Reply.{Reply}
use Rattle.host_model.specs.declared.reply.Reply.TheVariants as reply
use Rattle.world_law.specs.World.{heard_as}
use Rattle.api_reply.specs.Denials.{denial_data, denial_status}
use Rattle.api_reply.specs.Replies.{reply_data, reply_status, response_of}
use Rattle.api_answer.specs.Denied.{denial_told}
use Rattle.api_answer.specs.Heard.{answer_to, denied_or, heard_of, lead_of, not_found, told_in}
use Rattle.api_peer.proofs.DenialLemmas.{closed_back, denial_back}
use Rattle.api_peer.proofs.FlatLemmas.{reply_flat}
use Rattle.api_peer.proofs.ToldLemmas.{accepted_back, confirmed_back, free_back, result_back, state_back}
use Rattle.api_peer.specs.Replied.{IsCancelReply, IsConfirmReply, IsDenialTold, IsFreeReply, IsMaterialReply, IsProposeReply, IsReplyTo, IsResultReply}

-- what a response with this status and tree tells
abbrev tells : OrderBody → ℕ → Data → Option PeerAnswer
tells body status d =
    if status == 200 then result_ok (told_in body d)
    else if status == 403 || (status == 409 || status == 507) then Some (denied_or status (denial_told (lead_of body) d))
    else if status == 404 then Some (not_found body)
    else Some (answer.Other status)

by_tree : (body : OrderBody) (status : ℕ) (bytes : List ℕ) (d : Data) → nat_le (length bytes) most_request_bytes ≡ true → tree_of bytes ≡ Ok d
    → answer_to body (record { status = status; allow = None; close = false; body = bytes }) ≡ tells body status d
by_tree body status bytes d short reads = rw (short, reads) refl

-- ---- by status
ok_put : (body : OrderBody) (d : Data) (a : PeerAnswer) → told_in body d ≡ Ok a → tells body 200 d ≡ Some a
ok_put body d a is = rw is refl

denied_put : (body : OrderBody) (status : ℕ) (d : Data) (denied : Denial) → (status == 200) ≡ false → (status == 403 || (status == 409 || status == 507)) ≡ true → denial_told (lead_of body) d ≡ Ok denied → tells body status d ≡ Some (answer.Denied denied)
denied_put body status d denied other denies is = rw (other, denies, is) refl

told_denial : (tests : (test : TestSpec) → IsTest test → test_of (test_data test) ≡ Ok test) (body : OrderBody) (name : List ℕ) (d : Denial) → length (compact_text (denial_data name d)) ≤ most_request_bytes → IsDenialTold (lead_of body) d → tells body (denial_status d) (denial_data name d) ≡ Some (answer.Denied d)
told_denial tests body name d short is = go d (denial_back (lead_of body) tests name d short is)
  where
    go : (d : Denial) → denial_told (lead_of body) (denial_data name d) ≡ Ok d → tells body (denial_status d) (denial_data name d) ≡ Some (answer.Denied d)
    go (denial.Limits v) back = denied_put body 403 (denial_data name (denial.Limits v)) (denial.Limits v) refl refl back
    go (denial.Past m s) back = denied_put body 409 (denial_data name (denial.Past m s)) (denial.Past m s) refl refl back
    go (denial.Conflict k) back = denied_put body 409 (denial_data name (denial.Conflict k)) (denial.Conflict k) refl refl back
    go (denial.Full w n) back = denied_put body 507 (denial_data name (denial.Full w n)) (denial.Full w n) refl refl back
    go (denial.Differs p q) back = denied_put body 409 (denial_data name (denial.Differs p q)) (denial.Differs p q) refl refl back
    go (denial.Closed s) back = denied_put body 409 (denial_data name (denial.Closed s)) (denial.Closed s) refl refl back
    go denial.NotParticipant back = denied_put body 409 (denial_data name denial.NotParticipant) denial.NotParticipant refl refl back
    go (denial.NoTool tool) back = denied_put body 409 (denial_data name (denial.NoTool tool)) (denial.NoTool tool) refl refl back

-- ---- by order
module _ (c : Config) where
  abbrev Tells : OrderBody → Reply → Type 0
  Tells body r = tells body (reply_status r) (reply_data c r) ≡ Some (heard_as r)

  closed_told : (body : OrderBody) (why : _) → Tells body (reply.Closed why)
  closed_told body why = denied_put body 409 (reply_data c (reply.Closed why)) (denial.Closed (closed_state why)) refl refl (closed_back (lead_of body) (closed_state why))

  free_told : (q : Question) (r : Reply) → IsFreeReply r → Tells (order.Free q) r
  free_told q (reply.Free a) is = ok_put (order.Free q) (reply_data c (reply.Free a)) (answer.Free a) (rw (free_back a is) refl)
  free_told q (reply.Denied denial.NotParticipant) is = refl
  free_told q reply.NotLead is = refl
  free_told q _ is = absurd is

  propose_told : ((test : TestSpec) → IsTest test → test_of (test_data test) ≡ Ok test) → (p : Proposal) (r : Reply) → length (compact_text (reply_data c r)) ≤ most_request_bytes → IsProposeReply p.asker.server r → Tells (order.Propose p) r
  propose_told tests p (reply.Accepted m) small is = ok_put (order.Propose p) (reply_data c (reply.Accepted m)) (answer.Accepted m) (rw (accepted_back m is) refl)
  propose_told tests p (reply.Denied d) small is = told_denial tests (order.Propose p) c.name d small is
  propose_told tests p reply.NotLead small is = refl
  propose_told tests p _ small is = absurd is

  confirm_told : (r : Reply) → IsConfirmReply r → Tells order.Confirm r
  confirm_told (reply.Confirmed m) is = ok_put order.Confirm (reply_data c (reply.Confirmed m)) (answer.Confirmed m) (rw (confirmed_back m is) refl)
  confirm_told reply.Unknown is = refl
  confirm_told (reply.Closed why) is = closed_told order.Confirm why
  confirm_told reply.NotLead is = refl
  confirm_told _ is = absurd is

  cancel_told : (r : Reply) → IsCancelReply r → Tells order.Cancel r
  cancel_told reply.Dropped is = refl
  cancel_told reply.NotLead is = refl
  cancel_told _ is = absurd is

  material_told : (text : List ℕ) (r : Reply) → IsMaterialReply r → Tells (order.Material text) r
  material_told text reply.MaterialHeard is = refl
  material_told text reply.NotFound is = refl
  material_told text (reply.Closed why) is = closed_told (order.Material text) why
  material_told text reply.NotRunning is = refl
  material_told text reply.NotLead is = refl
  material_told text _ is = absurd is

  result_told : (r : Reply) → IsResultReply r → Tells order.Result r
  result_told (reply.Result text) is = ok_put order.Result (reply_data c (reply.Result text)) (answer.Result text) (result_back text is)
  result_told (reply.State s) is = ok_put order.Result (reply_data c (reply.State s)) (answer.State s) (state_back s)
  result_told reply.NotFound is = refl
  result_told (reply.Closed why) is = closed_told order.Result why
  result_told reply.NotLead is = refl
  result_told _ is = absurd is

  reply_told : ((test : TestSpec) → IsTest test → test_of (test_data test) ≡ Ok test) → (body : OrderBody) (r : Reply) → length (compact_text (reply_data c r)) ≤ most_request_bytes → IsReplyTo body r → Tells body r
  reply_told tests (order.Free q) r small is = free_told q r is
  reply_told tests (order.Propose p) r small is = propose_told tests p r small is
  reply_told tests order.Confirm r small is = confirm_told r is
  reply_told tests order.Cancel r small is = cancel_told r is
  reply_told tests (order.Material text) r small is = material_told text r is
  reply_told tests order.Result r small is = result_told r is

  -- what is told with a body that is read again and not too long
  pub reply_heard : ((test : TestSpec) → IsTest test → test_of (test_data test) ≡ Ok test) → (body : OrderBody) (r : Reply) → IsReplyTo body r → tree_of (compact_text (reply_data c r)) ≡ Ok (reply_data c r)
      → length (compact_text (reply_data c r)) ≤ most_request_bytes → answer_to body (response_of c r) ≡ Some (heard_as r)
  reply_heard tests body r is reads small =
      let short : nat_le (length (compact_text (reply_data c r))) most_request_bytes ≡ true = grind (arith, nat_tests) in
      by_tree body (reply_status r) (compact_text (reply_data c r)) (reply_data c r) short reads ∙ reply_told tests body r small is

  -- the same of the calls
  pub meant : (o : Order) (r : Reply) {E : Type 0} (response : Response) (made : Result (Option Input) E) → ((test : TestSpec) → IsTest test → test_of (test_data test) ≡ Ok test)
      → response ≡ response_of c r → (depth (reply_data c r) ≤ 64 → tree_of response.body ≡ Ok (reply_data c r)) → IfOk made (λ i. i ≡ heard_of o response)
      → IfOk made (λ i. IsReplyTo o.body r → length (compact_text (reply_data c r)) ≤ most_request_bytes → i ≡ Some (input.Heard o (heard_as r)))
  meant o r response (Err e) tests is reads heard = tt
  meant o r response (Ok i) tests is reads heard =
      λ replies short.
      let again : tree_of (compact_text (reply_data c r)) ≡ Ok (reply_data c r) = rw is at (reads (reply_flat c o.body r replies)) in
      heard ∙ (rw (is, reply_heard tests o.body r replies again short) refl)
