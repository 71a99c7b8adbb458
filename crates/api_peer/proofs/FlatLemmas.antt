-- The trees of replies to orders have few levels.
use Rattle.std.proofs.Common.{◌≡◌, ◌≤◌, ◌∷◌, List, [], arith, map, refl, ℕ}
use Rattle.serde_json.specs.Data.{depth, items_depth}
use Rattle.serde_json.specs.View.{items_of}
use Rattle.ps_time.specs.Span.{Range}
use Rattle.ps_time.specs.declared.asker.Verdict.{Verdict}
use Rattle.ps_time.specs.declared.asker.Verdict.TheVariants.{Permitted, Stopped, Exhausted, AboveCeiling}
use Rattle.plugin_core.proofs.ShapeLemmas.{names_flat, test_flat}
use Rattle.run_states.specs.declared.answer.FreeAnswer.{FreeAnswer}
use Rattle.run_states.specs.declared.proposal.Proposal.{Proposal}
use Rattle.run_states.specs.declared.why.Denial.{Denial}
use Rattle.run_states.specs.declared.why.Denial.TheVariants as denial
use Rattle.host_model.specs.declared.config.Config.{Config}
use Rattle.host_model.specs.declared.order.OrderBody.{OrderBody}
use Rattle.host_model.specs.declared.order.OrderBody.TheVariants as order
use Rattle.host_model.specs.declared.reply.Reply.{Reply}
use Rattle.host_model.specs.declared.reply.Reply.TheVariants as reply
use Rattle.api_reply.specs.Denials.{denial_data, limits_data, proposal_data}
use Rattle.api_reply.specs.Replies.{free_told, reply_data, window_data}
use Rattle.api_reply.specs.Shown.{second_data}
use Rattle.api_peer.specs.Replied.{IsCancelReply, IsConfirmReply, IsFreeReply, IsMaterialReply, IsProposeReply, IsReplyTo, IsResultReply}

second_flat : (m : ℕ) → depth (second_data m) ≡ 0
unfolding second_data
second_flat m = refl

window_flat : (w : Range) → depth (window_data w) ≡ 1
window_flat w = rw (second_flat w.first, second_flat w.last) refl

windows_flat : (ws : List Range) → items_depth (items_of (map window_data ws)) ≤ 1
windows_flat [] = omega arith
windows_flat (w ∷ ws) = rw (window_flat w) (omega (arith, windows_flat ws))

free_flat : (a : FreeAnswer) → depth (free_told a) ≤ 64
free_flat a = rw (names_flat a.tools) (omega (arith, windows_flat a.tiers.first, windows_flat a.tiers.second))

proposal_flat : (p : Proposal) → depth (proposal_data p) ≤ 4
proposal_flat p = rw (second_flat p.start) (omega (arith, test_flat p.test))

limits_flat : (v : Verdict) → depth (limits_data v) ≤ 64
limits_flat (Permitted i) = omega arith
limits_flat (Stopped i) = omega arith
limits_flat Exhausted = omega arith
limits_flat (AboveCeiling z) = omega arith

denial_flat : (name : List ℕ) (d : Denial) → depth (denial_data name d) ≤ 64
denial_flat name (denial.Limits v) = limits_flat v
denial_flat name (denial.Past m start) = rw (second_flat m, second_flat start) (omega arith)
denial_flat name (denial.Conflict k) = omega arith
denial_flat name (denial.Full what count) = omega arith
denial_flat name (denial.Differs kept sent) = omega (arith, proposal_flat kept, proposal_flat sent)
denial_flat name (denial.Closed s) = omega arith
denial_flat name denial.NotParticipant = omega arith
denial_flat name (denial.NoTool tool) = omega arith

module _ (c : Config) where
  abbrev IsFlat : Reply → Type 0
  IsFlat r = depth (reply_data c r) ≤ 64

  free_reply : (r : Reply) → IsFreeReply r → IsFlat r
  free_reply (reply.Free a) is = free_flat a
  free_reply (reply.Denied d) is = denial_flat c.name d
  free_reply reply.NotLead is = omega arith
  free_reply _ is = absurd is

  propose_reply : (lead : List ℕ) (r : Reply) → IsProposeReply lead r → IsFlat r
  propose_reply lead (reply.Accepted m) is = rw (second_flat m) (omega arith)
  propose_reply lead (reply.Denied d) is = denial_flat c.name d
  propose_reply lead reply.NotLead is = omega arith
  propose_reply lead _ is = absurd is

  confirm_reply : (r : Reply) → IsConfirmReply r → IsFlat r
  confirm_reply (reply.Confirmed m) is = rw (second_flat m) (omega arith)
  confirm_reply reply.Unknown is = omega arith
  confirm_reply (reply.Closed why) is = omega arith
  confirm_reply reply.NotLead is = omega arith
  confirm_reply _ is = absurd is

  cancel_reply : (r : Reply) → IsCancelReply r → IsFlat r
  cancel_reply reply.Dropped is = omega arith
  cancel_reply reply.NotLead is = omega arith
  cancel_reply _ is = absurd is

  material_reply : (r : Reply) → IsMaterialReply r → IsFlat r
  material_reply reply.MaterialHeard is = omega arith
  material_reply reply.NotFound is = omega arith
  material_reply (reply.Closed why) is = omega arith
  material_reply reply.NotRunning is = omega arith
  material_reply reply.NotLead is = omega arith
  material_reply _ is = absurd is

  result_reply : (r : Reply) → IsResultReply r → IsFlat r
  result_reply (reply.Result text) is = rw is.kept.reads (omega (arith, is.kept.flat))
  result_reply (reply.State s) is = omega arith
  result_reply reply.NotFound is = omega arith
  result_reply (reply.Closed why) is = omega arith
  result_reply reply.NotLead is = omega arith
  result_reply _ is = absurd is

  pub reply_flat : (body : OrderBody) (r : Reply) → IsReplyTo body r → IsFlat r
  reply_flat (order.Free q) r is = free_reply r is
  reply_flat (order.Propose p) r is = propose_reply p.asker.server r is
  reply_flat order.Confirm r is = confirm_reply r is
  reply_flat order.Cancel r is = cancel_reply r is
  reply_flat (order.Material text) r is = material_reply r is
  reply_flat order.Result r is = result_reply r is
