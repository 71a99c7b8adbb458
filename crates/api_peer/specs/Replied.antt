-- What the host to which an order comes may reply to it.
use Rattle.std.specs.Prelude.{◌+◌, ◌-◌, ◌^◌, ◌≡◌, ◌≤◌, All, List, length, negsuc, pos, true, ℕ}
use Rattle.std.specs.Int.Signed.{◌≤ℤ◌}
use Rattle.serde_json.specs.Written.{compact_text}
use Rattle.ps_time.specs.Id.{InRange}
use Rattle.ps_time.specs.Numbers.{greatest_moment, most_intervals, most_result_bytes}
use Rattle.ps_time.specs.declared.asker.Verdict.{Verdict}
use Rattle.ps_time.specs.declared.asker.Verdict.TheVariants.{Permitted, Stopped, Exhausted, AboveCeiling}
use Rattle.ps_time.specs.declared.id.Id.TheVariants.{Run}
use Rattle.archive_retry.specs.Merge.{IsResultText}
use Rattle.plugin_core.specs.Bounds.{IsTest}
use Rattle.run_states.specs.LawfulRow.{IsWindow}
use Rattle.run_states.specs.declared.answer.FreeAnswer.{FreeAnswer}
use Rattle.run_states.specs.declared.proposal.Proposal.{Proposal}
use Rattle.run_states.specs.declared.why.Denial.{Denial}
use Rattle.run_states.specs.declared.why.Denial.TheVariants as denial
use Rattle.host_model.specs.declared.order.OrderBody.{OrderBody}
use Rattle.host_model.specs.declared.order.OrderBody.TheVariants as order
use Rattle.host_model.specs.declared.reply.Reply.{Reply}
use Rattle.host_model.specs.declared.reply.Reply.TheVariants as reply
use Rattle.api_answer.specs.Denied.{most_texts}
use Rattle.api_answer.specs.Told.{are_tools}

-- ---- what is told, within its bounds
pub record IsFreeTold (answer : FreeAnswer) : Type 0 where
  pub tools : are_tools answer.tools ≡ true
  pub first : All IsWindow answer.tiers.first
  pub second : All IsWindow answer.tiers.second
  pub few_first : length answer.tiers.first ≤ most_intervals
  pub few_second : length answer.tiers.second ≤ most_intervals

-- a result is kept as its compact text
pub record IsResultTold (text : List ℕ) : Type 0 where
  pub kept : IsResultText text
  pub compact : compact_text kept.tree ≡ text
  pub short : length text ≤ most_result_bytes

-- what is permitted is never denied; numbers have their widths
abbrev pub IsVerdictTold : Verdict → Type 0
IsVerdictTold (Permitted i) = ⊥
IsVerdictTold (Stopped i) = i ≤ 4_294_967_295
IsVerdictTold Exhausted = Unit {0}
IsVerdictTold (AboveCeiling z) = (negsuc 32_767 ≤ℤ z) × (z ≤ℤ pos 32_767)

-- the lead of this name proposed it
pub record IsProposalTold (lead : List ℕ) (p : Proposal) : Type 0 where
  pub key : InRange (Run p.key)
  pub low : negsuc 32_767 ≤ℤ p.priority
  pub high : p.priority ≤ℤ pos 32_767
  pub test : IsTest p.test
  pub start : p.start ≤ greatest_moment
  pub server : p.asker.server ≡ lead
  pub short : length p.asker.requester + length p.tool + length p.asker.server ≤ most_texts

abbrev pub IsDenialTold : List ℕ → Denial → Type 0
IsDenialTold lead (denial.Limits verdict) = IsVerdictTold verdict
IsDenialTold lead (denial.Past m start) = (m ≤ greatest_moment) × (start ≤ greatest_moment)
IsDenialTold lead (denial.Conflict k) = InRange (Run k)
IsDenialTold lead (denial.Full what count) = count ≤ 2 ^ 64 - 1
IsDenialTold lead (denial.Differs kept sent) = IsProposalTold lead kept × IsProposalTold lead sent
IsDenialTold lead _ = Unit {0}

-- ---- the replies to each order
abbrev pub IsFreeReply : Reply → Type 0
IsFreeReply (reply.Free answer) = IsFreeTold answer
IsFreeReply (reply.Denied denial.NotParticipant) = Unit {0}
IsFreeReply reply.NotLead = Unit {0}
IsFreeReply _ = ⊥

abbrev pub IsProposeReply : List ℕ → Reply → Type 0
IsProposeReply lead (reply.Accepted m) = m ≤ greatest_moment
IsProposeReply lead (reply.Denied denial) = IsDenialTold lead denial
IsProposeReply lead reply.NotLead = Unit {0}
IsProposeReply lead _ = ⊥

abbrev pub IsConfirmReply : Reply → Type 0
IsConfirmReply (reply.Confirmed m) = m ≤ greatest_moment
IsConfirmReply reply.Unknown = Unit {0}
IsConfirmReply (reply.Closed why) = Unit {0}
IsConfirmReply reply.NotLead = Unit {0}
IsConfirmReply _ = ⊥

abbrev pub IsCancelReply : Reply → Type 0
IsCancelReply reply.Dropped = Unit {0}
IsCancelReply reply.NotLead = Unit {0}
IsCancelReply _ = ⊥

abbrev pub IsMaterialReply : Reply → Type 0
IsMaterialReply reply.MaterialHeard = Unit {0}
IsMaterialReply reply.NotFound = Unit {0}
IsMaterialReply (reply.Closed why) = Unit {0}
IsMaterialReply reply.NotRunning = Unit {0}
IsMaterialReply reply.NotLead = Unit {0}
IsMaterialReply _ = ⊥

abbrev pub IsResultReply : Reply → Type 0
IsResultReply (reply.Result text) = IsResultTold text
IsResultReply (reply.State s) = Unit {0}
IsResultReply reply.NotFound = Unit {0}
IsResultReply (reply.Closed why) = Unit {0}
IsResultReply reply.NotLead = Unit {0}
IsResultReply _ = ⊥

abbrev pub IsReplyTo : OrderBody → Reply → Type 0
IsReplyTo (order.Free question) r = IsFreeReply r
IsReplyTo (order.Propose proposal) r = IsProposeReply proposal.asker.server r
IsReplyTo order.Confirm r = IsConfirmReply r
IsReplyTo order.Cancel r = IsCancelReply r
IsReplyTo (order.Material text) r = IsMaterialReply r
IsReplyTo order.Result r = IsResultReply r
