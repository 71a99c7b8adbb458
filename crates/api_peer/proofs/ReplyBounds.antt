-- The body of the response by which an order is replied to is short, unless it tells texts for whose length there is no rule.
use Rattle.std.specs.Prelude.{nat_le}
use Rattle.std.specs.List.{list_all}
use Rattle.std.proofs.Common.{◌&&◌, ◌≡◌, ◌≤◌, List, Some, arith, codes, false, length, true, ℕ}
use Rattle.std.proofs.lemmas.Bool.Decides.{nat_tests}
use Rattle.serde_json.specs.Data.{boolean, member, no_members, string}
use Rattle.serde_json.specs.Written.{compact_text}
use Rattle.ps_json.specs.TreeText.{kept_tree}
use Rattle.ps_time.specs.Numbers.{most_request_bytes}
use Rattle.ps_time.proofs.PictureLemmas.{and_true}
use Rattle.plugin_core.proofs.LengthLemmas.{member_short, text_short}
use Rattle.plugin_core.specs.ReadTest.{all_differ}
use Rattle.plugin_core.specs.WriteTest.{names_data}
use Rattle.run_states.specs.Life.{closed_state}
use Rattle.run_states.specs.State.{state_text}
use Rattle.run_states.specs.declared.answer.FreeAnswer.{FreeAnswer}
use Rattle.run_states.specs.declared.state.State.{State}
use Rattle.run_states.specs.declared.why.Denial.TheVariants as denial
use Rattle.task_spec.specs.ReadTask.{is_tool}
use Rattle.host_model.specs.declared.config.Config.{Config}
use Rattle.host_model.specs.declared.order.OrderBody.{OrderBody}
use Rattle.host_model.specs.declared.order.OrderBody.TheVariants as order
use Rattle.host_model.specs.declared.reply.Reply.{Reply}
use Rattle.host_model.specs.declared.reply.Reply.TheVariants as reply
use Rattle.api_reply.specs.Replies.{free_told, moment_told, reply_data, response_of, result_told, state_told, windows_data, yes_told}
use Rattle.api_reply.specs.Shown.{error, error_with, second_data}
use Rattle.api_peer.specs.Replied.{IsCancelReply, IsConfirmReply, IsFreeReply, IsFreeTold, IsMaterialReply, IsProposeReply, IsReplyTo, IsResultReply, IsResultTold}
use Rattle.api_peer.specs.Texts.{tells_texts}
use Rattle.api_peer.proofs.PartBounds.{error_short, error_with_short, second_short, state_length, tools_short, windows_short}
use Rattle.api_peer.proofs.DenialBounds.{denial_short}

-- ---- bodies of replies alone
moment_short : (name : List ℕ) (m : ℕ) → length name ≤ 9 → length (compact_text (moment_told name m)) ≤ most_request_bytes
moment_short name m few = omega (arith, few, second_short m, member_short name (second_data m) no_members false)

yes_short : (name : List ℕ) → length name ≤ 8 → length (compact_text (yes_told name)) ≤ most_request_bytes
yes_short name few = omega (arith, few, member_short name (boolean true) no_members false)

state_short : (s : State) → length (compact_text (state_told s)) ≤ most_request_bytes
state_short s = omega (arith, text_short (state_text s), state_length s, member_short (codes "state") (string (state_text s)) no_members false)

said_short : (e : List ℕ) → length e ≤ 14 → length (compact_text (error e)) ≤ most_request_bytes
said_short e few = omega (arith, few, error_short e)

closed_short : (s : State) → length (compact_text (error_with (codes "closed") (codes "why") (state_text s))) ≤ most_request_bytes
closed_short s = omega (arith, error_with_short (codes "closed") (codes "why") (state_text s), state_length s)

kept_short : (text : List ℕ) → IsResultTold text → length (compact_text (kept_tree (Some text))) ≤ 65_536
kept_short text is = rw (is.kept.reads, is.compact) is.short

result_short : (text : List ℕ) → IsResultTold text → length (compact_text (result_told text)) ≤ most_request_bytes
result_short text is = omega (arith, kept_short text is, member_short (codes "result") (kept_tree (Some text)) no_members false)

free_told_short : (answer : FreeAnswer) → IsFreeTold answer → length (compact_text (free_told answer)) ≤ most_request_bytes
free_told_short answer is =
    let parts = and_true (nat_le (length answer.tools) 4) (list_all is_tool answer.tools && all_differ answer.tools) is.tools in
    let few : nat_le (length answer.tools) 4 ≡ true = parts.0 in
    let tools = member (codes "tools") (names_data answer.tools) no_members in
    let second = member (codes "second-tier") (windows_data answer.tiers.second) tools in
    omega (
      arith,
      member_short (codes "first-tier") (windows_data answer.tiers.first) second false,
      member_short (codes "second-tier") (windows_data answer.tiers.second) tools true,
      member_short (codes "tools") (names_data answer.tools) no_members true,
      windows_short answer.tiers.first is.few_first,
      windows_short answer.tiers.second is.few_second,
      tools_short answer.tools (and_true (list_all is_tool answer.tools) (all_differ answer.tools) parts.1).0 (grind (arith, nat_tests)),
    )

-- ---- the replies to each order
abbrev IsShort : Config → Reply → Type 0
IsShort c r = length (compact_text (reply_data c r)) ≤ most_request_bytes

not_lead : (c : Config) → IsShort c reply.NotLead
not_lead c = said_short (codes "not the lead") (omega arith)

free_short : (c : Config) (r : Reply) → IsFreeReply r → tells_texts r ≡ false → IsShort c r
free_short c (reply.Free answer) is known = free_told_short answer is
free_short c (reply.Denied denial.NotParticipant) is known = cc
free_short c reply.NotLead is known = not_lead c
free_short c _ is known = absurd is

propose_short : (c : Config) (lead : List ℕ) (r : Reply) → IsProposeReply lead r → tells_texts r ≡ false → IsShort c r
propose_short c lead (reply.Accepted m) is known = moment_short (codes "accepted") m (omega arith)
propose_short c lead (reply.Denied d) is known = denial_short lead c.name d is known
propose_short c lead reply.NotLead is known = not_lead c
propose_short c lead _ is known = absurd is

confirm_short : (c : Config) (r : Reply) → IsConfirmReply r → IsShort c r
confirm_short c (reply.Confirmed m) is = moment_short (codes "confirmed") m (omega arith)
confirm_short c reply.Unknown is = said_short (codes "not found") (omega arith)
confirm_short c (reply.Closed why) is = closed_short (closed_state why)
confirm_short c reply.NotLead is = not_lead c
confirm_short c _ is = absurd is

cancel_short : (c : Config) (r : Reply) → IsCancelReply r → IsShort c r
cancel_short c reply.Dropped is = yes_short (codes "dropped") (omega arith)
cancel_short c reply.NotLead is = not_lead c
cancel_short c _ is = absurd is

material_short : (c : Config) (r : Reply) → IsMaterialReply r → IsShort c r
material_short c reply.MaterialHeard is = yes_short (codes "heard") (omega arith)
material_short c reply.NotFound is = said_short (codes "not found") (omega arith)
material_short c (reply.Closed why) is = closed_short (closed_state why)
material_short c reply.NotRunning is = said_short (codes "not running") (omega arith)
material_short c reply.NotLead is = not_lead c
material_short c _ is = absurd is

outcome_short : (c : Config) (r : Reply) → IsResultReply r → IsShort c r
outcome_short c (reply.Result text) is = result_short text is
outcome_short c (reply.State s) is = state_short s
outcome_short c reply.NotFound is = said_short (codes "not found") (omega arith)
outcome_short c (reply.Closed why) is = closed_short (closed_state why)
outcome_short c reply.NotLead is = not_lead c
outcome_short c _ is = absurd is

pub reply_short : (c : Config) (body : OrderBody) (r : Reply) → IsReplyTo body r → tells_texts r ≡ false → length (response_of c r).body ≤ most_request_bytes
reply_short c (order.Free question) r is known = free_short c r is known
reply_short c (order.Propose proposal) r is known = propose_short c proposal.asker.server r is known
reply_short c order.Confirm r is known = confirm_short c r is
reply_short c order.Cancel r is known = cancel_short c r is
reply_short c (order.Material text) r is known = material_short c r is
reply_short c order.Result r is known = outcome_short c r is
