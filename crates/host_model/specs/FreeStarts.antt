-- When a run could start: the starts without a conflict, and those whose conflicts can all be preempted. The entry is `free`,
-- the last one here. Its steps, in their order:
-- 1. `lead_name` and `for_lead`, of `Propose`: only the lead of the key is answered;
-- 2. `free_here`: only a participant answers;
-- 3. `free_answer`: the tools that run the test (`tools_here`), and the two tiers of starts (`free_tiers`), which
--    `is_free` and `is_freeable` test.
-- What a tier means in words of rows is said by `FreeTier`.
use Rattle.std.specs.List.{list_all}
use Rattle.std.specs.Prelude.{◌||◌, Bool, List, filter, if◌then◌else◌, not, ℕ, ℤ}
use Rattle.ps_time.specs.Span.{Range, span_of}
use Rattle.ps_time.specs.declared.class.Class.{Class}
use Rattle.ps_time.specs.declared.tiers.Tiers.{Tiers}
use Rattle.ps_time.specs.Starts.{tier_of}
use Rattle.plugin_tool.specs.Choice.{is_tool_for}
use Rattle.plugin_core.specs.Kind.{test_kind}
use Rattle.plugin_core.specs.Participants.{is_named, participants}
use Rattle.plugin_core.specs.TestSpec.{test_class, test_length}
use Rattle.plugin_core.specs.declared.test_spec.TestSpec.{TestSpec}
use Rattle.run_states.specs.Conflict.{blocks}
use Rattle.run_states.specs.declared.answer.FreeAnswer.{FreeAnswer}
use Rattle.run_states.specs.declared.proposal.Question.{Question}
use Rattle.run_states.specs.declared.row.RunRow.{RunRow}
use Rattle.run_states.specs.declared.why.Denial.TheVariants.{NotParticipant}
use Rattle.run_states.specs.Preemption.{yields}
use Rattle.host_model.specs.Book.{Book}
use Rattle.host_model.specs.Propose.{answered, for_lead, lead_name}
use Rattle.host_model.specs.declared.config.Config.{Config}
use Rattle.host_model.specs.declared.reply.Outcome.{Outcome}
use Rattle.host_model.specs.declared.reply.Reply.TheVariants.{Free, Denied}

-- ---- the tests
-- no booked row is in conflict with a run of this class and length that starts at s
-- In words of rows it is `IsFreeStart` of `FreeTier`: see `free_decided` of `proofs/TierLemmas`.
abbrev pub is_free : List RunRow → Class → ℕ → ℕ → Bool
is_free rows class len s = list_all (λ r. not (blocks class (span_of s len) r)) rows

-- each one that is in conflict can be preempted at m
-- In words of rows it is `IsFreeableStart` of `FreeTier`: see `freeable_decided` of `proofs/TierLemmas`.
abbrev pub is_freeable : List RunRow → ℕ → Class → ℕ → ℤ → ℕ → Bool
is_freeable rows m class len priority s = list_all (λ r. not (blocks class (span_of s len) r) || yields priority m r) rows

-- the starts in a window, over rows that are settled at m
-- Each is an `IsTier` of `FreeTier`: see `free_tiers_are` of `proofs/TierLemmas`.
abbrev pub free_tiers : List RunRow → ℕ → Class → ℕ → ℤ → Range → Tiers
free_tiers rows m class len priority w = record {
  first = tier_of (is_free rows class len) w;
  second = tier_of (is_freeable rows m class len priority) w;
}

-- ---- the answer, which says nothing of limits
-- those of the tools that run the test
abbrev pub tools_here : List (List ℕ) → TestSpec → List (List ℕ)
tools_here installed test = filter (is_tool_for (test_kind test)) installed

-- the tools and the starts of a host with these tools, whose rows are settled at m
abbrev pub free_answer : List (List ℕ) → List RunRow → ℕ → Question → FreeAnswer
free_answer installed rows m q = record {
  tools = tools_here installed q.test;
  tiers = free_tiers rows m (test_class q.test) (test_length q.test) q.priority q.window;
}

-- only a participant answers
abbrev pub free_here : Config → Book → ℕ → Question → List ℕ → Outcome
free_here c b m q lead = if is_named c.name (participants q.test lead) then answered (Free (free_answer c.installed b.rows m q)) else answered (Denied NotParticipant)

-- the lead asks when this host is free
abbrev pub free : Config → Book → ℕ → ℕ → Question → Outcome
free c b m sender q = for_lead (lead_name c sender q.key) (free_here c b m q)
