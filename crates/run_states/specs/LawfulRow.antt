-- The rules that each row of a book keeps, over the row alone. What a host knows beside them of its lead and task stands
-- with the book.
pub use Rattle.archive_retry.specs.Merge.{IsResult, IsResultText}
pub use Rattle.plugin_core.specs.Participants.{HasParticipants}
use Rattle.std.specs.List.{list_all}
use Rattle.std.specs.Prelude.{◌+◌, ◌≡◌, ◌≤◌, All, IfSome, IsNone, IsSome, IsTrue, List, None, Option, Some, [], is_some, length, true, ℕ}
use Rattle.ps_time.specs.Numbers.{greatest_length, greatest_moment}
use Rattle.ps_time.specs.Span.{Range, Span, span_of}
use Rattle.plugin_core.specs.Bounds.{IsTest}
use Rattle.plugin_tool.specs.Choice.{tool_of_text}
use Rattle.plugin_core.specs.TestSpec.{test_length}
use Rattle.plugin_core.specs.declared.test_spec.TestSpec.{TestSpec}
use Rattle.archive_retry.specs.Merge.{IsTreeText}
use Rattle.archive_retry.specs.declared.state.ArchiveState.{ArchiveState}
use Rattle.run_states.specs.Life.{may_take}
use Rattle.run_states.specs.Preemption.{planned_span}
use Rattle.run_states.specs.ResultBytes.{other_result, own_result}
use Rattle.run_states.specs.declared.answer.Answer.{Answer}
use Rattle.run_states.specs.declared.answer.Answer.TheVariants.{Free, Result}
use Rattle.run_states.specs.declared.answer.FreeAnswer.{FreeAnswer}
use Rattle.run_states.specs.declared.answer.Other.{Other}
use Rattle.run_states.specs.declared.fact.Fact.{Fact}
use Rattle.run_states.specs.declared.fact.Fact.TheVariants.{Planned, Answered, MaterialHeard, Merged, Tried}
use Rattle.run_states.specs.declared.life.LifeStep.{LifeStep}
use Rattle.run_states.specs.declared.life.LifeStep.TheVariants.{End, Close}
use Rattle.run_states.specs.declared.proposal.Proposal.{Proposal}
use Rattle.run_states.specs.declared.row.RunRow.{RunRow}
use Rattle.run_states.specs.declared.why.Cause.{Cause}
use Rattle.run_states.specs.declared.why.Cause.TheVariants.{Denied}
use Rattle.run_states.specs.declared.why.Denial.{Denial}
use Rattle.run_states.specs.declared.why.Denial.TheVariants.{Past, Differs}
use Rattle.run_states.specs.declared.why.Why.{Why}
use Rattle.run_states.specs.declared.why.Why.TheVariants.{Nonstart}

-- a moment that may be there isn't above another
abbrev pub IsUpTo : ℕ → Option ℕ → Type 0
IsUpTo m o = IfSome o (λ x. x ≤ m)

-- where the one is there, so is the other
abbrev pub Needs : {A B : Type 0} → Option A → Option B → Type 0
Needs o p = IfSome o (λ a. IsSome p)

-- ---- windows and tools
-- moments in order and within bounds
pub record IsWindow (w : Range) : Type 0 where
  pub ordered : w.first ≤ w.last
  pub last : w.last ≤ greatest_moment

-- known tools, and windows within bounds
pub record IsFreeAnswer (answer : FreeAnswer) : Type 0 where
  pub tools : list_all (λ name. is_some (tool_of_text name)) answer.tools ≡ true
  pub first : All IsWindow answer.tiers.first
  pub second : All IsWindow answer.tiers.second

-- what is known of another participant is within bounds
pub record IsOther (o : Other) : Type 0 where
  pub free : IfSome o.free IsFreeAnswer
  pub heard : IsResult (other_result o)

-- ---- why it was closed: what a peer sent stands in it, and is within bounds
pub record IsProposal (p : Proposal) : Type 0 where
  pub test : IsTest p.test
  pub start : p.start ≤ greatest_moment

abbrev pub IsDenial : Denial → Type 0
IsDenial (Past m start) = (m ≤ greatest_moment) × (start ≤ greatest_moment)
IsDenial (Differs kept sent) = IsProposal kept × IsProposal sent
IsDenial _ = Unit {0}

abbrev pub IsCause : Cause → Type 0
IsCause (Denied host denial) = IsDenial denial
IsCause _ = Unit {0}

abbrev pub IsWhy : Why → Type 0
IsWhy (Nonstart cause) = IsCause cause
IsWhy _ = Unit {0}

-- ---- its parts
-- none of its moments is above m
pub record HasMomentsUpTo (m : ℕ) (r : RunRow) : Type 0 where
  pub asked : IsUpTo m r.asked
  pub accepted : IsUpTo m r.accepted
  pub confirmed : IsUpTo m r.confirmed
  pub started : IsUpTo m r.started
  pub material : IsUpTo m r.material
  pub ended : IfSome r.ended (λ e. e.moment ≤ m)
  pub closed : IfSome r.closed (λ c. c.moment ≤ m)

-- it has a known tool and an interval exactly where it was accepted; the interval is start and length of the test
abbrev pub Reserves : TestSpec → Option ℕ → Option (List ℕ) → Option Span → Type 0
Reserves test None None None = Unit {0}
Reserves test (Some accepted) (Some tool) (Some s) = IsSome (tool_of_text tool) × (s.start ≤ greatest_moment) × (s ≡ span_of s.start (test_length test))
Reserves test _ _ _ = ⊥

-- what was asked about has its question, and what is known of each other participant; what wasn't was accepted
abbrev pub HasOrigin : RunRow → Option ℕ → Type 0
HasOrigin r (Some asked) = IsSome r.question × (length r.others + 1 ≡ length r.participants)
HasOrigin r None = IsSome r.accepted × IsNone r.question × (r.others ≡ [])

-- its steps came in order
pub record HasLife (r : RunRow) : Type 0 where
  pub confirmed : Needs r.confirmed r.accepted
  pub started : IfSome r.started (λ m. IsSome r.confirmed × IsNone r.closed)
  pub ended : Needs r.ended r.started
  pub material : Needs r.material r.started

-- an archive that is due later is so within bounds
abbrev pub IsDueInTime : ArchiveState → Type 0
IsDueInTime s = IfSome s.next (λ next. next ≤ greatest_moment + greatest_length)

-- what is merged ended; before that no archive has a state
abbrev pub HasArchives : RunRow → Option (List ℕ) → Type 0
HasArchives r None = r.archives ≡ []
HasArchives r (Some text) = IsTreeText text × IsSome r.ended

-- a row none of whose moments is above m
pub record IsLawfulRow (m : ℕ) (r : RunRow) : Type 0 where
  pub moments : HasMomentsUpTo m r
  pub test : IsTest r.test
  pub reserves : Reserves r.test r.accepted r.tool r.interval
  pub participants : HasParticipants r.participants
  pub origin : HasOrigin r r.asked
  pub question : IfSome r.question IsWindow
  pub life : HasLife r
  pub closed : IfSome r.closed (λ c. IsWhy c.why)
  pub result : IsResult (own_result r)
  pub others : All IsOther r.others
  pub merged : HasArchives r r.merged
  pub archives : All IsDueInTime r.archives

-- ---- what brings such a row to another
-- a result that a step brings is such a text
abbrev pub BringsResult : LifeStep → Type 0
BringsResult (End good body) = IsResultText body
BringsResult _ = Unit {0}

abbrev pub BringsWhy : LifeStep → Type 0
BringsWhy (Close why) = IsWhy why
BringsWhy _ = Unit {0}

-- the row's life has the step, and what the step brings is within bounds
pub record CanTake (step : LifeStep) (r : RunRow) : Type 0 where
  pub may : IsTrue (may_take step r)
  pub result : BringsResult step
  pub why : BringsWhy step

-- a free answer is within bounds
abbrev pub BringsAnswer : Answer → Type 0
BringsAnswer (Free answer) = IsFreeAnswer answer
BringsAnswer _ = Unit {0}

-- a result that an answer brings is such a text
abbrev pub BringsHeard : Answer → Type 0
BringsHeard (Result result) = IsResult result
BringsHeard _ = Unit {0}

-- the results that a fact brings are such texts
abbrev pub BringsResults : Fact → Type 0
BringsResults (Answered place answer) = BringsHeard answer
BringsResults (Merged body states) = IsTreeText body
BringsResults _ = Unit {0}

-- a run is planned that is neither accepted nor closed, for the length of its test; material comes to what is started, and
-- what ended is merged
abbrev pub CanNote : Fact → RunRow → Type 0
CanNote (Planned tool interval) r = IsNone r.accepted × IsNone r.closed × IsSome (tool_of_text tool) × (interval.start ≤ greatest_moment) × (interval ≡ planned_span interval.start r)
CanNote (Answered place answer) r = BringsAnswer answer
CanNote MaterialHeard r = IsSome r.started
CanNote (Merged body states) r = IsSome r.ended × All IsDueInTime states
CanNote (Tried index state) r = IsDueInTime state
