-- What a lead asks about, and which start it plans, in words of schedules and answers.
use Rattle.std.specs.Prelude.{◌+◌, ◌<◌, ◌∷◌, ◌≡◌, ◌≤◌, ◌⊎◌, All, IsTrue, List, Some, ℕ}
use Rattle.ps_time.specs.Numbers.{horizon, most_attempts, plan_lead}
use Rattle.ps_time.specs.Span.{Range}
use Rattle.ps_time.specs.Starts.{lies_in}
use Rattle.schedule_rule.specs.Rule.{Schedule}
use Rattle.run_states.specs.declared.answer.FreeAnswer.{FreeAnswer}
use Rattle.run_states.specs.declared.row.RunRow.{RunRow}
use Rattle.host_model.specs.Allowed.{AsksAllowed}
use Rattle.host_model.specs.FreeTier.{IsIn}
use Rattle.host_model.specs.Plan.{answers_of}
use Rattle.host_model.specs.declared.lead.Attempt.{Attempt}

-- ---- attempts
-- the schedule allows its number each start that it asks about; they lie 5 s to a day ahead; and it is one of the eight
pub record IsScheduled (rule : Schedule) (m : ℕ) (a : Attempt) : Type 0 where
  pub allowed : AsksAllowed rule a
  pub ahead : m + plan_lead ≤ a.window.first
  pub soon : a.window.last ≤ m + horizon
  pub few : a.attempt < most_attempts

-- ---- plans
-- the start is free at each participant
abbrev pub IsFreeForAll : List FreeAnswer → ℕ → Type 0
IsFreeForAll answers s = All (λ a. IsTrue (lies_in a.tiers.first s)) answers

-- it is free at each of them, or preemption frees it
abbrev pub IsFreeableForAll : List FreeAnswer → ℕ → Type 0
IsFreeableForAll answers s = All (λ a. IsTrue (lies_in a.tiers.second s)) answers

-- it lies in the window, at least 5 s ahead
abbrev pub MayStartAt : ℕ → Range → ℕ → Type 0
MayStartAt m w s = IsIn w s × (m + plan_lead ≤ s)

-- the least such start for which P holds
pub record IsLeastStart (m : ℕ) (w : Range) (P : ℕ → Type 0) (start : ℕ) : Type 0 where
  pub may : MayStartAt m w start
  pub holds : P start
  pub least : (s : ℕ) → MayStartAt m w s → P s → start ≤ s

-- the least start that is free for all; only where there is none, the least that preemption frees
abbrev pub IsBestStart : ℕ → Range → List FreeAnswer → ℕ → Type 0
IsBestStart m w answers start =
    IsLeastStart m w (IsFreeForAll answers) start
    ⊎ (((s : ℕ) → MayStartAt m w s → IsFreeForAll answers s → ⊥) × IsLeastStart m w (IsFreeableForAll answers) start)

-- the start was found in the window of the row's question, among all answers
pub record IsPlannedStart (m : ℕ) (r : RunRow) (own : FreeAnswer) (start : ℕ) : Type 0 where
  pub window : Range
  pub asked : r.question ≡ Some window
  pub best : IsBestStart m window (own ∷ answers_of r) start
