-- Which starts a schedule allows to the run of a number, in words of its fields, and from which of them an attempt takes its window.
use Rattle.std.specs.Option.{ForSome}
use Rattle.std.specs.Prelude.{◌*◌, ◌+◌, ◌<◌, ◌≡◌, ◌≤◌, ◌⊎◌, IsSome, unwrap_or, ℕ}
use Rattle.ps_time.specs.Numbers.{greatest_moment}
use Rattle.schedule_rule.specs.Rule.{Schedule}
use Rattle.host_model.specs.FreeTier.{IsIn}
use Rattle.host_model.specs.declared.lead.Attempt.{Attempt}

-- run number k may start at s; an absent bound holds
-- The test is `is_allowed`, of `Rule` in `schedule_rule`: see `allowed_decided` of `proofs/AllowedLemmas`; the starts are those of
-- `window_of` there: see `window_allowed` and `allowed_in_window`.
pub record IsAllowed (rule : Schedule) (k s : ℕ) : Type 0 where
  -- without a repeat there is number 0 alone
  pub repeated : (k ≡ 0) ⊎ IsSome rule.repeat
  pub counted : ForSome rule.max_runs (λ runs. k < runs)
  -- from its nominal start on, as long as its slip lasts
  pub nominal : rule.anchor + k * unwrap_or rule.repeat 0 ≤ s
  pub slipped : s ≤ rule.anchor + k * unwrap_or rule.repeat 0 + rule.slip
  pub ended : ForSome rule.until (λ last. s ≤ last)
  pub kept : s ≤ greatest_moment

-- each start of the window that an attempt asks about is allowed to its number
-- Each attempt of `next_attempt`, of `NextAttempt`, does: see `attempt_allowed` of `proofs/AllowedLemmas`.
abbrev pub AsksAllowed : Schedule → Attempt → Type 0
AsksAllowed rule a = (s : ℕ) → IsIn a.window s → IsAllowed rule a.number s
