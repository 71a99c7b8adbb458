-- The schedule's test decides what its fields allow; a number's window has just these starts, and an attempt asks about some of them.
use Rattle.std.specs.Bool.{Decides}
use Rattle.std.specs.Option.{ForSome, option_and_then}
use Rattle.std.proofs.Common.{List, ◌≡◌, ◌⊎◌, ℕ, ◌+◌, ◌<◌, ◌≤◌, ◌&&◌, ◌||◌, ◌==◌, Bool, true, false, cond, is_some, min, nat_le, IsSome, Option, Some, None, unwrap_or, refl, sym, ap, subst, arith}
use Rattle.std.proofs.lemmas.Bool.{and_from, and_parts, le-leb}
use Rattle.std.proofs.lemmas.Bool.Decides.{Decides-and, Decides-eqb, Decides-like, Decides-ltb, Decides-or}
use Rattle.ps_time.specs.Numbers.{greatest_moment, horizon, plan_lead}
use Rattle.ps_time.specs.Span.{Range}
use Rattle.ps_time.specs.declared.key.RunKey.{RunKey}
use Rattle.run_states.specs.TaskRows.{newest_row}
use Rattle.run_states.specs.declared.row.RunRow.{RunRow}
use Rattle.run_states.specs.declared.why.Closing.{Closing}
use Rattle.schedule_rule.specs.Rule.{Schedule, has_number, is_allowed, is_at_most, is_below, last_start, latest_start, next_of, nominal_start, window_of}
use Rattle.host_model.specs.Allowed.{AsksAllowed, IsAllowed}
use Rattle.host_model.specs.FreeTier.{IsIn}
use Rattle.host_model.specs.NextAttempt.{asked_window, attempt_after, attempt_at, attempt_by, fresh_attempt, is_repeatable, next_attempt, repeated}
use Rattle.host_model.specs.declared.lead.Attempt.{Attempt}
use Rattle.host_model.specs.declared.task_row.TaskRow.{TaskRow}
use Rattle.host_model.proofs.Deciding.{itself, leb_decided}

-- ---- bounds that may be there
below_decided : (k : ℕ) (o : Option ℕ) → Decides (is_below k o) (ForSome o (λ bound. k < bound))
below_decided k None = ((λ e bound there. cc), (λ all. refl))
below_decided k (Some bound) =
    let test = Decides-ltb k bound in
    ((λ e other there. let same : bound ≡ other = cc in subst (λ n. k < n) same (test.0 e)), (λ all. test.1 (all bound refl)))

most_decided : (s : ℕ) (o : Option ℕ) → Decides (is_at_most s o) (ForSome o (λ bound. s ≤ bound))
most_decided s None = ((λ e bound there. cc), (λ all. refl))
most_decided s (Some bound) =
    let test = leb_decided s bound in
    ((λ e other there. let same : bound ≡ other = cc in subst (λ n. s ≤ n) same (test.0 e)), (λ all. test.1 (all bound refl)))

-- ---- what is allowed
module _ (rule : Schedule) (k s : ℕ) where
  abbrev HasNumber : Type 0
  HasNumber = ((k ≡ 0) ⊎ IsSome rule.repeat) × ForSome rule.max_runs (λ runs. k < runs)

  number_decided : Decides (has_number rule k) HasNumber
  number_decided = Decides-and (k == 0 || is_some rule.repeat) (is_below k rule.max_runs) (Decides-or (k == 0) (is_some rule.repeat) (Decides-eqb k 0) (itself (is_some rule.repeat))) (below_decided k rule.max_runs)

  abbrev Parts : Type 0
  Parts = (HasNumber × ((nominal_start rule k ≤ s) × (s ≤ latest_start rule k))) × (ForSome rule.until (λ last. s ≤ last) × (s ≤ greatest_moment))

  parts_decided : Decides (is_allowed rule k s) Parts
  parts_decided =
      Decides-and (has_number rule k && (nat_le (nominal_start rule k) s && nat_le s (latest_start rule k))) (is_at_most s rule.until && nat_le s greatest_moment)
      (Decides-and (has_number rule k) (nat_le (nominal_start rule k) s && nat_le s (latest_start rule k)) number_decided
      (Decides-and (nat_le (nominal_start rule k) s) (nat_le s (latest_start rule k)) (leb_decided (nominal_start rule k) s) (leb_decided s (latest_start rule k))))
      (Decides-and (is_at_most s rule.until) (nat_le s greatest_moment) (most_decided s rule.until) (leb_decided s greatest_moment))

  -- the schedule's test holds exactly where its fields allow it
  pub allowed_decided : Decides (is_allowed rule k s) (IsAllowed rule k s)
  allowed_decided = Decides-like (is_allowed rule k s)
      (λ x. record { repeated = x.0.0.0; counted = x.0.0.1; nominal = x.0.1.0; slipped = x.0.1.1; ended = x.1.0; kept = x.1.1 })
      (λ f. (((f.repeated, f.counted), (f.nominal, f.slipped)), (f.ended, f.kept))) parts_decided

  -- ---- its window
  until_at : (o : Option ℕ) → s ≤ unwrap_or o greatest_moment → ForSome o (λ last. s ≤ last)
  until_at None le last there = cc
  until_at (Some bound) le last there = let same : bound ≡ last = cc in subst (λ n. s ≤ n) same le

  until_of : (o : Option ℕ) → ForSome o (λ last. s ≤ last) → s ≤ greatest_moment → s ≤ unwrap_or o greatest_moment
  until_of None all kept = kept
  until_of (Some bound) all kept = all bound refl

  abbrev last : ℕ
  last = min (latest_start rule k) (last_start rule)

  within_last : s ≤ last → (s ≤ latest_start rule k) × (s ≤ unwrap_or rule.until greatest_moment) × (s ≤ greatest_moment)
  within_last le = (omega (arith, le), omega (arith, le), omega (arith, le))

  -- each start of the window of the number is allowed
  pub window_allowed : (w : Range) → window_of rule k ≡ Some w → IsIn w s → IsAllowed rule k s
  window_allowed w e inside = go (has_number rule k && nat_le (nominal_start rule k) last) refl e
    where
      go : (b : Bool) → (has_number rule k && nat_le (nominal_start rule k) last) ≡ b → cond b (Some (record { first = nominal_start rule k; last = last })) None ≡ Some w → IsAllowed rule k s
      go true f g =
          let there : Range = record { first = nominal_start rule k; last = last } in
          let same : there ≡ w = cc in
          let at : IsIn there s = subst (λ x. IsIn x s) (sym same) inside in
          let number = number_decided.0 (and_parts (has_number rule k) (nat_le (nominal_start rule k) last) f).0 in
          let bounds = within_last at.1 in
          record { repeated = number.0; counted = number.1; nominal = at.0; slipped = bounds.0; ended = until_at rule.until bounds.1; kept = bounds.2 }
      go false f g = cc

  -- and each start that is allowed lies in it
  pub allowed_in_window : IsAllowed rule k s → (w : Range) × (window_of rule k ≡ Some w) × IsIn w s
  allowed_in_window f =
      let ended = until_of rule.until f.ended f.kept in
      let early : s ≤ last = below_both (unwrap_or rule.until greatest_moment) ended in
      let some = and_from (has_number rule k) (nat_le (nominal_start rule k) last) (number_decided.1 (f.repeated, f.counted)) (le-leb (nominal_start rule k) last (omega (arith, f.nominal, early))) in
      (record { first = nominal_start rule k; last = last }, ap (λ b. cond b (Some (record { first = nominal_start rule k; last = last })) None) some, (f.nominal, early))
    where
      below_both : (u : ℕ) → s ≤ u → s ≤ min (latest_start rule k) (min u greatest_moment)
      below_both u le = let a = f.slipped in let b = f.kept in omega (arith, le, a, b)

-- ---- attempts
-- the attempt asks about a part of the window of its number
abbrev AsksPart : ℕ → Schedule → Attempt → Type 0
AsksPart m rule a = (w : Range) × (window_of rule a.number ≡ Some w) × (a.window ≡ asked_window m w)

module _ (m : ℕ) (rule : Schedule) where
  at_part : (k attempt : ℕ) (o : Option Range) → window_of rule k ≡ o → (a : Attempt) → attempt_at m k attempt o ≡ Some a → AsksPart m rule a
  at_part k attempt None is a e = cc
  at_part k attempt (Some w) is a e = go (nat_le w.first (m + horizon)) e
    where
      go : (b : Bool) → cond b (Some (record { number = k; attempt = attempt; window = asked_window m w })) None ≡ Some a → AsksPart m rule a
      go true f =
          let there : Attempt = record { number = k; attempt = attempt; window = asked_window m w } in
          let same : there ≡ a = cc in
          subst (AsksPart m rule) same (w, is, refl)
      go false f = cc

  fresh_part : (from : ℕ) (a : Attempt) → fresh_attempt m rule from ≡ Some a → AsksPart m rule a
  fresh_part from a e = go (next_of rule from (m + plan_lead)) e
    where
      go : (o : Option ℕ) → option_and_then (λ number. attempt_at m number 0 (window_of rule number)) o ≡ Some a → AsksPart m rule a
      go None f = cc
      go (Some k) f = at_part k 0 (window_of rule k) refl a f

  repeated_part : (k : RunKey) (c : Closing) (b : Bool) (a : Attempt) → cond b (attempt_at m k.number (k.attempt + 1) (window_of rule k.number)) None ≡ Some a → AsksPart m rule a
  repeated_part k c true a e = at_part k.number (k.attempt + 1) (window_of rule k.number) refl a e
  repeated_part k c false a e = cc

  failed_part : (k : RunKey) (c : Closing) (b : Bool) (a : Attempt) → cond b (repeated m rule k c) (fresh_attempt m rule (k.number + 1)) ≡ Some a → AsksPart m rule a
  failed_part k c true a e = repeated_part k c _ a e
  failed_part k c false a e = fresh_part (k.number + 1) a e

  after_part : (k : RunKey) (confirmed : Option ℕ) (closed : Option Closing) (a : Attempt) → attempt_after m rule k confirmed closed ≡ Some a → AsksPart m rule a
  after_part k (Some confirmed) closed a e = fresh_part (k.number + 1) a e
  after_part k None (Some c) a e = failed_part k c (is_repeatable m rule k) a e
  after_part k None None a e = cc

  by_part : (o : Option RunRow) (a : Attempt) → attempt_by m rule o ≡ Some a → AsksPart m rule a
  by_part None a e = fresh_part 0 a e
  by_part (Some r) a e = after_part r.key r.confirmed r.closed a e

  part_allowed : (a : Attempt) → AsksPart m rule a → AsksAllowed rule a
  part_allowed a x s inside =
      let at : IsIn (asked_window m x.0) s = subst (λ w. IsIn w s) x.2 inside in
      window_allowed rule a.number s x.0 x.1 (omega (arith, at.0), omega (arith, at.1))

-- each start about which an attempt asks is allowed to its number by the schedule of its task
pub attempt_allowed : (self : ℕ) (t : TaskRow) (rows : List RunRow) (m : ℕ) (a : Attempt) → next_attempt self rows m t ≡ Some a → AsksAllowed t.task.rule a
attempt_allowed self t rows m a e = go (is_some t.closed) e
  where
    go : (b : Bool) → cond b None (attempt_by m t.task.rule (newest_row self t.serial rows)) ≡ Some a → AsksAllowed t.task.rule a
    go true f = cc
    go false f = part_allowed m t.task.rule a (by_part m t.task.rule (newest_row self t.serial rows) a f)
