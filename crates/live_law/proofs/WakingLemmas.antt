-- A task that sleeps has no next attempt; when it wakes as rows change, come and go.
use Rattle.std.specs.Prelude.{◌&&◌, ◌==◌, nat_le, option_and_then, option_map}
use Rattle.std.specs.List.{last_or}
use Rattle.std.specs.Ordering.{match_ordering}
use Rattle.std.specs.declared.cmp.Ordering.{Ordering}
use Rattle.std.specs.declared.cmp.Ordering.TheVariants.{Less, Equal, Greater}
use Rattle.std.proofs.Common.{◌≡◌, ◌+◌, ◌-◌, ◌<◌, ◌≤◌, ◌∙◌, ℕ, Bool, true, false, cond, min, map, List, [], ◌∷◌, Option, Some, None, is_some, unwrap_or, refl, ap, ap₂, arith}
use Rattle.std.proofs.lemmas.Bool.{and_parts}
use Rattle.std.proofs.lemmas.Bool.Decides.{nat_tests}
use Rattle.std.proofs.lemmas.Nat.{mul-le}
use Rattle.ps_time.specs.Key.{key_cmp}
use Rattle.ps_time.specs.Numbers.{greatest_moment, horizon, plan_lead}
use Rattle.ps_time.specs.Span.{Range}
use Rattle.ps_time.specs.declared.key.RunKey.{RunKey}
use Rattle.schedule_rule.specs.Rule.{IsRule, Schedule, has_number, last_start, latest_start, next_of, nominal_start, numbers_of, reaches_from, window_of}
use Rattle.schedule_rule.proofs.JumpLemmas.{number_below}
use Rattle.run_states.specs.Rows.{put_row}
use Rattle.run_states.specs.TaskRows.{is_of_task, newest_row, rows_of_task}
use Rattle.run_states.specs.declared.row.RunRow.{RunRow}
use Rattle.run_states.specs.declared.why.Closing.{Closing}
use Rattle.host_model.specs.NextAttempt.{asked_window, attempt_after, attempt_at, attempt_by, fresh_attempt, next_attempt}
use Rattle.host_model.specs.declared.task_row.TaskRow.{TaskRow}
use Rattle.host_model.proofs.NextKeys.{filter_has, first_holds, newest_has}
use Rattle.live_law.specs.Waking.{has_come, is_awake, wake_after, wake_by, wake_from, wake_in, wake_of}

-- ---- windows of later numbers begin later
number_before : (repeat max_runs : Option ℕ) (anchor slip : ℕ) (until : Option ℕ) (j k : ℕ) → let rule : Schedule = record { anchor = anchor; slip = slip; repeat = repeat; until = until; max_runs = max_runs } in j ≤ k → has_number rule k ≡ true → has_number rule j ≡ true
number_before None None anchor slip until j k order has = grind (arith, nat_tests)
number_before None (Some runs) anchor slip until j k order has = grind (arith, nat_tests)
number_before (Some r) None anchor slip until j k order has = grind (arith, nat_tests)
number_before (Some r) (Some runs) anchor slip until j k order has = grind (arith, nat_tests)

starts_before : (rule : Schedule) (j k : ℕ) → j ≤ k → nominal_start rule j ≤ nominal_start rule k
starts_before rule j k order = omega (arith, mul-le j (unwrap_or rule.repeat 0) k (unwrap_or rule.repeat 0) order (omega arith))

-- there is a window of this number
abbrev has_window : Schedule → ℕ → Bool
has_window rule k = has_number rule k && nat_le (nominal_start rule k) (min (latest_start rule k) (last_start rule))

window_before : (rule : Schedule) (j k : ℕ) → j ≤ k → has_window rule k ≡ true → has_window rule j ≡ true
window_before rule j k order has =
    let parts = and_parts (has_number rule k) _ has in
    let there : has_number rule j ≡ true = number_before rule.repeat rule.max_runs rule.anchor rule.slip rule.until j k order parts.0 in
    let lower = starts_before rule j k order in
    let low : nominal_start rule k ≤ min (latest_start rule k) (last_start rule) = grind (arith, nat_tests, parts.1) in
    let fits : nominal_start rule j ≤ min (latest_start rule j) (last_start rule) = omega (arith, lower, low) in
    let test : nat_le (nominal_start rule j) (min (latest_start rule j) (last_start rule)) ≡ true = grind (arith, nat_tests, fits) in
    ap₂ (λ a b. a && b) there test

-- ---- before a task wakes
module _ (m : ℕ) (rule : Schedule) (from : ℕ) (asleep : has_come m (wake_from rule from) ≡ false) where
  -- a window of this number begins more than a day later
  far : has_window rule from ≡ true → m + horizon < nominal_start rule from
  far has = go (has_window rule from) has asleep
    where
      go : (t : Bool) → t ≡ true → has_come m (option_map (λ (w : Range). w.first - horizon) (cond t (Some (record { first = nominal_start rule from; last = min (latest_start rule from) (last_start rule) })) None)) ≡ false → m + horizon < nominal_start rule from
      go true is e = let above : m < nominal_start rule from - horizon = grind (arith, nat_tests, e) in omega (arith, above)
      go false is e = cc

  later_none : (k : ℕ) → from ≤ k → attempt_at m k 0 (window_of rule k) ≡ None
  later_none k order = go (has_window rule k) refl
    where
      go : (t : Bool) → has_window rule k ≡ t → attempt_at m k 0 (cond t (Some (record { first = nominal_start rule k; last = min (latest_start rule k) (last_start rule) })) None) ≡ None
      go false is = refl
      go true is =
          let begins = far (window_before rule from k order is) in
          let lower = starts_before rule from k order in
          let late : nat_le (nominal_start rule k) (m + horizon) ≡ false = grind (arith, nat_tests, begins, lower) in
          ap (λ t. cond t (Some (record { number = k; attempt = 0; window = asked_window m (record { first = nominal_start rule k; last = min (latest_start rule k) (last_start rule) }) })) None) late

  none_fresh : fresh_attempt m rule from ≡ None
  none_fresh = go (next_of rule from (m + plan_lead)) refl
    where
      go : (o : Option ℕ) → next_of rule from (m + plan_lead) ≡ o → option_and_then (λ number. attempt_at m number 0 (window_of rule number)) o ≡ None
      go None is = refl
      go (Some k) is =
          let holds : reaches_from rule from (m + plan_lead) k ≡ true = first_holds (reaches_from rule from (m + plan_lead)) 0 (numbers_of rule) k is in
          let parts = and_parts (nat_le from k) _ holds in
          let order : from ≤ k = grind (arith, nat_tests, parts.0) in
          later_none k order

pub never : (m : ℕ) → has_come m (Some 0) ≡ false → ⊥
never m e = let below : m < 0 = grind (arith, nat_tests, e) in omega (arith, below)

none_after : (m : ℕ) (rule : Schedule) (k : RunKey) (confirmed : Option ℕ) (closed : Option Closing) → has_come m (wake_after rule k confirmed) ≡ false → attempt_after m rule k confirmed closed ≡ None
none_after m rule k None closed asleep = absurd (never m asleep)
none_after m rule k (Some s) closed asleep = none_fresh m rule (k.number + 1) asleep

none_by : (m : ℕ) (rule : Schedule) (o : Option RunRow) → has_come m (wake_by rule o) ≡ false → attempt_by m rule o ≡ None
none_by m rule None asleep = none_fresh m rule 0 asleep
none_by m rule (Some r) asleep = none_after m rule r.key r.confirmed r.closed asleep

pub none_asleep : (self m : ℕ) (rows : List RunRow) (t : TaskRow) → is_awake self rows m t ≡ false → next_attempt self rows m t ≡ None
none_asleep self m rows t asleep = go (is_some t.closed) asleep
  where
    go : (b : Bool) → has_come m (cond b None (wake_by t.task.rule (newest_row self t.serial rows))) ≡ false → cond b None (attempt_by m t.task.rule (newest_row self t.serial rows)) ≡ None
    go true e = refl
    go false e = none_by m t.task.rule (newest_row self t.serial rows) e

-- ---- numbers beyond those of the code have no window
pub wake_high : (rule : Schedule) (k : ℕ) → IsRule rule → greatest_moment < k → wake_from rule k ≡ None
wake_high rule k bounds high = go (has_window rule k) refl
  where
    go : (t : Bool) → has_window rule k ≡ t → option_map (λ (w : Range). w.first - horizon) (cond t (Some (record { first = nominal_start rule k; last = min (latest_start rule k) (last_start rule) })) None) ≡ None
    go false is = refl
    go true is =
        let parts = and_parts (has_number rule k) _ is in
        let low : nominal_start rule k ≤ min (latest_start rule k) (last_start rule) = grind (arith, nat_tests, parts.1) in
        let small = number_below rule k bounds parts.0 (omega (arith, low)) in
        absurd (omega (arith, small, high))

-- ---- the newest row of a task
pub newest_own : (self serial : ℕ) (rows : List RunRow) (r : RunRow) → newest_row self serial rows ≡ Some r → is_of_task self serial r ≡ true
newest_own self serial rows r is = newest_has (λ x. is_of_task self serial x ≡ true) r (rows_of_task self serial rows) is (filter_has (is_of_task self serial) rows)

-- as rows change and keep their keys
module _ (f : RunRow → RunRow) (same : (r : RunRow) → (f r).key ≡ r.key) (self serial : ℕ) where
  mapped_rows : (rows : List RunRow) → rows_of_task self serial (map f rows) ≡ map f (rows_of_task self serial rows)
  mapped_rows [] = refl
  mapped_rows (r ∷ rs) =
      ap₂ (λ k l. cond ((k.lead == self) && (k.task == serial)) (f r ∷ l) l) (same r) (mapped_rows rs)
      ∙ elim (is_of_task self serial r) as (λ t. cond t (f r ∷ map f (rows_of_task self serial rs)) (map f (rows_of_task self serial rs)) ≡ map f (cond t (r ∷ rows_of_task self serial rs) (rows_of_task self serial rs))) [ true ↦ refl | false ↦ refl ]

  last_map : (o : Option RunRow) (rows : List RunRow) → last_or (option_map f o) (map f rows) ≡ option_map f (last_or o rows)
  last_map o [] = refl
  last_map o (r ∷ rs) = last_map (Some r) rs

  pub newest_map : (rows : List RunRow) → newest_row self serial (map f rows) ≡ option_map f (newest_row self serial rows)
  newest_map rows = ap (last_or None) (mapped_rows rows) ∙ last_map None (rows_of_task self serial rows)

-- as one of another task comes
pub newest_put : (self serial : ℕ) (r : RunRow) → is_of_task self serial r ≡ false → (rows : List RunRow) → newest_row self serial (put_row rows r) ≡ newest_row self serial rows
newest_put self serial r other rows = ap (last_or None) (put rows)
  where
    put : (xs : List RunRow) → rows_of_task self serial (put_row xs r) ≡ rows_of_task self serial xs
    put [] = ap (λ t. cond t (r ∷ []) []) other
    put (x ∷ xs) = go (key_cmp x.key r.key) (ap (λ l. cond (is_of_task self serial x) (x ∷ l) l) (put xs))
      where
        go : (c : Ordering) → rows_of_task self serial (x ∷ put_row xs r) ≡ rows_of_task self serial (x ∷ xs) → rows_of_task self serial (match_ordering c (x ∷ put_row xs r) (x ∷ put_row xs r) (r ∷ x ∷ xs)) ≡ rows_of_task self serial (x ∷ xs)
        go Less later = later
        go Equal later = later
        go Greater later = ap (λ t. cond t (r ∷ rows_of_task self serial (x ∷ xs)) (rows_of_task self serial (x ∷ xs))) other

-- ---- so tasks wake as they did where the key and the confirming of their newest row are the same
pub wake_alike : (f : RunRow → RunRow) → ((r : RunRow) → (f r).key ≡ r.key) → (self : ℕ) (rows : List RunRow) (t : TaskRow) → ((r : RunRow) → is_of_task self t.serial r ≡ true → (f r).confirmed ≡ r.confirmed) → wake_in self (map f rows) t ≡ wake_in self rows t
wake_alike f same self rows t alike = ap (wake_of t) (newest_map f same self t.serial rows) ∙ ap (λ o. cond (is_some t.closed) None o) (go (newest_row self t.serial rows) refl)
  where
    go : (o : Option RunRow) → newest_row self t.serial rows ≡ o → wake_by t.task.rule (option_map f o) ≡ wake_by t.task.rule o
    go None is = refl
    go (Some r) is = ap₂ (λ k c. wake_after t.task.rule k c) (same r) (alike r (newest_own self t.serial rows r is))
