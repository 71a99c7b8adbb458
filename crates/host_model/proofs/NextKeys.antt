-- The key of a task's next attempt is new.
use Rattle.std.specs.List.{AllByRecursion, last_or}
use Rattle.std.specs.Ordering.{is_eq}
use Rattle.std.specs.Prelude.{◌==◌, IsNone, filter, option_and_then}
use Rattle.std.specs.declared.cmp.Ordering.TheVariants.{Less}
use Rattle.std.proofs.Common.{◌≡◌, ◌≤◌, ◌<◌, ◌+◌, ◌⊎◌, inl, inr, ℕ, zero, suc, Bool, true, false, cond, nat_le, List, [], ◌∷◌, Option, Some, None, is_some, refl, sym, subst, ap, ◌∙◌, arith}
use Rattle.std.proofs.lemmas.Bool.Decides.{nat_tests}
use Rattle.ps_time.specs.Key.{key_cmp}
use Rattle.ps_time.specs.Span.{Range}
use Rattle.ps_time.specs.Numbers.{horizon, plan_lead, retry_wait}
use Rattle.ps_time.specs.declared.key.RunKey.{RunKey}
use Rattle.ps_time.proofs.KeyLemmas.{key_cmp_total}
use Rattle.ps_time.proofs.PictureLemmas.{and_true}
use Rattle.ps_time.proofs.SortedLemmas.{ascending-filter}
use Rattle.schedule_rule.specs.Rule.{Schedule, first_from, next_of, numbers_of, reaches_from, window_of}
use Rattle.run_states.specs.Rows.{IsAscendingRows, find_row}
use Rattle.run_states.specs.TaskRows.{greatest_number, is_of_task, newest_row, number_of, rows_of_task}
use Rattle.run_states.specs.declared.row.RunRow.{RunRow}
use Rattle.run_states.specs.declared.why.Closing.{Closing}
use Rattle.run_states.proofs.TaskLemmas.{greatest_last}
use Rattle.host_model.specs.NextAttempt.{asked_window, attempt_after, attempt_at, attempt_by, attempt_key, fresh_attempt, is_repeatable, next_attempt, repeated}
use Rattle.host_model.specs.declared.lead.Attempt.{Attempt}
use Rattle.host_model.specs.declared.task_row.TaskRow.{TaskRow}
use Rattle.host_model.proofs.NewNumbers.{above_new}
use Rattle.host_model.proofs.Placed.{find_row-key}
use Rattle.host_model.proofs.Wishes.{given_else, given_if}

-- ---- the number of an attempt
here_or_on : (test : ℕ → Bool) (n more : ℕ) (b : Bool) → test n ≡ b → first_from test n (suc more) ≡ cond b (Some n) (first_from test (suc n) more)
unfolding first_from
here_or_on test n more true is = rw (first_from, is) refl
here_or_on test n more false is = rw (first_from, is) refl

none_left : (test : ℕ → Bool) (n : ℕ) → first_from test n zero ≡ None
unfolding first_from
none_left test n = refl

pub first_holds : (test : ℕ → Bool) (n more k : ℕ) → first_from test n more ≡ Some k → test k ≡ true
first_holds test n zero k e = let none : None ≡ Some k = sym (none_left test n) ∙ e in cc
first_holds test n (suc more) k e = go (test n) refl (first_holds test (suc n) more k)
  where
    go : (b : Bool) → test n ≡ b → (first_from test (suc n) more ≡ Some k → test k ≡ true) → test k ≡ true
    go true is later = let same : Some n ≡ Some k = sym (here_or_on test n more true is) ∙ e in let at : n ≡ k = cc in subst (λ i. test i ≡ true) at is
    go false is later = later (sym (here_or_on test n more false is) ∙ e)

at_window : (m number attempt : ℕ) (o : Option Range) (a : Attempt) → attempt_at m number attempt o ≡ Some a → (a.number ≡ number) × (a.attempt ≡ attempt)
at_window m number attempt None a e = cc
at_window m number attempt (Some w) a e =
    let g = given_if (nat_le w.first (m + horizon)) (Some (record { number = number; attempt = attempt; window = asked_window m w })) a e in
    let is : record { number = number; attempt = attempt; window = asked_window m w } ≡ a = cc in
    (ap (λ x. x.number) (sym is), ap (λ x. x.attempt) (sym is))

fresh_from : (m : ℕ) (rule : Schedule) (from : ℕ) (a : Attempt) → fresh_attempt m rule from ≡ Some a → from ≤ a.number
fresh_from m rule from a e = go (next_of rule from (m + plan_lead)) refl e
  where
    go : (o : Option ℕ) → next_of rule from (m + plan_lead) ≡ o → option_and_then (λ number. attempt_at m number 0 (window_of rule number)) o ≡ Some a → from ≤ a.number
    go None is e = cc
    go (Some number) is e =
        let holds : reaches_from rule from (m + plan_lead) number ≡ true = first_holds (reaches_from rule from (m + plan_lead)) 0 (numbers_of rule) number is in
        let both = and_true (nat_le from number) _ holds in
        let low : from ≤ number = grind (arith, nat_tests) in
        let same = at_window m number 0 (window_of rule number) a e in
        omega (arith, low, same.0)

-- after a row, an attempt has a greater number, or is the next of the same one
pub after_row : (m : ℕ) (rule : Schedule) (k : RunKey) (a : Attempt) (confirmed : Option ℕ) (closed : Option Closing) → attempt_after m rule k confirmed closed ≡ Some a → (k.number < a.number) ⊎ ((a.number ≡ k.number) × (a.attempt ≡ k.attempt + 1))
after_row m rule k a (Some s) closed e = let low = fresh_from m rule (k.number + 1) a e in inl (omega (arith, low))
after_row m rule k a None None e = cc
after_row m rule k a None (Some c) e = go (is_repeatable m rule k) e
  where
    go : (t : Bool) → cond t (repeated m rule k c) (fresh_attempt m rule (k.number + 1)) ≡ Some a → (k.number < a.number) ⊎ ((a.number ≡ k.number) × (a.attempt ≡ k.attempt + 1))
    go true e = inr (at_window m k.number (k.attempt + 1) (window_of rule k.number) a (given_if (nat_le (c.moment + retry_wait) m) (attempt_at m k.number (k.attempt + 1) (window_of rule k.number)) a e).1)
    go false e = let low = fresh_from m rule (k.number + 1) a e in inl (omega (arith, low))

-- ---- the newest row of a task
last_has : (P : RunRow → Type 0) (y z : RunRow) (zs : List RunRow) → last_or (Some z) (zs) ≡ Some y → P z → AllByRecursion P zs → P y
last_has P y z [] e here all = let is : z ≡ y = cc in subst P is here
last_has P y z (w ∷ ws) e here all = last_has P y w ws e all.0 all.1

-- it is not below
abbrev pub Low : RunRow → RunRow → Type 0
Low y x = (key_cmp x.key y.key ≡ Less) ⊎ (x ≡ y)

low_last : (y x : RunRow) (xs : List RunRow) → AllByRecursion (λ z. key_cmp x.key z.key ≡ Less) xs → IsAscendingRows xs → last_or (Some x) xs ≡ Some y → Low y x × AllByRecursion (Low y) xs
low_last y x [] below up e = (inr cc, tt)
low_last y x (z ∷ zs) below up e = (inl (last_has (λ w. key_cmp x.key w.key ≡ Less) y z zs e below.0 below.1), low_last y z zs up.0 up.1 e)

pub all_low : (y : RunRow) (xs : List RunRow) → IsAscendingRows xs → last_or None xs ≡ Some y → AllByRecursion (Low y) xs
all_low y [] up e = tt
all_low y (x ∷ xs) up e = low_last y x xs up.0 up.1 e

pub all_none : (P : RunRow → Type 0) (xs : List RunRow) → last_or None xs ≡ None → AllByRecursion P xs
all_none P [] e = tt
all_none P (x ∷ xs) e = absurd (some x xs e)
  where
    some : (x : RunRow) (xs : List RunRow) → last_or (Some x) xs ≡ None → ⊥
    some x [] e = cc
    some x (z ∷ zs) e = some z zs e

pub filter_has : (t : RunRow → Bool) (xs : List RunRow) → AllByRecursion (λ r. t r ≡ true) (filter t xs)
filter_has t [] = tt
filter_has t (x ∷ xs) = go (t x) refl (filter_has t xs)
  where
    go : (b : Bool) → t x ≡ b → AllByRecursion (λ r. t r ≡ true) (filter t xs) → AllByRecursion (λ r. t r ≡ true) (cond b (x ∷ filter t xs) (filter t xs))
    go true is rest = (is, rest)
    go false is rest = rest

pub newest_has : (P : RunRow → Type 0) (y : RunRow) (xs : List RunRow) → last_or None xs ≡ Some y → AllByRecursion P xs → P y
newest_has P y [] e all = cc
newest_has P y (x ∷ xs) e all = last_has P y x xs e all.0 all.1

pub found_kept : (P : RunRow → Type 0) (t : RunRow → Bool) (k : RunKey) (r : RunRow) (rows : List RunRow) → AllByRecursion P (filter t rows) → find_row rows k ≡ Some r → t r ≡ true → P r
found_kept P t k r [] all found is = cc
found_kept P t k r (x ∷ xs) all found is = go (t x) (is_eq (key_cmp x.key k)) refl all found (λ rest later. found_kept P t k r xs rest later is)
  where
    go : (b e : Bool) → t x ≡ b → AllByRecursion P (cond b (x ∷ filter t xs) (filter t xs)) → cond e (Some x) (find_row xs k) ≡ Some r → (AllByRecursion P (filter t xs) → find_row xs k ≡ Some r → P r) → P r
    go true true tests all found later = let same : x ≡ r = cc in subst P same all.0
    go false true tests all found later = let same : r ≡ x = cc in let both : t x ≡ true = subst (λ y. t y ≡ true) same is in cc
    go true false tests all found later = later all.1 found
    go false false tests all found later = later all found

-- ---- the next attempt
pub attempt_new : (self : ℕ) (t : TaskRow) (rows : List RunRow) (m : ℕ) (a : Attempt) → IsAscendingRows rows → next_attempt self rows m t ≡ Some a → IsNone (find_row rows (attempt_key self t.serial a))
attempt_new self t rows m a up e = by_newest (newest_row self t.serial rows) refl (given_else (is_some t.closed) (attempt_by m t.task.rule (newest_row self t.serial rows)) a e).1
  where
    k : RunKey
    k = attempt_key self t.serial a

    tested : (r : RunRow) → find_row rows k ≡ Some r → is_of_task self t.serial r ≡ true
    tested r found = let is : r.key ≡ k = find_row-key rows k r found in let lead : r.key.lead ≡ self = ap (λ j. j.lead) is in let task : r.key.task ≡ t.serial = ap (λ j. j.task) is in grind (arith, nat_tests)

    no_row : ((r : RunRow) → find_row rows k ≡ Some r → ⊥) → IsNone (find_row rows k)
    no_row never = go (find_row rows k) refl
      where
        go : (o : Option RunRow) → find_row rows k ≡ o → IsNone o
        go None at = refl
        go (Some r) at = absurd (never r at)

    again : (y : RunRow) → newest_row self t.serial rows ≡ Some y → a.number ≡ y.key.number → a.attempt ≡ y.key.attempt + 1 → (r : RunRow) → find_row rows k ≡ Some r → ⊥
    again y newest number attempt r found =
        let is : r.key ≡ k = find_row-key rows k r found in
        let low : Low y r = found_kept (Low y) (is_of_task self t.serial) k r rows (all_low y (rows_of_task self t.serial rows) (ascending-filter key_cmp_total (λ r. r.key) (is_of_task self t.serial) rows up) newest) found (tested r found) in
        let own : is_of_task self t.serial y ≡ true = newest_has (λ r. is_of_task self t.serial r ≡ true) y (rows_of_task self t.serial rows) newest (filter_has (is_of_task self t.serial) rows) in
        let mine = and_true (y.key.lead == self) (y.key.task == t.serial) own in
        go low is mine.0 mine.1
      where
        go : Low y r → r.key ≡ k → (y.key.lead == self) ≡ true → (y.key.task == t.serial) ≡ true → ⊥
        go (inl below) is lead task =
            let below_k : key_cmp k y.key ≡ Less = subst (λ j. key_cmp j y.key ≡ Less) is below in
            grind (arith, nat_tests)
        go (inr same) is lead task =
            let later : r.key.attempt ≡ a.attempt = ap (λ j. j.attempt) is in
            let was : r.key.attempt ≡ y.key.attempt = ap (λ r. r.key.attempt) same in
            absurd (omega (arith, later, was, attempt))

    by_newest : (o : Option RunRow) → newest_row self t.serial rows ≡ o → attempt_by m t.task.rule o ≡ Some a → IsNone (find_row rows k)
    by_newest None newest e = no_row (λ r found. found_kept (λ r. ⊥) (is_of_task self t.serial) k r rows (all_none (λ r. ⊥) (rows_of_task self t.serial rows) newest) found (tested r found))
    by_newest (Some y) newest e = go (after_row m t.task.rule y.key a y.confirmed y.closed e)
      where
        go : (y.key.number < a.number) ⊎ ((a.number ≡ y.key.number) × (a.attempt ≡ y.key.attempt + 1)) → IsNone (find_row rows k)
        go (inl above) =
            let greatest : number_of (newest_row self t.serial rows) ≡ greatest_number self t.serial rows = greatest_last self t.serial rows up in
            let here : number_of (newest_row self t.serial rows) ≡ y.key.number = ap number_of newest in
            above_new rows k (omega (arith, greatest, here, above))
        go (inr next) = no_row (again y newest next.0 next.1)
