-- The key of a task's next attempt, or of a booking, comes after all of its task that stand.
use Rattle.std.specs.Prelude.{◌==◌, IsNone, nat_lt}
use Rattle.std.specs.declared.cmp.Ordering.TheVariants.{Less}
use Rattle.std.proofs.Common.{◌≡◌, ◌<◌, ◌+◌, ◌⊎◌, inl, inr, ℕ, Bool, true, false, List, Option, Some, None, is_some, refl, sym, subst, ap, ◌∙◌, arith}
use Rattle.std.proofs.lemmas.Bool.Decides.{nat_tests}
use Rattle.ps_time.specs.Key.{key_cmp}
use Rattle.ps_time.specs.declared.key.RunKey.{RunKey}
use Rattle.ps_time.proofs.KeyLemmas.{key_cmp_total}
use Rattle.ps_time.proofs.PictureLemmas.{and_true}
use Rattle.ps_time.proofs.SortedLemmas.{ascending-filter}
use Rattle.run_states.specs.Rows.{IsAscendingRows, find_row}
use Rattle.run_states.specs.TaskRows.{greatest_number, is_of_task, newest_row, rows_of_task}
use Rattle.run_states.specs.declared.row.RunRow.{RunRow}
use Rattle.host_model.specs.NextAttempt.{attempt_by, attempt_key, next_attempt}
use Rattle.host_model.specs.declared.lead.Attempt.{Attempt}
use Rattle.host_model.specs.declared.task_row.TaskRow.{TaskRow}
use Rattle.host_model.proofs.Placed.{find_row-key}
use Rattle.host_model.proofs.Wishes.{given_else}
use Rattle.host_model.specs.Booking.{booking_key}
use Rattle.host_model.proofs.NewNumbers.{above_new}
use Rattle.host_model.proofs.NextKeys.{Low, after_row, all_low, all_none, filter_has, found_kept, newest_has}
use Rattle.world_law.proofs.Allowed.{Fresh}

-- ---- bookings
below_number : (j k : RunKey) → j.lead ≡ k.lead → j.task ≡ k.task → j.number < k.number → key_cmp j k ≡ Less
below_number j k lead task low = grind (arith, nat_tests)

pub booking_fresh : (self : ℕ) (rows : List RunRow) → Fresh rows (booking_key self (greatest_number self 0 rows + 1))
booking_fresh self rows j q e lead task =
    let number : j.number < greatest_number self 0 rows + 1 = low (nat_lt (greatest_number self 0 rows) j.number) refl in below_number j (booking_key self (greatest_number self 0 rows + 1)) lead task number
  where
    never : (o : Option RunRow) → IsNone o → is_some o ≡ true → ⊥
    never None n s = cc
    never (Some r) n s = cc

    low : (b : Bool) → nat_lt (greatest_number self 0 rows) j.number ≡ b → j.number < greatest_number self 0 rows + 1
    low false f = let no : nat_lt (greatest_number self 0 rows) j.number ≡ false = f in grind (arith, nat_tests)
    low true f =
        let above : greatest_number self 0 rows < j.number = grind (arith, nat_tests, f) in
        let mine : greatest_number j.lead j.task rows < j.number = subst (λ l. greatest_number l j.task rows < j.number) (sym lead) (subst (λ n. greatest_number self n rows < j.number) (sym task) above) in
        let none : IsNone (find_row rows j) = above_new rows j mine in
        let some : is_some (find_row rows j) ≡ true = ap is_some e in
        absurd (never (find_row rows j) none some)

-- ---- attempts
below_attempt : (j k : RunKey) → j.lead ≡ k.lead → j.task ≡ k.task → j.number ≡ k.number → j.attempt < k.attempt → key_cmp j k ≡ Less
below_attempt j k lead task number low = grind (arith, nat_tests)

pub attempt_fresh : (self : ℕ) (t : TaskRow) (rows : List RunRow) (m : ℕ) (a : Attempt) → IsAscendingRows rows → next_attempt self rows m t ≡ Some a → Fresh rows (attempt_key self t.serial a)
attempt_fresh self t rows m a up next j q e lead task = by_newest (newest_row self t.serial rows) refl (given_else (is_some t.closed) (attempt_by m t.task.rule (newest_row self t.serial rows)) a next).1
  where
    k : RunKey
    k = attempt_key self t.serial a

    own : is_of_task self t.serial q ≡ true
    own =
        let is : q.key ≡ j = find_row-key rows j q e in
        let own_lead : q.key.lead ≡ self = ap (λ x. x.lead) is ∙ lead in
        let own_task : q.key.task ≡ t.serial = ap (λ x. x.task) is ∙ task in
        grind (arith, nat_tests)

    of_task : List RunRow
    of_task = rows_of_task self t.serial rows

    of_task_up : IsAscendingRows of_task
    of_task_up = ascending-filter key_cmp_total (λ r. r.key) (is_of_task self t.serial) rows up

    by_newest : (o : Option RunRow) → newest_row self t.serial rows ≡ o → attempt_by m t.task.rule o ≡ Some a → key_cmp j k ≡ Less
    by_newest None newest f = absurd (found_kept (λ r. ⊥) (is_of_task self t.serial) j q rows (all_none (λ r. ⊥) of_task newest) e own)
    by_newest (Some y) newest f =
        let low : Low y q = found_kept (Low y) (is_of_task self t.serial) j q rows (all_low y of_task of_task_up newest) e own in
        let mine : is_of_task self t.serial y ≡ true = newest_own y newest in
        let y_lead : (y.key.lead == self) ≡ true = (and_true (y.key.lead == self) _ mine).0 in
        let y_task : (y.key.task == t.serial) ≡ true = (and_true (y.key.lead == self) _ mine).1 in
        let after : key_cmp y.key k ≡ Less = above y.key (after_row m t.task.rule y.key a y.confirmed y.closed f) (grind (arith, nat_tests)) (grind (arith, nat_tests)) in
        let is : q.key ≡ j = find_row-key rows j q e in
        elim low [
          | inl below ↦ key_cmp_total.trans j y.key k (subst (λ x. key_cmp x y.key ≡ Less) is below) after
          | inr same ↦ subst (λ x. key_cmp x k ≡ Less) (ap (λ r. r.key) (sym same) ∙ is) after
        ]
      where
        above : (x : RunKey) → (x.number < a.number) ⊎ ((a.number ≡ x.number) × (a.attempt ≡ x.attempt + 1)) → x.lead ≡ self → x.task ≡ t.serial → key_cmp x k ≡ Less
        above x (inl low) own_lead own_task = below_number x k own_lead own_task low
        above x (inr next) own_lead own_task = let attempt = next.1 in below_attempt x k own_lead own_task (sym next.0) (omega (arith, attempt))

        newest_own : (y : RunRow) → newest_row self t.serial rows ≡ Some y → is_of_task self t.serial y ≡ true
        newest_own y is = newest_has (λ r. is_of_task self t.serial r ≡ true) y of_task is (filter_has (is_of_task self t.serial) rows)
