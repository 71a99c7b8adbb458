-- A run of a task with a greater number than all others is new.
use Rattle.std.specs.Ordering.{is_eq}
use Rattle.std.specs.Prelude.{IsNone}
use Rattle.std.proofs.Common.{◌≡◌, ◌≤◌, ◌<◌, max, ℕ, Bool, true, false, cond, List, [], ◌∷◌, Option, Some, None, refl, sym, subst, ap, arith}
use Rattle.std.proofs.lemmas.Bool.Decides.{nat_tests}
use Rattle.ps_time.specs.Key.{key_cmp}
use Rattle.ps_time.specs.declared.key.RunKey.{RunKey}
use Rattle.run_states.specs.Rows.{find_row}
use Rattle.run_states.specs.TaskRows.{greatest_number, is_of_task}
use Rattle.run_states.specs.declared.row.RunRow.{RunRow}
use Rattle.host_model.proofs.Placed.{find_row-key}

-- the number of a run of a task isn't above the greatest
number_low : (self serial : ℕ) (rows : List RunRow) (k : RunKey) (r : RunRow) → find_row rows k ≡ Some r → is_of_task self serial r ≡ true → r.key.number ≤ greatest_number self serial rows
number_low self serial [] k r e own = cc
number_low self serial (x ∷ xs) k r e own = go (is_eq (key_cmp x.key k)) e (number_low self serial xs k r)
  where
    here : (t : Bool) → is_of_task self serial x ≡ t → x ≡ r → r.key.number ≤ cond t (max x.key.number (greatest_number self serial xs)) (greatest_number self serial xs)
    here true h is = subst (λ y. y.key.number ≤ max x.key.number (greatest_number self serial xs)) is (omega arith)
    here false h is = let mine : is_of_task self serial x ≡ true = subst (λ y. is_of_task self serial y ≡ true) (sym is) own in cc

    later : (t : Bool) → r.key.number ≤ greatest_number self serial xs → r.key.number ≤ cond t (max x.key.number (greatest_number self serial xs)) (greatest_number self serial xs)
    later true low = omega (arith, low)
    later false low = low

    go : (t : Bool) → cond t (Some x) (find_row xs k) ≡ Some r → (find_row xs k ≡ Some r → is_of_task self serial r ≡ true → r.key.number ≤ greatest_number self serial xs) →
        r.key.number ≤ cond (is_of_task self serial x) (max x.key.number (greatest_number self serial xs)) (greatest_number self serial xs)
    go true e ih = here (is_of_task self serial x) refl cc
    go false e ih = later (is_of_task self serial x) (ih e own)

-- a run of a task with a greater number than all is new
pub above_new : (rows : List RunRow) (k : RunKey) → greatest_number k.lead k.task rows < k.number → IsNone (find_row rows k)
above_new rows k above = go (find_row rows k) refl
  where
    go : (o : Option RunRow) → find_row rows k ≡ o → IsNone o
    go None e = refl
    go (Some r) e =
        let is : r.key ≡ k = find_row-key rows k r e in
        let own : is_of_task k.lead k.task r ≡ true = grind (arith, nat_tests) in
        let low : r.key.number ≤ greatest_number k.lead k.task rows = number_low k.lead k.task rows k r e own in
        let same : r.key.number ≡ k.number = ap (λ j. j.number) is in
        absurd (omega (arith, above, low, same))
