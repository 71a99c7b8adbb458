-- A walk from key to key over keys that ascend.
use Rattle.std.specs.List.{AllByRecursion}
use Rattle.std.specs.Ordering.{ordering_reverse}
use Rattle.std.specs.declared.cmp.Ordering.TheVariants.{Less, Greater}
use Rattle.std.proofs.Common.{◌≡◌, ◌∙◌, ◌∷◌, ◌<◌, ℕ, Bool, true, false, cond, List, [], length, filter, find, Option, Some, None, refl, sym, ap, subst, arith}
use Rattle.ps_time.specs.Key.{key_cmp}
use Rattle.ps_time.specs.Span.{Span}
use Rattle.ps_time.specs.declared.class.Class.{Class}
use Rattle.ps_time.specs.declared.key.RunKey.{RunKey}
use Rattle.ps_time.proofs.KeyLemmas.{key_cmp_same, key_cmp_total}
use Rattle.ps_time.proofs.SortedLemmas.{ascending-filter}
use Rattle.run_states.specs.Conflict.{in_conflict}
use Rattle.run_states.specs.Preemption.{conflicts}
use Rattle.run_states.specs.Rows.{IsAscendingRows}
use Rattle.run_states.specs.TaskRows.{is_of_task}
use Rattle.run_states.specs.declared.row.RunRow.{RunRow}
use Rattle.host_timeline.specs.Booking.{is_after}
use Rattle.host_timeline.proofs.Least.{below_far}
use Rattle.host_model.specs.Book.{keys_of_rows}
use Rattle.lead_orders.specs.Listing.{AreAscending}
use Rattle.host_inputs.specs.Runs.{keys_after, runs_of_task}

-- ---- keys of rows ascend as these do
above : (k : RunKey) (rows : List RunRow) → AllByRecursion (λ y. key_cmp k y.key ≡ Less) rows → AllByRecursion (λ j. key_cmp k j ≡ Less) (keys_of_rows rows)
above k [] all = tt
above k (r ∷ rs) all = (all.0, above k rs all.1)

pub keys_up : (rows : List RunRow) → IsAscendingRows rows → AreAscending (keys_of_rows rows)
keys_up [] up = tt
keys_up (r ∷ rs) up = (above r.key rs up.0, keys_up rs up.1)

pub conflicts_up : (key : RunKey) (class : Class) (s : Span) (rows : List RunRow) → IsAscendingRows rows → AreAscending (keys_of_rows (conflicts key class s rows))
conflicts_up key class s rows up = keys_up (conflicts key class s rows) (ascending-filter key_cmp_total (λ r. r.key) (in_conflict key class s) rows up)

pub runs_up : (lead serial : ℕ) (rows : List RunRow) → IsAscendingRows rows → AreAscending (runs_of_task lead serial rows)
runs_up lead serial rows up = keys_up (filter (is_of_task lead serial) rows) (ascending-filter key_cmp_total (λ r. r.key) (is_of_task lead serial) rows up)

-- ---- one step
-- what holds of all keys holds of the one that is found
found_has : (P : RunKey → Type 0) (p : RunKey → Bool) (ks : List RunKey) (j : RunKey) → AllByRecursion P ks → find p ks ≡ Some j → P j
found_has P p [] j all found = cc
found_has P p (k ∷ ks) j all found = go (p k) found (found_has P p ks j all.1)
  where
    go : (b : Bool) → cond b (Some k) (find p ks) ≡ Some j → (find p ks ≡ Some j → P j) → P j
    go true here later = let is : k ≡ j = cc in subst P is all.0
    go false here later = later here

module _ (after : Option RunKey) where
  after_later : (j k : RunKey) → is_after after j ≡ true → key_cmp j k ≡ Less → is_after after k ≡ true
  after_later j k first less = later after first
    where
      later : (low : Option RunKey) → is_after low j ≡ true → is_after low k ≡ true
      later None first = refl
      later (Some low) first = below_far low j k first (rw less refl)

  rest_same : (k : RunKey) (ks : List RunKey) → is_after after k ≡ true → AllByRecursion (λ x. key_cmp k x ≡ Less) ks → keys_after after ks ≡ keys_after (Some k) ks
  rest_same k [] first all = refl
  rest_same k (x ∷ xs) first all = rw (after_later k x first all.0, all.0, rest_same k xs first all.1) refl

  -- from the key that is found on, the others are those above it
  pub next_is : (ks : List RunKey) (j : RunKey) → AreAscending ks → find (is_after after) ks ≡ Some j → keys_after after ks ≡ j ∷ keys_after (Some j) ks
  next_is [] j up found = cc
  next_is (k ∷ ks) j up found = go (is_after after k) refl found (next_is ks j up.1)
    where
      own : keys_after (Some k) (k ∷ ks) ≡ keys_after (Some k) ks
      own = rw (key_cmp_same k) refl

      go : (b : Bool) → is_after after k ≡ b → cond b (Some k) (find (is_after after) ks) ≡ Some j → (find (is_after after) ks ≡ Some j → keys_after after ks ≡ j ∷ keys_after (Some j) ks)
          → cond b (k ∷ keys_after after ks) (keys_after after ks) ≡ j ∷ keys_after (Some j) (k ∷ ks)
      go true first here later =
          let is : k ≡ j = cc in
          subst (λ i. k ∷ keys_after after ks ≡ i ∷ keys_after (Some i) (k ∷ ks)) is (ap (λ l. k ∷ l) (rest_same k ks first up.0 ∙ sym own))
      go false off here later =
          let less : key_cmp k j ≡ Less = found_has (λ x. key_cmp k x ≡ Less) (is_after after) ks j up.0 here in
          let greater : key_cmp j k ≡ Greater = key_cmp_total.antisymm j k ∙ ap ordering_reverse less in
          let gone : keys_after (Some j) (k ∷ ks) ≡ keys_after (Some j) ks = rw greater refl in
          later here ∙ ap (λ l. j ∷ l) (sym gone)

  -- where none is found, none is left
  pub none_left : (ks : List RunKey) → find (is_after after) ks ≡ None → keys_after after ks ≡ []
  none_left [] none = refl
  none_left (k ∷ ks) none = go (is_after after k) none (none_left ks)
    where
      go : (b : Bool) → cond b (Some k) (find (is_after after) ks) ≡ None → (find (is_after after) ks ≡ None → keys_after after ks ≡ []) → cond b (k ∷ keys_after after ks) (keys_after after ks) ≡ []
      go true none later = cc
      go false none later = later none

  -- so fewer are left
  pub fewer : (ks : List RunKey) (j : RunKey) → AreAscending ks → find (is_after after) ks ≡ Some j → length (keys_after (Some j) ks) < length (keys_after after ks)
  fewer ks j up found = let next = next_is ks j up found in rw next (omega arith)

-- at first all are left
pub all_left : (ks : List RunKey) → keys_after None ks ≡ ks
all_left [] = refl
all_left (k ∷ ks) = ap (λ l. k ∷ l) (all_left ks)
