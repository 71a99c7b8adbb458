-- The rows of one task stand side by side.
use Rattle.std.proofs.Common.{◌≡◌, ℕ, zero, suc, ◌-◌, ◌<◌, ◌≤◌, ◌&&◌, ◌==◌, ◌||◌, nat_lt, max, cond, Bool, not, true, false, List, [], ◌∷◌, length, get_or, take, drop, filter, All, Option, Some, None, refl, sym, ap, ◌∙◌, subst, drop-cons, arith}
use Rattle.std.proofs.lemmas.Bool.Decides.{nat_tests}
use Rattle.std.specs.List.{AllByRecursion, last_or, list_any, slice_get}
use Rattle.std.specs.List.Sorted.{IsPartitionPoint, IsPartitionedBy}
use Rattle.std.specs.declared.cmp.Ordering.TheVariants.{Less, Equal}
use Rattle.ps_time.specs.Key.{key_cmp}
use Rattle.ps_time.specs.declared.key.RunKey.{RunKey}
use Rattle.ps_time.proofs.KeyLemmas.{key_cmp_total, same_key}
use Rattle.ps_time.proofs.SortedLemmas.{ascending_at}
use Rattle.run_states.specs.declared.row.RunRow.{RunRow}
use Rattle.run_states.specs.Purging.{is_later}
use Rattle.run_states.specs.Rows.{IsAscendingRows, is_above}
use Rattle.run_states.specs.TaskRows.{greatest_number, is_before_task, is_of_task, newest_row, number_of, rows_of_task}

module _ (k : RunKey) where
  -- the row is of the same task
  abbrev same_task : RunRow → Bool
  same_task r = (r.key.lead == k.lead) && (r.key.task == k.task)

  abbrev first_of_task : List RunRow → Bool
  first_of_task [] = false
  first_of_task (r ∷ rs) = same_task r

  later_above : (r : RunRow) → key_cmp k r.key ≡ Less → is_later k r.key ≡ same_task r
  later_above r above = grind (arith, nat_tests)

  not_below : (r : RunRow) → key_cmp r.key k ≡ Less → is_later k r.key ≡ false
  not_below r below = grind (arith, nat_tests)

  not_itself : (r : RunRow) → r.key ≡ k → is_later k r.key ≡ false
  not_itself r same = grind (arith, nat_tests)

  between : (r s : RunRow) → key_cmp k r.key ≡ Less → key_cmp r.key s.key ≡ Less → same_task r ≡ false → same_task s ≡ false
  between r s low high other = grind (arith, nat_tests)

  -- where each is above the key, a later one of the task comes first
  any_above : (rows : List RunRow) → IsAscendingRows rows → AllByRecursion (λ y. key_cmp k y.key ≡ Less) rows → list_any (λ s. is_later k s.key) rows ≡ first_of_task rows
  any_above [] up above = refl
  any_above (r ∷ rs) up above = ap (λ b. b || list_any (λ s. is_later k s.key) rs) (later_above r above.0) ∙ go (same_task r) refl (any_above rs up.1 above.1)
    where
      rest : (xs : List RunRow) → AllByRecursion (λ y. key_cmp r.key y.key ≡ Less) xs → same_task r ≡ false → first_of_task xs ≡ false
      rest [] higher other = refl
      rest (s ∷ ss) higher other = between r s above.0 higher.0 other

      go : (b : Bool) → same_task r ≡ b → list_any (λ s. is_later k s.key) rs ≡ first_of_task rs → (b || list_any (λ s. is_later k s.key) rs) ≡ b
      go true is later = refl
      go false is later = later ∙ rest rs up.0 is

  -- behind the place of the key
  any_later : (rows : List RunRow) (at : ℕ) (d : RunRow) → IsAscendingRows rows → at < length rows → key_cmp (get_or rows at d).key k ≡ Equal → list_any (λ s. is_later k s.key) rows ≡ first_of_task (drop (suc at) rows)
  any_later [] at d up lt same = absurd (omega arith)
  any_later (r ∷ rs) zero d up lt same =
      let is : r.key ≡ k = same_key r.key k same in
      ap (λ b. b || list_any (λ s. is_later k s.key) rs) (not_itself r is) ∙ any_above rs up.1 (subst (λ j. AllByRecursion (λ y. key_cmp j y.key ≡ Less) rs) is up.0)
  any_later (r ∷ rs) (suc i) d up lt same =
      let is : (get_or rs i d).key ≡ k = same_key (get_or rs i d).key k same in
      let below : key_cmp r.key (get_or rs i d).key ≡ Less = ascending_at key_cmp_total (λ x. x.key) (r ∷ rs) up 0 (suc i) d (omega arith) lt in
      ap (λ b. b || list_any (λ s. is_later k s.key) rs) (not_below r (subst (λ j. key_cmp r.key j ≡ Less) is below)) ∙ any_later rs i d up.1 (omega arith) same

  pub any_later_at : (rows : List RunRow) (at : ℕ) → IsAscendingRows rows → at < length rows → ((d : RunRow) → key_cmp (get_or rows at d).key k ≡ Equal) → list_any (λ s. is_later k s.key) rows ≡ first_of_task (drop (suc at) rows)
  any_later_at [] at up lt same = absurd (omega arith)
  any_later_at (r ∷ rs) at up lt same = any_later (r ∷ rs) at r up lt (same r)

  pub next_there : (rows : List RunRow) (i : ℕ) (d : RunRow) → i < length rows → first_of_task (drop i rows) ≡ same_task (get_or rows i d)
  next_there rows i d lt = ap first_of_task (drop-cons rows i d lt)

  pub next_none : (rows : List RunRow) (i : ℕ) → length rows ≤ i → first_of_task (drop i rows) ≡ false
  next_none [] zero le = refl
  next_none [] (suc i) le = refl
  next_none (r ∷ rs) zero le = absurd (omega arith)
  next_none (r ∷ rs) (suc i) le = next_none rs i (omega arith)

-- ---- parts of a list
module _ {X : Type 0} (q : X → Bool) where
  -- what passes stands first
  filter_part : (xs : List X) (i : ℕ) → IsPartitionPoint (λ x. q x ≡ true) (λ x. q x ≡ false) xs i → filter q xs ≡ take i xs
  filter_part [] zero part = refl
  filter_part [] (suc i) part = refl
  filter_part (x ∷ xs) zero part =
      rw (part.1 0 x (omega arith) (omega arith)) (filter_part xs zero (λ j d low high. absurd (omega arith), λ j d low high. part.1 (suc j) d (omega arith) (omega arith)))
  filter_part (x ∷ xs) (suc i) part =
      rw (part.0 0 x (omega arith) (omega arith)) (ap (λ l. x ∷ l) (filter_part xs i (λ j d low high. part.0 (suc j) d (omega arith) (omega arith), λ j d low high. part.1 (suc j) d (omega arith) (omega arith))))

  -- of what stands before, nothing passes
  filter_rest : (p : X → Bool) → ((x : X) → p x ≡ true → q x ≡ false) → (xs : List X) (i : ℕ) → IsPartitionPoint (λ x. p x ≡ true) (λ x. p x ≡ false) xs i → filter q xs ≡ filter q (drop i xs)
  filter_rest p apart [] zero part = refl
  filter_rest p apart [] (suc i) part = refl
  filter_rest p apart (x ∷ xs) zero part = refl
  filter_rest p apart (x ∷ xs) (suc i) part =
      rw (apart x (part.0 0 x (omega arith) (omega arith))) (filter_rest p apart xs i (λ j d low high. part.0 (suc j) d (omega arith) (omega arith), λ j d low high. part.1 (suc j) d (omega arith) (omega arith)))

-- ---- the rows of a task, between those before and those behind
module _ (lead serial : ℕ) where
  before_key : (a b : RunRow) → key_cmp a.key b.key ≡ Less → is_before_task lead serial b ≡ true → is_before_task lead serial a ≡ true
  before_key a b below late = grind (arith, nat_tests)

  of_key : (a b : RunRow) → key_cmp a.key b.key ≡ Less → is_before_task lead serial a ≡ false → is_of_task lead serial b ≡ true → is_of_task lead serial a ≡ true
  of_key a b below early late = grind (arith, nat_tests)

  before_not_of : (r : RunRow) → is_before_task lead serial r ≡ true → is_of_task lead serial r ≡ false
  before_not_of r before = grind (arith, nat_tests)

  module _ (rows : List RunRow) (up : IsAscendingRows rows) where
    pub before_parted : IsPartitionedBy (is_before_task lead serial) rows
    before_parted i j d le lt late = go (nat_lt i j) refl
      where
        go : (b : Bool) → nat_lt i j ≡ b → is_before_task lead serial (get_or rows i d) ≡ true
        go true less = before_key (get_or rows i d) (get_or rows j d) (ascending_at key_cmp_total (λ r. r.key) rows up i j d (grind (arith, nat_tests)) lt) late
        go false same = let here : j ≡ i = grind (arith, nat_tests) in subst (λ k. is_before_task lead serial (get_or rows k d) ≡ true) here late

    pub of_parted : All (λ r. is_before_task lead serial r ≡ false) rows → IsPartitionedBy (is_of_task lead serial) rows
    of_parted none i j d le lt late = go (nat_lt i j) refl
      where
        go : (b : Bool) → nat_lt i j ≡ b → is_of_task lead serial (get_or rows i d) ≡ true
        go true less =
            let lower : i < j = grind (arith, nat_tests) in
            of_key (get_or rows i d) (get_or rows j d) (ascending_at key_cmp_total (λ r. r.key) rows up i j d lower lt) (none i d (omega arith)) late
        go false same = let here : j ≡ i = grind (arith, nat_tests) in subst (λ k. is_of_task lead serial (get_or rows k d) ≡ true) here late

  -- the rows of the task are a part of all
  pub of_task_part : (rows : List RunRow) (first count : ℕ) → IsPartitionPoint (λ r. is_before_task lead serial r ≡ true) (λ r. is_before_task lead serial r ≡ false) rows first
      → IsPartitionPoint (λ r. is_of_task lead serial r ≡ true) (λ r. is_of_task lead serial r ≡ false) (drop first rows) count → take count (drop first rows) ≡ rows_of_task lead serial rows
  of_task_part rows first count before of =
      sym (filter_rest (is_of_task lead serial) (is_before_task lead serial) before_not_of rows first before ∙ filter_part (is_of_task lead serial) (drop first rows) count of)

  -- ---- the greatest number is that of the last
  -- a row of the task that may be there is below all of these
  abbrev IsBelow : Option RunRow → List RunRow → Type 0
  IsBelow None rows = Unit {0}
  IsBelow (Some r) rows = (is_of_task lead serial r ≡ true) × AllByRecursion (λ y. key_cmp r.key y.key ≡ Less) rows

  number_up : (a b : RunRow) → key_cmp a.key b.key ≡ Less → is_of_task lead serial a ≡ true → is_of_task lead serial b ≡ true → a.key.number ≤ b.key.number
  number_up a b below first second = grind (arith, nat_tests)

  number_last : (rows : List RunRow) (o : Option RunRow) → IsAscendingRows rows → IsBelow o rows → max (number_of o) (greatest_number lead serial rows) ≡ number_of (last_or o (filter (is_of_task lead serial) rows))
  number_last [] o up below = omega arith
  number_last (r ∷ rs) o up below = go (is_of_task lead serial r) refl (number_last rs (Some r) up.1) (number_last rs o up.1 (rest o below)) (least o below)
    where
      rest : (p : Option RunRow) → IsBelow p (r ∷ rs) → IsBelow p rs
      rest None b = tt
      rest (Some s) b = (b.0, b.1.1)

      least : (p : Option RunRow) → IsBelow p (r ∷ rs) → is_of_task lead serial r ≡ true → number_of p ≤ r.key.number
      least None b is = omega arith
      least (Some s) b is = number_up s r b.1.0 b.0 is

      go : (b : Bool) → is_of_task lead serial r ≡ b → (IsBelow (Some r) rs → max r.key.number (greatest_number lead serial rs) ≡ number_of (last_or (Some r) (filter (is_of_task lead serial) rs)))
          → max (number_of o) (greatest_number lead serial rs) ≡ number_of (last_or o (filter (is_of_task lead serial) rs)) → (is_of_task lead serial r ≡ true → number_of o ≤ r.key.number)
          → max (number_of o) (cond b (max r.key.number (greatest_number lead serial rs)) (greatest_number lead serial rs)) ≡ number_of (last_or o (cond b (r ∷ filter (is_of_task lead serial) rs) (filter (is_of_task lead serial) rs)))
      go true is mine others low = let up_to = low is in omega (arith, mine (is, up.0), up_to)
      go false is mine others low = others

  pub greatest_last : (rows : List RunRow) → IsAscendingRows rows → number_of (newest_row lead serial rows) ≡ greatest_number lead serial rows
  greatest_last rows up = sym (number_last rows None up tt) ∙ omega arith

-- ---- what stands from a place on
pub ascending_drop : (rows : List RunRow) (i : ℕ) → IsAscendingRows rows → IsAscendingRows (drop i rows)
ascending_drop [] zero up = tt
ascending_drop [] (suc i) up = tt
ascending_drop (r ∷ rs) zero up = up
ascending_drop (r ∷ rs) (suc i) up = ascending_drop rs i up.1

-- ---- the last of a list
last_at : {X : Type 0} (o : Option X) (x : X) (xs : List X) → last_or o (x ∷ xs) ≡ slice_get (x ∷ xs) (length xs)
last_at o x [] = refl
last_at o x (y ∷ ys) = last_at (Some x) y ys

pub last_get : {X : Type 0} (xs : List X) → slice_get xs (length xs - 1) ≡ last_or None xs
last_get [] = refl
last_get (x ∷ xs) = let last : length (x ∷ xs) - 1 ≡ length xs = omega arith in ap (slice_get (x ∷ xs)) last ∙ sym (last_at None x xs)

-- the last of a list that passes is the last of those that pass
module _ {X : Type 0} (q : X → Bool) (x : X) (passes : q x ≡ true) where
  last_kept : (xs : List X) (o p : Option X) → last_or o xs ≡ Some x → (o ≡ Some x → p ≡ Some x) → last_or p (filter q xs) ≡ Some x
  last_kept [] o p last same = same last
  last_kept (y ∷ ys) o p last same = go (q y) refl (last_kept ys (Some y) (Some y) last (λ e. e)) (last_kept ys (Some y) p last)
    where
      other : q y ≡ false → Some y ≡ Some x → p ≡ Some x
      other fails is = let here : y ≡ x = cc in let wrong : q x ≡ false = subst (λ z. q z ≡ false) here fails in let never = sym passes ∙ wrong in cc

      go : (b : Bool) → q y ≡ b → last_or (Some y) (filter q ys) ≡ Some x → ((Some y ≡ Some x → p ≡ Some x) → last_or p (filter q ys) ≡ Some x) → last_or p (cond b (y ∷ filter q ys) (filter q ys)) ≡ Some x
      go true is mine others = mine
      go false is mine others = others (other is)

  pub last_passing : (xs : List X) → slice_get xs (length xs - 1) ≡ Some x → last_or None (filter q xs) ≡ Some x
  last_passing xs last = last_kept xs None None (sym (last_get xs) ∙ last) (λ e. e)

-- ---- rows above a key
module _ (key : RunKey) where
  not_above : (a b : RunRow) → key_cmp a.key b.key ≡ Less → not (is_above key b) ≡ true → not (is_above key a) ≡ true
  not_above a b below low = grind (arith, nat_tests)

  pub above_parted : (rows : List RunRow) → IsAscendingRows rows → IsPartitionedBy (λ r. not (is_above key r)) rows
  above_parted rows up i j d le lt low = go (nat_lt i j) refl
    where
      go : (b : Bool) → nat_lt i j ≡ b → not (is_above key (get_or rows i d)) ≡ true
      go true less = not_above (get_or rows i d) (get_or rows j d) (ascending_at key_cmp_total (λ r. r.key) rows up i j d (grind (arith, nat_tests)) lt) low
      go false same = let here : j ≡ i = grind (arith, nat_tests) in subst (λ k. not (is_above key (get_or rows k d)) ≡ true) here low

  -- they are the last
  pub above_part : (rows : List RunRow) (i : ℕ) → IsPartitionPoint (λ r. not (is_above key r) ≡ true) (λ r. not (is_above key r) ≡ false) rows i → filter (is_above key) rows ≡ drop i rows
  above_part [] zero part = refl
  above_part [] (suc i) part = refl
  above_part (r ∷ rs) zero part =
      rw (is_true (is_above key r) (part.1 0 r (omega arith) (omega arith))) (ap (λ l. r ∷ l) (above_part rs zero (λ j d low high. absurd (omega arith), λ j d low high. part.1 (suc j) d (omega arith) (omega arith))))
    where
      is_true : (b : Bool) → not b ≡ false → b ≡ true
      is_true true is = refl
      is_true false is = sym is
  above_part (r ∷ rs) (suc i) part =
      rw (is_false (is_above key r) (part.0 0 r (omega arith) (omega arith))) (above_part rs i (λ j d low high. part.0 (suc j) d (omega arith) (omega arith), λ j d low high. part.1 (suc j) d (omega arith) (omega arith)))
    where
      is_false : (b : Bool) → not b ≡ true → b ≡ false
      is_false true is = sym is
      is_false false is = refl
