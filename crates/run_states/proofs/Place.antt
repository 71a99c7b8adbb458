-- What a search finds among rows, and what an edit at that place does.
use Rattle.std.proofs.Common.{◌≡◌, ℕ, zero, suc, ◌&&◌, ◌∷◌, [], All, Bool, List, not, length, get_or, set, IfSome, Option, Some, None, map, refl, sym, ap, subst, ◌∙◌, true, false, cond, ◌≢◌, ◌⊎◌, inl, inr, ◌<◌, ◌≤◌, ap₂, arith}
use Rattle.std.proofs.lemmas.Bool.{cases_eq, cases_lt}
use Rattle.std.proofs.lemmas.List.{get_or-set_same, get_or_default, length-set}
use Rattle.std.proofs.lemmas.List.Edits.{get_or-insert_at, length-insert}
use Rattle.std.proofs.lemmas.List.Elements.{recursion_from_All, All-from_recursion}
use Rattle.std.specs.Cmp.{Equal-is}
use Rattle.std.specs.List.{AllByRecursion}
use Rattle.std.specs.Ordering.{is_eq, is_lt, ordering_reverse}
use Rattle.std.specs.declared.cmp.Ordering.{Ordering}
use Rattle.std.specs.declared.cmp.Ordering.TheVariants.{Less, Equal, Greater}
use Rattle.std.specs.List.{insert, remove}
use Rattle.std.specs.List.Sorted.{IsPartitionedBy, IsPartitionPoint}
use Rattle.ps_time.specs.declared.key.RunKey.{RunKey}
use Rattle.run_states.specs.declared.row.RunRow.{RunRow}
use Rattle.run_states.specs.declared.why.Closing.{Closing}
use Rattle.ps_time.specs.Key.{key_cmp}
use Rattle.run_states.specs.declared.life.LifeStep.{LifeStep}
use Rattle.run_states.specs.declared.life.LifeStep.TheVariants.{Confirm, Start, End, Close}
use Rattle.run_states.specs.declared.why.Why.TheVariants.{Preempted}
use Rattle.ps_time.specs.declared.class.Class.{Class}
use Rattle.ps_time.specs.Span.{Span}
use Rattle.run_states.specs.Conflict.{in_conflict, preempted_row}
use Rattle.run_states.specs.declared.answer.Other.{Other}
use Rattle.run_states.specs.declared.fact.Fact.{Fact}
use Rattle.run_states.specs.declared.fact.Fact.TheVariants.{Planned, Answered, MaterialHeard, Merged, Tried}
use Rattle.run_states.specs.Effect.{accept_row, change_other, confirmed_complete, confirmed_if, is_acceptance, is_alone, is_complete, noted_row, with_answer}
use Rattle.run_states.specs.Life.{is_booked, close_row, closed_by, lapse_of, marked_row, settled_row}
use Rattle.ps_time.proofs.KeyLemmas.{key_cmp_same, key_cmp_total, same_key}
use Rattle.ps_time.proofs.SortedLemmas.{ascending_at, find_in_gap, insert_in_gap, find_at, without_at, without_in_gap, ascending-without, ascending-insert, ascending-map, set_changes, ascending-change, change_in_gap, insert-without}
use Rattle.run_states.specs.Rows.{find_row, put_row, lift_row, change_row, is_below, IsAscendingRows, IsPlaceOf, IsGapFor}

is_Less : (o : Ordering) → is_lt o ≡ true → o ≡ Less
is_Less Less is = refl
is_Less Equal is = cc
is_Less Greater is = cc

module _ (rows : List RunRow) (up : IsAscendingRows rows) (k : RunKey) where
  below_key : (a b : RunRow) → key_cmp a.key b.key ≡ Less → is_below k b ≡ true → is_below k a ≡ true
  below_key a b lower below = ap is_lt (key_cmp_total.trans a.key b.key k lower (is_Less (key_cmp b.key k) below))

  -- the rows below the key stand first
  pub below_parted : IsPartitionedBy (is_below k) rows
  below_parted i j d le lt below = go (cases_lt i j)
    where
      go : (i < j) ⊎ (j ≤ i) → is_below k (get_or rows i d) ≡ true
      go (inl less) = below_key (get_or rows i d) (get_or rows j d) (ascending_at key_cmp_total (λ r. r.key) rows up i j d less lt) below
      go (inr same) = let here : j ≡ i = omega (arith, le, same) in subst (λ n. is_below k (get_or rows n d) ≡ true) here below

  -- and where it hasn't, or there is none
  pub gap_found : (at : ℕ) → at ≤ length rows → IsPartitionPoint (λ r. is_below k r ≡ true) (λ r. is_below k r ≡ false) rows at
      → (at < length rows → (d : RunRow) → is_eq (key_cmp (get_or rows at d).key k) ≡ false) → IsGapFor rows k at
  gap_found at within part apart = record {
    within = within;
    parted = (λ i d low high. is_Less (key_cmp (get_or rows i d).key k) (part.0 i d low high), λ i d low high. above i d low high (key_cmp (get_or rows i d).key k) refl (cases_eq at i));
  }
    where
      above : (i : ℕ) (d : RunRow) → at ≤ i → i < length rows → (o : Ordering) → key_cmp (get_or rows i d).key k ≡ o → (at ≡ i) ⊎ (at ≢ i) → o ≡ Greater
      above i d low high Less is c = let wrong = sym (ap is_lt is) ∙ part.1 i d low high in cc
      above i d low high Greater is c = refl
      above i d low high Equal is (inl same) =
          let wrong = sym (ap is_eq is) ∙ ap (λ n. is_eq (key_cmp (get_or rows n d).key k)) (sym same) ∙ apart (omega (arith, same, high)) d in cc
      above i d low high Equal is (inr other) =
          let lower = ascending_at key_cmp_total (λ r. r.key) rows up at i d (omega (arith, low, other)) high in
          let below = subst (λ j. key_cmp (get_or rows at d).key j ≡ Less) (same_key (get_or rows i d).key k is) lower in
          let wrong = sym (ap is_lt below) ∙ part.1 at d (omega arith) (omega (arith, low, high)) in cc

  -- no two places have it
  pub one_place : (i j : ℕ) (d : RunRow) → IsPlaceOf rows k i → IsPlaceOf rows k j → i ≡ j
  one_place i j d first second = go (cases_lt i j) (cases_lt j i)
    where
      apart : (a b : ℕ) → IsPlaceOf rows k a → IsPlaceOf rows k b → a < b → ⊥
      apart a b one other less =
          let lower = ascending_at key_cmp_total (λ r. r.key) rows up a b d less other.within in
          let same = ap₂ key_cmp (same_key (get_or rows a d).key k (one.same d)) (same_key (get_or rows b d).key k (other.same d)) ∙ key_cmp_same k in
          cc (lower, same)

      go : (i < j) ⊎ (j ≤ i) → (j < i) ⊎ (i ≤ j) → i ≡ j
      go (inl less) c = absurd (apart i j first second less)
      go (inr le) (inl less) = absurd (apart j i second first less)
      go (inr le) (inr ge) = omega (arith, le, ge)

  pub find_place : (i : ℕ) (d : RunRow) → IsPlaceOf rows k i → find_row rows k ≡ Some (get_or rows i d)
  find_place i d place = find_at key_cmp_total (λ r. r.key) rows k i d up place.within (place.same d)

  pub lift_place : (i : ℕ) (d : RunRow) → IsPlaceOf rows k i → lift_row rows k ≡ remove rows i
  lift_place i d place = without_at key_cmp_total (λ r. r.key) rows k i d up place.within (place.same d)

  pub ascending_lift : (i : ℕ) (d : RunRow) → IsPlaceOf rows k i → IsAscendingRows (remove rows i)
  ascending_lift i d place = rw (← lift_place i d place) (ascending-without key_cmp_total (λ r. r.key) rows k up)

pub find_gap : (rows : List RunRow) (k : RunKey) (i : ℕ) → IsGapFor rows k i → find_row rows k ≡ None
find_gap rows k i gap = find_in_gap key_cmp_total (λ r. r.key) rows k i gap.parted

pub lift_gap : (rows : List RunRow) (k : RunKey) (i : ℕ) → IsGapFor rows k i → lift_row rows k ≡ rows
lift_gap rows k i gap = without_in_gap key_cmp_total (λ r. r.key) rows k i gap.parted

pub put_gap : (rows : List RunRow) (row : RunRow) (i : ℕ) → IsGapFor rows row.key i → put_row rows row ≡ insert rows i row
put_gap rows row i gap = insert_in_gap key_cmp_total (λ r. r.key) rows row i gap.within gap.parted

pub ascending_put : (rows : List RunRow) (row : RunRow) (i : ℕ) → IsAscendingRows rows → IsGapFor rows row.key i → IsAscendingRows (insert rows i row)
ascending_put rows row i up gap = rw (← put_gap rows row i gap) (ascending-insert key_cmp_total (λ r. r.key) rows row up (find_gap rows row.key i gap))

-- ---- places
-- a row stands at a place of its own key
pub own_place : (rows : List RunRow) (i : ℕ) (r : RunRow) → i < length rows → r ≡ get_or rows i r → IsPlaceOf rows r.key i
own_place rows i r within is = record {
  within = within;
  same = λ d. ap (λ (x : RunRow). key_cmp x.key r.key) (get_or_default rows i d r within ∙ sym is) ∙ key_cmp_same r.key;
}

-- a row that is written over the one of its key keeps the place
pub place_set : (rows : List RunRow) (k : RunKey) (i : ℕ) (r : RunRow) → r.key ≡ k → IsPlaceOf rows k i → IsPlaceOf (set rows i r) k i
place_set rows k i r own place = record {
  within = subst (λ n. i < n) (sym (length-set rows i r)) place.within;
  same = λ d. ap (λ (x : RunRow). key_cmp x.key k) (get_or-set_same rows i r d place.within) ∙ (ap (λ j. key_cmp j k) own ∙ key_cmp_same k);
}

-- a row that is put in stands at that place
pub place_put : (rows : List RunRow) (r : RunRow) (i : ℕ) → i ≤ length rows → IsPlaceOf (insert rows i r) r.key i
place_put rows r i within = record {
  within = let many = length-insert rows i r within in omega (arith, many, within);
  same = λ d. ap (λ (x : RunRow). key_cmp x.key r.key) (get_or-insert_at rows i r d within) ∙ key_cmp_same r.key;
}

-- settling leaves each key
closed_key : (o : Option Closing) (row : RunRow) → (closed_by o row).key ≡ row.key
closed_key None row = refl
closed_key (Some c) row = refl

pub ascending_settled : (m : ℕ) (rows : List RunRow) → IsAscendingRows rows → IsAscendingRows (map (settled_row m) rows)
ascending_settled m rows up = ascending-map key_cmp_total (λ r. r.key) (settled_row m) (λ row. closed_key (lapse_of m row) row) rows up

-- and so does giving way
pub preempted_key : (m : ℕ) (key : RunKey) (class : Class) (interval : Span) (row : RunRow) → (preempted_row m key class interval row).key ≡ row.key
preempted_key m key class interval row = elim (in_conflict key class interval row) as (λ b. (cond b (close_row (record { moment = m; why = Preempted key }) row) row).key ≡ row.key) [ true ↦ refl | false ↦ refl ]

pub ascending_preempted : (m : ℕ) (key : RunKey) (class : Class) (interval : Span) (rows : List RunRow) → IsAscendingRows rows → IsAscendingRows (map (preempted_row m key class interval) rows)
ascending_preempted m key class interval rows up = ascending-map key_cmp_total (λ r. r.key) (preempted_row m key class interval) (preempted_key m key class interval) rows up

module _ (f : RunRow → RunRow) (rows : List RunRow) (k : RunKey) where
  -- a write over the row that has the key changes that row alone
  pub change_place : IsAscendingRows rows → (i : ℕ) (d : RunRow) → IsPlaceOf rows k i → set rows i (f (get_or rows i d)) ≡ change_row f rows k
  change_place up i d place = set_changes key_cmp_total (λ r. r.key) f rows k i d up place.within (place.same d)

  pub ascending_change : ((r : RunRow) → (f r).key ≡ r.key) → IsAscendingRows rows → IsAscendingRows (change_row f rows k)
  ascending_change same up = ascending-change key_cmp_total (λ r. r.key) f same rows k up

  pub change_gap : (i : ℕ) → IsGapFor rows k i → change_row f rows k ≡ rows
  change_gap i gap = change_in_gap key_cmp_total (λ r. r.key) f rows k i gap.parted

-- and so does a step
pub marked_key : (step : LifeStep) (m : ℕ) (row : RunRow) → (marked_row step m row).key ≡ row.key
marked_key Confirm m row = refl
marked_key Start m row = refl
marked_key (End good body) m row = refl
marked_key (Close why) m row = refl

-- and so does a fact
other_key : (f : Other → Other) (place : ℕ) (row : RunRow) → (change_other f place row).key ≡ row.key
other_key f zero row = refl
other_key f (suc i) row = refl

confirmed_key : (test : Bool) (m : ℕ) (row : RunRow) → (confirmed_if test m row).key ≡ row.key
confirmed_key true m row = refl
confirmed_key false m row = refl

answered_key : (test : Bool) (m : ℕ) (row : RunRow) → (cond test (confirmed_complete m row) row).key ≡ row.key
answered_key true m row = confirmed_key (is_booked row && is_complete row) m row
answered_key false m row = refl

pub noted_key : (fact : Fact) (m : ℕ) (row : RunRow) → (noted_row fact m row).key ≡ row.key
noted_key (Planned tool s) m row = let accepted = accept_row m s tool row in confirmed_key (is_booked accepted && is_alone accepted) m accepted
noted_key (Answered place answer) m row = let heard = change_other (with_answer answer) place row in answered_key (is_acceptance answer) m heard ∙ other_key (with_answer answer) place row
noted_key MaterialHeard m row = refl
noted_key (Merged body states) m row = refl
noted_key (Tried index state) m row = refl

-- ---- rows by their keys
-- no row above a key has it
pub above_none : (k : RunKey) (rows : List RunRow) → AllByRecursion (λ y. key_cmp k y.key ≡ Less) rows → (j : RunKey) → j ≡ k → find_row rows j ≡ None
above_none k [] above j same = refl
above_none k (r ∷ rs) above j same =
    ap (λ x. cond x (Some r) (find_row rs j)) (ap (λ i. is_eq (key_cmp r.key i)) same ∙ ap is_eq (key_cmp_total.antisymm r.key k ∙ ap ordering_reverse above.0)) ∙ above_none k rs above.1 j same

pub key_is : (a b : RunKey) → is_eq (key_cmp a b) ≡ true → a ≡ b
key_is a b e = same_key a b ((Equal-is (key_cmp a b)).0 e)

-- a row that was taken out isn't found
pub find_lifted : (rows : List RunRow) (k : RunKey) → find_row (lift_row rows k) k ≡ None
find_lifted [] k = refl
find_lifted (r ∷ rs) k = go (is_eq (key_cmp r.key k)) refl (find_lifted rs k)
  where
    go : (b : Bool) → is_eq (key_cmp r.key k) ≡ b → find_row (lift_row rs k) k ≡ None → find_row (cond (not b) (r ∷ lift_row rs k) (lift_row rs k)) k ≡ None
    go true same none = none
    go false other none = ap (λ b. cond b (Some r) (find_row (lift_row rs k) k)) other ∙ none

-- put back changed, it stands in its place
pub put_back : (rows : List RunRow) (k : RunKey) (r s : RunRow) → IsAscendingRows rows → find_row rows k ≡ Some r → s.key ≡ k → put_row (lift_row rows k) s ≡ change_row (λ before. s) rows k
put_back rows k r s up found same = insert-without key_cmp_total (λ x. x.key) rows k r s up found (ap (λ j. key_cmp j k) same ∙ key_cmp_same k)

-- what holds of each row still does, where the one that has the key is changed
module _ (P Q : RunRow → Type 0) (keep : (r : RunRow) → P r → Q r) (f : RunRow → RunRow) (k : RunKey) (C : RunRow → Type 0) (step : (r : RunRow) → C r → P r → Q (f r)) where
  changed_recursion : (rows : List RunRow) → IsAscendingRows rows → IfSome (find_row rows k) C → AllByRecursion P rows → AllByRecursion Q (change_row f rows k)
  changed_recursion [] up can all = tt
  changed_recursion (r ∷ rs) up can all = go (is_eq (key_cmp r.key k)) refl can (λ c. changed_recursion rs up.1 c all.1)
    where
      go : (b : Bool) → is_eq (key_cmp r.key k) ≡ b → IfSome (cond b (Some r) (find_row rs k)) C → (IfSome (find_row rs k) C → AllByRecursion Q (change_row f rs k)) → Q (cond b (f r) r) × AllByRecursion Q (change_row f rs k)
      go true same can later =
          let none : find_row rs k ≡ None = above_none r.key rs up.0 k (sym (key_is r.key k same)) in
          (step r can all.0, later (subst (λ o. IfSome o C) (sym none) tt))
      go false other can later = (keep r all.0, later can)

  pub changed_all : (rows : List RunRow) → IsAscendingRows rows → IfSome (find_row rows k) C → All P rows → All Q (change_row f rows k)
  changed_all rows up can all = All-from_recursion Q (change_row f rows k) (changed_recursion rows up can (recursion_from_All P rows all))
