-- Whether a run is hindered is told by keys among which every run that hinders it is.
use Rattle.std.specs.List.{AllByRecursion, list_any}
use Rattle.std.specs.Ordering.{is_eq}
use Rattle.std.specs.Prelude.{IsSome}
use Rattle.std.proofs.Common.{◌≡◌, ◌||◌, Bool, true, false, cond, List, [], ◌∷◌, Some, is_some, refl, ap, ◌∙◌}
use Rattle.std.proofs.Math.Bool.{or-true}
use Rattle.std.proofs.lemmas.List.Elements.{recursion_from_All}
use Rattle.ps_time.specs.Key.{key_cmp}
use Rattle.ps_time.specs.declared.class.Class.{Class}
use Rattle.ps_time.specs.declared.key.RunKey.{RunKey}
use Rattle.run_states.specs.Rows.{IsAscendingRows, find_row}
use Rattle.run_states.specs.declared.row.RunRow.{RunRow}
use Rattle.host_rows.specs.LiveKeys.{find_own}
use Rattle.host_model.specs.Starting.{is_hindered}
use Rattle.host_model.proofs.Keyed.{key_is}
use Rattle.host_model.proofs.RowLemmas.{all_of_found}
use Rattle.host_turns.specs.Wishes.{HoldHindering, hinders, is_hindering}

or_right : (a b : Bool) → b ≡ true → (a || b) ≡ true
or_right a b e = ap (λ x. a || x) e ∙ or-true a

bool_same : (a b : Bool) → (a ≡ true → b ≡ true) → (b ≡ true → a ≡ true) → a ≡ b
bool_same true true f g = refl
bool_same false false f g = refl
bool_same true false f g = let fails = f refl in cc
bool_same false true f g = let fails = g refl in cc

-- where each item that passes shows something, and one passes, it is shown
any_shows : {X : Type 0} (p : X → Bool) (P : Type 0) (xs : List X) → AllByRecursion (λ x. p x ≡ true → P) xs → list_any p xs ≡ true → P
any_shows p P [] all e = cc
any_shows p P (x ∷ xs) all e = go (p x) refl e (any_shows p P xs all.1)
  where
    go : (b : Bool) → p x ≡ b → (b || list_any p xs) ≡ true → (list_any p xs ≡ true → P) → P
    go true is e later = all.0 is
    go false is e later = later e

module _ (class : Class) (rows : List RunRow) where
  -- one of these keys is of a run that hinders
  abbrev among : List RunKey → Bool
  among ks = list_any (λ k. is_hindering class (find_row rows k)) ks

  hit : (ks : List RunKey) (k : RunKey) (r : RunRow) → find_row rows k ≡ Some r → hinders class r ≡ true → IsSome (find_own ks k) → among ks ≡ true
  hit [] k r at is own = cc
  hit (j ∷ ks) k r at is own = go (is_eq (key_cmp j k)) refl own (hit ks k r at is)
    where
      go : (b : Bool) → is_eq (key_cmp j k) ≡ b → is_some (cond b (Some j) (find_own ks k)) ≡ true → (IsSome (find_own ks k) → among ks ≡ true) → (is_hindering class (find_row rows j) || among ks) ≡ true
      go true same own later = ap (λ o. is_hindering class o || among ks) (ap (find_row rows) (key_is j k same) ∙ at) ∙ ap (λ b. b || among ks) is
      go false other own later = or_right (is_hindering class (find_row rows j)) (among ks) (later own)

  found_any : (rs : List RunRow) (k : RunKey) → is_hindering class (find_row rs k) ≡ true → list_any (hinders class) rs ≡ true
  found_any [] k e = e
  found_any (r ∷ rs) k e = go (is_eq (key_cmp r.key k)) e (found_any rs k)
    where
      go : (b : Bool) → is_hindering class (cond b (Some r) (find_row rs k)) ≡ true → (is_hindering class (find_row rs k) ≡ true → list_any (hinders class) rs ≡ true) → (hinders class r || list_any (hinders class) rs) ≡ true
      go true e later = ap (λ b. b || list_any (hinders class) rs) e
      go false e later = or_right (hinders class r) (list_any (hinders class) rs) (later e)

  among_any : (ks : List RunKey) → among ks ≡ true → list_any (hinders class) rows ≡ true
  among_any [] e = cc
  among_any (k ∷ ks) e = go (is_hindering class (find_row rows k)) refl e (among_any ks)
    where
      go : (b : Bool) → is_hindering class (find_row rows k) ≡ b → (b || among ks) ≡ true → (among ks ≡ true → list_any (hinders class) rows ≡ true) → list_any (hinders class) rows ≡ true
      go true is e later = found_any rows k is
      go false is e later = later e

  pub hindered_among : (ks : List RunKey) → IsAscendingRows rows → HoldHindering class ks rows → among ks ≡ is_hindered rows class
  hindered_among ks up hold =
      let each : AllByRecursion (λ r. hinders class r ≡ true → among ks ≡ true) rows =
      recursion_from_All (λ r. hinders class r ≡ true → among ks ≡ true) rows (all_of_found (λ r. hinders class r ≡ true → among ks ≡ true) rows up (λ r at is.
      hit ks r.key r at is (hold r.key r at is))) in
      bool_same (among ks) (is_hindered rows class) (among_any ks) (any_shows (hinders class) (among ks ≡ true) rows each)
