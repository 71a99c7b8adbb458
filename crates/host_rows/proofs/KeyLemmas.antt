-- What a search finds among keys, and what an edit at that place does.
use Rattle.std.proofs.Common.{◌≡◌, ℕ, Bool, true, false, cond, List, [], ◌∷◌, filter, map, length, get_or, Result, Ok, Err, IfOk, IfErr, None, refl, ap, ap₂, sym, ◌∙◌}
use Rattle.std.specs.List.{AllByRecursion, insert, remove}
use Rattle.std.specs.List.Sorted.{IsSearchInRange, IsBinarySearchResult}
use Rattle.std.specs.Ordering.{is_eq}
use Rattle.std.specs.declared.cmp.Ordering.TheVariants.{Less}
use Rattle.ps_time.specs.Key.{key_cmp}
use Rattle.ps_time.specs.Sorted.{replace_key}
use Rattle.ps_time.specs.declared.key.RunKey.{RunKey}
use Rattle.ps_time.proofs.KeyLemmas.{key_cmp_same, key_cmp_total}
use Rattle.ps_time.proofs.SortedLemmas.{searchable, find_in_gap, insert_in_gap, insert-without, find_at, without_at, without_in_gap, ascending-filter, ascending-without, ascending-insert}
use Rattle.run_states.specs.Rows.{IsAscendingRows}
use Rattle.run_states.specs.declared.row.RunRow.{RunRow}
use Rattle.run_states.proofs.Place.{key_is}
use Rattle.host_rows.specs.LiveKeys.{drop_key, find_own, with_key, IsAscendingKeys, IsGapFor, IsPlaceOf}
use Rattle.host_rows.specs.Still.{is_live, live_keys}

abbrev own : RunKey → RunKey
own k = k

module _ (ks : List RunKey) (up : IsAscendingKeys ks) (k : RunKey) where
  pub searched : (r : Result ℕ ℕ) → IsSearchInRange r (length ks) → IsBinarySearchResult (λ j. key_cmp j k) ks r → record { found : IfOk r (IsPlaceOf ks k); absent : IfErr r (IsGapFor ks k) }
  searched (Ok at) within equal = record { found = record { within = within; same = equal }; absent = tt }
  searched (Err at) within parted = record { found = tt; absent = record { within = within; parted = parted (searchable key_cmp_total own ks up k) } }

  pub drop_place : (i : ℕ) (d : RunKey) → IsPlaceOf ks k i → drop_key ks k ≡ remove ks i
  drop_place i d place = without_at key_cmp_total own ks k i d up place.within (place.same d)

  pub ascending_drop : (i : ℕ) (d : RunKey) → IsPlaceOf ks k i → IsAscendingKeys (remove ks i)
  ascending_drop i d place = rw (← drop_place i d place) (ascending-without key_cmp_total own ks k up)

  replaced : (js : List RunKey) → replace_key key_cmp own js k k ≡ js
  replaced [] = refl
  replaced (j ∷ js) = ap₂ (λ x l. x ∷ l) (go (is_eq (key_cmp j k)) refl) (replaced js)
    where
      go : (b : Bool) → is_eq (key_cmp j k) ≡ b → cond b k j ≡ j
      go true same = sym (key_is j k same)
      go false other = refl

  -- what is put where it is already stays
  pub put_place : (i : ℕ) → IsPlaceOf ks k i → with_key (drop_key ks k) k ≡ ks
  put_place i place = insert-without key_cmp_total own ks k (get_or ks i k) k up (find_at key_cmp_total own ks k i k up place.within (place.same k)) (key_cmp_same k) ∙ replaced ks

pub find_gap : (ks : List RunKey) (k : RunKey) (i : ℕ) → IsGapFor ks k i → find_own ks k ≡ None
find_gap ks k i gap = find_in_gap key_cmp_total own ks k i gap.parted

pub drop_gap : (ks : List RunKey) (k : RunKey) (i : ℕ) → IsGapFor ks k i → drop_key ks k ≡ ks
drop_gap ks k i gap = without_in_gap key_cmp_total own ks k i gap.parted

pub put_gap : (ks : List RunKey) (k : RunKey) (i : ℕ) → IsGapFor ks k i → with_key (drop_key ks k) k ≡ insert ks i k
put_gap ks k i gap = ap (λ l. with_key l k) (drop_gap ks k i gap) ∙ insert_in_gap key_cmp_total own ks k i gap.within gap.parted

pub ascending_put : (ks : List RunKey) (k : RunKey) (i : ℕ) → IsAscendingKeys ks → IsGapFor ks k i → IsAscendingKeys (insert ks i k)
ascending_put ks k i up gap = rw (← insert_in_gap key_cmp_total own ks k i gap.within gap.parted) (ascending-insert key_cmp_total own ks k up (find_gap ks k i gap))

-- ---- the keys of rows
above : (k : RunKey) (rows : List RunRow) → AllByRecursion (λ r. key_cmp k r.key ≡ Less) rows → AllByRecursion (λ j. key_cmp k j ≡ Less) (map (λ r. r.key) rows)
above k [] all = tt
above k (r ∷ rs) all = (all.0, above k rs all.1)

keys_up : (rows : List RunRow) → IsAscendingRows rows → IsAscendingKeys (map (λ r. r.key) rows)
keys_up [] up = tt
keys_up (r ∷ rs) up = (above r.key rs up.0, keys_up rs up.1)

pub passing_up : (p : RunRow → Bool) (rows : List RunRow) → IsAscendingRows rows → IsAscendingKeys (map (λ r. r.key) (filter p rows))
passing_up p rows up = keys_up _ (ascending-filter key_cmp_total (λ r. r.key) p rows up)

pub live_up : (self : ℕ) (rows : List RunRow) → IsAscendingRows rows → IsAscendingKeys (live_keys self rows)
live_up self rows up = passing_up (is_live self) rows up
