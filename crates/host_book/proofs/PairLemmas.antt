-- What a search finds among pairs, and what an edit at that place does.
use Rattle.std.proofs.Common.{◌≡◌, ℕ, List, length, get_or, Result, Ok, Err, IfOk, IfErr, Some, None}
use Rattle.std.specs.List.{insert, remove}
use Rattle.std.specs.List.Sorted.{IsSearchInRange, IsBinarySearchResult}
use Rattle.ps_time.specs.Key.{key_cmp}
use Rattle.ps_time.specs.declared.key.RunKey.{RunKey}
use Rattle.ps_time.proofs.KeyLemmas.{key_cmp_total}
use Rattle.ps_time.proofs.SortedLemmas.{searchable, find_in_gap, insert_in_gap, find_at, without_at, without_in_gap, ascending-without, ascending-insert}
use Rattle.host_model.specs.Book.{find_pair}
use Rattle.host_book.specs.Pairs.{with_pair, drop_pair, IsAscendingPairs, IsPlaceOf, IsGapFor}

module _ (pairs : List (RunKey × ℕ)) (up : IsAscendingPairs pairs) (k : RunKey) where
  pub searched : (r : Result ℕ ℕ) → IsSearchInRange r (length pairs) → IsBinarySearchResult (λ p. key_cmp p.0 k) pairs r → record { found : IfOk r (IsPlaceOf pairs k); absent : IfErr r (IsGapFor pairs k) }
  searched (Ok at) within equal = record { found = record { within = within; same = equal }; absent = tt }
  searched (Err at) within parted = record { found = tt; absent = record { within = within; parted = parted (searchable key_cmp_total (λ p. p.0) pairs up k) } }

  pub find_place : (i : ℕ) (d : RunKey × ℕ) → IsPlaceOf pairs k i → find_pair pairs k ≡ Some (get_or pairs i d)
  find_place i d place = find_at key_cmp_total (λ p. p.0) pairs k i d up place.within (place.same d)

  pub drop_place : (i : ℕ) (d : RunKey × ℕ) → IsPlaceOf pairs k i → drop_pair pairs k ≡ remove pairs i
  drop_place i d place = without_at key_cmp_total (λ p. p.0) pairs k i d up place.within (place.same d)

  pub ascending_drop : (i : ℕ) (d : RunKey × ℕ) → IsPlaceOf pairs k i → IsAscendingPairs (remove pairs i)
  ascending_drop i d place = rw (← drop_place i d place) (ascending-without key_cmp_total (λ p. p.0) pairs k up)

pub find_gap : (pairs : List (RunKey × ℕ)) (k : RunKey) (i : ℕ) → IsGapFor pairs k i → find_pair pairs k ≡ None
find_gap pairs k i gap = find_in_gap key_cmp_total (λ p. p.0) pairs k i gap.parted

pub drop_gap : (pairs : List (RunKey × ℕ)) (k : RunKey) (i : ℕ) → IsGapFor pairs k i → drop_pair pairs k ≡ pairs
drop_gap pairs k i gap = without_in_gap key_cmp_total (λ p. p.0) pairs k i gap.parted

pub put_gap : (pairs : List (RunKey × ℕ)) (p : RunKey × ℕ) (i : ℕ) → IsGapFor pairs p.0 i → with_pair pairs p ≡ insert pairs i p
put_gap pairs p i gap = insert_in_gap key_cmp_total (λ q. q.0) pairs p i gap.within gap.parted

pub ascending_put : (pairs : List (RunKey × ℕ)) (p : RunKey × ℕ) (i : ℕ) → IsAscendingPairs pairs → IsGapFor pairs p.0 i → IsAscendingPairs (insert pairs i p)
ascending_put pairs p i up gap = rw (← put_gap pairs p i gap) (ascending-insert key_cmp_total (λ q. q.0) pairs p up (find_gap pairs p.0 i gap))
