-- The keys of the bookings in conflict with a run, gathered from lists that have them all, and sorted; what they find.
use Rattle.std.proofs.Common.{◌≡◌, ◌∙◌, ◌<◌, ◌+◌, ℕ, suc, List, [], ◌∷◌, ◌++◌, length, get_or, Bool, true, false, cond, ◌&&◌, Some, refl, sym, ap, ap₂, subst, arith}
use Rattle.std.proofs.lemmas.List.Sorted.{ranks_by, sorted_far, sum_by-IsPermutation}
use Rattle.std.proofs.lemmas.List.Sums.{sum_by-cons}
use Rattle.std.specs.List.{cons_option, filter, filter_map, sum_by, AllByRecursion}
use Rattle.std.specs.List.Sorted.{IsPermutation, IsSorted}
use Rattle.std.specs.Ordering.{is_eq, is_lt, ordering_reverse}
use Rattle.std.specs.declared.cmp.Ordering.TheVariants.{Less, Equal, Greater}
use Rattle.ps_time.specs.Key.{key_cmp}
use Rattle.ps_time.specs.Sorted.{IsAscending}
use Rattle.ps_time.specs.Span.{Span}
use Rattle.ps_time.specs.declared.class.Class.{Class}
use Rattle.ps_time.specs.declared.key.RunKey.{RunKey}
use Rattle.ps_time.proofs.KeyLemmas.{key_cmp_same, key_cmp_total, same_key}
use Rattle.host_timeline.specs.declared.booking.Booking.{Booking}
use Rattle.host_timeline.specs.Booking.{conflicting, conflicts_with, keys_of}
use Rattle.host_timeline.specs.Lane.{how_many, Have}
use Rattle.host_timeline.specs.Timeline.{find_booking, IsAscendingBookings}
use Rattle.host_timeline.proofs.Least.{ascending_passing, below, below_itself, neither_below}

-- how often the key stands among keys
abbrev pub times : RunKey → List RunKey → ℕ
times k [] = 0
times k (j ∷ js) = (cond (is_eq (key_cmp j k)) 1 0) + times k js

times_sum : (k : RunKey) (keys : List RunKey) → times k keys ≡ sum_by (λ j. cond (is_eq (key_cmp j k)) 1 0) keys
times_sum k [] = refl
times_sum k (j ∷ js) = ap (λ n. (cond (is_eq (key_cmp j k)) 1 0) + n) (times_sum k js) ∙ sym (sum_by-cons (λ j. cond (is_eq (key_cmp j k)) 1 0) j js)

times_moved : (k : RunKey) (xs ys : List RunKey) → IsPermutation xs ys → times k ys ≡ times k xs
times_moved k xs ys moved = times_sum k ys ∙ sum_by-IsPermutation (λ j. cond (is_eq (key_cmp j k)) 1 0) xs ys moved ∙ sym (times_sum k xs)

-- what stands among keys that aren't below another isn't below it
stands : (x k : RunKey) (keys : List RunKey) → AllByRecursion (λ j. below j x ≡ false) keys → 0 < times k keys → below k x ≡ false
stands x k [] above some = absurd (omega arith)
stands x k (j ∷ js) above some =
    let cases = elim (key_cmp j k) as (λ c. key_cmp j k ≡ c → 0 < (cond (is_eq c) 1 0) + times k js → below k x ≡ false) [
      | Less ↦ λ is more. stands x k js above.1 (omega (arith, more))
      | Greater ↦ λ is more. stands x k js above.1 (omega (arith, more))
      | Equal ↦ λ is more. subst (λ i. below i x ≡ false) (same_key j k is) above.0
    ] in
    cases refl some

all_of : (P : RunKey → Type 0) (keys : List RunKey) → ((i : ℕ) (d : RunKey) → i < length keys → P (get_or keys i d)) → AllByRecursion P keys
all_of P [] each = tt
all_of P (k ∷ ks) each = (each 0 k (omega arith), all_of P ks (λ i d within. each (suc i) d (omega arith)))

sorted_rest : (k : RunKey) (ks : List RunKey) → IsSorted key_cmp (k ∷ ks) → IsSorted key_cmp ks
sorted_rest k ks up = λ i d low high. let next : suc i + 1 ≡ suc (i + 1) = omega arith in subst (λ n. is_lt (key_cmp (get_or (k ∷ ks) n d) (get_or ks i d)) ≡ false) next (up (suc i) d (omega arith) (omega arith))

sorted_above : (k : RunKey) (ks : List RunKey) → IsSorted key_cmp (k ∷ ks) → AllByRecursion (λ j. below j k ≡ false) (k ∷ ks)
sorted_above k ks up = all_of (λ j. below j k ≡ false) (k ∷ ks) (λ i d within. sorted_far below (ranks_by key_cmp_total (λ j. j)) (k ∷ ks) up 0 i d (omega arith) within)

ascending_above : (k : RunKey) (ks : List RunKey) → AllByRecursion (λ j. key_cmp k j ≡ Less) ks → AllByRecursion (λ j. below j k ≡ false) ks
ascending_above k [] above = tt
ascending_above k (j ∷ js) above =
    let greater : key_cmp j k ≡ Greater = key_cmp_total.antisymm j k ∙ ap ordering_reverse above.0 in
    let no : below j k ≡ false = rw greater refl in
    (no, ascending_above k js above.1)

own_time : (k : RunKey) (ks : List RunKey) → 0 < times k (k ∷ ks)
own_time k ks = rw (key_cmp_same k) (omega arith)

-- keys that are sorted, and others that ascend, are the same where each stands in both as often
pub same_keys : (xs ys : List RunKey) → IsSorted key_cmp xs → IsAscending key_cmp (λ k. k) ys → ((k : RunKey) → times k xs ≡ times k ys) → xs ≡ ys
same_keys [] [] sorted up same = refl
same_keys [] (y ∷ ys) sorted up same = absurd (omega (arith, same y, own_time y ys))
same_keys (x ∷ xs) [] sorted up same = absurd (omega (arith, same x, own_time x xs))
same_keys (x ∷ xs) (y ∷ ys) sorted up same =
    let there : 0 < times x (y ∷ ys) = omega (arith, same x, own_time x xs) in
    let here : 0 < times y (x ∷ xs) = omega (arith, same y, own_time y ys) in
    let one : below x y ≡ false = stands y x (y ∷ ys) (below_itself y, ascending_above y ys up.0) there in
    let other : below y x ≡ false = stands x y (x ∷ xs) (sorted_above x xs sorted) here in
    let is : x ≡ y = neither_below x y one other in
    let rest : (k : RunKey) → times k xs ≡ times k ys = λ k.
    let moved : (cond (is_eq (key_cmp x k)) 1 0) + times k xs ≡ (cond (is_eq (key_cmp x k)) 1 0) + times k ys = subst (λ j. (cond (is_eq (key_cmp x k)) 1 0) + times k xs ≡ (cond (is_eq (key_cmp j k)) 1 0) + times k ys) (sym is) (same k) in
    omega (arith, moved) in
    ap₂ (λ h t. h ∷ t) is (same_keys xs ys (sorted_rest x xs sorted) up.1 rest)

times_append : (k : RunKey) (xs ys : List RunKey) → times k (xs ++ ys) ≡ times k xs + times k ys
times_append k [] ys = omega arith
times_append k (x ∷ xs) ys =
    let rest : (cond (is_eq (key_cmp x k)) 1 0) + times k (xs ++ ys) ≡ (cond (is_eq (key_cmp x k)) 1 0) + (times k xs + times k ys) = ap (λ n. (cond (is_eq (key_cmp x k)) 1 0) + n) (times_append k xs ys) in
    rest ∙ omega arith

times_of : (p : Booking → Bool) (k : RunKey) (bs : List Booking) → times k (keys_of (filter p bs)) ≡ how_many (λ b. p b && is_eq (key_cmp b.key k)) bs
times_of p k [] = refl
times_of p k (b ∷ bs) =
    let rest = times_of p k bs in
    elim (p b) as (λ x. times k (keys_of (cond x (b ∷ filter p bs) (filter p bs))) ≡ (cond (x && is_eq (key_cmp b.key k)) 1 0) + how_many (λ b. p b && is_eq (key_cmp b.key k)) bs) [
      | true ↦ ap (λ n. (cond (is_eq (key_cmp b.key k)) 1 0) + n) rest
      | false ↦ omega (arith, rest)
    ]

pub sorted_conflicts : (class : Class) (s : Span) (bs xs ys : List Booking) (keys : List RunKey) → Have class s.start (Some s.end) bs xs ys → IsAscendingBookings bs → IsPermutation (keys_of (conflicting class s xs) ++ keys_of (conflicting class s ys)) keys → IsSorted key_cmp keys → keys ≡ keys_of (conflicting class s bs)
sorted_conflicts class s bs xs ys keys have up moved sorted =
    let p : Booking → Bool = conflicts_with class s in
    same_keys keys (keys_of (conflicting class s bs)) sorted (ascending_passing p bs up) (λ k.
    let test : Booking → Bool = λ b. p b && is_eq (key_cmp b.key k) in
    times_moved k (keys_of (conflicting class s xs) ++ keys_of (conflicting class s ys)) keys moved
    ∙ times_append k (keys_of (conflicting class s xs)) (keys_of (conflicting class s ys))
    ∙ ap₂ (λ m n. m + n) (times_of p k xs) (times_of p k ys)
    ∙ have test (λ b off. let no : conflicts_with class s b ≡ false = off in rw no refl)
    ∙ sym (times_of p k bs))

-- ---- what the keys find
still_found : (b : Booking) (bs xs : List Booking) → AllByRecursion (λ x. key_cmp b.key x.key ≡ Less) xs → AllByRecursion (λ x. find_booking bs x.key ≡ Some x) xs → AllByRecursion (λ x. find_booking (b ∷ bs) x.key ≡ Some x) xs
still_found b bs [] below found = tt
still_found b bs (x ∷ xs) below found = (rw below.0 found.0, still_found b bs xs below.1 found.1)

own_found : (bs : List Booking) → IsAscendingBookings bs → AllByRecursion (λ x. find_booking bs x.key ≡ Some x) bs
own_found [] up = tt
own_found (b ∷ bs) up = (rw (key_cmp_same b.key) refl, still_found b bs bs up.0 (own_found bs up.1))

each_found : (p : Booking → Bool) (bs xs : List Booking) → AllByRecursion (λ x. find_booking bs x.key ≡ Some x) xs → filter_map (find_booking bs) (keys_of (filter p xs)) ≡ filter p xs
each_found p bs [] found = refl
each_found p bs (x ∷ xs) found =
    let rest = each_found p bs xs found.1 in
    elim (p x) as (λ t. filter_map (find_booking bs) (keys_of (cond t (x ∷ filter p xs) (filter p xs))) ≡ cond t (x ∷ filter p xs) (filter p xs)) [
      | true ↦ ap₂ (λ o l. cons_option o l) found.0 rest
      | false ↦ rest
    ]

-- the keys of the bookings that pass find these bookings
pub found_again : (p : Booking → Bool) (bs : List Booking) → IsAscendingBookings bs → filter_map (find_booking bs) (keys_of (filter p bs)) ≡ filter p bs
found_again p bs up = each_found p bs bs (own_found bs up)
