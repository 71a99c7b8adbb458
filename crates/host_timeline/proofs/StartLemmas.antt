-- The starts of bookings beside them, and where a place stands among those with its start.
use Rattle.std.proofs.Common.{◌≡◌, ◌∙◌, ◌⊎◌, inl, inr, ◌<◌, ◌≤◌, ◌+◌, ◌-◌, ℕ, zero, suc, Bool, true, false, ltb, leb, List, [], ◌∷◌, ◌++◌, length, get_or, set, take, drop, refl, sym, ap, ap₂, subst, arith}
use Rattle.std.specs.List.{insert, remove, AllByRecursion}
use Rattle.std.specs.List.Sorted.{IsNonDecreasing, IsPartitionPoint}
use Rattle.std.specs.Ordering.{nat_cmp, is_lt}
use Rattle.std.specs.declared.cmp.Ordering.TheVariants.{Less, Equal, Greater}
use Rattle.std.proofs.Math.Seq.{map-set_same}
use Rattle.std.proofs.lemmas.Bool.{cases_lt}
use Rattle.std.proofs.lemmas.Bool.Decides.{nat_tests}
use Rattle.std.proofs.lemmas.List.{drop-map, get_or-drop, get_or-map, get_or-take, length-drop, length-map, length-take, map-append, take-map}
use Rattle.host_timeline.specs.declared.booking.Booking.{Booking}
use Rattle.host_timeline.specs.declared.lane.Place.{Place}
use Rattle.host_timeline.specs.Lane.{place_cmp, place_of, starts_of, IsAscendingPlaces}
use Rattle.host_timeline.specs.Timeline.{started_booking}
use Rattle.host_timeline.proofs.LaneLemmas.{starts_rise}

abbrev start_of : Booking → ℕ
start_of b = b.interval.start

-- ---- they stay beside the bookings
pub starts_inserted : (bs : List Booking) (at : ℕ) (b : Booking) → insert (starts_of bs) at b.interval.start ≡ starts_of (insert bs at b)
starts_inserted bs at b = ap₂ (λ x y. x ++ b.interval.start ∷ y) (take-map start_of at bs) (drop-map start_of at bs) ∙ sym (map-append start_of (take at bs) (b ∷ drop at bs))

pub starts_removed : (bs : List Booking) (at : ℕ) → remove (starts_of bs) at ≡ starts_of (remove bs at)
starts_removed bs at = ap₂ (λ x y. x ++ y) (take-map start_of at bs) (drop-map start_of (suc at) bs) ∙ sym (map-append start_of (take at bs) (drop (suc at) bs))

pub starts_kept : (bs : List Booking) (at : ℕ) (d : Booking) → starts_of (set bs at (started_booking (get_or bs at d))) ≡ starts_of bs
starts_kept bs at d = map-set_same start_of bs at (started_booking (get_or bs at d)) d refl

-- ---- a search among them
pub starts_ascend : (bs : List Booking) → IsAscendingPlaces bs → IsNonDecreasing (starts_of bs)
starts_ascend [] up i j d le lt = absurd (omega arith)
starts_ascend (b ∷ bs) up i j d le lt =
    let within : j < length (b ∷ bs) = omega (arith, lt, length-map bs start_of) in
    rw (get_or-map start_of (b ∷ bs) i b d (omega (arith, le, within)), get_or-map start_of (b ∷ bs) j b d within) (starts_rise (b ∷ bs) up i j b le within)

pub parts_bookings : (p : ℕ → Bool) (bs : List Booking) (ns : List ℕ) → ns ≡ starts_of bs → (i : ℕ) → i ≤ length ns → IsPartitionPoint (λ n. p n ≡ true) (λ n. p n ≡ false) ns i →
    IsPartitionPoint (λ b. p b.interval.start ≡ true) (λ b. p b.interval.start ≡ false) bs i
parts_bookings p bs ns is i within parted = (before, behind)
  where
    count : length ns ≡ length bs
    count = ap length is ∙ length-map bs start_of

    at : (j : ℕ) (d : Booking) → j < length bs → get_or ns j d.interval.start ≡ (get_or bs j d).interval.start
    at j d lt = ap (λ l. get_or l j d.interval.start) is ∙ get_or-map start_of bs j d d.interval.start lt

    before : (j : ℕ) (d : Booking) → 0 ≤ j → j < i → p (get_or bs j d).interval.start ≡ true
    before j d low high = subst (λ n. p n ≡ true) (at j d (omega (arith, high, within, count))) (parted.0 j d.interval.start low high)

    behind : (j : ℕ) (d : Booking) → i ≤ j → j < length bs → p (get_or bs j d).interval.start ≡ false
    behind j d low high = subst (λ n. p n ≡ false) (at j d high) (parted.1 j d.interval.start low (omega (arith, high, count)))

-- ---- a place among those with its start
earlier : (b : Booking) (p : Place) → ltb b.interval.start p.start ≡ true → is_lt (place_cmp (place_of b) p) ≡ true
earlier b p early =
    let cases = elim (nat_cmp b.interval.start p.start) as (λ c. nat_cmp b.interval.start p.start ≡ c → is_lt (place_cmp (place_of b) p) ≡ true) [
      | Less ↦ λ is. rw is refl
      | Equal ↦ λ is. absurd (grind (arith, nat_tests))
      | Greater ↦ λ is. absurd (grind (arith, nat_tests))
    ] in
    cases refl

later : (b : Booking) (p : Place) → p.start < b.interval.start → is_lt (place_cmp (place_of b) p) ≡ false
later b p late =
    let cases = elim (nat_cmp b.interval.start p.start) as (λ c. nat_cmp b.interval.start p.start ≡ c → is_lt (place_cmp (place_of b) p) ≡ false) [
      | Less ↦ λ is. absurd (grind (arith, nat_tests))
      | Equal ↦ λ is. absurd (grind (arith, nat_tests))
      | Greater ↦ λ is. rw is refl
    ] in
    cases refl

all_taken : (P : Booking → Type 0) (n : ℕ) (bs : List Booking) → AllByRecursion P bs → AllByRecursion P (take n bs)
all_taken P zero bs all = tt
all_taken P (suc n) [] all = tt
all_taken P (suc n) (b ∷ bs) all = (all.0, all_taken P n bs all.1)

ascending_taken : (n : ℕ) (bs : List Booking) → IsAscendingPlaces bs → IsAscendingPlaces (take n bs)
ascending_taken zero bs up = tt
ascending_taken (suc n) [] up = tt
ascending_taken (suc n) (b ∷ bs) up = (all_taken (λ y. place_cmp (place_of b) (place_of y) ≡ Less) n bs up.0, ascending_taken n bs up.1)

ascending_dropped : (n : ℕ) (bs : List Booking) → IsAscendingPlaces bs → IsAscendingPlaces (drop n bs)
ascending_dropped zero bs up = up
ascending_dropped (suc n) [] up = tt
ascending_dropped (suc n) (b ∷ bs) up = ascending_dropped n bs up.1

abbrev pub part : ℕ → ℕ → List Booking → List Booking
part first end bs = take (end - first) (drop first bs)

pub ascending_part : (first end : ℕ) (bs : List Booking) → IsAscendingPlaces bs → IsAscendingPlaces (part first end bs)
ascending_part first end bs up = ascending_taken (end - first) (drop first bs) (ascending_dropped first bs up)

abbrev pub StandsAt : List Booking → Place → ℕ → Type 0
StandsAt bs p i = IsPartitionPoint (λ b. is_lt (place_cmp (place_of b) p) ≡ true) (λ b. is_lt (place_cmp (place_of b) p) ≡ false) bs i

abbrev StartsPart : (ℕ → Bool) → List Booking → ℕ → Type 0
StartsPart p bs i = IsPartitionPoint (λ b. p b.interval.start ≡ true) (λ b. p b.interval.start ≡ false) bs i

pub first_end : (bs : List Booking) (moment first end : ℕ) → first ≤ length bs → StartsPart (λ n. ltb n moment) bs first → StartsPart (λ n. leb n moment) bs end → first ≤ end
first_end [] moment first end within early late = omega (arith, within)
first_end (b ∷ bs) moment first end within early late = go (cases_lt end first)
  where
    go : (end < first) ⊎ (first ≤ end) → first ≤ end
    go (inr le) = le
    go (inl lt) =
        let is = early.0 end b (omega arith) lt in
        let other = late.1 end b (omega arith) (omega (arith, lt, within)) in
        absurd (grind (arith, nat_tests))

module _ (bs : List Booking) (up : IsAscendingPlaces bs) (p : Place) (first : ℕ) (within : first ≤ length bs) (early : StartsPart (λ n. ltb n p.start) bs first) where
  -- none has it
  pub alone : (first < length bs → (d : Booking) → p.start < (get_or bs first d).interval.start) → StandsAt bs p first
  alone late = (
    λ j d low high. earlier (get_or bs j d) p (early.0 j d low high),
    λ j d low high. later (get_or bs j d) p (omega (arith, late (omega (arith, low, high)) d, starts_rise bs up first j d low high)),
  )

  module _ (end : ℕ) (ends : end ≤ length bs) (late : StartsPart (λ n. leb n p.start) bs end) where
    -- those with its start stand in a row
    pub among : first ≤ end → (n : ℕ) → n ≤ length (part first end bs) → StandsAt (part first end bs) p n → StandsAt bs p (first + n)
    among le n small parted = (λ j d low high. before j d high (cases_lt j first), λ j d low high. behind j d low high (cases_lt j end))
      where
        count : length (part first end bs) ≡ end - first
        count = omega (arith, length-take (end - first) (drop first bs), length-drop first bs, ends)

        at : (k : ℕ) (d : Booking) → k < end - first → get_or (part first end bs) k d ≡ get_or bs (first + k) d
        at k d lt = get_or-take (end - first) (drop first bs) k d lt ∙ get_or-drop first bs k d

        before : (j : ℕ) (d : Booking) → j < first + n → (j < first) ⊎ (first ≤ j) → is_lt (place_cmp (place_of (get_or bs j d)) p) ≡ true
        before j d high (inl lt) = earlier (get_or bs j d) p (early.0 j d (omega arith) lt)
        before j d high (inr ge) =
            let back : first + (j - first) ≡ j = omega (arith, ge) in
            let lt : j - first < n = omega (arith, ge, high) in
            subst (λ m. is_lt (place_cmp (place_of (get_or bs m d)) p) ≡ true) back
            (subst (λ b. is_lt (place_cmp (place_of b) p) ≡ true) (at (j - first) d (omega (arith, lt, small, count))) (parted.0 (j - first) d (omega arith) lt))

        behind : (j : ℕ) (d : Booking) → first + n ≤ j → j < length bs → (j < end) ⊎ (end ≤ j) → is_lt (place_cmp (place_of (get_or bs j d)) p) ≡ false
        behind j d low high (inl lt) =
            let back : first + (j - first) ≡ j = omega (arith, low) in
            let ge : n ≤ j - first = omega (arith, low) in
            let inside : j - first < end - first = omega (arith, low, lt) in
            subst (λ m. is_lt (place_cmp (place_of (get_or bs m d)) p) ≡ false) back
            (subst (λ b. is_lt (place_cmp (place_of b) p) ≡ false) (at (j - first) d inside) (parted.1 (j - first) d ge (omega (arith, inside, count))))
        behind j d low high (inr ge) =
            let over = late.1 j d ge high in
            let lt : p.start < (get_or bs j d).interval.start = grind (arith, nat_tests) in
            later (get_or bs j d) p lt
