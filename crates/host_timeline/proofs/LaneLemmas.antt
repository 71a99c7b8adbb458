-- What a search finds in a lane, what an edit at that place does, and which bookings of a lane are near.
use Rattle.std.proofs.Common.{◌≡◌, ◌∙◌, ◌<◌, ◌≤◌, ◌+◌, ◌-◌, ℕ, zero, suc, List, [], ◌∷◌, length, get_or, set, take, drop, Bool, true, false, cond, not, ltb, max, Option, Some, None, ◌&&◌, refl, ap, sym, subst, arith}
use Rattle.std.specs.Cmp.{IsTotalOrder}
use Rattle.std.specs.List.{insert, remove, filter, list_all, AllByRecursion, AllWithin}
use Rattle.std.specs.List.Sorted.{IsPartitionPoint, IsNonDecreasingBy}
use Rattle.std.specs.Ordering.{nat_cmp, match_ordering, is_eq}
use Rattle.std.specs.declared.cmp.Ordering.TheVariants.{Less, Equal, Greater}
use Rattle.std.proofs.lemmas.Bool.Decides.{nat_tests}
use Rattle.std.proofs.lemmas.Cmp.{nat_cmp_total, on_total, then_total}
use Rattle.std.proofs.lemmas.List.{length-drop, get_or-drop}
use Rattle.std.proofs.lemmas.List.Sorted.{IsNonDecreasingBy-from_all_adjacent}
use Rattle.ps_time.proofs.KeyLemmas.{key_cmp_total}
use Rattle.ps_time.proofs.SortedLemmas.{ascending_at, find_in_gap, insert_in_gap, find_at, without_at, without_in_gap, ascending-without, ascending-insert, set_changes, ascending-change, change_in_gap}
use Rattle.host_timeline.specs.declared.booking.Booking.{Booking}
use Rattle.host_timeline.specs.declared.lane.Place.{Place}
use Rattle.host_timeline.specs.Lane.{place_cmp, place_of, find_place, with_place, without_place, with_started_place, IsAscendingPlaces, IsLane, IsFoundAt, IsOpenAt, FailsOthers, FailsOutside, how_many, reaches, spans, starts_between, starts_by}
use Rattle.host_timeline.specs.Timeline.{started_booking}
use Rattle.host_timeline.proofs.Tests.{and_false, both_true}

pub place_cmp_total : IsTotalOrder place_cmp
place_cmp_total = then_total (on_total (λ p. p.start) nat_cmp_total) (on_total (λ p. p.key) key_cmp_total)

abbrev AllShort : ℕ → List Booking → Type 0
AllShort longest bookings = AllByRecursion (λ b. (b.interval.start < b.interval.end) × (b.interval.end ≤ b.interval.start + longest)) bookings

short_filter : (p : Booking → Bool) (longest : ℕ) (bs : List Booking) → AllShort longest bs → AllShort longest (filter p bs)
short_filter p longest [] all = tt
short_filter p longest (b ∷ bs) all =
    elim (p b) as (λ x. AllShort longest (cond x (b ∷ filter p bs) (filter p bs))) [
      | true ↦ (all.0, short_filter p longest bs all.1)
      | false ↦ short_filter p longest bs all.1
    ]

short_change : (p : Place) (longest : ℕ) (bs : List Booking) → AllShort longest bs → AllShort longest (with_started_place bs p)
short_change p longest [] all = tt
short_change p longest (b ∷ bs) all =
    elim (is_eq (place_cmp (place_of b) p)) as (λ x. AllShort longest ((cond x (started_booking b) b) ∷ with_started_place bs p)) [
      | true ↦ (all.0, short_change p longest bs all.1)
      | false ↦ (all.0, short_change p longest bs all.1)
    ]

short_more : (longest more : ℕ) (bs : List Booking) → longest ≤ more → AllShort longest bs → AllShort more bs
short_more longest more [] le all = tt
short_more longest more (b ∷ bs) le all = ((all.0.0, omega (arith, all.0.1, le)), short_more longest more bs le all.1)

short_insert : (longest : ℕ) (bs : List Booking) (y : Booking) → (y.interval.start < y.interval.end) × (y.interval.end ≤ y.interval.start + longest) → AllShort longest bs → AllShort longest (with_place bs y)
short_insert longest [] y here all = (here, tt)
short_insert longest (b ∷ bs) y here all =
    let rest = short_insert longest bs y here all.1 in
    elim (place_cmp (place_of b) (place_of y)) as (λ c. AllShort longest (match_ordering c (b ∷ with_place bs y) (b ∷ with_place bs y) (y ∷ b ∷ bs))) [
      | Less ↦ (all.0, rest)
      | Equal ↦ (all.0, rest)
      | Greater ↦ (here, all)
    ]

-- ---- at a place
module _ (bookings : List Booking) (longest : ℕ) (lane : IsLane bookings longest) (p : Place) where
  module _ (i : ℕ) (d : Booking) (found : IsFoundAt bookings p i) where
    pub find_found : find_place bookings p ≡ Some (get_or bookings i d)
    find_found = find_at place_cmp_total place_of bookings p i d lane.ascending found.within (found.same d)

    pub remove_found : without_place bookings p ≡ remove bookings i
    remove_found = without_at place_cmp_total place_of bookings p i d lane.ascending found.within (found.same d)

    pub lane_after_remove : IsLane (remove bookings i) longest
    lane_after_remove =
        subst (λ l. IsLane l longest) remove_found (record {
          ascending = ascending-without place_cmp_total place_of bookings p lane.ascending;
          short = short_filter _ longest bookings lane.short;
        })

    start_found : set bookings i (started_booking (get_or bookings i d)) ≡ with_started_place bookings p
    start_found = set_changes place_cmp_total place_of started_booking bookings p i d lane.ascending found.within (found.same d)

  pub lane_after_start : IsLane (with_started_place bookings p) longest
  lane_after_start = record {
    ascending = ascending-change place_cmp_total place_of started_booking (λ b. refl) bookings p lane.ascending;
    short = short_change p longest bookings lane.short;
  }

pub started_found : (bookings new : List Booking) (longest : ℕ) (lane : IsLane bookings longest) (p : Place) (i : ℕ) → IsFoundAt bookings p i → ((d : Booking) → new ≡ set bookings i (started_booking (get_or bookings i d))) →
    new ≡ with_started_place bookings p
started_found [] new longest lane p i found set_there = absurd (omega (arith, found.within))
started_found (b ∷ bs) new longest lane p i found set_there = set_there b ∙ start_found (b ∷ bs) longest lane p i b found

module _ (bookings : List Booking) (p : Place) (i : ℕ) (gap : IsOpenAt bookings p i) where
  pub find_open : find_place bookings p ≡ None
  find_open = find_in_gap place_cmp_total place_of bookings p i gap.parted

  pub remove_open : without_place bookings p ≡ bookings
  remove_open = without_in_gap place_cmp_total place_of bookings p i gap.parted

  pub start_open : with_started_place bookings p ≡ bookings
  start_open = change_in_gap place_cmp_total place_of started_booking bookings p i gap.parted

module _ (bookings : List Booking) (b : Booking) (i : ℕ) (gap : IsOpenAt bookings (place_of b) i) where
  pub insert_open : with_place bookings b ≡ insert bookings i b
  insert_open = insert_in_gap place_cmp_total place_of bookings b i gap.within gap.parted

  pub lane_after_insert : (longest : ℕ) → b.interval.start < b.interval.end → IsLane bookings longest → IsLane (insert bookings i b) (max longest (b.interval.end - b.interval.start))
  lane_after_insert longest some lane =
      let more = max longest (b.interval.end - b.interval.start) in
      subst (λ l. IsLane l more) insert_open (record {
        ascending = ascending-insert place_cmp_total place_of bookings b lane.ascending (find_open bookings (place_of b) i gap);
        short = short_insert more bookings b (some, omega arith) (short_more longest more bookings (omega arith) lane.short);
      })

-- ---- what is near
-- a place below another starts no later
start_below : (p q : Place) → place_cmp p q ≡ Less → p.start ≤ q.start
start_below p q below =
    let cases = elim (nat_cmp p.start q.start) as (λ c. nat_cmp p.start q.start ≡ c → p.start ≤ q.start) [
      | Less ↦ λ is. grind (arith, nat_tests)
      | Equal ↦ λ is. grind (arith, nat_tests)
      | Greater ↦ λ is. let no : place_cmp p q ≡ Greater = rw is refl in cc (no, below)
    ] in
    cases refl

pub starts_rise : (bs : List Booking) → IsAscendingPlaces bs → IsNonDecreasingBy (λ b. b.interval.start) bs
starts_rise bs up =
    IsNonDecreasingBy-from_all_adjacent (λ b. b.interval.start) bs (λ k d within. start_below (place_of (get_or bs k d)) (place_of (get_or bs (k + 1) d)) (ascending_at place_cmp_total place_of bs up k (k + 1) d (omega arith) within))

-- what stands behind one that doesn't start before the moment doesn't either
pub late_from : (moment : ℕ) (bs : List Booking) → IsAscendingPlaces bs → (i : ℕ) → i < length bs → ((d : Booking) → moment ≤ (get_or bs i d).interval.start) → AllWithin (λ b. ltb b.interval.start moment ≡ false) bs i (length bs)
late_from moment bs up i within late = λ j d low high.
    let rise : (get_or bs i d).interval.start ≤ (get_or bs j d).interval.start = starts_rise bs up i j d low high in
    let here : moment ≤ (get_or bs i d).interval.start = late d in
    grind (arith, nat_tests)

module _ (test : Booking → Bool) where
  -- what fails in front is left out
  all_behind : (bs : List Booking) (i : ℕ) → ((j : ℕ) (d : Booking) → j < i → j < length bs → test (get_or bs j d) ≡ false) → how_many test (drop i bs) ≡ how_many test bs
  all_behind [] zero fails = refl
  all_behind [] (suc i) fails = refl
  all_behind (b ∷ bs) zero fails = refl
  all_behind (b ∷ bs) (suc i) fails =
      let here : how_many test bs ≡ how_many test (b ∷ bs) = rw (fails 0 b (omega arith) (omega arith)) (omega arith) in
      all_behind bs i (λ j d low within. fails (suc j) d (omega arith) (omega arith)) ∙ here

  -- what fails at the end is left out
  all_before : (bs : List Booking) (i : ℕ) → ((j : ℕ) (d : Booking) → i ≤ j → j < length bs → test (get_or bs j d) ≡ false) → how_many test (take i bs) ≡ how_many test bs
  all_before [] zero fails = refl
  all_before [] (suc i) fails = refl
  all_before (b ∷ bs) zero fails =
      let here : how_many test bs ≡ how_many test (b ∷ bs) = rw (fails 0 b (omega arith) (omega arith)) (omega arith) in
      all_before bs zero (λ j d low within. fails (suc j) d (omega arith) (omega arith)) ∙ here
  all_before (b ∷ bs) (suc i) fails = ap (λ n. (cond (test b) 1 0) + n) (all_before bs i (λ j d low within. fails (suc j) d (omega arith) (omega arith)))

-- what doesn't start before one moment starts from an end on that isn't behind it
late_start : (from : ℕ) (until : Option ℕ) (start : ℕ) → starts_by until from ≡ false → (not (ltb start from) && starts_by until start) ≡ false
late_start from None start over = cc
late_start from (Some u) start over = grind (arith, nat_tests)

later_start : (until : Option ℕ) (early late : ℕ) → early ≤ late → starts_by until early ≡ false → starts_by until late ≡ false
later_start None early late le over = cc
later_start (Some u) early late le over = grind (arith, nat_tests)

-- none starts from one moment on, before such an end
pub none_between : (bs : List Booking) (from : ℕ) (until : Option ℕ) (test : Booking → Bool) → FailsOthers bs (starts_between from until) test → starts_by until from ≡ false → how_many test (take 0 bs) ≡ how_many test bs
none_between bs from until test outside over = all_before test bs 0 (λ j d low within. outside j d within (late_start from until (get_or bs j d).interval.start over))

module _ (bs : List Booking) (from : ℕ) (until : Option ℕ) (first last : ℕ) (test : Booking → Bool) (outside : FailsOthers bs (starts_between from until) test) where
  pub between_all : IsPartitionPoint (λ b. ltb b.interval.start from ≡ true) (λ b. ltb b.interval.start from ≡ false) bs first → first ≤ last → AllWithin (λ b. starts_by until b.interval.start ≡ false) bs last (length bs) → how_many test (take (last - first) (drop first bs)) ≡ how_many test bs
  between_all low behind high =
      let early : (j : ℕ) (d : Booking) → j < first → j < length bs → test (get_or bs j d) ≡ false = λ j d lt within.
      let is : ltb (get_or bs j d).interval.start from ≡ true = low.0 j d (omega arith) lt in
      outside j d within (rw is refl) in
      let late : (j : ℕ) (d : Booking) → last - first ≤ j → j < length (drop first bs) → test (get_or (drop first bs) j d) ≡ false = λ j d le within.
      let inside : first + j < length bs = omega (arith, length-drop first bs) in
      let starts : starts_by until (get_or bs (first + j) d).interval.start ≡ false = high (first + j) d (omega arith) inside in
      let over : starts_between from until (get_or bs (first + j) d) ≡ false = rw starts (and_false (not (ltb (get_or bs (first + j) d).interval.start from))) in
      rw (get_or-drop first bs j d) (outside (first + j) d inside over) in
      all_before test (drop first bs) (last - first) late ∙ all_behind test bs first early

short_at : (longest : ℕ) (bs : List Booking) → AllShort longest bs → (i : ℕ) (d : Booking) → i < length bs → ((get_or bs i d).interval.start < (get_or bs i d).interval.end) × ((get_or bs i d).interval.end ≤ (get_or bs i d).interval.start + longest)
short_at longest [] all i d within = absurd (omega arith)
short_at longest (b ∷ bs) all zero d within = all.0
short_at longest (b ∷ bs) all (suc i) d within = short_at longest bs all.1 i d (omega arith)

-- what starts so early is over
early_over : (longest earliest from : ℕ) (b : Booking) (by : Bool) → (b.interval.start < b.interval.end) × (b.interval.end ≤ b.interval.start + longest) → reaches earliest from b ≡ true → (not (ltb b.interval.start (max (from - longest) earliest)) && by) ≡ false → (ltb from b.interval.end && by) ≡ false
early_over longest earliest from b true short reach outside = let some = short.0 in let least = short.1 in grind (arith, nat_tests)
early_over longest earliest from b false short reach outside = and_false (ltb from b.interval.end)

reach_at : (earliest from : ℕ) (bs : List Booking) → list_all (reaches earliest from) bs ≡ true → (i : ℕ) (d : Booking) → i < length bs → reaches earliest from (get_or bs i d) ≡ true
reach_at earliest from [] all i d within = absurd (omega arith)
reach_at earliest from (b ∷ bs) all zero d within = (both_true (reaches earliest from b) (list_all (reaches earliest from) bs) all).0
reach_at earliest from (b ∷ bs) all (suc i) d within = reach_at earliest from bs (both_true (reaches earliest from b) (list_all (reaches earliest from) bs) all).1 i d (omega arith)

pub others_pass : (bs : List Booking) (longest earliest from : ℕ) (until : Option ℕ) (test : Booking → Bool) → IsLane bs longest → list_all (reaches earliest from) bs ≡ true → FailsOutside (spans from until) test → FailsOthers bs (starts_between (max (from - longest) earliest) until) test
others_pass bs longest earliest from until test lane reach outside = λ i d within over. outside (get_or bs i d) (early_over longest earliest from (get_or bs i d) (starts_by until (get_or bs i d).interval.start) (short_at longest bs lane.short i d within) (reach_at earliest from bs reach i d within) over)

-- where none reaches before the end, none is near
pub none_near : (bs : List Booking) (longest earliest from : ℕ) (until : Option ℕ) (test : Booking → Bool) → IsLane bs longest → list_all (reaches earliest from) bs ≡ true → FailsOutside (spans from until) test → starts_by until earliest ≡ false → how_many test bs ≡ 0
none_near bs longest earliest from until test lane reach outside over =
    let first : ℕ = max (from - longest) earliest in
    sym (none_between bs first until test (others_pass bs longest earliest from until test lane reach outside) (later_start until earliest first (omega arith) over))
