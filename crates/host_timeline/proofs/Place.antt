-- What a search finds among bookings, and what an edit at that place does.
use Rattle.std.proofs.Common.{◌≡◌, ℕ, List, length, get_or, set, Result, Ok, Err, IfOk, IfErr, Some, None, [], refl, subst}
use Rattle.std.specs.List.{insert, remove}
use Rattle.std.specs.List.Sorted.{IsSearchInRange, IsBinarySearchResult}
use Rattle.ps_time.specs.declared.key.RunKey.{RunKey}
use Rattle.ps_time.specs.Key.{key_cmp}
use Rattle.ps_time.proofs.KeyLemmas.{key_cmp_total}
use Rattle.ps_time.proofs.SortedLemmas.{searchable, find_in_gap, insert_in_gap, find_at, without_at, without_in_gap, ascending-without, ascending-insert, set_changes, ascending-change, change_in_gap}
use Rattle.host_timeline.proofs.Free.{free_filter, free_insert, free_start}
use Rattle.host_timeline.specs.declared.booking.Booking.{Booking}
use Rattle.host_timeline.specs.Booking.{conflicting}
use Rattle.host_timeline.specs.Timeline.{find_booking, with_booking, without_booking, with_started, started_booking, IsInOrder, IsPlaceOf, IsGapFor}

module _ (bookings : List Booking) (ordered : IsInOrder bookings) (k : RunKey) where
  pub searched : (r : Result ℕ ℕ) → IsSearchInRange r (length bookings) → IsBinarySearchResult (λ b. key_cmp b.key k) bookings r → record { found : IfOk r (IsPlaceOf bookings k); absent : IfErr r (IsGapFor bookings k); ordered : IsInOrder bookings }
  searched (Ok at) within equal = record { found = record { within = within; same = equal }; absent = tt; ordered = ordered }
  searched (Err at) within parted = record { found = tt; absent = record { within = within; parted = parted (searchable key_cmp_total (λ b. b.key) bookings ordered.ascending k) }; ordered = ordered }

  module _ (i : ℕ) (d : Booking) (place : IsPlaceOf bookings k i) where
    pub find_place : find_booking bookings k ≡ Some (get_or bookings i d)
    find_place = find_at key_cmp_total (λ b. b.key) bookings k i d ordered.ascending place.within (place.same d)

    pub release_place : without_booking bookings k ≡ remove bookings i
    release_place = without_at key_cmp_total (λ b. b.key) bookings k i d ordered.ascending place.within (place.same d)

    pub in_order_after_release : IsInOrder (remove bookings i)
    in_order_after_release =
        subst IsInOrder release_place (record {
          ascending = ascending-without key_cmp_total (λ b. b.key) bookings k ordered.ascending;
          conflict_free = free_filter _ bookings ordered.conflict_free;
        })

    -- a write over the booking that has the key changes that booking alone
    pub start_place : set bookings i (started_booking (get_or bookings i d)) ≡ with_started bookings k
    start_place = set_changes key_cmp_total (λ b. b.key) started_booking bookings k i d ordered.ascending place.within (place.same d)

  pub in_order_after_start : IsInOrder (with_started bookings k)
  in_order_after_start = record {
    ascending = ascending-change key_cmp_total (λ b. b.key) started_booking (λ b. refl) bookings k ordered.ascending;
    conflict_free = free_start bookings k ordered.conflict_free;
  }

module _ (bookings : List Booking) (k : RunKey) (i : ℕ) (gap : IsGapFor bookings k i) where
  pub find_gap : find_booking bookings k ≡ None
  find_gap = find_in_gap key_cmp_total (λ b. b.key) bookings k i gap.parted

  pub release_gap : without_booking bookings k ≡ bookings
  release_gap = without_in_gap key_cmp_total (λ b. b.key) bookings k i gap.parted

  pub start_gap : with_started bookings k ≡ bookings
  start_gap = change_in_gap key_cmp_total (λ b. b.key) started_booking bookings k i gap.parted

module _ (bookings : List Booking) (b : Booking) (i : ℕ) (gap : IsGapFor bookings b.key i) where
  pub book_gap : with_booking bookings b ≡ insert bookings i b
  book_gap = insert_in_gap key_cmp_total (λ b. b.key) bookings b i gap.within gap.parted

  pub in_order_after_book : IsInOrder bookings → conflicting b.class b.interval bookings ≡ [] → IsInOrder (insert bookings i b)
  in_order_after_book ordered free =
      subst IsInOrder book_gap (record {
        ascending = ascending-insert key_cmp_total (λ b. b.key) bookings b ordered.ascending (find_gap bookings b.key i gap);
        conflict_free = free_insert bookings b ordered.conflict_free free;
      })
