-- What a timeline keeps beside its bookings, after one comes, goes or is started.
use Rattle.std.proofs.Common.{◌≡◌, ◌∙◌, ◌<◌, ◌≤◌, ℕ, Bool, List, [], ◌∷◌, length, get_or, Some, sym, ap, subst, arith}
use Rattle.std.specs.List.{insert, remove}
use Rattle.std.specs.declared.cmp.Ordering.TheVariants.{Equal}
use Rattle.std.proofs.lemmas.List.{length-map}
use Rattle.std.proofs.lemmas.List.Edits.{length-insert, length-remove}
use Rattle.std.proofs.lemmas.List.Sorted.{list_any-IsPermutation, IsPermutation-insert, IsPermutation-remove}
use Rattle.ps_time.specs.Key.{key_cmp}
use Rattle.ps_time.specs.declared.key.RunKey.{RunKey}
use Rattle.ps_time.proofs.KeyLemmas.{same_key}
use Rattle.host_timeline.specs.declared.booking.Booking.{Booking}
use Rattle.host_timeline.specs.Booking.{conflicting}
use Rattle.host_timeline.specs.Busy.{Busy, AreBusy, CanRelease}
use Rattle.host_timeline.specs.Indexed.{IsIndexed}
use Rattle.host_timeline.specs.Lane.{Lanes, HoldLanes, IsEdited, place_of, with_place, without_place, with_started_place}
use Rattle.host_timeline.specs.Timeline.{find_booking, with_started, IsGapFor, IsPlaceOf}
use Rattle.host_timeline.proofs.BusyLemmas.{busy_alike, busy_started}
use Rattle.host_timeline.proofs.HoldLemmas.{have_edited, hold_insert, hold_remove, hold_start, only, IsOnly}
use Rattle.host_timeline.proofs.Place.{book_gap, find_place, in_order_after_book, in_order_after_release, in_order_after_start, release_place}

module _ (bs : List Booking) (capacity places : ℕ) (lanes new : Lanes) (busy : Busy) (indexed : IsIndexed bs capacity places lanes busy) where
  pub indexed_put : (b : Booking) (i : ℕ) (more : ℕ) (busier : Busy) → IsGapFor bs b.key i → conflicting b.class b.interval bs ≡ [] → length bs < places → capacity ≤ more → IsEdited (λ l. with_place l b) b.class lanes new → AreBusy (b ∷ bs) places busier → IsIndexed (insert bs i b) more places new busier
  indexed_put b i more busier gap free room grown edited covered = record {
    in_order = in_order_after_book bs b i gap indexed.in_order free;
    taken = omega (arith, length-insert bs i b gap.within, room);
    fits = omega (arith, indexed.fits, grown);
    hold = subst (λ l. HoldLanes l new) (book_gap bs b i gap) (hold_insert bs lanes new indexed.hold b edited);
    have = have_edited places (λ l. with_place l b) b.class lanes new indexed.have edited;
    are_busy = busy_alike (b ∷ bs) (insert bs i b) places busier (λ (p : Booking → Bool). list_any-IsPermutation p (b ∷ bs) (insert bs i b) (IsPermutation-insert bs i b)) covered;
  }

  module _ (k : RunKey) (i : ℕ) (x : Booking) (place : IsPlaceOf bs k i) (is : x ≡ get_or bs i x) where
    key_is : x.key ≡ k
    key_is = same_key x.key k (subst (λ (b : Booking). key_cmp b.key k ≡ Equal) (sym is) (place.same x))

    pub found : find_booking bs k ≡ Some x
    found = find_place bs indexed.in_order k i x place ∙ ap Some (sym is)

    alone : IsOnly k x bs
    alone = only k x bs indexed.in_order.ascending found

    left_hold : IsEdited (λ l. without_place l (place_of x)) x.class lanes new → HoldLanes (remove bs i) new
    left_hold edited = subst (λ l. HoldLanes l new) (release_place bs indexed.in_order k i x place) (hold_remove bs lanes new indexed.hold k x key_is alone edited)

    taken_less : length (remove bs i) < places
    taken_less = omega (arith, length-remove bs i place.within, indexed.taken)

    was_busy : AreBusy (x ∷ remove bs i) places busy
    was_busy = busy_alike bs (x ∷ remove bs i) places busy (λ (p : Booking → Bool). list_any-IsPermutation p bs (x ∷ remove bs i) (IsPermutation-remove bs i x place.within is)) indexed.are_busy

    -- what the booking took can be taken out
    pub can_release : IsEdited (λ l. without_place l (place_of x)) x.class lanes new → CanRelease x new busy
    can_release edited = record { bookings = remove bs i; places = places; hold = left_hold edited; are_busy = was_busy; taken = taken_less }

    pub indexed_release : (quieter : Busy) → IsEdited (λ l. without_place l (place_of x)) x.class lanes new → ((left : List Booking) (n : ℕ) → HoldLanes left new → AreBusy (x ∷ left) n busy → AreBusy left n quieter) → IsIndexed (remove bs i) capacity places new quieter
    indexed_release quieter edited uncovers = record {
      in_order = in_order_after_release bs indexed.in_order k i x place;
      taken = omega (arith, length-remove bs i place.within, indexed.taken);
      fits = indexed.fits;
      hold = left_hold edited;
      have = have_edited places (λ l. without_place l (place_of x)) x.class lanes new indexed.have edited;
      are_busy = uncovers (remove bs i) places (left_hold edited) was_busy;
    }

    pub indexed_start : IsEdited (λ l. with_started_place l (place_of x)) x.class lanes new → IsIndexed (with_started bs k) capacity places new busy
    indexed_start edited = record {
      in_order = in_order_after_start bs indexed.in_order k;
      taken = simp length-map indexed.taken;
      fits = indexed.fits;
      hold = hold_start bs lanes new indexed.hold k x key_is alone edited;
      have = have_edited places (λ l. with_started_place l (place_of x)) x.class lanes new indexed.have edited;
      are_busy = busy_started bs k places busy indexed.are_busy;
    }
