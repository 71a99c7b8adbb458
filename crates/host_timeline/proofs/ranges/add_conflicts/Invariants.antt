use Rattle.std.proofs.Common.{◌≡◌, ◌||◌, ℕ, Bool, true}
use Rattle.std.specs.List.{list_any}
use Rattle.host_timeline.specs.Busy.{begin_at, conflicts_begin_at, covers, range_places, takes_beside, IsApart}
use Rattle.host_timeline.proofs.ranges.add_conflicts.Given as goal

-- what is covered, and what is left, is what was covered, and all
abbrev pub invariant-loop-booking : goal.invariant-loop-booking
invariant-loop-booking l = record {
  left : (second : ℕ) → (covers l.ranges.list second || list_any (takes_beside l.class l.interval second) l.booking-iterator) ≡ (covers l.initial.ranges.list second || list_any (takes_beside l.class l.interval second) l.fn.bookings);
  apart : IsApart l.ranges.list;
  begin : (begins : ℕ → Bool) → begin_at begins l.initial.ranges.list ≡ true → conflicts_begin_at begins l.class l.interval l.fn.bookings ≡ true → begin_at begins l.ranges.list ≡ true;
  coming : (begins : ℕ → Bool) → conflicts_begin_at begins l.class l.interval l.fn.bookings ≡ true → conflicts_begin_at begins l.class l.interval l.booking-iterator ≡ true;
  places : range_places l.ranges ≡ range_places l.initial.ranges;
}
