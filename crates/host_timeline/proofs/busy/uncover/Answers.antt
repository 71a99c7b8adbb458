use Rattle.std.proofs.Common.{◌∙◌, ◌+◌, ◌<◌, ◌||◌, ◌∷◌, length, Some, ap, subst, sym, arith}
use Rattle.std.specs.List.{list_any}
use Rattle.ps_time.specs.Span.{Span}
use Rattle.host_timeline.specs.Busy.{begin_at, covers, range_places, takes_beside}
use Rattle.host_timeline.specs.Lane.{Decide}
use Rattle.host_timeline.proofs.BusyLemmas.{both_begin, busy_reach_beside, busy_room, cut_begins, cut_room, is_covered, one_of, places_to_begin, uncovered, uncovered_same}
use Rattle.host_timeline.proofs.busy.uncover.Goals as goal

pub cut-requires-clause-room : goal.cut-requires-clause-room
cut-requires-clause-room c =
    busy_room c.args.class (c.args.booking.now ∷ c.requires.bookings) c.args.ranges.now c.requires.busy (omega (arith, c.requires.places))

pub cut-requires-clause-covered : goal.cut-requires-clause-covered
cut-requires-clause-covered c =
    let some = subst (λ (i : Span). i.start < i.end) c.interval.view_is c.interval.invariant in
    is_covered c.args.class c.args.booking.now c.requires.bookings c.args.ranges.now.list some (sym c.classes_conflict.ensures ∙ c.if-classes_conflict.true) c.requires.busy

-- none of those that it overlaps starts before the range
pub beside-some-requires : goal.beside-some-requires
beside-some-requires c =
    busy_reach_beside c.args.class c.reach_back-earliest.result c.interval.inside.start c.requires.bookings c.args.lanes.now c.requires.hold c.args.booking.now c.args.ranges.now.list c.requires.busy c.reach_back-earliest.ensures

pub add_conflicts-requires : goal.add_conflicts-requires
add_conflicts-requires c = record {
  room =
      let class = c.args.class in
      let b = c.args.booking.now in
      let bs = c.requires.bookings in
      let rs = c.args.ranges.now.list in
      let some = subst (λ (i : Span). i.start < i.end) c.interval.view_is c.interval.invariant in
      let conflict = sym c.classes_conflict.ensures ∙ c.if-classes_conflict.true in
      let decide : Decide class b.interval.start (Some b.interval.end) bs c.beside-some.result.0 c.beside-some.result.1 = subst (λ (i : Span). Decide class i.start (Some i.end) bs c.beside-some.result.0 c.beside-some.result.1) c.interval.view_is (c.beside-some.ensures.decide bs c.requires.hold) in
      let places : length bs + 1 < range_places c.cut.new.self = omega (arith, c.requires.places, c.cut.ensures.places) in
      record {
        begins = one_of (places_to_begin class b bs rs some conflict c.requires.busy);
        apart = c.cut.ensures.apart;
        leaves = cut_room class b bs rs some conflict c.requires.busy (range_places c.cut.new.self) places;
        standing = ap (λ l. begin_at (one_of (places_to_begin class b bs rs some conflict c.requires.busy)) l) c.cut.ensures.list ∙ cut_begins class b bs rs some conflict c.requires.busy;
        coming = (both_begin class b bs rs some conflict c.requires.busy c.beside-some.result.0 c.beside-some.result.1 decide).0;
      };
}

pub add_conflicts-requires-then-classes_conflict : goal.add_conflicts-requires-then-classes_conflict
add_conflicts-requires-then-classes_conflict c = record {
  room =
      let class = c.args.class in
      let b = c.args.booking.now in
      let bs = c.requires.bookings in
      let rs = c.args.ranges.now.list in
      let some = subst (λ (i : Span). i.start < i.end) c.interval.view_is c.interval.invariant in
      let conflict = sym c.classes_conflict.ensures ∙ c.if-classes_conflict.true in
      let decide : Decide class b.interval.start (Some b.interval.end) bs c.beside-some.result.0 c.beside-some.result.1 = subst (λ (i : Span). Decide class i.start (Some i.end) bs c.beside-some.result.0 c.beside-some.result.1) c.interval.view_is (c.beside-some.ensures.decide bs c.requires.hold) in
      let places : length bs + 1 < range_places c.add_conflicts.new.ranges = omega (arith, c.requires.places, c.cut.ensures.places, c.add_conflicts.ensures.places) in
      let begins = one_of (places_to_begin class b bs rs some conflict c.requires.busy) in
      let standing = ap (λ l. begin_at begins l) c.cut.ensures.list ∙ cut_begins class b bs rs some conflict c.requires.busy in
      let both = both_begin class b bs rs some conflict c.requires.busy c.beside-some.result.0 c.beside-some.result.1 decide in
      record {
        begins = begins;
        apart = c.add_conflicts.ensures.apart;
        leaves = cut_room class b bs rs some conflict c.requires.busy (range_places c.add_conflicts.new.ranges) places;
        standing = c.add_conflicts.ensures.begin begins standing both.0;
        coming = both.1;
      };
}

pub returns-then-classes_conflict-clause-busy : goal.returns-then-classes_conflict-clause-busy
returns-then-classes_conflict-clause-busy c bookings hold busy =
    let class = c.args.class in
    let b = c.args.booking.now in
    let rs = c.args.ranges.now.list in
    let xs = c.beside-some.result.0 in
    let ys = c.beside-some.result.1 in
    let some = subst (λ (i : Span). i.start < i.end) c.interval.view_is c.interval.invariant in
    let conflict = sym c.classes_conflict.ensures ∙ c.if-classes_conflict.true in
    let decide : Decide class b.interval.start (Some b.interval.end) bookings xs ys = subst (λ (i : Span). Decide class i.start (Some i.end) bookings xs ys) c.interval.view_is (c.beside-some.ensures.decide bookings hold) in
    record {
      covered = λ t.
          c.add_conflicts-then-classes_conflict.ensures.covers t
          ∙ ap (λ x. x || list_any (takes_beside class b.interval t) ys) (c.add_conflicts.ensures.covers t)
          ∙ ap (λ l. (covers l t || list_any (takes_beside class b.interval t) xs) || list_any (takes_beside class b.interval t) ys) c.cut.ensures.list
          ∙ uncovered class b bookings rs some conflict busy xs ys decide t;
      apart = c.add_conflicts-then-classes_conflict.ensures.apart;
    }

pub returns-else-classes_conflict-clause-busy : goal.returns-else-classes_conflict-clause-busy
returns-else-classes_conflict-clause-busy c bookings hold busy =
    uncovered_same c.args.class c.args.booking.now bookings c.args.ranges.now.list (sym c.classes_conflict.ensures ∙ c.if-classes_conflict.false) busy
