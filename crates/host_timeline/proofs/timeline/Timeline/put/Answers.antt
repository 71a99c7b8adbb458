use Rattle.std.proofs.Common.{◌≡◌, ◌<◌, [], length, sym, ap, arith}
use Rattle.host_timeline.specs.Booking.{conflicting}
use Rattle.host_timeline.specs.Timeline.{Timeline, IsPlaceOf, IsGapFor}
use Rattle.ps_time.specs.declared.class.Class.TheVariants.{Normal, Exclusive}
use Rattle.host_timeline.proofs.BusyLemmas.{busy_room}
use Rattle.host_timeline.proofs.HoldLemmas.{lane_new, lane_room}
use Rattle.host_timeline.proofs.IndexedLemmas.{indexed_put}
use Rattle.host_timeline.proofs.Place.{find_place, book_gap}
use Rattle.host_timeline.proofs.timeline.Timeline.put.Goals as goal

-- the key is new, so no place has it
pub unreachable-requires : goal.unreachable-requires
unreachable-requires c =
    let seen : c.self.inside.bookings.list ≡ c.args.self.now.list = ap (λ (t : Timeline). t.list) c.self.view_is in
    let place : IsPlaceOf c.self.inside.bookings.list c.args.booking.now.key c.in-Ok.field-0 = rw seen c.in-Ok.ensures.found in
    let found = rw seen at (find_place _ c.self.invariant.in_order _ _ c.args.booking.now place) in
    cc (found, c.requires.new_key)

-- nor has a lane it, and it has place for one more
pub insert-requires-clause-room : goal.insert-requires-clause-room
insert-requires-clause-room c =
    let room = ap (λ (t : Timeline). t.room) c.self.view_is in
    let more : length c.self.inside.bookings.list < c.self.inside.places = omega (arith, room, c.requires.room) in
    lane_room c.self.inside.bookings.list c.self.inside.lanes c.self.invariant.hold c.self.inside.places c.args.booking.now.class c.self.invariant.have more

pub insert-requires-clause-new_place : goal.insert-requires-clause-new_place
insert-requires-clause-new_place c =
    let seen : c.self.inside.bookings.list ≡ c.args.self.now.list = ap (λ (t : Timeline). t.list) c.self.view_is in
    lane_new c.self.inside.bookings.list c.self.inside.lanes c.self.invariant.hold c.args.booking.now (rw seen c.requires.new_key)

-- and there is place for what it takes
pub cover-requires-clause-normal : goal.cover-requires-clause-normal
cover-requires-clause-normal c =
    let room = ap (λ (t : Timeline). t.room) c.self.view_is in
    let more : length c.self.inside.bookings.list < c.self.inside.places = omega (arith, room, c.requires.room) in
    let some : 0 < c.self.inside.places = omega (arith, more) in
    busy_room Normal c.self.inside.bookings.list c.self.inside.busy.normal c.self.invariant.are_busy.normal (omega (arith, more, c.self.invariant.are_busy.normal_places some))

pub cover-requires-clause-exclusive : goal.cover-requires-clause-exclusive
cover-requires-clause-exclusive c =
    let room = ap (λ (t : Timeline). t.room) c.self.view_is in
    let more : length c.self.inside.bookings.list < c.self.inside.places = omega (arith, room, c.requires.room) in
    let some : 0 < c.self.inside.places = omega (arith, more) in
    busy_room Exclusive c.self.inside.bookings.list c.self.inside.busy.exclusive c.self.invariant.are_busy.exclusive (omega (arith, more, c.self.invariant.are_busy.exclusive_places some))

-- the booking goes into the gap
pub invariant_of-self : goal.invariant_of-self
invariant_of-self c =
    let seen : c.self.inside.bookings.list ≡ c.args.self.now.list = ap (λ (t : Timeline). t.list) c.self.view_is in
    let gap : IsGapFor c.self.inside.bookings.list c.args.booking.now.key c.in-Err.at = rw seen c.in-Err.ensures.absent in
    let free : conflicting c.args.booking.now.class c.args.booking.now.interval c.self.inside.bookings.list ≡ [] = rw seen c.requires.no_conflict in
    let room = ap (λ (t : Timeline). t.room) c.self.view_is in
    let more : length c.self.inside.bookings.list < c.self.inside.places = omega (arith, room, c.requires.room) in
    rw c.insert-in-Err.ensures.list (indexed_put c.self.inside.bookings.list _ c.self.inside.places c.self.inside.lanes _ c.self.inside.busy c.self.invariant c.args.booking.now c.in-Err.at _ c.cover.new.self gap free more (omega (arith, c.insert-in-Err.ensures.places)) c.insert.ensures (c.cover.ensures c.self.inside.bookings.list c.self.inside.places c.self.invariant.are_busy))

pub returns-clause-list : goal.returns-clause-list
returns-clause-list c =
    let seen : c.self.inside.bookings.list ≡ c.args.self.now.list = ap (λ (t : Timeline). t.list) c.self.view_is in
    let gap : IsGapFor c.self.inside.bookings.list c.args.booking.now.key c.in-Err.at = rw seen c.in-Err.ensures.absent in
    rw (c.insert-in-Err.ensures.list, ← seen) (sym (book_gap _ _ _ gap))
