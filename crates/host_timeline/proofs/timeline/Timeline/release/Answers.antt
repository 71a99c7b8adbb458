use Rattle.std.proofs.Common.{◌≡◌, refl, sym, ap}
use Rattle.host_timeline.specs.Timeline.{Timeline, IsPlaceOf}
use Rattle.host_timeline.proofs.IndexedLemmas.{can_release, indexed_release}
use Rattle.host_timeline.proofs.Place.{find_place, release_place, find_gap, release_gap}
use Rattle.host_timeline.proofs.timeline.Timeline.release.Goals as goal

-- what it took can be taken out
pub uncover-requires : goal.uncover-requires
uncover-requires c =
    let seen : c.self.inside.bookings.list ≡ c.args.self.now.list = ap (λ (t : Timeline). t.list) c.self.view_is in
    let place : IsPlaceOf c.self.inside.bookings.list c.args.key c.in-Ok.at = rw seen c.in-Ok.ensures.found in
    can_release c.self.inside.bookings.list _ c.self.inside.places c.self.inside.lanes _ c.self.inside.busy c.self.invariant c.args.key c.in-Ok.at c.remove-booking.result place c.remove-booking.ensures.value c.remove.ensures

-- the booking at the place goes, and the order stays
pub invariant_of-self : goal.invariant_of-self
invariant_of-self c =
    let seen : c.self.inside.bookings.list ≡ c.args.self.now.list = ap (λ (t : Timeline). t.list) c.self.view_is in
    let place : IsPlaceOf c.self.inside.bookings.list c.args.key c.in-Ok.at = rw seen c.in-Ok.ensures.found in
    rw (c.remove-booking.ensures.list, c.remove-booking.ensures.places) (indexed_release c.self.inside.bookings.list _ c.self.inside.places c.self.inside.lanes _ c.self.inside.busy c.self.invariant c.args.key c.in-Ok.at c.remove-booking.result place c.remove-booking.ensures.value c.uncover.new.self c.remove.ensures c.uncover.ensures)

pub returns-in-Ok-clause-found : goal.returns-in-Ok-clause-found
returns-in-Ok-clause-found c =
    let seen : c.self.inside.bookings.list ≡ c.args.self.now.list = ap (λ (t : Timeline). t.list) c.self.view_is in
    let place : IsPlaceOf c.self.inside.bookings.list c.args.key c.in-Ok.at = rw seen c.in-Ok.ensures.found in
    rw (← seen, find_place _ c.self.invariant.in_order _ _ c.remove-booking.result place) refl

pub returns-in-Ok-clause-list : goal.returns-in-Ok-clause-list
returns-in-Ok-clause-list c =
    let seen : c.self.inside.bookings.list ≡ c.args.self.now.list = ap (λ (t : Timeline). t.list) c.self.view_is in
    let place : IsPlaceOf c.self.inside.bookings.list c.args.key c.in-Ok.at = rw seen c.in-Ok.ensures.found in
    rw (← seen, release_place _ c.self.invariant.in_order _ _ c.remove-booking.result place) c.remove-booking.ensures.list

-- no booking has the key
pub returns-in-Err-clause-found : goal.returns-in-Err-clause-found
returns-in-Err-clause-found c = rw (find_gap _ _ _ c.in-Err.ensures.absent) refl

pub returns-in-Err-clause-list : goal.returns-in-Err-clause-list
returns-in-Err-clause-list c = sym (release_gap _ _ _ c.in-Err.ensures.absent)
