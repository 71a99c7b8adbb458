use Rattle.std.proofs.Common.{◌≡◌, ◌∙◌, ◌<◌, ◌≤◌, List, length, get_or, ap, subst, sym, arith}
use Rattle.host_timeline.specs.declared.booking.Booking.{Booking}
use Rattle.host_timeline.specs.Lane.{IsAscendingPlaces}
use Rattle.host_timeline.proofs.StartLemmas.{alone, among, ascending_part, first_end, part, StandsAt}
use Rattle.host_timeline.proofs.booking_list.BookingList.before_place.Goals as goal
use Rattle.host_timeline.proofs.booking_list.BookingList.before_place.Goals.{then-first-len-via-then-first-len, then-first-len-via-else-first-len+then-place-start_at}

-- those that don't start earlier start later
pub returns-then-first-len-clause-parted : goal.returns-then-first-len-clause-parted
returns-then-first-len-clause-parted c =
    let bs = c.args.self.now.list in
    let first = c.starting_before-first.result in
    let late : first < length bs → (d : Booking) → c.args.place.start < (get_or bs first d).interval.start = elim c.then-first-len.branch [
      | then-first-len-via-then-first-len w ↦ λ lt d. absurd (omega (arith, lt, w.if-first-len.true, c.len.ensures))
      | then-first-len-via-else-first-len+then-place-start_at w ↦ λ lt d. subst (λ n. c.args.place.start < n) (w.start_at.ensures d) w.if-place-start_at.true
    ] in
    alone bs c.requires c.args.place first c.starting_before-first.ensures.within c.starting_before-first.ensures.parted late

pub part-requires-clause-ordered : goal.part-requires-clause-ordered
part-requires-clause-ordered c =
    first_end c.args.self.now.list c.args.place.start c.starting_before-first.result c.starting_by-end.result c.starting_before-first.ensures.within c.starting_before-first.ensures.parted c.starting_by-end.ensures.parted

pub before_place-requires : goal.before_place-requires
before_place-requires c =
    let bs = c.args.self.now.list in
    let first = c.starting_before-first.result in
    let end = c.starting_by-end.result in
    let is : c.part.result ≡ part first end bs = c.part.ensures ∙ ap (part first end) c.in_order.ensures in
    subst IsAscendingPlaces (sym is) (ascending_part first end bs c.requires)

-- those with its start stand in a row
pub returns-clause-parted : goal.returns-clause-parted
returns-clause-parted c =
    let bs = c.args.self.now.list in
    let first = c.starting_before-first.result in
    let end = c.starting_by-end.result in
    let early = c.starting_before-first.ensures in
    let late = c.starting_by-end.ensures in
    let is : c.part.result ≡ part first end bs = c.part.ensures ∙ ap (part first end) c.in_order.ensures in
    let small = subst (λ (l : List Booking). c.before_place.result ≤ length l) is c.before_place.ensures.within in
    let stands = subst (λ (l : List Booking). StandsAt l c.args.place c.before_place.result) is c.before_place.ensures.parted in
    among bs c.requires c.args.place first early.within early.parted end late.within late.parted (first_end bs c.args.place.start first end early.within early.parted late.parted) c.before_place.result small stands
