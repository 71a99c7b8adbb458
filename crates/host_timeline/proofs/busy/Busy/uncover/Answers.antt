use Rattle.std.proofs.Common.{◌<◌, ◌∷◌, subst, sym, arith}
use Rattle.host_timeline.specs.Busy.{AreBusy}
use Rattle.host_timeline.proofs.busy.Busy.uncover.Goals as goal

pub uncover-requires : goal.uncover-requires
uncover-requires c =
    let inside : AreBusy (c.args.booking.now ∷ c.requires.bookings) c.requires.places (record { normal = c.self.inside.normal; exclusive = c.self.inside.exclusive }) = subst (AreBusy (c.args.booking.now ∷ c.requires.bookings) c.requires.places) (sym c.self.view_is) c.requires.are_busy in
    record { bookings = c.requires.bookings; hold = c.requires.hold; busy = inside.normal; places = let some : 0 < c.requires.places = omega (arith, c.requires.taken) in omega (arith, inside.normal_places some, c.requires.taken) }

pub uncover-requires-2 : goal.uncover-requires-2
uncover-requires-2 c =
    let inside : AreBusy (c.args.booking.now ∷ c.requires.bookings) c.requires.places (record { normal = c.self.inside.normal; exclusive = c.self.inside.exclusive }) = subst (AreBusy (c.args.booking.now ∷ c.requires.bookings) c.requires.places) (sym c.self.view_is) c.requires.are_busy in
    record { bookings = c.requires.bookings; hold = c.requires.hold; busy = inside.exclusive; places = let some : 0 < c.requires.places = omega (arith, c.requires.taken) in omega (arith, inside.exclusive_places some, c.requires.taken) }

pub returns : goal.returns
returns c bookings places hold busy =
    let inside : AreBusy (c.args.booking.now ∷ bookings) places (record { normal = c.self.inside.normal; exclusive = c.self.inside.exclusive }) = subst (AreBusy (c.args.booking.now ∷ bookings) places) (sym c.self.view_is) busy in
    record {
      normal = c.uncover.ensures.busy bookings hold inside.normal;
      exclusive = c.uncover-2.ensures.busy bookings hold inside.exclusive;
      normal_places = λ some. omega (arith, inside.normal_places some, c.uncover.ensures.places);
      exclusive_places = λ some. omega (arith, inside.exclusive_places some, c.uncover-2.ensures.places);
    }
