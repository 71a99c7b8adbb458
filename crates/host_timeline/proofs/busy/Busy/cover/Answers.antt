use Rattle.std.proofs.Common.{subst, sym, arith}
use Rattle.host_timeline.specs.Busy.{AreBusy}
use Rattle.host_timeline.proofs.busy.Busy.cover.Goals as goal

pub returns : goal.returns
returns c bookings places busy =
    let inside : AreBusy bookings places (record { normal = c.self.inside.normal; exclusive = c.self.inside.exclusive }) = subst (AreBusy bookings places) (sym c.self.view_is) busy in
    record {
      normal = c.cover.ensures.busy bookings inside.normal;
      exclusive = c.cover-2.ensures.busy bookings inside.exclusive;
      normal_places = λ some. omega (arith, inside.normal_places some, c.cover.ensures.places);
      exclusive_places = λ some. omega (arith, inside.exclusive_places some, c.cover-2.ensures.places);
    }
