use Rattle.std.proofs.Common.{get_or}
use Rattle.std.proofs.lemmas.List.Elements.{All-set}
use Rattle.door_workers.specs.Seats.{HoldsHere, GoesOn}
use Rattle.door_workers.proofs.ZipLemmas.{zip_refl, zip_set}
use Rattle.door_workers.proofs.SeatLemmas.{goes_refl, goes_trans}
use Rattle.door_workers.proofs.seat.serve_seats.Goals as goal

pub loop-i-init : goal.loop-i-init
loop-i-init g c = record {
  fits = c.requires;
  run = zip_refl (GoesOn g.D.Door.door_faults g.D.Door.share g.D.Door.given g.D.Door.returned (g.A.Attendant.attended c.args.attendant.now))
      (goes_refl g.D.Door.door_faults g.D.Door.share g.D.Door.given g.D.Door.returned (g.A.Attendant.attended c.args.attendant.now)) c.args.seats.now;
}

pub loop-i-preserved : goal.loop-i-preserved
loop-i-preserved g c = record {
  fits = All-set (HoldsHere (g.A.Attendant.fits c.args.attendant.now)) c.loop-i.seats c.loop-i.i c.serve_seat.new.seat c.serve_seat.ensures.fits c.loop-i.invariant.fits;
  run = zip_set (GoesOn g.D.Door.door_faults g.D.Door.share g.D.Door.given g.D.Door.returned (g.A.Attendant.attended c.args.attendant.now))
      c.args.seats.now c.loop-i.seats c.loop-i.i c.index-seats-i.result c.serve_seat.new.seat
      (λ x p. goes_trans g.D.Door.door_faults g.D.Door.share g.D.Door.given g.D.Door.returned (g.A.Attendant.attended c.args.attendant.now) x (get_or c.loop-i.seats c.loop-i.i c.index-seats-i.result) c.serve_seat.new.seat p c.serve_seat.ensures.run)
      c.loop-i.invariant.run;
}
