use Rattle.std.proofs.Common.{All}
use Rattle.std.specs.List.{AllZip}
use Rattle.door_workers.specs.Seats.{HoldsHere, GoesOn}
use Rattle.door_workers.proofs.seat.serve_seats.Given as goal

abbrev pub invariant-loop-i : goal.invariant-loop-i
invariant-loop-i g l = record {
  fits : All (HoldsHere (g.A.Attendant.fits l.attendant)) l.seats;
  run : AllZip (GoesOn g.D.Door.door_faults g.D.Door.share g.D.Door.given g.D.Door.returned (g.A.Attendant.attended l.attendant)) l.initial.seats l.seats;
}
