use Rattle.std.proofs.Common.{◌≡◌, ◌≤◌, ◌+◌, ◌++◌, List, length, All, vec_len, vec_capacity}
use Rattle.std.specs.List.{AllZip}
use Rattle.std.specs.Vec.Iter.{into_iter_items}
use Rattle.std.specs.declared.thread.PromisedHandle.{PromisedHandle}
use Rattle.door_workers.specs.declared.part.Ended.{Ended}
use Rattle.door_workers.specs.declared.part.Part.{Part}
use Rattle.door_workers.specs.declared.part.Served.{Served}
use Rattle.door_workers.specs.declared.seat.Seat.{Seat}
use Rattle.door_workers.specs.declared.workers.Promised.{Promised}
use Rattle.door_workers.specs.Runs.{DoorRun}
use Rattle.door_workers.specs.Seats.{IsFor, Ran}
use Rattle.door_workers.proofs.workers.fn.run.scope.Given as goal

-- where a door is
abbrev pub Held : goal.Over → Type 0
Held g = Seat (PromisedHandle (Served g.row.D.Denot g.row.T.Denot) (Promised g.row.A.Denot g.row.D.Denot g.row.T.Denot)) g.row.D.Denot g.row.T.Denot

-- the door that was handed over is there
abbrev pub Seated : (g : goal.Over) → g.row.A.Denot → Part g.row.D.Denot g.row.T.Denot → Held g → Type 0
Seated g a = IsFor g.D.Door.door_faults g.D.Door.share g.D.Door.given g.D.Door.returned (g.A.Attendant.attended a) (λ h p. (h.promise.attendant.value ≡ a) × (h.promise.part.value ≡ p)) (g.A.Attendant.fits a)

-- it has ended, with a token that fits
abbrev pub IsBack : (g : goal.Over) → g.row.A.Denot → Part g.row.D.Denot g.row.T.Denot → Ended g.row.D.Denot g.row.T.Denot → Type 0
IsBack g a part ended = g.A.Attendant.fits a ended.token × Ran g.D.Door.door_faults g.D.Door.share g.D.Door.given g.D.Door.returned (g.A.Attendant.attended a) part ended

abbrev pub invariant-loop-part : goal.invariant-loop-part
invariant-loop-part g l = record {
  begun : List (Part g.row.D.Denot g.row.T.Denot);
  all : begun ++ into_iter_items l.part-iterator ≡ l.handed.value.items;
  seats : AllZip (Seated g l.attendant) begun l.seats.items;
  fits : All (λ p. g.A.Attendant.fits l.attendant p.token) (into_iter_items l.part-iterator);
  room : vec_len l.seats + length (into_iter_items l.part-iterator) ≤ vec_capacity l.seats;
}

abbrev pub invariant-loop-seat : goal.invariant-loop-seat
invariant-loop-seat g l = record {
  done : List (Part g.row.D.Denot g.row.T.Denot);
  left : List (Part g.row.D.Denot g.row.T.Denot);
  all : done ++ left ≡ l.handed.value.items;
  backs : AllZip (IsBack g l.attendant) done l.doors.items;
  seats : AllZip (Seated g l.attendant) left (into_iter_items l.seat-iterator);
  room : vec_len l.doors + length (into_iter_items l.seat-iterator) ≤ vec_capacity l.doors;
}

-- a door that was handed over ran so far
abbrev pub HasRun : (g : goal.Over) → g.row.A.Denot → Part g.row.D.Denot g.row.T.Denot → Served g.row.D.Denot g.row.T.Denot → Type 0
HasRun g a p x = g.A.Attendant.fits a x.token × DoorRun g.D.Door.door_faults g.D.Door.share g.D.Door.given g.D.Door.returned (g.A.Attendant.attended a) p.door p.token x.end x.door x.token
