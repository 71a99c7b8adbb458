use Rattle.door_workers.specs.Seats.{GoesOn}
use Rattle.door_workers.proofs.ZipLemmas.{zip_refl, zip_chain}
use Rattle.door_workers.proofs.SeatLemmas.{goes_refl, goes_trans}
use Rattle.door_workers.proofs.round.make_rounds.Goals as goal

pub loop-init : goal.loop-init
loop-init g c = record {
  fits = c.requires.seats;
  run = zip_refl (GoesOn g.D.Door.door_faults g.D.Door.share g.D.Door.given g.D.Door.returned (g.A.Attendant.attended c.args.attendant.now))
      (goes_refl g.D.Door.door_faults g.D.Door.share g.D.Door.given g.D.Door.returned (g.A.Attendant.attended c.args.attendant.now)) c.args.seats.now;
  own = c.requires.own;
  rounded = g.met.W.Rounds.rounded_refl c.args.rounds.now c.args.own.now;
}

pub loop-preserved : goal.loop-preserved
loop-preserved g c =
    let G = GoesOn {H = g.row.H.Denot} g.D.Door.door_faults g.D.Door.share g.D.Door.given g.D.Door.returned (g.A.Attendant.attended c.args.attendant.now) in
    record {
      fits = c.serve_seats.ensures.fits;
      run = zip_chain G G G (goes_trans g.D.Door.door_faults g.D.Door.share g.D.Door.given g.D.Door.returned (g.A.Attendant.attended c.args.attendant.now))
          c.args.seats.now c.loop.seats c.serve_seats.new.seats c.loop.invariant.run c.serve_seats.ensures.run;
      own = c.round.ensures.fits;
      rounded = g.met.W.Rounds.rounded_trans c.args.rounds.now c.loop.rounds c.round.new.self c.args.own.now c.loop.own c.round.new.token c.loop.invariant.rounded c.round.ensures.rounded;
    }
