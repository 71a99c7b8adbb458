use Rattle.std.proofs.Common.{Option, Some, None, subst}
use Rattle.door_workers.specs.declared.part.End.{End}
use Rattle.door_workers.specs.Runs.{DoorRun}
use Rattle.door_workers.proofs.RunLemmas.{nothing_yet, run_then}
use Rattle.door_workers.proofs.work.work.Goals as goal

pub loop-init : goal.loop-init
loop-init g c = record {
  fits = c.requires;
  run = nothing_yet g.D.Door.door_faults g.D.Door.share g.D.Door.given g.D.Door.returned (g.A.Attendant.attended c.args.attendant.now) c.args.door.now c.args.token.now;
}

pub returns-in-Some-take_one-clause-run : goal.returns-in-Some-take_one-clause-run
returns-in-Some-take_one-clause-run g c =
    run_then g.D.Door.door_faults g.D.Door.share g.D.Door.given g.D.Door.returned (g.A.Attendant.attended c.args.attendant.now)
    c.args.door.now c.loop.door c.take_one.new.door c.args.token.now c.loop.token c.take_one.new.token (Some c.in-Some-take_one.end)
    c.loop.invariant.run c.in-Some-take_one.ensures.run

pub loop-preserved : goal.loop-preserved
loop-preserved g c = record {
  fits = c.take_one.ensures.fits;
  run =
      run_then g.D.Door.door_faults g.D.Door.share g.D.Door.given g.D.Door.returned (g.A.Attendant.attended c.args.attendant.now)
      c.args.door.now c.loop.door c.take_one.new.door c.args.token.now c.loop.token c.take_one.new.token None
      c.loop.invariant.run
      (subst (λ (e : Option End). DoorRun g.D.Door.door_faults g.D.Door.share g.D.Door.given g.D.Door.returned (g.A.Attendant.attended c.args.attendant.now) c.loop.door c.loop.token e c.take_one.new.door c.take_one.new.token)
      c.in_default.is c.take_one.ensures.run);
}
