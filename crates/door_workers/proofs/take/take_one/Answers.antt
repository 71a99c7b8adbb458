use Rattle.std.proofs.Common.{None, Some, refl, sym, ap, ◌∙◌}
use Rattle.ps_doors.specs.Door.{is_used_up}
use Rattle.door_workers.specs.declared.part.End.TheVariants.{Closed, Failed}
use Rattle.door_workers.proofs.RunLemmas.{no_stream, one_stream}
use Rattle.door_workers.proofs.take.take_one.Goals as goal

pub returns-in-Stream-clause-run : goal.returns-in-Stream-clause-run
returns-in-Stream-clause-run g c =
    let said = c.in-Stream.ensures in
    let done = c.done.ensures in
    one_stream g.D.Door.door_faults g.D.Door.share g.D.Door.given g.D.Door.returned (g.A.Attendant.attended c.args.attendant.now)
    c.args.door.now c.accept.new.self c.done.new.self c.args.token.now c.attend.new.token c.in-Stream.stream c.attend.new.stream c.in-Stream.address
    said.given said.returned said.share said.count c.attend.ensures.attended done.given done.returned done.share done.count

pub returns-in-Nobody-clause-run : goal.returns-in-Nobody-clause-run
returns-in-Nobody-clause-run g c =
    let said = c.in-Nobody.ensures in
    no_stream g.D.Door.door_faults g.D.Door.share g.D.Door.given g.D.Door.returned (g.A.Attendant.attended c.args.attendant.now)
    c.args.door.now c.accept.new.self c.args.token.now c.args.token.now None said.given said.returned said.share said.count tt refl

pub returns-in-Memory-clause-run : goal.returns-in-Memory-clause-run
returns-in-Memory-clause-run g c =
    let said = c.in-Memory.ensures in
    no_stream g.D.Door.door_faults g.D.Door.share g.D.Door.given g.D.Door.returned (g.A.Attendant.attended c.args.attendant.now)
    c.args.door.now c.accept.new.self c.args.token.now c.args.token.now None said.given said.returned said.share said.count tt refl

pub returns-in-Closed-clause-run : goal.returns-in-Closed-clause-run
returns-in-Closed-clause-run g c =
    let said = c.in-Closed.ensures in
    no_stream g.D.Door.door_faults g.D.Door.share g.D.Door.given g.D.Door.returned (g.A.Attendant.attended c.args.attendant.now)
    c.args.door.now c.accept.new.self c.args.token.now c.args.token.now (Some Closed) said.given said.returned said.share said.count (ap is_used_up said.share ∙ sym said.closed) refl

pub returns-in-Failed-clause-run : goal.returns-in-Failed-clause-run
returns-in-Failed-clause-run g c =
    let said = c.in-Failed.ensures in
    no_stream g.D.Door.door_faults g.D.Door.share g.D.Door.given g.D.Door.returned (g.A.Attendant.attended c.args.attendant.now)
    c.args.door.now c.accept.new.self c.args.token.now c.args.token.now (Some Failed) said.given said.returned said.share said.count (ap is_used_up said.share ∙ sym said.closed) refl
