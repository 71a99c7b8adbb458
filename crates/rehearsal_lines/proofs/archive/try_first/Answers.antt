use Rattle.std.specs.Prelude.{codes}
use Rattle.std.proofs.Common.{◌∙◌, None, Some, ap, subst, sym}
use Rattle.host_model.specs.Conditions.{IsInput}
use Rattle.host_model.specs.declared.input.Input.{Input}
use Rattle.rehearsal_report.specs.Line.{archive_text}
use Rattle.rehearsal_model.specs.Moves.{Move, Outcomes, attempt, trying}
use Rattle.rehearsal_model.specs.Plays.{MayMake}
use Rattle.rehearsal_model.specs.Simulations.Action.{Does}
use Rattle.rehearsal_model.specs.Simulations.{Simulation, book_of, outcome_at, config_of, simulation_after}
use Rattle.rehearsal_model.specs.Telling.{outcome_said, disk_fault, due_said}
use Rattle.rehearsal_lines.proofs.ArchiveLemmas.{of_some, told_none, told_some, trying_some}
use Rattle.rehearsal_lines.proofs.ResultLemmas.{on_ok, reported, seen_as}
use Rattle.rehearsal_lines.proofs.archive.try_first.Goals as goal

pub tell-requires-clause-input : goal.tell-requires-clause-input
tell-requires-clause-input g c =
    let config = config_of c.args.now.now c.args.place in
    of_some (IsInput config) _ c.in-Some.input c.in-Some.is (c.in_ok-input.ensures.input config)

-- an attempt was made
pub returns-in-Some-clause-report : goal.returns-in-Some-clause-report
returns-in-Some-clause-report g c =
    let comes : Outcomes = g.A.Archivers.comes c.args.archivers.now in
    let b : Simulation = c.args.now.now in
    let place = c.args.place in
    let clock = c.args.clock in
    let i = c.in-Some.input in
    let due = attempt (book_of b place) clock in
    reported c.tell.result c.tell.new.report c.args.report.now c.args.line (outcome_said (outcome_at b place clock i) disk_fault archive_text) (due_said comes b place clock due)
    (told_some comes b place clock due i (sym c.in-Some.is ∙ c.in_ok-input.ensures.told)) c.tell.ensures.report

pub returns-in-Some-clause-simulation : goal.returns-in-Some-clause-simulation
returns-in-Some-clause-simulation g c = λ hosts.
    let comes : Outcomes = g.A.Archivers.comes c.args.archivers.now in
    let b : Simulation = c.args.now.now in
    let place = c.args.place in
    let clock = c.args.clock in
    let i = c.in-Some.input in
    let due = attempt (book_of b place) clock in
    seen_as c.tell.result c.tell.new.now (simulation_after hosts b (Does (Move.Tries place clock i))) (simulation_after hosts b (Does (trying comes place clock due)))
    (ap (λ (m : Move). simulation_after hosts b (Does m)) (trying_some comes place clock due i (sym c.in-Some.is ∙ c.in_ok-input.ensures.told))) (c.tell.ensures.simulation hosts)

pub returns-in-Some-clause-may : goal.returns-in-Some-clause-may
returns-in-Some-clause-may g c =
    let comes : Outcomes = g.A.Archivers.comes c.args.archivers.now in
    let b : Simulation = c.args.now.now in
    let place = c.args.place in
    let i : Input = c.in-Some.input in
    let asked : IsInput (config_of b place) i = of_some (IsInput (config_of b place)) _ i c.in-Some.is (c.in_ok-input.ensures.input (config_of b place)) in
    on_ok c.tell.result (subst (λ (m : Move). MayMake b m) (trying_some comes place c.args.clock (attempt (book_of b place) c.args.clock) i (sym c.in-Some.is ∙ c.in_ok-input.ensures.told)) asked)

-- none is due
pub returns-in-None-clause-report : goal.returns-in-None-clause-report
returns-in-None-clause-report g c =
    let comes : Outcomes = g.A.Archivers.comes c.args.archivers.now in
    let b : Simulation = c.args.now.now in
    let place = c.args.place in
    let clock = c.args.clock in
    let due = attempt (book_of b place) clock in
    reported c.add_said.result c.add_said.new.report c.args.report.now c.args.line (codes "nothing due") (due_said comes b place clock due)
    (told_none comes b place clock due (sym c.in-None.is ∙ c.in_ok-input.ensures.told)) c.add_said.ensures
