use Rattle.std.proofs.Common.{◌≡◌, rules}
use Rattle.host_model.specs.declared.input.Input.TheVariants as input
use Rattle.rehearsal_report.specs.Line.{booking_text}
use Rattle.rehearsal_model.specs.Moves.{Move}
use Rattle.rehearsal_model.specs.Simulations.Action.{Does}
use Rattle.rehearsal_model.specs.Simulations.{Simulation, outcome_at, action_of, simulation_after}
use Rattle.rehearsal_model.specs.Telling.{outcome_said, line_said, unavailable}
use Rattle.rehearsal_lines.proofs.ResultLemmas.{reported, seen_as}
use Rattle.psched_rehearse.proofs.LineLemmas.{booking_done, booking_said}
use Rattle.psched_rehearse.proofs.line.run_asked.Goals as goal

pub returns-in-Book-clause-report : goal.returns-in-Book-clause-report
returns-in-Book-clause-report c = λ comes hosts.
    let b : Simulation = c.args.now.now in
    let w = c.in-Book in
    let l = c.args.event.now in
    let asks : c.booking-input.result ≡ input.Book w.class w.priority w.start w.length = search rules in
    reported c.book.result c.book.new.report c.args.report.now c.args.line (outcome_said (outcome_at b w.host w.at c.booking-input.result) unavailable booking_text) (line_said comes hosts b l)
    (booking_said comes hosts b l w.at w.host w.class w.priority w.start w.length w.is c.booking-input.result asks) c.book.ensures.report

pub returns-in-Book-clause-simulation : goal.returns-in-Book-clause-simulation
returns-in-Book-clause-simulation c = λ comes hosts.
    let b : Simulation = c.args.now.now in
    let w = c.in-Book in
    let l = c.args.event.now in
    let asks : c.booking-input.result ≡ input.Book w.class w.priority w.start w.length = search rules in
    seen_as c.book.result c.book.new.now (simulation_after hosts b (Does (Move.Asks w.host w.at c.booking-input.result))) (simulation_after hosts b (action_of comes b l))
    (booking_done comes hosts b l w.at w.host w.class w.priority w.start w.length w.is c.booking-input.result asks) (c.book.ensures.simulation hosts)
