use Rattle.std.proofs.Common.{◌∙◌, List, ap, ℕ}
use Rattle.rehearsal_model.specs.Moves.{Move.Retools}
use Rattle.rehearsal_model.specs.Simulations.{Action.Does, Simulation, simulation_after}
use Rattle.rehearsal_lines.proofs.ResultLemmas.{on_ok}
use Rattle.psched_rehearse.proofs.line.retool.Goals as goal

pub returns-clause-simulation : goal.returns-clause-simulation
returns-clause-simulation c = λ hosts.
    let b : Simulation = c.args.now.now in
    let place : ℕ = c.args.place in
    on_ok c.add_ok.result (c.in_ok-retool.ensures hosts ∙ ap (λ (tools : List (List ℕ)). simulation_after hosts b (Does (Retools place tools))) c.in_ok-tools.ensures)
