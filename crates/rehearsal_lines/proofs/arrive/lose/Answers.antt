use Rattle.std.proofs.Common.{◌≡◌, ◌∙◌, sym, true, ℕ}
use Rattle.rehearsal_model.specs.Moves.Move.{Lost}
use Rattle.rehearsal_model.specs.Simulations.Action.{Does, Hears}
use Rattle.rehearsal_model.specs.Simulations.{Simulation, flies, is_broken, message_position}
use Rattle.rehearsal_lines.proofs.ResultLemmas.{on_ok}
use Rattle.rehearsal_lines.proofs.SaidLemmas.{heard_so}
use Rattle.rehearsal_lines.proofs.arrive.lose.Goals as goal

-- an answer that a fault took the place of is lost
pub returns-then-is_broken-clause-simulation : goal.returns-then-is_broken-clause-simulation
returns-then-is_broken-clause-simulation c = λ hosts.
    let b : Simulation = c.args.now.now in
    let n : ℕ = c.args.number in
    let flying : flies b n ≡ true = sym c.flies.ensures ∙ c.if-not-flies.false in
    let broken : is_broken b n ≡ true = sym c.is_broken.ensures ∙ c.if-is_broken.true in
    on_ok c.add_said-then-is_broken.result (heard_so hosts b 0 n (Hears n) (Does (Lost (message_position b n))) flying broken c.hear.new.self (c.hear.ensures hosts))
