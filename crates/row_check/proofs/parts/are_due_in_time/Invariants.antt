use Rattle.std.specs.Prelude.{◌↔◌}
use Rattle.std.proofs.Common.{All, drop}
use Rattle.run_states.specs.LawfulRow.{IsDueInTime}
use Rattle.row_check.proofs.parts.are_due_in_time.Given as goal

-- what is left decides
abbrev pub invariant-loop-state : goal.invariant-loop-state
invariant-loop-state l = All IsDueInTime (drop l.state-index l.states) ↔ All IsDueInTime l.states
