use Rattle.std.specs.Prelude.{◌↔◌}
use Rattle.std.proofs.Common.{All, drop}
use Rattle.run_states.specs.LawfulRow.{IsOther}
use Rattle.row_check.proofs.results.are_others.Given as goal

-- what is left decides
abbrev pub invariant-loop-other : goal.invariant-loop-other
invariant-loop-other l = All IsOther (drop l.other-index l.others) ↔ All IsOther l.others
