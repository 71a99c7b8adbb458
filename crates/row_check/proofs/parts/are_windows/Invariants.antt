use Rattle.std.specs.Prelude.{◌↔◌}
use Rattle.std.proofs.Common.{All, drop}
use Rattle.run_states.specs.LawfulRow.{IsWindow}
use Rattle.row_check.proofs.parts.are_windows.Given as goal

-- what is left decides
abbrev pub invariant-loop-window : goal.invariant-loop-window
invariant-loop-window l = All IsWindow (drop l.window-index l.windows) ↔ All IsWindow l.windows
