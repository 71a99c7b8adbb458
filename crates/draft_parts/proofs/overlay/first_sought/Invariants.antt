use Rattle.std.specs.Prelude.{find}
use Rattle.std.proofs.Common.{◌≡◌}
use Rattle.draft_parts.specs.Overlay.{meets}
use Rattle.draft_parts.proofs.overlay.first_sought.Given as goal

-- what is left decides
abbrev pub invariant-loop-row : goal.invariant-loop-row
invariant-loop-row l = find (meets l.moment l.sought) l.fn.rows ≡ find (meets l.moment l.sought) l.row-iterator
