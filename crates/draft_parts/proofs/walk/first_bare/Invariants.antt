use Rattle.std.specs.Prelude.{find}
use Rattle.std.proofs.Common.{◌≡◌, not}
use Rattle.draft_parts.specs.Overlay.{hides}
use Rattle.draft_parts.proofs.walk.first_bare.Given as goal

-- what is left decides
abbrev pub invariant-loop-row : goal.invariant-loop-row
invariant-loop-row l = find (λ r. not (hides l.touched.list l.gone r.key)) l.fn.rows ≡ find (λ r. not (hides l.touched.list l.gone r.key)) l.row-iterator
