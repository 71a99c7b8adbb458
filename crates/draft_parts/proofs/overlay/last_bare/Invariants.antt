use Rattle.std.specs.List.{last_or}
use Rattle.std.proofs.Common.{◌≡◌, ◌≤◌, None, filter, length, not, take}
use Rattle.draft_parts.specs.Overlay.{hides}
use Rattle.draft_parts.proofs.overlay.last_bare.Given as goal

-- what is left decides
abbrev pub invariant-loop-end : goal.invariant-loop-end
invariant-loop-end l = record {
  within : l.end ≤ length l.rows;
  left : last_or None (filter (λ r. not (hides l.touched.list l.gone r.key)) l.rows) ≡ last_or None (filter (λ r. not (hides l.touched.list l.gone r.key)) (take l.end l.rows));
}

abbrev pub decreases-loop-end : goal.decreases-loop-end
decreases-loop-end l = l.end
