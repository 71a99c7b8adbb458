use Rattle.std.proofs.Common.{◌≡◌, drop}
use Rattle.draft_parts.specs.Overlay.{named}
use Rattle.draft_parts.proofs.overlay.is_named.Given as goal

-- what is left decides
abbrev pub invariant-loop-other : goal.invariant-loop-other
invariant-loop-other l = named l.key l.keys ≡ named l.key (drop l.other-index l.keys)
