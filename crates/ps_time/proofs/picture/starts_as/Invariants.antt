use Rattle.std.proofs.Common.{◌≡◌, drop}
use Rattle.ps_time.specs.Picture.{begins_as}
use Rattle.ps_time.proofs.picture.starts_as.Given as goal

-- what is left decides
abbrev pub invariant-loop-i : goal.invariant-loop-i
invariant-loop-i l = begins_as l.picture l.text ≡ begins_as (drop l.i l.picture) (drop l.i l.text)
