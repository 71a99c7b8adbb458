use Rattle.std.proofs.Common.{◌≡◌, drop}
use Rattle.std.specs.List.{position_from}
use Rattle.std.specs.Str.{bytes_eq}
use Rattle.rehearsal_script.specs.Line.{place_of}
use Rattle.rehearsal_script.proofs.hosts.find_host.Given as goal

-- what is left decides
abbrev pub invariant-loop-place : goal.invariant-loop-place
invariant-loop-place l = place_of l.hosts l.name ≡ position_from (λ h. bytes_eq h.name l.name) l.place (drop l.place l.hosts)
