use Rattle.std.proofs.Common.{◌≡◌, ◌==◌, not, drop, map}
use Rattle.std.specs.List.{list_any}
use Rattle.ps_ports.specs.Causes.{counted}
use Rattle.ps_doors.proofs.memory_porch.have_failed.Given as goal

-- what is left decides
abbrev pub invariant-loop-door : goal.invariant-loop-door
invariant-loop-door l =
    list_any (λ n. not (n == 0)) (map (λ d. counted d.faults) l.doors) ≡ list_any (λ n. not (n == 0)) (map (λ d. counted d.faults) (drop l.door-index l.doors))
