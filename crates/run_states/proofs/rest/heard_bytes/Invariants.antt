use Rattle.std.proofs.Common.{◌≡◌, ◌≤◌, ◌+◌, drop, map, min}
use Rattle.std.specs.Prelude.{sum}
use Rattle.run_states.specs.ResultBytes.{bytes_in, other_result}
use Rattle.run_states.proofs.rest.heard_bytes.Given as goal

-- what is counted and what is left come to the same, up to the greatest number
abbrev pub invariant-loop-other : goal.invariant-loop-other
invariant-loop-other l = record {
  counted : min (l.total + sum (map (λ o. bytes_in (other_result o)) (drop l.other-index l.others))) 18446744073709551615 ≡ min (sum (map (λ o. bytes_in (other_result o)) l.others)) 18446744073709551615;
  bound : l.total ≤ 18446744073709551615;
}
