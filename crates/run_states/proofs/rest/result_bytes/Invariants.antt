use Rattle.std.proofs.Common.{◌≡◌, ◌≤◌, ◌+◌, drop, map, min}
use Rattle.std.specs.Prelude.{sum}
use Rattle.run_states.specs.ResultBytes.{row_bytes}
use Rattle.run_states.proofs.rest.result_bytes.Given as goal

-- what is counted and what is left come to the same, up to the greatest number
abbrev pub invariant-loop-row : goal.invariant-loop-row
invariant-loop-row l = record {
  counted : min (l.total + sum (map row_bytes (drop l.row-index l.rows))) 18446744073709551615 ≡ min (sum (map row_bytes l.rows)) 18446744073709551615;
  bound : l.total ≤ 18446744073709551615;
}
