use Rattle.std.proofs.Common.{◌≡◌, ◌++◌, take}
use Rattle.std.specs.Prelude.{flat_map, string_bytes}
use Rattle.rehearsal_generate.specs.Summary.{state_line}
use Rattle.rehearsal_generate.proofs.summary.add_state_counts.Given as goal

-- the lines so far are written
abbrev pub invariant-loop-state : goal.invariant-loop-state
invariant-loop-state l = string_bytes l.text ≡ string_bytes l.fn.text ++ flat_map (state_line l.states) (take l.state-index l.state-items)
