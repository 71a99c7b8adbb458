use Rattle.std.proofs.Common.{◌≡◌, ◌++◌, drop, map}
use Rattle.run_states.specs.ResultBytes.{other_result}
use Rattle.host_turns.proofs.merging.add_others.Given as goal

-- the results so far, and those of what is left
abbrev pub invariant-loop-other : goal.invariant-loop-other
invariant-loop-other l = l.initial.results ++ map other_result l.others ≡ l.results ++ map other_result (drop l.other-index l.others)
