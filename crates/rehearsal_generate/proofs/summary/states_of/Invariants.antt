use Rattle.std.proofs.Common.{◌≡◌, take}
use Rattle.std.specs.Prelude.{flat_map}
use Rattle.rehearsal_generate.specs.Summary.{stage_states}
use Rattle.rehearsal_generate.proofs.summary.states_of.Given as goal

-- those of the hosts so far
abbrev pub invariant-loop-held_host : goal.invariant-loop-held_host
invariant-loop-held_host l = l.states.items ≡ flat_map (λ h. stage_states l.moment h.state) (take l.held_host-index l.held_host-items)
