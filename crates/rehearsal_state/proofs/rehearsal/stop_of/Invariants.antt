use Rattle.std.proofs.Common.{◌≡◌, drop}
use Rattle.rehearsal_model.specs.Seen.{stop_in}
use Rattle.rehearsal_state.proofs.rehearsal.stop_of.Given as goal

-- what is left decides
abbrev pub invariant-loop-armed : goal.invariant-loop-armed
invariant-loop-armed l = stop_in l.place (drop l.armed-index l.stops) ≡ stop_in l.place l.stops
