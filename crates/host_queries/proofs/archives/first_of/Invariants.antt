use Rattle.std.specs.Prelude.{slice_get}
use Rattle.std.proofs.Common.{◌≡◌, drop}
use Rattle.host_model.specs.Archives.{due_from_index}
use Rattle.host_queries.proofs.archives.first_of.Given as goal

-- the first is of the archives that are left
abbrev pub invariant-loop-state : goal.invariant-loop-state
invariant-loop-state l = record {
  left : slice_get (due_from_index l.key l.moment 0 l.states) 0 ≡ slice_get (due_from_index l.key l.moment l.index (drop l.state-index l.states)) 0;
  index : l.index ≡ l.state-index;
}
