use Rattle.std.proofs.Common.{◌≡◌, ◌++◌, drop}
use Rattle.host_model.specs.Archives.{due_from_index}
use Rattle.host_queries.proofs.archives.add_each.Given as goal

-- what is due so far, and of the archives that are left
abbrev pub invariant-loop-state : goal.invariant-loop-state
invariant-loop-state l = record {
  left : l.initial.due ++ due_from_index l.key l.moment 0 l.states ≡ l.due ++ due_from_index l.key l.moment l.index (drop l.state-index l.states);
  index : l.index ≡ l.state-index;
}
