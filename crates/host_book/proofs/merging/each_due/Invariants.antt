use Rattle.std.proofs.Common.{◌≡◌, ◌+◌, ◌++◌, ◌≤◌, drop, length, vec_capacity}
use Rattle.host_model.specs.Effect.{states_due}
use Rattle.host_book.proofs.merging.each_due.Given as goal

-- what is left is still to come, and has places
abbrev pub invariant-loop-archive : goal.invariant-loop-archive
invariant-loop-archive l = record {
  states : states_due l.moment l.archives ≡ l.states.items ++ states_due l.moment (drop l._archive-index l.archives);
  places : length l.states.items + length (drop l._archive-index l.archives) ≤ vec_capacity l.states;
}
