use Rattle.std.proofs.Common.{◌≡◌, ◌≤◌, take}
use Rattle.rehearsal_generate.specs.Summary.{count_named}
use Rattle.rehearsal_generate.proofs.summary.count_named.Given as goal

abbrev pub invariant-loop-state : goal.invariant-loop-state
invariant-loop-state l = record {
  few : l.count ≤ l.state-index;
  counted : l.count ≡ count_named l.name (take l.state-index l.states);
}
