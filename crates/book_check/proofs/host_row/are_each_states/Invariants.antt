use Rattle.std.specs.Prelude.{◌↔◌}
use Rattle.std.proofs.Common.{drop}
use Rattle.book_check.specs.States.{AreEachStates}
use Rattle.book_check.proofs.host_row.are_each_states.Given as goal

-- what is left decides
abbrev pub invariant-loop-archive : goal.invariant-loop-archive
invariant-loop-archive l = AreEachStates (drop l.archive-index l.archives) l.left ↔ AreEachStates l.archives l.states
