use Rattle.std.proofs.Common.{◌≡◌, ◌++◌}
use Rattle.run_states.specs.Preemption.{conflicts}
use Rattle.host_model.specs.Book.{keys_of_rows}
use Rattle.draft_parts.proofs.giving_way.keys_in_conflict.Given as goal

-- the keys so far, and those of what is left
abbrev pub invariant-loop-row : goal.invariant-loop-row
invariant-loop-row l = l.keys.items ++ keys_of_rows (conflicts l.run.key l.run.class l.run.interval l.row-iterator) ≡ keys_of_rows (conflicts l.run.key l.run.class l.run.interval l.fn.rows)
