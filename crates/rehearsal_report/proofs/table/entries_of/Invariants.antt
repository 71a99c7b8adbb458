use Rattle.std.proofs.Common.{◌≡◌, ◌++◌, All, map}
use Rattle.run_states.specs.Life.{settled_rows, HasMoments}
use Rattle.rehearsal_report.specs.Table.{entry_of}
use Rattle.rehearsal_report.proofs.table.entries_of.Given as goal

-- the entries so far, and those of the rows that are left
abbrev pub invariant-loop-row : goal.invariant-loop-row
invariant-loop-row l =
    All HasMoments l.row-iterator × (map (entry_of l.moment) (settled_rows l.moment l.fn.rows) ≡ l.entries.items ++ map (entry_of l.moment) (settled_rows l.moment l.row-iterator))
