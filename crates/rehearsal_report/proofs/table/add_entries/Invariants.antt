use Rattle.std.proofs.Common.{◌≡◌, ◌++◌, take}
use Rattle.std.specs.Prelude.{flat_map}
use Rattle.rehearsal_report.specs.Table.{entry_line}
use Rattle.rehearsal_report.proofs.table.add_entries.Given as goal

-- the lines so far are written
abbrev pub invariant-loop-entry : goal.invariant-loop-entry
invariant-loop-entry l = l.report ≡ l.initial.report ++ flat_map (entry_line l.name) (take l.entry-index l.entries)
