use Rattle.std.proofs.Common.{◌++◌, List, All, drop}
use Rattle.result_keeper.specs.Row.{AreRowsOf}
use Rattle.result_table.specs.Record.{HasMoments}
use Rattle.result_table.specs.declared.record.Record.{Record}
use Rattle.result_keeper.proofs.row.read_rows.Given as goal

-- what is left decides
abbrev pub invariant-loop-row : goal.invariant-loop-row
invariant-loop-row l = record {
  rows : (rest : List Record) → AreRowsOf (drop l.row-index l.rows) rest → AreRowsOf l.rows (l.records.items ++ rest);
  moments : All HasMoments l.records.items;
}
