use Rattle.std.specs.Prelude.{◌↔◌}
use Rattle.std.proofs.Common.{All, drop}
use Rattle.host_model.specs.LawfulRow.{IsHostRow}
use Rattle.book_check.proofs.host_row.are_host_rows.Given as goal

-- what is left decides
abbrev pub invariant-loop-row : goal.invariant-loop-row
invariant-loop-row l = All (IsHostRow l.number l.tasks l.moment) (drop l.row-index l.rows) ↔ All (IsHostRow l.number l.tasks l.moment) l.rows
