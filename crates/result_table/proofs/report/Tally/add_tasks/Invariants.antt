use Rattle.std.proofs.Common.{◌≡◌, ◌++◌, string_bytes}
use Rattle.std.specs.List.{flat_map}
use Rattle.result_table.specs.Report.{task_line}
use Rattle.result_table.proofs.report.Tally.add_tasks.Given as goal

-- what is left is still to be written
abbrev pub invariant-loop-key : goal.invariant-loop-key
invariant-loop-key l = string_bytes l.initial.text ++ flat_map task_line l.initial.key-iterator ≡ string_bytes l.text ++ flat_map task_line l.key-iterator
