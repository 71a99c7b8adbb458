use Rattle.std.proofs.Common.{◌≡◌, ◌≤◌, ◌*◌, ◌++◌, All, string_bytes}
use Rattle.std.specs.List.{flat_map}
use Rattle.ps_time.specs.Numbers.{greatest_moment}
use Rattle.result_table.specs.Report.{day_line}
use Rattle.result_table.proofs.report.Tally.add_days.Given as goal

-- what is left is still to be written
abbrev pub invariant-loop-day : goal.invariant-loop-day
invariant-loop-day l = record {
  text : string_bytes l.initial.text ++ flat_map day_line l.initial.day-iterator ≡ string_bytes l.text ++ flat_map day_line l.day-iterator;
  days : All (λ e. e.0 * 86_400 ≤ greatest_moment) l.day-iterator;
}
