-- What a walk over runs shows of each.
use Rattle.std.specs.Prelude.{List, Option, is_some, option_and_then, ℕ}
use Rattle.ps_time.specs.Key.{key_cmp}
use Rattle.ps_time.specs.Sorted.{IsAscending}
use Rattle.ps_time.specs.Span.{Span}
use Rattle.ps_time.specs.declared.key.RunKey.{RunKey}
use Rattle.run_states.specs.Rows.{find_row}
use Rattle.run_states.specs.declared.row.RunRow.{RunRow}
use Rattle.host_model.specs.Views.{line_of}
use Rattle.host_model.specs.declared.view.Line.{Line}
use Rattle.std.specs.Prelude.{None, Some, if◌then◌else◌}

-- the key of a row that has an interval
abbrev pub run_of : RunRow → Option RunKey
run_of r = if is_some r.interval then Some r.key else None

-- of the run of a key
abbrev pub run_at : List RunRow → RunKey → Option RunKey
run_at rows k = option_and_then run_of (find_row rows k)

-- the line of the run of a key, if that overlaps the interval
abbrev pub line_at : ℕ → Span → List RunRow → RunKey → Option Line
line_at m w rows k = option_and_then (λ r. line_of m w r r.interval) (find_row rows k)

-- the lines are of different runs, ascending
abbrev pub HaveKeysAscending : List Line → Type 0
HaveKeysAscending = IsAscending key_cmp (λ line. line.key)
