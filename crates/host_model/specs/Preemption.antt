-- Which run a change accepts: all that is in conflict with it gives way.
use Rattle.std.specs.Prelude.{List, None, Option, Some, option_map}
use Rattle.ps_time.specs.Span.{span_of}
use Rattle.plugin_core.specs.TestSpec.{test_class, test_length}
use Rattle.run_states.specs.Rows.{find_row}
use Rattle.run_states.specs.declared.row.RunRow.{RunRow}
use Rattle.run_states.specs.Preemption.{Incoming, planned_run}
use Rattle.host_model.specs.declared.change.Change.{Change}
use Rattle.host_model.specs.declared.change.Change.TheVariants.{Accepted, Planned}

-- the run that a change of these rows accepts
abbrev pub incoming : List RunRow → Change → Option Incoming
incoming rows (Accepted p participants epoch) = Some (record { key = p.key; class = test_class p.test; interval = span_of p.start (test_length p.test) })
incoming rows (Planned k start tool epoch) = option_map (planned_run start) (find_row rows k)
incoming rows _ = None
