-- How a host starts its runs.
use Rattle.std.specs.List.{list_any}
use Rattle.std.specs.Prelude.{◌&&◌, ◌+◌, Bool, List, None, Option, Some, false, is_some, nat_le, not, ℕ}
use Rattle.ps_time.specs.Class.{conflicting_classes}
use Rattle.ps_time.specs.Span.{Span}
use Rattle.ps_time.specs.declared.class.Class.{Class}
use Rattle.ps_time.specs.Numbers.{grace}
use Rattle.plugin_core.specs.TestSpec.{test_class}
use Rattle.run_states.specs.Life.{is_active, is_booked}
use Rattle.run_states.specs.declared.row.RunRow.{RunRow}
use Rattle.host_model.specs.Book.{Book}
use Rattle.host_model.specs.Walk.{change_if}
use Rattle.host_model.specs.declared.change.Change.{Change}
use Rattle.host_model.specs.declared.change.Change.TheVariants.{Started}

-- at m its start has come, and is at most 15 s ago
abbrev pub may_start : ℕ → Option Span → Bool
may_start m None = false
may_start m (Some s) = nat_le s.start m && nat_le m (s.start + grace)

-- the class of an active run conflicts with this one
abbrev pub is_hindered : List RunRow → Class → Bool
is_hindered rows class = list_any (λ r. is_active r && conflicting_classes (test_class r.test) class) rows

-- a booked, confirmed run that isn't started starts in time, unless an active run hinders it
abbrev pub start_run : ℕ → Book → RunRow → Option Change
start_run m b r =
    change_if (is_booked r && (is_some r.confirmed && (not (is_some r.started) && (may_start m r.interval && not (is_hindered b.rows (test_class r.test)))))) (Started r.key)
