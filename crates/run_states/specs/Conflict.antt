-- When rows conflict with a run, and what becomes of them where it is accepted.
use Rattle.std.specs.Prelude.{ℕ, Bool, false, not, ◌&&◌, List, map, Option, Some, None, if◌then◌else◌}
use Rattle.std.specs.Ordering.{is_eq}
use Rattle.ps_time.specs.Class.{clash}
use Rattle.ps_time.specs.Key.{key_cmp}
use Rattle.ps_time.specs.Span.{Span}
use Rattle.ps_time.specs.declared.class.Class.{Class}
use Rattle.ps_time.specs.declared.key.RunKey.{RunKey}
use Rattle.plugin_core.specs.TestSpec.{test_class}
use Rattle.run_states.specs.declared.row.RunRow.{RunRow}
use Rattle.run_states.specs.declared.why.Why.TheVariants.{Preempted}
use Rattle.run_states.specs.Life.{is_booked, close_row}

-- a reservation, if there is one, of another class clashes with a run of this class and interval
abbrev pub clashes : Class → Span → Class → Option Span → Bool
clashes class interval other None = false
clashes class interval other (Some s) = clash class interval other s

-- the row is booked, and what it reserves clashes with a run of this class and interval, of whichever key
abbrev pub blocks : Class → Span → RunRow → Bool
blocks class interval r = is_booked r && clashes class interval (test_class r.test) r.interval

-- the row is that of another run, and in conflict with the run of this key, class and interval: no run conflicts with itself
abbrev pub in_conflict : RunKey → Class → Span → RunRow → Bool
in_conflict key class interval r = not (is_eq (key_cmp r.key key)) && blocks class interval r

-- the row, closed at m in favour of the run that has the key, where it is in conflict with it
abbrev pub preempted_row : ℕ → RunKey → Class → Span → RunRow → RunRow
preempted_row m key class interval r = if in_conflict key class interval r then close_row (record { moment = m; why = Preempted key }) r else r

abbrev pub preempted_rows : ℕ → RunKey → Class → Span → List RunRow → List RunRow
preempted_rows m key class interval rows = map (preempted_row m key class interval) rows
