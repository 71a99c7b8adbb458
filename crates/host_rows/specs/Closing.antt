-- Closing rows by their reservations, one after another.
use Rattle.std.specs.Prelude.{List, [], ◌∷◌, if◌then◌else◌, ℕ}
use Rattle.ps_time.specs.Span.{Span}
use Rattle.ps_time.specs.declared.class.Class.{Class}
use Rattle.ps_time.specs.declared.key.RunKey.{RunKey}
use Rattle.run_states.specs.declared.row.RunRow.{RunRow}
use Rattle.run_states.specs.declared.why.Why.TheVariants.{Preempted}
use Rattle.run_states.specs.Life.{close_row}
use Rattle.run_states.specs.Rows.{change_row}
use Rattle.host_timeline.specs.declared.booking.Booking.{Booking}
use Rattle.host_timeline.specs.Booking.{conflicts_with}

-- the rows, those of the reservations in conflict with a run of this class and interval closed at m in favour of the run that has the key
abbrev pub closed_each : ℕ → RunKey → Class → Span → List Booking → List RunRow → List RunRow
closed_each m key class s [] rows = rows
closed_each m key class s (b ∷ bs) rows =
    closed_each m key class s bs (if conflicts_with class s b then change_row (close_row (record { moment = m; why = Preempted key })) rows b.key else rows)

-- the rows, those of the keys closed at m in favour of the run that has the key
abbrev pub closed_keys : ℕ → RunKey → List RunKey → List RunRow → List RunRow
closed_keys m key [] rows = rows
closed_keys m key (k ∷ ks) rows = closed_keys m key ks (change_row (close_row (record { moment = m; why = Preempted key })) rows k)
