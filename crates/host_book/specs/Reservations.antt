-- The reservations of rows as these settle and give way, one after another.
use Rattle.std.specs.Prelude.{ℕ, Bool, false, List, [], ◌∷◌, map, None, Option, Some, is_some, if◌then◌else◌}
use Rattle.ps_time.specs.Span.{Span, span_of}
use Rattle.ps_time.specs.declared.class.Class.{Class}
use Rattle.ps_time.specs.declared.key.RunKey.{RunKey}
use Rattle.plugin_core.specs.TestSpec.{test_class, test_length}
use Rattle.run_states.specs.declared.proposal.Proposal.{Proposal}
use Rattle.run_states.specs.declared.row.RunRow.{RunRow}
use Rattle.run_states.specs.declared.why.Why.TheVariants.{Preempted}
use Rattle.run_states.specs.Conflict.{blocks}
use Rattle.run_states.specs.Life.{close_row, lapse_of}
use Rattle.run_states.specs.Preemption.{planned_span}
use Rattle.run_states.specs.Rows.{find_row}
use Rattle.host_timeline.specs.declared.booking.Booking.{Booking}
use Rattle.host_timeline.specs.Booking.{firm_from_of}
use Rattle.host_timeline.specs.Timeline.{without_booking}

-- what a proposal reserves once it is accepted
abbrev pub reservation_of : Proposal → Booking
reservation_of p = record {
  key = p.key;
  class = test_class p.test;
  interval = span_of p.start (test_length p.test);
  priority = p.priority;
  firm_from = firm_from_of p.start false;
}

-- what the run of a row reserves once it is planned for this start
abbrev pub planned_reservation : ℕ → RunRow → Booking
planned_reservation start r = record {
  key = r.key;
  class = test_class r.test;
  interval = planned_span start r;
  priority = r.priority;
  firm_from = firm_from_of start false;
}

-- the row lapses by m
abbrev pub lapses : ℕ → RunRow → Bool
lapses m r = is_some (lapse_of m r)

abbrev pub lapses_at : ℕ → Option RunRow → Bool
lapses_at m None = false
lapses_at m (Some r) = lapses m r

-- the reservations without the one of the key, where its row lapses by m
abbrev pub without_lapsed : ℕ → List RunRow → RunKey → List Booking → List Booking
without_lapsed m rows k bs = if lapses_at m (find_row rows k) then without_booking bs k else bs

-- and without those of these keys
abbrev pub released : ℕ → List RunRow → List RunKey → List Booking → List Booking
released m rows [] bs = bs
released m rows (k ∷ ks) bs = released m rows ks (without_lapsed m rows k bs)

-- the row, closed at m in favour of the run that has the key, where it clashes with it
abbrev pub freed_row : ℕ → RunKey → Class → Span → RunRow → RunRow
freed_row m key class interval r = if blocks class interval r then close_row (record { moment = m; why = Preempted key }) r else r

abbrev pub freed_rows : ℕ → RunKey → Class → Span → List RunRow → List RunRow
freed_rows m key class interval rows = map (freed_row m key class interval) rows
