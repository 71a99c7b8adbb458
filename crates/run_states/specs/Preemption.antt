-- Which booked rows conflict with a run, which of them it may preempt, and how they give way where it is accepted.
use Rattle.std.specs.Ordering.{int_cmp, is_lt}
use Rattle.std.specs.Prelude.{◌&&◌, ◌+◌, Bool, List, None, Option, Some, false, filter, find, is_some, nat_lt, not, unwrap_or, ℕ, ℤ}
use Rattle.ps_time.specs.Numbers.{on_deck}
use Rattle.ps_time.specs.Span.{Span, span_of}
use Rattle.ps_time.specs.declared.class.Class.{Class}
use Rattle.ps_time.specs.declared.key.RunKey.{RunKey}
use Rattle.plugin_core.specs.TestSpec.{test_class, test_length}
use Rattle.run_states.specs.Conflict.{in_conflict, preempted_row}
use Rattle.run_states.specs.declared.row.RunRow.{RunRow}

-- a reservation starts after m
abbrev pub starts_after : ℕ → Option Span → Bool
starts_after m None = false
starts_after m (Some s) = nat_lt m s.start

-- a run of this priority may preempt the row at m: its priority is lower, it isn't started, and it isn't on deck
abbrev pub yields : ℤ → ℕ → RunRow → Bool
yields priority m r = is_lt (int_cmp r.priority priority) && (not (is_some r.started) && starts_after (m + on_deck) r.interval)

-- the booked rows in conflict with the run of this key, class and interval
abbrev pub conflicts : RunKey → Class → Span → List RunRow → List RunRow
conflicts key class interval rows = filter (in_conflict key class interval) rows

-- the first of them, and so of the least key, that may not be preempted at m
abbrev pub firm_conflict : RunKey → Class → Span → ℤ → ℕ → List RunRow → Option RunRow
firm_conflict key class interval priority m rows = find (λ r. not (yields priority m r)) (conflicts key class interval rows)

-- ---- what is accepted now
pub record Incoming : Type 0 where
  pub key : RunKey
  pub class : Class
  pub interval : Span

-- what the run of a row reserves from this start on
abbrev pub planned_span : ℕ → RunRow → Span
planned_span start r = span_of start (test_length r.test)

-- the run of a row that is planned; it has no interval yet, and would keep one that it had
abbrev pub planned_run : ℕ → RunRow → Incoming
planned_run start r = record { key = r.key; class = test_class r.test; interval = unwrap_or r.interval (planned_span start r) }

-- a booked row in conflict with it is closed at m as preempted; its own row never is
abbrev pub give_way : ℕ → Option Incoming → RunRow → RunRow
give_way m None r = r
give_way m (Some i) r = preempted_row m i.key i.class i.interval r
