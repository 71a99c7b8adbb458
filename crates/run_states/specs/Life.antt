-- The life of a run's row: its steps, how it lapses, and its state at a moment.
use Rattle.std.specs.Prelude.{ℕ, ◌+◌, ◌≤◌, Bool, not, ◌&&◌, nat_le, nat_lt, min, List, map, Option, Some, None, is_some, IfSome, if◌then◌else◌}
use Rattle.ps_time.specs.Span.{Span}
use Rattle.ps_time.specs.Numbers.{greatest_moment, greatest_length, grace, hold, on_deck}
use Rattle.run_states.specs.declared.life.LifeStep.{LifeStep}
use Rattle.run_states.specs.declared.life.LifeStep.TheVariants.{Confirm, Start, End, Close}
use Rattle.run_states.specs.declared.row.Ending.{Ending}
use Rattle.run_states.specs.declared.row.RunRow.{RunRow}
use Rattle.run_states.specs.declared.state.State.{State}
use Rattle.run_states.specs.declared.state.State.TheVariants as state
use Rattle.run_states.specs.declared.why.Closing.{Closing}
use Rattle.run_states.specs.declared.why.Why.{Why}
use Rattle.run_states.specs.declared.why.Why.TheVariants.{Missed, Preempted, Nonstart, Canceled}
use Rattle.run_states.specs.declared.why.Cause.TheVariants.{Silent, HoldEnded}

-- what came first stays
abbrev pub first_there : {A : Type 0} → Option A → Option A → Option A
first_there (Some a) later = Some a
first_there None later = later

-- ---- what a row is ----
-- it was accepted here and isn't closed
abbrev pub is_booked : RunRow → Bool
is_booked r = is_some r.accepted && not (is_some r.closed)

-- it was started and hasn't ended
abbrev pub is_active : RunRow → Bool
is_active r = is_some r.started && not (is_some r.ended)

-- ---- the steps of its life: what is set stays ----
abbrev pub confirm_row : ℕ → RunRow → RunRow
confirm_row m r = record r { confirmed = first_there r.confirmed (Some m) }

abbrev pub start_row : ℕ → RunRow → RunRow
start_row m r = record r { started = first_there r.started (Some m) }

abbrev pub end_row : Ending → RunRow → RunRow
end_row e r = record r { ended = first_there r.ended (Some e) }

abbrev pub close_row : Closing → RunRow → RunRow
close_row c r = record r { closed = first_there r.closed (Some c) }

-- the row after a step at m, whether or not its life has such a step
abbrev pub marked_row : LifeStep → ℕ → RunRow → RunRow
marked_row Confirm m r = confirm_row m r
marked_row Start m r = start_row m r
marked_row (End good body) m r = end_row (record { moment = m; good = good; body = body }) r
marked_row (Close why) m r = close_row (record { moment = m; why = why }) r

-- its life has such a step
abbrev pub may_take : LifeStep → RunRow → Bool
may_take Confirm r = is_booked r
may_take Start r = not (is_some r.closed) && (is_some r.confirmed && not (is_some r.started))
may_take (End good body) r = is_active r
may_take (Close why) r = not (is_some r.closed) && not (is_some r.started)

-- the row after a step at m, where its life has one
abbrev pub advanced : LifeStep → ℕ → RunRow → Option RunRow
advanced step m r = if may_take step r then Some (marked_row step m r) else None

-- ---- how it lapses by m ----
-- asked and not accepted: a minute after the asking
abbrev pub lapse_asked : ℕ → Option ℕ → Option Closing
lapse_asked m None = None
lapse_asked m (Some asked) = if nat_le (asked + hold) m then Some (record { moment = asked + hold; why = Nonstart Silent }) else None

-- accepted and not confirmed: a minute after the accepting, or at the start where that is earlier
abbrev pub lapse_held : ℕ → ℕ → Option Span → Option Closing
lapse_held m accepted None = None
lapse_held m accepted (Some i) = let last = min (accepted + hold) i.start in if nat_le last m then Some (record { moment = last; why = Nonstart HoldEnded }) else None

-- confirmed and not started: more than the grace after the start
abbrev pub lapse_missed : ℕ → Option Span → Option Closing
lapse_missed m None = None
lapse_missed m (Some i) = if nat_lt (i.start + grace) m then Some (record { moment = i.start + (grace + 1); why = Missed }) else None

abbrev pub lapse_at : ℕ → RunRow → Option Closing → Option ℕ → Option ℕ → Option ℕ → Option Closing
lapse_at m r (Some c) accepted confirmed started = None
lapse_at m r None None confirmed started = lapse_asked m r.asked
lapse_at m r None (Some a) None started = lapse_held m a r.interval
lapse_at m r None (Some a) (Some c) None = lapse_missed m r.interval
lapse_at m r None (Some a) (Some c) (Some s) = None

abbrev pub lapse_of : ℕ → RunRow → Option Closing
lapse_of m r = lapse_at m r r.closed r.accepted r.confirmed r.started

abbrev pub closed_by : Option Closing → RunRow → RunRow
closed_by None r = r
closed_by (Some c) r = close_row c r

-- the row, closed where it has lapsed by m
abbrev pub settled_row : ℕ → RunRow → RunRow
settled_row m r = closed_by (lapse_of m r) r

abbrev pub settled_rows : ℕ → List RunRow → List RunRow
settled_rows m rows = map (settled_row m) rows

-- ---- its state at m: the first line that holds ----
abbrev pub closed_state : Why → State
closed_state Missed = state.Missed
closed_state (Preempted key) = state.Preempted
closed_state (Nonstart cause) = state.Nonstart
closed_state Canceled = state.Canceled

abbrev pub started_state : ℕ → Option Span → State
started_state m None = state.Overdue
started_state m (Some i) = if nat_lt m i.end then state.Running else if nat_lt m (i.end + grace) then state.Cleanup else state.Overdue

abbrev pub confirmed_state : ℕ → Option Span → State
confirmed_state m None = state.Pending
confirmed_state m (Some i) = if nat_le i.start (m + on_deck) then state.OnDeck else state.Pending

abbrev pub state_at : ℕ → Option Span → Option Closing → Option Ending → Option ℕ → Option ℕ → State
state_at m interval (Some c) ended started confirmed = closed_state c.why
state_at m interval None (Some e) started confirmed = if e.good then state.Finished else state.Failed
state_at m interval None None (Some s) confirmed = started_state m interval
state_at m interval None None None (Some c) = confirmed_state m interval
state_at m interval None None None None = state.Pending

abbrev pub state_of : RunRow → ℕ → State
state_of r m = state_at m r.interval r.closed r.ended r.started r.confirmed

-- ---- bounds ----
abbrev pub IsInTime : Span → Type 0
IsInTime i = (i.start ≤ greatest_moment) × (i.end ≤ greatest_moment + greatest_length)

-- the moments that its life counts from are within bounds
pub record HasMoments (row : RunRow) : Type 0 where
  pub asked : IfSome row.asked (λ m. m ≤ greatest_moment)
  pub accepted : IfSome row.accepted (λ m. m ≤ greatest_moment)
  pub interval : IfSome row.interval IsInTime
