-- Which rows are in conflict with a run, and which of these it may preempt: in words of what a row keeps.
use Rattle.std.specs.Prelude.{◌+◌, ◌<ℤ◌, ◌<◌, ◌≡◌, IsSome, IsTrue, None, Some, ℕ, ℤ}
use Rattle.ps_time.specs.Class.{conflicting_classes}
use Rattle.ps_time.specs.Numbers.{on_deck}
use Rattle.ps_time.specs.Span.{Span}
use Rattle.ps_time.specs.declared.class.Class.{Class}
use Rattle.plugin_core.specs.TestSpec.{test_class}
use Rattle.run_states.specs.declared.row.RunRow.{RunRow}

-- the row is booked and reserves this interval, in conflict with a run of this class that wants that one
-- The test is `blocks`, of `Conflict` in `run_states`: see `blocks_decided` of `proofs/RowTests`.
pub record Conflicts (class : Class) (wanted : Span) (r : RunRow) (i : Span) : Type 0 where
  pub accepted : IsSome r.accepted
  pub unclosed : r.closed ≡ None
  pub reserved : r.interval ≡ Some i
  -- one class is exclusive, and the other is exclusive or normal
  pub classes : IsTrue (conflicting_classes class (test_class r.test))
  -- some second lies in both
  pub before_end : wanted.start < i.end
  pub after_start : i.start < wanted.end

-- a run of this priority may preempt the row, which reserves this interval, at m
-- The test is `yields`, of `Preemption` in `run_states`: see `yields_decided` of `proofs/RowTests`.
pub record MayPreempt (priority : ℤ) (m : ℕ) (r : RunRow) (i : Span) : Type 0 where
  pub lower : r.priority <ℤ priority
  pub waiting : r.started ≡ None
  -- the start is more than ten seconds away
  pub not_on_deck : m + on_deck < i.start
