-- At which times of the calendar and the clock a run may be.
use Rattle.std.specs.Prelude.{ℕ, ◌-◌, Bool, true, ◌&&◌, ◌||◌, List, [], ◌∷◌, if◌then◌else◌}
use Rattle.std.specs.List.{list_any}
use Rattle.ps_time.specs.Span.{Span}
use Rattle.limit_rule.specs.declared.bounds.Bounds.{Bounds}
use Rattle.limit_rule.specs.declared.schedule.Schedule.{Schedule}
use Rattle.limit_rule.specs.Bounds.{lies}
use Rattle.limit_rule.specs.Civil.{civil_of}

abbrev pub in_one : List Bounds → ℕ → Bool
in_one ranges n = list_any (λ range. lies range n) ranges

-- the number lies in one of the ranges; without ranges any number will do
abbrev pub takes : List Bounds → ℕ → Bool
takes [] n = true
takes (range ∷ ranges) n = in_one (range ∷ ranges) n

-- what the calendar and the clock show at a second is taken by each list
abbrev pub shows : Schedule → ℕ → Bool
shows schedule second =
    takes schedule.month (civil_of second).month
    && (takes schedule.monthday (civil_of second).monthday
    && (takes schedule.weekday (civil_of second).weekday
    && (takes schedule.hour (civil_of second).hour
    && takes schedule.minute (civil_of second).minute)))

-- the first and the last second of the run are the schedule's, or one of the two where `overlap` is set
abbrev pub in_schedule : Schedule → Span → Bool
in_schedule schedule run =
    if schedule.overlap then shows schedule run.start || shows schedule (run.end - 1)
    else shows schedule run.start && shows schedule (run.end - 1)
