-- When a limit is true of a test and a run of it.
use Rattle.std.specs.Prelude.{ℕ, min, max, ◌&&◌, nat_le, nat_lt, Bool, true, false, List, Option, Some, None, bytes_eq, if◌then◌else◌}
use Rattle.std.specs.List.{list_any}
use Rattle.ps_time.specs.Span.{Span}
use Rattle.plugin_core.specs.Kind.{kind_text, test_kind}
use Rattle.plugin_core.specs.declared.kind.TestKind.{TestKind}
use Rattle.plugin_core.specs.declared.test_spec.TestSpec.{TestSpec}
use Rattle.plugin_core.specs.declared.test_spec.TestSpec.TheVariants.{Idle, Idleex, Idlebgm, Idlemany, Simplestream}
use Rattle.limit_ident.specs.Identifier.{turned}
use Rattle.limit_rule.specs.declared.bounds.Bounds.{Bounds}
use Rattle.limit_rule.specs.declared.schedule.Schedule.{Schedule}
use Rattle.limit_rule.specs.Bounds.{lies}
use Rattle.limit_rule.specs.Schedule.{in_schedule}
use Rattle.limit_rule.specs.declared.limit.Lengths.{Lengths}
use Rattle.limit_rule.specs.declared.limit.DateRange.{DateRange}
use Rattle.limit_rule.specs.declared.limit.Rule.{Rule}
use Rattle.limit_rule.specs.declared.limit.Rule.TheVariants.{PassFail, TestType, Test, RunDateRange, RunSchedule}
use Rattle.limit_rule.specs.declared.limit.Limit.{Limit}

-- ---- tests

-- the lengths that a test has
abbrev pub duration_in : TestSpec → Option ℕ
duration_in (Idle sleep) = Some sleep.duration
duration_in (Idleex sleep) = Some sleep.duration
duration_in (Idlebgm sleep interval) = Some sleep.duration
duration_in (Idlemany sleep hosts) = Some sleep.duration
duration_in (Simplestream dest material dawdle timeout) = None

abbrev pub interval_in : TestSpec → Option ℕ
interval_in (Idlebgm sleep interval) = Some interval
interval_in _ = None

abbrev pub dawdle_in : TestSpec → Option ℕ
dawdle_in (Simplestream dest material dawdle timeout) = Some dawdle
dawdle_in _ = None

abbrev pub timeout_in : TestSpec → Option ℕ
timeout_in (Simplestream dest material dawdle timeout) = Some timeout
timeout_in _ = None

-- without bounds any length or none will do, with them a length that the test doesn't have won't
abbrev pub kept : Option Bounds → Option ℕ → Bool
kept None len = true
kept (Some bounds) None = false
kept (Some bounds) (Some len) = lies bounds len

abbrev pub lengths_kept : Lengths → TestSpec → Bool
lengths_kept lengths test =
    kept lengths.duration (duration_in test)
    && (kept lengths.interval (interval_in test)
    && (kept lengths.dawdle (dawdle_in test)
    && kept lengths.timeout (timeout_in test)))

-- two kinds of tests are the same, as their names are
abbrev pub same_kind : TestKind → TestKind → Bool
same_kind a b = bytes_eq (kind_text a) (kind_text b)

abbrev pub is_listed : TestKind → List TestKind → Bool
is_listed kind kinds = list_any (λ other. same_kind other kind) kinds

-- ---- runs

-- the run lies within the range, or has a second in common with it where `overlap` is set
abbrev pub in_dates : DateRange → Span → Bool
in_dates range run =
    if range.overlap then nat_lt (max range.start run.start) (min range.end run.end)
    else nat_le range.start run.start && nat_le run.end range.end

abbrev pub in_range : DateRange → Option Span → Bool
in_range range None = false
in_range range (Some run) = in_dates range run

abbrev pub in_times : Schedule → Option Span → Bool
in_times schedule None = false
in_times schedule (Some run) = in_schedule schedule run

-- ---- limits

abbrev pub rule_holds : TestSpec → Option Span → Rule → Bool
rule_holds test run (PassFail pass) = pass
rule_holds test run (TestType types) = is_listed (test_kind test) types
rule_holds test run (Test kind lengths) = same_kind kind (test_kind test) && lengths_kept lengths test
rule_holds test run (RunDateRange range) = in_range range run
rule_holds test run (RunSchedule schedule) = in_times schedule run

abbrev pub is_run_rule : Rule → Bool
is_run_rule (RunDateRange range) = true
is_run_rule (RunSchedule schedule) = true
is_run_rule _ = false

abbrev pub limit_holds : TestSpec → Option Span → Limit → Bool
limit_holds test run l = turned l.invert (rule_holds test run l.rule)
