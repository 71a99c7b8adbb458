-- When a task wakes: before that moment it has no next attempt, and only its own changes and those of its newest row move it.
use Rattle.std.specs.Prelude.{◌+◌, ◌-◌, Bool, List, None, Option, Some, false, filter, if◌then◌else◌, is_some, map, nat_le, option_and_then, option_map, ℕ}
use Rattle.ps_time.specs.Numbers.{horizon}
use Rattle.ps_time.specs.declared.key.RunKey.{RunKey}
use Rattle.schedule_rule.specs.Rule.{Schedule, window_of}
use Rattle.run_states.specs.TaskRows.{newest_row}
use Rattle.run_states.specs.declared.row.RunRow.{RunRow}
use Rattle.host_model.specs.Book.{Book, find_task}
use Rattle.host_model.specs.Draft.{Draft, make_each}
use Rattle.host_model.specs.Ending.{end_run}
use Rattle.host_model.specs.Merging.{merge_run}
use Rattle.host_model.specs.NextAttempt.{ask}
use Rattle.host_model.specs.Plan.{plan_run}
use Rattle.host_model.specs.Starting.{start_run}
use Rattle.host_model.specs.declared.config.Config.{Config}
use Rattle.host_model.specs.declared.task_row.TaskRow.{TaskRow}
use Rattle.live_law.specs.Groups.{make_keys}

-- a day before the first start of this number, if there is one
abbrev pub wake_from : Schedule → ℕ → Option ℕ
wake_from rule number = option_map (λ w. w.first - horizon) (window_of rule number)

-- behind a row with this key: at any moment while it isn't confirmed
abbrev pub wake_after : Schedule → RunKey → Option ℕ → Option ℕ
wake_after rule k None = Some 0
wake_after rule k (Some confirmed) = wake_from rule (k.number + 1)

-- behind the newest row, if there is one
abbrev pub wake_by : Schedule → Option RunRow → Option ℕ
wake_by rule None = wake_from rule 0
wake_by rule (Some r) = wake_after rule r.key r.confirmed

-- the moment at which the task wakes, if it ever does
abbrev pub wake_of : TaskRow → Option RunRow → Option ℕ
wake_of t newest = if is_some t.closed then None else wake_by t.task.rule newest

-- the same among these rows of the host
abbrev pub wake_in : ℕ → List RunRow → TaskRow → Option ℕ
wake_in self rows t = wake_of t (newest_row self t.serial rows)

-- a moment that may be there has come by m
abbrev pub has_come : ℕ → Option ℕ → Bool
has_come m None = false
has_come m (Some wake) = nat_le wake m

abbrev pub is_awake : ℕ → List RunRow → ℕ → TaskRow → Bool
is_awake self rows m t = has_come m (wake_in self rows t)

-- the serials of the tasks that are awake at m
abbrev pub awake_serials : ℕ → ℕ → Book → List ℕ
awake_serials self m b = map (λ t. t.serial) (filter (is_awake self b.rows m) b.tasks)

-- the questions about these tasks, by serial
abbrev pub make_asked : Config → ℕ → List ℕ → Draft → Draft
make_asked c m serials d = make_each (λ b serial. option_and_then (ask c m b) (find_task b.tasks serial)) m serials d

-- the groups of a turn before the purging, of which the last asks about these tasks alone
abbrev pub turned_awake : Config → ℕ → List RunKey → List ℕ → Draft → Draft
turned_awake c m live serials d = make_asked c m serials (make_keys (plan_run c m) m live (make_keys (start_run m) m live (make_keys (merge_run c m) m live (make_keys (end_run c m) m live d))))
