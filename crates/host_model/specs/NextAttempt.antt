-- The next attempt of a task, and the question with which the lead begins it. The entry is `ask`, the last one here. Its
-- steps, in their order:
-- 1. `full_denial`, of `Fits`: a book that is full gets no row;
-- 2. `next_attempt`: by the newest row of the task (`attempt_by`), a later number (`fresh_attempt`), the same number once
--    more (`after_failure`), or none yet (`attempt_after`); its window is `asked_window`;
-- 3. `asked_change`: the question of the attempt.
use Rattle.std.specs.Prelude.{◌&&◌, ◌+◌, Bool, List, None, Option, Some, if◌then◌else◌, is_some, max, min, nat_le, nat_lt, option_and_then, option_map, ℕ}
use Rattle.ps_time.specs.Span.{Range}
use Rattle.ps_time.specs.declared.key.RunKey.{RunKey}
use Rattle.ps_time.specs.Numbers.{horizon, most_attempts, plan_lead, retry_wait}
use Rattle.schedule_rule.specs.Rule.{Schedule, next_of, window_of, window_reaches}
use Rattle.plugin_core.specs.Participants.{participants}
use Rattle.run_states.specs.declared.row.RunRow.{RunRow}
use Rattle.run_states.specs.declared.why.Closing.{Closing}
use Rattle.run_states.specs.TaskRows.{newest_row}
use Rattle.run_states.specs.ResultBytes.{result_bytes}
use Rattle.host_model.specs.Book.{Book}
use Rattle.host_model.specs.Fits.{full_denial}
use Rattle.host_model.specs.declared.change.Change.{Change}
use Rattle.host_model.specs.declared.change.Change.TheVariants.{Asked}
use Rattle.host_model.specs.declared.config.Config.{Config}
use Rattle.host_model.specs.declared.lead.Attempt.{Attempt}
use Rattle.host_model.specs.declared.task_row.TaskRow.{TaskRow}

-- the part of a window that is asked about at m
abbrev pub asked_window : ℕ → Range → Range
asked_window m w = record { first = max w.first (m + plan_lead); last = min w.last (m + horizon) }

-- an attempt is made once its window begins within the horizon
abbrev pub attempt_at : ℕ → ℕ → ℕ → Option Range → Option Attempt
attempt_at m number attempt None = None
attempt_at m number attempt (Some w) =
    if nat_le w.first (m + horizon) then Some (record { number = number; attempt = attempt; window = asked_window m w }) else None

-- the attempt 0 of the least number, from this one on, whose window reaches the moment 5 s after m
abbrev pub fresh_attempt : ℕ → Schedule → ℕ → Option Attempt
fresh_attempt m rule from = option_and_then (λ number. attempt_at m number 0 (window_of rule number)) (next_of rule from (m + plan_lead))

-- the same number may be tried again: attempts begin with 0
abbrev pub is_repeatable : ℕ → Schedule → RunKey → Bool
is_repeatable m rule k = nat_lt (k.attempt + 1) most_attempts && window_reaches (window_of rule k.number) (m + plan_lead)

-- the next attempt of the same number, 30 s after the closing or later
abbrev pub repeated : ℕ → Schedule → RunKey → Closing → Option Attempt
repeated m rule k c = if nat_le (c.moment + retry_wait) m then attempt_at m k.number (k.attempt + 1) (window_of rule k.number) else None

-- after a row that was closed without a confirmation
abbrev pub after_failure : ℕ → Schedule → RunKey → Closing → Option Attempt
after_failure m rule k c = if is_repeatable m rule k then repeated m rule k c else fresh_attempt m rule (k.number + 1)

-- after a row: none while it is neither confirmed nor closed
abbrev pub attempt_after : ℕ → Schedule → RunKey → Option ℕ → Option Closing → Option Attempt
attempt_after m rule k (Some confirmed) closed = fresh_attempt m rule (k.number + 1)
attempt_after m rule k None (Some c) = after_failure m rule k c
attempt_after m rule k None None = None

-- after the newest row, if there is one
abbrev pub attempt_by : ℕ → Schedule → Option RunRow → Option Attempt
attempt_by m rule None = fresh_attempt m rule 0
attempt_by m rule (Some r) = attempt_after m rule r.key r.confirmed r.closed

-- the next attempt at m of a task of the host, if there is one
abbrev pub next_attempt : ℕ → List RunRow → ℕ → TaskRow → Option Attempt
next_attempt self rows m t = if is_some t.closed then None else attempt_by m t.task.rule (newest_row self t.serial rows)

-- ---- its question
abbrev pub attempt_key : ℕ → ℕ → Attempt → RunKey
attempt_key self serial a = record { lead = self; task = serial; number = a.number; attempt = a.attempt }

-- the question of an attempt
abbrev pub asked_change : Config → TaskRow → Attempt → Change
asked_change c t a = Asked (record { key = attempt_key c.number t.serial a; test = t.task.test; priority = t.task.priority; window = a.window }) (participants t.task.test c.name) t.asker

-- a book that isn't full gets its row
abbrev pub ask : Config → ℕ → Book → TaskRow → Option Change
ask c m b t = if is_some (full_denial b.rows (result_bytes b.rows)) then None else option_map (asked_change c t) (next_attempt c.number b.rows m t)
