-- Which of some tasks a turn asks about.
use Rattle.std.specs.Prelude.{List, filter, map, ℕ}
use Rattle.run_states.specs.declared.row.RunRow.{RunRow}
use Rattle.host_model.specs.declared.task_row.TaskRow.{TaskRow}
use Rattle.live_law.specs.Waking.{is_awake}

-- the serials of those of these tasks that are awake at m, where these rows stood before the turn
abbrev pub awake_among : ℕ → List RunRow → ℕ → List TaskRow → List ℕ
awake_among self rows m tasks = map (λ t. t.serial) (filter (is_awake self rows m) tasks)
