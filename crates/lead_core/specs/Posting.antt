-- Posting a task, read off limits and the number of tasks.
use Rattle.std.specs.Prelude.{◌+◌, List, None, if◌then◌else◌, nat_lt, ℕ}
use Rattle.ps_time.specs.Numbers.{most_tasks}
use Rattle.ps_time.specs.declared.asker.Asker.{Asker}
use Rattle.limit_apply.specs.Limits.{LimitsConfig as Limits, admits_of, ceiling_of}
use Rattle.task_spec.specs.declared.task.Task.{Task}
use Rattle.host_model.specs.Post.{clipped, if_admitted, if_known, posted, poster, unknown_host}
use Rattle.host_model.specs.Propose.{answered}
use Rattle.host_model.specs.declared.config.Config.{Config}
use Rattle.host_model.specs.declared.reply.Outcome.{Outcome}
use Rattle.host_model.specs.declared.reply.Reply.TheVariants.{TasksFull}
use Rattle.host_model.specs.declared.task_row.TaskRow.{TaskRow}

-- the row of a task that is posted at m, with this serial
abbrev pub row_at : Limits → ℕ → ℕ → Task → Asker → TaskRow
row_at l serial m task asker = record {
  serial = serial;
  task = record task { priority = clipped (ceiling_of l asker) task.priority };
  asker = asker;
  posted = m;
  closed = None;
}

-- as far as there is a place for one more
abbrev pub unless_full_at : Limits → ℕ → ℕ → Task → Asker → Outcome
unless_full_at l count m task asker = if nat_lt count most_tasks then posted (row_at l (count + 1) m task asker) else answered (TasksFull most_tasks)

-- only where the limits admit it
abbrev pub admitted_at : Limits → ℕ → ℕ → Task → Asker → Outcome
admitted_at l count m task asker = if_admitted (admits_of l asker task.test) (unless_full_at l count m task asker)

-- `post`, where these limits are in force and so many tasks stand
abbrev pub post_at : Config → Limits → ℕ → ℕ → Task → List ℕ → Outcome
post_at c l count m task requester = if_known (unknown_host c task.test) (admitted_at l count m task (poster c requester))
