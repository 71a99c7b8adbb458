-- What changes do to a book. Each of its parts changes for itself; only a merging looks at the tasks.
--
-- Where to read of each change. Four tables have a line for every change: `MayFollow.CanApply` (what has to stand in the
-- book before it), `Effect.change_key` (the row that it is about), `Effect.effect` (what it does to that row) and
-- `RecordLength.fields_bytes` (its length in a record). What it has to bring, so that a lawful book stays lawful, is told
-- by `Brings` of `proofs/Brings`. Beside these (a name without a file's is one of this file):
-- Posted: made by `Post.posted`; the task comes in `tasks_after`.
-- TaskClosed: made by `Post.close_unless`; the task is closed by `close_task` in `tasks_after`.
-- Accepted: made by `Propose.decided_outcome` and `Booking.booking_outcome`; its row is `NewRow.accepted_row`, what gives
--   way to it is told by `Preemption.incoming`, its epoch is kept by `new_pair`, and `Granting.AcceptsGranted` says that
--   the limits permit it.
-- Asked: made by `NextAttempt.asked_change`; its row is `NewRow.asked_row`.
-- Planned: made by `Plan.unless_objected`; `Effect.effect` accepts its row, and confirms it where the lead is alone; what
--   gives way is told by `Preemption.incoming`, its epoch is kept by `new_pair`, and `Granting.AcceptsGranted` says that
--   the limits permit it.
-- Confirmed: made by `Confirm.confirm_changes` and `Booking.booking_outcome`; `Effect.effect` marks the row.
-- Closed: made by `Confirm.drop_changes`, `Post.cancel_run`, `Heard.changes_of_move`, and in `Plan` by `unless_objected`,
--   `change_of_plan` and `plan_asked`; `Effect.effect` closes the row.
-- Started: made by `Starting.start_run`; `Effect.effect` marks the row.
-- Ended: made by `Ending.ended_with`; `Effect.effect` keeps the result.
-- FreeHeard, AcceptHeard, Told, ResultHeard: made by `Heard.fact_of`; `Effect.effect` keeps what is known of the
--   participant, and confirms the row with the last acceptance.
-- MaterialHeard: made by `Collect.heard_material`; `Effect.effect` marks the row.
-- Merged: made by `Merging.merge_run`; `Effect.effect` keeps the text, and the archives of the task (`Effect.archives_of`)
--   are due from then on (`Effect.states_due`).
-- Tried: made by `Archives.tried_to`; `Effect.effect` keeps the archive's new state.
-- LimitsSet: made by `Epochs.set_limits` and `Epochs.first_limits`; the epoch comes in `epochs_after`.
-- Purged: made by `Purging.purge_run`; by `purged_key` the row goes in `without_row`, and its pair in `without_pair`.
use Rattle.std.specs.Prelude.{◌++◌, ◌==◌, ◌∷◌, List, None, Option, Some, [], if◌then◌else◌, is_some, map, ℕ}
use Rattle.ps_time.specs.Key.{key_cmp}
use Rattle.ps_time.specs.Sorted.{insert_key, without_key}
use Rattle.ps_time.specs.declared.key.RunKey.{RunKey}
use Rattle.limit_apply.specs.Limits.{LimitsConfig as Limits}
use Rattle.run_states.specs.Life.{first_there, settled_rows}
use Rattle.run_states.specs.Rows.{find_row, lift_row, put_row}
use Rattle.run_states.specs.declared.row.RunRow.{RunRow}
use Rattle.run_states.specs.Preemption.{give_way}
use Rattle.host_model.specs.Book.{Book, find_pair}
use Rattle.host_model.specs.Effect.{own_effect}
use Rattle.host_model.specs.NewRow.{new_row}
use Rattle.host_model.specs.Preemption.{incoming}
use Rattle.host_model.specs.declared.change.Change.{Change}
use Rattle.host_model.specs.declared.change.Change.TheVariants.{Posted, TaskClosed, Accepted, Planned, LimitsSet, Purged}
use Rattle.host_model.specs.declared.change.Changes.{Changes}
use Rattle.host_model.specs.declared.task_row.TaskRow.{TaskRow}

-- ---- the rows
-- a new row goes to its place, unless its key is there
abbrev pub put_new : Option RunRow → List RunRow → List RunRow
put_new None rows = rows
put_new (Some r) rows = if is_some (find_row rows r.key) then rows else put_row rows r

-- the key of the row that goes
abbrev pub purged_key : Change → Option RunKey
purged_key (Purged k) = Some k
purged_key _ = None

-- the rows without the one that goes
abbrev pub without_row : Option RunKey → List RunRow → List RunRow
without_row None rows = rows
without_row (Some k) rows = lift_row rows k

-- what gives way does so first, then the row of the change changes, a new one comes, and one that is purged goes
abbrev pub rows_after : ℕ → List TaskRow → Change → List RunRow → List RunRow
rows_after m tasks c rows =
    without_row (purged_key c) (put_new (new_row m c) (map (λ r. own_effect m tasks c (give_way m (incoming rows c) r)) rows))

-- ---- the pairs of keys and epochs: one comes with each run that is accepted
abbrev pub new_pair : Change → Option (RunKey × ℕ)
new_pair (Accepted p participants epoch) = Some (p.key, epoch)
new_pair (Planned k start tool epoch) = Some (k, epoch)
new_pair _ = None

-- a run that has a pair keeps it
abbrev pub put_pair : Option (RunKey × ℕ) → List (RunKey × ℕ) → List (RunKey × ℕ)
put_pair None pairs = pairs
put_pair (Some p) pairs = if is_some (find_pair pairs p.0) then pairs else insert_key key_cmp (λ q. q.0) pairs p

-- a run that goes takes its pair along
abbrev pub without_pair : Option RunKey → List (RunKey × ℕ) → List (RunKey × ℕ)
without_pair None pairs = pairs
without_pair (Some k) pairs = without_key key_cmp (λ q. q.0) pairs k

-- the pairs after a change
abbrev pub pairs_after : Change → List (RunKey × ℕ) → List (RunKey × ℕ)
pairs_after c pairs = without_pair (purged_key c) (put_pair (new_pair c) pairs)

-- ---- the tasks and the epochs: nothing of them goes
abbrev pub close_task : ℕ → ℕ → TaskRow → TaskRow
close_task m serial t = if t.serial == serial then record t { closed = first_there t.closed (Some m) } else t

-- a posted task is the last one; a closed one keeps the moment at which it was closed first
abbrev pub tasks_after : ℕ → Change → List TaskRow → List TaskRow
tasks_after m (Posted t) tasks = tasks ++ t ∷ []
tasks_after m (TaskClosed serial) tasks = map (close_task m serial) tasks
tasks_after m _ tasks = tasks

-- new limits are the last epoch
abbrev pub epochs_after : Change → List Limits → List Limits
epochs_after (LimitsSet l) epochs = epochs ++ l ∷ []
epochs_after _ epochs = epochs

-- ---- the book
-- a change of the book at m
abbrev pub apply : ℕ → Change → Book → Book
apply m c b = record {
  moment = b.moment;
  epochs = epochs_after c b.epochs;
  pairs = pairs_after c b.pairs;
  tasks = tasks_after m c b.tasks;
  rows = rows_after m b.tasks c b.rows;
}

-- changes in order
abbrev pub apply_all : ℕ → List Change → Book → Book
apply_all m [] b = b
apply_all m (c ∷ cs) b = apply_all m cs (apply m c b)

-- the book as it stands at m: each row that has lapsed by then is closed
abbrev pub settled : ℕ → Book → Book
settled m b = record b { moment = m; rows = settled_rows m b.rows }

-- the book after a record of changes: settled at their moment, and then changed in order
abbrev pub recorded : Book → Changes → Book
recorded b changes = apply_all changes.moment changes.list (settled changes.moment b)

-- the book after a step: with no change it stays as it is
abbrev pub book_after : Book → Changes → Book
book_after b changes = after changes.list
  where
    after : List Change → Book
    after [] = b
    after (c ∷ cs) = recorded b changes
