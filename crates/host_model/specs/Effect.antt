-- What a change does to the row of its key. What is set once stays: `first_there` keeps it.
use Rattle.std.specs.Ordering.{is_eq}
use Rattle.std.specs.Prelude.{Bool, List, None, Option, Some, [], false, if◌then◌else◌, map, ℕ}
use Rattle.ps_time.specs.Key.{key_cmp}
use Rattle.ps_time.specs.declared.key.RunKey.{RunKey}
use Rattle.archive_retry.specs.Retry.{due_from}
use Rattle.archive_retry.specs.declared.state.ArchiveState.{ArchiveState}
use Rattle.run_states.specs.Life.{close_row, confirm_row, end_row, start_row}
use Rattle.run_states.specs.declared.row.RunRow.{RunRow}
use Rattle.run_states.specs.Effect.{accept_row, change_other, confirmed_alone, confirmed_complete, material_row, merge_row, tried_row, with_acceptance, with_free, with_result, with_told}
use Rattle.run_states.specs.Preemption.{planned_span}
use Rattle.task_spec.specs.declared.task.Archive.{Archive}
use Rattle.host_model.specs.Book.{find_task}
use Rattle.host_model.specs.declared.change.Change.{Change}
use Rattle.host_model.specs.declared.change.Change.TheVariants.{Posted, TaskClosed, Accepted, Asked, Planned, Confirmed, Closed, Started, Ended, FreeHeard, AcceptHeard, Told as told_there, MaterialHeard, ResultHeard, Merged, Tried, LimitsSet, Purged}
use Rattle.host_model.specs.declared.task_row.TaskRow.{TaskRow}

-- the archives of the task of a run that this host leads; a booking has no task, and runs of other leads are never merged
abbrev pub archives_of : List TaskRow → RunKey → List Archive
archives_of tasks k = of_task (find_task tasks k.task)
  where
    of_task : Option TaskRow → List Archive
    of_task None = []
    of_task (Some t) = t.task.archives

-- each of them is due from m on
abbrev pub states_due : ℕ → List Archive → List ArchiveState
states_due m archives = map (λ a. due_from m) archives

-- ---- the effect of each change at m, where these tasks stand
abbrev pub effect : ℕ → List TaskRow → Change → RunRow → RunRow
effect m tasks (Posted t) r = r
effect m tasks (TaskClosed serial) r = r
effect m tasks (Accepted p participants epoch) r = r
effect m tasks (Asked q participants asker) r = r
effect m tasks (Planned k start tool epoch) r = confirmed_alone m (accept_row m (planned_span start r) tool r)
effect m tasks (Confirmed k) r = confirm_row m r
effect m tasks (Closed k why) r = close_row (record { moment = m; why = why }) r
effect m tasks (Started k) r = start_row m r
effect m tasks (Ended k good body) r = end_row (record { moment = m; good = good; body = body }) r
effect m tasks (FreeHeard k place answer) r = change_other (with_free answer) place r
effect m tasks (AcceptHeard k place) r = confirmed_complete m (change_other with_acceptance place r)
effect m tasks (told_there k place told) r = change_other (with_told told) place r
effect m tasks (MaterialHeard k) r = material_row m r
effect m tasks (ResultHeard k place result) r = change_other (with_result result) place r
effect m tasks (Merged k body) r = merge_row (states_due m (archives_of tasks k)) body r
effect m tasks (Tried k index state) r = tried_row index state r
effect m tasks (LimitsSet l) r = r
effect m tasks (Purged k) r = r

-- the key of the row that a change is about
abbrev pub change_key : Change → Option RunKey
change_key (Posted t) = None
change_key (TaskClosed serial) = None
change_key (Accepted p participants epoch) = Some p.key
change_key (Asked q participants asker) = Some q.key
change_key (Planned k start tool epoch) = Some k
change_key (Confirmed k) = Some k
change_key (Closed k why) = Some k
change_key (Started k) = Some k
change_key (Ended k good body) = Some k
change_key (FreeHeard k place answer) = Some k
change_key (AcceptHeard k place) = Some k
change_key (told_there k place told) = Some k
change_key (MaterialHeard k) = Some k
change_key (ResultHeard k place result) = Some k
change_key (Merged k body) = Some k
change_key (Tried k index state) = Some k
change_key (LimitsSet l) = None
change_key (Purged k) = Some k

-- the key is the one of the change
abbrev pub has_key : RunKey → Option RunKey → Bool
has_key k None = false
has_key k (Some j) = is_eq (key_cmp k j)

-- only the row of its key changes
abbrev pub own_effect : ℕ → List TaskRow → Change → RunRow → RunRow
own_effect m tasks c r = if has_key r.key (change_key c) then effect m tasks c r else r
