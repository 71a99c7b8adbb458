-- Rows stay lawful as the tasks change.
use Rattle.std.specs.Prelude.{◌==◌, find, IsSome}
use Rattle.std.proofs.Common.{◌≡◌, ◌+◌, ℕ, Bool, true, false, cond, List, [], ◌∷◌, ◌++◌, All, length, map, Option, Some, None, is_some, option_map, slice_get, refl, sym, ap, subst, ◌∙◌, arith}
use Rattle.std.proofs.lemmas.Bool.Decides.{nat_tests}
use Rattle.std.proofs.lemmas.List.Elements.{All-weaker}
use Rattle.archive_retry.specs.Bounds.{IsStateOf}
use Rattle.archive_retry.specs.declared.state.ArchiveState.{ArchiveState}
use Rattle.run_states.specs.LawfulRow.{HasArchives}
use Rattle.run_states.specs.Life.{first_there}
use Rattle.run_states.specs.declared.row.RunRow.{RunRow}
use Rattle.task_spec.specs.declared.task.Archive.{Archive}
use Rattle.host_model.specs.Apply.{close_task, tasks_after}
use Rattle.host_model.specs.Book.{find_task}
use Rattle.host_model.specs.Effect.{archives_of}
use Rattle.host_model.specs.LawfulRow.{HasLead, HasStates, IsHostRow}
use Rattle.host_model.specs.declared.change.Change.{Change}
use Rattle.host_model.specs.declared.change.Change.TheVariants.{Posted, TaskClosed}
use Rattle.host_model.specs.declared.task_row.TaskRow.{TaskRow}
use Rattle.host_model.proofs.ChangesGrow.{find_append, find_task-closed}
use Rattle.host_model.proofs.LawfulTasks.{SuitsTasks}

-- ---- a row whose task keeps its archives
module _ (self : ℕ) (tasks more : List TaskRow) (m : ℕ) (r : RunRow) (there : IsSome (find_task tasks r.key.task) → IsSome (find_task more r.key.task)) (same : r.key.lead ≡ self → archives_of more r.key ≡ archives_of tasks r.key) where
  lead_around : (o : Option ℕ) → HasLead self tasks r o → HasLead self more r o
  lead_around None has = has
  lead_around (Some asked) has = (has.0, there has.1)

  states_around : (o : Option (List ℕ)) → HasStates self (archives_of tasks r.key) r o → HasStates self (archives_of more r.key) r o
  states_around None has = tt
  states_around (Some text) has = (has.0, has.1 ∙ ap length (sym (same has.0)))

  -- a row that isn't merged has no state of an archive
  archives_around : (o : Option (List ℕ)) → HasStates self (archives_of tasks r.key) r o → HasArchives r o → ((i : ℕ) (a : Archive) (s : ArchiveState) → slice_get (archives_of tasks r.key) i ≡ Some a → slice_get r.archives i ≡ Some s → IsStateOf a.policy s) →
      (i : ℕ) (a : Archive) (s : ArchiveState) → slice_get (archives_of more r.key) i ≡ Some a → slice_get r.archives i ≡ Some s → IsStateOf a.policy s
  archives_around None has empty was i a s at e = let never : slice_get [] i ≡ Some s = subst (λ xs. slice_get xs i ≡ Some s) empty e in cc
  archives_around (Some text) has empty was i a s at e = was i a s (subst (λ xs. slice_get xs i ≡ Some a) (same has.0) at) e

  host_around : IsHostRow self tasks m r → IsHostRow self more m r
  host_around row = record { row = row.row; lead = lead_around r.asked row.lead; merged = states_around r.merged row.merged; archives = archives_around r.merged row.merged row.row.merged row.archives }

-- the archives of a run go by its task
archives_same : (tasks more : List TaskRow) (r : RunRow) → find_task more r.key.task ≡ find_task tasks r.key.task → archives_of more r.key ≡ archives_of tasks r.key
archives_same tasks more r e = rw e refl

-- ---- a task is posted: no row of this host is of it
find_append_none : {A : Type 0} (p : A → Bool) (xs : List A) (a : A) → p a ≡ false → find p (xs ++ a ∷ []) ≡ find p xs
find_append_none p [] a fails = rw fails refl
find_append_none p (x ∷ xs) a fails = ap (λ o. cond (p x) (Some x) o) (find_append_none p xs a fails)

posted_find : (self serial : ℕ) (tasks : List TaskRow) (t : TaskRow) (r : RunRow) → t.serial ≡ serial + 1 → (o : Option ℕ) → HasLead self tasks r o → r.key.lead ≡ self → find_task (tasks ++ t ∷ []) r.key.task ≡ find_task tasks r.key.task
posted_find self serial tasks t r next None has own =
    let first : find_task (tasks ++ t ∷ []) 0 ≡ find_task tasks 0 = find_append_none (λ u. u.serial == 0) tasks t (grind (arith, nat_tests, next)) in
    subst (λ n. find_task (tasks ++ t ∷ []) n ≡ find_task tasks n) (sym (has own).0) first
posted_find self serial tasks t r next (Some asked) has own = go (find_task tasks r.key.task) refl has.1
  where
    go : (o : Option TaskRow) → find_task tasks r.key.task ≡ o → IsSome o → find_task (tasks ++ t ∷ []) r.key.task ≡ o
    go None e none = cc
    go (Some u) e some = find_append (λ u. u.serial == r.key.task) tasks (t ∷ []) u e

still_there : (tasks : List TaskRow) (t : TaskRow) (serial : ℕ) → IsSome (find_task tasks serial) → IsSome (find_task (tasks ++ t ∷ []) serial)
still_there tasks t serial some = go (find_task tasks serial) refl some
  where
    go : (o : Option TaskRow) → find_task tasks serial ≡ o → IsSome o → IsSome (find_task (tasks ++ t ∷ []) serial)
    go None e none = cc
    go (Some u) e there = ap is_some (find_append (λ u. u.serial == serial) tasks (t ∷ []) u e)

-- ---- a task is closed: it stays, with its archives
closed_there : (m serial : ℕ) (o : Option TaskRow) → IsSome o → IsSome (option_map (close_task m serial) o)
closed_there m serial None none = none
closed_there m serial (Some t) some = refl

closed_task_same : (m serial : ℕ) (t : TaskRow) → (close_task m serial t).task ≡ t.task
closed_task_same m serial t = elim (t.serial == serial) as (λ b. (cond b (record t { closed = first_there t.closed (Some m) }) t).task ≡ t.task) [ true ↦ refl | false ↦ refl ]

closed_archives : (m serial : ℕ) (tasks : List TaskRow) (r : RunRow) → archives_of (map (close_task m serial) tasks) r.key ≡ archives_of tasks r.key
closed_archives m serial tasks r = go (find_task tasks r.key.task) refl
  where
    go : (o : Option TaskRow) → find_task tasks r.key.task ≡ o → archives_of (map (close_task m serial) tasks) r.key ≡ archives_of tasks r.key
    go None e = rw (find_task-closed m serial r.key.task tasks, e) refl
    go (Some t) e = rw (find_task-closed m serial r.key.task tasks, e) (ap (λ u. u.archives) (closed_task_same m serial t))

-- ---- every change
module _ (self m : ℕ) (tasks : List TaskRow) where
  row_around : (n : ℕ) (c : Change) → SuitsTasks n tasks c → (r : RunRow) → IsHostRow self tasks m r → IsHostRow self (tasks_after n c tasks) m r
  row_around n (Posted t) suits r row =
      host_around self tasks (tasks ++ t ∷ []) m r (still_there tasks t r.key.task) (λ own. archives_same tasks (tasks ++ t ∷ []) r (posted_find self (length tasks) tasks t r suits.serial r.asked row.lead own)) row
  row_around n (TaskClosed serial) suits r row =
      host_around self tasks (map (close_task n serial) tasks) m r (λ some. subst IsSome (sym (find_task-closed n serial r.key.task tasks)) (closed_there n serial (find_task tasks r.key.task) some)) (λ own. closed_archives n serial tasks r) row
  row_around n c suits r row = row

  -- lawful rows are so among the tasks after a change
  pub rows_around : (n : ℕ) (c : Change) → SuitsTasks n tasks c → (rows : List RunRow) → All (IsHostRow self tasks m) rows → All (IsHostRow self (tasks_after n c tasks) m) rows
  rows_around n c suits rows all = All-weaker (IsHostRow self tasks m) (IsHostRow self (tasks_after n c tasks) m) (λ r row. row_around n c suits r row) rows all
