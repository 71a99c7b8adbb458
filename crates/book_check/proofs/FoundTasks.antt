-- The archives of the task of a run.
use Rattle.std.specs.Prelude.{◌==◌}
use Rattle.std.proofs.Common.{◌≡◌, ℕ, Bool, true, false, cond, List, [], ◌∷◌, All, Some, subst}
use Rattle.std.proofs.lemmas.List.Elements.{All-head, All-tail, All-weaker}
use Rattle.archive_retry.specs.Bounds.{IsPolicy}
use Rattle.task_spec.specs.Bounds.{IsArchive}
use Rattle.task_spec.specs.declared.task.Archive.{Archive}
use Rattle.host_model.specs.Book.{find_task}
use Rattle.host_model.specs.declared.task_row.TaskRow.{TaskRow}
use Rattle.book_check.specs.Known.{IsReadTask}

found_read : (tasks : List TaskRow) (serial : ℕ) (t : TaskRow) → All IsReadTask tasks → find_task tasks serial ≡ Some t → IsReadTask t
found_read [] serial t all e = absurd cc
found_read (x ∷ xs) serial t all e = by (x.serial == serial) (found_read xs serial t (All-tail IsReadTask x xs all)) e
  where
    by : (b : Bool) → (find_task xs serial ≡ Some t → IsReadTask t) → cond b (Some x) (find_task xs serial) ≡ Some t → IsReadTask t
    by true later e = let is : x ≡ t = cc in subst IsReadTask is (All-head IsReadTask x xs all)
    by false later e = later e

pub policies : (tasks : List TaskRow) (serial : ℕ) (t : TaskRow) → All IsReadTask tasks → find_task tasks serial ≡ Some t → All (λ (a : Archive). IsPolicy a.policy) t.task.archives
policies tasks serial t all e = All-weaker IsArchive (λ (a : Archive). IsPolicy a.policy) (λ a is. is.policy) t.task.archives (found_read tasks serial t all e).rest.archives
