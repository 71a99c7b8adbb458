-- The archives of a run of a lawful book are few.
use Rattle.std.proofs.Common.{◌≡◌, ℕ, ◌≤◌, List, [], Option, Some, None, All, length, refl, arith}
use Rattle.std.proofs.lemmas.List.Elements.{recursion_from_All}
use Rattle.ps_time.specs.declared.key.RunKey.{RunKey}
use Rattle.task_spec.specs.declared.task.Archive.{Archive}
use Rattle.host_model.proofs.StepGrown.{task_of_all}
use Rattle.host_model.specs.Book.{find_task}
use Rattle.host_model.specs.Effect.{archives_of}
use Rattle.host_model.specs.Lawful.{IsLawfulTask}
use Rattle.host_model.specs.declared.task_row.TaskRow.{TaskRow}
use Rattle.host_book.specs.Ready.{most_archives}

pub few_archives : (m : ℕ) (tasks : List TaskRow) (k : RunKey) → All (IsLawfulTask m) tasks → length (archives_of tasks k) ≤ most_archives
few_archives m tasks k all = go (find_task tasks k.task) refl
  where
    go : (o : Option TaskRow) → find_task tasks k.task ≡ o → length (elim o as (λ o. List Archive) [ None ↦ [] | Some t ↦ t.task.archives ]) ≤ most_archives
    go None at = omega arith
    go (Some t) at = (task_of_all (IsLawfulTask m) k.task t tasks (recursion_from_All (IsLawfulTask m) tasks all) at).task.rest.few_archives
