-- The tasks and the epochs of a lawful book are lawful after a change that suits them, and its rows as its tasks change.
use Rattle.std.specs.List.{range_with_len}
use Rattle.std.specs.Prelude.{◌==◌}
use Rattle.std.proofs.Common.{◌≡◌, ◌≤◌, ◌<◌, ◌+◌, ℕ, zero, suc, true, false, cond, List, [], ◌∷◌, ◌++◌, All, length, map, Option, Some, None, refl, ap, sym, ◌∙◌, arith, length-append}
use Rattle.std.proofs.lemmas.List.{length-map}
use Rattle.std.proofs.lemmas.List.Elements.{All-map, All-push, All-weaker}
use Rattle.ps_time.specs.Numbers.{most_tasks}
use Rattle.limit_apply.specs.Limits.{LimitsConfig as Limits}
use Rattle.limit_apply.specs.Read.{IsKept}
use Rattle.run_states.specs.Life.{first_there}
use Rattle.run_states.specs.LawfulRow.{IsUpTo}
use Rattle.host_model.specs.Apply.{close_task, epochs_after, tasks_after}
use Rattle.host_model.specs.Lawful.{IsLawfulTask}
use Rattle.host_model.specs.declared.change.Change.{Change}
use Rattle.host_model.specs.declared.change.Change.TheVariants.{Posted, TaskClosed, LimitsSet}
use Rattle.host_model.specs.declared.task_row.TaskRow.{TaskRow}
use Rattle.host_model.proofs.ChangesGrow.{closed_serial}

-- ---- epochs
-- limits that come are read again from their text
abbrev pub SuitsEpochs : Change → Type 0
SuitsEpochs (LimitsSet l) = IsKept l
SuitsEpochs c = Unit {0}

pub epochs_lawful : (c : Change) (epochs : List Limits) → SuitsEpochs c → All IsKept epochs → All IsKept (epochs_after c epochs)
epochs_lawful (LimitsSet l) epochs suits all = All-push IsKept epochs l all suits
epochs_lawful c epochs suits all = all

-- ---- tasks
-- a task that comes is lawful, has the next serial, and there is place for it
pub record IsNext (m : ℕ) (tasks : List TaskRow) (t : TaskRow) : Type 0 where
  pub lawful : IsLawfulTask m t
  pub serial : t.serial ≡ length tasks + 1
  pub room : length tasks < most_tasks

abbrev pub SuitsTasks : ℕ → List TaskRow → Change → Type 0
SuitsTasks m tasks (Posted t) = IsNext m tasks t
SuitsTasks m tasks c = Unit {0}

closed_upto : (m : ℕ) (o : Option ℕ) → IsUpTo m o → IsUpTo m (first_there o (Some m))
closed_upto m None up = omega arith
closed_upto m (Some x) up = up

closed_lawful : (m serial : ℕ) (t : TaskRow) → IsLawfulTask m t → IsLawfulTask m (close_task m serial t)
closed_lawful m serial t lawful = elim (t.serial == serial) as (λ b. IsLawfulTask m (cond b (record t { closed = first_there t.closed (Some m) }) t)) [
  | true ↦ record { task = lawful.task; posted = lawful.posted; closed = closed_upto m t.closed lawful.closed }
  | false ↦ lawful
]

pub tasks_lawful : (m : ℕ) (c : Change) (tasks : List TaskRow) → SuitsTasks m tasks c → All (IsLawfulTask m) tasks → All (IsLawfulTask m) (tasks_after m c tasks)
tasks_lawful m (Posted t) tasks suits all = All-push (IsLawfulTask m) tasks t all suits.lawful
tasks_lawful m (TaskClosed serial) tasks suits all =
    All-map (IsLawfulTask m) (close_task m serial) tasks (All-weaker (IsLawfulTask m) (λ t. IsLawfulTask m (close_task m serial t)) (λ t lawful. closed_lawful m serial t lawful) tasks all)
tasks_lawful m c tasks suits all = all

pub tasks_few : (m : ℕ) (c : Change) (tasks : List TaskRow) → SuitsTasks m tasks c → length tasks ≤ most_tasks → length (tasks_after m c tasks) ≤ most_tasks
tasks_few m (Posted t) tasks suits few = omega (arith, length-append tasks (t ∷ []), suits.room)
tasks_few m (TaskClosed serial) tasks suits few = omega (arith, length-map tasks (close_task m serial), few)
tasks_few m c tasks suits few = few

-- ---- serials
range_push : (a n : ℕ) → range_with_len a (suc n) ≡ range_with_len a n ++ (a + n) ∷ []
range_push a zero = ap (λ x. x ∷ []) (omega arith)
range_push a (suc n) = ap (λ xs. a ∷ xs) (range_push (a + 1) n ∙ ap (λ x. range_with_len (a + 1) n ++ x ∷ []) (omega arith))

serials_posted : (tasks : List TaskRow) (t : TaskRow) → map (λ t. t.serial) (tasks ++ t ∷ []) ≡ map (λ t. t.serial) tasks ++ t.serial ∷ []
serials_posted [] t = refl
serials_posted (x ∷ xs) t = ap (λ ss. x.serial ∷ ss) (serials_posted xs t)

serials_closed : (m serial : ℕ) (tasks : List TaskRow) → map (λ t. t.serial) (map (close_task m serial) tasks) ≡ map (λ t. t.serial) tasks
serials_closed m serial [] = refl
serials_closed m serial (t ∷ ts) = ap (λ s. s ∷ map (λ t. t.serial) (map (close_task m serial) ts)) (closed_serial m serial t) ∙ ap (λ ss. t.serial ∷ ss) (serials_closed m serial ts)

pub serials_lawful : (m : ℕ) (c : Change) (tasks : List TaskRow) → SuitsTasks m tasks c → map (λ t. t.serial) tasks ≡ range_with_len 1 (length tasks) →
    map (λ t. t.serial) (tasks_after m c tasks) ≡ range_with_len 1 (length (tasks_after m c tasks))
serials_lawful m (Posted t) tasks suits serials =
    let next : t.serial ≡ 1 + length tasks = omega (arith, suits.serial) in
    let more : suc (length tasks) ≡ length (tasks ++ t ∷ []) = omega (arith, length-append tasks (t ∷ [])) in
    serials_posted tasks t ∙ ap (λ ss. ss ++ t.serial ∷ []) serials ∙ ap (λ n. range_with_len 1 (length tasks) ++ n ∷ []) next ∙ sym (range_push 1 (length tasks)) ∙ ap (range_with_len 1) more
serials_lawful m (TaskClosed serial) tasks suits serials = serials_closed m serial tasks ∙ serials ∙ ap (range_with_len 1) (sym (length-map tasks (close_task m serial)))
serials_lawful m c tasks suits serials = serials
