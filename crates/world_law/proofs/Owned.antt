-- The tasks of a host were posted at it, and the first participant of what it leads is the host itself.
use Rattle.std.specs.List.{AllByRecursion}
use Rattle.std.specs.Prelude.{◌==◌, bytes_eq}
use Rattle.std.proofs.Common.{◌≡◌, ◌++◌, ℕ, Bool, true, false, cond, List, [], ◌∷◌, Option, Some, None, option_map, slice_get, refl, sym, ap, ◌∙◌, subst}
use Rattle.std.proofs.lemmas.Slice.Eq.{bytes_eq-Decides}
use Rattle.ps_time.specs.declared.class.Class.{Class}
use Rattle.ps_time.specs.declared.class.Class.TheVariants.{BackgroundMulti, Background, Normal, Exclusive}
use Rattle.plugin_core.specs.Participants.{participants}
use Rattle.plugin_core.specs.declared.test_spec.TestSpec.{TestSpec}
use Rattle.plugin_core.specs.declared.test_spec.TestSpec.TheVariants.{Idle, Idleex, Idlebgm, Idlemany, Simplestream}
use Rattle.run_states.specs.Life.{first_there}
use Rattle.task_spec.specs.ReadTask.{leads}
use Rattle.host_model.specs.Apply.{apply, close_task}
use Rattle.host_model.specs.Book.{Book, find_task}
use Rattle.host_model.specs.Booking.{booking_test}
use Rattle.host_model.specs.declared.change.Change.{Change}
use Rattle.host_model.specs.declared.change.Change.TheVariants.{Posted, TaskClosed}
use Rattle.host_model.specs.declared.input.Input.{Input}
use Rattle.host_model.specs.declared.task_row.TaskRow.{TaskRow}
use Rattle.host_model.proofs.ChangesGrow.{find_task-closed}
use Rattle.world_law.proofs.Allowed.{Allows, OwnTasks}

-- ---- the first participant
pub leads_first : (test : TestSpec) (name : List ℕ) → leads name test ≡ true → slice_get (participants test name) 0 ≡ Some name
leads_first (Idle sleep) name e = refl
leads_first (Idleex sleep) name e = refl
leads_first (Idlebgm sleep interval) name e = refl
leads_first (Idlemany sleep hosts) name e = go hosts e
  where
    go : (hosts : List (List ℕ)) → leads name (Idlemany sleep hosts) ≡ true → slice_get hosts 0 ≡ Some name
    go [] e = cc
    go (x ∷ xs) e = ap Some (lead x e)
      where
        lead : (x : List ℕ) → leads name (Idlemany sleep (x ∷ xs)) ≡ true → x ≡ name
        lead x e = (bytes_eq-Decides x name).0 e
leads_first (Simplestream dest material dawdle timeout) name e = go (bytes_eq dest name)
  where
    go : (b : Bool) → slice_get (cond b (name ∷ []) (name ∷ dest ∷ [])) 0 ≡ Some name
    go true = refl
    go false = refl

pub booked_first : (class : Class) (len : ℕ) (name : List ℕ) → slice_get (participants (booking_test name class len) name) 0 ≡ Some name
booked_first BackgroundMulti len name = refl
booked_first Background len name = refl
booked_first Normal len name = go (bytes_eq name name)
  where
    go : (b : Bool) → slice_get (cond b (name ∷ []) (name ∷ name ∷ [])) 0 ≡ Some name
    go true = refl
    go false = refl
booked_first Exclusive len name = refl

-- ---- tasks
-- what holds of all tasks holds of the one that is found
pub task_of_all : (P : TaskRow → Type 0) (serial : ℕ) (t : TaskRow) (tasks : List TaskRow) → AllByRecursion P tasks → find_task tasks serial ≡ Some t → P t
task_of_all P serial t [] all found = cc
task_of_all P serial t (x ∷ xs) all found = go (x.serial == serial) found (task_of_all P serial t xs all.1)
  where
    go : (b : Bool) → cond b (Some x) (find_task xs serial) ≡ Some t → (find_task xs serial ≡ Some t → P t) → P t
    go true e later = let is : x ≡ t = cc in subst P is all.0
    go false e later = later e

found_append : (tasks : List TaskRow) (n : TaskRow) (serial : ℕ) (t : TaskRow) (P : TaskRow → Type 0) → (find_task tasks serial ≡ Some t → P t) → P n → find_task (tasks ++ n ∷ []) serial ≡ Some t → P t
found_append [] n serial t P old new e = go (n.serial == serial) e
  where
    go : (b : Bool) → cond b (Some n) None ≡ Some t → P t
    go true e = let is : n ≡ t = cc in subst P is new
    go false e = cc
found_append (x ∷ xs) n serial t P old new e = go (x.serial == serial) old e (λ here f. found_append xs n serial t P here new f)
  where
    go : (b : Bool) → (cond b (Some x) (find_task xs serial) ≡ Some t → P t) → cond b (Some x) (find_task (xs ++ n ∷ []) serial) ≡ Some t → ((find_task xs serial ≡ Some t → P t) → find_task (xs ++ n ∷ []) serial ≡ Some t → P t) → P t
    go true here e later = here e
    go false here e later = later here e

module _ (names : ℕ → List ℕ) (self m : ℕ) (i : Input) where
  pub own_after : (ch : Change) (a : Book) → OwnTasks (names self) a.tasks → Allows names self m i a ch → OwnTasks (names self) (apply m ch a).tasks
  own_after (Posted n) a own allows serial t e = found_append a.tasks n serial t (λ x. x.asker.server ≡ names self) (own serial t) allows e
  own_after (TaskClosed closed) a own allows serial t e = go (find_task a.tasks serial) refl (sym (find_task-closed m closed serial a.tasks) ∙ e)
    where
      same : (x : TaskRow) → (close_task m closed x).asker ≡ x.asker
      same x = pick (x.serial == closed)
        where
          pick : (b : Bool) → (cond b (record x { closed = first_there x.closed (Some m) }) x).asker ≡ x.asker
          pick true = refl
          pick false = refl

      go : (o : Option TaskRow) → find_task a.tasks serial ≡ o → option_map (close_task m closed) o ≡ Some t → t.asker.server ≡ names self
      go None f g = cc
      go (Some x) f g = let is : close_task m closed x ≡ t = cc in ap (λ y. y.asker.server) (sym is) ∙ ap (λ y. y.server) (same x) ∙ own serial x f
  own_after ch a own allows serial t e = own serial t e
