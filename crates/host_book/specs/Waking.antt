-- When tasks wake, kept beside them: anew for the task that a change is about, and for one that is new.
use Rattle.std.specs.Prelude.{◌==◌, ◌∷◌, Bool, List, None, Option, Some, [], false, if◌then◌else◌, ℕ}
use Rattle.ps_time.specs.declared.key.RunKey.{RunKey}
use Rattle.host_model.specs.Effect.{change_key}
use Rattle.host_model.specs.declared.change.Change.{Change}
use Rattle.host_model.specs.declared.change.Change.TheVariants.{TaskClosed}
use Rattle.host_model.specs.declared.task_row.TaskRow.{TaskRow}

-- the serial of the task that this host leads, where the run of the key is one of its tasks'
abbrev pub own_task : ℕ → Option RunKey → Option ℕ
own_task self None = None
own_task self (Some k) = if k.lead == self then Some k.task else None

-- the serial of the task that a change is about, but for one that is posted
abbrev pub touched : ℕ → Change → Option ℕ
touched self (TaskClosed serial) = Some serial
touched self c = own_task self (change_key c)

abbrev pub is_touched : Option ℕ → TaskRow → Bool
is_touched None t = false
is_touched (Some serial) t = t.serial == serial

-- one item for each task: that of the touched task anew
abbrev pub renewed : (TaskRow → Option ℕ) → Option ℕ → List TaskRow → List (Option ℕ) → List (Option ℕ)
renewed wake serial [] wakes = wakes
renewed wake serial (t ∷ ts) [] = []
renewed wake serial (t ∷ ts) (w ∷ ws) = (if is_touched serial t then wake t else w) ∷ renewed wake serial ts ws

-- and one more for the first task that has none
abbrev pub extended : (TaskRow → Option ℕ) → List TaskRow → List (Option ℕ) → List (Option ℕ)
extended wake [] wakes = wakes
extended wake (t ∷ ts) [] = wake t ∷ []
extended wake (t ∷ ts) (w ∷ ws) = w ∷ extended wake ts ws
