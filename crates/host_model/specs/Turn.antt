-- A turn: what is due at a host, in six groups.
use Rattle.std.specs.Prelude.{◌-◌, ◌∷◌, List, [], if◌then◌else◌, length, nat_le, take, ℕ}
use Rattle.ps_time.specs.Numbers.{most_changes}
use Rattle.host_model.specs.Book.{Book}
use Rattle.host_model.specs.Ending.{end_run}
use Rattle.host_model.specs.Merging.{merge_run}
use Rattle.host_model.specs.NextAttempt.{ask}
use Rattle.host_model.specs.Plan.{plan_run}
use Rattle.host_model.specs.Purging.{purge_run}
use Rattle.host_model.specs.RecordLength.{change_bytes, record_bytes}
use Rattle.host_model.specs.Starting.{start_run}
use Rattle.host_model.specs.Walk.{each_row, each_task, in_turn}
use Rattle.host_model.specs.declared.change.Change.{Change}
use Rattle.host_model.specs.declared.config.Config.{Config}
use Rattle.host_model.specs.declared.reply.Outcome.{Outcome}
use Rattle.host_model.specs.declared.reply.Reply.TheVariants.{Changes as changes_reply}

-- the most bytes that its record takes
abbrev pub most_record_bytes : ℕ
most_record_bytes = 4_194_304

-- all that is due at m: runs end, results are merged, runs start, runs are planned, are asked about, and rows go
abbrev pub due_changes : Config → ℕ → Book → List Change
due_changes c m b =
    in_turn m (
    each_row (end_run c m) m
    ∷ each_row (merge_run c m) m
    ∷ each_row (start_run m) m
    ∷ each_row (plan_run c m) m
    ∷ each_task (ask c m) m
    ∷ each_row (purge_run c m) m
    ∷ []) b

-- the changes before the first with which they would take more than this many bytes
abbrev pub within_bytes : ℕ → List Change → List Change
within_bytes left [] = []
within_bytes left (c ∷ cs) = if nat_le (change_bytes c) left then c ∷ within_bytes (left - change_bytes c) cs else []

-- the first 64 of them, as far as their record has room
abbrev pub turn_changes : Config → Book → ℕ → List Change
turn_changes c b m = within_bytes (most_record_bytes - record_bytes []) (take most_changes (due_changes c m b))

-- the reply counts the changes
abbrev pub changed : List Change → Outcome
changed cs = record { reply = changes_reply (length cs); list = cs }

-- the host does what is due
abbrev pub turn : Config → Book → ℕ → Outcome
turn c b m = changed (turn_changes c b m)
