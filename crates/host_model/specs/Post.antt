-- Posting a task at its lead (`post`), and canceling it (`cancel`, the last one here). A task is refused for an unknown
-- participant (`unknown_host`, `if_known`), by the limits (`if_admitted`), or where there is no place (`unless_full`), in
-- this order; else `posted_row` is kept, its priority `clipped`. A cancellation is for who posted the task (`cancel_task`);
-- it closes the task (`close_unless`), and then its runs (`cancel_run`).
use Rattle.std.specs.Prelude.{◌&&◌, ◌+◌, ◌||◌, ◌∷◌, Bool, List, None, Option, Some, [], bytes_eq, find, if◌then◌else◌, int_lt, is_some, length, map, nat_lt, not, ℕ, ℤ}
use Rattle.ps_time.specs.declared.asker.Asker.{Asker}
use Rattle.ps_time.specs.declared.asker.Verdict.{Verdict}
use Rattle.ps_time.specs.declared.asker.Verdict.TheVariants.{Permitted}
use Rattle.ps_time.specs.Numbers.{most_tasks}
use Rattle.plugin_core.specs.Participants.{is_named, participants}
use Rattle.plugin_core.specs.declared.test_spec.TestSpec.{TestSpec}
use Rattle.limit_apply.specs.Limits.{admits_of, ceiling_of}
use Rattle.run_states.specs.declared.row.RunRow.{RunRow}
use Rattle.run_states.specs.declared.why.Why.TheVariants.{Canceled as canceled_run}
use Rattle.run_states.specs.TaskRows.{is_of_task}
use Rattle.task_spec.specs.declared.task.Task.{Task}
use Rattle.host_model.specs.Book.{Book, find_task, limits_in}
use Rattle.host_model.specs.Propose.{answered}
use Rattle.host_model.specs.Walk.{change_if, each_row, in_turn}
use Rattle.host_model.specs.declared.change.Change.{Change}
use Rattle.host_model.specs.declared.change.Change.TheVariants.{Posted as posted_change, TaskClosed, Closed}
use Rattle.host_model.specs.declared.config.Config.{Config}
use Rattle.host_model.specs.declared.reply.Outcome.{Outcome}
use Rattle.host_model.specs.declared.reply.Reply.TheVariants.{Posted, UnknownHost, NotAdmitted, TasksFull, Canceled, NotPoster, NotFound}
use Rattle.host_model.specs.declared.task_row.TaskRow.{TaskRow}

-- ---- posting
-- the name is this host's or a peer's
abbrev pub is_known : Config → List ℕ → Bool
is_known c name = bytes_eq c.name name || is_named name (map (λ p. p.name) c.peers)

-- the first participant that isn't
abbrev pub unknown_host : Config → TestSpec → Option (List ℕ)
unknown_host c test = find (λ name. not (is_known c name)) (participants test c.name)

-- who asks, where this host leads
abbrev pub poster : Config → List ℕ → Asker
poster c requester = record { requester = requester; server = c.name }

-- the priority, but not above the ceiling
abbrev pub clipped : ℤ → ℤ → ℤ
clipped ceiling priority = if int_lt ceiling priority then ceiling else priority

-- the row of a task that is posted at m
abbrev pub posted_row : Config → Book → ℕ → Task → Asker → TaskRow
posted_row c b m task asker = record {
  serial = length b.tasks + 1;
  task = record task { priority = clipped (ceiling_of (limits_in c b) asker) task.priority };
  asker = asker;
  posted = m;
  closed = None;
}

-- the task is kept
abbrev pub posted : TaskRow → Outcome
posted t = record { reply = Posted t.serial; list = posted_change t ∷ [] }

-- as far as there is a place for one more
abbrev pub unless_full : Config → Book → ℕ → Task → Asker → Outcome
unless_full c b m task asker = if nat_lt (length b.tasks) most_tasks then posted (posted_row c b m task asker) else answered (TasksFull most_tasks)

-- only where the limits admit it
abbrev pub if_admitted : Verdict → Outcome → Outcome
if_admitted (Permitted index) outcome = outcome
if_admitted verdict outcome = answered (NotAdmitted verdict)

-- only where every participant is known
abbrev pub if_known : Option (List ℕ) → Outcome → Outcome
if_known (Some name) outcome = answered (UnknownHost name)
if_known None outcome = outcome

-- refused for an unknown participant, by the limits, or for want of a place, in this order
abbrev pub post : Config → Book → ℕ → Task → List ℕ → Outcome
post c b m task requester =
    let asker = poster c requester in
    if_known (unknown_host c task.test) (if_admitted (admits_of (limits_in c b) asker task.test) (unless_full c b m task asker))

-- ---- canceling
-- the task is closed, unless it is
abbrev pub close_unless : TaskRow → List Change
close_unless t = if is_some t.closed then [] else TaskClosed t.serial ∷ []

-- a run of the task that is neither started nor closed is closed
abbrev pub cancel_run : ℕ → ℕ → Book → RunRow → Option Change
cancel_run self serial b r = change_if (is_of_task self serial r && (not (is_some r.started) && not (is_some r.closed))) (Closed r.key canceled_run)

-- the task, and then its runs
abbrev pub cancel_changes : ℕ → Book → ℕ → TaskRow → List Change
cancel_changes self b m t = in_turn m ((λ b. close_unless t) ∷ each_row (cancel_run self t.serial) m ∷ []) b

-- only who posted the task may cancel it
abbrev pub cancel_task : Config → Book → ℕ → List ℕ → Option TaskRow → Outcome
cancel_task c b m requester None = answered NotFound
cancel_task c b m requester (Some t) =
    if bytes_eq t.asker.requester requester then record { reply = Canceled; list = cancel_changes c.number b m t } else answered NotPoster

-- of the task of this serial
abbrev pub cancel : Config → Book → ℕ → ℕ → List ℕ → Outcome
cancel c b m serial requester = cancel_task c b m requester (find_task b.tasks serial)
