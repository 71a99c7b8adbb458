-- A host on two disks in memory, of each of which one call may be to fail: what its steps, a crash and an opening make of it.
use Rattle.std.specs.Prelude.{◌+◌, ◌-◌, ◌^◌, ◌&&◌, Bool, List, None, Option, Some, [], ◌∷◌, false, if◌then◌else◌, length, nat_le, nat_lt, not, take, true, ℕ}
use Rattle.ps_disks.specs.declared.image.Image.{Image}
use Rattle.value_bytes.specs.Changes.{changes}
use Rattle.host_codec.specs.Books.{book}
use Rattle.host_model.specs.Book.{Book, empty_book}
use Rattle.host_model.specs.Step.{step_changes, step_reply}
use Rattle.host_model.specs.declared.change.Change.{Change}
use Rattle.host_model.specs.declared.change.Changes.{Changes}
use Rattle.host_model.specs.declared.config.Config.{Config}
use Rattle.host_model.specs.declared.input.Input.{Input}
use Rattle.host_model.specs.declared.input.Input.TheVariants as input
use Rattle.host_model.specs.declared.reply.Reply.{Reply}
use Rattle.machine_keep.specs.Crash.{keeps_step}
use Rattle.simulated_machine.specs.Crashed.{place_stopped, place_unsynced, state_unsynced}
use Rattle.simulated_machine.specs.Held.{Held, Place, calls_of, fault_at, is_many_at, on_first, on_second, place_after, schedule, syncs, with_snapshot}
use Rattle.simulated_machine.specs.AfterStep.{unsynced_broken, unsynced_still, place_broken, state_broken}
use Rattle.world_law.specs.World.{Stage}
use Rattle.rehearsal_script.specs.declared.script.Stop.{Stop}
use Rattle.rehearsal_model.specs.After.{cut_stage}
use Rattle.rehearsal_model.specs.Seen.{acted}

-- ---- bytes
-- of the record of changes, and of the snapshot of a book
unfoldable pub record_length : Changes → ℕ
record_length c = length (changes.code c)

unfoldable pub snapshot_length : Book → ℕ
snapshot_length b = length (book.code b)

-- where nothing changes no record is written
abbrev pub unless_none : List Change → ℕ → Option ℕ
unless_none [] bytes = None
unless_none (c ∷ cs) bytes = Some bytes

abbrev pub record_by : Changes → Option ℕ
record_by c = unless_none c.list (record_length c)

-- the bytes of the record that a step writes
abbrev pub recorded_by : Stage → ℕ → Input → Option ℕ
recorded_by s clock i = record_by (step_changes s.config s.book clock i)

-- a snapshot can be written beside a disk of this generation: it has fewer than 2^32 bytes, and the generation isn't the last
abbrev pub can_snap : Place → ℕ → Bool
can_snap p bytes = nat_lt bytes (2 ^ 32) && nat_lt (p.generation + 1) (2 ^ 64)

-- the bytes of the snapshot that is written behind a record of so many bytes, once the records are many
abbrev pub snapped_by : Place → Book → Option ℕ → Option ℕ
snapped_by p later None = None
snapped_by p later (Some bytes) = if is_many_at p bytes && can_snap p (snapshot_length later) then Some (snapshot_length later) else None

-- ---- a step
-- what a step writes: the bytes of its record, and those of the snapshot behind it
pub record Written : Type 0 where
  pub record_bytes : Option ℕ
  pub snapshot_bytes : Option ℕ

abbrev pub written_at : Held Stage → ℕ → Input → Written
written_at h clock i = record { record_bytes = recorded_by h.state clock i; snapshot_bytes = snapped_by h.place (acted h.state clock i).book (recorded_by h.state clock i) }

-- how many calls of the disks that takes
abbrev pub calls_for : Held Stage → Written → ℕ
calls_for h w = calls_of h.ready w.record_bytes w.snapshot_bytes

-- the call that fails, where it is among so many
abbrev pub among : ℕ → Option ℕ → Option ℕ
among calls None = None
among calls (Some number) = if nat_le number calls then Some number else None

-- the call of this step that fails, where one does
abbrev pub fault_in : Held Stage → ℕ → Input → Option ℕ
fault_in h clock i = among (calls_for h (written_at h clock i)) (fault_at h)

-- after so many calls what is to fail is so many nearer
abbrev pub done_with : Held Stage → Stage → Written → Held Stage
done_with h later w = record {
  state = later;
  place = place_after h.place w.record_bytes w.snapshot_bytes;
  ready = true;
  unsynced = None;
  first = h.first - on_first (take (calls_for h w) (schedule h));
  second = h.second - on_second (take (calls_for h w) (schedule h));
}

-- a step whose calls were all made
abbrev pub done : Held Stage → ℕ → Input → Held Stage
done h clock i = done_with h (acted h.state clock i) (written_at h clock i)

abbrev pub bytes_of : Option ℕ → ℕ
bytes_of None = 0
bytes_of (Some bytes) = bytes

-- the sync of this number failed, so that the step wasn't begun
abbrev pub sync_failed : Held Stage → ℕ → Held Stage
sync_failed h number = record { state = h.state; place = h.place; ready = false; unsynced = unsynced_still number h.unsynced; first = 0; second = 0 }

-- the call of this number behind the syncs failed
abbrev pub broken_with : Held Stage → ℕ → Stage → Written → Held Stage
broken_with h number later w = record {
  state = state_broken number h.state later;
  place = place_broken number h.place (bytes_of w.record_bytes) (bytes_of w.snapshot_bytes);
  ready = false;
  unsynced = unsynced_broken number h.place h.state later (bytes_of w.record_bytes);
  first = 0;
  second = 0;
}

-- the call of this number failed; the first fault disarms both disks
abbrev pub faulted : Held Stage → ℕ → Input → ℕ → Held Stage
faulted h clock i number = if nat_lt (length (syncs h.ready)) number then broken_with h (number - length (syncs h.ready)) (acted h.state clock i) (written_at h clock i) else sync_failed h number

abbrev pub stepped_by : Held Stage → ℕ → Input → Option ℕ → Held Stage
stepped_by h clock i None = done h clock i
stepped_by h clock i (Some number) = faulted h clock i number

-- the host after a step
abbrev pub stepped : Held Stage → ℕ → Input → Held Stage
stepped h clock i = stepped_by h clock i (fault_in h clock i)

abbrev pub reply_unless : Option ℕ → Reply → Option Reply
reply_unless None said = Some said
reply_unless (Some number) said = None

-- what it answers; nothing where a call of its disks failed
abbrev pub answered : Held Stage → ℕ → Input → Option Reply
answered h clock i = reply_unless (fault_in h clock i) (step_reply h.state.config h.state.book clock i)

-- ---- openings
-- what two disks stand for, and where
pub record Left : Type 0 where
  pub state : Stage
  pub place : Place

-- a host on disks of which no call is to fail
abbrev pub unarmed_on : Left → Held Stage
unarmed_on left = record { state = left.state; place = left.place; ready = true; unsynced = None; first = 0; second = 0 }

-- opened on what two disks stand for, which begins with a step
abbrev pub opened_on : Left → ℕ → Held Stage
opened_on left clock = done (unarmed_on left) clock input.Open

-- a pair of new disks: the first of them counts, and has an empty snapshot
abbrev pub new_place : Place
new_place = record { second = false; generation = 1; snapshot = 0; records = 0 }

-- that snapshot is of the earlier form, so that one of the empty book takes its place
abbrev pub new_left : Config → Left
new_left config = record { state = record { config = config; book = empty_book }; place = with_snapshot new_place (snapshot_length empty_book) }

abbrev pub opened_anew : Config → Held Stage
opened_anew config = opened_on (new_left config) 0

-- ---- crashes
-- a crash in a sync with which the step begins
abbrev pub left_unsynced : Held Stage → ℕ → Image → Left
left_unsynced h stop image = record { state = state_unsynced h.state h.unsynced stop image; place = place_unsynced h.place h.unsynced stop image }

-- in the call of this number behind the syncs, or behind the last one where the step makes fewer
abbrev pub left_behind : Held Stage → ℕ → Input → ℕ → Image → Left
left_behind h clock i number image = record {
  state = cut_stage (keeps_step number image) h.state clock i;
  place = place_stopped number image h.place (written_at h clock i).record_bytes (written_at h clock i).snapshot_bytes;
}

-- of a step that stops
abbrev pub left_stopped : Held Stage → ℕ → Input → Stop → Left
left_stopped h clock i stop =
    if not h.ready && nat_le stop.call 2 then left_unsynced h stop.call stop.image
    else left_behind h clock i (stop.call - length (syncs h.ready)) stop.image

-- the step stops, and the host is opened again
abbrev pub crashed_at : Held Stage → ℕ → Input → Stop → Held Stage
crashed_at h clock i stop = opened_on (left_stopped h clock i stop) clock

-- the call that fails comes before the stop
abbrev pub is_before : ℕ → Option ℕ → Bool
is_before stop None = false
is_before stop (Some number) = nat_lt number stop

-- the stop that a step meets: none where one of its calls fails before, since the first fault disarms the host of it
abbrev pub stop_met : Option Stop → Option ℕ → Option Stop
stop_met None failed = None
stop_met (Some stop) failed = if is_before stop.call failed then None else Some stop

-- the host behind a step, by the stop that it met
abbrev pub ended : Held Stage → ℕ → Input → Option Stop → Held Stage
ended h clock i None = stepped h clock i
ended h clock i (Some stop) = crashed_at h clock i stop

-- of a host that is to stop
abbrev pub ended_at : Held Stage → ℕ → Input → Stop → Held Stage
ended_at h clock i stop = ended h clock i (stop_met (Some stop) (fault_in h clock i))

-- ---- configurations
-- a stage with another configuration; a host with one is `configured stage_with`
abbrev pub stage_with : Config → Stage → Stage
stage_with c s = record s { config = c }
