-- What a row keeps as long as it stands, and how a book grows.
use Rattle.std.specs.Prelude.{◌+◌, ◌<◌, ◌≡◌, ◌≤◌, Bool, IsTrue, List, Option, Some, slice_get, ℕ}
use Rattle.ps_time.specs.declared.key.RunKey.{RunKey}
use Rattle.ps_time.specs.Numbers.{keeping}
use Rattle.archive_retry.specs.declared.state.ArchiveState.{ArchiveState}
use Rattle.run_states.specs.Rows.{find_row}
use Rattle.run_states.specs.declared.answer.Other.{Other}
use Rattle.run_states.specs.declared.row.RunRow.{RunRow}
use Rattle.run_states.specs.Purging.{rest_of}
use Rattle.host_model.specs.Book.{Book, epoch_of, find_task}
use Rattle.host_model.specs.declared.task_row.TaskRow.{TaskRow}

-- what was there stays as it was
abbrev pub Remains : {A : Type 0} → Option A → Option A → Type 0
Remains {A} o p = (a : A) → o ≡ Some a → p ≡ Some a

-- a mark that was set stays
abbrev pub Stays : Bool → Bool → Type 0
Stays a b = IsTrue a → IsTrue b

-- each item stands on at its place, and has evolved
abbrev pub AllEvolve : {A : Type 0} → (A → A → Type 0) → List A → List A → Type 0
AllEvolve {A} E xs ys = (i : ℕ) (x : A) → slice_get xs i ≡ Some x → (y : A) × (slice_get ys i ≡ Some y) × E x y

-- what is known of another participant stays known
pub record OtherEvolves (o p : Other) : Type 0 where
  pub free : Remains o.free p.free
  pub accepted : Stays o.accepted p.accepted
  pub confirm_told : Stays o.confirm_told p.confirm_told
  pub cancel_told : Stays o.cancel_told p.cancel_told
  pub material_told : Stays o.material_told p.material_told
  pub heard : Remains o.heard p.heard

-- attempts don't become fewer, and what is done stays done
pub record ArchiveEvolves (a b : ArchiveState) : Type 0 where
  pub tried : a.tried ≤ b.tried
  pub done : Stays a.done b.done

-- r is what s was once
pub record Evolves (r s : RunRow) : Type 0 where
  pub key : s.key ≡ r.key
  pub test : s.test ≡ r.test
  pub priority : s.priority ≡ r.priority
  pub participants : s.participants ≡ r.participants
  pub asker : s.asker ≡ r.asker
  pub tool : Remains r.tool s.tool
  pub interval : Remains r.interval s.interval
  pub accepted : Remains r.accepted s.accepted
  pub confirmed : Remains r.confirmed s.confirmed
  pub started : Remains r.started s.started
  pub ended : Remains r.ended s.ended
  pub material : Remains r.material s.material
  pub closed : Remains r.closed s.closed
  pub question : Remains r.question s.question
  pub asked : Remains r.asked s.asked
  pub others : AllEvolve OtherEvolves r.others s.others
  pub merged : Remains r.merged s.merged
  pub archives : AllEvolve ArchiveEvolves r.archives s.archives

-- t is what u was once
pub record TaskEvolves (t u : TaskRow) : Type 0 where
  pub serial : u.serial ≡ t.serial
  pub task : u.task ≡ t.task
  pub asker : u.asker ≡ t.asker
  pub posted : u.posted ≡ t.posted
  pub closed : Remains t.closed u.closed

-- the row of a run of b stands in c, under the same epoch
pub record RowStands (b c : Book) (k : RunKey) (r : RunRow) : Type 0 where
  pub row : RunRow
  pub found : find_row c.rows k ≡ Some row
  pub evolves : Evolves r row
  pub epoch : Remains (epoch_of b k) (epoch_of c k)

-- a task of b stands in c
abbrev pub TaskStands : Book → ℕ → TaskRow → Type 0
TaskStands c serial t = (u : TaskRow) × (find_task c.tasks serial ≡ Some u) × TaskEvolves t u

-- b is what c was once; a row goes seven days after its rest at the earliest
pub record Grown (b c : Book) : Type 0 where
  pub moment : b.moment ≤ c.moment
  pub epochs : (i : ℕ) → Remains (slice_get b.epochs i) (slice_get c.epochs i)
  pub tasks : (serial : ℕ) (t : TaskRow) → find_task b.tasks serial ≡ Some t → TaskStands c serial t
  pub rows : (k : RunKey) (r : RunRow) → find_row b.rows k ≡ Some r → c.moment < rest_of r + keeping → RowStands b c k r
