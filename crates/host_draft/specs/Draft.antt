-- A book as it is within a step, and how it is kept beside the book that the step began with.
use Rattle.std.specs.Prelude.{◌&&◌, ◌+◌, ◌==◌, ◌≡◌, ◌≤◌, Bool, List, length, nat_le, nat_lt, ℕ}
use Rattle.ps_time.specs.declared.key.RunKey.{RunKey}
use Rattle.ps_time.specs.declared.moment.TheConstants.{MAX_MOMENT}
use Rattle.limit_apply.specs.Limits.{LimitsConfig as Limits}
use Rattle.run_states.specs.ResultBytes.{result_bytes}
use Rattle.run_states.specs.Rows.{find_row}
use Rattle.run_states.specs.declared.row.RunRow.{RunRow}
use Rattle.host_rows.specs.Ledger.{most_counted}
use Rattle.host_model.specs.Apply.{apply_all, settled}
use Rattle.host_model.specs.Book.{Book, last_limits}
use Rattle.host_model.specs.Draft.{Draft, fresh}
use Rattle.host_model.specs.Lawful.{Lawful}
use Rattle.host_model.specs.declared.change.Change.{Change}
use Rattle.draft_parts.specs.Overlay.{over}

-- a draft of the host with this number, and the limits in force
pub record Seen : Type 0 where
  pub number : ℕ
  pub limits : Limits
  pub draft : Draft

-- at first: of a book that settles at m, with these limits as long as it has none
abbrev pub opened : ℕ → ℕ → Limits → Book → Seen
opened number m limits b = record { number = number; limits = last_limits limits b.epochs; draft = fresh (settled m b) }

-- with another draft
abbrev pub with_draft : Draft → Seen → Seen
with_draft d s = record s { draft = d }

-- no more changes may be made
abbrev pub is_full : Draft → Bool
is_full d = d.places == 0

-- there is place for a change that takes so many bytes
abbrev pub admits : ℕ → Draft → Bool
admits bytes d = nat_lt 0 d.places && nat_le bytes d.left

-- the book after these changes at m
abbrev pub book_now : ℕ → List Change → Book → Book
book_now m changes b = apply_all m changes (settled m b)

-- what a draft keeps of its parts, where the step began with this book
pub record IsDraft (number m : ℕ) (began now : Book) (touched : List RunRow) (gone : List RunKey) (latest many kept left : ℕ) : Type 0 where
  pub moment : m ≤ MAX_MOMENT
  pub at : now.moment ≡ m
  pub lawful : Lawful number now
  -- the row of each key
  pub found : (k : RunKey) → find_row now.rows k ≡ over touched gone began.rows k
  -- no change that is read on touches these
  pub tasks : now.tasks ≡ began.tasks
  pub epochs : now.epochs ≡ began.epochs
  pub epoch : latest ≡ length now.epochs
  pub count : many ≡ length now.rows
  pub bytes : kept ≡ result_bytes now.rows
  -- the results that are still to come can be counted
  pub room : kept + left ≤ most_counted
