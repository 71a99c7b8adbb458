-- Which records of changes may stand behind a book.
use Rattle.std.specs.Prelude.{◌+◌, ◌∷◌, ◌≡◌, ◌≤◌, IsNone, IsSome, IsTrue, List, MatchOption, [], length, slice_get, ℕ}
use Rattle.ps_time.specs.declared.key.RunKey.{RunKey}
use Rattle.ps_time.specs.Numbers.{greatest_moment}
use Rattle.run_states.specs.Life.{may_take}
use Rattle.run_states.specs.Rows.{find_row}
use Rattle.run_states.specs.declared.life.LifeStep.{LifeStep}
use Rattle.run_states.specs.declared.life.LifeStep.TheVariants.{Confirm, Start, End, Close}
use Rattle.run_states.specs.declared.row.RunRow.{RunRow}
use Rattle.host_model.specs.Apply.{apply, settled}
use Rattle.host_model.specs.Book.{Book, find_task}
use Rattle.host_model.specs.Heard.{other_at}
use Rattle.host_model.specs.Lawful.{Lawful}
use Rattle.host_model.specs.declared.change.Change.{Change}
use Rattle.host_model.specs.declared.change.Change.TheVariants.{Posted, TaskClosed, Accepted, Asked, Planned, Confirmed, Closed, Started, Ended, FreeHeard, AcceptHeard, Told as told_there, MaterialHeard, ResultHeard, Merged, Tried, LimitsSet, Purged}
use Rattle.host_model.specs.declared.change.Changes.{Changes}

-- a row has the key, and this holds of it
abbrev pub WithRow : Book → RunKey → (RunRow → Type 0) → Type 0
WithRow b k P = MatchOption (find_row b.rows k) ⊥ P

-- a row has the key
abbrev pub IsThere : Book → RunKey → Type 0
IsThere b k = IsSome (find_row b.rows k)

-- no row has the key
abbrev pub IsNewKey : Book → RunKey → Type 0
IsNewKey b k = IsNone (find_row b.rows k)

-- the row's life has such a step
abbrev pub Takes : Book → RunKey → LifeStep → Type 0
Takes b k step = WithRow b k (λ r. IsTrue (may_take step r))

-- the row has another participant at the place
abbrev pub HasPlace : Book → RunKey → ℕ → Type 0
HasPlace b k place = WithRow b k (λ r. IsSome (other_at r place))

-- what a change names is there, what it adds isn't, and the life of a row has its step
abbrev pub CanApply : Book → Change → Type 0
CanApply b (Posted t) = t.serial ≡ length b.tasks + 1
CanApply b (TaskClosed serial) = IsSome (find_task b.tasks serial)
CanApply b (Accepted p participants epoch) = IsNewKey b p.key
CanApply b (Asked q participants asker) = IsNewKey b q.key
CanApply b (Planned k start tool epoch) = WithRow b k (λ r. IsNone r.accepted × IsNone r.closed)
CanApply b (Confirmed k) = Takes b k Confirm
CanApply b (Closed k why) = Takes b k (Close why)
CanApply b (Started k) = Takes b k Start
CanApply b (Ended k good body) = Takes b k (End good body)
CanApply b (FreeHeard k place answer) = HasPlace b k place
CanApply b (AcceptHeard k place) = HasPlace b k place
CanApply b (told_there k place told) = HasPlace b k place
CanApply b (MaterialHeard k) = IsThere b k
CanApply b (ResultHeard k place result) = HasPlace b k place
CanApply b (Merged k body) = IsThere b k
CanApply b (Tried k index state) = WithRow b k (λ r. IsSome (slice_get r.archives index))
CanApply b (LimitsSet l) = Unit {0}
CanApply b (Purged k) = IsThere b k

-- each change can be applied at m, and leaves a lawful book
abbrev pub CanApplyAll : ℕ → ℕ → List Change → Book → Type 0
CanApplyAll self m [] b = Unit {0}
CanApplyAll self m (c ∷ cs) b = CanApply b c × Lawful self (apply m c b) × CanApplyAll self m cs (apply m c b)

-- the changes may follow a book of the host with this number
pub record MayFollow (self : ℕ) (b : Book) (changes : Changes) : Type 0 where
  pub later : b.moment ≤ changes.moment
  pub moment : changes.moment ≤ greatest_moment
  pub each : CanApplyAll self changes.moment changes.list (settled changes.moment b)
