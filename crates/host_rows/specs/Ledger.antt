-- What is counted over rows.
use Rattle.std.specs.Prelude.{◌≡◌, ◌<◌, ◌≤◌, All, Bool, List, None, Option, Some, false, length, true, ℕ}
use Rattle.run_states.specs.Life.{HasMoments}
use Rattle.run_states.specs.Purging.{is_purgeable}
use Rattle.run_states.specs.ResultBytes.{bytes_in, result_bytes, row_bytes}
use Rattle.run_states.specs.declared.answer.Answer.{Answer}
use Rattle.run_states.specs.declared.answer.Answer.TheVariants.{Free, Accepted, Acknowledged, Result}
use Rattle.run_states.specs.declared.fact.Fact.{Fact}
use Rattle.run_states.specs.declared.fact.Fact.TheVariants.{Planned, Answered, MaterialHeard, Merged, Tried}
use Rattle.run_states.specs.declared.life.LifeStep.{LifeStep}
use Rattle.run_states.specs.declared.life.LifeStep.TheVariants.{Confirm, Start, End, Close}
use Rattle.run_states.specs.declared.row.RunRow.{RunRow}
use Rattle.host_rows.specs.LiveKeys.{LiveKeys}
use Rattle.host_rows.specs.Still.{is_live, is_still, live_keys}
use Rattle.host_rows.specs.Deadlines.{Deadlines, IsFiled}
use Rattle.host_rows.specs.declared.deadlines.Deadline.{Deadline}

-- the rows of a host, ascending by key, the deadlines of those that may lapse, and how many more rows fit
pub record Ledger : Type 0 where
  pub number : ℕ
  pub list : List RunRow
  pub deadlines : List Deadline
  pub room : ℕ

-- there is a row, and it is live at the host with this number
abbrev pub is_live_at : ℕ → Option RunRow → Bool
is_live_at self None = false
is_live_at self (Some r) = is_live self r

-- the most bytes that are counted
abbrev pub most_counted : ℕ
most_counted = 18_446_744_073_709_551_615

-- where it is still, the row of a host that keeps these may not go before this moment
abbrev pub StaysUntil : ℕ → List RunRow → ℕ → RunRow → Type 0
StaysUntil self rows until r = (m : ℕ) → m < until → is_still self r ≡ true → is_purgeable self m rows r ≡ false

-- what is counted of a row that may be there
abbrev pub counted_at : (RunRow → ℕ) → Option RunRow → ℕ
counted_at count None = 0
counted_at count (Some r) = count r

-- the bytes of its results
abbrev pub bytes_at : Option RunRow → ℕ
bytes_at o = counted_at row_bytes o

-- how many bytes of results an answer brings at most
abbrev pub answer_bytes : Answer → ℕ
answer_bytes (Free answer) = 0
answer_bytes Accepted = 0
answer_bytes (Acknowledged told) = 0
answer_bytes (Result result) = bytes_in result

-- and a fact
abbrev pub fact_bytes : Fact → ℕ
fact_bytes (Planned tool interval) = 0
fact_bytes (Answered place answer) = answer_bytes answer
fact_bytes MaterialHeard = 0
fact_bytes (Merged body states) = length body
fact_bytes (Tried index state) = 0

-- and a step of a row's life
abbrev pub step_bytes : LifeStep → ℕ
step_bytes Confirm = 0
step_bytes Start = 0
step_bytes (End good body) = length body
step_bytes (Close why) = 0

-- a fact that accepts nothing
abbrev pub IsNoPlan : Fact → Type 0
IsNoPlan (Planned tool interval) = ⊥
IsNoPlan _ = Unit {0}

-- moments are in bounds, and the bytes are those of the rows
pub record IsCounted (rows : List RunRow) (bytes : ℕ) : Type 0 where
  pub moments : All HasMoments rows
  pub kept : bytes ≡ result_bytes rows

-- that, the deadlines of the rows, the keys of those that are live, with a place for each row, and none that is still may go before
-- the next purge
pub record IsKept (number : ℕ) (rows : List RunRow) (bytes next_purge : ℕ) (ds : Deadlines) (ks : LiveKeys) : Type 0 where
  pub counted : IsCounted rows bytes
  pub filed : IsFiled rows ds
  pub live : ks.list ≡ live_keys number rows
  pub places : length rows ≤ ks.places
  pub stay : All (StaysUntil number rows next_purge) rows
