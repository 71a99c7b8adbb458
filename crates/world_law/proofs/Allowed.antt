-- What the guards of a step say of each of its changes, and what is therefore so of a row that changed.
use Rattle.std.proofs.Common.{◌≡◌, ◌≢◌, ◌≤◌, ◌⊎◌, ℕ, IsTrue, List, length, Option, Some, slice_get, suc}
use Rattle.std.specs.declared.cmp.Ordering.TheVariants.{Less}
use Rattle.ps_time.specs.Numbers.{most_result_bytes}
use Rattle.ps_time.specs.Span.{Range, Span}
use Rattle.host_model.specs.FreeTier.{IsIn}
use Rattle.ps_time.specs.Key.{key_cmp}
use Rattle.ps_time.specs.declared.key.RunKey.{RunKey}
use Rattle.plugin_core.specs.Participants.{participants}
use Rattle.run_states.specs.Purging.{is_purgeable}
use Rattle.run_states.specs.Rows.{find_row}
use Rattle.run_states.specs.declared.answer.Other.{Other}
use Rattle.run_states.specs.declared.proposal.Proposal.{Proposal}
use Rattle.run_states.specs.declared.row.RunRow.{RunRow}
use Rattle.host_model.specs.Allowed.{IsAllowed}
use Rattle.host_model.specs.Book.{Book, find_task, latest_epoch}
use Rattle.host_model.specs.Granting.{IsGrantedUnder}
use Rattle.host_model.specs.MayFollow.{WithRow}
use Rattle.host_model.specs.declared.change.Change.{Change}
use Rattle.host_model.specs.declared.change.Change.TheVariants.{Posted, Accepted, Asked, Planned, Confirmed, Ended, AcceptHeard, Purged}
use Rattle.host_model.specs.declared.config.Config.{Config}
use Rattle.host_model.specs.declared.input.Input.{Input}
use Rattle.host_model.specs.declared.input.Input.TheVariants as input
use Rattle.host_model.specs.declared.order.Order.{Order}
use Rattle.host_model.specs.declared.order.OrderBody.TheVariants as order
use Rattle.host_model.specs.declared.order.PeerAnswer.TheVariants as answer
use Rattle.host_model.specs.declared.task_row.TaskRow.{TaskRow}
use Rattle.world_law.specs.Laws.{Holds}

-- the key comes after each of its task that these rows have
abbrev pub Fresh : List RunRow → RunKey → Type 0
Fresh rows k = (j : RunKey) (q : RunRow) → find_row rows j ≡ Some q → j.lead ≡ k.lead → j.task ≡ k.task → key_cmp j k ≡ Less

-- one of its task that comes after it is there
pub record Newer (k : RunKey) (rows : List RunRow) : Type 0 where
  pub key : RunKey
  pub row : RunRow
  pub at : find_row rows key ≡ Some row
  pub lead : key.lead ≡ k.lead
  pub task : key.task ≡ k.task
  pub later : key_cmp k key ≡ Less

-- each task of these was posted at the host of this name
abbrev pub OwnTasks : List ℕ → List TaskRow → Type 0
OwnTasks name tasks = (serial : ℕ) (t : TaskRow) → find_task tasks serial ≡ Some t → t.asker.server ≡ name

-- each start of the window is one that a task of the book allows to the run of the key
abbrev pub AskedIn : Book → RunKey → Range → Type 0
AskedIn b k w = (t : TaskRow) × (find_task b.tasks k.task ≡ Some t) × ((s : ℕ) → IsIn w s → IsAllowed t.task.rule k.number s)

-- the row starts in the window that it was asked about
abbrev pub StartsIn : RunRow → Type 0
StartsIn r = (w : Range) × (i : Span) × (r.question ≡ Some w) × (r.interval ≡ Some i) × IsIn w i.start

-- the acceptance of the participant behind the lead at this place was heard
abbrev pub HasFlag : ℕ → RunRow → Type 0
HasFlag j r = (o : Other) × (slice_get r.others j ≡ Some o) × IsTrue o.accepted

-- of every other participant the acceptance was heard
abbrev pub AllFlagged : RunRow → Type 0
AllFlagged r = (j : ℕ) (name : List ℕ) → slice_get r.participants (suc j) ≡ Some name → HasFlag j r

-- an acceptance of the run at this place was heard
abbrev pub HeardAccepted : Input → RunKey → ℕ → Type 0
HeardAccepted i k place = (o : Order) × (m : ℕ) × (p : Proposal) × (i ≡ input.Heard o (answer.Accepted m)) × (o.key ≡ k) × (o.place ≡ place) × (o.body ≡ order.Propose p)

-- what the row of the key had
abbrev pub Was : Option RunRow → (RunRow → Type 0) → Type 0
Was o P = (q : RunRow) × (o ≡ Some q) × P q

-- the limits of the last epoch of the book d grant the run
abbrev pub AcceptCause : Config → Book → RunRow → Type 0
AcceptCause c d r = (s : Span) × (r.interval ≡ Some s) × IsGrantedUnder c d (latest_epoch d) r.asker r.test s r.priority

-- of a host with this number in a world with these names, at m, for an input
module _ (names : ℕ → List ℕ) (self m : ℕ) (i : Input) where
  -- ---- each change, at the book to which it is made
  abbrev pub Allows : Book → Change → Type 0
  Allows a (Posted t) = t.asker.server ≡ names self
  Allows a (Accepted p hosts epoch) = (hosts ≡ participants p.test (names p.key.lead)) × (((p.key.lead ≡ self) × (p.key.task ≡ 0) × Fresh a.rows p.key × (slice_get hosts 0 ≡ Some (names p.key.lead)) × (p.asker.server ≡ names p.key.lead)) ⊎ ((i ≡ input.Propose p.key.lead p) × (p.key.lead ≢ self) × (m ≤ p.start)))
  Allows a (Asked q hosts asker) = (hosts ≡ participants q.test (names q.key.lead)) × (q.key.lead ≡ self) × Fresh a.rows q.key × (slice_get hosts 0 ≡ Some (names q.key.lead)) × AskedIn a q.key q.window × (asker.server ≡ names q.key.lead)
  Allows a (Planned k start tool epoch) = WithRow a k (λ r. (w : Range) × (r.question ≡ Some w) × IsIn w start)
  Allows a (Confirmed k) = (i ≡ input.Confirm k.lead k) ⊎ ((k.lead ≡ self) × WithRow a k AllFlagged)
  Allows a (AcceptHeard k place) = (k.lead ≡ self) × HeardAccepted i k place
  Allows a (Ended k good body) = length body ≤ most_result_bytes
  Allows a (Purged k) = WithRow a k (λ r. IsTrue (is_purgeable self m a.rows r))
  Allows a c = Unit {0}

  -- ---- what is so of a row after changes, by what was so before
  abbrev pub BornCause : List RunRow → RunKey → RunRow → Type 0
  BornCause rows k r = (r.participants ≡ participants r.test (names k.lead)) × (((k.lead ≡ self) × Fresh rows k × (slice_get r.participants 0 ≡ Some (names k.lead)) × (r.asker.server ≡ names k.lead)) ⊎ ((p : Proposal) × (i ≡ input.Propose k.lead p) × Holds p r × (k.lead ≢ self) × (m ≤ p.start)))

  abbrev pub ConfirmCause : RunKey → RunRow → Type 0
  ConfirmCause k r = (i ≡ input.Confirm k.lead k) ⊎ ((k.lead ≡ self) × AllFlagged r)

  -- the lead's row starts in the window that it was asked about, unless it is a booking
  abbrev pub TimedCause : RunKey → RunRow → Type 0
  TimedCause k r = (k.lead ≢ self) ⊎ ((k.task ≡ 0) ⊎ StartsIn r)
