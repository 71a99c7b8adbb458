-- What the laws say of a world.
use Rattle.std.specs.Prelude.{◌+◌, ◌<◌, ◌∷◌, ◌≡◌, ◌≢◌, ◌≤◌, ◌↔◌, ◌⊎◌, [], IsSome, IsTrue, List, None, Option, Some, slice_get, suc, ℕ, ℤ}
use Rattle.ps_time.specs.Numbers.{keeping}
use Rattle.ps_time.specs.Span.{Span}
use Rattle.ps_time.specs.declared.class.Class.{Class}
use Rattle.ps_time.specs.declared.key.RunKey.{RunKey}
use Rattle.run_states.specs.Life.{first_there}
use Rattle.run_states.specs.Purging.{rest_of}
use Rattle.run_states.specs.Rows.{IsAscendingRows, find_row}
use Rattle.run_states.specs.declared.answer.Other.{Other}
use Rattle.run_states.specs.declared.proposal.Proposal.{Proposal}
use Rattle.run_states.specs.declared.proposal.Question.{Question}
use Rattle.run_states.specs.declared.row.RunRow.{RunRow}
use Rattle.run_states.specs.declared.why.Denial.TheVariants.{Differs}
use Rattle.run_states.specs.declared.row.Ending.{Ending}
use Rattle.run_states.specs.TaskRows.{greatest_number}
use Rattle.task_spec.specs.declared.task.Task.{Task}
use Rattle.host_model.specs.Allowed.{IsAllowed}
use Rattle.host_model.specs.Apply.{settled}
use Rattle.host_model.specs.Book.{Book, epoch_of, find_task, latest_epoch, moment_at}
use Rattle.host_model.specs.Booking.{booking, last_booking}
use Rattle.host_model.specs.Fits.{place_of, wanted_span}
use Rattle.host_model.specs.Fitting.{AcceptsRun, Fits, MayAccept}
use Rattle.host_model.specs.Granting.{IsGrantedUnder}
use Rattle.host_model.specs.Grown.{Grown}
use Rattle.host_model.specs.Lawful.{Lawful, NoClash}
use Rattle.host_model.specs.Propose.{lead_name}
use Rattle.host_model.specs.declared.config.Config.{Config}
use Rattle.host_model.specs.declared.input.Input.{Input}
use Rattle.host_model.specs.declared.input.Input.TheVariants as input
use Rattle.host_model.specs.declared.order.OrderBody.{OrderBody}
use Rattle.host_model.specs.declared.order.OrderBody.TheVariants as order
use Rattle.host_model.specs.declared.reply.Reply.{Reply}
use Rattle.host_model.specs.declared.reply.Reply.TheVariants as reply
use Rattle.host_model.specs.declared.task_row.TaskRow.{TaskRow}
use Rattle.world_law.specs.Events.{reply_now, step_stage}
use Rattle.world_law.specs.World.{Answer, Message, Stage, World, aged, row_at, stages}

-- ---- the stages of each host
-- in words: of each stage of each host
abbrev pub OfStages : World → (ℕ → Stage → Type 0) → Type 0
OfStages w P = (h i : ℕ) (s : Stage) → aged (stages w h) i ≡ Some s → P h s

-- the rows ascend by key: no two have one key, and each is found by its own
abbrev pub Keyed : World → Type 0
Keyed w = OfStages w (λ h s. IsAscendingRows s.book.rows)

-- no two booked rows clash
abbrev pub Booked : World → Type 0
Booked w = OfStages w (λ h s. NoClash s.book.rows)

-- the book is lawful for its host
abbrev pub AllLawful : World → Type 0
AllLawful w = OfStages w (λ h s. Lawful h s.book)

-- each stage has grown from each earlier one of its host
abbrev pub AllGrown : World → Type 0
AllGrown w = (h i j : ℕ) (s t : Stage) → i ≤ j → aged (stages w h) i ≡ Some s → aged (stages w h) j ≡ Some t → Grown s.book t.book

-- ---- rows
-- the row was accepted, with what the proposal proposed
pub record Holds (p : Proposal) (r : RunRow) : Type 0 where
  pub key : r.key ≡ p.key
  pub test : r.test ≡ p.test
  pub tool : r.tool ≡ Some p.tool
  pub interval : r.interval ≡ Some (wanted_span p)
  pub priority : r.priority ≡ p.priority
  pub asker : r.asker ≡ p.asker
  pub accepted : IsSome r.accepted

-- a row of one host and one of another have the same content
pub record SameContent (r s : RunRow) : Type 0 where
  pub key : s.key ≡ r.key
  pub test : s.test ≡ r.test
  pub tool : s.tool ≡ r.tool
  pub interval : s.interval ≡ r.interval
  pub priority : s.priority ≡ r.priority
  pub participants : s.participants ≡ r.participants
  pub asker : s.asker ≡ r.asker

-- the row of the key, where rows are looked up so, is there, and this holds of it
abbrev pub Shows : (RunKey → Option RunRow) → RunKey → (RunRow → Type 0) → Type 0
Shows find k P = (r : RunRow) × (find k ≡ Some r) × P r

-- the host's row of the key, in the last stage that has one
abbrev pub Has : World → ℕ → RunKey → (RunRow → Type 0) → Type 0
Has w h k P = Shows (row_at w h) k P

-- the lead asked about this run
pub record Asks (q : Question) (r : RunRow) : Type 0 where
  pub test : r.test ≡ q.test
  pub window : r.question ≡ Some q.window

-- ---- messages
-- what an order binds its sender to
abbrev pub BoundOrder : (RunKey → Option RunRow) → RunKey → OrderBody → Type 0
BoundOrder find k (order.Propose p) = Shows find p.key (λ r. Holds p r)
BoundOrder find k order.Confirm = Shows find k (λ r. IsSome r.confirmed)
BoundOrder find k (order.Material text) = Shows find k (λ r. IsSome r.started)
BoundOrder find k (order.Free q) = Shows find q.key (Asks q)
BoundOrder find k order.Cancel = Shows find k (λ r. Unit {0})
BoundOrder find k order.Result = Shows find k (λ r. Unit {0})

-- the run ended with this result
abbrev pub HasResult : List ℕ → RunRow → Type 0
HasResult text r = (e : Ending) × (r.ended ≡ Some e) × (e.body ≡ text)

-- what a reply binds its sender to
abbrev pub BoundReply : (RunKey → Option RunRow) → RunKey → OrderBody → Reply → Type 0
BoundReply find k (order.Propose p) (reply.Accepted m) = Shows find p.key (λ r. Holds p r × (r.accepted ≡ Some m))
BoundReply find k order.Confirm (reply.Confirmed m) = Shows find k (λ r. r.confirmed ≡ Some m)
BoundReply find k order.Result (reply.Result text) = Shows find k (HasResult text)
BoundReply find k body said = Unit {0}

abbrev pub BackedBy : World → Message → Option Reply → Type 0
BackedBy w l None = BoundOrder (row_at w l.asker) l.order.key l.order.body
BackedBy w l (Some said) = BoundReply (row_at w l.asked) l.order.key l.order.body said

-- the sender's rows show what the message says
abbrev pub AllBacked : World → Type 0
AllBacked w = (j : ℕ) (l : Message) → aged w.messages j ≡ Some l → BackedBy w l l.reply

-- ---- what hosts know of each other
-- the host of a name has accepted the run
abbrev pub HasAccepted : World → RunKey → List ℕ → Type 0
HasAccepted w k name = (q : ℕ) × (name ≡ w.names q) × Has w q k (λ r. IsSome r.accepted)

pub record Agrees (w : World) (h : ℕ) (k : RunKey) (r : RunRow) : Type 0 where
  -- a row of another lead has the content of the lead's accepted row
  pub foreign : k.lead ≢ h → Has w k.lead k (λ l. IsSome l.accepted × SameContent l r)
  -- an acceptance that was heard stands at the host that accepted
  pub heard : (i : ℕ) (o : Other) → slice_get r.others i ≡ Some o → IsTrue o.accepted → (name : List ℕ) × (slice_get r.participants (suc i) ≡ Some name) × HasAccepted w k name
  -- a row that is confirmed anywhere is confirmed at its lead
  pub confirmed : IsSome r.confirmed → Has w k.lead k (λ l. IsSome l.confirmed)
  -- of a row that is confirmed at its lead every participant has accepted
  pub whole : k.lead ≡ h → IsSome r.confirmed → (i : ℕ) (name : List ℕ) → slice_get r.participants i ≡ Some name → HasAccepted w k name

abbrev pub AllAccepted : World → Type 0
AllAccepted w = (h : ℕ) (k : RunKey) (r : RunRow) → row_at w h k ≡ Some r → Agrees w h k r

-- ---- once
-- the reply says that the proposal differs from the row of its key
abbrev pub SaysDiffers : Reply → Type 0
SaysDiffers (reply.Denied (Differs kept sent)) = Unit {0}
SaysDiffers said = ⊥

-- of a message with a proposal, delivered now at this clock
pub record ProposedOnce (w : World) (l : Message) (p : Proposal) (clock : ℕ) : Type 0 where
  -- where the host accepted its key once, nothing changes: no row comes, and no moment of acceptance changes
  pub still : Has w l.asked p.key (λ r. IsSome r.accepted) → (step_stage w l.asked clock (w.hosts l.asked).now.config (input.Propose l.asker p)).book ≡ (w.hosts l.asked).now.book
  pub alike : SaysDiffers (reply_now w l.asked clock (input.Propose l.asker p)) → ⊥

abbrev pub Once : World → Type 0
Once w = (j : ℕ) (l : Message) → aged w.messages j ≡ Some l → (p : Proposal) → l.order.body ≡ order.Propose p → (clock : ℕ) → ProposedOnce w l p clock

-- ---- runs that were started
-- the stage in which a row of the key was accepted first, and that row
pub record Acceptance : Type 0 where
  pub stage : Stage
  pub row : RunRow

abbrev pub acceptance : Stage → RunRow → Option ℕ → Option Acceptance
acceptance s r None = None
acceptance s r (Some m) = Some (record { stage = s; row = r })

abbrev pub accepted_in : Stage → Option RunRow → Option Acceptance
accepted_in s None = None
accepted_in s (Some r) = acceptance s r r.accepted

abbrev pub first_accepted : List Stage → RunKey → Option Acceptance
first_accepted [] k = None
first_accepted (s ∷ older) k = first_there (first_accepted older k) (accepted_in s (find_row s.book.rows k))

-- the row names an epoch, the last one of the stage, or 0 where it has none; the limits of that epoch, or the configuration's for 0,
-- permit the run at its priority
abbrev pub GrantedIn : Stage → RunKey → RunRow → Type 0
GrantedIn s k r = (i : Span) × (r.interval ≡ Some i) × (epoch_of s.book k ≡ Some (latest_epoch s.book)) × IsGrantedUnder s.config s.book (latest_epoch s.book) r.asker r.test i r.priority

-- the host accepted the run in a first stage, with the content of this row, under its own limits
abbrev pub AcceptedWithin : World → ℕ → RunKey → RunRow → Type 0
AcceptedWithin w h k r = (a : Acceptance) × (first_accepted (stages w h) k ≡ Some a) × SameContent r a.row × GrantedIn a.stage k a.row

-- a task that the host leads
abbrev pub HasTask : World → ℕ → ℕ → Task → Type 0
HasTask w h serial task = (t : TaskRow) × (find_task (w.hosts h).now.book.tasks serial ≡ Some t) × (t.task ≡ task)

-- the rule of the lead's task allows the start to the run's number; a booking has no task
abbrev pub Scheduled : World → RunKey → ℕ → Type 0
Scheduled w k start = (k.task ≡ 0) ⊎ ((task : Task) × HasTask w k.lead k.task task × IsAllowed task.rule k.number start)

pub record SafeRow (w : World) (k : RunKey) (r : RunRow) : Type 0 where
  -- the lead has it with the same content
  pub lead : Has w k.lead k (λ l. SameContent l r)
  -- at a start that its schedule allows
  pub interval : Span
  pub at : r.interval ≡ Some interval
  pub scheduled : Scheduled w k interval.start
  -- each participant accepted it, under its own limits
  pub participants : (i : ℕ) (name : List ℕ) → slice_get r.participants i ≡ Some name → (q : ℕ) × (name ≡ w.names q) × AcceptedWithin w q k r

abbrev pub SafeStarts : World → Type 0
SafeStarts w = (h : ℕ) (k : RunKey) (r : RunRow) → find_row (w.hosts h).now.book.rows k ≡ Some r → IsSome r.started → SafeRow w k r

-- ---- what was answered
-- the row of the key in the stage after the answer has this; and so has each later one, up to seven days after the row's rest
abbrev pub KeptRow : (t u : Stage) → RunKey → (RunRow → Type 0) → Type 0
KeptRow t u k P = (r : RunRow) × (find_row t.book.rows k ≡ Some r) × P r × (u.book.moment < rest_of r + keeping → Shows (find_row u.book.rows) k P)

-- the task that was posted stands, with a priority that the limits may have lowered
abbrev pub KeptTask : Stage → ℕ → Task → Type 0
KeptTask u serial task = (t : TaskRow) × (find_task u.book.tasks serial ≡ Some t) × (priority : ℤ) × (t.task ≡ record task { priority = priority })

-- what was accepted and confirmed at m
pub record IsBookedAt (m : ℕ) (p : Proposal) (r : RunRow) : Type 0 where
  pub holds : Holds p r
  pub accepted : r.accepted ≡ Some m
  pub confirmed : r.confirmed ≡ Some m

-- the proposal of the next booking over these settled rows
abbrev pub next_booking : Config → List RunRow → Class → ℤ → ℕ → ℕ → Proposal
next_booking c rows class priority start len = booking c (greatest_number c.number 0 rows + 1) class priority start len

-- what the answer names stands in the stage u, no earlier than t, the one after it; s is the stage before it
abbrev pub Keeps : (s t u : Stage) → ℕ → Input → Reply → Type 0
Keeps s t u m (input.Post task requester) (reply.Posted serial) = KeptTask u serial task
Keeps s t u m (input.Book class priority start len) (reply.Booked k preempted) = KeptRow t u k (IsBookedAt m (next_booking s.config (settled m s.book).rows class priority start len))
Keeps s t u m (input.Propose sender p) (reply.Accepted n) = KeptRow t u p.key (λ r. Holds p r × (r.accepted ≡ Some n))
Keeps s t u m (input.Confirm sender k) (reply.Confirmed n) = KeptRow t u k (λ r. r.confirmed ≡ Some n)
Keeps s t u m (input.Collect sender k) (reply.Result text) = KeptRow t u k (HasResult text)
Keeps s t u m asked said = Unit {0}

abbrev pub KeptAnswers : World → Type 0
KeptAnswers w = (j : ℕ) (a : Answer) → slice_get w.answers j ≡ Some a → (s t : Stage) → aged (stages w a.host) a.stage ≡ Some s → aged (stages w a.host) (suc a.stage) ≡ Some t →
    (i : ℕ) (u : Stage) → suc a.stage ≤ i → aged (stages w a.host) i ≡ Some u → Keeps s t u (moment_at s.book a.clock) a.input a.reply

-- over the settled book of the stage before it, a proposal of the key's lead is accepted exactly where it may be; a booking has a
-- new key, and is accepted exactly where there is a number for it and it fits
abbrev pub Fair : Config → Book → ℕ → Input → Reply → Type 0
Fair c b m (input.Propose sender p) said = (lead : List ℕ) → lead_name c sender p.key ≡ Some lead → AcceptsRun said ↔ MayAccept (place_of c b lead) b.rows m p
Fair c b m (input.Book class priority start len) said = let p = next_booking c b.rows class priority start len in
    (find_row b.rows p.key ≡ None) × (AcceptsRun said ↔ ((greatest_number c.number 0 b.rows ≢ last_booking) × Fits (place_of c b c.name) b.rows m p))
Fair c b m asked said = Unit {0}

abbrev pub FitAnswers : World → Type 0
FitAnswers w = (j : ℕ) (a : Answer) → slice_get w.answers j ≡ Some a → (s : Stage) → aged (stages w a.host) a.stage ≡ Some s →
    let m = moment_at s.book a.clock in Fair s.config (settled m s.book) m a.input a.reply

-- ---- all of it
pub record Safe (w : World) : Type 0 where
  -- no two booked runs of a host conflict, in any stage
  pub booked : Booked w
  -- each run that was started was accepted by each participant under its own limits, at a start that its schedule allows
  pub started : SafeStarts w
  -- what was answered is kept
  pub kept : KeptAnswers w
  -- what is asked is accepted exactly where it fits
  pub fit : FitAnswers w
