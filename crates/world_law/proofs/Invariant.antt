-- What hosts know of each other in a run that keeps to the bounds, and how it stays as a world goes on.
use Rattle.std.proofs.Common.{◌≡◌, ◌≤◌, ◌≢◌, ◌<◌, ◌⊎◌, ℕ, IsSome, List, length, Option, Some, None, slice_get, suc, sym, ap, ◌∙◌, subst}
use Rattle.ps_time.specs.Numbers.{most_result_bytes}
use Rattle.ps_time.specs.Span.{Range, Span}
use Rattle.ps_time.specs.declared.key.RunKey.{RunKey}
use Rattle.plugin_core.specs.Participants.{participants}
use Rattle.run_states.specs.Rows.{find_row}
use Rattle.run_states.specs.declared.proposal.Proposal.{Proposal}
use Rattle.run_states.specs.declared.row.Ending.{Ending}
use Rattle.run_states.specs.declared.row.RunRow.{RunRow}
use Rattle.host_model.specs.Book.{Book, find_task}
use Rattle.host_model.specs.Conditions.{IsAnswer}
use Rattle.host_model.specs.Lawful.{Lawful}
use Rattle.host_model.specs.FreeTier.{IsIn}
use Rattle.host_model.specs.Allowed.{IsAllowed}
use Rattle.host_model.specs.declared.input.Input.{Input}
use Rattle.host_model.specs.declared.input.Input.TheVariants as input
use Rattle.host_model.specs.declared.order.Order.{Order}
use Rattle.host_model.specs.declared.order.OrderBody.{OrderBody}
use Rattle.host_model.specs.declared.order.OrderBody.TheVariants as order
use Rattle.host_model.specs.declared.order.PeerAnswer.{PeerAnswer}
use Rattle.host_model.specs.declared.order.PeerAnswer.TheVariants as answer
use Rattle.host_model.specs.declared.reply.Reply.{Reply}
use Rattle.host_model.specs.declared.reply.Reply.TheVariants as reply
use Rattle.host_model.specs.declared.task_row.TaskRow.{TaskRow}
use Rattle.world_law.specs.Laws.{Acceptance, Asks, BoundOrder, BoundReply, GrantedIn, Has, HasAccepted, HasResult, Holds, OfStages, Shows, first_accepted}
use Rattle.world_law.specs.World.{Message, Stage, World, aged, heard_as, row_at, stages}
use Rattle.world_law.proofs.Allowed.{HasFlag, Newer, OwnTasks, StartsIn}
use Rattle.world_law.proofs.Carries.{Carries, RowGrown}
use Rattle.world_law.proofs.Lawfulness.{Orderly}
use Rattle.world_law.proofs.Moves.{accepted_up, confirmed_up, holds_up, set_up}

-- ---- what is shown stays shown
pub shows_up : (f g : RunKey → Option RunRow) (k : RunKey) (P : RunRow → Type 0) → RowGrown (f k) (g k) → ((r s : RunRow) → Carries r s → P r → P s) → Shows f k P → Shows g k P
shows_up f g k P v up (r, e, p) = let a = v r e in (a.0, a.1, up r a.0 a.2 p)

started_up : (r s : RunRow) → Carries r s → IsSome r.started → IsSome s.started
started_up r s v e = set_up r.started s.started v.started e

pub bound_up : (f g : RunKey → Option RunRow) (k : RunKey) (body : OrderBody) → ((j : RunKey) → RowGrown (f j) (g j)) → BoundOrder f k body → BoundOrder g k body
bound_up f g k (order.Propose p) v b = shows_up f g p.key (Holds p) (v p.key) (λ r s x h. holds_up p r s x h) b
bound_up f g k order.Confirm v b = shows_up f g k (λ r. IsSome r.confirmed) (v k) (λ r s x h. confirmed_up r s x h) b
bound_up f g k (order.Material text) v b = shows_up f g k (λ r. IsSome r.started) (v k) (λ r s x h. started_up r s x h) b
bound_up f g k (order.Free q) v b = shows_up f g q.key (Asks q) (v q.key) (λ r s x h. record { test = x.test ∙ h.test; window = x.question q.window h.window }) b
bound_up f g k order.Cancel v b = shows_up f g k (λ r. Unit {0}) (v k) (λ r s x h. tt) b
bound_up f g k order.Result v b = shows_up f g k (λ r. Unit {0}) (v k) (λ r s x h. tt) b

pub replied_up : (f g : RunKey → Option RunRow) (k : RunKey) (body : OrderBody) (said : Reply) → ((j : RunKey) → RowGrown (f j) (g j)) → BoundReply f k body said → BoundReply g k body said
replied_up f g k (order.Propose p) (reply.Accepted m) v b = shows_up f g p.key (λ r. Holds p r × (r.accepted ≡ Some m)) (v p.key) (λ r s x h. (holds_up p r s x h.0, x.accepted m h.1)) b
replied_up f g k order.Confirm (reply.Confirmed m) v b = shows_up f g k (λ r. r.confirmed ≡ Some m) (v k) (λ r s x h. x.confirmed m h) b
replied_up f g k order.Result (reply.Result text) v b = shows_up f g k (HasResult text) (v k) (λ r s x h. (h.0, x.ended h.0 h.1, h.2)) b
replied_up f g k body said v b = tt

-- ---- worlds that came later
pub record Later (w v : World) : Type 0 where
  pub rows : (h : ℕ) (k : RunKey) → RowGrown (row_at w h k) (row_at v h k)
  pub firsts : (h : ℕ) (k : RunKey) (a : Acceptance) → first_accepted (stages w h) k ≡ Some a → first_accepted (stages v h) k ≡ Some a
  pub names : (q : ℕ) → v.names q ≡ w.names q
  pub tasks : (h serial : ℕ) (t : TaskRow) → find_task (w.hosts h).now.book.tasks serial ≡ Some t → (u : TaskRow) × (find_task (v.hosts h).now.book.tasks serial ≡ Some u) × (u.task ≡ t.task)

pub has_up : (w v : World) (h : ℕ) (k : RunKey) (P : RunRow → Type 0) → Later w v → ((r s : RunRow) → Carries r s → P r → P s) → Has w h k P → Has v h k P
has_up w v h k P l up x = shows_up (row_at w h) (row_at v h) k P (l.rows h k) up x

pub holds_there_up : (w v : World) (h : ℕ) (k : RunKey) (p : Proposal) → Later w v → Has w h k (Holds p) → Has v h k (Holds p)
holds_there_up w v h k p l x = has_up w v h k (Holds p) l (λ r s y z. holds_up p r s y z) x

pub accepted_there_up : (w v : World) (h : ℕ) (k : RunKey) → Later w v → Has w h k (λ r. IsSome r.accepted) → Has v h k (λ r. IsSome r.accepted)
accepted_there_up w v h k l x = has_up w v h k (λ r. IsSome r.accepted) l (λ r s y z. accepted_up r s y z) x

pub confirmed_there_up : (w v : World) (h : ℕ) (k : RunKey) → Later w v → Has w h k (λ r. IsSome r.confirmed) → Has v h k (λ r. IsSome r.confirmed)
confirmed_there_up w v h k l x = has_up w v h k (λ r. IsSome r.confirmed) l (λ r s y z. confirmed_up r s y z) x

pub has_accepted_up : (w v : World) (k : RunKey) (name : List ℕ) → Later w v → HasAccepted w k name → HasAccepted v k name
has_accepted_up w v k name l (q, n, x) = (q, n ∙ sym (l.names q), accepted_there_up w v q k l x)

-- ---- what is known of a row
-- its host accepted it in a first stage, with this content, under its own limits
abbrev pub Within : World → ℕ → RunKey → RunRow → Type 0
Within w h k r = (p : Proposal) × Holds p r × ((a : Acceptance) × (first_accepted (stages w h) k ≡ Some a) × Holds p a.row × (a.row.participants ≡ r.participants) × GrantedIn a.stage k a.row)

-- the task that the key names allows each start of the window
abbrev pub AskedOf : World → ℕ → RunKey → Range → Type 0
AskedOf w h k x = (t : TaskRow) × (find_task (w.hosts h).now.book.tasks k.task ≡ Some t) × ((s : ℕ) → IsIn x s → IsAllowed t.task.rule k.number s)

abbrev pub Timed : ℕ → RunKey → RunRow → Type 0
Timed h k r = (k.lead ≢ h) ⊎ ((k.task ≡ 0) ⊎ StartsIn r)

pub record RowOk (w : World) (h : ℕ) (k : RunKey) (r : RunRow) : Type 0 where
  -- a lawful book has it
  pub kept : (b : Book) × Lawful h b × (find_row b.rows k ≡ Some r)
  pub participants : r.participants ≡ participants r.test (w.names k.lead)
  pub first : k.lead ≡ h → slice_get r.participants 0 ≡ Some (w.names h)
  pub foreign : k.lead ≢ h → (p : Proposal) × Holds p r × Has w k.lead k (Holds p)
  pub heard : (j : ℕ) → HasFlag j r → (name : List ℕ) × (slice_get r.participants (suc j) ≡ Some name) × HasAccepted w k name
  pub confirmed : IsSome r.confirmed → Has w k.lead k (λ l. IsSome l.confirmed)
  pub whole : k.lead ≡ h → IsSome r.confirmed → (i : ℕ) (name : List ℕ) → slice_get r.participants i ≡ Some name → HasAccepted w k name
  pub question : (x : Range) → r.question ≡ Some x → AskedOf w h k x
  -- what a host leads was asked for at it, and its own results aren't too long
  pub server : k.lead ≡ h → r.asker.server ≡ w.names h
  pub short : (x : Ending) → r.ended ≡ Some x → length x.body ≤ most_result_bytes
  pub timed : IsSome r.accepted → Timed h k r
  pub within : IsSome r.accepted → Within w h k r

pub asked_up : (w v : World) (h : ℕ) (k : RunKey) (x : Range) → Later w v → AskedOf w h k x → AskedOf v h k x
asked_up w v h k x l (t, e, f) = let u = l.tasks h k.task t e in (u.0, u.1, subst (λ z. (s : ℕ) → IsIn x s → IsAllowed z.rule k.number s) (sym u.2) f)

pub within_up : (w v : World) (h : ℕ) (k : RunKey) (r : RunRow) → Later w v → Within w h k r → Within v h k r
within_up w v h k r l (p, f, (a, e, g, n, x)) = (p, f, (a, l.firsts h k a e, g, n, x))

pub row_up : (w v : World) (h : ℕ) (k : RunKey) (r : RunRow) → Later w v → RowOk w h k r → RowOk v h k r
row_up w v h k r l x = record {
  kept = x.kept;
  participants = x.participants ∙ ap (λ n. participants r.test n) (sym (l.names k.lead));
  first = λ own. x.first own ∙ ap Some (sym (l.names h));
  foreign = λ other. let y = x.foreign other in (y.0, y.1, holds_there_up w v k.lead k y.0 l y.2);
  heard = λ j f. let y = x.heard j f in (y.0, y.1, has_accepted_up w v k y.0 l y.2);
  confirmed = λ f. confirmed_there_up w v k.lead k l (x.confirmed f);
  whole = λ own f i name e. has_accepted_up w v k name l (x.whole own f i name e);
  question = λ y e. asked_up w v h k y l (x.question y e);
  server = λ own. x.server own ∙ sym (l.names h);
  short = x.short;
  timed = x.timed;
  within = λ f. within_up w v h k r l (x.within f);
}

-- ---- messages
pub record MessageOk (w : World) (l : Message) : Type 0 where
  pub bound : BoundOrder (row_at w l.asker) l.order.key l.order.body
  pub addressed : Has w l.asker l.order.key (λ r. slice_get r.participants l.order.place ≡ Some (w.names l.asked))
  pub keyed : (p : Proposal) → l.order.body ≡ order.Propose p → p.key ≡ l.order.key
  -- what was answered is an answer
  pub heard : (said : Reply) → l.reply ≡ Some said → IsAnswer (heard_as said)
  pub replied : (said : Reply) → l.reply ≡ Some said → BoundReply (row_at w l.asked) l.order.key l.order.body said

pub addressed_up : (w v : World) (h : ℕ) (k : RunKey) (place asked : ℕ) → Later w v → Has w h k (λ r. slice_get r.participants place ≡ Some (w.names asked)) → Has v h k (λ r. slice_get r.participants place ≡ Some (v.names asked))
addressed_up w v h k place asked l x = subst (λ n. Has v h k (λ r. slice_get r.participants place ≡ Some n)) (sym (l.names asked))
    (has_up w v h k (λ r. slice_get r.participants place ≡ Some (w.names asked)) l (λ r s y e. ap (λ xs. slice_get xs place) y.participants ∙ e) x)

pub message_up : (w v : World) (l : Message) → Later w v → MessageOk w l → MessageOk v l
message_up w v l g x = record {
  bound = bound_up (row_at w l.asker) (row_at v l.asker) l.order.key l.order.body (g.rows l.asker) x.bound;
  addressed = addressed_up w v l.asker l.order.key l.order.place l.asked g x.addressed;
  keyed = x.keyed;
  heard = x.heard;
  replied = λ said e. replied_up (row_at w l.asked) (row_at v l.asked) l.order.key l.order.body said (g.rows l.asked) (x.replied said e);
}

-- ---- rows that are gone
pub record Dead (w : World) (h : ℕ) (k : RunKey) (r : RunRow) : Type 0 where
  -- its start is past
  pub past : (s : Span) → r.interval ≡ Some s → s.start < (w.hosts h).now.book.moment
  -- and at its lead a later one of its task stands
  pub newer : k.lead ≡ h → Newer k (w.hosts h).now.book.rows

-- each row of a stage stands on in the last stage that has one
abbrev pub StandsOn : World → ℕ → Stage → Type 0
StandsOn w h s = (k : RunKey) → RowGrown (find_row s.book.rows k) (row_at w h k)

pub record Inv (w : World) : Type 0 where
  pub orderly : Orderly w
  pub stage : OfStages w (λ h s. StandsOn w h s)
  pub rows : (h : ℕ) (k : RunKey) (r : RunRow) → row_at w h k ≡ Some r → RowOk w h k r
  pub dead : (h : ℕ) (k : RunKey) (r : RunRow) → row_at w h k ≡ Some r → find_row (w.hosts h).now.book.rows k ≡ None → Dead w h k r
  pub firsts : (h : ℕ) (k : RunKey) (a : Acceptance) → first_accepted (stages w h) k ≡ Some a → Has w h k (λ r. IsSome r.accepted)
  pub owned : (h : ℕ) → OwnTasks (w.names h) (w.hosts h).now.book.tasks
  pub messages : (j : ℕ) (l : Message) → aged w.messages j ≡ Some l → MessageOk w l

-- ---- what an input brings from the world
-- an acceptance that is heard is one
abbrev pub HeardOk : World → ℕ → Order → PeerAnswer → Type 0
HeardOk w h o said = (q : ℕ) × Has w h o.key (λ r. slice_get r.participants o.place ≡ Some (w.names q)) × ((p : Proposal) (m : ℕ) → o.body ≡ order.Propose p → said ≡ answer.Accepted m → Has w q o.key (λ r. IsSome r.accepted))

abbrev pub InputOk : World → ℕ → Input → Type 0
InputOk w h (input.Propose sender p) = Has w sender p.key (Holds p)
InputOk w h (input.Confirm sender k) = Has w sender k (λ r. IsSome r.confirmed)
InputOk w h (input.Heard o said) = HeardOk w h o said
InputOk w h i = Unit {0}
