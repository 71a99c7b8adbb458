-- What was answered is kept: tasks for ever, rows for seven days after their rest.
use Rattle.std.specs.List.{range_with_len}
use Rattle.std.specs.Prelude.{◌==◌, nat_lt}
use Rattle.std.proofs.Common.{◌≡◌, ◌≤◌, ◌+◌, ◌++◌, ℕ, ℤ, suc, Bool, true, false, cond, List, [], ◌∷◌, length, map, Option, Some, None, option_map, refl, sym, ap, ◌∙◌, subst, arith}
use Rattle.std.proofs.lemmas.Bool.Decides.{nat_tests}
use Rattle.ps_time.specs.Numbers.{most_tasks}
use Rattle.ps_time.specs.declared.asker.Verdict.{Verdict}
use Rattle.ps_time.specs.declared.asker.Verdict.TheVariants.{Permitted}
use Rattle.ps_time.specs.declared.class.Class.{Class}
use Rattle.ps_time.specs.declared.key.RunKey.{RunKey}
use Rattle.plugin_core.specs.Participants.{participants}
use Rattle.limit_apply.specs.Limits.{admits_of}
use Rattle.run_states.specs.Life.{confirm_row}
use Rattle.run_states.specs.Rows.{find_row}
use Rattle.run_states.specs.TaskRows.{greatest_number}
use Rattle.run_states.specs.declared.proposal.Proposal.{Proposal}
use Rattle.run_states.specs.declared.row.RunRow.{RunRow}
use Rattle.run_states.specs.declared.why.Denial.{Denial}
use Rattle.run_states.specs.declared.why.Denial.TheVariants.{Full}
use Rattle.run_states.specs.declared.why.What.TheVariants.{Numbers}
use Rattle.task_spec.specs.declared.task.Task.{Task}
use Rattle.host_model.specs.Apply.{apply, book_after, settled}
use Rattle.host_model.specs.Book.{Book, find_task, latest_epoch, limits_in, moment_at}
use Rattle.host_model.specs.Booking.{book_run, booked_as, booking, booking_outcome, last_booking}
use Rattle.host_model.specs.Conditions.{MayStep}
use Rattle.host_model.specs.Fits.{denial_of, place_of}
use Rattle.host_model.specs.Grown.{Grown}
use Rattle.host_model.specs.Lawful.{Lawful}
use Rattle.host_model.specs.NewRow.{accepted_row}
use Rattle.host_model.specs.Post.{if_admitted, if_known, posted, posted_row, poster, unknown_host, unless_full}
use Rattle.host_model.specs.Propose.{answered}
use Rattle.host_model.specs.Step.{step_book, step_reply}
use Rattle.host_model.specs.declared.change.Change.TheVariants.{Accepted, Confirmed}
use Rattle.host_model.specs.declared.config.Config.{Config}
use Rattle.host_model.specs.declared.input.Input.{Input}
use Rattle.host_model.specs.declared.reply.Outcome.{Outcome}
use Rattle.host_model.specs.declared.reply.Reply.{Reply}
use Rattle.host_model.specs.declared.task_row.TaskRow.{TaskRow}
use Rattle.host_model.specs.declared.input.Input.TheVariants as input
use Rattle.host_model.specs.declared.order.OrderBody.TheVariants as order
use Rattle.host_model.specs.declared.reply.Reply.TheVariants as reply
use Rattle.host_model.proofs.AnswerLemmas.{booking_new}
use Rattle.host_model.proofs.Keyed.{key_same}
use Rattle.host_model.proofs.Standing.{changed_key, changed_row, find_row-map}
use Rattle.world_law.specs.Events.{Event, InBounds, MayRun, Right, run}
use Rattle.world_law.specs.Laws.{BoundReply, HasResult, Holds, IsBookedAt, Keeps, KeptAnswers, KeptRow, KeptTask, Shows, next_booking}
use Rattle.world_law.specs.World.{Stage, World, start}
use Rattle.world_law.proofs.Carries.{Carries, of_evolves}
use Rattle.world_law.proofs.Keeping.{always_orderly}
use Rattle.world_law.proofs.Lawfulness.{StepsFollow, Orderly, may_step}
use Rattle.world_law.proofs.Moves.{holds_up}
use Rattle.world_law.proofs.NewRows.{accepted_now}
use Rattle.world_law.proofs.Shown.{step_shown}
use Rattle.world_law.proofs.Worlds.{Sound, always_sound}

-- ---- rows
kept_row : (t u : Stage) (k : RunKey) (P : RunRow → Type 0) → ((r s : RunRow) → Carries r s → P r → P s) → Grown t.book u.book → Shows (find_row t.book.rows) k P → KeptRow t u k P
kept_row t u k P up grown (r, at, p) = (r, at, p, λ young. (let x = grown.rows k r at young in (x.row, x.found, up r x.row (of_evolves r x.row x.evolves) p)))

-- ---- bookings
-- the row of a run that was accepted and confirmed at once
booked_now : (m : ℕ) (b : Book) (p : Proposal) (hosts : List (List ℕ)) (epoch : ℕ) → find_row b.rows p.key ≡ None → Shows (find_row (apply m (Confirmed p.key) (apply m (Accepted p hosts epoch) b)).rows) p.key (IsBookedAt m p)
booked_now m b p hosts epoch new =
    let a : Book = apply m (Accepted p hosts epoch) b in
    let n : RunRow = accepted_row m p hosts in
    let f : RunRow → RunRow = changed_row m a.tasks (Confirmed p.key) a.rows in
    let at : find_row (apply m (Confirmed p.key) a).rows p.key ≡ Some (f n) = find_row-map f (changed_key m a.tasks (Confirmed p.key) a.rows) a.rows p.key ∙ ap (option_map f) (accepted_now m b p hosts epoch new) in
    let same : f n ≡ confirm_row m n = ap (λ t. cond t (confirm_row m n) n) (key_same p.key) in (
      f n,
      at,
      subst (λ r. IsBookedAt m p r) (sym same) (record {
        holds = record { key = refl; test = refl; tool = refl; interval = refl; priority = refl; asker = refl; accepted = refl };
        accepted = refl;
        confirmed = refl;
      }),
    )

module _ (c : Config) (b : Book) (m : ℕ) (class : Class) (priority : ℤ) (begin len : ℕ) (k : RunKey) (preempted : List RunKey) where
  abbrev s : Book
  s = settled m b

  abbrev p : Proposal
  p = booking c (greatest_number c.number 0 s.rows + 1) class priority begin len

  shown_by : (o : Option Denial) → (booking_outcome c s p o).reply ≡ reply.Booked k preempted → Shows (find_row (book_after b (record { moment = m; list = (booking_outcome c s p o).list })).rows) k (IsBookedAt m p)
  shown_by (Some d) e = cc
  shown_by None e =
      let key : p.key ≡ k = cc in
      subst (λ j. Shows (find_row (apply m (Confirmed p.key) (apply m (Accepted p (participants p.test c.name) (latest_epoch s)) s)).rows) j (IsBookedAt m p)) key
      (booked_now m s p (participants p.test c.name) (latest_epoch s) (booking_new c s class priority begin len))

  pub booked_shown : (book_run c s m class priority begin len).reply ≡ reply.Booked k preempted → Shows (find_row (book_after b (record { moment = m; list = (book_run c s m class priority begin len).list })).rows) k (IsBookedAt m p)
  booked_shown = go (greatest_number c.number 0 s.rows == last_booking)
    where
      go : (t : Bool) → let o = cond t (answered (reply.Denied (Full Numbers (greatest_number c.number 0 s.rows)))) (booked_as c s m p) in
          o.reply ≡ reply.Booked k preempted → Shows (find_row (book_after b (record { moment = m; list = o.list })).rows) k (IsBookedAt m p)
      go true e = cc
      go false e = shown_by (denial_of (place_of c s c.name) s.rows m p) e

-- ---- tasks
-- serials from n on: none of them is a later one
serials_below : (tasks : List TaskRow) (n serial : ℕ) → map (λ t. t.serial) tasks ≡ range_with_len n (length tasks) → n + length tasks ≤ serial → find_task tasks serial ≡ None
serials_below [] n serial e low = refl
serials_below (t ∷ ts) n serial e low =
    let rest : map (λ t. t.serial) ts ≡ range_with_len (n + 1) (length ts) = cc in
    let high : n + 1 + length ts ≤ serial = omega (arith, low) in
    go (t.serial == serial) refl (serials_below ts (n + 1) serial rest high)
  where
    first : t.serial ≡ n
    first = cc

    go : (b : Bool) → (t.serial == serial) ≡ b → find_task ts serial ≡ None → cond b (Some t) (find_task ts serial) ≡ None
    go true f rest = let same : t.serial ≡ serial = grind (arith, nat_tests, f) in absurd (omega (arith, first, same, low))
    go false f rest = rest

task_comes : (tasks : List TaskRow) (n : TaskRow) → find_task tasks n.serial ≡ None → find_task (tasks ++ n ∷ []) n.serial ≡ Some n
task_comes [] n e = let same : (n.serial == n.serial) ≡ true = grind (arith, nat_tests) in ap (λ b. cond b (Some n) None) same
task_comes (t ∷ ts) n e = go (t.serial == n.serial) e (task_comes ts n)
  where
    go : (b : Bool) → cond b (Some t) (find_task ts n.serial) ≡ None → (find_task ts n.serial ≡ None → find_task (ts ++ n ∷ []) n.serial ≡ Some n) → cond b (Some t) (find_task (ts ++ n ∷ []) n.serial) ≡ Some n
    go true f later = cc
    go false f later = later f

-- the task that was posted now
abbrev HasPosted : Book → ℕ → Task → Type 0
HasPosted b serial task = (t : TaskRow) × (find_task b.tasks serial ≡ Some t) × (priority : ℤ) × (t.task ≡ record task { priority = priority })

module _ (c : Config) (self : ℕ) (b : Book) (lawful : Lawful self b) (m : ℕ) (task : Task) (requester : List ℕ) (serial : ℕ) where
  abbrev after : Outcome → Book
  after o = book_after b (record { moment = m; list = o.list })

  posted_shown : (few : Bool) → let n = posted_row c (settled m b) m task (poster c requester) in let o = cond few (posted n) (answered (reply.TasksFull most_tasks)) in o.reply ≡ reply.Posted serial → HasPosted (after o) serial task
  posted_shown false e = cc
  posted_shown true e =
      let n : TaskRow = posted_row c (settled m b) m task (poster c requester) in
      let same : n.serial ≡ serial = cc in
      let none : find_task b.tasks n.serial ≡ None = serials_below b.tasks 1 n.serial lawful.serials (omega arith) in
      subst (λ j. HasPosted (after (posted n)) j task) same (n, task_comes b.tasks n none, n.task.priority, refl)

  admitted_shown : (v : Verdict) → let o = if_admitted v (unless_full c (settled m b) m task (poster c requester)) in o.reply ≡ reply.Posted serial → HasPosted (after o) serial task
  admitted_shown (Permitted index) e = posted_shown (nat_lt (length (settled m b).tasks) most_tasks) e
  admitted_shown v e = cc

  known_shown : (u : Option (List ℕ)) → let o = if_known u (if_admitted (admits_of (limits_in c (settled m b)) (poster c requester) task.test) (unless_full c (settled m b) m task (poster c requester))) in o.reply ≡ reply.Posted serial → HasPosted (after o) serial task
  known_shown (Some name) e = cc
  known_shown None e = admitted_shown (admits_of (limits_in c (settled m b)) (poster c requester) task.test) e

kept_task : (t u : Stage) (serial : ℕ) (task : Task) → Grown t.book u.book → HasPosted t.book serial task → KeptTask u serial task
kept_task t u serial task grown (x, at, priority, same) = let y = grown.tasks serial x at in (y.0, y.1, priority, y.2.task ∙ same)

-- ---- every answer
module _ (s t u : Stage) (clock : ℕ) (grown : Grown t.book u.book) where
  abbrev m : ℕ
  m = moment_at s.book clock

  keeps : (i : Input) (said : Reply) → MayStep s.config s.book clock i → said ≡ step_reply s.config s.book clock i → t.book ≡ step_book s.config s.book clock i → Keeps s t u (moment_at s.book clock) i said
  keeps (input.Post task requester) (reply.Posted serial) may told book =
      kept_task t u serial task grown (subst (λ b. HasPosted b serial task) (sym book) (known_shown s.config s.config.number s.book may.book (moment_at s.book clock) task requester serial (unknown_host s.config task.test) (sym told)))
  keeps (input.Book class priority begin len) (reply.Booked k preempted) may told book =
      kept_row t u k (IsBookedAt (moment_at s.book clock) (next_booking s.config (settled (moment_at s.book clock) s.book).rows class priority begin len))
      (λ r q v x. record { holds = holds_up _ r q v x.holds; accepted = v.accepted _ x.accepted; confirmed = v.confirmed _ x.confirmed }) grown
      (subst (λ b. Shows (find_row b.rows) k (IsBookedAt (moment_at s.book clock) (next_booking s.config (settled (moment_at s.book clock) s.book).rows class priority begin len))) (sym book)
      (booked_shown s.config s.book (moment_at s.book clock) class priority begin len k preempted (sym told)))
  keeps (input.Propose sender p) (reply.Accepted n) may told book =
      kept_row t u p.key (λ r. Holds p r × (r.accepted ≡ Some n)) (λ r q v x. (holds_up p r q v x.0, v.accepted n x.1)) grown
      (subst (λ b. BoundReply (find_row b.rows) p.key (order.Propose p) (reply.Accepted n)) (sym book)
      (subst (BoundReply (find_row (step_book s.config s.book clock (input.Propose sender p)).rows) p.key (order.Propose p)) (sym told) (step_shown s.config s.book clock sender p.key (order.Propose p) may)))
  keeps (input.Confirm sender k) (reply.Confirmed n) may told book =
      kept_row t u k (λ r. r.confirmed ≡ Some n) (λ r q v x. v.confirmed n x) grown
      (subst (λ b. BoundReply (find_row b.rows) k order.Confirm (reply.Confirmed n)) (sym book) (subst (BoundReply (find_row (step_book s.config s.book clock (input.Confirm sender k)).rows) k order.Confirm) (sym told) (step_shown s.config s.book clock sender k order.Confirm may)))
  keeps (input.Collect sender k) (reply.Result text) may told book =
      kept_row t u k (HasResult text) (λ r q v x. (x.0, v.ended x.0 x.1, x.2)) grown
      (subst (λ b. BoundReply (find_row b.rows) k order.Result (reply.Result text)) (sym book) (subst (BoundReply (find_row (step_book s.config s.book clock (input.Collect sender k)).rows) k order.Result) (sym told) (step_shown s.config s.book clock sender k order.Result may)))
  keeps i said may told book = tt

pub kept_of : (w : World) → Sound w → Orderly w → KeptAnswers w
kept_of w sound ok j a e s t at next i u late there =
    let x = sound.answers j a e in
    let before : x.before ≡ s = cc (x.at, at) in
    let after : x.after ≡ t = cc (x.next, next) in
    let asked = ok.asked j a e in
    let stage : asked.0 ≡ s = cc (asked.1, at) in
    let may : MayStep s.config s.book a.clock a.input =
    may_step w.names a.host s.config s.book a.clock a.input (ok.right a.host a.stage s at) (ok.lawful a.host a.stage s at) (subst (λ y. InBounds y.config a.clock a.input) stage asked.2) in
    let told : a.reply ≡ step_reply s.config s.book a.clock a.input = x.reply ∙ ap (λ y. step_reply y.config y.book a.clock a.input) before in
    let book : t.book ≡ step_book s.config s.book a.clock a.input = ap (λ y. y.book) (sym after) ∙ x.book ∙ ap (λ y. step_book y.config y.book a.clock a.input) before in
    keeps s t u a.clock (ok.grown a.host (suc a.stage) i t u late next there) a.input a.reply may told book

pub kept_law : StepsFollow → (names : ℕ → List ℕ) (configs : ℕ → Config) → ((h : ℕ) → Right names h (configs h)) → (es : List Event) → MayRun (start names configs) es → KeptAnswers (run es (start names configs))
kept_law follow names configs known es may = kept_of (run es (start names configs)) (always_sound names configs es) (always_orderly follow names configs known es may)
