-- Each event keeps what hosts know of each other, and so does every run that keeps to the bounds.
use Rattle.std.specs.List.{AllByRecursion}
use Rattle.std.specs.Prelude.{◌==◌, bytes_eq, find}
use Rattle.std.proofs.Common.{◌≡◌, ◌≤◌, ℕ, Bool, true, false, cond, IsSome, List, [], ◌∷◌, length, Option, Some, None, option_map, slice_get, refl, sym, ap, ◌∙◌, subst, arith}
use Rattle.std.proofs.lemmas.Bool.Decides.{nat_tests}
use Rattle.std.proofs.lemmas.List.Elements.{recursion_from_All}
use Rattle.std.proofs.lemmas.Slice.Eq.{bytes_eq-Decides}
use Rattle.ps_time.specs.Numbers.{greatest_moment, most_result_bytes}
use Rattle.ps_time.specs.declared.key.RunKey.{RunKey}
use Rattle.run_states.specs.Life.{settled_rows}
use Rattle.run_states.specs.Rows.{find_row}
use Rattle.run_states.specs.declared.row.Ending.{Ending}
use Rattle.run_states.specs.declared.row.RunRow.{RunRow}
use Rattle.host_model.specs.Apply.{settled}
use Rattle.host_model.specs.Book.{Book, empty_book, moment_at}
use Rattle.host_model.specs.Conditions.{IsAnswer, IsInput, MayStep}
use Rattle.host_model.specs.Grown.{Grown}
use Rattle.host_model.specs.Lawful.{Lawful}
use Rattle.host_model.specs.Orders.{orders}
use Rattle.host_model.specs.Step.{step_book}
use Rattle.host_model.specs.declared.config.Config.{Config}
use Rattle.host_model.specs.declared.config.Peer.{Peer}
use Rattle.host_model.specs.declared.input.Input.{Input}
use Rattle.host_model.specs.declared.order.Order.{Order}
use Rattle.host_model.specs.declared.order.OrderBody.{OrderBody}
use Rattle.host_model.specs.declared.reply.Reply.{Reply}
use Rattle.host_model.specs.declared.input.Input.TheVariants as input
use Rattle.host_model.specs.declared.order.OrderBody.TheVariants as order
use Rattle.host_model.specs.declared.order.PeerAnswer.TheVariants as answer
use Rattle.host_model.specs.declared.reply.Reply.TheVariants as reply
use Rattle.host_model.proofs.SettledBook.{book_settled}
use Rattle.host_model.proofs.StepGrown.{step_grown}
use Rattle.world_law.specs.Events.{Cause, Cause.ByClient, Cause.ByInner, Cause.ByMessage, Cause.ByOpening, Event, Event.Client, Event.Cut, Event.Deliver, Event.Inner, Event.Lose, Event.Reconfigure, Event.Refuse, Event.Reopen, Event.Tell, CauseInBounds, InBounds, MayHappen, MayRun, Right, answer_now, answered, arrived, brings, brought_to, config_by, cut, delivered, goes_to, happens, idle_stage, input_by, is_client, is_inner, reply_now, run, sent, step_stage, stepped, told, told_from}
use Rattle.world_law.specs.Laws.{AllGrown, AllLawful, Asks, BoundOrder, BoundReply, Has, Holds, Shows}
use Rattle.world_law.specs.World.{Answer, Message, Stage, World, aged, heard_as, input_of, last_row, noted, number_of, posted, push, row_at, stages, start}
use Rattle.world_law.proofs.Carries.{grown_refl}
use Rattle.world_law.proofs.Invariant.{InputOk, Inv, Later, MessageOk, StandsOn, addressed_up, bound_up, message_up, replied_up, row_up}
use Rattle.world_law.proofs.Lawfulness.{StepsFollow, Orderly, answered_ok, cause_right, idle, lawful_now, may_step, performed, posted_ok, right_now, start_ok, step_is_lawful}
use Rattle.world_law.proofs.Messages.{answer_in, order_in}
use Rattle.world_law.proofs.Pushed.{first_set, later, pushed}
use Rattle.world_law.proofs.Shown.{holds_alike, step_shown, unsettled}
use Rattle.world_law.proofs.Stages.{aged_all}
use Rattle.world_law.proofs.Steps.{StepOk, idle_ok, step_ok}
use Rattle.world_law.proofs.Told.{Ordered, orders_told}
use Rattle.world_law.proofs.Worlds.{now_at, now_same}

-- ---- messages and answers join
module _ (w : World) where
  abbrev joined : List Message → List Answer → World
  joined ls xs = record { names = w.names; hosts = w.hosts; messages = ls; answers = xs }

  joined_later : (ls : List Message) (xs : List Answer) → Later w (joined ls xs)
  joined_later ls xs = record { rows = λ h k. grown_refl (row_at w h k); firsts = λ h k a e. e; names = λ q. refl; tasks = λ h serial t e. (t, e, refl) }

  joined_inv : (ls : List Message) (xs : List Answer) → Inv w → Orderly (joined ls xs) → ((j : ℕ) (l : Message) → aged ls j ≡ Some l → MessageOk w l) → Inv (joined ls xs)
  joined_inv ls xs inv ok each = record {
    orderly = ok;
    stage = λ h i s e. inv.stage h i s e;
    rows = λ h k r e. row_up w (joined ls xs) h k r (joined_later ls xs) (inv.rows h k r e);
    dead = λ h k r e n. (let d = inv.dead h k r e n in record { past = d.past; newer = d.newer });
    firsts = inv.firsts;
    owned = inv.owned;
    messages = λ j l e. message_up w (joined ls xs) l (joined_later ls xs) (each j l e);
  }

posted_inv : (w : World) (l : Message) → Inv w → Orderly (posted w l) → MessageOk w l → Inv (posted w l)
posted_inv w l inv ok new = joined_inv w (l ∷ w.messages) w.answers inv ok (λ j x e. aged_all (MessageOk w) l w.messages new inv.messages j x e)

noted_inv : (w : World) (a : Answer) → Inv w → Orderly (noted w a) → Inv (noted w a)
noted_inv w a inv ok = joined_inv w w.messages (a ∷ w.answers) inv ok inv.messages

-- ---- steps
module _ (follow : StepsFollow) where
  module _ (w : World) (inv : Inv w) (h clock : ℕ) (c : Config) (i : Input) (right : Right w.names h c) (bounds : InBounds c clock i) (ok : InputOk w h i) where
    may : MayStep c (w.hosts h).now.book clock i
    may = may_step w.names h c (w.hosts h).now.book clock i right (lawful_now follow w inv.orderly h) bounds

    grows : Grown (w.hosts h).now.book (step_book c (w.hosts h).now.book clock i)
    grows = step_grown c (w.hosts h).now.book clock i may

    stepping : StepOk w.names h (moment_at (w.hosts h).now.book clock) i c (w.hosts h).now.book (step_book c (w.hosts h).now.book clock i)
    stepping = step_ok w.names h c right (w.hosts h).now.book clock i may (follow c (w.hosts h).now.book clock i may) (inv.owned h)

    performed_inv : Inv (push w h (step_stage w h clock c i))
    performed_inv = pushed w inv h (moment_at (w.hosts h).now.book clock) i ok (step_stage w h clock c i) stepping (step_is_lawful follow w.names h c (w.hosts h).now.book clock i right may) grows.tasks grows.moment (performed follow w inv.orderly h clock c i right bounds)

    performed_later : Later w (push w h (step_stage w h clock c i))
    performed_later = later w inv h (moment_at (w.hosts h).now.book clock) i ok (step_stage w h clock c i) stepping (step_is_lawful follow w.names h c (w.hosts h).now.book clock i right may) grows.tasks grows.moment (performed follow w inv.orderly h clock c i right bounds)

  idle_inv : (w : World) → Inv w → (h : ℕ) (c : Config) → Right w.names h c → Inv (push w h (idle_stage w h c))
  idle_inv w inv h c right =
      let b : Book = (w.hosts h).now.book in
      pushed w inv h b.moment input.Turn tt (idle_stage w h c) (idle_ok w.names h b.moment input.Turn c b (omega arith) (inv.owned h)) (lawful_now follow w inv.orderly h) (λ serial t e. (t, e, record { serial = refl; task = refl; asker = refl; posted = refl; closed = λ a f. f })) (omega arith) (idle follow w inv.orderly h c right)

  -- ---- messages that arrive
  order_ok : (w : World) (l : Message) → BoundOrder (row_at w l.asker) l.order.key l.order.body → InputOk w l.asked (brings l None)
  order_ok w l b = go l.order.body b
    where
      go : (body : OrderBody) → BoundOrder (row_at w l.asker) l.order.key body → InputOk w l.asked (input_of l.asker l.order.key body)
      go (order.Propose p) b = b
      go order.Confirm b = b
      go (order.Free q) b = tt
      go order.Cancel b = tt
      go (order.Material text) b = tt
      go order.Result b = tt

  heard_accepted : (said : Reply) (m : ℕ) → heard_as said ≡ answer.Accepted m → said ≡ reply.Accepted m
  heard_accepted (reply.Accepted n) m e = cc
  heard_accepted said m e = cc

  reply_ok : (w : World) (l : Message) (said : Reply) → MessageOk w l → l.reply ≡ Some said → InputOk w l.asker (brings l (Some said))
  reply_ok w l said ok is = (
    l.asked,
    ok.addressed,
    λ p m body e.
        let b : BoundReply (row_at w l.asked) l.order.key (order.Propose p) (reply.Accepted m) =
        subst (λ x. BoundReply (row_at w l.asked) l.order.key x (reply.Accepted m)) body (subst (λ x. BoundReply (row_at w l.asked) l.order.key l.order.body x) (heard_accepted said m e) (ok.replied said is)) in
        subst (λ k. Has w l.asked k (λ r. IsSome r.accepted)) (ok.keyed p body) (b.0, b.1, b.2.0.accepted),
  )

  -- what a message brings is within bounds
  message_in : (w : World) → Inv w → (l : Message) → MessageOk w l → (o : Option Reply) → l.reply ≡ o → IsInput (w.hosts (goes_to l o)).now.config (brings l o)
  message_in w inv l ok None is = order_in w inv l.asker l.order.key l.order.body ok.bound (w.hosts l.asked).now.config l.asked (right_now follow w inv.orderly l.asked)
  message_in w inv l ok (Some said) is = ok.heard said is

  -- the results of a host are short
  short_now : (w : World) → Inv w → (h m : ℕ) (k : RunKey) (r : RunRow) (x : Ending) → find_row (settled m (w.hosts h).now.book).rows k ≡ Some r → r.ended ≡ Some x → length x.body ≤ most_result_bytes
  short_now w inv h m k r x at e =
      let was : Shows (find_row (w.hosts h).now.book.rows) k (λ y. y.ended ≡ Some x) = unsettled (λ y. y.ended ≡ Some x) (λ p q like f. sym like.ended ∙ f) m (w.hosts h).now.book.rows k (r, at, e) in
      (inv.rows h k was.0 (first_set (find_row (w.hosts h).now.book.rows k) (last_row (w.hosts h).before k) was.0 was.1)).short x was.2

  requested : (w : World) (inv : Inv w) (clock : ℕ) (l : Message) → MessageOk w l → clock ≤ greatest_moment → l.reply ≡ None → Inv (arrived w clock l None)
  requested w inv clock l ok low is = posted_inv v (record l { reply = Some (reply_now w l.asked clock i) }) after (posted_ok follow v (record l { reply = Some (reply_now w l.asked clock i) }) orderly) new
    where
      i : Input
      i = brings l None

      c : Config
      c = (w.hosts l.asked).now.config

      bounds : InBounds c clock i
      bounds = (low, message_in w inv l ok None is)

      b : Book
      b = (w.hosts l.asked).now.book

      right : Right w.names l.asked c
      right = right_now follow w inv.orderly l.asked

      u : World
      u = push w l.asked (step_stage w l.asked clock c i)

      v : World
      v = answered w l.asked clock i

      can : MayStep c b clock i
      can = may_step w.names l.asked c b clock i right (lawful_now follow w inv.orderly l.asked) bounds

      answers : (said : Reply) → Some (reply_now w l.asked clock i) ≡ Some said → IsAnswer (heard_as said)
      answers said e =
          let same : reply_now w l.asked clock i ≡ said = cc in
          subst (λ x. IsAnswer (heard_as x)) same (answer_in c b clock l.asker l.order.key l.order.body can (short_now w inv l.asked (moment_at b clock)))

      orderly : Orderly v
      orderly = answered_ok follow w inv.orderly l.asked clock i bounds

      stepped_inv : Inv u
      stepped_inv = performed_inv w inv l.asked clock c i right bounds (order_ok w l ok.bound)

      after : Inv v
      after = noted_inv u (answer_now w l.asked clock i) stepped_inv orderly

      up : Later w v
      up = let x = performed_later w inv l.asked clock c i right bounds (order_ok w l ok.bound) in record { rows = x.rows; firsts = x.firsts; names = x.names; tasks = x.tasks }

      shown : (said : Reply) → Some (reply_now w l.asked clock i) ≡ Some said → BoundReply (row_at v l.asked) l.order.key l.order.body said
      shown said e =
          let same : reply_now w l.asked clock i ≡ said = cc in
          let here = step_shown c b clock l.asker l.order.key l.order.body can in
          let stands : StandsOn u l.asked (step_stage w l.asked clock c i) = subst (λ s. StandsOn u l.asked s) (now_same w l.asked (step_stage w l.asked clock c i)) (stepped_inv.stage l.asked _ _ (now_at u l.asked)) in
          subst (BoundReply (row_at v l.asked) l.order.key l.order.body) same (replied_up (find_row (step_book c b clock i).rows) (row_at u l.asked) l.order.key l.order.body (reply_now w l.asked clock i) stands here)

      new : MessageOk v (record l { reply = Some (reply_now w l.asked clock i) })
      new = record {
        bound = bound_up (row_at w l.asker) (row_at v l.asker) l.order.key l.order.body (up.rows l.asker) ok.bound;
        addressed = addressed_up w v l.asker l.order.key l.order.place l.asked up ok.addressed;
        keyed = ok.keyed;
        heard = answers;
        replied = shown;
      }

  arrived_inv : (w : World) (inv : Inv w) (clock : ℕ) (l : Message) (o : Option Reply) → l.reply ≡ o → MessageOk w l → clock ≤ greatest_moment → Inv (arrived w clock l o)
  arrived_inv w inv clock l None is ok low = requested w inv clock l ok low is
  arrived_inv w inv clock l (Some said) is ok low = performed_inv w inv l.asker clock (w.hosts l.asker).now.config (brings l (Some said)) (right_now follow w inv.orderly l.asker) (low, message_in w inv l ok (Some said) is) (reply_ok w l said ok is)

  delivered_inv : (w : World) (inv : Inv w) (clock : ℕ) (o : Option Message) → ((l : Message) → o ≡ Some l → MessageOk w l) → clock ≤ greatest_moment → Inv (delivered w clock o)
  delivered_inv w inv clock None ok low = inv
  delivered_inv w inv clock (Some l) ok low = arrived_inv w inv clock l l.reply refl (ok l refl) low

  -- ---- orders that are sent
  unsettled_bound : (m : ℕ) (rows : List RunRow) (k : RunKey) (body : OrderBody) → BoundOrder (find_row (settled_rows m rows)) k body → BoundOrder (find_row rows) k body
  unsettled_bound m rows k (order.Propose p) b = unsettled (Holds p) (λ q r like h. holds_alike p q r like h) m rows p.key b
  unsettled_bound m rows k order.Confirm b = unsettled (λ r. IsSome r.confirmed) (λ q r like h. subst (λ o. IsSome o) like.confirmed h) m rows k b
  unsettled_bound m rows k (order.Material text) b = unsettled (λ r. IsSome r.started) (λ q r like h. subst (λ o. IsSome o) like.started h) m rows k b
  unsettled_bound m rows k (order.Free q) b = unsettled (Asks q) (λ x r like h. record { test = sym like.test ∙ h.test; window = sym like.question ∙ h.window }) m rows q.key b
  unsettled_bound m rows k order.Cancel b = unsettled (λ r. Unit {0}) (λ q r like h. tt) m rows k b
  unsettled_bound m rows k order.Result b = unsettled (λ r. Unit {0}) (λ q r like h. tt) m rows k b

  number_named : (names : ℕ → List ℕ) (peers : List Peer) (name : List ℕ) (n : ℕ) → AllByRecursion (λ p. p.name ≡ names p.number) peers → number_of peers name ≡ Some n → name ≡ names n
  number_named names [] name n all e = cc
  number_named names (p ∷ ps) name n all e = go (bytes_eq p.name name) refl e (number_named names ps name n all.1)
    where
      go : (b : Bool) → bytes_eq p.name name ≡ b → option_map (λ p. p.number) (cond b (Some p) (find (λ p. bytes_eq p.name name) ps)) ≡ Some n → (number_of ps name ≡ Some n → name ≡ names n) → name ≡ names n
      go true f g later =
          let number : p.number ≡ n = cc in
          let same : p.name ≡ name = (bytes_eq-Decides p.name name).0 f in
          sym same ∙ all.0 ∙ ap names number
      go false f g later = later g

  sent_ok : (w : World) (inv : Inv w) (h : ℕ) (s : Stage) → Right w.names h s.config → StandsOn w h s → (m : ℕ) (o : Order) → Ordered (settled_rows m s.book.rows) o → (asked : ℕ) → number_of s.config.peers o.to ≡ Some asked →
      MessageOk w (record { asker = h; asked = asked; order = o; reply = None })
  sent_ok w inv h s right stands m o ordered asked e =
      let name : o.to ≡ w.names asked = number_named w.names s.config.peers o.to asked (recursion_from_All (λ (p : Peer). p.name ≡ w.names p.number) s.config.peers right.peers) e in
      let there : Shows (find_row s.book.rows) o.key (λ r. slice_get r.participants o.place ≡ Some o.to) =
      unsettled (λ r. slice_get r.participants o.place ≡ Some o.to) (λ q r like f. ap (λ xs. slice_get xs o.place) (sym like.participants) ∙ f) m s.book.rows o.key ordered.addressed in
      let up = stands o.key there.0 there.1 in
      record {
        bound = bound_up (find_row s.book.rows) (row_at w h) o.key o.body stands (unsettled_bound m s.book.rows o.key o.body ordered.bound);
        addressed = (up.0, up.1, ap (λ xs. slice_get xs o.place) up.2.participants ∙ there.2 ∙ ap Some name);
        keyed = ordered.keyed;
        heard = λ said f. cc;
        replied = λ said f. cc;
      }

  sent_inv : (w : World) (inv : Inv w) (h : ℕ) (s : Stage) → Right w.names h s.config → StandsOn w h s → (m : ℕ) (o : Order) → Ordered (settled_rows m s.book.rows) o → (n : Option ℕ) → number_of s.config.peers o.to ≡ n → Inv (sent w h o n)
  sent_inv w inv h s right stands m o ordered None e = inv
  sent_inv w inv h s right stands m o ordered (Some asked) e = posted_inv w (record { asker = h; asked = asked; order = o; reply = None }) inv (posted_ok follow w _ inv.orderly) (sent_ok w inv h s right stands m o ordered asked e)

  told_inv : (w : World) (inv : Inv w) (h : ℕ) (s : Stage) → Right w.names h s.config → StandsOn w h s → (m : ℕ) (o : Option Order) → ((x : Order) → o ≡ Some x → Ordered (settled_rows m s.book.rows) x) → Inv (told w h s.config o)
  told_inv w inv h s right stands m None ordered = inv
  told_inv w inv h s right stands m (Some o) ordered = sent_inv w inv h s right stands m o (ordered o refl) (number_of s.config.peers o.to) refl

  told_from_inv : (w : World) (inv : Inv w) (h clock place : ℕ) → clock ≤ greatest_moment → (o : Option Stage) → ((s : Stage) → o ≡ Some s → Right w.names h s.config × StandsOn w h s × Lawful h s.book) → Inv (told_from w h clock place o)
  told_from_inv w inv h clock place low None ok = inv
  told_from_inv w inv h clock place low (Some s) ok =
      let x = ok s refl in
      let m : ℕ = moment_at s.book clock in
      let moment = x.2.moment in
      let lawful : Lawful h (settled m s.book) = book_settled h s.book m (omega arith) (omega (arith, moment, low)) x.2 in
      told_inv w inv h s x.0 x.1 m (slice_get (orders s.book clock) place) (λ o e. orders_told h m (settled m s.book) lawful place o e)

  -- ---- every event
  client_ok : (w : World) (h : ℕ) (i : Input) → is_client i ≡ true → InputOk w h i
  client_ok w h (input.Propose sender p) e = cc
  client_ok w h (input.Confirm sender k) e = cc
  client_ok w h (input.Heard o said) e = cc
  client_ok w h i e = tt

  inner_ok : (w : World) (h : ℕ) (i : Input) → is_inner i ≡ true → InputOk w h i
  inner_ok w h (input.Propose sender p) e = cc
  inner_ok w h (input.Confirm sender k) e = cc
  inner_ok w h (input.Heard o said) e = cc
  inner_ok w h i e = tt

  if_inv : (b : Bool) (v w : World) → (b ≡ true → Inv v) → Inv w → Inv (cond b v w)
  if_inv true v w f inv = f refl
  if_inv false v w f inv = inv

  given_if : (b : Bool) (i j : Input) → cond b (Some i) None ≡ Some j → (b ≡ true) × (i ≡ j)
  given_if true i j e = (refl, cc)
  given_if false i j e = cc

  brought_ok : (w : World) (h : ℕ) (o : Option Message) → ((l : Message) → o ≡ Some l → MessageOk w l) → (i : Input) → brought_to h o ≡ Some i → InputOk w h i
  brought_ok w h None ok i e = cc
  brought_ok w h (Some l) ok i e =
      let x = given_if (goes_to l l.reply == h) (brings l l.reply) i e in
      let host : goes_to l l.reply ≡ h = grind (arith, nat_tests, x.0) in
      subst (λ y. InputOk w h y) x.1 (subst (λ n. InputOk w n (brings l l.reply)) host (go l.reply refl))
    where
      go : (r : Option Reply) → l.reply ≡ r → InputOk w (goes_to l r) (brings l r)
      go None f = order_ok w l (ok l refl).bound
      go (Some said) f = reply_ok w l said (ok l refl) f

  brought_in : (w : World) (inv : Inv w) (h : ℕ) (o : Option Message) → ((l : Message) → o ≡ Some l → MessageOk w l) → (i : Input) → brought_to h o ≡ Some i → IsInput (w.hosts h).now.config i
  brought_in w inv h None ok i e = cc
  brought_in w inv h (Some l) ok i e =
      let x = given_if (goes_to l l.reply == h) (brings l l.reply) i e in
      let host : goes_to l l.reply ≡ h = grind (arith, nat_tests, x.0) in
      subst (λ y. IsInput (w.hosts h).now.config y) x.1 (subst (λ n. IsInput (w.hosts n).now.config (brings l l.reply)) host (message_in w inv l (ok l refl) l.reply refl))

  -- so is what a cause brings
  cause_bounds : (w : World) (inv : Inv w) (h clock : ℕ) (cause : Cause) → CauseInBounds w h clock cause → (i : Input) → input_by w h cause ≡ Some i → InBounds (config_by w h cause) clock i
  cause_bounds w inv h clock (ByClient x) bounds i e = subst (λ y. InBounds (w.hosts h).now.config clock y) (given_if (is_client x) x i e).1 bounds
  cause_bounds w inv h clock (ByInner x) bounds i e = subst (λ y. InBounds (w.hosts h).now.config clock y) (given_if (is_inner x) x i e).1 bounds
  cause_bounds w inv h clock (ByMessage j) low i e = (low, brought_in w inv h (aged w.messages j) (λ l f. inv.messages j l f) i e)
  cause_bounds w inv h clock (ByOpening c) bounds i e = let same : input.Open ≡ i = cc in subst (λ y. InBounds c clock y) same (bounds.0, tt)

  cause_ok : (w : World) (inv : Inv w) (h : ℕ) (cause : Cause) (i : Input) → input_by w h cause ≡ Some i → InputOk w h i
  cause_ok w inv h (ByClient x) i e = let t = given_if (is_client x) x i e in subst (λ y. InputOk w h y) t.1 (client_ok w h x t.0)
  cause_ok w inv h (ByInner x) i e = let t = given_if (is_inner x) x i e in subst (λ y. InputOk w h y) t.1 (inner_ok w h x t.0)
  cause_ok w inv h (ByMessage j) i e = brought_ok w h (aged w.messages j) (λ l f. inv.messages j l f) i e
  cause_ok w inv h (ByOpening c) i e = let same : input.Open ≡ i = cc in subst (λ y. InputOk w h y) same tt

  cut_inv : (w : World) (inv : Inv w) (h clock : ℕ) (c : Config) → Right w.names h c → (o : Option Input) → ((i : Input) → o ≡ Some i → InBounds c clock i × InputOk w h i) → (kept : Bool) → Inv (cut w h clock c o kept)
  cut_inv w inv h clock c right None ok kept = inv
  cut_inv w inv h clock c right (Some i) ok true = performed_inv w inv h clock c i right (ok i refl).0 (ok i refl).1
  cut_inv w inv h clock c right (Some i) ok false = idle_inv w inv h c right

  answered_inv : (w : World) (inv : Inv w) (h clock : ℕ) (i : Input) → InBounds (w.hosts h).now.config clock i → InputOk w h i → Inv (answered w h clock i)
  answered_inv w inv h clock i bounds ok =
      noted_inv (stepped w h clock i) (answer_now w h clock i) (performed_inv w inv h clock (w.hosts h).now.config i (right_now follow w inv.orderly h) bounds ok) (answered_ok follow w inv.orderly h clock i bounds)

  happens_inv : (w : World) (e : Event) → Inv w → MayHappen w e → Inv (happens w e)
  happens_inv w (Client h clock i) inv keeps = if_inv (is_client i) (answered w h clock i) w (λ b. answered_inv w inv h clock i keeps (client_ok w h i b)) inv
  happens_inv w (Tell h stage clock place) inv keeps =
      told_from_inv w inv h clock place keeps (aged (stages w h) stage) (λ s e. (inv.orderly.right h stage s e, inv.stage h stage s e, inv.orderly.lawful h stage s e))
  happens_inv w (Deliver j clock) inv keeps = delivered_inv w inv clock (aged w.messages j) (λ l e. inv.messages j l e) keeps
  happens_inv w (Inner h clock i) inv keeps = if_inv (is_inner i) (stepped w h clock i) w (λ b. performed_inv w inv h clock (w.hosts h).now.config i (right_now follow w inv.orderly h) keeps (inner_ok w h i b)) inv
  happens_inv w (Reopen h clock c) inv keeps = performed_inv w inv h clock c input.Open keeps.1 (keeps.0, tt) tt
  happens_inv w (Reconfigure h c) inv keeps = idle_inv w inv h c keeps
  happens_inv w (Cut h clock cause kept) inv keeps =
      cut_inv w inv h clock (config_by w h cause) (cause_right follow w inv.orderly h clock cause keeps) (input_by w h cause) (λ i e. (cause_bounds w inv h clock cause keeps i e, cause_ok w inv h cause i e)) kept
  happens_inv w (Lose j) inv keeps = inv
  happens_inv w (Refuse h) inv keeps = inv

  run_inv : (es : List Event) (w : World) → MayRun w es → Inv w → Inv (run es w)
  run_inv [] w keeps inv = inv
  run_inv (e ∷ es) w keeps inv = run_inv es (happens w e) keeps.1 (happens_inv w e inv keeps.0)

  start_inv : (names : ℕ → List ℕ) (configs : ℕ → Config) → ((h : ℕ) → Right names h (configs h)) → Inv (start names configs)
  start_inv names configs known = record {
    orderly = start_ok names configs known;
    stage = λ h. aged_all (λ s. StandsOn (start names configs) h s) (record { config = configs h; book = empty_book }) [] (λ k r e. cc) (λ i s e. cc);
    rows = λ h k r e. cc;
    dead = λ h k r e n. cc;
    firsts = λ h k a e. cc;
    owned = λ h serial t e. cc;
    messages = λ j l e. cc;
  }

  pub always_inv : (names : ℕ → List ℕ) (configs : ℕ → Config) → ((h : ℕ) → Right names h (configs h)) → (es : List Event) → MayRun (start names configs) es → Inv (run es (start names configs))
  always_inv names configs known es keeps = run_inv es (start names configs) keeps (start_inv names configs known)

module _ (follow : StepsFollow) (names : ℕ → List ℕ) (configs : ℕ → Config) (known : (h : ℕ) → Right names h (configs h)) (es : List Event) (keeps : MayRun (start names configs) es) where
  pub always_orderly : Orderly (run es (start names configs))
  always_orderly = (always_inv follow names configs known es keeps).orderly

  pub lawful_law : AllLawful (run es (start names configs))
  lawful_law = always_orderly.lawful

  pub grown_law : AllGrown (run es (start names configs))
  grown_law = always_orderly.grown
