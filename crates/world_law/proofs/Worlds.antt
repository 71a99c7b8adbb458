-- What every world keeps, whatever happens: without any condition on clocks, inputs and configurations.
use Rattle.std.proofs.Common.{◌≡◌, ◌⊎◌, inl, inr, ◌==◌, ℕ, zero, suc, Bool, true, false, cond, List, [], ◌∷◌, length, Option, Some, None, slice_get, refl, sym, ap, subst, arith}
use Rattle.std.proofs.lemmas.Bool.Decides.{nat_tests}
use Rattle.run_states.specs.Rows.{IsAscendingRows}
use Rattle.host_model.specs.Book.{empty_book}
use Rattle.host_model.specs.Lawful.{NoClash}
use Rattle.host_model.specs.Orders.{orders}
use Rattle.host_model.specs.Step.{step_book, step_reply}
use Rattle.host_model.specs.declared.config.Config.{Config}
use Rattle.host_model.specs.declared.input.Input.{Input}
use Rattle.host_model.specs.declared.input.Input.TheVariants as input
use Rattle.host_model.specs.declared.order.Order.{Order}
use Rattle.host_model.specs.declared.reply.Reply.{Reply}
use Rattle.world_law.specs.Events.{Event, Event.Client, Event.Cut, Event.Deliver, Event.Inner, Event.Lose, Event.Reconfigure, Event.Refuse, Event.Reopen, Event.Tell, answer_now, answered, arrived, brings, config_by, cut, delivered, happens, idle_stage, input_by, is_client, is_inner, run, sent, step_stage, stepped, told, told_from}
use Rattle.world_law.specs.Laws.{Booked, Keyed}
use Rattle.world_law.specs.World.{Answer, Host, Message, Stage, World, aged, noted, number_of, posted, push, stages, start}
use Rattle.world_law.proofs.BookSteps.{step_clash, step_up}
use Rattle.world_law.proofs.Stages.{aged_all, aged_last, aged_up}

-- ---- a new stage of one host
module _ (w : World) (h : ℕ) (s : Stage) where
  abbrev host_with : ℕ → Bool → Host
  host_with g b = cond b (record { now = s; before = stages w h }) (w.hosts g)

  -- a host has its old stages, or it is the one that got a new one
  pub pushed_cases : (g : ℕ) → ((g ≡ h) × (stages (push w h s) g ≡ s ∷ stages w h)) ⊎ (stages (push w h s) g ≡ stages w g)
  pushed_cases g = go (g == h) refl
    where
      go : (b : Bool) → (g == h) ≡ b → ((g ≡ h) × (stages (push w h s) g ≡ s ∷ stages w h)) ⊎ (stages (push w h s) g ≡ stages w g)
      go true e = inl (grind (arith, nat_tests), ap (λ b. (host_with g b).now ∷ (host_with g b).before) e)
      go false e = inr (ap (λ b. (host_with g b).now ∷ (host_with g b).before) e)

  -- the host that got the stage has it last
  pub stages_same : stages (push w h s) h ≡ s ∷ stages w h
  stages_same = let e : (h == h) ≡ true = grind (arith, nat_tests) in ap (λ b. (host_with h b).now ∷ (host_with h b).before) e

  pub now_same : ((push w h s).hosts h).now ≡ s
  now_same = let e : (h == h) ≡ true = grind (arith, nat_tests) in ap (λ b. (host_with h b).now) e

  -- each stage keeps its number
  pub pushed_up : (g i : ℕ) (t : Stage) → aged (stages w g) i ≡ Some t → aged (stages (push w h s) g) i ≡ Some t
  pushed_up g i t e = elim (pushed_cases g) [
    | inl c ↦ subst (λ xs. aged xs i ≡ Some t) (sym c.1) (aged_up s (stages w h) i t (subst (λ x. aged (stages w x) i ≡ Some t) c.0 e))
    | inr c ↦ subst (λ xs. aged xs i ≡ Some t) (sym c) e
  ]

  -- what holds of each stage and of the new one holds of all
  pub pushed_all : (P : ℕ → Stage → Type 0) → P h s → ((g i : ℕ) (t : Stage) → aged (stages w g) i ≡ Some t → P g t) → (g i : ℕ) (t : Stage) → aged (stages (push w h s) g) i ≡ Some t → P g t
  pushed_all P here each g i t e = elim (pushed_cases g) [
    | inl c ↦ subst (λ x. P x t) (sym c.0) (aged_all (P h) s (stages w h) here (λ j u f. each h j u f) i t (subst (λ xs. aged xs i ≡ Some t) c.1 e))
    | inr c ↦ each g i t (subst (λ xs. aged xs i ≡ Some t) c e)
  ]

-- ---- answers
-- of its host's stages, the one before an answer has the reply, and the next one the book after it
pub record Answered (w : World) (a : Answer) : Type 0 where
  pub before : Stage
  pub after : Stage
  pub at : aged (stages w a.host) a.stage ≡ Some before
  pub next : aged (stages w a.host) (suc a.stage) ≡ Some after
  pub reply : a.reply ≡ step_reply before.config before.book a.clock a.input
  pub book : after.book ≡ step_book before.config before.book a.clock a.input

answered_up : (w : World) (h : ℕ) (s : Stage) (a : Answer) → Answered w a → Answered (push w h s) a
answered_up w h s a x = record {
  before = x.before;
  after = x.after;
  at = pushed_up w h s a.host a.stage x.before x.at;
  next = pushed_up w h s a.host (suc a.stage) x.after x.next;
  reply = x.reply;
  book = x.book;
}

answer_given : (w : World) (h clock : ℕ) (i : Input) → Answered (stepped w h clock i) (answer_now w h clock i)
answer_given w h clock i =
    let s : Stage = step_stage w h clock (w.hosts h).now.config i in
    record {
      before = (w.hosts h).now;
      after = s;
      at = pushed_up w h s h (length (w.hosts h).before) (w.hosts h).now (aged_last (w.hosts h).now (w.hosts h).before);
      next = subst (λ xs. aged xs (length (stages w h)) ≡ Some s) (sym (stages_same w h s)) (aged_last s (stages w h));
      reply = refl;
      book = refl;
    }

-- one more answer changes no stage
noted_up : (w : World) (x a : Answer) → Answered w a → Answered (noted w x) a
noted_up w x a g = record { before = g.before; after = g.after; at = g.at; next = g.next; reply = g.reply; book = g.book }

-- ---- what a world keeps
pub record Sound (w : World) : Type 0 where
  pub keyed : Keyed w
  pub clash : Booked w
  pub answers : (j : ℕ) (a : Answer) → slice_get w.answers j ≡ Some a → Answered w a

pushed : (w : World) (h : ℕ) (s : Stage) → Sound w → IsAscendingRows s.book.rows → NoClash s.book.rows → Sound (push w h s)
pushed w h s ok up free = record {
  keyed = pushed_all w h s (λ g t. IsAscendingRows t.book.rows) up ok.keyed;
  clash = pushed_all w h s (λ g t. NoClash t.book.rows) free ok.clash;
  answers = λ j a e. answered_up w h s a (ok.answers j a e);
}

-- the present stage
pub now_at : (w : World) (h : ℕ) → aged (stages w h) (length (w.hosts h).before) ≡ Some (w.hosts h).now
now_at w h = aged_last (w.hosts h).now (w.hosts h).before

module _ (w : World) (ok : Sound w) where
  performed : (h clock : ℕ) (c : Config) (i : Input) → Sound (push w h (step_stage w h clock c i))
  performed h clock c i = pushed w h (step_stage w h clock c i) ok
      (step_up c (w.hosts h).now.book clock i (ok.keyed h (length (w.hosts h).before) (w.hosts h).now (now_at w h)))
      (step_clash c (w.hosts h).now.book clock i (ok.clash h (length (w.hosts h).before) (w.hosts h).now (now_at w h)))

  idle : (h : ℕ) (c : Config) → Sound (push w h (idle_stage w h c))
  idle h c = pushed w h (idle_stage w h c) ok (ok.keyed h (length (w.hosts h).before) (w.hosts h).now (now_at w h)) (ok.clash h (length (w.hosts h).before) (w.hosts h).now (now_at w h))

  answered_ok : (h clock : ℕ) (i : Input) → Sound (answered w h clock i)
  answered_ok h clock i =
      let after = performed h clock (w.hosts h).now.config i in
      record { keyed = after.keyed; clash = after.clash; answers = λ j a e. noted_up (stepped w h clock i) (answer_now w h clock i) a (first_or j a (answer_given w h clock i) after e) }
    where
      first_or : (j : ℕ) (a : Answer) → Answered (stepped w h clock i) (answer_now w h clock i) → Sound (stepped w h clock i) → slice_get (answer_now w h clock i ∷ w.answers) j ≡ Some a → Answered (stepped w h clock i) a
      first_or zero a given after e = let is : answer_now w h clock i ≡ a = cc in subst (λ x. Answered (stepped w h clock i) x) is given
      first_or (suc j) a given after e = after.answers j a e

posted_ok : (w : World) (l : Message) → Sound w → Sound (posted w l)
posted_ok w l ok = record {
  keyed = ok.keyed;
  clash = ok.clash;
  answers = λ j a e. let x = ok.answers j a e in record { before = x.before; after = x.after; at = x.at; next = x.next; reply = x.reply; book = x.book };
}

-- ---- each event
sent_ok : (w : World) (h : ℕ) (order : Order) (o : Option ℕ) → Sound w → Sound (sent w h order o)
sent_ok w h order None ok = ok
sent_ok w h order (Some asked) ok = posted_ok w _ ok

told_ok : (w : World) (h : ℕ) (c : Config) (o : Option Order) → Sound w → Sound (told w h c o)
told_ok w h c None ok = ok
told_ok w h c (Some order) ok = sent_ok w h order (number_of c.peers order.to) ok

told_from_ok : (w : World) (h clock place : ℕ) (o : Option Stage) → Sound w → Sound (told_from w h clock place o)
told_from_ok w h clock place None ok = ok
told_from_ok w h clock place (Some s) ok = told_ok w h s.config (slice_get (orders s.book clock) place) ok

arrived_ok : (w : World) (clock : ℕ) (l : Message) (o : Option Reply) → Sound w → Sound (arrived w clock l o)
arrived_ok w clock l None ok = posted_ok (answered w l.asked clock (brings l None)) _ (answered_ok w ok l.asked clock (brings l None))
arrived_ok w clock l (Some said) ok = performed w ok l.asker clock (w.hosts l.asker).now.config (brings l (Some said))

delivered_ok : (w : World) (clock : ℕ) (o : Option Message) → Sound w → Sound (delivered w clock o)
delivered_ok w clock None ok = ok
delivered_ok w clock (Some l) ok = arrived_ok w clock l l.reply ok

either_ok : (b : Bool) (v w : World) → Sound v → Sound w → Sound (cond b v w)
either_ok true v w f g = f
either_ok false v w f g = g

cut_ok : (w : World) (h clock : ℕ) (c : Config) (o : Option Input) (kept : Bool) → Sound w → Sound (cut w h clock c o kept)
cut_ok w h clock c None kept ok = ok
cut_ok w h clock c (Some i) true ok = performed w ok h clock c i
cut_ok w h clock c (Some i) false ok = idle w ok h c

happens_ok : (w : World) (e : Event) → Sound w → Sound (happens w e)
happens_ok w (Client h clock i) ok = either_ok (is_client i) (answered w h clock i) w (answered_ok w ok h clock i) ok
happens_ok w (Tell h stage clock place) ok = told_from_ok w h clock place (aged (stages w h) stage) ok
happens_ok w (Deliver j clock) ok = delivered_ok w clock (aged w.messages j) ok
happens_ok w (Inner h clock i) ok = either_ok (is_inner i) (stepped w h clock i) w (performed w ok h clock (w.hosts h).now.config i) ok
happens_ok w (Reopen h clock c) ok = performed w ok h clock c input.Open
happens_ok w (Reconfigure h c) ok = idle w ok h c
happens_ok w (Cut h clock cause kept) ok = cut_ok w h clock (config_by w h cause) (input_by w h cause) kept ok
happens_ok w (Lose j) ok = ok
happens_ok w (Refuse h) ok = ok

run_ok : (es : List Event) (w : World) → Sound w → Sound (run es w)
run_ok [] w ok = ok
run_ok (e ∷ es) w ok = run_ok es (happens w e) (happens_ok w e ok)

start_ok : (names : ℕ → List ℕ) (configs : ℕ → Config) → Sound (start names configs)
start_ok names configs = record {
  keyed = λ h. aged_all (λ s. IsAscendingRows s.book.rows) (record { config = configs h; book = empty_book }) [] tt (λ i s e. cc);
  clash = λ h. aged_all (λ s. NoClash s.book.rows) (record { config = configs h; book = empty_book }) [] (λ j k r s a b apart e f booked other at there. cc) (λ i s e. cc);
  answers = λ j a e. cc;
}

pub always_sound : (names : ℕ → List ℕ) (configs : ℕ → Config) (es : List Event) → Sound (run es (start names configs))
always_sound names configs es = run_ok es (start names configs) (start_ok names configs)

-- ---- the laws that need no more
pub keyed_law : (names : ℕ → List ℕ) (configs : ℕ → Config) (es : List Event) → Keyed (run es (start names configs))
keyed_law names configs es = (always_sound names configs es).keyed

pub booked_law : (names : ℕ → List ℕ) (configs : ℕ → Config) (es : List Event) → Booked (run es (start names configs))
booked_law names configs es = (always_sound names configs es).clash
