-- Worlds as events come: one list of events after another, and the names of the hosts.
use Rattle.std.proofs.Common.{◌≡◌, ℕ, Bool, true, false, cond, List, [], ◌∷◌, ◌++◌, Option, Some, None, slice_get, refl, ◌∙◌}
use Rattle.host_model.specs.Orders.{orders}
use Rattle.host_model.specs.declared.config.Config.{Config}
use Rattle.host_model.specs.declared.input.Input.{Input}
use Rattle.host_model.specs.declared.order.Order.{Order}
use Rattle.host_model.specs.declared.reply.Reply.{Reply}
use Rattle.world_law.specs.Events.{Event, Event.Client, Event.Cut, Event.Deliver, Event.Inner, Event.Lose, Event.Reconfigure, Event.Refuse, Event.Reopen, Event.Tell, MayRun, answered, arrived, config_by, cut, delivered, happens, input_by, is_client, is_inner, run, sent, stepped, told, told_from}
use Rattle.world_law.specs.World.{Message, Stage, World, aged, number_of, stages}

-- ---- one list after another
pub run_more : (es fs : List Event) (w : World) → run (es ++ fs) w ≡ run fs (run es w)
run_more [] fs w = refl
run_more (e ∷ es) fs w = run_more es fs (happens w e)

pub may_more : (es fs : List Event) (w : World) → MayRun w es → MayRun (run es w) fs → MayRun w (es ++ fs)
may_more [] fs w may more = more
may_more (e ∷ es) fs w may more = (may.0, may_more es fs (happens w e) may.1 more)

-- ---- names stay
abbrev Named : World → World → Type 0
Named w v = v.names ≡ w.names

either_named : (w : World) (b : Bool) (u v : World) → Named w u → Named w v → Named w (cond b u v)
either_named w true u v x y = x
either_named w false u v x y = y

sent_named : (w : World) (h : ℕ) (order : Order) (o : Option ℕ) → Named w (sent w h order o)
sent_named w h order None = refl
sent_named w h order (Some asked) = refl

told_named : (w : World) (h : ℕ) (c : Config) (o : Option Order) → Named w (told w h c o)
told_named w h c None = refl
told_named w h c (Some order) = sent_named w h order (number_of c.peers order.to)

told_from_named : (w : World) (h clock place : ℕ) (o : Option Stage) → Named w (told_from w h clock place o)
told_from_named w h clock place None = refl
told_from_named w h clock place (Some s) = told_named w h s.config (slice_get (orders s.book clock) place)

arrived_named : (w : World) (clock : ℕ) (l : Message) (o : Option Reply) → Named w (arrived w clock l o)
arrived_named w clock l None = refl
arrived_named w clock l (Some said) = refl

delivered_named : (w : World) (clock : ℕ) (o : Option Message) → Named w (delivered w clock o)
delivered_named w clock None = refl
delivered_named w clock (Some l) = arrived_named w clock l l.reply

cut_named : (w : World) (h clock : ℕ) (c : Config) (o : Option Input) (kept : Bool) → Named w (cut w h clock c o kept)
cut_named w h clock c None kept = refl
cut_named w h clock c (Some i) true = refl
cut_named w h clock c (Some i) false = refl

happens_named : (w : World) (e : Event) → Named w (happens w e)
happens_named w (Client h clock i) = either_named w (is_client i) (answered w h clock i) w refl refl
happens_named w (Tell h stage clock place) = told_from_named w h clock place (aged (stages w h) stage)
happens_named w (Deliver j clock) = delivered_named w clock (aged w.messages j)
happens_named w (Inner h clock i) = either_named w (is_inner i) (stepped w h clock i) w refl refl
happens_named w (Reopen h clock c) = refl
happens_named w (Reconfigure h c) = refl
happens_named w (Cut h clock cause kept) = cut_named w h clock (config_by w h cause) (input_by w h cause) kept
happens_named w (Lose j) = refl
happens_named w (Refuse h) = refl

pub run_named : (es : List Event) (w : World) → (run es w).names ≡ w.names
run_named [] w = refl
run_named (e ∷ es) w = run_named es (happens w e) ∙ happens_named w e
