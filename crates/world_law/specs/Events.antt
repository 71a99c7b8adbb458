-- What may happen in a world, and what a run of it keeps to.
use Rattle.std.specs.Prelude.{◌==◌, ◌∷◌, ◌≡◌, ◌≤◌, All, Bool, List, None, Option, Some, [], false, if◌then◌else◌, length, slice_get, true, ℕ}
use Rattle.ps_time.specs.Numbers.{greatest_moment}
use Rattle.host_model.specs.Conditions.{IsConfig, IsInput}
use Rattle.host_model.specs.Orders.{orders}
use Rattle.host_model.specs.Step.{step_book, step_reply}
use Rattle.host_model.specs.declared.config.Config.{Config}
use Rattle.host_model.specs.declared.input.Input.{Input}
use Rattle.host_model.specs.declared.input.Input.TheVariants as input
use Rattle.host_model.specs.declared.order.Order.{Order}
use Rattle.host_model.specs.declared.reply.Reply.{Reply}
use Rattle.world_law.specs.World.{Answer, Message, Stage, World, aged, heard_as, input_of, noted, number_of, posted, push, stages}

-- where a step may come from
pub data Cause : Type 0 where
  ByClient : (asked : Input) → Cause
  ByInner : (due : Input) → Cause
  -- the message of this number, counted from 0 as they were sent
  ByMessage : (message : ℕ) → Cause
  ByOpening : (config : Config) → Cause

-- the clocks are in seconds since 1970 UTC
pub data Event : Type 0 where
  -- a client or an operator asks, and is answered
  Client : (h clock : ℕ) → (asked : Input) → Event
  -- an order of the book of an earlier stage is sent: the one at this place of the list of its orders at a clock
  Tell : (h stage clock place : ℕ) → Event
  -- a message arrives, at any time and any number of times
  Deliver : (message clock : ℕ) → Event
  -- the host does what is due, or tried an archive
  Inner : (h clock : ℕ) → (due : Input) → Event
  -- the host is opened under this configuration
  Reopen : (h clock : ℕ) → (config : Config) → Event
  -- a running host gets this configuration
  Reconfigure : (h : ℕ) → (config : Config) → Event
  -- a step was cut in the middle: it is kept whole or not at all, and nobody is answered
  Cut : (h clock : ℕ) → (cause : Cause) → (kept : Bool) → Event
  -- a message gets lost on its way
  Lose : (message : ℕ) → Event
  -- the host takes nothing in
  Refuse : (h : ℕ) → Event

-- what a client or an operator may ask
abbrev pub is_client : Input → Bool
is_client (input.Book class priority start len) = true
is_client (input.Post task requester) = true
is_client (input.Cancel serial requester) = true
is_client (input.View page) = true
is_client (input.Limits limits) = true
is_client _ = false

-- what a host does of itself
abbrev pub is_inner : Input → Bool
is_inner input.Turn = true
is_inner (input.Tried key index good retry) = true
is_inner _ = false

-- ---- steps
-- the stage after an input
abbrev pub step_stage : World → ℕ → ℕ → Config → Input → Stage
step_stage w h clock c i = record { config = c; book = step_book c (w.hosts h).now.book clock i }

-- the same book, under a configuration
abbrev pub idle_stage : World → ℕ → Config → Stage
idle_stage w h c = record { config = c; book = (w.hosts h).now.book }

-- what the host answers now
abbrev pub reply_now : World → ℕ → ℕ → Input → Reply
reply_now w h clock i = step_reply (w.hosts h).now.config (w.hosts h).now.book clock i

abbrev pub answer_now : World → ℕ → ℕ → Input → Answer
answer_now w h clock i = record { host = h; stage = length (w.hosts h).before; clock = clock; input = i; reply = reply_now w h clock i }

-- a step that nobody is told of
abbrev pub stepped : World → ℕ → ℕ → Input → World
stepped w h clock i = push w h (step_stage w h clock (w.hosts h).now.config i)

-- a step that is answered
abbrev pub answered : World → ℕ → ℕ → Input → World
answered w h clock i = noted (stepped w h clock i) (answer_now w h clock i)

-- ---- messages
-- an order to a host that is no peer of the sender isn't sent
abbrev pub sent : World → ℕ → Order → Option ℕ → World
sent w h order None = w
sent w h order (Some asked) = posted w (record { asker = h; asked = asked; order = order; reply = None })

-- one of the orders of a stage, where there is one
abbrev pub told : World → ℕ → Config → Option Order → World
told w h c None = w
told w h c (Some order) = sent w h order (number_of c.peers order.to)

abbrev pub told_from : World → ℕ → ℕ → ℕ → Option Stage → World
told_from w h clock place None = w
told_from w h clock place (Some s) = told w h s.config (slice_get (orders s.book clock) place)

-- the input that a message brings
abbrev pub brings : Message → Option Reply → Input
brings l None = input_of l.asker l.order.key l.order.body
brings l (Some reply) = input.Heard l.order (heard_as reply)

-- the host to which it goes
abbrev pub goes_to : Message → Option Reply → ℕ
goes_to l None = l.asked
goes_to l (Some reply) = l.asker

-- an order is carried out, answered, and replied to; a reply is heard
abbrev pub arrived : World → ℕ → Message → Option Reply → World
arrived w clock l None =
    let i = brings l None in posted (answered w l.asked clock i) (record l { reply = Some (reply_now w l.asked clock i) })
arrived w clock l (Some reply) = stepped w l.asker clock (brings l (Some reply))

abbrev pub delivered : World → ℕ → Option Message → World
delivered w clock None = w
delivered w clock (Some l) = arrived w clock l l.reply

-- ---- causes
-- what a message to this host brings
abbrev pub brought_to : ℕ → Option Message → Option Input
brought_to h None = None
brought_to h (Some l) = if goes_to l l.reply == h then Some (brings l l.reply) else None

abbrev pub input_by : World → ℕ → Cause → Option Input
input_by w h (ByClient i) = if is_client i then Some i else None
input_by w h (ByInner i) = if is_inner i then Some i else None
input_by w h (ByMessage j) = brought_to h (aged w.messages j)
input_by w h (ByOpening c) = Some input.Open

-- the configuration under which a cause has the host act
abbrev pub config_by : World → ℕ → Cause → Config
config_by w h (ByOpening c) = c
config_by w h cause = (w.hosts h).now.config

abbrev pub cut : World → ℕ → ℕ → Config → Option Input → Bool → World
cut w h clock c None kept = w
cut w h clock c (Some i) true = push w h (step_stage w h clock c i)
cut w h clock c (Some i) false = push w h (idle_stage w h c)

-- ---- events
abbrev pub happens : World → Event → World
happens w (Client h clock i) = if is_client i then answered w h clock i else w
happens w (Tell h stage clock place) = told_from w h clock place (aged (stages w h) stage)
happens w (Deliver j clock) = delivered w clock (aged w.messages j)
happens w (Inner h clock i) = if is_inner i then stepped w h clock i else w
happens w (Reopen h clock c) = push w h (step_stage w h clock c input.Open)
happens w (Reconfigure h c) = push w h (idle_stage w h c)
happens w (Cut h clock cause kept) = cut w h clock (config_by w h cause) (input_by w h cause) kept
happens w (Lose j) = w
happens w (Refuse h) = w

-- the world after events, the first one first
abbrev pub run : List Event → World → World
run [] w = w
run (e ∷ es) w = run es (happens w e)

-- ---- what a run keeps to
-- the configuration is one that a host may have, and speaks of this host and of its peers under their own numbers and names
pub record Right (names : ℕ → List ℕ) (h : ℕ) (c : Config) : Type 0 where
  pub config : IsConfig c
  pub number : c.number ≡ h
  pub name : c.name ≡ names h
  pub peers : All (λ p. p.name ≡ names p.number) c.peers

-- clock and input are within the bounds of those that a host with this configuration may be given
abbrev pub InBounds : Config → ℕ → Input → Type 0
InBounds c clock i = (clock ≤ greatest_moment) × IsInput c i

abbrev pub CauseInBounds : World → ℕ → ℕ → Cause → Type 0
CauseInBounds w h clock (ByClient i) = InBounds (w.hosts h).now.config clock i
CauseInBounds w h clock (ByInner i) = InBounds (w.hosts h).now.config clock i
CauseInBounds w h clock (ByMessage j) = clock ≤ greatest_moment
CauseInBounds w h clock (ByOpening c) = (clock ≤ greatest_moment) × Right w.names h c

abbrev pub MayHappen : World → Event → Type 0
MayHappen w (Client h clock i) = InBounds (w.hosts h).now.config clock i
MayHappen w (Tell h stage clock place) = clock ≤ greatest_moment
MayHappen w (Deliver j clock) = clock ≤ greatest_moment
MayHappen w (Inner h clock i) = InBounds (w.hosts h).now.config clock i
MayHappen w (Reopen h clock c) = (clock ≤ greatest_moment) × Right w.names h c
MayHappen w (Reconfigure h c) = Right w.names h c
MayHappen w (Cut h clock cause kept) = CauseInBounds w h clock cause
MayHappen w (Lose j) = Unit {0}
MayHappen w (Refuse h) = Unit {0}

-- each event keeps to the bounds, in the world that the earlier ones left
abbrev pub MayRun : World → List Event → Type 0
MayRun w [] = Unit {0}
MayRun w (e ∷ es) = MayHappen w e × MayRun (happens w e) es
