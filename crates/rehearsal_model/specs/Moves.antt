-- What lines of scripts do in a world.
use Rattle.std.specs.Prelude.{◌&&◌, ◌+◌, ◌==◌, ◌∷◌, ◌++◌, Bool, Err, List, None, Ok, Option, Result, Some, [], false, filter, filter_map, length, not, option_and_then, option_map, slice_get, true, unwrap_or, ℕ}
use Rattle.std.specs.List.{list_any, position_or_len}
use Rattle.ps_time.specs.declared.key.RunKey.{RunKey}
use Rattle.ps_doors.specs.declared.archiver.Tried.{Tried}
use Rattle.ps_doors.specs.declared.archiver.Tried.TheVariants.{Failed, Succeeded}
use Rattle.ps_http.specs.declared.message.Response.{Response}
use Rattle.host_model.specs.Archives.{attempt_of, due}
use Rattle.host_model.specs.Book.{Book}
use Rattle.host_model.specs.Orders.{orders}
use Rattle.host_model.specs.declared.config.Config.{Config}
use Rattle.host_model.specs.declared.input.Input.{Input}
use Rattle.host_model.specs.declared.input.Input.TheVariants as input
use Rattle.host_model.specs.declared.lead.Due.{Due}
use Rattle.host_model.specs.declared.order.Order.{Order}
use Rattle.host_model.specs.declared.order.OrderBody.{OrderBody}
use Rattle.host_model.specs.declared.order.OrderBody.TheVariants as order
use Rattle.host_model.specs.declared.reply.Reply.{Reply}
use Rattle.world_law.specs.Events.{Cause, brings, goes_to}
use Rattle.world_law.specs.World.{Message, Stage, number_of}
use Rattle.rehearsal_script.specs.Told.{moment_told}
use Rattle.rehearsal_script.specs.declared.script.ScriptHost.{ScriptHost}
use Rattle.rehearsal_script.specs.declared.script.ScriptLine.{ScriptLine}
use Rattle.rehearsal_script.specs.declared.script.Stop.{Stop}
use Rattle.rehearsal_model.specs.Seen.{Seen, acted, disarmed, landed, message, reply_at, stage_at}

-- a step that stops: of the host at a place, at a clock, by what it came, and what it was asked
pub record Crash : Type 0 where
  pub place : ℕ
  pub clock : ℕ
  pub cause : Cause
  pub asked : Input
  -- the number of the message that brought it
  pub landing : Option ℕ
  pub stop : Stop

-- a host is told by its place among the script's hosts, a message by its number
pub data Move : Type 0 where
  -- nothing happens
  Rests : Move
  -- somebody asks a host
  Asks : (place clock : ℕ) (asked : Input) → Move
  -- an archiver was tried
  Tries : (place clock : ℕ) (outcome : Input) → Move
  -- a host does what is due, and then says what it has to say
  Turns : (place clock : ℕ) → Move
  -- a host gets other tools
  Retools : (place : ℕ) (tools : List (List ℕ)) → Move
  -- a host is opened again under its configuration, as after a crash
  Reopens : (place clock : ℕ) → Move
  Arrives : (number clock : ℕ) → Move
  Lost : (number : ℕ) → Move
  -- the next step of a host is to stop
  Arms : (place : ℕ) (stop : Stop) → Move
  -- a step stops, and its host is opened again
  Crashes : (crash : Crash) → Move
  -- a step meets a fault of a disk, at which its host isn't opened again: it is kept, or it isn't
  Breaks : (crash : Crash) (kept : Bool) → Move

-- ---- requests
-- one that is refused as it is read asks nothing
abbrev pub asking : ℕ → ℕ → Result Input Response → Move
asking place clock (Ok i) = Asks place clock i
asking place clock (Err response) = Rests

-- ---- archives
-- what comes of an attempt, by the archiver's name, the settings, and how many attempts were made before
abbrev pub Outcomes : Type 0
Outcomes = List ℕ → List ℕ → ℕ → Tried

abbrev pub is_good : Tried → Bool
is_good Succeeded = true
is_good _ = false

abbrev pub retry_of : Tried → Option ℕ
retry_of (Failed error retry) = retry
retry_of _ = None

abbrev pub tried_as : Due → Tried → Input
tried_as d t = input.Tried d.key d.index (is_good t) (retry_of t)

-- at the first archive that is due
abbrev pub attempt : Book → ℕ → Option Due
attempt book clock = option_and_then (λ pair. attempt_of book pair.0 pair.1) (slice_get (due book clock) 0)

abbrev pub trying : Outcomes → ℕ → ℕ → Option Due → Move
trying comes place clock None = Rests
trying comes place clock (Some d) = Tries place clock (tried_as d (comes d.archiver d.settings d.tried))

-- ---- what a turn sends
abbrev pub same_key : RunKey → RunKey → Bool
same_key k j = (k.lead == j.lead) && ((k.task == j.task) && ((k.number == j.number) && (k.attempt == j.attempt)))

abbrev pub same_kind : OrderBody → OrderBody → Bool
same_kind (order.Free q) (order.Free r) = true
same_kind (order.Propose p) (order.Propose q) = true
same_kind order.Confirm order.Confirm = true
same_kind order.Cancel order.Cancel = true
same_kind (order.Material s) (order.Material t) = true
same_kind order.Result order.Result = true
same_kind _ _ = false

-- the message is this order, or the reply to it
abbrev pub is_of : Order → Message → Bool
is_of o l = same_key o.key l.order.key && ((o.place == l.order.place) && same_kind o.body l.order.body)

-- a message of this number is of the order
abbrev pub tells : Order → Option Message → Bool
tells o None = false
tells o (Some l) = is_of o l

-- neither the order nor the reply to it is in flight
abbrev pub is_untold : Seen → Order → Bool
is_untold b o = not (list_any (λ n. tells o (message b n)) b.flying)

-- the message by which a host with this configuration sends the order; none where it knows no such peer
abbrev pub message_of : Config → Order → Option Message
message_of c o = option_map (λ asked. record { asker = c.number; asked = asked; order = o; reply = None }) (number_of c.peers o.to)

-- what the host in this stage sends at a clock, where these messages are in flight
abbrev pub sent_by : Seen → Stage → ℕ → List Message
sent_by b s clock = filter_map (message_of s.config) (filter (is_untold b) (orders s.book clock))

-- what the host at the place sends after its turn
abbrev pub sent_at : Seen → ℕ → ℕ → List Message
sent_at b place clock = sent_by b (acted (stage_at b place) clock input.Turn) clock

-- the numbers of so many messages more
abbrev pub numbers_from : ℕ → List Message → List ℕ
numbers_from n [] = []
numbers_from n (l ∷ ls) = n ∷ numbers_from (n + 1) ls

-- ---- what the host of a number is asked by a message
-- the place of the host that has the number
abbrev pub place_numbered : List ScriptHost → ℕ → ℕ
place_numbered hosts number = position_or_len (λ h. h.number == number) hosts

abbrev pub receiver : List ScriptHost → Message → ℕ
receiver hosts l = place_numbered hosts (goes_to l l.reply)

-- the reply to an order that arrives
abbrev pub reply_to : List ScriptHost → Seen → ℕ → Message → Reply
reply_to hosts b clock l = reply_at b (receiver hosts l) clock (brings l l.reply)

-- an order is replied to, a reply isn't
abbrev pub replied : List ScriptHost → Seen → ℕ → Message → Option Reply → List Message
replied hosts b clock l None = record l { reply = Some (reply_to hosts b clock l) } ∷ []
replied hosts b clock l (Some said) = []

abbrev pub replies : List ScriptHost → Seen → ℕ → Option Message → List Message
replies hosts b clock None = []
replies hosts b clock (Some l) = replied hosts b clock l l.reply

-- the messages that join by a move
abbrev pub joining : List ScriptHost → Seen → Move → List Message
joining hosts b (Turns place clock) = sent_at b place clock
joining hosts b (Arrives n clock) = replies hosts b clock (message b n)
joining hosts b _ = []

-- ---- afterwards
-- what is to stop afterwards
abbrev pub stops_after : Seen → Move → List (ℕ × Stop)
stops_after b (Arms place stop) = disarmed place b.stops ++ (place, stop) ∷ []
stops_after b (Crashes c) = disarmed c.place b.stops
stops_after b _ = b.stops

-- ---- what is in flight afterwards
abbrev pub landed_with : Option ℕ → List ℕ → List ℕ
landed_with None flying = flying
landed_with (Some n) flying = landed n flying

abbrev pub still_flying : Seen → Move → List ℕ
still_flying b (Arrives n clock) = landed n b.flying
still_flying b (Lost n) = landed n b.flying
still_flying b (Crashes c) = landed_with c.landing b.flying
still_flying b (Breaks c kept) = landed_with c.landing b.flying
still_flying b _ = b.flying

abbrev pub flying_after : List ScriptHost → Seen → Move → List ℕ
flying_after hosts b move = still_flying b move ++ numbers_from (length b.messages + 1) (joining hosts b move)

-- ---- the moment of a line
-- 0 where it tells none
abbrev pub moment_of_line : ScriptLine → ℕ
moment_of_line l = unwrap_or (moment_told l) 0
