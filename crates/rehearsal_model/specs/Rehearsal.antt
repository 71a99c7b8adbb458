-- The worlds of rehearsals: events that moves come to, and what is told of messages and runs.
use Rattle.std.specs.Prelude.{◌+◌, ◌-◌, ◌∷◌, ◌++◌, List, None, Option, Some, [], codes, if◌then◌else◌, length, map, max, reverse, suc, zero, ℕ}
use Rattle.run_states.specs.Life.{settled_rows}
use Rattle.machine_keep.specs.Crash.{keeps_step}
use Rattle.host_model.specs.Orders.{orders}
use Rattle.host_model.specs.declared.config.Config.{Config}
use Rattle.host_model.specs.declared.input.Input.TheVariants as input
use Rattle.host_model.specs.declared.order.Order.{Order}
use Rattle.host_model.specs.declared.reply.Reply.{Reply}
use Rattle.world_law.specs.Events.{Event, run}
use Rattle.world_law.specs.World.{Message, Stage, World, start}
use Rattle.rehearsal_script.specs.declared.script.ScriptHost.{ScriptHost}
use Rattle.rehearsal_script.specs.declared.script.Stop.{Stop}
use Rattle.rehearsal_report.specs.Line.{order_kind, sent_text}
use Rattle.rehearsal_report.specs.Table.{table_text}
use Rattle.rehearsal_model.specs.Hosts.{config_numbered, first_config, name_numbered}
use Rattle.rehearsal_model.specs.Moves.{Move, flying_after, is_untold, stops_after}
use Rattle.rehearsal_model.specs.Seen.{Seen, acted, config_at, stage_at}

-- ---- the world
-- how far a rehearsal has come
pub record Show : Type 0 where
  pub world : World
  -- the numbers of the messages in flight, ascending
  pub flying : List ℕ
  -- the greatest moment of the moves so far; 0 at first
  pub last : ℕ
  -- the places of the hosts whose next step is to stop, and where it is to
  pub stops : List (ℕ × Stop)

-- what a script sees of it
abbrev pub seen : List ScriptHost → Show → Seen
seen hosts s = record { stages = map (λ h. (s.world.hosts h.number).now) hosts; messages = reverse s.world.messages; flying = s.flying; last = s.last; stops = s.stops }

-- all hosts of the script are opened at moment 0, before its first line
abbrev pub openings : List ScriptHost → List Event
openings hosts = map (λ h. Event.Reopen h.number 0 (first_config hosts h)) hosts

abbrev pub first_world : List ScriptHost → World
first_world hosts = run (openings hosts) (start (name_numbered hosts) (config_numbered hosts))

abbrev pub first_show : List ScriptHost → Show
first_show hosts = record { world = first_world hosts; flying = []; last = 0; stops = [] }

-- ---- the events of a move
abbrev pub number_at : List ScriptHost → ℕ → ℕ
number_at [] place = 0
number_at (h ∷ hs) zero = h.number
number_at (h ∷ hs) (suc place) = number_at hs place

-- the orders that are in flight already aren't told again: place is that of the first order among those of the stage
abbrev pub tells_from : Seen → ℕ → ℕ → ℕ → ℕ → List Order → List Event
tells_from b h stage clock place [] = []
tells_from b h stage clock place (o ∷ os) =
    if is_untold b o then Event.Tell h stage clock place ∷ tells_from b h stage clock (place + 1) os
    else tells_from b h stage clock (place + 1) os

-- a turn, and then what the host has to say; the stage after the turn has the number of its earlier stages
abbrev pub turn_events : Show → Seen → ℕ → ℕ → ℕ → List Event
turn_events s b h place clock =
    Event.Inner h clock input.Turn ∷ tells_from b h (suc (length (s.world.hosts h).before)) clock 0 (orders (acted (stage_at b place) clock input.Turn).book clock)

-- the configuration with other tools
abbrev pub retooled : List (List ℕ) → Config → Config
retooled tools c = record c { installed = tools }

abbrev pub events_of : List ScriptHost → Show → Move → List Event
events_of hosts s Move.Rests = []
events_of hosts s (Move.Asks place clock i) = Event.Client (number_at hosts place) clock i ∷ []
events_of hosts s (Move.Tries place clock i) = Event.Inner (number_at hosts place) clock i ∷ []
events_of hosts s (Move.Turns place clock) = turn_events s (seen hosts s) (number_at hosts place) place clock
events_of hosts s (Move.Retools place tools) = Event.Reconfigure (number_at hosts place) (retooled tools (config_at (seen hosts s) place)) ∷ []
events_of hosts s (Move.Reopens place clock) = Event.Reopen (number_at hosts place) clock (config_at (seen hosts s) place) ∷ []
events_of hosts s (Move.Arrives n clock) = Event.Deliver (n - 1) clock ∷ []
events_of hosts s (Move.Lost n) = Event.Lose (n - 1) ∷ []
events_of hosts s (Move.Arms place stop) = []
events_of hosts s (Move.Crashes c) =
    Event.Cut (number_at hosts c.place) c.clock c.cause (keeps_step c.stop.call c.stop.image) ∷ Event.Reopen (number_at hosts c.place) c.clock (config_at (seen hosts s) c.place) ∷ []
events_of hosts s (Move.Breaks c kept) = Event.Cut (number_at hosts c.place) c.clock c.cause kept ∷ []

-- a move at a moment
abbrev pub moved : List ScriptHost → Show → ℕ → Move → Show
moved hosts s m move = record { world = run (events_of hosts s move) s.world; flying = flying_after hosts (seen hosts s) move; last = max s.last m; stops = stops_after (seen hosts s) move }

-- ---- what is told
abbrev pub message_told : List ScriptHost → ℕ → Message → Option Reply → List ℕ
message_told hosts n l None = sent_text n (name_numbered hosts l.asker) (name_numbered hosts l.asked) (order_kind l.order.body)
message_told hosts n l (Some said) = sent_text n (name_numbered hosts l.asked) (name_numbered hosts l.asker) (codes "reply")

-- messages, the first of which has the number n
abbrev pub messages_told : List ScriptHost → ℕ → List Message → List ℕ
messages_told hosts n [] = []
messages_told hosts n (l ∷ ls) = message_told hosts n l l.reply ++ messages_told hosts (n + 1) ls

-- the runs of the host in this stage, settled at m
abbrev pub stage_table : ℕ → Stage → List ℕ
stage_table m stage = table_text stage.config.name m (settled_rows m stage.book.rows)
