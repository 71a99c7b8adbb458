-- What a script sees where calls of disks may fail, and the worlds that this may be: what a fault left of a step is found out later.
use Rattle.std.specs.Prelude.{◌&&◌, ◌+◌, ◌++◌, ◌-◌, ◌==◌, ◌∷◌, Bool, List, None, Option, Some, [], count_by, false, if◌then◌else◌, length, map, max, nat_le, nat_lt, not, set, slice_index_or, true, ℕ}
use Rattle.std.specs.List.{list_any}
use Rattle.ps_disks.specs.declared.image.Image.{Image}
use Rattle.ps_disks.specs.declared.image.Image.TheVariants.{Old}
use Rattle.host_journal.specs.Crash.{is_new}
use Rattle.host_model.specs.Book.{Book}
use Rattle.host_model.specs.declared.config.Config.{Config}
use Rattle.host_model.specs.declared.input.Input.{Input}
use Rattle.host_model.specs.declared.input.Input.TheVariants as input
use Rattle.host_model.specs.declared.view.Page.TheVariants as page
use Rattle.host_model.specs.declared.reply.Reply.{Reply}
use Rattle.simulated_machine.specs.Crashed.{unsynced_in}
use Rattle.simulated_machine.specs.Held.{Held, Unsynced, armed_at, configured, syncs}
use Rattle.world_law.specs.Events.{Cause, brings}
use Rattle.world_law.specs.World.{Message, Stage, World}
use Rattle.rehearsal_script.specs.declared.script.Numbered.{Numbered}
use Rattle.rehearsal_script.specs.declared.script.Script.{Script}
use Rattle.rehearsal_script.specs.declared.script.ScriptHost.{ScriptHost}
use Rattle.rehearsal_script.specs.declared.script.ScriptLine.{ScriptLine}
use Rattle.rehearsal_script.specs.declared.script.ScriptLine.TheVariants as line
use Rattle.rehearsal_script.specs.declared.script.Stop.{Stop}
use Rattle.rehearsal_model.specs.Hosts.{first_config}
use Rattle.rehearsal_model.specs.declared.outcome.StepOutcome.{StepOutcome}
use Rattle.rehearsal_model.specs.declared.outcome.StepOutcome.TheVariants as outcome
use Rattle.rehearsal_model.specs.Moves.{Crash, Move, Outcomes, asking, attempt, flying_after, joining, landed_with, moment_of_line, receiver, stops_after, trying}
use Rattle.rehearsal_model.specs.Rehearsal.{Show, first_world, moved, retooled}
use Rattle.rehearsal_model.specs.Requests.{delete, get, post}
use Rattle.rehearsal_model.specs.Simulated.{answered, unarmed_on, crashed_at, done, fault_in, new_place, opened_anew, stage_with, stepped, stop_met}
use Rattle.rehearsal_model.specs.Seen.{Seen, disarmed, landed, message, nobody, stop_at}

pub record Simulation : Type 0 where
  -- the hosts, in the order of their declaration
  pub held_hosts : List (Held Stage)
  -- the messages of the world, in the order in which they were sent
  pub messages : List Message
  -- which of them are in flight, by their places among them, from 1 on, ascending
  pub flying : List ℕ
  -- the greatest moment of the moves so far; 0 at first
  pub last : ℕ
  -- the places of the hosts whose next step is to stop, and where it is to
  pub stops : List (ℕ × Stop)
  -- The numbers of the answers that a fault took the place of, ascending: messages of the script alone. And of those in flight.
  pub broken : List ℕ
  pub unheard : List ℕ

-- a place without a host is read as one that never acts
abbrev pub nobody_held : Held Stage
nobody_held = unarmed_on (record { state = nobody; place = new_place })

abbrev pub held_in : List (Held Stage) → ℕ → Held Stage
held_in held_hosts place = slice_index_or held_hosts place nobody_held

abbrev pub held_at : Simulation → ℕ → Held Stage
held_at b place = held_in b.held_hosts place

-- as its disks read
abbrev pub config_of : Simulation → ℕ → Config
config_of b place = (held_at b place).state.config

abbrev pub book_of : Simulation → ℕ → Book
book_of b place = (held_at b place).state.book

-- ---- what was unsynced is kept, or it isn't: that turns out for each host by its place
abbrev pub UnsyncedKept : Type 0
UnsyncedKept = ℕ → Bool

abbrev pub unsynced_stage : Stage → Option (Unsynced Stage) → Stage
unsynced_stage s None = s
unsynced_stage s (Some l) = l.state

abbrev pub chosen_stage : Bool → Held Stage → Stage
chosen_stage kept h = if kept then h.state else unsynced_stage h.state h.unsynced

-- of hosts of which the first has this place
abbrev pub chosen_from : UnsyncedKept → ℕ → List (Held Stage) → List Stage
chosen_from turns place [] = []
chosen_from turns place (h ∷ hs) = chosen_stage (turns place) h ∷ chosen_from turns (place + 1) hs

-- what is seen as it turns out so
abbrev pub seen_by : UnsyncedKept → Simulation → Seen
seen_by turns b = record { stages = chosen_from turns 0 b.held_hosts; messages = b.messages; flying = b.flying; last = b.last; stops = b.stops }

-- as the disks read
abbrev pub kept_all : UnsyncedKept
kept_all place = true

abbrev pub as_read : Simulation → Seen
as_read b = seen_by kept_all b

-- it turns out so for the host at the place
abbrev pub except_at : UnsyncedKept → ℕ → Bool → UnsyncedKept
except_at turns place kept = λ p. if p == place then kept else turns p

-- ---- what comes of a step
abbrev pub outcome_by : Option Stop → Option Reply → StepOutcome
outcome_by (Some stop) answer = outcome.Crashed
outcome_by None None = outcome.Faulted
outcome_by None (Some reply) = outcome.Answered reply

-- the stop that a step of the host at the place meets
abbrev pub stop_for : Simulation → ℕ → ℕ → Input → Option Stop
stop_for b place clock i = stop_met (stop_at (as_read b) place) (fault_in (held_at b place) clock i)

abbrev pub outcome_at : Simulation → ℕ → ℕ → Input → StepOutcome
outcome_at b place clock i = outcome_by (stop_for b place clock i) (answered (held_at b place) clock i)

abbrev pub is_answered : StepOutcome → Bool
is_answered outcome.Crashed = false
is_answered outcome.Faulted = false
is_answered (outcome.Answered reply) = true

-- ---- numbers of messages
-- those of the world and those of the script alone are numbered together
abbrev pub count_sent : Simulation → ℕ
count_sent b = length b.messages + length b.broken

abbrev pub is_broken : Simulation → ℕ → Bool
is_broken b n = list_any (λ k. k == n) b.broken

-- the place of the message of a number among those of the world
abbrev pub message_position : Simulation → ℕ → ℕ
message_position b n = n - count_by (λ k. nat_lt k n) b.broken

abbrev pub was_sent : Simulation → ℕ → Bool
was_sent b n = nat_le 1 n && nat_le n (count_sent b)

abbrev pub flies : Simulation → ℕ → Bool
flies b n = if is_broken b n then list_any (λ k. k == n) b.unheard else list_any (λ k. k == message_position b n) b.flying

abbrev pub has_come : Simulation → ℕ → Bool
has_come b n = was_sent b n && not (flies b n)

-- ---- steps
-- of the host at a place, at a clock, by what it came, and what it was asked; and the message of the world that brought it
pub record Step : Type 0 where
  pub place : ℕ
  pub clock : ℕ
  pub cause : Cause
  pub asked : Input
  pub landing : Option ℕ

abbrev pub step_by : List ScriptHost → ℕ → ℕ → Option Message → Option Step
step_by hosts n clock None = None
step_by hosts n clock (Some l) = Some (record { place = receiver hosts l; clock = clock; cause = Cause.ByMessage (n - 1); asked = brings l l.reply; landing = Some n })

-- the step that a move makes
abbrev pub step_of : List ScriptHost → Seen → Move → Option Step
step_of hosts b (Move.Asks place clock i) = Some (record { place = place; clock = clock; cause = Cause.ByClient i; asked = i; landing = None })
step_of hosts b (Move.Tries place clock i) = Some (record { place = place; clock = clock; cause = Cause.ByInner i; asked = i; landing = None })
step_of hosts b (Move.Turns place clock) = Some (record { place = place; clock = clock; cause = Cause.ByInner input.Turn; asked = input.Turn; landing = None })
step_of hosts b (Move.Arrives n clock) = step_by hosts n clock (message b n)
step_of hosts b _ = None

-- an order is to be answered, a reply isn't
abbrev pub is_unanswered : Option Reply → Bool
is_unanswered None = true
is_unanswered (Some said) = false

abbrev pub is_order : Option Message → Bool
is_order None = false
is_order (Some l) = is_unanswered l.reply

abbrev pub brings_order : Seen → Move → Bool
brings_order b (Move.Arrives n clock) = is_order (message b n)
brings_order b _ = false

abbrev pub crash_by : Step → Stop → Crash
crash_by step stop = record { place = step.place; clock = step.clock; cause = step.cause; asked = step.asked; landing = step.landing; stop = stop }

-- ---- worlds
-- how far a rehearsal has come: what is seen, and the world that it is, as what is unsynced turns out
pub record Play : Type 0 where
  pub worlds : UnsyncedKept → World
  pub simulation : Simulation

abbrev pub show_by : UnsyncedKept → Play → Show
show_by turns p = record { world = p.worlds turns; flying = p.simulation.flying; last = p.simulation.last; stops = p.simulation.stops }

-- A move, as what is unsynced turns out; and how what was unsynced before turned out then.
pub record Fork : Type 0 where
  pub from : UnsyncedKept → UnsyncedKept
  pub move : UnsyncedKept → Move

abbrev pub worlds_by : List ScriptHost → Play → Fork → UnsyncedKept → World
worlds_by hosts p f turns = (moved hosts (show_by (f.from turns) p) 0 (f.move turns)).world

-- what is unsynced stays so
abbrev pub plainly : Move → Fork
plainly move = record { from = λ turns. turns; move = λ turns. move }

-- the disks of the host at the place were synced first: what was unsynced of them is kept
abbrev pub surely : ℕ → Move → Fork
surely place move = record { from = λ turns. except_at turns place true; move = λ turns. move }

-- a stop by which no step is kept
abbrev pub never : Stop
never = record { call = 0; image = Old }

-- The call of this number behind the syncs failed: in its fourth the step may be kept, behind it it is.
abbrev pub keeps_broken : ℕ → Bool → Bool
keeps_broken number kept = if number == 4 then kept else nat_lt 3 number

abbrev pub broken_fork : Step → ℕ → Fork
broken_fork step number = record { from = λ turns. except_at turns step.place true; move = λ turns. Move.Breaks (crash_by step never) (keeps_broken number (turns step.place)) }

-- A sync failed: nothing happens, but that a message lands. The first sync may have made sure of what was unsynced.
abbrev pub is_synced : ℕ → Option (Unsynced Stage) → Bool
is_synced number None = false
is_synced number (Some l) = nat_lt 1 number && not l.second

abbrev pub landing_move : Option ℕ → Move
landing_move None = Move.Rests
landing_move (Some n) = Move.Lost n

abbrev pub sync_failed_fork : Step → ℕ → Option (Unsynced Stage) → Fork
sync_failed_fork step number unsynced = record { from = λ turns. except_at turns step.place (if is_synced number unsynced then true else turns step.place); move = λ turns. landing_move step.landing }

abbrev pub fault_fork : Held Stage → Step → ℕ → Fork
fault_fork h step number = if nat_lt (length (syncs h.ready)) number then broken_fork step (number - length (syncs h.ready)) else sync_failed_fork step number h.unsynced

-- the move, or a fault of its step in the call of this number
abbrev pub step_fork : Held Stage → Step → Move → Option ℕ → Fork
step_fork h step move None = surely step.place move
step_fork h step move (Some number) = fault_fork h step number

-- ---- a step that doesn't stop
abbrev pub fault_of : Simulation → Step → Option ℕ
fault_of b step = fault_in (held_at b step.place) step.clock step.asked

abbrev pub unless_fault : Option ℕ → List Message → List Message
unless_fault None messages = messages
unless_fault (Some number) messages = []

-- the number of the answer that a fault takes the place of
abbrev pub lost_answer : Option ℕ → Bool → ℕ → List ℕ
lost_answer None order number = []
lost_answer (Some fault) order number = if order then number ∷ [] else []

abbrev pub flying_then : Seen → Move → Step → List ℕ → Option ℕ → List ℕ
flying_then b move step more None = more
flying_then b move step more (Some number) = landed_with step.landing b.flying

-- the first fault disarms the host of its stop too
abbrev pub stops_left : Option ℕ → ℕ → List (ℕ × Stop) → List (ℕ × Stop)
stops_left None place stops = stops
stops_left (Some number) place stops = disarmed place stops

abbrev pub simulation_stepped : List ScriptHost → Simulation → Move → Step → Simulation
simulation_stepped hosts b move step = record {
  held_hosts = set b.held_hosts step.place (stepped (held_at b step.place) step.clock step.asked);
  messages = b.messages ++ unless_fault (fault_of b step) (joining hosts (as_read b) move);
  flying = flying_then (as_read b) move step (flying_after hosts (as_read b) move) (fault_of b step);
  last = b.last;
  stops = stops_left (fault_of b step) step.place b.stops;
  broken = b.broken ++ lost_answer (fault_of b step) (brings_order (as_read b) move) (count_sent b + 1);
  unheard = b.unheard ++ lost_answer (fault_of b step) (brings_order (as_read b) move) (count_sent b + 1);
}

abbrev pub worlds_stepped : List ScriptHost → Play → Move → Step → UnsyncedKept → World
worlds_stepped hosts p move step = worlds_by hosts p (step_fork (held_at p.simulation step.place) step move (fault_of p.simulation step))

-- ---- a step that stops
-- how what is unsynced turns out in an image
abbrev pub is_kept_in : ℕ → Image → Option (Unsynced Stage) → Bool
is_kept_in stop image None = true
is_kept_in stop image (Some l) = is_new (unsynced_in stop l.second image)

abbrev pub stop_fork : Held Stage → Step → Stop → Fork
stop_fork h step stop =
    if not h.ready && nat_le stop.call 2 then record { from = λ turns. except_at turns step.place (is_kept_in stop.call stop.image h.unsynced); move = λ turns. Move.Crashes (crash_by step never) }
    else surely step.place (Move.Crashes (crash_by step (record { call = stop.call - length (syncs h.ready); image = stop.image })))

abbrev pub simulation_crashed : Simulation → Step → Stop → Simulation
simulation_crashed b step stop = record b {
  held_hosts = set b.held_hosts step.place (crashed_at (held_at b step.place) step.clock step.asked stop);
  flying = landed_with step.landing b.flying;
  stops = disarmed step.place b.stops;
}

abbrev pub worlds_crashed : List ScriptHost → Play → Step → Stop → UnsyncedKept → World
worlds_crashed hosts p step stop = worlds_by hosts p (stop_fork (held_at p.simulation step.place) step stop)

-- ---- moves
abbrev pub simulation_step : List ScriptHost → Simulation → Move → Step → Option Stop → Simulation
simulation_step hosts b move step None = simulation_stepped hosts b move step
simulation_step hosts b move step (Some stop) = simulation_crashed b step stop

abbrev pub worlds_step : List ScriptHost → Play → Move → Step → Option Stop → UnsyncedKept → World
worlds_step hosts p move step None = worlds_stepped hosts p move step
worlds_step hosts p move step (Some stop) = worlds_crashed hosts p step stop

-- moves that make no step
abbrev pub simulation_rested : Simulation → Move → Simulation
simulation_rested b (Move.Retools place tools) = record b { held_hosts = set b.held_hosts place (configured stage_with (retooled tools (held_at b place).state.config) (held_at b place)) }
simulation_rested b (Move.Arrives n clock) = record b { flying = landed n b.flying }
simulation_rested b (Move.Lost n) = record b { flying = landed n b.flying }
simulation_rested b (Move.Arms place stop) = record b { stops = stops_after (as_read b) (Move.Arms place stop) }
simulation_rested b _ = b

abbrev pub simulation_by : List ScriptHost → Simulation → Move → Option Step → Simulation
simulation_by hosts b move None = simulation_rested b move
simulation_by hosts b move (Some step) = simulation_step hosts b move step (stop_for b step.place step.clock step.asked)

abbrev pub worlds_move : List ScriptHost → Play → Move → Option Step → UnsyncedKept → World
worlds_move hosts p move None = worlds_by hosts p (plainly move)
worlds_move hosts p move (Some step) = worlds_step hosts p move step (stop_for p.simulation step.place step.clock step.asked)

-- what a line does
pub data Action : Type 0 where
  Does : (move : Move) → Action
  -- of each disk of the host at the place the call of this number is to fail, counted from 1 from now on; none for 0
  Fails : (place call : ℕ) → Action
  -- an answer that a fault took the place of comes, or is lost
  Hears : (number : ℕ) → Action
  -- a host of which no call is to fail is opened again under its configuration, as after a crash between its steps
  Reopens : (place clock : ℕ) → Action

abbrev pub simulation_after : List ScriptHost → Simulation → Action → Simulation
simulation_after hosts b (Does move) = simulation_by hosts b move (step_of hosts (as_read b) move)
simulation_after hosts b (Fails place call) = record b { held_hosts = set b.held_hosts place (armed_at (held_at b place) call) }
simulation_after hosts b (Hears n) = record b { unheard = landed n b.unheard }
simulation_after hosts b (Reopens place clock) = record b { held_hosts = set b.held_hosts place (done (held_at b place) clock input.Open) }

abbrev pub worlds_action : List ScriptHost → Play → Action → UnsyncedKept → World
worlds_action hosts p (Does move) = worlds_move hosts p move (step_of hosts (as_read p.simulation) move)
worlds_action hosts p (Fails place call) = p.worlds
worlds_action hosts p (Hears n) = p.worlds
worlds_action hosts p (Reopens place clock) = worlds_by hosts p (surely place (Move.Reopens place clock))

-- at a moment
abbrev pub at_last : ℕ → Simulation → Simulation
at_last m b = record b { last = max b.last m }

abbrev pub simulation_played : List ScriptHost → Simulation → ℕ → Action → Simulation
simulation_played hosts b m action = at_last m (simulation_after hosts b action)

abbrev pub played : List ScriptHost → Play → ℕ → Action → Play
played hosts p m action = record { worlds = worlds_action hosts p action; simulation = simulation_played hosts p.simulation m action }

-- ---- the first one
abbrev pub first_simulation : List ScriptHost → Simulation
first_simulation hosts = record { held_hosts = map (λ h. opened_anew (first_config hosts h)) hosts; messages = []; flying = []; last = 0; stops = []; broken = []; unheard = [] }

-- all hosts of the script are opened at moment 0, before its first line
abbrev pub first_play : List ScriptHost → Play
first_play hosts = record { worlds = λ turns. first_world hosts; simulation = first_simulation hosts }

-- ---- lines
-- the first archive that is due is tried
abbrev pub try_at : Outcomes → Simulation → ℕ → ℕ → Action
try_at comes b place clock = Does (trying comes place clock (attempt (book_of b place) clock))

abbrev pub unless_broken : Simulation → ℕ → Action → Action → Action
unless_broken b n other action = if is_broken b n then other else action

abbrev pub action_of : Outcomes → Simulation → ScriptLine → Action
action_of comes b (line.Host place) = Does Move.Rests
action_of comes b (line.Tools host tools) = Does (Move.Retools host tools)
action_of comes b (line.Limits host limits) = Does (Move.Asks host b.last (input.Limits limits))
action_of comes b (line.Book at host class priority start len) = Does (Move.Asks host at (input.Book class priority start len))
action_of comes b (line.Post at host address body) = Does (asking host at (post (config_of b host) address body at))
action_of comes b (line.Get at host path) = Does (asking host at (get (config_of b host) path at))
action_of comes b (line.Delete at host address path) = Does (asking host at (delete (config_of b host) address path at))
action_of comes b (line.Turn at host) = Does (Move.Turns host at)
action_of comes b (line.Archive at host) = try_at comes b host at
action_of comes b (line.Crash at host stop) = Does (Move.Arms host stop)
action_of comes b (line.Fail at host call) = Fails host call
action_of comes b (line.Deliver at n) = if flies b n then unless_broken b n (Hears n) (Does (Move.Arrives (message_position b n) at)) else Does Move.Rests
action_of comes b (line.Repeat at n) = if has_come b n then unless_broken b n (Does Move.Rests) (Does (Move.Arrives (message_position b n) at)) else Does Move.Rests
action_of comes b (line.Lose n) = if flies b n then unless_broken b n (Hears n) (Does (Move.Lost (message_position b n))) else Does Move.Rests

-- somebody looks at the first page of a host
abbrev pub looking : ℕ → ℕ → Move
looking place clock = Move.Asks place clock (input.View page.Home)

abbrev pub looks : Simulation → ℕ → ℕ → Bool
looks b place clock = is_answered (outcome_at b place clock (input.View page.Home))

-- After a fault a host that is to try an archive first finds out what stands.
abbrev pub look_at : ℕ → ℕ → Action
look_at place clock = Does (looking place clock)

abbrev pub simulation_tried : Outcomes → List ScriptHost → Simulation → ℕ → ℕ → Simulation
simulation_tried comes hosts b place clock = simulation_played hosts b clock (try_at comes b place clock)

abbrev pub simulation_looked : List ScriptHost → Simulation → ℕ → ℕ → Simulation
simulation_looked hosts b place clock = simulation_played hosts b clock (look_at place clock)

abbrev pub simulation_archived : Outcomes → List ScriptHost → Simulation → ℕ → ℕ → Simulation
simulation_archived comes hosts b place clock =
    if (held_at b place).ready then simulation_tried comes hosts b place clock
    else (if looks b place clock then simulation_tried comes hosts (simulation_looked hosts b place clock) place clock else simulation_looked hosts b place clock)

abbrev pub tried : Outcomes → List ScriptHost → Play → ℕ → ℕ → Play
tried comes hosts p place clock = played hosts p clock (try_at comes p.simulation place clock)

abbrev pub looked : List ScriptHost → Play → ℕ → ℕ → Play
looked hosts p place clock = played hosts p clock (look_at place clock)

abbrev pub worlds_archived : Outcomes → List ScriptHost → Play → ℕ → ℕ → UnsyncedKept → World
worlds_archived comes hosts p place clock =
    if (held_at p.simulation place).ready then (tried comes hosts p place clock).worlds
    else (if looks p.simulation place clock then (tried comes hosts (looked hosts p place clock) place clock).worlds else (looked hosts p place clock).worlds)

abbrev pub simulation_line : Outcomes → List ScriptHost → Simulation → ScriptLine → Simulation
simulation_line comes hosts b (line.Archive at host) = simulation_archived comes hosts b host at
simulation_line comes hosts b l = simulation_played hosts b (moment_of_line l) (action_of comes b l)

abbrev pub worlds_line : Outcomes → List ScriptHost → Play → ScriptLine → UnsyncedKept → World
worlds_line comes hosts p (line.Archive at host) = worlds_archived comes hosts p host at
worlds_line comes hosts p l = worlds_action hosts p (action_of comes p.simulation l)

abbrev pub play_line : Outcomes → List ScriptHost → Play → ScriptLine → Play
play_line comes hosts p l = record { worlds = worlds_line comes hosts p l; simulation = simulation_line comes hosts p.simulation l }

-- ---- all of them
abbrev pub simulation_lines : Outcomes → List ScriptHost → Simulation → List Numbered → Simulation
simulation_lines comes hosts b [] = b
simulation_lines comes hosts b (l ∷ ls) = simulation_lines comes hosts (simulation_line comes hosts b l.line) ls

abbrev pub play_lines : Outcomes → List ScriptHost → Play → List Numbered → Play
play_lines comes hosts p [] = p
play_lines comes hosts p (l ∷ ls) = play_lines comes hosts (play_line comes hosts p l.line) ls

abbrev pub last_simulation : Outcomes → Script → Simulation
last_simulation comes script = simulation_lines comes script.hosts (first_simulation script.hosts) script.lines

-- the world of a script, as what is unsynced in the end turns out
abbrev pub world_of : Outcomes → Script → UnsyncedKept → World
world_of comes script = (play_lines comes script.hosts (first_play script.hosts) script.lines).worlds
