-- What a line leaves where calls of disks may fail: a rehearsal goes on, whichever way what is unsynced turns out.
use Rattle.std.specs.List.{AllByRecursion}
use Rattle.std.specs.Prelude.{◌&&◌, All, codes, if◌then◌else◌, max, nat_le, not, set}
use Rattle.std.proofs.Common.{◌≡◌, ◌≤◌, ◌<◌, ◌-◌, ◌+◌, ◌∙◌, ◌∷◌, ℕ, Bool, true, false, List, [], length, None, Option, Some, ap, arith, map, refl, subst, sym, Result, Ok, Err}
use Rattle.std.proofs.lemmas.List.{length-map, length-set, set-get_or}
use Rattle.std.proofs.lemmas.List.Elements.{All-from_recursion, All-set}
use Rattle.ps_time.specs.Numbers.{greatest_moment}
use Rattle.ps_http.specs.declared.message.Response.{Response}
use Rattle.host_model.specs.Conditions.{IsInput}
use Rattle.host_model.specs.declared.config.Config.{Config}
use Rattle.host_model.specs.declared.input.Input.{Input}
use Rattle.host_model.specs.declared.input.Input.TheVariants as input
use Rattle.host_model.specs.declared.lead.Due.{Due}
use Rattle.simulated_machine.specs.Held.{Held, armed_at, configured, syncs}
use Rattle.world_law.specs.Events.{Cause, brings, is_client}
use Rattle.world_law.specs.World.{Message, Stage}
use Rattle.api_peer.specs.Orderly.{IsSized}
use Rattle.rehearsal_script.specs.Lawful.{AreLawfulHosts, IsLawfulLine}
use Rattle.rehearsal_script.specs.declared.script.ScriptHost.{ScriptHost}
use Rattle.rehearsal_script.specs.declared.script.ScriptLine.{ScriptLine}
use Rattle.rehearsal_script.specs.declared.script.ScriptLine.TheVariants as line
use Rattle.rehearsal_script.specs.declared.script.Stop.{Stop}
use Rattle.rehearsal_model.specs.After.{arrived_at, crashed_stage, moved_seen, opened_stage, stages_after}
use Rattle.rehearsal_model.specs.Hosts.{first_config}
use Rattle.rehearsal_model.specs.Moves.{Move, Outcomes, asking, attempt, joining, landed_with, moment_of_line, receiver, replies, still_flying, stops_after, trying}
use Rattle.rehearsal_model.specs.Plays.{IsPlay, IsSimulated, MayArchive, MayAct, MayLine, MayMake, MayTry}
use Rattle.rehearsal_model.specs.Reaching.{MayMove}
use Rattle.rehearsal_model.specs.Rehearsal.{retooled, seen}
use Rattle.rehearsal_model.specs.Requests.{delete, get, post}
use Rattle.rehearsal_model.specs.Simulations.{Action, Fork, Play, Simulation, Step, UnsyncedKept, as_read, at_last, book_of, except_at, chosen_from, chosen_stage, config_of, crash_by, action_of, first_play, flies, has_come, is_broken, is_kept_in, kept_all, message_position, looked, looking, looks, never, play_line, played, plainly, simulation_archived, simulation_by, simulation_crashed, simulation_looked, simulation_step, simulation_tried, held_at, seen_by, show_by, step_by, stop_for, surely, tried, try_at, unless_broken, worlds_archived, worlds_by, worlds_crashed, worlds_move, worlds_step}
use Rattle.rehearsal_model.specs.Simulated.{Left, done, left_behind, left_unsynced, new_left, opened_anew, opened_on, stage_with}
use Rattle.rehearsal_model.specs.Seen.{Seen, acted, disarmed, landed, message, nobody}
use Rattle.rehearsal_model.proofs.AskLemmas.{asked_by_client, asked_sized}
use Rattle.rehearsal_model.proofs.FirstLemmas.{first_is, first_reaches}
use Rattle.rehearsal_model.proofs.MoveLemmas.{IsMove, asking_is, moment_within, trying_is}
use Rattle.rehearsal_model.proofs.PlayLemmas.{CanStep, can_break, forked, may_break, may_same, move_same, replied_same, held_host_each, seen_quiet, sent_same, stepped_on, stepped_same}
use Rattle.rehearsal_model.proofs.ReachLemmas.{receiver_within}
use Rattle.rehearsal_model.proofs.SimulationLemmas.{except_here, unarmed_held_host, chosen_set, chosen_still, config_chosen, configured_chosen, configured_held_host, opened_chosen, stage_chosen, unsynced_left_is}

-- ---- a step that stops
module _ (hosts : List ScriptHost) (lawful : AreLawfulHosts hosts) (p : Play) (is : IsPlay hosts p) (m : ℕ) (low : m ≤ greatest_moment) (step : Step) (can : CanStep hosts (as_read p.simulation) step) (stop : Stop) where
  abbrev b : Simulation
  b = p.simulation

  abbrev place : ℕ
  place = step.place

  abbrev here : Held Stage
  here = held_at b place

  each : (k : ℕ) → IsSimulated (held_at b k)
  each k = held_host_each b.held_hosts is.held_hosts k

  opened_held_host : (left : Left) → IsSimulated (opened_on left step.clock)
  opened_held_host left = unarmed_held_host (opened_on left step.clock) refl

  -- the simulation behind it, on what was left of the disks
  abbrev behind : Left → Simulation
  behind left = record b { held_hosts = set b.held_hosts place (opened_on left step.clock); flying = landed_with step.landing b.flying; last = max b.last m; stops = disarmed place b.stops }

  module _ (kept : Bool) (cut : Stop) (left : Left) (same : crashed_stage cut (chosen_stage kept here) step.clock step.asked ≡ acted left.state step.clock input.Open) where
    abbrev crashing : Fork
    crashing = record { from = λ t. except_at t place kept; move = λ t. Move.Crashes (crash_by step cut) }

    crashed_stages : (t : UnsyncedKept) → stages_after hosts (seen_by (except_at t place kept) b) (Move.Crashes (crash_by step cut)) ≡ chosen_from t 0 (set b.held_hosts place (opened_on left step.clock))
    crashed_stages t =
        ap (λ (s : Stage). set (chosen_from (except_at t place kept) 0 b.held_hosts) place (crashed_stage cut s step.clock step.asked)) (stage_chosen (except_at t place kept) b place ∙ ap (λ (k : Bool). chosen_stage k here) (except_here t place kept))
        ∙ (ap (set (chosen_from (except_at t place kept) 0 b.held_hosts) place) (same ∙ sym (opened_chosen (t place) left step.clock))
        ∙ sym (chosen_set t place kept b.held_hosts (opened_on left step.clock)))

    crashes_on : IsPlay hosts (record { worlds = worlds_by hosts p crashing; simulation = behind left })
    crashes_on =
        forked hosts lawful p is m low crashing (behind left)
        (λ t. can_break hosts b each (except_at t place kept) step cut can)
        (λ t. may_break hosts b each (except_at t place kept) step cut can)
        (λ t. seen_quiet hosts (seen_by (except_at t place kept) b) m (Move.Crashes (crash_by step cut)) (chosen_from t 0 (set b.held_hosts place (opened_on left step.clock))) (landed_with step.landing b.flying) (disarmed place b.stops) (crashed_stages t) refl refl refl)
        (All-set IsSimulated b.held_hosts place (opened_on left step.clock) (opened_held_host left) is.held_hosts)
        (length-set b.held_hosts place (opened_on left step.clock) ∙ is.long)

  pub crashed_on : IsPlay hosts (record { worlds = worlds_crashed hosts p step stop; simulation = at_last m (simulation_crashed b step stop) })
  crashed_on = by (not here.ready && nat_le stop.call 2)
    where
      by : (early : Bool) → IsPlay hosts (record {
        worlds = worlds_by hosts p (if early then record { from = λ t. except_at t place (is_kept_in stop.call stop.image here.unsynced); move = λ t. Move.Crashes (crash_by step never) } else surely place (Move.Crashes (crash_by step (record { call = stop.call - length (syncs here.ready); image = stop.image }))));
        simulation = behind (if early then left_unsynced here stop.call stop.image else left_behind here step.clock step.asked (stop.call - length (syncs here.ready)) stop.image);
      })
      by true = crashes_on (is_kept_in stop.call stop.image here.unsynced) never (left_unsynced here stop.call stop.image) (ap (λ (s : Stage). acted s step.clock input.Open) (sym (unsynced_left_is here stop.call stop.image)))
      by false = crashes_on true (record { call = stop.call - length (syncs here.ready); image = stop.image }) (left_behind here step.clock step.asked (stop.call - length (syncs here.ready)) stop.image) refl

-- ---- moves
-- that lines make
abbrev pub IsOfLine : Move → Type 0
IsOfLine (Move.Reopens place clock) = ⊥
IsOfLine (Move.Crashes c) = ⊥
IsOfLine (Move.Breaks c kept) = ⊥
IsOfLine _ = Unit {0}

module _ (hosts : List ScriptHost) (lawful : AreLawfulHosts hosts) (p : Play) (is : IsPlay hosts p) (m : ℕ) (low : m ≤ greatest_moment) where
  abbrev simulation : Simulation
  simulation = p.simulation

  every : (k : ℕ) → IsSimulated (held_at simulation k)
  every k = held_host_each simulation.held_hosts is.held_hosts k

  -- one that makes a step
  module _ (move : Move) (step : Step) (can : CanStep hosts (as_read simulation) step) (moves : IsMove hosts (as_read simulation) move) (may : MayMove (as_read simulation) move)
      (stages : (t : UnsyncedKept) → stages_after hosts (seen_by (except_at t step.place true) simulation) move ≡ chosen_from t 0 (set simulation.held_hosts step.place (done (held_at simulation step.place) step.clock step.asked)))
      (joins : (t : UnsyncedKept) → joining hosts (seen_by (except_at t step.place true) simulation) move ≡ joining hosts (as_read simulation) move)
      (flies : (t : UnsyncedKept) → still_flying (seen_by t simulation) move ≡ landed_with step.landing simulation.flying) (stops : (t : UnsyncedKept) → stops_after (seen_by t simulation) move ≡ simulation.stops) where
    step_on : IsPlay hosts (record { worlds = worlds_step hosts p move step (stop_for simulation step.place step.clock step.asked); simulation = at_last m (simulation_step hosts simulation move step (stop_for simulation step.place step.clock step.asked)) })
    step_on = by (stop_for simulation step.place step.clock step.asked)
      where
        by : (o : Option Stop) → IsPlay hosts (record { worlds = worlds_step hosts p move step o; simulation = at_last m (simulation_step hosts simulation move step o) })
        by None = stepped_on hosts lawful p is m low step can move moves may stages joins flies stops
        by (Some stop) = crashed_on hosts lawful p is m low step can stop

  -- one that makes none
  rested_on : (move : Move) (later : Simulation) → IsMove hosts (as_read simulation) move → MayMove (as_read simulation) move → ((t : UnsyncedKept) → moved_seen hosts (seen_by t simulation) m move ≡ seen_by t later)
      → All IsSimulated later.held_hosts → length later.held_hosts ≡ length hosts → IsPlay hosts (record { worlds = worlds_by hosts p (plainly move); simulation = later })
  rested_on move later moves may leaves held_hosts long =
      forked hosts lawful p is m low (plainly move) later (λ t. move_same hosts simulation every kept_all t move moves) (λ t. may_same hosts simulation every kept_all t move may) leaves held_hosts long

  -- another host at a place, which is seen as before
  same_stages : (place : ℕ) (g : Held Stage) → ((k : Bool) → chosen_stage k g ≡ chosen_stage k (held_at simulation place)) → (t : UnsyncedKept) → chosen_from t 0 simulation.held_hosts ≡ chosen_from t 0 (set simulation.held_hosts place g)
  same_stages place g same t =
      let xs : List Stage = chosen_from t 0 simulation.held_hosts in
      sym (chosen_still t place simulation.held_hosts g ∙ (ap (set xs place) (same (t place) ∙ sym (stage_chosen t simulation place)) ∙ set-get_or xs place nobody))

  -- ---- other tools
  module _ (place : ℕ) (tools : List (List ℕ)) where
    abbrev config : Config
    config = retooled tools (held_at simulation place).state.config

    retooled_stages : (t : UnsyncedKept) → stages_after hosts (seen_by t simulation) (Move.Retools place tools) ≡ chosen_from t 0 (set simulation.held_hosts place (configured stage_with config (held_at simulation place)))
    retooled_stages t =
        let s : Stage = chosen_stage (t place) (held_at simulation place) in
        ap (λ (x : Stage). set (chosen_from t 0 simulation.held_hosts) place (record { config = retooled tools x.config; book = x.book })) (stage_chosen t simulation place)
        ∙ (ap (λ (c : Config). set (chosen_from t 0 simulation.held_hosts) place (record { config = retooled tools c; book = s.book })) (config_chosen (held_at simulation place) (every place) (t place))
        ∙ (ap (set (chosen_from t 0 simulation.held_hosts) place) (sym (configured_chosen config (held_at simulation place) (t place)))
        ∙ sym (chosen_still t place simulation.held_hosts (configured stage_with config (held_at simulation place)))))

  -- ---- a message that arrives
  module _ (n clock : ℕ) (moves : clock ≤ greatest_moment) where
    arrives_on : (o : Option Message) → message (as_read simulation) n ≡ o → IsPlay hosts (record { worlds = worlds_move hosts p (Move.Arrives n clock) (step_by hosts n clock o); simulation = at_last m (simulation_by hosts simulation (Move.Arrives n clock) (step_by hosts n clock o)) })
    arrives_on None e =
        rested_on (Move.Arrives n clock) (record simulation { flying = landed n simulation.flying; last = max simulation.last m }) moves tt
        (λ t. seen_quiet hosts (seen_by t simulation) m (Move.Arrives n clock) (chosen_from t 0 simulation.held_hosts) (landed n simulation.flying) simulation.stops (ap (arrived_at hosts (seen_by t simulation) clock) e) (ap (replies hosts (seen_by t simulation) clock) e) refl refl)
        is.held_hosts is.long
    arrives_on (Some l) e =
        let place : ℕ = receiver hosts l in
        let step : Step = record { place = place; clock = clock; cause = Cause.ByMessage (n - 1); asked = brings l l.reply; landing = Some n } in
        let there : message (seen hosts (show_by kept_all p)) n ≡ Some l = ap (λ (x : Seen). message x n) (is.sees kept_all) ∙ e in
        step_on (Move.Arrives n clock) step
        (record { within = receiver_within hosts lawful (show_by kept_all p) (is.reaches kept_all) n l there; low = moves; has = (l, e, refl, refl); may = tt })
        moves tt
        (λ t. ap (arrived_at hosts (seen_by (except_at t place true) simulation) clock) e ∙ stepped_same hosts simulation place t clock (brings l l.reply) place refl)
        (λ t. ap (replies hosts (seen_by (except_at t place true) simulation) clock) e ∙ (replied_same hosts simulation place t clock l refl l.reply ∙ sym (ap (replies hosts (as_read simulation) clock) e)))
        (λ t. refl) (λ t. refl)

  -- ---- every move of a line
  pub does_on : (move : Move) → IsOfLine move → IsMove hosts (as_read simulation) move → MayMove (as_read simulation) move → IsPlay hosts (played hosts p m (Action.Does move))
  does_on Move.Rests line moves may =
      rested_on Move.Rests (record simulation { last = max simulation.last m }) tt tt (λ t. seen_quiet hosts (seen_by t simulation) m Move.Rests (chosen_from t 0 simulation.held_hosts) simulation.flying simulation.stops refl refl refl refl) is.held_hosts is.long
  does_on (Move.Asks place clock i) line moves may =
      step_on (Move.Asks place clock i) (record { place = place; clock = clock; cause = Cause.ByClient i; asked = i; landing = None })
      (record { within = moves.0; low = moves.1; has = (refl, moves.2, moves.3); may = may }) moves may
      (λ t. stepped_same hosts simulation place t clock i place refl) (λ t. refl) (λ t. refl) (λ t. refl)
  does_on (Move.Tries place clock i) line moves may =
      step_on (Move.Tries place clock i) (record { place = place; clock = clock; cause = Cause.ByInner i; asked = i; landing = None })
      (record { within = moves.0; low = moves.1; has = (refl, moves.2); may = may }) moves may
      (λ t. stepped_same hosts simulation place t clock i place refl) (λ t. refl) (λ t. refl) (λ t. refl)
  does_on (Move.Turns place clock) line moves may =
      step_on (Move.Turns place clock) (record { place = place; clock = clock; cause = Cause.ByInner input.Turn; asked = input.Turn; landing = None })
      (record { within = moves.0; low = moves.1; has = (refl, refl); may = tt }) moves may
      (λ t. stepped_same hosts simulation place t clock input.Turn place refl) (λ t. sent_same hosts simulation place t clock) (λ t. refl) (λ t. refl)
  does_on (Move.Retools place tools) line moves may =
      let c : Config = retooled tools (held_at simulation place).state.config in
      rested_on (Move.Retools place tools) (record simulation { held_hosts = set simulation.held_hosts place (configured stage_with c (held_at simulation place)); last = max simulation.last m }) moves tt
      (λ t. seen_quiet hosts (seen_by t simulation) m (Move.Retools place tools) (chosen_from t 0 (set simulation.held_hosts place (configured stage_with c (held_at simulation place)))) simulation.flying simulation.stops (retooled_stages place tools t) refl refl refl)
      (All-set IsSimulated simulation.held_hosts place (configured stage_with c (held_at simulation place)) (configured_held_host c (held_at simulation place)) is.held_hosts) (length-set simulation.held_hosts place (configured stage_with c (held_at simulation place)) ∙ is.long)
  does_on (Move.Reopens place clock) line moves may = absurd line
  does_on (Move.Arrives n clock) line moves may = arrives_on n clock moves (message (as_read simulation) n) refl
  does_on (Move.Lost n) line moves may =
      rested_on (Move.Lost n) (record simulation { flying = landed n simulation.flying; last = max simulation.last m }) tt tt (λ t. seen_quiet hosts (seen_by t simulation) m (Move.Lost n) (chosen_from t 0 simulation.held_hosts) (landed n simulation.flying) simulation.stops refl refl refl refl) is.held_hosts is.long
  does_on (Move.Arms place stop) line moves may =
      let stops = stops_after (as_read simulation) (Move.Arms place stop) in
      rested_on (Move.Arms place stop) (record simulation { stops = stops; last = max simulation.last m }) tt tt (λ t. seen_quiet hosts (seen_by t simulation) m (Move.Arms place stop) (chosen_from t 0 simulation.held_hosts) simulation.flying stops refl refl refl refl) is.held_hosts is.long
  does_on (Move.Crashes c) line moves may = absurd line
  does_on (Move.Breaks c kept) line moves may = absurd line

  -- ---- what else a line does
  pub fails_on : (place call : ℕ) → IsPlay hosts (played hosts p m (Action.Fails place call))
  fails_on place call =
      let g : Held Stage = armed_at (held_at simulation place) call in
      rested_on Move.Rests (record simulation { held_hosts = set simulation.held_hosts place g; last = max simulation.last m }) tt tt
      (λ t. seen_quiet hosts (seen_by t simulation) m Move.Rests (chosen_from t 0 (set simulation.held_hosts place g)) simulation.flying simulation.stops (same_stages place g (λ k. refl) t) refl refl refl)
      (All-set IsSimulated simulation.held_hosts place g (every place) is.held_hosts) (length-set simulation.held_hosts place g ∙ is.long)

  pub hears_on : (n : ℕ) → IsPlay hosts (played hosts p m (Action.Hears n))
  hears_on n =
      rested_on Move.Rests (record simulation { unheard = landed n simulation.unheard; last = max simulation.last m }) tt tt (λ t. seen_quiet hosts (seen_by t simulation) m Move.Rests (chosen_from t 0 simulation.held_hosts) simulation.flying simulation.stops refl refl refl refl) is.held_hosts is.long

  -- a host is opened again
  pub reopens_on : (place clock : ℕ) → place < length hosts → clock ≤ greatest_moment → IsPlay hosts (played hosts p m (Action.Reopens place clock))
  reopens_on place clock within late =
      let h : Held Stage = held_at simulation place in
      let g : Held Stage = done h clock input.Open in
      forked hosts lawful p is m low (surely place (Move.Reopens place clock)) (record simulation { held_hosts = set simulation.held_hosts place g; last = max simulation.last m })
      (λ t. (within, late)) (λ t. tt)
      (λ t. seen_quiet hosts (seen_by (except_at t place true) simulation) m (Move.Reopens place clock) (chosen_from t 0 (set simulation.held_hosts place g)) simulation.flying simulation.stops (stepped_same hosts simulation place t clock input.Open place refl) refl refl refl)
      (All-set IsSimulated simulation.held_hosts place g (unarmed_held_host g refl) is.held_hosts) (length-set simulation.held_hosts place g ∙ is.long)

-- ---- the first one
first_chosen : (hosts hs : List ScriptHost) (t : UnsyncedKept) (at : ℕ) → chosen_from t at (map (λ h. opened_anew (first_config hosts h)) hs) ≡ map (opened_stage hosts) hs
first_chosen hosts [] t at = refl
first_chosen hosts (h ∷ hs) t at =
    ap (λ (s : Stage). s ∷ chosen_from t (at + 1) (map (λ g. opened_anew (first_config hosts g)) hs)) (opened_chosen (t at) (new_left (first_config hosts h)) 0)
    ∙ ap (λ xs. opened_stage hosts h ∷ xs) (first_chosen hosts hs t (at + 1))

unarmed_held_hosts : (hosts hs : List ScriptHost) → AllByRecursion IsSimulated (map (λ h. opened_anew (first_config hosts h)) hs)
unarmed_held_hosts hosts [] = tt
unarmed_held_hosts hosts (h ∷ hs) = (unarmed_held_host (opened_anew (first_config hosts h)) refl, unarmed_held_hosts hosts hs)

pub first_on : (hosts : List ScriptHost) → AreLawfulHosts hosts → IsPlay hosts (first_play hosts)
first_on hosts lawful = record {
  reaches = λ t. first_reaches hosts lawful;
  sees = λ t. first_is hosts lawful ∙ ap (λ xs. record { stages = xs; messages = []; flying = []; last = 0; stops = [] }) (sym (first_chosen hosts hosts t 0));
  held_hosts = All-from_recursion IsSimulated (map (λ h. opened_anew (first_config hosts h)) hosts) (unarmed_held_hosts hosts hosts);
  long = length-map hosts (λ h. opened_anew (first_config hosts h));
}

-- ---- lines
abbrev pub IsAction : List ScriptHost → Simulation → Action → Type 0
IsAction hosts b (Action.Does move) = IsOfLine move × IsMove hosts (as_read b) move
IsAction hosts b (Action.Reopens place clock) = (place < length hosts) × (clock ≤ greatest_moment)
IsAction hosts b _ = Unit {0}

asking_line : (place clock : ℕ) (r : Result Input Response) → IsOfLine (asking place clock r)
asking_line place clock (Ok i) = tt
asking_line place clock (Err response) = tt

trying_line : (comes : Outcomes) (place clock : ℕ) (o : Option Due) → IsOfLine (trying comes place clock o)
trying_line comes place clock None = tt
trying_line comes place clock (Some d) = tt

either_action : (hosts : List ScriptHost) (b : Simulation) (t : Bool) (x y : Action) → IsAction hosts b x → IsAction hosts b y → IsAction hosts b (if t then x else y)
either_action hosts b true x y one two = one
either_action hosts b false x y one two = two

module _ (comes : Outcomes) (hosts : List ScriptHost) (b : Simulation) where
  asks_action : (place clock : ℕ) (r : Result Input Response) → place < length hosts → clock ≤ greatest_moment → ((i : Input) → r ≡ Ok i → is_client i ≡ true) → ((i : Input) → r ≡ Ok i → IsSized i) → IsAction hosts b (Action.Does (asking place clock r))
  asks_action place clock r within late client sized = (asking_line place clock r, asking_is hosts (as_read b) place clock r within late client sized)

  try_is : (place clock : ℕ) → place < length hosts → clock ≤ greatest_moment → IsAction hosts b (try_at comes b place clock)
  try_is place clock within late = (trying_line comes place clock (attempt (book_of b place) clock), trying_is comes hosts (as_read b) place clock (attempt (book_of b place) clock) within late)

module _ (comes : Outcomes) (hosts : List ScriptHost) (b : Simulation) (low : b.last ≤ greatest_moment) where
  action_is : (l : ScriptLine) → IsLawfulLine (length hosts) l → IsAction hosts b (action_of comes b l)
  action_is (line.Host place) is = (tt, tt)
  action_is (line.Tools host tools) is = (tt, is)
  action_is (line.Limits host limits) is = (tt, (is.0, low, refl, tt))
  action_is (line.Book at host class priority start len) is = (tt, (is.1, is.0, refl, tt))
  action_is (line.Post at host address body) is =
      let c : Config = config_of b host in
      asks_action comes hosts b host at (post c address body at) is.1 is.0 (asked_by_client c (codes "POST") (codes "/pscheduler/tasks") body address at)
      (λ i e. asked_sized c (codes "POST") (codes "/pscheduler/tasks") body address at i is.2 e)
  action_is (line.Get at host path) is =
      let c : Config = config_of b host in
      asks_action comes hosts b host at (get c path at) is.1 is.0 (asked_by_client c (codes "GET") path [] (codes "127.0.0.1") at) (λ i e. asked_sized c (codes "GET") path [] (codes "127.0.0.1") at i (omega arith) e)
  action_is (line.Delete at host address path) is =
      let c : Config = config_of b host in
      asks_action comes hosts b host at (delete c address path at) is.1 is.0 (asked_by_client c (codes "DELETE") path [] address at) (λ i e. asked_sized c (codes "DELETE") path [] address at i is.2 e)
  action_is (line.Turn at host) is = (tt, (is.1, is.0))
  action_is (line.Archive at host) is = try_is comes hosts b host at is.1 is.0
  action_is (line.Crash at host stop) is = (tt, tt)
  action_is (line.Fail at host call) is = tt
  action_is (line.Deliver at n) is =
      either_action hosts b (flies b n) (unless_broken b n (Action.Hears n) (Action.Does (Move.Arrives (message_position b n) at))) (Action.Does Move.Rests)
      (either_action hosts b (is_broken b n) (Action.Hears n) (Action.Does (Move.Arrives (message_position b n) at)) tt (tt, is)) (tt, tt)
  action_is (line.Repeat at n) is =
      either_action hosts b (has_come b n) (unless_broken b n (Action.Does Move.Rests) (Action.Does (Move.Arrives (message_position b n) at))) (Action.Does Move.Rests)
      (either_action hosts b (is_broken b n) (Action.Does Move.Rests) (Action.Does (Move.Arrives (message_position b n) at)) (tt, tt) (tt, is)) (tt, tt)
  action_is (line.Lose n) is =
      either_action hosts b (flies b n) (unless_broken b n (Action.Hears n) (Action.Does (Move.Lost (message_position b n)))) (Action.Does Move.Rests)
      (either_action hosts b (is_broken b n) (Action.Hears n) (Action.Does (Move.Lost (message_position b n))) tt (tt, tt)) (tt, tt)

-- what is asked of a host, as its disks read
may_make : (b : Simulation) (move : Move) → IsOfLine move → MayMake b move → MayMove (as_read b) move
may_make b Move.Rests line may = tt
may_make b (Move.Asks place clock i) line may = subst (λ (s : Stage). IsInput s.config i) (sym (stage_chosen kept_all b place)) may
may_make b (Move.Tries place clock i) line may = subst (λ (s : Stage). IsInput s.config i) (sym (stage_chosen kept_all b place)) may
may_make b (Move.Turns place clock) line may = tt
may_make b (Move.Retools place tools) line may = tt
may_make b (Move.Reopens place clock) line may = tt
may_make b (Move.Arrives n clock) line may = tt
may_make b (Move.Lost n) line may = tt
may_make b (Move.Arms place stop) line may = tt
may_make b (Move.Crashes c) line may = absurd line
may_make b (Move.Breaks c kept) line may = absurd line

module _ (hosts : List ScriptHost) (lawful : AreLawfulHosts hosts) (p : Play) (is : IsPlay hosts p) where
  last_low : p.simulation.last ≤ greatest_moment
  last_low = (is.reaches kept_all).last

  pub action_on : (m : ℕ) → m ≤ greatest_moment → (action : Action) → IsAction hosts p.simulation action → MayAct p.simulation action → IsPlay hosts (played hosts p m action)
  action_on m low (Action.Does move) action may = does_on hosts lawful p is m low move action.0 action.1 (may_make p.simulation move action.0 may)
  action_on m low (Action.Fails place call) action may = fails_on hosts lawful p is m low place call
  action_on m low (Action.Hears n) action may = hears_on hosts lawful p is m low n
  action_on m low (Action.Reopens place clock) action may = reopens_on hosts lawful p is m low place clock action.0 action.1

  looked_on : (place clock : ℕ) → clock ≤ greatest_moment → place < length hosts → IsPlay hosts (looked hosts p place clock)
  looked_on place clock low within = does_on hosts lawful p is clock low (looking place clock) tt (within, low, refl, tt) tt

module _ (comes : Outcomes) (hosts : List ScriptHost) (lawful : AreLawfulHosts hosts) (p : Play) (is : IsPlay hosts p) where
  tried_on : (place clock : ℕ) → clock ≤ greatest_moment → place < length hosts → MayTry comes p.simulation place clock → IsPlay hosts (tried comes hosts p place clock)
  tried_on place clock low within may = action_on hosts lawful p is clock low (try_at comes p.simulation place clock) (try_is comes hosts p.simulation place clock within low) may

module _ (comes : Outcomes) (hosts : List ScriptHost) (lawful : AreLawfulHosts hosts) (p : Play) (is : IsPlay hosts p) where
  archived_on : (place clock : ℕ) → clock ≤ greatest_moment → place < length hosts → MayArchive comes hosts p.simulation place clock → IsPlay hosts (record { worlds = worlds_archived comes hosts p place clock; simulation = simulation_archived comes hosts p.simulation place clock })
  archived_on place clock low within may = by (held_at p.simulation place).ready (looks p.simulation place clock) refl refl
    where
      by : (ready answered : Bool) → (held_at p.simulation place).ready ≡ ready → looks p.simulation place clock ≡ answered
          → IsPlay hosts (record {
            worlds = if ready then (tried comes hosts p place clock).worlds else (if answered then (tried comes hosts (looked hosts p place clock) place clock).worlds else (looked hosts p place clock).worlds);
            simulation = if ready then simulation_tried comes hosts p.simulation place clock else (if answered then simulation_tried comes hosts (simulation_looked hosts p.simulation place clock) place clock else simulation_looked hosts p.simulation place clock);
          })
      by true answered e f = tried_on comes hosts lawful p is place clock low within (may.0 e)
      by false true e f = tried_on comes hosts lawful (looked hosts p place clock) (looked_on hosts lawful p is place clock low within) place clock low within (may.1 e f)
      by false false e f = looked_on hosts lawful p is place clock low within

  plain_on : (l : ScriptLine) → IsLawfulLine (length hosts) l → MayAct p.simulation (action_of comes p.simulation l) → IsPlay hosts (played hosts p (moment_of_line l) (action_of comes p.simulation l))
  plain_on l law may = action_on hosts lawful p is (moment_of_line l) (moment_within (length hosts) l law) (action_of comes p.simulation l) (action_is comes hosts p.simulation (last_low hosts lawful p is) l law) may

  pub line_on : (l : ScriptLine) → IsLawfulLine (length hosts) l → MayLine comes hosts p.simulation l → IsPlay hosts (play_line comes hosts p l)
  line_on (line.Archive at host) law may = archived_on host at law.0 law.1 may
  line_on (line.Host place) law may = plain_on (line.Host place) law may
  line_on (line.Tools host tools) law may = plain_on (line.Tools host tools) law may
  line_on (line.Limits host limits) law may = plain_on (line.Limits host limits) law may
  line_on (line.Book at host class priority start len) law may = plain_on (line.Book at host class priority start len) law may
  line_on (line.Post at host address body) law may = plain_on (line.Post at host address body) law may
  line_on (line.Get at host path) law may = plain_on (line.Get at host path) law may
  line_on (line.Delete at host address path) law may = plain_on (line.Delete at host address path) law may
  line_on (line.Turn at host) law may = plain_on (line.Turn at host) law may
  line_on (line.Crash at host stop) law may = plain_on (line.Crash at host stop) law may
  line_on (line.Fail at host call) law may = plain_on (line.Fail at host call) law may
  line_on (line.Deliver at n) law may = plain_on (line.Deliver at n) law may
  line_on (line.Repeat at n) law may = plain_on (line.Repeat at n) law may
  line_on (line.Lose n) law may = plain_on (line.Lose n) law may
