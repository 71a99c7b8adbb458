-- What a move leaves where calls of disks may fail: as what is unsynced turns out, it is what events leave of a world.
use Rattle.std.specs.List.{AllByRecursion}
use Rattle.std.specs.Prelude.{All, if◌then◌else◌, max, nat_lt, set}
use Rattle.std.proofs.Common.{◌≡◌, ◌≤◌, ◌<◌, ◌-◌, ◌+◌, ◌∙◌, ◌∷◌, ◌++◌, ℕ, zero, suc, Bool, true, false, List, [], length, None, Option, Some, ap, append-nil, refl, subst, sym}
use Rattle.std.proofs.lemmas.List.{length-set, set-get_or}
use Rattle.std.proofs.lemmas.List.Elements.{All-set, recursion_from_All}
use Rattle.ps_time.specs.Numbers.{greatest_moment}
use Rattle.host_model.specs.Conditions.{IsInput}
use Rattle.host_model.specs.Step.{step_reply}
use Rattle.host_model.specs.declared.config.Config.{Config}
use Rattle.host_model.specs.declared.input.Input.{Input}
use Rattle.host_model.specs.declared.input.Input.TheVariants as input
use Rattle.host_model.specs.declared.reply.Reply.{Reply}
use Rattle.simulated_machine.specs.Held.{Held, syncs}
use Rattle.world_law.specs.Events.{Cause, brings}
use Rattle.world_law.specs.World.{Message, Stage, World}
use Rattle.rehearsal_script.specs.Lawful.{AreLawfulHosts}
use Rattle.rehearsal_script.specs.declared.script.ScriptHost.{ScriptHost}
use Rattle.rehearsal_script.specs.declared.script.Stop.{Stop}
use Rattle.rehearsal_model.specs.After.{cut_stage, moved_seen, stages_after, stepped_at}
use Rattle.rehearsal_model.specs.Moves.{Move, flying_after, joining, landed_with, numbers_from, receiver, replied, sent_at, sent_by, still_flying, stops_after}
use Rattle.rehearsal_model.specs.Plays.{IsPlay, IsSimulated}
use Rattle.rehearsal_model.specs.Reaching.{MayAsk, MayMove, Reaches}
use Rattle.rehearsal_model.specs.Rehearsal.{Show, moved, seen}
use Rattle.rehearsal_model.specs.Simulations.{Fork, Play, Simulation, Step, UnsyncedKept, as_read, at_last, broken_fork, brings_order, except_at, chosen_from, chosen_stage, count_sent, crash_by, fault_fork, fault_of, flying_then, is_synced, keeps_broken, kept_all, landing_move, lost_answer, never, nobody_held, simulation_stepped, held_at, held_in, seen_by, show_by, step_fork, stops_left, surely, unless_fault, sync_failed_fork, worlds_by, worlds_stepped}
use Rattle.rehearsal_model.specs.Simulated.{broken_with, done, faulted, stepped_by, sync_failed, written_at}
use Rattle.rehearsal_model.specs.Seen.{Seen, acted, config_at, disarmed, nobody, stage_at}
use Rattle.rehearsal_model.proofs.LineLemmas.{reaches_moved, seen_moved}
use Rattle.rehearsal_model.proofs.MoveLemmas.{HasCause, IsMove}
use Rattle.rehearsal_model.proofs.SimulationLemmas.{broken_chosen, broken_held_host, except_here, unarmed_held_host, chosen_set, config_chosen, done_chosen, stage_chosen, synced_chosen, sync_failed_host}

-- ---- one fork
module _ (hosts : List ScriptHost) (lawful : AreLawfulHosts hosts) (p : Play) (is : IsPlay hosts p) (m : ℕ) (low : m ≤ greatest_moment) where
  -- what follows is seen as the move leaves it, whichever way what is unsynced turns out
  pub forked : (f : Fork) (later : Simulation)
      → ((t : UnsyncedKept) → IsMove hosts (seen_by (f.from t) p.simulation) (f.move t))
      → ((t : UnsyncedKept) → MayMove (seen_by (f.from t) p.simulation) (f.move t))
      → ((t : UnsyncedKept) → moved_seen hosts (seen_by (f.from t) p.simulation) m (f.move t) ≡ seen_by t later)
      → All IsSimulated later.held_hosts → length later.held_hosts ≡ length hosts
      → IsPlay hosts (record { worlds = worlds_by hosts p f; simulation = later })
  forked f later moves may leaves held_hosts long = record { reaches = λ t. (at t).0; sees = λ t. (at t).1; held_hosts = held_hosts; long = long }
    where
      at : (t : UnsyncedKept) → Reaches hosts (show_by t (record { worlds = worlds_by hosts p f; simulation = later })) × (seen hosts (show_by t (record { worlds = worlds_by hosts p f; simulation = later })) ≡ seen_by t later)
      at t =
          let s : Show = show_by (f.from t) p in
          let move : Move = f.move t in
          let now = is.sees (f.from t) in
          let reach = is.reaches (f.from t) in
          let can : IsMove hosts (seen hosts s) move = subst (λ (x : Seen). IsMove hosts x move) (sym now) (moves t) in
          let left : moved_seen hosts (seen hosts s) m move ≡ seen_by t later = ap (λ (x : Seen). moved_seen hosts x m move) now ∙ leaves t in
          let w : World = worlds_by hosts p f t in
          let same : moved hosts s m move ≡ show_by t (record { worlds = worlds_by hosts p f; simulation = later }) =
          ap (λ (x : Seen). record { world = w; flying = x.flying; last = x.last; stops = x.stops }) left in (
            subst (Reaches hosts) same (reaches_moved hosts lawful s reach m move can (subst (λ (x : Seen). MayMove x move) (sym now) (may t)) low),
            ap (seen hosts) (sym same) ∙ (seen_moved hosts lawful s reach m move can ∙ left),
          )

-- with other steps that are to stop
restopped : (hosts : List ScriptHost) (p : Play) (stops : List (ℕ × Stop)) → IsPlay hosts p → IsPlay hosts (record p { simulation = record p.simulation { stops = stops } })
restopped hosts p stops is = record {
  reaches = λ t. let r = is.reaches t in record { events = r.events; may = r.may; world = r.world; configs = r.configs; orderly = r.orderly; told = r.told; messages = r.messages; flying = r.flying; last = r.last };
  sees = λ t. ap (λ (x : Seen). record x { stops = stops }) (is.sees t);
  held_hosts = is.held_hosts;
  long = is.long;
}

-- ---- a host's step
-- it is a host of the script, and is asked what it may be asked
pub record CanStep (hosts : List ScriptHost) (b : Seen) (step : Step) : Type 0 where
  pub within : step.place < length hosts
  pub low : step.clock ≤ greatest_moment
  pub has : HasCause hosts b step.place step.cause step.asked
  pub may : MayAsk (config_at b step.place) step.cause

-- what is asked is the same as it turns out otherwise, where the configuration is
cause_same : (hosts : List ScriptHost) (b : Simulation) (t u : UnsyncedKept) (place : ℕ) (cause : Cause) (i : Input) → HasCause hosts (seen_by t b) place cause i → HasCause hosts (seen_by u b) place cause i
cause_same hosts b t u place (Cause.ByClient j) i has = has
cause_same hosts b t u place (Cause.ByInner j) i has = has
cause_same hosts b t u place (Cause.ByMessage j) i has = has
cause_same hosts b t u place (Cause.ByOpening c) i has = has

ask_same : (c d : Config) → c ≡ d → (cause : Cause) → MayAsk c cause → MayAsk d cause
ask_same c d same cause may = subst (λ (x : Config). MayAsk x cause) same may

module _ (hosts : List ScriptHost) (b : Simulation) (place : ℕ) where
  abbrev pub h : Held Stage
  h = held_at b place

  config_read : config_at (as_read b) place ≡ h.state.config
  config_read = ap (λ (s : Stage). s.config) (stage_chosen kept_all b place)

  -- however it turns out, the host has its configuration
  pub config_by : IsSimulated h → (t : UnsyncedKept) → config_at (as_read b) place ≡ config_at (seen_by t b) place
  config_by is t = config_read ∙ sym (ap (λ (s : Stage). s.config) (stage_chosen t b place) ∙ config_chosen h is (t place))

  -- the stage of which what was unsynced is kept
  pub stage_kept : (t : UnsyncedKept) → stage_at (seen_by (except_at t place true) b) place ≡ h.state
  stage_kept t = stage_chosen (except_at t place true) b place ∙ ap (λ (k : Bool). chosen_stage k h) (except_here t place true)

  pub stage_same : (t : UnsyncedKept) → stage_at (seen_by (except_at t place true) b) place ≡ stage_at (as_read b) place
  stage_same t = stage_kept t ∙ sym (stage_chosen kept_all b place)

  -- ---- the moves that make a step
  pub sent_same : (t : UnsyncedKept) (clock : ℕ) → sent_at (seen_by (except_at t place true) b) place clock ≡ sent_at (as_read b) place clock
  sent_same t clock = ap (λ (s : Stage). sent_by (as_read b) (acted s clock input.Turn) clock) (stage_same t)

  pub replied_same : (t : UnsyncedKept) (clock : ℕ) (l : Message) → receiver hosts l ≡ place → (r : Option Reply) → replied hosts (seen_by (except_at t place true) b) clock l r ≡ replied hosts (as_read b) clock l r
  replied_same t clock l there None =
      let to : stage_at (seen_by (except_at t place true) b) (receiver hosts l) ≡ stage_at (as_read b) (receiver hosts l) = subst (λ (k : ℕ). stage_at (seen_by (except_at t place true) b) k ≡ stage_at (as_read b) k) (sym there) (stage_same t) in
      ap (λ (s : Stage). record l { reply = Some (step_reply s.config s.book clock (brings l l.reply)) } ∷ []) to
  replied_same t clock l there (Some said) = refl

  -- its step, as it is made
  pub stepped_same : (t : UnsyncedKept) (clock : ℕ) (i : Input) (k : ℕ) → k ≡ place → stepped_at (seen_by (except_at t place true) b) k clock i ≡ chosen_from t 0 (set b.held_hosts place (done h clock i))
  stepped_same t clock i k is =
      ap (λ (x : ℕ). set (chosen_from (except_at t place true) 0 b.held_hosts) x (acted (stage_at (seen_by (except_at t place true) b) x) clock i)) is
      ∙ (ap (λ (s : Stage). set (chosen_from (except_at t place true) 0 b.held_hosts) place (acted s clock i)) (stage_kept t)
      ∙ sym (chosen_set t place true b.held_hosts (done h clock i) ∙ ap (set (chosen_from (except_at t place true) 0 b.held_hosts) place) (done_chosen (t place) h clock i)))

-- ---- what each host may be asked
pub held_host_each : (held_hosts : List (Held Stage)) → All IsSimulated held_hosts → (place : ℕ) → IsSimulated (held_in held_hosts place)
held_host_each held_hosts all place = at held_hosts (recursion_from_All IsSimulated held_hosts all) place
  where
    at : (xs : List (Held Stage)) → AllByRecursion IsSimulated xs → (n : ℕ) → IsSimulated (held_in xs n)
    at [] each n = unarmed_held_host nobody_held refl
    at (x ∷ xs) each zero = each.0
    at (x ∷ xs) each (suc n) = at xs each.1 n

module _ (hosts : List ScriptHost) (b : Simulation) (each : (place : ℕ) → IsSimulated (held_at b place)) where
  config_turned : (t u : UnsyncedKept) (place : ℕ) → config_at (seen_by t b) place ≡ config_at (seen_by u b) place
  config_turned t u place = sym (config_by hosts b place (each place) t) ∙ config_by hosts b place (each place) u

  pub move_same : (t u : UnsyncedKept) (move : Move) → IsMove hosts (seen_by t b) move → IsMove hosts (seen_by u b) move
  move_same t u Move.Rests is = is
  move_same t u (Move.Asks place clock i) is = is
  move_same t u (Move.Tries place clock i) is = is
  move_same t u (Move.Turns place clock) is = is
  move_same t u (Move.Retools place tools) is = is
  move_same t u (Move.Reopens place clock) is = is
  move_same t u (Move.Arrives n clock) is = is
  move_same t u (Move.Lost n) is = is
  move_same t u (Move.Arms place stop) is = is
  move_same t u (Move.Crashes c) is = (is.0, is.1, cause_same hosts b t u c.place c.cause c.asked is.2)
  move_same t u (Move.Breaks c kept) is = (is.0, is.1, cause_same hosts b t u c.place c.cause c.asked is.2)

  pub may_same : (t u : UnsyncedKept) (move : Move) → MayMove (seen_by t b) move → MayMove (seen_by u b) move
  may_same t u Move.Rests may = tt
  may_same t u (Move.Asks place clock i) may = subst (λ (c : Config). IsInput c i) (config_turned t u place) may
  may_same t u (Move.Tries place clock i) may = subst (λ (c : Config). IsInput c i) (config_turned t u place) may
  may_same t u (Move.Turns place clock) may = tt
  may_same t u (Move.Retools place tools) may = tt
  may_same t u (Move.Reopens place clock) may = tt
  may_same t u (Move.Arrives n clock) may = tt
  may_same t u (Move.Lost n) may = tt
  may_same t u (Move.Arms place stop) may = tt
  may_same t u (Move.Crashes c) may = ask_same (config_at (seen_by t b) c.place) (config_at (seen_by u b) c.place) (config_turned t u c.place) c.cause may
  may_same t u (Move.Breaks c kept) may = ask_same (config_at (seen_by t b) c.place) (config_at (seen_by u b) c.place) (config_turned t u c.place) c.cause may

  -- a step may be broken off, in each way in which it turns out
  pub can_break : (t : UnsyncedKept) (step : Step) (stop : Stop) → CanStep hosts (as_read b) step → IsMove hosts (seen_by t b) (Move.Crashes (crash_by step stop))
  can_break t step stop can = (can.within, can.low, cause_same hosts b kept_all t step.place step.cause step.asked can.has)

  pub may_break : (t : UnsyncedKept) (step : Step) (stop : Stop) → CanStep hosts (as_read b) step → MayMove (seen_by t b) (Move.Crashes (crash_by step stop))
  may_break t step stop can = ask_same (config_at (as_read b) step.place) (config_at (seen_by t b) step.place) (config_turned kept_all t step.place) step.cause can.may

-- ---- what is seen after a move, part by part
seen_parts : (hosts : List ScriptHost) (b : Seen) (m : ℕ) (move : Move) (stages : List Stage) (more : List Message) (flying : List ℕ) (stops : List (ℕ × Stop))
    → stages_after hosts b move ≡ stages → joining hosts b move ≡ more → still_flying b move ≡ flying → stops_after b move ≡ stops
    → moved_seen hosts b m move ≡ record { stages = stages; messages = b.messages ++ more; flying = flying ++ numbers_from (length b.messages + 1) more; last = max b.last m; stops = stops }
seen_parts hosts b m move stages more flying stops a j f s =
    ap (λ x. record { stages = x; messages = b.messages ++ joining hosts b move; flying = still_flying b move ++ numbers_from (length b.messages + 1) (joining hosts b move); last = max b.last m; stops = stops_after b move }) a
    ∙ (ap (λ x. record { stages = stages; messages = b.messages ++ x; flying = still_flying b move ++ numbers_from (length b.messages + 1) x; last = max b.last m; stops = stops_after b move }) j
    ∙ (ap (λ x. record { stages = stages; messages = b.messages ++ more; flying = x ++ numbers_from (length b.messages + 1) more; last = max b.last m; stops = stops_after b move }) f
    ∙ ap (λ x. record { stages = stages; messages = b.messages ++ more; flying = flying ++ numbers_from (length b.messages + 1) more; last = max b.last m; stops = x }) s))

-- of a move by which nothing joins
pub seen_quiet : (hosts : List ScriptHost) (b : Seen) (m : ℕ) (move : Move) (stages : List Stage) (flying : List ℕ) (stops : List (ℕ × Stop))
    → stages_after hosts b move ≡ stages → joining hosts b move ≡ [] → still_flying b move ≡ flying → stops_after b move ≡ stops
    → moved_seen hosts b m move ≡ record { stages = stages; messages = b.messages; flying = flying; last = max b.last m; stops = stops }
seen_quiet hosts b m move stages flying stops a j f s =
    seen_parts hosts b m move stages [] flying stops a j f s
    ∙ (ap (λ x. record { stages = stages; messages = x; flying = flying ++ []; last = max b.last m; stops = stops }) (append-nil b.messages)
    ∙ ap (λ x. record { stages = stages; messages = b.messages; flying = x; last = max b.last m; stops = stops }) (append-nil flying))

-- a message that lands, where nothing else happens
module _ (hosts : List ScriptHost) (b : Seen) where
  landing_stages : (o : Option ℕ) → stages_after hosts b (landing_move o) ≡ b.stages
  landing_stages None = refl
  landing_stages (Some n) = refl

  landing_joins : (o : Option ℕ) → joining hosts b (landing_move o) ≡ []
  landing_joins None = refl
  landing_joins (Some n) = refl

  landing_flying : (o : Option ℕ) → still_flying b (landing_move o) ≡ landed_with o b.flying
  landing_flying None = refl
  landing_flying (Some n) = refl

  landing_stops : (o : Option ℕ) → stops_after b (landing_move o) ≡ b.stops
  landing_stops None = refl
  landing_stops (Some n) = refl

  landing_is : (o : Option ℕ) → IsMove hosts b (landing_move o)
  landing_is None = tt
  landing_is (Some n) = tt

  landing_may : (o : Option ℕ) → MayMove b (landing_move o)
  landing_may None = tt
  landing_may (Some n) = tt

-- ---- steps
module _ (hosts : List ScriptHost) (lawful : AreLawfulHosts hosts) (p : Play) (is : IsPlay hosts p) (m : ℕ) (low : m ≤ greatest_moment) (step : Step) (can : CanStep hosts (as_read p.simulation) step) where
  abbrev b : Simulation
  b = p.simulation

  abbrev place : ℕ
  place = step.place

  abbrev here : Held Stage
  here = held_at b place

  each : (k : ℕ) → IsSimulated (held_at b k)
  each k = held_host_each b.held_hosts is.held_hosts k

  held_hosts_set : (g : Held Stage) → IsSimulated g → All IsSimulated (set b.held_hosts place g)
  held_hosts_set g held_host = All-set IsSimulated b.held_hosts place g held_host is.held_hosts

  long_set : (g : Held Stage) → length (set b.held_hosts place g) ≡ length hosts
  long_set g = length-set b.held_hosts place g ∙ is.long

  -- a later simulation, with this host, by which no message of the world joined
  abbrev Quiet : Simulation → Held Stage → Type 0
  Quiet later g = (later.held_hosts ≡ set b.held_hosts place g) × (later.messages ≡ b.messages) × (later.flying ≡ landed_with step.landing b.flying) × (later.last ≡ max b.last m) × (later.stops ≡ b.stops)

  quiet_seen : (later : Simulation) (g : Held Stage) → Quiet later g → (t : UnsyncedKept) → record { stages = chosen_from t 0 (set b.held_hosts place g); messages = b.messages; flying = landed_with step.landing b.flying; last = max b.last m; stops = b.stops } ≡ seen_by t later
  quiet_seen later g q t =
      sym (ap (λ x. record { stages = chosen_from t 0 x; messages = later.messages; flying = later.flying; last = later.last; stops = later.stops }) q.0
      ∙ (ap (λ x. record { stages = chosen_from t 0 (set b.held_hosts place g); messages = x; flying = later.flying; last = later.last; stops = later.stops }) q.1
      ∙ (ap (λ x. record { stages = chosen_from t 0 (set b.held_hosts place g); messages = b.messages; flying = x; last = later.last; stops = later.stops }) q.2
      ∙ (ap (λ x. record { stages = chosen_from t 0 (set b.held_hosts place g); messages = b.messages; flying = landed_with step.landing b.flying; last = x; stops = later.stops }) q.3
      ∙ ap (λ x. record { stages = chosen_from t 0 (set b.held_hosts place g); messages = b.messages; flying = landed_with step.landing b.flying; last = max b.last m; stops = x }) q.4))))

  quiet_held_hosts : (later : Simulation) (g : Held Stage) → Quiet later g → IsSimulated g → All IsSimulated later.held_hosts × (length later.held_hosts ≡ length hosts)
  quiet_held_hosts later g q held_host = (subst (All IsSimulated) (sym q.0) (held_hosts_set g held_host), ap length q.0 ∙ long_set g)

  -- ---- a step that is broken off behind the syncs, kept as it turns out
  module _ (g : Held Stage) (kept : UnsyncedKept → Bool) (held_host : IsSimulated g) (chosen : (t : UnsyncedKept) → chosen_stage (t place) g ≡ cut_stage (kept t) here.state step.clock step.asked) where
    abbrev breaking : Fork
    breaking = record { from = λ t. except_at t place true; move = λ t. Move.Breaks (crash_by step never) (kept t) }

    broken_stages : (t : UnsyncedKept) → stages_after hosts (seen_by (except_at t place true) b) (Move.Breaks (crash_by step never) (kept t)) ≡ chosen_from t 0 (set b.held_hosts place g)
    broken_stages t =
        ap (λ (s : Stage). set (chosen_from (except_at t place true) 0 b.held_hosts) place (cut_stage (kept t) s step.clock step.asked)) (stage_kept hosts b place t)
        ∙ sym (chosen_set t place true b.held_hosts g ∙ ap (set (chosen_from (except_at t place true) 0 b.held_hosts) place) (chosen t))

    pub breaks_on : (later : Simulation) → Quiet later g → IsPlay hosts (record { worlds = worlds_by hosts p breaking; simulation = later })
    breaks_on later q =
        let held_hosts = quiet_held_hosts later g q held_host in
        forked hosts lawful p is m low breaking later
        (λ t. can_break hosts b each (except_at t place true) step never can)
        (λ t. may_break hosts b each (except_at t place true) step never can)
        (λ t. seen_quiet hosts (seen_by (except_at t place true) b) m (Move.Breaks (crash_by step never) (kept t)) (chosen_from t 0 (set b.held_hosts place g)) (landed_with step.landing b.flying) b.stops (broken_stages t) refl refl refl ∙ quiet_seen later g q t)
        held_hosts.0 held_hosts.1

  -- ---- one that wasn't begun
  module _ (number : ℕ) where
    abbrev synced : UnsyncedKept → Bool
    synced t = if is_synced number here.unsynced then true else t place

    sync_failed_stages : (t : UnsyncedKept) → chosen_from (except_at t place (synced t)) 0 b.held_hosts ≡ chosen_from t 0 (set b.held_hosts place (sync_failed here number))
    sync_failed_stages t =
        let xs : List Stage = chosen_from (except_at t place (synced t)) 0 b.held_hosts in
        let there : stage_at (seen_by (except_at t place (synced t)) b) place ≡ chosen_stage (t place) (sync_failed here number) =
        stage_chosen (except_at t place (synced t)) b place ∙ (ap (λ (k : Bool). chosen_stage k here) (except_here t place (synced t)) ∙ synced_chosen (t place) here number) in
        sym (chosen_set t place (synced t) b.held_hosts (sync_failed here number) ∙ (ap (set xs place) (sym there) ∙ set-get_or xs place nobody))

    pub sync_failed_on : (later : Simulation) → Quiet later (sync_failed here number) → IsPlay hosts (record { worlds = worlds_by hosts p (sync_failed_fork step number here.unsynced); simulation = later })
    sync_failed_on later q =
        let held_hosts = quiet_held_hosts later (sync_failed here number) q (sync_failed_host here number (each place)) in
        forked hosts lawful p is m low (sync_failed_fork step number here.unsynced) later
        (λ t. landing_is hosts (seen_by (except_at t place (synced t)) b) step.landing)
        (λ t. landing_may hosts (seen_by (except_at t place (synced t)) b) step.landing)
        (λ t. seen_quiet hosts (seen_by (except_at t place (synced t)) b) m (landing_move step.landing) (chosen_from t 0 (set b.held_hosts place (sync_failed here number))) (landed_with step.landing b.flying) b.stops
        (landing_stages hosts (seen_by (except_at t place (synced t)) b) step.landing ∙ sync_failed_stages t)
        (landing_joins hosts (seen_by (except_at t place (synced t)) b) step.landing)
        (landing_flying hosts (seen_by (except_at t place (synced t)) b) step.landing)
        (landing_stops hosts (seen_by (except_at t place (synced t)) b) step.landing) ∙ quiet_seen later (sync_failed here number) q t)
        held_hosts.0 held_hosts.1

  -- ---- a fault
  fault_on : (number : ℕ) (later : Simulation) → Quiet later (faulted here step.clock step.asked number) → IsPlay hosts (record { worlds = worlds_by hosts p (fault_fork here step number); simulation = later })
  fault_on number later q = by (nat_lt (length (syncs here.ready)) number) q
    where
      by : (late : Bool) → Quiet later (if late then broken_with here (number - length (syncs here.ready)) (acted here.state step.clock step.asked) (written_at here step.clock step.asked) else sync_failed here number)
          → IsPlay hosts (record { worlds = worlds_by hosts p (if late then broken_fork step (number - length (syncs here.ready)) else sync_failed_fork step number here.unsynced); simulation = later })
      by true quiet =
          let k = number - length (syncs here.ready) in
          let w = written_at here step.clock step.asked in
          breaks_on (broken_with here k (acted here.state step.clock step.asked) w) (λ t. keeps_broken k (t place)) (broken_held_host here step.clock step.asked k w)
          (λ t. broken_chosen here step.clock step.asked k w (t place)) later quiet
      by false quiet = sync_failed_on number later quiet

  -- ---- a step that doesn't stop
  module _ (move : Move) (moves : IsMove hosts (as_read b) move) (may : MayMove (as_read b) move)
      (stages : (t : UnsyncedKept) → stages_after hosts (seen_by (except_at t place true) b) move ≡ chosen_from t 0 (set b.held_hosts place (done here step.clock step.asked)))
      (joins : (t : UnsyncedKept) → joining hosts (seen_by (except_at t place true) b) move ≡ joining hosts (as_read b) move)
      (flies : (t : UnsyncedKept) → still_flying (seen_by t b) move ≡ landed_with step.landing b.flying) (stops : (t : UnsyncedKept) → stops_after (seen_by t b) move ≡ b.stops) where
    done_on : (later : Simulation) → later.held_hosts ≡ set b.held_hosts place (done here step.clock step.asked) → later.messages ≡ b.messages ++ joining hosts (as_read b) move → later.flying ≡ flying_after hosts (as_read b) move
        → later.last ≡ max b.last m → later.stops ≡ b.stops → IsPlay hosts (record { worlds = worlds_by hosts p (surely place move); simulation = later })
    done_on later a j f l s =
        forked hosts lawful p is m low (surely place move) later
        (λ t. move_same hosts b each kept_all (except_at t place true) move moves)
        (λ t. may_same hosts b each kept_all (except_at t place true) move may)
        (λ t. seen_parts hosts (seen_by (except_at t place true) b) m move (chosen_from t 0 (set b.held_hosts place (done here step.clock step.asked))) (joining hosts (as_read b) move) (still_flying (as_read b) move) b.stops
        (stages t) (joins t) (flies (except_at t place true) ∙ sym (flies kept_all)) (stops (except_at t place true))
        ∙ sym (ap (λ x. record { stages = chosen_from t 0 x; messages = later.messages; flying = later.flying; last = later.last; stops = later.stops }) a
        ∙ (ap (λ x. record { stages = chosen_from t 0 (set b.held_hosts place (done here step.clock step.asked)); messages = x; flying = later.flying; last = later.last; stops = later.stops }) j
        ∙ (ap (λ x. record { stages = chosen_from t 0 (set b.held_hosts place (done here step.clock step.asked)); messages = b.messages ++ joining hosts (as_read b) move; flying = x; last = later.last; stops = later.stops }) f
        ∙ (ap (λ x. record { stages = chosen_from t 0 (set b.held_hosts place (done here step.clock step.asked)); messages = b.messages ++ joining hosts (as_read b) move; flying = flying_after hosts (as_read b) move; last = x; stops = later.stops }) l
        ∙ ap (λ x. record { stages = chosen_from t 0 (set b.held_hosts place (done here step.clock step.asked)); messages = b.messages ++ joining hosts (as_read b) move; flying = flying_after hosts (as_read b) move; last = max b.last m; stops = x }) s)))))
        (subst (All IsSimulated) (sym a) (held_hosts_set (done here step.clock step.asked) (unarmed_held_host (done here step.clock step.asked) refl)))
        (ap length a ∙ long_set (done here step.clock step.asked))

    pub stepped_on : IsPlay hosts (record { worlds = worlds_stepped hosts p move step; simulation = at_last m (simulation_stepped hosts b move step) })
    stepped_on = by (fault_of b step)
      where
        simulation_by : Option ℕ → Simulation
        simulation_by o = record {
          held_hosts = set b.held_hosts place (stepped_by here step.clock step.asked o);
          messages = b.messages ++ unless_fault o (joining hosts (as_read b) move);
          flying = flying_then (as_read b) move step (flying_after hosts (as_read b) move) o;
          last = max b.last m;
          stops = stops_left o place b.stops;
          broken = b.broken ++ lost_answer o (brings_order (as_read b) move) (count_sent b + 1);
          unheard = b.unheard ++ lost_answer o (brings_order (as_read b) move) (count_sent b + 1);
        }

        by : (o : Option ℕ) → IsPlay hosts (record { worlds = worlds_by hosts p (step_fork here step move o); simulation = simulation_by o })
        by None = done_on (simulation_by None) refl refl refl refl refl
        by (Some number) =
            let armed : Simulation = record (simulation_by (Some number)) { stops = b.stops } in
            restopped hosts (record { worlds = worlds_by hosts p (fault_fork here step number); simulation = armed }) (disarmed place b.stops) (fault_on number armed (refl, append-nil b.messages, refl, refl, refl))
