-- What the parts of a move make of what is seen.
use Rattle.std.specs.Prelude.{set}
use Rattle.std.proofs.Common.{◌≡◌, ◌+◌, ◌-◌, ◌++◌, ◌<◌, ◌∷◌, ◌∙◌, Bool, List, None, Option, Some, [], ap, append_assoc, false, length, refl, subst, sym, true, ℕ}
use Rattle.std.proofs.lemmas.Grind.{get_or-set_at}
use Rattle.std.proofs.lemmas.List.{append-nil, length-append, length-set}
use Rattle.host_model.specs.Step.{step_reply}
use Rattle.host_model.specs.declared.config.Config.{Config}
use Rattle.host_model.specs.declared.input.Input.{Input}
use Rattle.host_model.specs.declared.input.Input.TheVariants.{Turn}
use Rattle.host_model.specs.declared.order.Order.{Order}
use Rattle.host_model.specs.declared.reply.Reply.{Reply}
use Rattle.simulated_machine.specs.Held.{Held}
use Rattle.world_law.specs.Events.{Cause, brings}
use Rattle.world_law.specs.World.{Message as Sent, Stage}
use Rattle.rehearsal_script.specs.declared.script.ScriptHost.{ScriptHost}
use Rattle.rehearsal_script.specs.declared.script.Stop.{Stop}
use Rattle.rehearsal_model.specs.Moves.{Move, flying_after, is_untold, joining, message_of, numbers_from, receiver, replied, replies, sent_by}
use Rattle.rehearsal_model.specs.Simulations.{Action.Does, Simulation, Step, as_read, brings_order, outcome_at, outcome_by, config_of, count_sent, fault_of, flying_then, is_order, is_unanswered, kept_all, lost_answer, nobody_held, simulation_by, simulation_crashed, simulation_after, simulation_step, held_at, step_by, stop_for, stops_left, unless_fault}
use Rattle.rehearsal_model.specs.Simulated.{answered, done, fault_in, stepped, stepped_by}
use Rattle.rehearsal_model.specs.Seen.{Seen, acted, disarmed, landed, message, stage_at}
use Rattle.rehearsal_model.specs.declared.outcome.StepOutcome.TheVariants as outcome
use Rattle.rehearsal_model.proofs.SimulationLemmas.{failed, stage_chosen, unfailed}
use Rattle.rehearsal_state.specs.Moved.{sent_of, with_act, with_broken, with_either, with_messages, with_step}

-- ---- messages
abbrev made : Simulation → List Sent → List ℕ → Simulation
made b messages flying = record b { messages = messages; flying = flying }

pub messages_none : (b : Simulation) → with_messages b [] ≡ b
messages_none b = ap (λ ls. made b ls (b.flying ++ [])) (append-nil b.messages) ∙ ap (λ ns. made b b.messages ns) (append-nil b.flying)

-- the first one, and then the others
pub messages_more : (b : Simulation) (m : Sent) (rest : List Sent) → with_messages b (m ∷ rest) ≡ with_messages (with_messages b (m ∷ [])) rest
messages_more b m rest =
    let sent : List Sent = b.messages ++ m ∷ [] in
    let first : ℕ = length b.messages + 1 in
    let count : length sent ≡ first = length-append b.messages (m ∷ []) in
    let flown : b.flying ++ numbers_from first (m ∷ rest) ≡ (b.flying ++ first ∷ []) ++ numbers_from (length sent + 1) rest =
    sym (append_assoc b.flying (first ∷ []) (numbers_from (first + 1) rest)) ∙ ap (λ n. (b.flying ++ first ∷ []) ++ numbers_from (n + 1) rest) (sym count) in
    ap (λ ls. made b ls (b.flying ++ numbers_from first (m ∷ rest))) (sym (append_assoc b.messages (m ∷ []) rest)) ∙ ap (made b (sent ++ rest)) flown

-- one order after another
pub sent_more : (b : Seen) (c : Config) (o : Order) (os : List Order) → sent_of b c (o ∷ os) ≡ sent_of b c (o ∷ []) ++ sent_of b c os
sent_more b c o os = by_test (is_untold b o) refl
  where
    by_message : is_untold b o ≡ true → (l : Option Sent) → message_of c o ≡ l → sent_of b c (o ∷ os) ≡ sent_of b c (o ∷ []) ++ sent_of b c os
    by_message told None none = rw (told, none) refl
    by_message told (Some l) some = rw (told, some) refl

    by_test : (t : Bool) → is_untold b o ≡ t → sent_of b c (o ∷ os) ≡ sent_of b c (o ∷ []) ++ sent_of b c os
    by_test false told = rw told refl
    by_test true told = by_message told (message_of c o) refl

-- ---- what came of a step
crashed_by : (o : Option Stop) (a : Option Reply) → outcome_by o a ≡ outcome.Crashed → (stop : Stop) × (o ≡ Some stop)
crashed_by None None e = absurd cc
crashed_by None (Some reply) e = absurd cc
crashed_by (Some stop) a e = (stop, refl)

faulted_by : (o : Option Stop) (a : Option Reply) → outcome_by o a ≡ outcome.Faulted → (o ≡ None) × (a ≡ None)
faulted_by None None e = (refl, refl)
faulted_by None (Some reply) e = absurd cc
faulted_by (Some stop) a e = absurd cc

answered_by : (o : Option Stop) (a : Option Reply) (r : Reply) → outcome_by o a ≡ outcome.Answered r → (o ≡ None) × (a ≡ Some r)
answered_by None None r e = absurd cc
answered_by None (Some reply) r e = let same : reply ≡ r = cc in (refl, ap Some same)
answered_by (Some stop) a r e = absurd cc

module _ (b : Simulation) (place clock : ℕ) (i : Input) where
  -- a step that was answered was made
  pub act_done : (r : Reply) → answered (held_at b place) clock i ≡ Some r → with_act b place clock i ≡ record b { held_hosts = set b.held_hosts place (done (held_at b place) clock i) }
  act_done r e =
      let s : Stage = (held_at b place).state in
      ap (λ (f : Option ℕ). record b { held_hosts = set b.held_hosts place (stepped_by (held_at b place) clock i f) }) (unfailed (fault_in (held_at b place) clock i) (step_reply s.config s.book clock i) r e).0

  abbrev h : Held Stage
  h = held_at b place

  abbrev said : Reply
  said = step_reply h.state.config h.state.book clock i

  pub stops_there : outcome_at b place clock i ≡ outcome.Crashed → (stop : Stop) × (stop_for b place clock i ≡ Some stop)
  stops_there e = crashed_by (stop_for b place clock i) (answered h clock i) e

  -- a call of a disk failed
  pub fails_there : outcome_at b place clock i ≡ outcome.Faulted → (stop_for b place clock i ≡ None) × ((number : ℕ) × (fault_in h clock i ≡ Some number))
  fails_there e = let x = faulted_by (stop_for b place clock i) (answered h clock i) e in (x.0, failed (fault_in h clock i) said x.1)

  -- which call fails, where the step doesn't stop
  made_with : (f : Option ℕ) → stop_for b place clock i ≡ None → fault_in h clock i ≡ f → with_step b place clock i ≡ with_either b place clock i f None
  made_with f none fails = ap (with_either b place clock i (fault_in h clock i)) none ∙ ap (λ x. with_either b place clock i x None) fails

  -- neither
  module _ (r : Reply) (e : outcome_at b place clock i ≡ outcome.Answered r) where
    abbrev parts : (stop_for b place clock i ≡ None) × (answered h clock i ≡ Some r)
    parts = answered_by (stop_for b place clock i) (answered h clock i) r e

    pub none_stops : stop_for b place clock i ≡ None
    none_stops = parts.0

    pub none_fails : fault_in h clock i ≡ None
    none_fails = (unfailed (fault_in h clock i) said r parts.1).0

    pub said_so : said ≡ r
    said_so = (unfailed (fault_in h clock i) said r parts.1).1

    acts : with_step b place clock i ≡ with_act b place clock i
    acts = made_with None none_stops none_fails

    done_so : with_step b place clock i ≡ record b { held_hosts = set b.held_hosts place (done h clock i) }
    done_so = acts ∙ act_done r parts.1

    -- the host then
    module _ (within : place < length b.held_hosts) where
      pub held_host_then : held_at (with_step b place clock i) place ≡ done h clock i
      held_host_then = ap (λ (x : Simulation). held_at x place) done_so ∙ get_or-set_at b.held_hosts place place (done h clock i) nobody_held refl within

      pub ready_then : (held_at (with_step b place clock i) place).ready ≡ true
      ready_then = ap (λ (x : Held Stage). x.ready) held_host_then

      pub config_then : config_of b place ≡ config_of (with_step b place clock i) place
      config_then = sym (ap (λ (x : Held Stage). x.state.config) held_host_then)

      pub there_then : place < length (with_step b place clock i).held_hosts
      there_then =
          subst (λ (n : ℕ). place < n) (sym (ap (λ (x : Simulation). length x.held_hosts) done_so ∙ length-set b.held_hosts place (done h clock i))) within

-- a step sends nothing
pub messages_kept : (b : Simulation) (place clock : ℕ) (i : Input) → (with_step b place clock i).messages ≡ b.messages
messages_kept b place clock i = by (stop_for b place clock i)
  where
    by : (o : Option Stop) → (with_either b place clock i (fault_in (held_at b place) clock i) o).messages ≡ b.messages
    by None = refl
    by (Some stop) = refl

-- ---- a step by which nothing joins
abbrev stepped_with : List ScriptHost → Simulation → Move → Step → Option ℕ → Simulation
stepped_with hosts b move step f = record {
  held_hosts = set b.held_hosts step.place (stepped (held_at b step.place) step.clock step.asked);
  messages = b.messages ++ unless_fault f (joining hosts (as_read b) move);
  flying = flying_then (as_read b) move step (flying_after hosts (as_read b) move) f;
  last = b.last;
  stops = stops_left f step.place b.stops;
  broken = b.broken ++ lost_answer f (brings_order (as_read b) move) (count_sent b + 1);
  unheard = b.unheard ++ lost_answer f (brings_order (as_read b) move) (count_sent b + 1);
}

none_lost : (f : Option ℕ) (n : ℕ) → lost_answer f false n ≡ []
none_lost None n = refl
none_lost (Some number) n = refl

-- by these parts
abbrev with_parts : Simulation → List (Held Stage) → List Sent → List ℕ → List (ℕ × Stop) → List ℕ → Simulation
with_parts b held_hosts messages flying stops lost = record { held_hosts = held_hosts; messages = messages; flying = flying; last = b.last; stops = stops; broken = b.broken ++ lost; unheard = b.unheard ++ lost }

joined : (b : Simulation) (held_hosts : List (Held Stage)) (stops : List (ℕ × Stop)) (messages : List Sent) (flying : List ℕ) (more : List Sent) (flown lost : List ℕ) → more ≡ messages → flown ≡ flying → lost ≡ []
    → with_parts b held_hosts (b.messages ++ more) flown stops lost ≡ record b { held_hosts = held_hosts; messages = b.messages ++ messages; flying = flying; stops = stops }
joined b held_hosts stops messages flying more flown lost j f l =
    ap (λ x. with_parts b held_hosts (b.messages ++ x) flown stops lost) j
    ∙ (ap (λ x. with_parts b held_hosts (b.messages ++ messages) x stops lost) f
    ∙ (ap (λ x. with_parts b held_hosts (b.messages ++ messages) flying stops x) l
    ∙ (ap (λ x. record b { held_hosts = held_hosts; messages = b.messages ++ messages; flying = flying; stops = stops; broken = x; unheard = b.unheard ++ [] }) (append-nil b.broken)
    ∙ ap (λ x. record b { held_hosts = held_hosts; messages = b.messages ++ messages; flying = flying; stops = stops; unheard = x }) (append-nil b.unheard))))

quiet : (b : Simulation) (held_hosts : List (Held Stage)) (stops : List (ℕ × Stop)) (flying : List ℕ) → record b { held_hosts = held_hosts; messages = b.messages ++ []; flying = flying; stops = stops } ≡ record b { held_hosts = held_hosts; flying = flying; stops = stops }
quiet b held_hosts stops flying = ap (λ x. record b { held_hosts = held_hosts; messages = x; flying = flying; stops = stops }) (append-nil b.messages)

module _ (hosts : List ScriptHost) (b : Simulation) (place clock : ℕ) (i : Input) (move : Move) (cause : Cause) where
  abbrev step : Step
  step = record { place = place; clock = clock; cause = cause; asked = i; landing = None }

  quiet_step : (f : Option ℕ) → unless_fault f (joining hosts (as_read b) move) ≡ [] → flying_then (as_read b) move step (flying_after hosts (as_read b) move) f ≡ b.flying → brings_order (as_read b) move ≡ false
      → stepped_with hosts b move step f ≡ with_either b place clock i f None
  quiet_step f j fl o =
      joined b (set b.held_hosts place (stepped (held_at b place) clock i)) (stops_left f place b.stops) [] b.flying (unless_fault f (joining hosts (as_read b) move)) (flying_then (as_read b) move step (flying_after hosts (as_read b) move) f)
      (lost_answer f (brings_order (as_read b) move) (count_sent b + 1)) j fl (ap (λ (t : Bool). lost_answer f t (count_sent b + 1)) o ∙ none_lost f (count_sent b + 1))
      ∙ quiet b (set b.held_hosts place (stepped (held_at b place) clock i)) (stops_left f place b.stops) b.flying

  -- of a move by which nothing ever joins
  pub silent : joining hosts (as_read b) move ≡ [] → flying_after hosts (as_read b) move ≡ b.flying ++ numbers_from (length b.messages + 1) (joining hosts (as_read b) move) → brings_order (as_read b) move ≡ false
      → with_step b place clock i ≡ simulation_step hosts b move step (stop_for b place clock i)
  silent j fl o = by (stop_for b place clock i)
    where
      joins : (f : Option ℕ) → unless_fault f (joining hosts (as_read b) move) ≡ []
      joins None = j
      joins (Some number) = refl

      flies : (f : Option ℕ) → flying_then (as_read b) move step (flying_after hosts (as_read b) move) f ≡ b.flying
      flies None = fl ∙ (ap (λ ls. b.flying ++ numbers_from (length b.messages + 1) ls) j ∙ append-nil b.flying)
      flies (Some number) = refl

      by : (s : Option Stop) → with_either b place clock i (fault_of b step) s ≡ simulation_step hosts b move step s
      by None = sym (quiet_step (fault_of b step) (joins (fault_of b step)) (flies (fault_of b step)) o)
      by (Some stop) = refl

pub asked : (hosts : List ScriptHost) (b : Simulation) (place clock : ℕ) (i : Input) → with_step b place clock i ≡ simulation_after hosts b (Does (Move.Asks place clock i))
asked hosts b place clock i = silent hosts b place clock i (Move.Asks place clock i) (Cause.ByClient i) refl refl refl

pub tried : (hosts : List ScriptHost) (b : Simulation) (place clock : ℕ) (i : Input) → with_step b place clock i ≡ simulation_after hosts b (Does (Move.Tries place clock i))
tried hosts b place clock i = silent hosts b place clock i (Move.Tries place clock i) (Cause.ByInner i) refl refl refl

-- ---- a turn
module _ (hosts : List ScriptHost) (b : Simulation) (place clock : ℕ) where
  abbrev turning : Step
  turning = record { place = place; clock = clock; cause = Cause.ByInner Turn; asked = Turn; landing = None }

  abbrev turns : Move
  turns = Move.Turns place clock

  pub turn_crashed : outcome_at b place clock Turn ≡ outcome.Crashed → with_step b place clock Turn ≡ simulation_after hosts b (Does turns)
  turn_crashed e =
      let x = stops_there b place clock Turn e in
      ap (with_either b place clock Turn (fault_of b turning)) x.1 ∙ sym (ap (simulation_step hosts b turns turning) x.1)

  pub turn_faulted : outcome_at b place clock Turn ≡ outcome.Faulted → with_step b place clock Turn ≡ simulation_after hosts b (Does turns)
  turn_faulted e =
      let x = fails_there b place clock Turn e in
      made_with b place clock Turn (Some x.1.0) x.0 x.1.1
      ∙ (sym (quiet_step hosts b place clock Turn turns (Cause.ByInner Turn) (Some x.1.0) refl refl refl)
      ∙ (ap (stepped_with hosts b turns turning) (sym x.1.1)
      ∙ sym (ap (simulation_step hosts b turns turning) x.0)))

  module _ (within : place < length b.held_hosts) (r : Reply) (e : outcome_at b place clock Turn ≡ outcome.Answered r) where
    abbrev later : Simulation
    later = with_step b place clock Turn

    abbrev sent : List Sent
    sent = sent_by (as_read b) (acted (stage_at (as_read b) place) clock Turn) clock

    -- what is sent is read off the book after the turn
    sends : sent_by (as_read later) (held_at later place).state clock ≡ sent
    sends =
        ap (λ (x : Held Stage). sent_by (as_read later) x.state clock) (held_host_then b place clock Turn r e within)
        ∙ (ap (λ (x : Simulation). sent_by (as_read x) (acted (held_at b place).state clock Turn) clock) (done_so b place clock Turn r e)
        ∙ ap (λ (s : Stage). sent_by (as_read b) (acted s clock Turn) clock) (sym (stage_chosen kept_all b place)))

    pub turned : with_messages later (sent_by (as_read later) (held_at later place).state clock) ≡ simulation_after hosts b (Does turns)
    turned =
        let none = none_fails b place clock Turn r e in
        let held_hosts : List (Held Stage) = set b.held_hosts place (stepped (held_at b place) clock Turn) in
        ap (with_messages later) sends
        ∙ (ap (λ (x : Simulation). with_messages x sent) (acts b place clock Turn r e)
        ∙ (sym (joined b held_hosts b.stops sent (b.flying ++ numbers_from (length b.messages + 1) sent) sent (b.flying ++ numbers_from (length b.messages + 1) sent) [] refl refl refl)
        ∙ (ap (stepped_with hosts b turns turning) (sym none)
        ∙ sym (ap (simulation_step hosts b turns turning) (none_stops b place clock Turn r e)))))

-- ---- a message that arrives
-- where it is this one
abbrev taken : List ScriptHost → Simulation → ℕ → ℕ → Option Sent → Step → Option ℕ → Simulation
taken hosts b n clock m step f = record {
  held_hosts = set b.held_hosts step.place (stepped (held_at b step.place) step.clock step.asked);
  messages = b.messages ++ unless_fault f (replies hosts (as_read b) clock m);
  flying = flying_then (as_read b) (Move.Arrives n clock) step (landed n b.flying ++ numbers_from (length b.messages + 1) (replies hosts (as_read b) clock m)) f;
  last = b.last;
  stops = stops_left f step.place b.stops;
  broken = b.broken ++ lost_answer f (is_order m) (count_sent b + 1);
  unheard = b.unheard ++ lost_answer f (is_order m) (count_sent b + 1);
}

abbrev taken_unless : List ScriptHost → Simulation → ℕ → ℕ → Option Sent → Step → Option Stop → Simulation
taken_unless hosts b n clock m step None = taken hosts b n clock m step (fault_of b step)
taken_unless hosts b n clock m step (Some stop) = simulation_crashed b step stop

abbrev coming : List ScriptHost → Simulation → ℕ → ℕ → Option Sent → Option Step → Simulation
coming hosts b n clock m None = record b { flying = landed n b.flying }
coming hosts b n clock m (Some step) = taken_unless hosts b n clock m step (stop_for b step.place step.clock step.asked)

same_coming : (hosts : List ScriptHost) (b : Simulation) (n clock : ℕ) (o : Option Step) → coming hosts b n clock (message (as_read b) n) o ≡ simulation_by hosts b (Move.Arrives n clock) o
same_coming hosts b n clock None = refl
same_coming hosts b n clock (Some step) = by (stop_for b step.place step.clock step.asked)
  where
    by : (o : Option Stop) → taken_unless hosts b n clock (message (as_read b) n) step o ≡ simulation_step hosts b (Move.Arrives n clock) step o
    by None = refl
    by (Some stop) = refl

comes_as : (hosts : List ScriptHost) (b : Simulation) (n clock : ℕ) (m : Option Sent) → message (as_read b) n ≡ m → coming hosts b n clock m (step_by hosts n clock m) ≡ simulation_after hosts b (Does (Move.Arrives n clock))
comes_as hosts b n clock m e = ap (λ x. coming hosts b n clock x (step_by hosts n clock x)) (sym e) ∙ same_coming hosts b n clock (step_by hosts n clock (message (as_read b) n))

module _ (hosts : List ScriptHost) (b : Simulation) (n clock : ℕ) (l : Sent) (sent : message (as_read b) n ≡ Some l) where
  abbrev place : ℕ
  place = receiver hosts l

  abbrev i : Input
  i = brings l l.reply

  abbrev coming_step : Step
  coming_step = record { place = place; clock = clock; cause = Cause.ByMessage (n - 1); asked = i; landing = Some n }

  -- once it has landed
  abbrev landed_first : Simulation
  landed_first = record b { flying = landed n b.flying }

  abbrev then_held_hosts : List (Held Stage)
  then_held_hosts = set b.held_hosts place (stepped (held_at b place) clock i)

  -- with this answer to it
  taken_as : (f : Option ℕ) → fault_in (held_at b place) clock i ≡ f → stop_for b place clock i ≡ None → taken hosts b n clock (Some l) coming_step f ≡ simulation_after hosts b (Does (Move.Arrives n clock))
  taken_as f is none =
      ap (taken hosts b n clock (Some l) coming_step) (sym is)
      ∙ (sym (ap (taken_unless hosts b n clock (Some l) coming_step) none)
      ∙ comes_as hosts b n clock (Some l) sent)

  pub arrival_crashed : outcome_at b place clock i ≡ outcome.Crashed → with_step landed_first place clock i ≡ simulation_after hosts b (Does (Move.Arrives n clock))
  arrival_crashed e =
      let x = stops_there b place clock i e in
      ap (with_either landed_first place clock i (fault_of b coming_step)) x.1
      ∙ (sym (ap (taken_unless hosts b n clock (Some l) coming_step) x.1)
      ∙ comes_as hosts b n clock (Some l) sent)

  -- of a host that was asked something
  module _ (order : l.reply ≡ None) where
    pub order_faulted : outcome_at b place clock i ≡ outcome.Faulted → with_broken (with_step landed_first place clock i) ≡ simulation_after hosts b (Does (Move.Arrives n clock))
    order_faulted e =
        let x = fails_there b place clock i e in
        ap with_broken (made_with landed_first place clock i (Some x.1.0) x.0 x.1.1)
        ∙ (sym (ap (λ (t : Bool). record {
          held_hosts = then_held_hosts;
          messages = b.messages ++ [];
          flying = landed n b.flying;
          last = b.last;
          stops = disarmed place b.stops;
          broken = b.broken ++ lost_answer (Some x.1.0) t (count_sent b + 1);
          unheard = b.unheard ++ lost_answer (Some x.1.0) t (count_sent b + 1);
        }) (ap is_unanswered order)
        ∙ ap (λ ls. record {
          held_hosts = then_held_hosts;
          messages = ls;
          flying = landed n b.flying;
          last = b.last;
          stops = disarmed place b.stops;
          broken = b.broken ++ (count_sent b + 1) ∷ [];
          unheard = b.unheard ++ (count_sent b + 1) ∷ [];
        }) (append-nil b.messages))
        ∙ taken_as (Some x.1.0) x.1.1 x.0)

    pub order_replied : (r : Reply) → outcome_at b place clock i ≡ outcome.Answered r → with_messages (with_step landed_first place clock i) (record l { reply = Some r } ∷ []) ≡ simulation_after hosts b (Does (Move.Arrives n clock))
    order_replied r e =
        let none = none_stops b place clock i r e in
        let said : replies hosts (as_read b) clock (Some l) ≡ record l { reply = Some r } ∷ [] =
        ap (replied hosts (as_read b) clock l) order
        ∙ ap (λ (s : Reply). record l { reply = Some s } ∷ [])
        (ap (λ (s : Stage). step_reply s.config s.book clock i) (stage_chosen kept_all b place) ∙ said_so b place clock i r e) in
        ap (λ (x : Simulation). with_messages x (record l { reply = Some r } ∷ [])) (acts landed_first place clock i r e)
        ∙ (sym (joined b then_held_hosts b.stops (record l { reply = Some r } ∷ []) (landed n b.flying ++ numbers_from (length b.messages + 1) (record l { reply = Some r } ∷ []))
        (replies hosts (as_read b) clock (Some l)) (landed n b.flying ++ numbers_from (length b.messages + 1) (replies hosts (as_read b) clock (Some l))) [] said
        (ap (λ ls. landed n b.flying ++ numbers_from (length b.messages + 1) ls) said) refl)
        ∙ taken_as None (none_fails b place clock i r e) none)

  -- of one that was replied to
  module _ (told : Reply) (reply : l.reply ≡ Some told) where
    pub reply_faulted : outcome_at b place clock i ≡ outcome.Faulted → with_step landed_first place clock i ≡ simulation_after hosts b (Does (Move.Arrives n clock))
    reply_faulted e =
        let x = fails_there b place clock i e in
        made_with landed_first place clock i (Some x.1.0) x.0 x.1.1
        ∙ (sym (joined b then_held_hosts (disarmed place b.stops) [] (landed n b.flying) [] (landed n b.flying) (lost_answer (Some x.1.0) (is_unanswered l.reply) (count_sent b + 1)) refl refl
        (ap (λ (o : Option Reply). lost_answer (Some x.1.0) (is_unanswered o) (count_sent b + 1)) reply)
        ∙ quiet b then_held_hosts (disarmed place b.stops) (landed n b.flying))
        ∙ taken_as (Some x.1.0) x.1.1 x.0)

    pub reply_heard : (r : Reply) → outcome_at b place clock i ≡ outcome.Answered r → with_step landed_first place clock i ≡ simulation_after hosts b (Does (Move.Arrives n clock))
    reply_heard r e =
        let none = none_stops b place clock i r e in
        let none_said : replies hosts (as_read b) clock (Some l) ≡ [] = ap (replied hosts (as_read b) clock l) reply in
        acts landed_first place clock i r e
        ∙ (sym (joined b then_held_hosts b.stops [] (landed n b.flying) (replies hosts (as_read b) clock (Some l)) (landed n b.flying ++ numbers_from (length b.messages + 1) (replies hosts (as_read b) clock (Some l))) [] none_said
        (ap (λ ls. landed n b.flying ++ numbers_from (length b.messages + 1) ls) none_said ∙ append-nil (landed n b.flying)) refl
        ∙ quiet b then_held_hosts b.stops (landed n b.flying))
        ∙ taken_as None (none_fails b place clock i r e) none)
