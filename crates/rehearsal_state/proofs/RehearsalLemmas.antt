-- A host at its place: it takes a step there, or is taken out and put back.
use Rattle.std.specs.List.{insert, remove}
use Rattle.std.specs.Prelude.{◌==◌, cond, find, if◌then◌else◌, is_some, nat_lt, not, option_map, set, slice_index_or}
use Rattle.std.proofs.Common.{◌<◌, ◌≡◌, ◌∙◌, ◌∷◌, Bool, List, None, Option, Some, [], ap, arith, false, length, refl, subst, suc, sym, true, zero, ℕ}
use Rattle.host_model.specs.Step.{step_reply}
use Rattle.host_model.specs.declared.input.Input.{Input}
use Rattle.host_model.specs.declared.reply.Reply.{Reply}
use Rattle.simulated_machine.specs.Held.{Held}
use Rattle.world_law.specs.World.{Stage}
use Rattle.rehearsal_script.specs.declared.script.Stop.{Stop}
use Rattle.rehearsal_model.specs.Simulations.{Simulation, as_read, outcome_at, outcome_by, nobody_held, held_at, held_in, stop_for, stops_left}
use Rattle.rehearsal_model.specs.Simulated.{answered, ended, ended_at, fault_in, reply_unless, stepped, stop_met}
use Rattle.rehearsal_model.specs.Seen.{disarmed, stop_at, stop_in}
use Rattle.rehearsal_model.specs.declared.outcome.StepOutcome.TheVariants as outcome
use Rattle.rehearsal_state.specs.Moved.{with_act, with_either, with_step}

pub put_back : {X : Type 0} (xs : List X) (i : ℕ) (y : X) → i < length xs → insert (remove xs i) i y ≡ set xs i y
put_back [] i y within = absurd (omega (arith, within))
put_back (x ∷ xs) zero y within = refl
put_back (x ∷ xs) (suc i) y within = ap (λ r. x ∷ r) (put_back xs i y (omega (arith, within)))

-- an item is read the same whatever is read of an empty place
pub read_any : {X : Type 0} (xs : List X) (i : ℕ) (d e : X) → i < length xs → slice_index_or xs i d ≡ slice_index_or xs i e
read_any [] i d e within = absurd (omega (arith, within))
read_any (x ∷ xs) zero d e within = refl
read_any (x ∷ xs) (suc i) d e within = read_any xs i d e (omega (arith, within))

-- ---- whether a step stops
-- a host that isn't to stop stays so
none_disarmed : (place : ℕ) (stops : List (ℕ × Stop)) → stop_in place stops ≡ None → disarmed place stops ≡ stops
none_disarmed place [] none = refl
none_disarmed place (s ∷ ss) none = by (s.0 == place) none (none_disarmed place ss)
  where
    by : (here : Bool) → option_map (λ x. x.1) (cond here (Some s) (find (λ x. x.0 == place) ss)) ≡ None → (stop_in place ss ≡ None → disarmed place ss ≡ ss) → cond (not here) (s ∷ disarmed place ss) (disarmed place ss) ≡ s ∷ ss
    by true e rest = absurd cc
    by false e rest = ap (λ xs. s ∷ xs) (rest e)

module _ (b : Simulation) (place clock : ℕ) (i : Input) where
  abbrev h : Held Stage
  h = held_at b place

  abbrev fault : Option ℕ
  fault = fault_in h clock i

  -- of a host that isn't to stop
  module _ (none : stop_at (as_read b) place ≡ None) where
    none_for : stop_for b place clock i ≡ None
    none_for = ap (λ o. stop_met o fault) none

    stops_stay : (f : Option ℕ) → stops_left f place b.stops ≡ b.stops
    stops_stay None = refl
    stops_stay (Some number) = none_disarmed place b.stops none

    pub acts_on : with_act b place clock i ≡ with_step b place clock i
    acts_on = sym (ap (with_either b place clock i fault) none_for ∙ ap (λ xs. record b { held_hosts = set b.held_hosts place (stepped h clock i); stops = xs }) (stops_stay fault))

    pub acts_outcome : outcome_by None (answered h clock i) ≡ outcome_at b place clock i
    acts_outcome = sym (ap (λ o. outcome_by o (answered h clock i)) none_for)

  -- of one that is
  module _ (stop : Stop) (armed : stop_at (as_read b) place ≡ Some stop) where
    pub ends : record b { held_hosts = set b.held_hosts place (ended_at h clock i stop); stops = disarmed place b.stops } ≡ with_step b place clock i
    ends = by fault ∙ ap (λ o. with_either b place clock i fault (stop_met o fault)) (sym armed)
      where
        by : (f : Option ℕ) → record b { held_hosts = set b.held_hosts place (ended h clock i (stop_met (Some stop) f)); stops = disarmed place b.stops } ≡ with_either b place clock i f (stop_met (Some stop) f)
        by None = refl
        by (Some number) = go (nat_lt number stop.call)
          where
            go : (before : Bool) → record b { held_hosts = set b.held_hosts place (ended h clock i (if before then None else Some stop)); stops = disarmed place b.stops } ≡ with_either b place clock i (Some number) (if before then None else Some stop)
            go true = refl
            go false = refl

    pub ends_outcome : (stopped : Bool) → stopped ≡ is_some (stop_met (Some stop) fault) → (if stopped then outcome.Crashed else outcome.Faulted) ≡ outcome_at b place clock i
    ends_outcome stopped is = ap (λ t. if t then outcome.Crashed else outcome.Faulted) is ∙ (by fault (step_reply h.state.config h.state.book clock i) ∙ ap (λ o. outcome_by (stop_met o fault) (answered h clock i)) (sym armed))
      where
        by : (f : Option ℕ) (said : Reply) → (if is_some (stop_met (Some stop) f) then outcome.Crashed else outcome.Faulted) ≡ outcome_by (stop_met (Some stop) f) (reply_unless f said)
        by None said = refl
        by (Some number) said = go (nat_lt number stop.call)
          where
            go : (before : Bool) → (if is_some {T = Stop} (if before then None else Some stop) then outcome.Crashed else outcome.Faulted) ≡ outcome_by (if before then None else Some stop) None
            go true = refl
            go false = refl

-- ---- of a rehearsal that is seen so
module _ (v b : Simulation) (same : v ≡ b) (place : ℕ) where
  -- the host at the place
  pub held_host_so : place < length b.held_hosts → (s : Held Stage) → s ≡ slice_index_or v.held_hosts place s → s ≡ held_at b place
  held_host_so within s is =
      let there : place < length v.held_hosts = subst (λ (x : Simulation). place < length x.held_hosts) (sym same) within in
      is ∙ (read_any v.held_hosts place s nobody_held there ∙ ap (λ (x : Simulation). held_at x place) same)

  pub act_so : (s later : Held Stage) → s ≡ held_at b place → (clock : ℕ) (i : Input) → later ≡ stepped s clock i → record v { held_hosts = set v.held_hosts place later } ≡ with_act b place clock i
  act_so s later is clock i steps =
      ap (λ (h : Held Stage). record v { held_hosts = set v.held_hosts place h }) (steps ∙ ap (λ (h : Held Stage). stepped h clock i) is)
      ∙ ap (λ (x : Simulation). record x { held_hosts = set x.held_hosts place (stepped (held_at b place) clock i) }) same

  -- of one that is to stop
  module _ (clock : ℕ) (i : Input) (stop : Stop) (armed : stop_at (as_read b) place ≡ Some stop) where
    pub crash_so : (held_hosts : List (Held Stage)) → held_hosts ≡ set v.held_hosts place (ended_at (held_in v.held_hosts place) clock i stop) → (stops : List (ℕ × Stop)) → stops ≡ disarmed place v.stops
        → record v { held_hosts = held_hosts; stops = stops } ≡ with_step b place clock i
    crash_so held_hosts one stops two =
        ap (λ xs. record v { held_hosts = xs; stops = stops }) one
        ∙ (ap (λ xs. record v { held_hosts = set v.held_hosts place (ended_at (held_in v.held_hosts place) clock i stop); stops = xs }) two
        ∙ (ap (λ (x : Simulation). record x { held_hosts = set x.held_hosts place (ended_at (held_at x place) clock i stop); stops = disarmed place x.stops }) same
        ∙ ends b place clock i stop armed))

    pub outcome_so : (stopped : Bool) → stopped ≡ is_some (stop_met (Some stop) (fault_in (held_in v.held_hosts place) clock i)) → (if stopped then outcome.Crashed else outcome.Faulted) ≡ outcome_at b place clock i
    outcome_so stopped is = ends_outcome b place clock i stop armed stopped (is ∙ ap (λ (x : Simulation). is_some (stop_met (Some stop) (fault_in (held_at x place) clock i))) same)
