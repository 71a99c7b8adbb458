-- Hosts that know what stands, and of which no call of a disk is to fail: they stay so, whatever is done but to let one fail.
use Rattle.std.specs.List.{AllByRecursion}
use Rattle.std.specs.Prelude.{All, set, slice_index_or, take}
use Rattle.std.proofs.Common.{◌≡◌, ◌-◌, ◌+◌, ◌∙◌, ◌∷◌, ℕ, zero, suc, Bool, true, false, List, [], None, Option, Some, ap, arith, option_map, refl, subst, sym}
use Rattle.std.proofs.lemmas.List.Elements.{All-map, All-set, recursion_from_All}
use Rattle.host_model.specs.declared.input.Input.{Input}
use Rattle.host_model.specs.declared.input.Input.TheVariants as input
use Rattle.simulated_machine.specs.Held.{Held, configured, failing, fault_at, on_first, on_second, schedule}
use Rattle.world_law.specs.World.{Stage}
use Rattle.rehearsal_script.specs.declared.script.ScriptHost.{ScriptHost}
use Rattle.rehearsal_script.specs.declared.script.Stop.{Stop}
use Rattle.rehearsal_model.specs.Hosts.{first_config}
use Rattle.rehearsal_model.specs.Moves.{Move}
use Rattle.rehearsal_model.specs.Plays.{IsUnarmed}
use Rattle.rehearsal_model.specs.Rehearsal.{retooled}
use Rattle.rehearsal_model.specs.Simulations.{Action, Simulation, Step, as_read, first_simulation, simulation_by, simulation_after, simulation_rested, simulation_step, held_at, held_in, step_of, stop_for}
use Rattle.rehearsal_model.specs.Simulated.{Left, among, calls_for, unarmed_on, done, left_stopped, new_left, opened_anew, opened_on, stage_with, stepped, stepped_by, written_at}

-- ---- one host
none_failing : (calls : List Bool) → failing 0 0 calls ≡ None
none_failing [] = refl
none_failing (false ∷ calls) = ap (option_map (λ (n : ℕ). n + 1)) (none_failing calls)
none_failing (true ∷ calls) = ap (option_map (λ (n : ℕ). n + 1)) (none_failing calls)

none_less : (n k : ℕ) → n ≡ 0 → n - k ≡ 0
none_less n k none = omega (arith, none)

-- of which no call is to fail: all calls of its step are made
module _ (h : Held Stage) (first : h.first ≡ 0) (second : h.second ≡ 0) (clock : ℕ) (i : Input) where
  none_at : fault_at h ≡ None
  none_at = ap (λ (n : ℕ). failing n h.second (schedule h)) first ∙ (ap (λ (n : ℕ). failing 0 n (schedule h)) second ∙ none_failing (schedule h))

  pub stepped_done : stepped h clock i ≡ done h clock i
  stepped_done = ap (λ (o : Option ℕ). stepped_by h clock i (among (calls_for h (written_at h clock i)) o)) none_at

module _ (h : Held Stage) (unarmed : IsUnarmed h) (clock : ℕ) (i : Input) where
  abbrev made : List Bool
  made = take (calls_for h (written_at h clock i)) (schedule h)

  done_unarmed : IsUnarmed (done h clock i)
  done_unarmed = (refl, none_less h.first (on_first made) unarmed.1, none_less h.second (on_second made) unarmed.2)

  stepped_unarmed : IsUnarmed (stepped h clock i)
  stepped_unarmed = subst IsUnarmed (sym (stepped_done h unarmed.1 unarmed.2 clock i)) done_unarmed

opened_unarmed : (left : Left) (clock : ℕ) → IsUnarmed (opened_on left clock)
opened_unarmed left clock = done_unarmed (unarmed_on left) (refl, refl, refl) clock input.Open

-- ---- all of them
held_host_unarmed : (held_hosts : List (Held Stage)) → AllByRecursion IsUnarmed held_hosts → (place : ℕ) → IsUnarmed (held_in held_hosts place)
held_host_unarmed [] each place = (refl, refl, refl)
held_host_unarmed (h ∷ hs) each zero = each.0
held_host_unarmed (h ∷ hs) each (suc place) = held_host_unarmed hs each.1 place

-- it lets no call of a disk fail
abbrev pub ArmsNone : Action → Type 0
ArmsNone (Action.Fails place call) = ⊥
ArmsNone _ = Unit {0}

module _ (hosts : List ScriptHost) (b : Simulation) (unarmed : All IsUnarmed b.held_hosts) where
  there : (place : ℕ) → IsUnarmed (held_at b place)
  there place = held_host_unarmed b.held_hosts (recursion_from_All IsUnarmed b.held_hosts unarmed) place

  with_unarmed : (place : ℕ) (h : Held Stage) → IsUnarmed h → All IsUnarmed (set b.held_hosts place h)
  with_unarmed place h is = All-set IsUnarmed b.held_hosts place h is unarmed

  step_unarmed : (move : Move) (step : Step) (o : Option Stop) → All IsUnarmed (simulation_step hosts b move step o).held_hosts
  step_unarmed move step None = let h : Held Stage = held_at b step.place in with_unarmed step.place (stepped h step.clock step.asked) (stepped_unarmed h (there step.place) step.clock step.asked)
  step_unarmed move step (Some stop) =
      let left : Left = left_stopped (held_at b step.place) step.clock step.asked stop in
      with_unarmed step.place (opened_on left step.clock) (opened_unarmed left step.clock)

  rested_unarmed : (move : Move) → All IsUnarmed (simulation_rested b move).held_hosts
  rested_unarmed (Move.Retools place tools) =
      let h : Held Stage = held_at b place in
      with_unarmed place (configured stage_with (retooled tools h.state.config) h) (there place)
  rested_unarmed _ = unarmed

  moved_unarmed : (move : Move) (o : Option Step) → All IsUnarmed (simulation_by hosts b move o).held_hosts
  moved_unarmed move None = rested_unarmed move
  moved_unarmed move (Some step) = step_unarmed move step (stop_for b step.place step.clock step.asked)

  pub action_unarmed : (action : Action) → ArmsNone action → All IsUnarmed (simulation_after hosts b action).held_hosts
  action_unarmed (Action.Does move) none = moved_unarmed move (step_of hosts (as_read b) move)
  action_unarmed (Action.Fails place call) none = absurd none
  action_unarmed (Action.Hears n) none = unarmed
  action_unarmed (Action.Reopens place clock) none = let h : Held Stage = held_at b place in with_unarmed place (done h clock input.Open) (done_unarmed h (there place) clock input.Open)

pub first_unarmed : (hosts : List ScriptHost) → All IsUnarmed (first_simulation hosts).held_hosts
first_unarmed hosts =
    All-map IsUnarmed (λ (h : ScriptHost). opened_anew (first_config hosts h)) hosts (λ i d within. opened_unarmed (new_left (first_config hosts (slice_index_or hosts i d))) 0)
