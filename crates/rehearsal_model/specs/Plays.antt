-- What holds of every rehearsal in which calls of disks may fail: each way in which what is unsynced turns out is a world.
use Rattle.std.specs.Prelude.{◌≡◌, All, List, Some, false, length, true, ℕ}
use Rattle.host_model.specs.Conditions.{IsInput}
use Rattle.simulated_machine.specs.Held.{Held, Unsynced}
use Rattle.world_law.specs.World.{Stage}
use Rattle.rehearsal_script.specs.declared.script.ScriptHost.{ScriptHost}
use Rattle.rehearsal_script.specs.declared.script.ScriptLine.{ScriptLine}
use Rattle.rehearsal_script.specs.declared.script.ScriptLine.TheVariants as line
use Rattle.rehearsal_model.specs.Moves.{Move, Outcomes}
use Rattle.rehearsal_model.specs.Reaching.{Reaches}
use Rattle.rehearsal_model.specs.Rehearsal.{seen}
use Rattle.rehearsal_model.specs.Simulations.{Action, Play, Simulation, UnsyncedKept, config_of, action_of, looks, simulation_looked, held_at, seen_by, show_by, try_at}

-- what is unsynced of a host has its configuration
abbrev pub IsSimulated : Held Stage → Type 0
IsSimulated h = (l : Unsynced Stage) → h.unsynced ≡ Some l → l.state.config ≡ h.state.config

-- it knows what stands, and no call of its disks is to fail
abbrev pub IsUnarmed : Held Stage → Type 0
IsUnarmed h = (h.ready ≡ true) × (h.first ≡ 0) × (h.second ≡ 0)

pub record IsPlay (hosts : List ScriptHost) (p : Play) : Type 0 where
  pub reaches : (turns : UnsyncedKept) → Reaches hosts (show_by turns p)
  pub sees : (turns : UnsyncedKept) → seen hosts (show_by turns p) ≡ seen_by turns p.simulation
  pub held_hosts : All IsSimulated p.simulation.held_hosts
  pub long : length p.simulation.held_hosts ≡ length hosts

-- ---- what a line may ask
abbrev pub MayMake : Simulation → Move → Type 0
MayMake b (Move.Asks place clock i) = IsInput (config_of b place) i
MayMake b (Move.Tries place clock i) = IsInput (config_of b place) i
MayMake b _ = Unit {0}

abbrev pub MayAct : Simulation → Action → Type 0
MayAct b (Action.Does move) = MayMake b move
MayAct b _ = Unit {0}

abbrev pub MayTry : Outcomes → Simulation → ℕ → ℕ → Type 0
MayTry comes b place clock = MayAct b (try_at comes b place clock)

-- an archive is tried at once, or once the host found out what stands
abbrev pub MayArchive : Outcomes → List ScriptHost → Simulation → ℕ → ℕ → Type 0
MayArchive comes hosts b place clock = ((held_at b place).ready ≡ true → MayTry comes b place clock) × ((held_at b place).ready ≡ false → looks b place clock ≡ true → MayTry comes (simulation_looked hosts b place clock) place clock)

abbrev pub MayLine : Outcomes → List ScriptHost → Simulation → ScriptLine → Type 0
MayLine comes hosts b (line.Archive at host) = MayArchive comes hosts b host at
MayLine comes hosts b l = MayAct b (action_of comes b l)
