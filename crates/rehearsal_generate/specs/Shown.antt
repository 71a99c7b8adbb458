-- What is known of the hosts while the work goes on.
use Rattle.std.specs.Prelude.{◌≡◌, All, List, length}
use Rattle.rehearsal_script.specs.Lawful.{AreLawfulHosts}
use Rattle.rehearsal_script.specs.declared.script.ScriptHost.{ScriptHost}
use Rattle.rehearsal_model.specs.Plays.{IsUnarmed, IsPlay}
use Rattle.rehearsal_model.specs.Simulations.{Play, Simulation}
use Rattle.rehearsal_generate.specs.declared.tally.Tally.{Tally}

-- this is seen of a play of the hosts, of which no call of a disk is to fail
pub record IsSimulationOf (hosts : List ScriptHost) (p : Play) (b : Simulation) : Type 0 where
  pub is : IsPlay hosts p
  pub simulation_so : p.simulation ≡ b
  pub unarmed : All IsUnarmed b.held_hosts

-- eight hosts that a script may declare; this is seen of a play of them
pub record IsShown (hosts : List ScriptHost) (b : Simulation) : Type 0 where
  pub lawful : AreLawfulHosts hosts
  pub eight : length hosts ≡ 8
  pub play : Play
  pub seen : IsSimulationOf hosts play b

-- the work over the play itself, and over what is seen of it
pub record Alike (hosts : List ScriptHost) (st : Play × Tally) (bt : Simulation × Tally) : Type 0 where
  pub seen : IsSimulationOf hosts st.0 bt.0
  pub tally : st.1 ≡ bt.1
