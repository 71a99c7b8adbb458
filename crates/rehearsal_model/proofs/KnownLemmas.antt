-- The invariants of the world hold of each world that a rehearsal comes to.
use Rattle.std.proofs.Common.{List, subst, sym}
use Rattle.host_model.proofs.StepFollows.{step_follows}
use Rattle.world_law.proofs.Invariant.{Inv}
use Rattle.world_law.proofs.Keeping.{always_inv}
use Rattle.rehearsal_script.specs.Lawful.{AreLawfulHosts}
use Rattle.rehearsal_script.specs.declared.script.ScriptHost.{ScriptHost}
use Rattle.rehearsal_model.specs.Hosts.{config_numbered, name_numbered}
use Rattle.rehearsal_model.specs.Reaching.{Reaches}
use Rattle.rehearsal_model.specs.Rehearsal.{Show}
use Rattle.rehearsal_model.proofs.HostLemmas.{first_right}

pub known_inv : (hosts : List ScriptHost) → AreLawfulHosts hosts → (s : Show) → Reaches hosts s → Inv s.world
known_inv hosts lawful s reach = subst Inv (sym reach.world) (always_inv step_follows (name_numbered hosts) (config_numbered hosts) (first_right hosts lawful) reach.events reach.may)
