use Rattle.std.proofs.Common.{subst}
use Rattle.rehearsal_model.specs.Plays.{IsSimulated}
use Rattle.simulated_host.proofs.CrashLemmas.{simulated_is}
use Rattle.simulated_host.proofs.simulated.SimulatedHost.known.Goals as goal

pub returns : goal.returns
returns c = subst IsSimulated c.self.view_is (simulated_is c.self.inside.simulated)
