use Rattle.world_law.proofs.Worlds.{keyed_law}
use Rattle.world_law.proofs.laws.law_keyed.Goals as goal

pub returns : goal.returns
returns c = keyed_law
