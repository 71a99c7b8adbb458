use Rattle.world_law.proofs.Worlds.{booked_law}
use Rattle.world_law.proofs.laws.law_booked.Goals as goal

pub returns : goal.returns
returns c = booked_law
