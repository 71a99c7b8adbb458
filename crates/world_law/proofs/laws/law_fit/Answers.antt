use Rattle.world_law.proofs.FitAnswers.{fit_law}
use Rattle.world_law.proofs.laws.law_fit.Goals as goal

pub returns : goal.returns
returns c = fit_law
