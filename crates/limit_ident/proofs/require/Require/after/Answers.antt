use Rattle.limit_ident.proofs.RequireLemmas.{all_decided}
use Rattle.limit_ident.proofs.require.Require.after.Goals as goal

pub returns-in-All : goal.returns-in-All
returns-in-All c = λ others. all_decided _ _ others c.in-All.is c.if-not-outcome.true
