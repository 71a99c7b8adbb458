use Rattle.limit_apply.proofs.AdmitsLemmas.{never_above}
use Rattle.limit_apply.proofs.limits.Limits.admits.Goals as goal

pub returns-clause-never : goal.returns-clause-never
returns-clause-never c = λ ceiling. never_above _ c.args.self.now c.args.asker.now c.args.test.now ceiling c.walk_without_run.ensures
