use Rattle.plugin_core.proofs.ShapeLemmas.{test_whole, test_flat}
use Rattle.plugin_core.proofs.write_test.write_test.Goals as goal

pub returns-clause-whole : goal.returns-clause-whole
returns-clause-whole c = rw c.in_ok-value.ensures (test_whole c.args.test.now)

pub returns-clause-flat : goal.returns-clause-flat
returns-clause-flat c = rw c.in_ok-value.ensures (test_flat c.args.test.now)
