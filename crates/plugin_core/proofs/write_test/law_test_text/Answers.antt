use Rattle.plugin_core.proofs.LengthLemmas.{test_short}
use Rattle.plugin_core.proofs.write_test.law_test_text.Goals as goal

pub returns : goal.returns
returns c = test_short
