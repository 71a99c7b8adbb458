use Rattle.plugin_core.proofs.WrittenLemmas.{test_back}
use Rattle.plugin_core.proofs.write_test.law_test.Goals as goal

pub returns : goal.returns
returns c = test_back c.law_length_text.ensures
