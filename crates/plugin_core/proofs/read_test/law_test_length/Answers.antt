use Rattle.plugin_core.proofs.BoundLemmas.{length_lasts, length_within}
use Rattle.plugin_core.proofs.read_test.law_test_length.Goals as goal

pub returns : goal.returns
returns c = record { lasts = length_lasts; within = length_within }
