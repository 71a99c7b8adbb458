use Rattle.archive_retry.proofs.MergeLemmas.{all_mergeable}
use Rattle.archive_retry.proofs.merge.law_results.Goals as goal

pub returns : goal.returns
returns c = all_mergeable
