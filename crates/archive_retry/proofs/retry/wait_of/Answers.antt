use Rattle.std.proofs.Common.{sym, ◌∙◌, arith}
use Rattle.archive_retry.proofs.RetryLemmas.{wait_at, wait_after_it}
use Rattle.archive_retry.proofs.retry.wait_of.Goals as goal

pub returns-then-left-entry-clause-value : goal.returns-then-left-entry-clause-value
returns-then-left-entry-clause-value c =
    sym (c.loop-entry.invariant ∙ wait_at c.args.entries.now c.loop-entry.entry-index c.loop-entry.left _ (omega arith) c.if-left-entry.true)

pub loop-entry-preserved : goal.loop-entry-preserved
loop-entry-preserved c =
    c.loop-entry.invariant ∙ wait_after_it c.args.entries.now c.loop-entry.entry-index c.loop-entry.left _ (omega arith) c.if-left-entry.false
