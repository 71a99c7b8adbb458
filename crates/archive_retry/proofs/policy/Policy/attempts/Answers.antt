use Rattle.std.proofs.Common.{◌∙◌, List, length, ap, sym}
use Rattle.archive_retry.proofs.RetryLemmas.{written_length}
use Rattle.archive_retry.specs.Retry.{written_out}
use Rattle.archive_retry.specs.declared.policy.Entry.{Entry}
use Rattle.archive_retry.proofs.policy.Policy.attempts.Goals as goal

pub returns-clause-written : goal.returns-clause-written
returns-clause-written c =
    c.total_attempts.ensures.sum ∙ (sym (written_length c.as_slice.result.now) ∙ ap (λ (es : List Entry). length (written_out es)) c.as_slice.ensures)
