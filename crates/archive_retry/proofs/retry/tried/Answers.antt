use Rattle.std.proofs.Common.{◌≤◌, ℕ, Option, IfSome, sym, subst, arith}
use Rattle.archive_retry.proofs.RetryLemmas.{next_lawful}
use Rattle.archive_retry.specs.Retry.{attempts_of}
use Rattle.archive_retry.proofs.retry.tried.Goals as goal

pub returns-clause-lawful : goal.returns-clause-lawful
returns-clause-lawful c =
    let bound = subst (λ (o : Option ℕ). IfSome o (λ next. next ≤ 4_417_804_800)) c.next_attempt.ensures.value c.next_attempt.ensures.bound in
    let lawful = next_lawful c.args.policy.now c.args.state.tried c.saturating_add-count.result c.args.moment c.args.retry (omega (arith, c.saturating_add-count.ensures)) bound in
    subst (λ (o : Option ℕ). IfSome o (λ next. (next ≤ 4_417_804_800) × (c.saturating_add-count.result ≤ attempts_of c.args.policy.now))) (sym c.next_attempt.ensures.value) lawful
