use Rattle.std.proofs.Common.{◌≡◌, ◌+◌, ◌*◌, ◌≤◌, drop}
use Rattle.std.specs.List.{sum_by}
use Rattle.archive_retry.specs.declared.policy.Entry.{Entry}
use Rattle.archive_retry.proofs.policy.total_attempts.Given as goal

-- the sum so far, and that of what is left
abbrev pub invariant-loop-entry : goal.invariant-loop-entry
invariant-loop-entry l = record {
  sum : sum_by (λ (e : Entry). e.attempts) l.entries ≡ l.total + sum_by (λ (e : Entry). e.attempts) (drop l.entry-index l.entries);
  bound : l.total ≤ 1_000 * l.entry-index;
}
