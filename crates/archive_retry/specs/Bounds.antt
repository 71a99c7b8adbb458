-- The bounds that every policy and every state of an archive keep.
use Rattle.std.specs.Prelude.{◌≤◌, ◌+◌, length, All, IfSome}
use Rattle.ps_time.specs.Numbers.{greatest_length, greatest_moment}
use Rattle.archive_retry.specs.declared.policy.Entry.{Entry}
use Rattle.archive_retry.specs.declared.policy.Policy.{Policy}
use Rattle.archive_retry.specs.declared.state.ArchiveState.{ArchiveState}
use Rattle.archive_retry.specs.Retry.{attempts_of}

pub record IsEntry (entry : Entry) : Type 0 where
  pub some : 1 ≤ entry.attempts
  pub few : entry.attempts ≤ 1_000
  pub short : entry.wait ≤ greatest_length

-- an absent policy has no entries
pub record IsPolicy (policy : Policy) : Type 0 where
  pub few : length policy.entries ≤ 16
  pub entries : All IsEntry policy.entries

-- an attempt that is due later is so within bounds, and there were at most as many as the policy has
abbrev pub IsStateOf : Policy → ArchiveState → Type 0
IsStateOf policy state = IfSome state.next (λ next. (next ≤ greatest_moment + greatest_length) × (state.tried ≤ attempts_of policy))
