-- When an archiver is tried again.
use Rattle.std.specs.Prelude.{ℕ, ◌+◌, sum_by, Bool, true, false, nat_le, max, min, List, [], ◌∷◌, ◌++◌, Option, Some, None, if◌then◌else◌, replicate}
use Rattle.std.specs.List.{slice_get}
use Rattle.archive_retry.specs.declared.policy.Entry.{Entry}
use Rattle.archive_retry.specs.declared.policy.Policy.{Policy}
use Rattle.archive_retry.specs.declared.state.ArchiveState.{ArchiveState}

-- the waits of a policy, each as often as its entry has attempts
abbrev pub written_out : List Entry → List ℕ
written_out [] = []
written_out (e ∷ es) = replicate e.attempts e.wait ++ written_out es

-- the attempts of all entries
abbrev pub attempts_of : Policy → ℕ
attempts_of policy = sum_by (λ e. e.attempts) policy.entries

-- an archive that is due from m on
abbrev pub due_from : ℕ → ArchiveState
due_from m = record { tried = 0; next = Some m; done = false }

-- the wait after the next failure, where so many attempts were made before
abbrev pub wait_after : Policy → ℕ → Option ℕ
wait_after policy tried = slice_get (written_out policy.entries) tried

-- the next attempt after a failure at m: after the greater of the archiver's retry and the policy's wait
abbrev pub next_after : ℕ → Option ℕ → Option ℕ → Option ℕ
next_after m None wait = None
next_after m (Some retry) None = None
next_after m (Some retry) (Some wait) = Some (m + max retry wait)

-- one more attempt; the count stands still at the end of its type
abbrev pub counted : ℕ → ℕ
counted tried = min (tried + 1) 4_294_967_295

-- the state after an attempt at m, which succeeded or failed
abbrev pub state_after : Policy → ArchiveState → ℕ → Option ℕ → Bool → ArchiveState
state_after policy state m retry true = record { tried = counted state.tried; next = None; done = true }
state_after policy state m retry false =
    record { tried = counted state.tried; next = next_after m retry (wait_after policy state.tried); done = false }

-- an attempt is due by m
abbrev pub is_due : ArchiveState → ℕ → Bool
is_due state m = if state.done then false else reached state.next
  where
    reached : Option ℕ → Bool
    reached None = false
    reached (Some next) = nat_le next m
