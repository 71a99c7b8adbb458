-- What an attempt of an archiver answers, and an archiver in memory.
use Rattle.std.specs.Prelude.{◌≤◌, ℕ, Bool, List, [], ◌∷◌, IfSome, ⊤}
use Rattle.ps_time.specs.Numbers.{greatest_length}
use Rattle.ps_doors.specs.declared.archiver.Attempt.{Attempt}
use Rattle.ps_doors.specs.declared.archiver.Tried.{Tried}
use Rattle.ps_doors.specs.declared.archiver.Tried.TheVariants.{Succeeded, Failed, Memory}

-- the wait that it asks for before the next attempt is a length
abbrev pub HasLength : Tried → Type 0
HasLength Succeeded = ⊤
HasLength (Failed error retry) = IfSome retry (λ wait. wait ≤ greatest_length)
HasLength Memory = ⊤

-- the name, the outcomes that are left, the attempts so far, and whether memory ever ran out for these
pub record ArchiverState : Type 0 where
  pub name : List ℕ
  pub outcomes : List Tried
  pub attempts : List Attempt
  pub starved : Bool

-- the first outcome that is left; behind the last one every attempt succeeds
abbrev pub next_outcome : List Tried → Tried
next_outcome [] = Succeeded
next_outcome (outcome ∷ more) = outcome
