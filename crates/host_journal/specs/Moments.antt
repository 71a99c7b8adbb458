-- What a call adds to what a crash may leave, for each disk by itself, so that calls in a row can be joined.
use Rattle.std.specs.Prelude.{◌≡◌, ◌⊎◌, ◌≤◌, ℕ, ◌+◌, Bool, true, false, not, List, Result, Ok, Err}
use Rattle.host_journal.specs.Format.{stands}
use Rattle.host_journal.specs.Pair.{alone}
use Rattle.host_journal.specs.State.{State, IsBelow, first_disk, second_disk}
use Rattle.host_journal.specs.declared.reading.Counted.{Counted}
use Rattle.host_journal.specs.declared.reading.DiskPlace.{DiskPlace}

-- bytes of the first disk, or of the second, that stand for this by themselves
abbrev pub Shows : Result Counted DiskPlace → Bool → List ℕ → Type 0
Shows (Ok k) second bytes = (k.second ≡ second) × (stands bytes ≡ true) × (alone k.second bytes ≡ Ok k)
Shows (Err place) second bytes = ⊥

-- bytes that may lie beside the disk that counts
abbrev pub LiesBeside : Result Counted DiskPlace → Bool → List ℕ → Type 0
LiesBeside (Ok k) second bytes = (k.second ≡ not second) × IsBelow k.second k.generation bytes
LiesBeside (Err place) second bytes = ⊥

-- of a pair that stands for this, one of the two disks
abbrev pub IsDiskOf : Result Counted DiskPlace → Bool → List ℕ → Type 0
IsDiskOf pair second bytes = Shows pair second bytes ⊎ LiesBeside pair second bytes

-- What a crash since any earlier moment may have left of a disk, it may have left before the call, or it has Q.
pub record AddsOnly {D : Type 0} (moment : D → ℕ) (left_since : D → ℕ → List ℕ → Type 0) (old new : D) (Q : List ℕ → Type 0) : Type 0 where
  pub later : moment old ≤ moment new
  pub each : (t : ℕ) (c : List ℕ) → t ≤ moment old → left_since new t c → left_since old t c ⊎ Q c

-- the same of both
pub record Adds {D : Type 0} (moment : D → ℕ) (left_since : D → ℕ → List ℕ → Type 0) (old new : State D) (Q : Bool → List ℕ → Type 0) : Type 0 where
  pub first : AddsOnly moment left_since (first_disk old) (first_disk new) (Q false)
  pub second : AddsOnly moment left_since (second_disk old) (second_disk new) (Q true)

-- What may be left of one disk in a run of calls: as the run began, or by itself one of those that the run made.
abbrev pub LeftIn : Result Counted DiskPlace → (Result Counted DiskPlace → Type 0) → Bool → List ℕ → Type 0
LeftIn from Made second bytes = IsDiskOf from second bytes ⊎ ((pair : Result Counted DiskPlace) × Made pair × Shows pair second bytes)

-- on the same disk and with the same generation, or on the other disk and with the next one
abbrev pub IsNear : Result Counted DiskPlace → Result Counted DiskPlace → Type 0
IsNear (Ok k) (Ok m) = ((m.second ≡ k.second) × (m.generation ≡ k.generation)) ⊎ ((m.second ≡ not k.second) × (m.generation ≡ k.generation + 1))
IsNear (Ok k) (Err place) = ⊥
IsNear (Err place) pair = ⊥
