-- What a run of calls on one disk leaves.
use Rattle.std.specs.Prelude.{◌≡◌, ℕ, ◌≤◌, List, length, take}
use Rattle.ps_disks.specs.Disk.{NoMore, LeavesOnly}

-- an image, or what a part of a call makes of one
abbrev pub PartAfter : (List ℕ → List ℕ → Type 0) → (List ℕ → Type 0) → List ℕ → Type 0
PartAfter step images c = (d : List ℕ) × images d × step d c

-- of a disk with a head: it has the same head
abbrev pub KeepsHead : List ℕ → List ℕ → Type 0
KeepsHead old new = 9 ≤ length old → (take 9 new ≡ take 9 old) × (9 ≤ length new)

-- Syncs and reads: what a read gives stays, and there is no image that there wasn't.
pub record IsRead {D : Type 0} (seen : D → List ℕ) (may_leave : D → List ℕ → Type 0) (moment : D → ℕ) (left_since : D → ℕ → List ℕ → Type 0) (old new : D) : Type 0 where
  pub same : seen new ≡ seen old
  pub images : NoMore (may_leave old) (may_leave new)
  pub moments : LeavesOnly moment left_since old new (may_leave old)
