-- Pairs of disks in a rack.
use Rattle.std.specs.Prelude.{◌≡◌, ℕ, ◌<◌, ◌==◌, Bool, true, false, ◌||◌, ◌&&◌, if◌then◌else◌, List, [], ◌∷◌, ◌++◌, codes, length, slice_index_or, bytes_eq, Option, Some, None, is_some, Result, Ok, Err}
use Rattle.std.proofs.Common.{sym, ◌∙◌, ap}
use Rattle.std.specs.Option.{option_map}
use Rattle.std.specs.List.{remove}
use Rattle.ps_ports.specs.Causes.{raised}
use Rattle.ps_ports.specs.Memory.{Calls, fails_next, called}
use Rattle.ps_disks.specs.Disk.{NoMore}
use Rattle.ps_disks.specs.MemoryDisk.{DiskState, new_disk, reopened}
use Rattle.ps_disks.specs.declared.rack.RackFault.{RackFault}
use Rattle.ps_disks.specs.declared.rack.RackFault.TheVariants.{Failed, Memory}
use Rattle.std.specs.declared.io.ErrorKind.{ErrorKind}
use Rattle.std.specs.declared.io.ErrorKind.TheVariants.{OutOfMemory}

-- A new pair. The first disk: the magic, an open gate byte, the generation 1 in eight bytes, an empty snapshot's length in four, a closed gate byte.
abbrev pub fresh_first : List ℕ
fresh_first = codes "PSCHJRN1" ++ 1 ∷ 0 ∷ 0 ∷ 0 ∷ 0 ∷ 0 ∷ 0 ∷ 0 ∷ 1 ∷ 0 ∷ 0 ∷ 0 ∷ 0 ∷ 0 ∷ []

-- the second: the magic and a closed gate byte
abbrev pub fresh_second : List ℕ
fresh_second = codes "PSCHJRN1" ++ 0 ∷ []

-- the fault that an error of the system stands for
abbrev pub fault_of : ErrorKind → RackFault
fault_of OutOfMemory = Memory
fault_of _ = Failed

-- a disk that was given back and is opened again: it reads as before, and a crash may leave no more than before
pub record IsKept {D : Type 0} (seen : D → List ℕ) (may_leave : D → List ℕ → Type 0) (old new : D) : Type 0 where
  pub bytes : seen new ≡ seen old
  pub images : NoMore (may_leave old) (may_leave new)

-- of each other folder the rack tells the same pairs as before
abbrev pub LeavesOthers : {D : Type 0} → List ℕ → (List ℕ → D → D → Type 0) → (List ℕ → D → D → Type 0) → Type 0
LeavesOthers {D} folder old new = (other : List ℕ) (first second : D) → (other ≡ folder → ⊥) → (old other first second → new other first second) × (new other first second → old other first second)

-- of each folder
abbrev pub LeavesAll : {D : Type 0} → (List ℕ → D → D → Type 0) → (List ℕ → D → D → Type 0) → Type 0
LeavesAll {D} old new = (folder : List ℕ) (first second : D) → (old folder first second → new folder first second) × (new folder first second → old folder first second)

-- the pair of each other folder that was open still is
abbrev pub LeavesOpen : List ℕ → (List ℕ → Type 0) → (List ℕ → Type 0) → Type 0
LeavesOpen folder old new = (other : List ℕ) → (other ≡ folder → ⊥) → old other → new other

-- a pair in memory, with its folder
abbrev pub Stored : Type 0
Stored = List ℕ × DiskState × DiskState

-- the first for which the test holds
abbrev pub first_by : {X : Type 0} → (X → Bool) → List X → Option X
first_by test [] = None
first_by test (x ∷ xs) = if test x then Some x else first_by test xs

-- all but that one
abbrev pub without_first : {X : Type 0} → (X → Bool) → List X → List X
without_first test [] = []
without_first test (x ∷ xs) = if test x then xs else x ∷ without_first test xs

-- it stands at place i
pub record IsFirst {X : Type 0} (test : X → Bool) (xs : List X) (i : ℕ) : Type 0 where
  pub within : i < length xs
  pub holds : (d : X) → test (slice_index_or xs i d) ≡ true
  pub first : (d : X) → first_by test xs ≡ Some (slice_index_or xs i d)
  pub rest : without_first test xs ≡ remove xs i

-- the pair lies under the folder
abbrev pub is_under : List ℕ → Stored → Bool
is_under folder p = bytes_eq folder p.0

-- the pair that the folder has
abbrev pub find_pair : List ℕ → List Stored → Option (DiskState × DiskState)
find_pair folder pairs = option_map (λ p. (p.1, p.2)) (first_by (is_under folder) pairs)

-- the pairs in the rack, and the folders of those that are out
pub record ShelfState : Type 0 where
  pub pairs : List Stored
  pub out : List (List ℕ)

-- these, the calls, the count of faults
pub record RackState : Type 0 where
  pub shelf : ShelfState
  pub calls : Calls
  pub faults : ℕ

-- the pair lies in the rack under the folder
abbrev pub KeepsPair : RackState → List ℕ → DiskState → DiskState → Type 0
KeepsPair r folder first second = find_pair folder r.shelf.pairs ≡ Some (first, second)

abbrev pub is_out : List ℕ → RackState → Bool
is_out folder r = is_some (first_by (bytes_eq folder) r.shelf.out)

-- the pair that an opening gives: that of the folder, or a new one
abbrev pub opened_pair : Option (DiskState × DiskState) → DiskState × DiskState
opened_pair None = (new_disk fresh_first [], new_disk fresh_second [])
opened_pair (Some pair) = (reopened pair.0, reopened pair.1)

-- the shelf without the folder's pair
abbrev pub after_take : List ℕ → ShelfState → ShelfState
after_take folder s = record { pairs = without_first (is_under folder) s.pairs; out = s.out ++ folder ∷ [] }

-- the shelf with it again
abbrev pub after_give : List ℕ → DiskState → DiskState → ShelfState → ShelfState
after_give folder first second s = record { pairs = (folder, first, second) ∷ s.pairs; out = without_first (bytes_eq folder) s.out }

-- what an opening answers and leaves: it fails where that call is to fail, and where the pair is out
abbrev pub Opens : List ℕ → RackState → RackState → Result (DiskState × DiskState) RackFault → Type 0
Opens folder old new (Ok pair) =
    ((fails_next old.calls || is_out folder old) ≡ false) × (pair ≡ opened_pair (find_pair folder old.shelf.pairs))
    × (new ≡ record { shelf = after_take folder old.shelf; calls = called old.calls; faults = old.faults })
Opens folder old new (Err Failed) =
    ((fails_next old.calls || is_out folder old) ≡ true) × (new ≡ record { shelf = old.shelf; calls = called old.calls; faults = raised old.faults })
Opens folder old new (Err Memory) = new ≡ record { shelf = old.shelf; calls = called old.calls; faults = old.faults }

-- after a pair was given back
abbrev pub after_close : List ℕ → DiskState → DiskState → RackState → RackState
after_close folder first second r = record {
  shelf = after_give folder first second r.shelf;
  calls = r.calls;
  faults = if (first.faults == 0) && (second.faults == 0) then r.faults else raised r.faults;
}

-- a folder has one pair
pub one_pair_kept : (r : RackState) (folder : List ℕ) (a b c d : DiskState) → Unit {0} → KeepsPair r folder a b → KeepsPair r folder c d → (c ≡ a) × (d ≡ b)
one_pair_kept r folder a b c d tells one other =
    let same : Some (c, d) ≡ Some (a, b) = sym other ∙ one in
    (ap (λ o. (pair_in o (a, b)).0) same, ap (λ o. (pair_in o (a, b)).1) same)
  where
    pair_in : Option (DiskState × DiskState) → DiskState × DiskState → DiskState × DiskState
    pair_in None none = none
    pair_in (Some pair) none = pair
