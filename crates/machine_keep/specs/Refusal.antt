-- At which item a list is refused, and at which place two disks are.
use Rattle.std.specs.Prelude.{◌≡◌, ◌⊎◌, ◌<◌, ◌+◌, ℕ, List, Result, Ok, Err, length, take}
use Rattle.host_journal.specs.Format.{record_bytes}
use Rattle.host_journal.specs.Pair.{number_of}
use Rattle.host_journal.specs.declared.reading.Counted.{Counted}
use Rattle.host_journal.specs.declared.reading.DiskPlace.{DiskPlace}

-- The first item that is refused: those before it, where there are any, stand for a state, and with it they stand for none.
pub record IsFirstRefused {S : Type 0} (stands : List (List ℕ) → S → Type 0) (list : List (List ℕ)) (index : ℕ) : Type 0 where
  pub within : index < length list
  pub front : 0 < index → (s : S) × stands (take index list) s
  pub refused : (s : S) → stands (take (index + 1) list) s → ⊥

-- a list stands for a state of this origin, in one of two forms
abbrev pub StandsOf : {S F : Type 0} → (S → F) → F → (List (List ℕ) → S → Type 0) → (List (List ℕ) → S → Type 0) → List (List ℕ) → S → Type 0
StandsOf {S} {F} fixed of stands stood list s = (fixed s ≡ of) × (stands list s ⊎ stood list s)

-- Two disks are refused at this place: there they are no journal, or on the disk that counts the first item begins that is refused.
abbrev pub IsRefusedAt : {S : Type 0} → (List (List ℕ) → S → Type 0) → Result Counted DiskPlace → DiskPlace → Type 0
IsRefusedAt stands (Err at) place = at ≡ place
IsRefusedAt stands (Ok k) place = (index : ℕ) × IsFirstRefused stands k.list index × (place ≡ record { disk = number_of k.second; place = 21 + record_bytes (take index k.list) })
