-- The calls on an open file, and which of them a disk over it makes.
use Rattle.std.specs.Prelude.{◌≡◌, ℕ, ◌+◌, Bool, true, if◌then◌else◌, nat_le, List, [], ◌∷◌, ◌++◌, length, take, Option, IfSome, None, Some, Result, Ok, Err}
use Rattle.ps_files.specs.declared.file_calls.FileCall.{FileCall}
use Rattle.ps_files.specs.declared.file_calls.FileCall.TheVariants.{WriteAt, Length, SetLength, SyncData, SyncAll}
use Rattle.ps_files.specs.declared.file_calls.MadeCall.{MadeCall}

-- where calls are told, those before were told, and these are more
abbrev pub Adds : {X : Type 0} → Option (List X) → Option (List X) → List X → Type 0
Adds {X} old now added = IfSome now (λ calls. (before : List X) × (old ≡ Some before) × (calls ≡ before ++ added))

-- one call more, and whether it was done
abbrev pub one : FileCall → Bool → List MadeCall
one call done = record { call = call; done = done } ∷ []

-- the bytes that a write took: none where it failed
abbrev pub taken : {E : Type 0} → Result ℕ E → List ℕ → List ℕ
taken (Ok n) bytes = take n bytes
taken (Err e) bytes = []

-- the length that was told: 0 where that failed
abbrev pub told_length : {E : Type 0} → Result ℕ E → ℕ
told_length (Ok n) = n
told_length (Err e) = 0

-- these calls wrote the bytes from the place on, piece behind piece, and each was done
abbrev pub ArePieces : ℕ → List ℕ → List MadeCall → Type 0
ArePieces at bytes [] = bytes ≡ []
ArePieces at bytes (made ∷ more) =
    (piece : List ℕ) × (rest : List ℕ) × (made ≡ record { call = WriteAt at piece; done = true }) × (bytes ≡ piece ++ rest) × ArePieces (at + length piece) rest more

-- the calls since wrote the bytes, whole
abbrev pub WroteWhole : Option (List MadeCall) → Option (List MadeCall) → ℕ → List ℕ → Type 0
WroteWhole old now at bytes = IfSome now (λ calls. (before : List MadeCall) × (added : List MadeCall) × (old ≡ Some before) × (calls ≡ before ++ added) × ArePieces at bytes added)

-- what a cut makes of a file of n bytes
abbrev pub cut_calls : ℕ → ℕ → List MadeCall
cut_calls len n =
    if nat_le n len
    then record { call = Length n; done = true } ∷ []
    else record { call = Length n; done = true } ∷ record { call = SetLength len; done = true } ∷ []

-- which sync a disk makes: all, where a cut made a length since the last one
abbrev pub sync_call : Bool → FileCall
sync_call was_cut = if was_cut then SyncAll else SyncData

-- the list, as long as memory never ran out
abbrev pub told_by : {X : Type 0} → Bool → List X → Option (List X)
told_by starved xs = if starved then None else Some xs
