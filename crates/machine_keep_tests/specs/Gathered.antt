-- What a list says of the bytes that were gathered.
use Rattle.std.specs.Prelude.{◌≡◌, ◌++◌, ◌-◌, List, None, Option, Some, [], ◌∷◌, if◌then◌else◌, length, min, nat_le, ℕ}

-- the bytes, and how many there may be
pub record Gathered : Type 0 where
  pub bytes : List ℕ
  pub most : ℕ

-- all of them, one after another
abbrev pub joined : List (List ℕ) → List ℕ
joined [] = []
joined (item ∷ items) = item ++ joined items

-- which form a snapshot has: its first byte, and that of an empty one is 2
abbrev pub mark_of : List ℕ → ℕ
mark_of [] = 2
mark_of (mark ∷ front) = mark

abbrev pub front_of : List ℕ → List ℕ
front_of [] = []
front_of (mark ∷ front) = front

-- a snapshot with this mark, and records, together these bytes
abbrev pub Holds : ℕ → List (List ℕ) → List ℕ → Type 0
Holds mark [] bytes = ⊥
Holds mark (snapshot ∷ records) bytes = (mark_of snapshot ≡ mark) × (front_of snapshot ++ joined records ≡ bytes)

-- how many bytes may come at once
abbrev pub room_in : Gathered → ℕ
room_in s = min (s.most - length s.bytes) 65_536

abbrev pub with_chunk : Gathered → List ℕ → Gathered
with_chunk s chunk = record { bytes = s.bytes ++ chunk; most = s.most }

-- the bytes that are asked for, where they may come
abbrev pub unless_full : Gathered → Option (List ℕ) → Option (List ℕ)
unless_full s None = None
unless_full s (Some chunk) = if nat_le (length chunk) (room_in s) then Some chunk else None
