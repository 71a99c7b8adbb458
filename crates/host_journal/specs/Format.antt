-- What the bytes of one disk say: a head, a generation, a snapshot, and records behind gate bytes.
use Rattle.std.specs.Prelude.{◌==◌, ℕ, suc, zero, ◌+◌, Bool, if◌then◌else◌, nat_le, List, [], ◌∷◌, ◌++◌, length, take, drop, Option, Some, None, Result, Ok, Err}
use Rattle.std.specs.Int.{w32, w64, from_be_bytes}

-- PSCHJRN1
abbrev pub magic : List ℕ
magic = 80 ∷ 83 ∷ 67 ∷ 72 ∷ 74 ∷ 82 ∷ 78 ∷ 49 ∷ []

-- the magic and an open gate byte
abbrev pub open_head : List ℕ
open_head = 80 ∷ 83 ∷ 67 ∷ 72 ∷ 74 ∷ 82 ∷ 78 ∷ 49 ∷ 1 ∷ []

-- how many bytes at the front are as wanted: the place of the first that isn't, where there is one
abbrev pub agreeing : List ℕ → List ℕ → ℕ
agreeing [] bytes = 0
agreeing (w ∷ wanted) [] = 0
agreeing (w ∷ wanted) (b ∷ bytes) = if b == w then suc (agreeing wanted bytes) else 0

-- the disk stands: the magic, and an open head gate byte
abbrev pub stands : List ℕ → Bool
stands bytes = agreeing open_head bytes == 9

-- a length of four bytes, so many bytes, and at least a gate byte behind them: the bytes, and what begins at the gate byte
abbrev pub sized : List ℕ → Option (List ℕ × List ℕ)
sized (a ∷ b ∷ c ∷ d ∷ rest) =
    let size = from_be_bytes w32 (a ∷ b ∷ c ∷ d ∷ []) in
    if nat_le (size + 1) (length rest) then Some (take size rest, drop size rest) else None
sized bytes = None

-- what lies behind a head
pub record Body : Type 0 where
  pub generation : ℕ
  pub snapshot : List ℕ
  -- from the first gate byte on
  pub gate_bytes : List ℕ

abbrev pub with_snapshot : ℕ → Option (List ℕ × List ℕ) → Option Body
with_snapshot generation None = None
with_snapshot generation (Some piece) = Some (record { generation = generation; snapshot = piece.0; gate_bytes = piece.1 })

-- a generation of eight bytes, a snapshot and a gate byte
abbrev pub body_of : List ℕ → Option Body
body_of (a ∷ b ∷ c ∷ d ∷ e ∷ f ∷ g ∷ h ∷ rest) = with_snapshot (from_be_bytes w64 (a ∷ b ∷ c ∷ d ∷ e ∷ f ∷ g ∷ h ∷ [])) (sized rest)
body_of bytes = None

-- the bytes that records take: each has a length of four, a payload and a gate byte
abbrev pub record_bytes : List (List ℕ) → ℕ
record_bytes [] = 0
record_bytes (payload ∷ records) = 5 + length payload + record_bytes records

-- these records, and then those behind them, or the place at which no record is whole
abbrev pub joined : List (List ℕ) → Result (List (List ℕ)) ℕ → Result (List (List ℕ)) ℕ
joined records (Ok more) = Ok (records ++ more)
joined records (Err at) = Err (record_bytes records + at)

abbrev pub behind : Option (List ℕ × List ℕ) → (List ℕ → Result (List (List ℕ)) ℕ) → Result (List (List ℕ)) ℕ
behind None next = Err 0
behind (Some piece) next = joined (piece.0 ∷ []) (next piece.1)

-- at most so many records
abbrev pub records_within : ℕ → List ℕ → Result (List (List ℕ)) ℕ
records_within zero gate_bytes = Ok []
records_within (suc most) [] = Ok []
records_within (suc most) (gate_byte ∷ rest) = if gate_byte == 1 then behind (sized rest) (λ gate_bytes. records_within most gate_bytes) else Ok []

-- the records behind open gate bytes, up to the first gate byte that isn't open, or the place, from here on, of an open gate byte without a whole record
abbrev pub records_of : List ℕ → Result (List (List ℕ)) ℕ
records_of gate_bytes = records_within (length gate_bytes) gate_bytes
