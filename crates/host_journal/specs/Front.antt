-- What an opening learns of each disk before it knows which one counts.
use Rattle.std.specs.Prelude.{◌≡◌, ℕ, ◌+◌, Bool, true, false, if◌then◌else◌, nat_le, List, [], ◌∷◌, drop, Option, Some, None, Result, Ok, Err}
use Rattle.std.specs.Int.{w32, w64, from_be_bytes}
use Rattle.host_journal.specs.Format.{open_head, agreeing, stands, Body, body_of}
use Rattle.host_journal.specs.Pair.{headless}
use Rattle.host_journal.specs.declared.reading.DiskPlace.{DiskPlace}
use Rattle.host_journal.specs.declared.reading.Front.{Front}
use Rattle.host_journal.specs.declared.reading.Front.TheVariants.{Open, Closed}
use Rattle.host_journal.specs.declared.reading.Numbers.{Numbers}

abbrev pub is_open : Front → Bool
is_open (Open generation) = true
is_open (Closed place at) = false

abbrev pub generation_in : Option Body → Option ℕ
generation_in None = None
generation_in (Some body) = Some body.generation

-- this is what a disk with these bytes has in front
abbrev pub IsFrontOf : Bool → List ℕ → Front → Type 0
IsFrontOf second bytes (Open generation) = (stands bytes ≡ true) × (generation ≡ generation_in (body_of (drop 9 bytes)))
IsFrontOf second bytes (Closed place at) = (stands bytes ≡ false) × (place ≡ agreeing open_head bytes) × (at ≡ headless second bytes)

-- a generation of eight bytes, and the place of the first gate byte behind a snapshot whose length follows in four
abbrev pub numbers_by : ℕ → List ℕ → Option Numbers
numbers_by generation (a ∷ b ∷ c ∷ d ∷ rest) = Some (record { generation = generation; start = 21 + from_be_bytes w32 (a ∷ b ∷ c ∷ d ∷ []) })
numbers_by generation bytes = None

abbrev pub numbers_behind : List ℕ → Option Numbers
numbers_behind (a ∷ b ∷ c ∷ d ∷ e ∷ f ∷ g ∷ h ∷ rest) = numbers_by (from_be_bytes w64 (a ∷ b ∷ c ∷ d ∷ e ∷ f ∷ g ∷ h ∷ [])) rest
numbers_behind bytes = None

-- the numbers in the head of a disk that stands
abbrev pub numbers_in : List ℕ → Option Numbers
numbers_in head = if stands head then numbers_behind (drop 9 head) else None

-- of two that stand: whether the second counts, or the place at which they are no journal
abbrev pub chosen_open : Option ℕ → Option ℕ → Result Bool DiskPlace
chosen_open None second = Err (record { disk = 1; place = 9 })
chosen_open (Some one) None = Err (record { disk = 2; place = 9 })
chosen_open (Some one) (Some two) = if nat_le two one then Ok false else Ok true

abbrev pub allowed : Option DiskPlace → Bool → Result Bool DiskPlace
allowed None second = Ok second
allowed (Some place) second = Err place

-- of two: whether the second counts, or that place
abbrev pub chosen : Front → Front → Result Bool DiskPlace
chosen (Open one) (Open two) = chosen_open one two
chosen (Open one) (Closed place at) = allowed at false
chosen (Closed place at) (Open two) = allowed at true
chosen (Closed place at) (Closed place_too at_too) = Err (record { disk = 1; place = place })
