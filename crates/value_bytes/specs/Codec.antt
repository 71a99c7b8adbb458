-- What values are as bytes. Numbers are big-endian; a text and a list have their length before them, in 4 bytes; an option
-- and a variant have a byte before their values.
use Rattle.std.specs.Prelude.{◌++◌, ◌<◌, ◌^◌, ◌∷◌, ◌≡◌, All, Bool, FitsSigned, IfSome, List, None, Option, Some, [], false, length, true, ℕ, ℤ}
use Rattle.std.specs.Int.{Width, cast_signed, cast_unsigned, to_be_bytes, w16, w32, w64}
use Rattle.std.specs.List.{flat_map}
use Rattle.std.specs.Str.{is_utf8}
use Rattle.value_bytes.specs.Reading.{bool_at, byte_at, list_at, made_at, number_at, nothing_at, option_at, pair_at, partly_at, text_at, variant_at}

-- values as bytes
pub record Codec (A : Type 0) : Type 1 where
  -- what a caller sees to before a value is written
  pub Writable : A → Type 0
  -- which values have bytes; beside the above this is what each value of its Rust type meets
  pub Fits : A → Type 0
  -- the bytes of a value
  pub code : A → List ℕ
  -- the value with whose bytes some bytes begin, and those behind it
  pub read : List ℕ → Option (A × List ℕ)

-- a number of these bits
abbrev pub number : Width → ℕ → Codec ℕ
number w limit = record { Writable = λ n. Unit {0}; Fits = λ n. n < limit; code = to_be_bytes w; read = number_at w }

abbrev pub number_8 : Codec ℕ
number_8 = record { Writable = λ n. Unit {0}; Fits = λ n. n < 2 ^ 8; code = λ n. n ∷ []; read = byte_at }

abbrev pub number_16 : Codec ℕ
number_16 = number w16 (2 ^ 16)

abbrev pub number_32 : Codec ℕ
number_32 = number w32 (2 ^ 32)

abbrev pub number_64 : Codec ℕ
number_64 = number w64 (2 ^ 64)

-- a number with a sign is written as its bits
abbrev pub signed_16 : Codec ℤ
signed_16 = record { Writable = λ z. Unit {0}; Fits = λ z. FitsSigned w16 z; code = λ z. to_be_bytes w16 (cast_unsigned w16 z); read = made_at (cast_signed w16) (number_at w16) }

abbrev pub mark_code : Bool → List ℕ
mark_code false = 0 ∷ []
mark_code true = 1 ∷ []

abbrev pub mark : Codec Bool
mark = record { Writable = λ b. Unit {0}; Fits = λ b. Unit {0}; code = mark_code; read = bool_at }

-- nothing has no bytes
abbrev pub nothing : Codec (Unit {0})
nothing = record { Writable = λ u. Unit {0}; Fits = λ u. Unit {0}; code = λ u. []; read = nothing_at }

-- UTF-8 of fewer than 2^32 bytes
pub record IsText (text : List ℕ) : Type 0 where
  pub short : length text < 2 ^ 32
  pub utf8 : is_utf8 text ≡ true

abbrev pub text : Codec (List ℕ)
text = record { Writable = λ t. Unit {0}; Fits = IsText; code = λ t. to_be_bytes w32 (length t) ++ t; read = text_at }

abbrev pub option_code : {A : Type 0} → (A → List ℕ) → Option A → List ℕ
option_code code None = 0 ∷ []
option_code code (Some a) = 1 ∷ code a

abbrev pub option : {A : Type 0} → Codec A → Codec (Option A)
option c = record { Writable = λ o. IfSome o c.Writable; Fits = λ o. IfSome o c.Fits; code = option_code c.code; read = option_at c.read }

abbrev pub list : {A : Type 0} → Codec A → Codec (List A)
list c = record { Writable = λ xs. All c.Writable xs; Fits = λ xs. (length xs < 2 ^ 32) × All c.Fits xs; code = λ xs. to_be_bytes w32 (length xs) ++ flat_map c.code xs; read = list_at c.read }

-- the first, and behind it the second
infixr 5 ◌&◌
abbrev pub ◌&◌ : {A B : Type 0} → Codec A → Codec B → Codec (A × B)
c & d = record { Writable = λ p. c.Writable p.0 × d.Writable p.1; Fits = λ p. c.Fits p.0 × d.Fits p.1; code = λ p. c.code p.0 ++ d.code p.1; read = pair_at c.read d.read }

-- what is made of its parts
abbrev pub built : {A B : Type 0} → (A → B) → (B → A) → Codec A → Codec B
built make parts c = record { Writable = λ b. c.Writable (parts b); Fits = λ b. c.Fits (parts b); code = λ b. c.code (parts b); read = made_at make c.read }

-- what is made of some of the values that its parts may have
abbrev pub partly : {A B : Type 0} → (A → Option B) → (B → A) → (B → Type 0) → (B → Type 0) → Codec A → Codec B
partly make parts Writable Fits c = record { Writable = Writable; Fits = Fits; code = λ b. c.code (parts b); read = partly_at make c.read }

-- one of several variants: its number, and its fields
abbrev pub variant : {A : Type 0} → (A → Type 0) → (A → Type 0) → (A → List ℕ) → (ℕ → List ℕ → Option (A × List ℕ)) → Codec A
variant Writable Fits code cases = record { Writable = Writable; Fits = Fits; code = code; read = variant_at cases }
