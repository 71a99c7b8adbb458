-- What a reader finds at the front of bytes: a value, and the bytes behind it; nothing where they begin with no value.
use Rattle.std.specs.Prelude.{◌==◌, ◌∷◌, Bool, List, None, Option, Some, [], drop, false, if◌then◌else◌, length, nat_lt, suc, take, true, zero, ℕ}
use Rattle.std.specs.Int.{Width, byte_len, from_be_bytes, w32}
use Rattle.std.specs.Str.{is_utf8}

-- goes on behind what was found
abbrev pub behind : {A B : Type 0} → Option (A × List ℕ) → (A → List ℕ → Option B) → Option B
behind None next = None
behind (Some x) next = next x.0 x.1

abbrev pub nothing_at : List ℕ → Option (Unit {0} × List ℕ)
nothing_at bytes = Some (tt, bytes)

abbrev pub byte_at : List ℕ → Option (ℕ × List ℕ)
byte_at [] = None
byte_at (b ∷ bytes) = Some (b, bytes)

abbrev pub number_at : Width → List ℕ → Option (ℕ × List ℕ)
number_at w bytes = if nat_lt (length bytes) (byte_len w) then None else Some (from_be_bytes w (take (byte_len w) bytes), drop (byte_len w) bytes)

-- what is made of another value
abbrev pub made_at : {A B : Type 0} → (A → B) → (List ℕ → Option (A × List ℕ)) → List ℕ → Option (B × List ℕ)
made_at make read bytes = behind (read bytes) (λ a rest. Some (make a, rest))

-- a value that may be there
abbrev pub before : {A : Type 0} → Option A → List ℕ → Option (A × List ℕ)
before None rest = None
before (Some a) rest = Some (a, rest)

-- what may be made of another value
abbrev pub partly_at : {A B : Type 0} → (A → Option B) → (List ℕ → Option (A × List ℕ)) → List ℕ → Option (B × List ℕ)
partly_at make read bytes = behind (read bytes) (λ a rest. before (make a) rest)

abbrev pub pair_at : {A B : Type 0} → (List ℕ → Option (A × List ℕ)) → (List ℕ → Option (B × List ℕ)) → List ℕ → Option ((A × B) × List ℕ)
pair_at first second bytes = behind (first bytes) (λ a rest. behind (second rest) (λ b rest. Some ((a, b), rest)))

abbrev pub bool_at : List ℕ → Option (Bool × List ℕ)
bool_at [] = None
bool_at (zero ∷ rest) = Some (false, rest)
bool_at (suc zero ∷ rest) = Some (true, rest)
bool_at (suc (suc b) ∷ rest) = None

-- so many bytes
abbrev pub bytes_at : ℕ → List ℕ → Option (List ℕ × List ℕ)
bytes_at n bytes = if nat_lt (length bytes) n then None else Some (take n bytes, drop n bytes)

-- bytes that are UTF-8
abbrev pub utf8_of : List ℕ → Option (List ℕ)
utf8_of bytes = if is_utf8 bytes then Some bytes else None

-- a length, and so many bytes of UTF-8
abbrev pub text_at : List ℕ → Option (List ℕ × List ℕ)
text_at bytes = behind (number_at w32 bytes) (λ n rest. partly_at utf8_of (bytes_at n) rest)

abbrev pub option_at : {A : Type 0} → (List ℕ → Option (A × List ℕ)) → List ℕ → Option (Option A × List ℕ)
option_at read [] = None
option_at read (zero ∷ rest) = Some (None, rest)
option_at read (suc zero ∷ rest) = made_at Some read rest
option_at read (suc (suc b) ∷ rest) = None

-- so many values, one behind the other
abbrev pub times_at : {A : Type 0} → (List ℕ → Option (A × List ℕ)) → ℕ → List ℕ → Option (List A × List ℕ)
times_at read zero bytes = Some ([], bytes)
times_at read (suc n) bytes = behind (read bytes) (λ a rest. behind (times_at read n rest) (λ others rest. Some (a ∷ others, rest)))

-- a count, and so many values
abbrev pub list_at : {A : Type 0} → (List ℕ → Option (A × List ℕ)) → List ℕ → Option (List A × List ℕ)
list_at read bytes = behind (number_at w32 bytes) (λ n rest. times_at read n rest)

-- the variant of this number, by its fields
abbrev pub case_at : {A : Type 0} → ℕ → (List ℕ → Option (A × List ℕ)) → (ℕ → List ℕ → Option (A × List ℕ)) → ℕ → List ℕ → Option (A × List ℕ)
case_at number read others n bytes = if n == number then read bytes else others n bytes

-- there is no other variant
abbrev pub no_case_at : {A : Type 0} → ℕ → List ℕ → Option (A × List ℕ)
no_case_at n bytes = None

-- the number of a variant, and its fields
abbrev pub variant_at : {A : Type 0} → (ℕ → List ℕ → Option (A × List ℕ)) → List ℕ → Option (A × List ℕ)
variant_at cases bytes = behind (byte_at bytes) (λ n rest. cases n rest)

-- a value behind which nothing is left
abbrev pub whole_of : {A : Type 0} → Option (A × List ℕ) → Option A
whole_of None = None
whole_of {A} (Some x) = ended x.0 x.1
  where
    ended : A → List ℕ → Option A
    ended a [] = Some a
    ended a (b ∷ rest) = None
