-- Decimal digits and their number.
use Rattle.std.specs.Prelude.{ℕ, ◌&&◌, nat_le, List, length, Option, Some, None, if◌then◌else◌}
use Rattle.std.specs.Str.{all_ascii_digits}
use Rattle.std.specs.Str.Parse.{digits_value}

-- the value of least to most decimal digits
abbrev pub decimal_of : ℕ → ℕ → List ℕ → Option ℕ
decimal_of least most ds = if nat_le least (length ds) && (nat_le (length ds) most && all_ascii_digits ds) then Some (digits_value 10 ds) else None
