-- Names of hosts: 1 to 63 of a to z, 0 to 9, '.' and '-', the first a letter or digit.
use Rattle.std.specs.Prelude.{ℕ, Bool, false, ◌&&◌, ◌||◌, ◌==◌, nat_le, List, [], ◌∷◌, length}
use Rattle.std.specs.List.{list_all}
use Rattle.std.specs.Char.{is_ascii_digit, is_ascii_lowercase}

-- a letter or digit
abbrev pub is_name_start : ℕ → Bool
is_name_start c = is_ascii_lowercase c || is_ascii_digit c

-- such a one, '.' or '-'
abbrev pub is_name_byte : ℕ → Bool
is_name_byte c = is_name_start c || (c == 46 || c == 45)

abbrev pub is_name : List ℕ → Bool
is_name [] = false
is_name (c ∷ cs) = is_name_start c && (nat_le (length cs) 62 && list_all is_name_byte cs)
