-- Bytes that end inside the target of a request, as a test.
use Rattle.std.specs.Prelude.{ℕ, ◌==◌, nat_lt, Bool, false, ◌&&◌, List, [], ◌∷◌, drop, if◌then◌else◌}
use Rattle.std.specs.List.{list_all, prefix_len}
use Rattle.httparse.specs.Grammar.{is_token_byte, is_uri_byte}

-- the bytes behind the empty lines at the front
abbrev pub skip_empty : List ℕ → List ℕ
skip_empty [] = []
skip_empty (a ∷ []) = if a == 10 then [] else a ∷ []
skip_empty (a ∷ b ∷ bytes) =
    if a == 10 then skip_empty (b ∷ bytes) else (if a == 13 && b == 10 then skip_empty bytes else a ∷ b ∷ bytes)

-- a space, and then only bytes of a target
abbrev pub is_behind_method : List ℕ → Bool
is_behind_method [] = false
is_behind_method (b ∷ bytes) = b == 32 && list_all is_uri_byte bytes

-- a method, a space, and then only bytes of a target
abbrev pub is_line : List ℕ → Bool
is_line line = nat_lt 0 (prefix_len is_token_byte line) && is_behind_method (drop (prefix_len is_token_byte line) line)

abbrev pub in_target : List ℕ → Bool
in_target bytes = is_line (skip_empty bytes)
