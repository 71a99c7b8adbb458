-- The empty line that ends a head (RFC 9112, section 2.1). A line ends in CR LF, or in LF alone.
use Rattle.std.specs.Prelude.{ℕ, ◌==◌, Bool, false, ◌&&◌, ◌||◌, List, [], ◌∷◌, if◌then◌else◌}

-- an empty line stands at the front
abbrev pub begins_empty : List ℕ → Bool
begins_empty [] = false
begins_empty (a ∷ []) = a == 10
begins_empty (a ∷ b ∷ bytes) = a == 10 || (a == 13 && b == 10)

-- an empty line stands behind a line
abbrev pub has_empty_line : List ℕ → Bool
has_empty_line [] = false
has_empty_line (a ∷ bytes) = (a == 10 && begins_empty bytes) || has_empty_line bytes

-- an empty line stands behind the first line, before which there may be empty ones
abbrev pub has_head_end : List ℕ → Bool
has_head_end [] = false
has_head_end (a ∷ []) = false
has_head_end (a ∷ b ∷ bytes) =
    if a == 10 then has_head_end (b ∷ bytes) else (if a == 13 && b == 10 then has_head_end bytes else has_empty_line (b ∷ bytes))
