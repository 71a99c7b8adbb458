-- Where in a head's lines bytes end, byte by byte.
use Rattle.std.specs.Prelude.{ℕ, ◌==◌, Bool, true, false, List, [], ◌∷◌, if◌then◌else◌}
use Rattle.ps_http.specs.declared.lines.LinePosition.{LinePosition}
use Rattle.ps_http.specs.declared.lines.LinePosition.TheVariants.{Before, BeforeCr, Inside, Start, StartCr, Ended}

abbrev pub is_ended : LinePosition → Bool
is_ended Ended = true
is_ended Before = false
is_ended BeforeCr = false
is_ended Inside = false
is_ended Start = false
is_ended StartCr = false

abbrev pub position_after : LinePosition → ℕ → LinePosition
position_after Before b = if b == 10 then Before else (if b == 13 then BeforeCr else Inside)
position_after BeforeCr b = if b == 10 then Before else Inside
position_after Inside b = if b == 10 then Start else Inside
position_after Start b = if b == 10 then Ended else (if b == 13 then StartCr else Inside)
position_after StartCr b = if b == 10 then Ended else Inside
position_after Ended b = Ended

abbrev pub positions_after : LinePosition → List ℕ → LinePosition
positions_after place [] = place
positions_after place (b ∷ bytes) = positions_after (position_after place b) bytes
