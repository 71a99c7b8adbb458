-- The value of a text of a start: a moment, a length from now on, or the next of the moments that a length parts.
use Rattle.std.specs.Prelude.{ℕ, ◌+◌, ◌*◌, ◌/◌, ◌%◌, ◌==◌, List, drop, slice_index, Result, Ok, Err, pos, if◌then◌else◌}
use Rattle.ps_time.specs.declared.moment.Round.TheVariants.{Up}
use Rattle.ps_time.specs.declared.moment.TimeFault.{TimeFault}
use Rattle.ps_time.specs.declared.moment.TimeFault.TheVariants.{Range}
use Rattle.ps_time.specs.Length.{length_of}
use Rattle.ps_time.specs.Moment.{moment_at, moment_of}

-- now where it is a multiple of the step, else the multiple after it
abbrev pub next_multiple : ℕ → ℕ → ℕ
next_multiple step now = if now % step == 0 then now else (now / step + 1) * step

-- the next multiple of a length, which isn't 0
abbrev pub next_of : ℕ → Result ℕ TimeFault → Result ℕ TimeFault
next_of now (Ok step) = if step == 0 then Err Range else moment_at (pos (next_multiple step now))
next_of now (Err fault) = Err fault

-- the moment a length after now
abbrev pub after : ℕ → Result ℕ TimeFault → Result ℕ TimeFault
after now (Ok len) = moment_at (pos (now + len))
after now (Err fault) = Err fault

-- the moment of a text of a start, rounded up to whole seconds, or why it is none; @ has the code 64 and P 80
unfoldable pub start_of : ℕ → List ℕ → Result ℕ TimeFault
start_of now bs =
    if slice_index bs 0 == 64 then next_of now (length_of (drop 1 bs))
    else if slice_index bs 0 == 80 then after now (length_of bs)
    else moment_of Up bs
