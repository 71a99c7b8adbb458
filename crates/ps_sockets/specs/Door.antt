-- Answers of a door that bring no stream, and when a listener counts as gone.
use Rattle.std.specs.Prelude.{ℕ, ◌==◌, Bool, true, false}
use Rattle.ps_doors.specs.declared.door.Accepted.{Accepted}
use Rattle.ps_doors.specs.declared.door.Accepted.TheVariants.{Nobody, Failed, Memory}

-- such an answer, of a door that isn't closed
abbrev pub is_none : {S : Type 0} → Accepted S → Bool
is_none Nobody = true
is_none Failed = true
is_none Memory = true
is_none answer = false

abbrev pub is_failed : {S : Type 0} → Accepted S → Bool
is_failed Failed = true
is_failed answer = false

-- how many unexpected errors in a row say that a listener is gone; further ones aren't counted
abbrev pub most_in_a_row : ℕ
most_in_a_row = 1000

-- so many in a row say it
abbrev pub is_gone : ℕ → Bool
is_gone in_a_row = in_a_row == most_in_a_row
