-- The query of a schedule: `start=MOMENT`, `end=MOMENT`, or both in this order, joined by `&`.
use Rattle.std.specs.List.{slice_split}
use Rattle.std.specs.Str.{bytes_eq}
use Rattle.std.specs.Prelude.{◌+◌, ◌==◌, ◌∷◌, List, None, Option, Some, [], codes, if◌then◌else◌, nat_lt, option_and_then, ℕ}
use Rattle.std.specs.Result.{result_ok}
use Rattle.ps_time.specs.Moment.{moment_of}
use Rattle.ps_time.specs.Span.{Span}
use Rattle.ps_time.specs.declared.moment.Round.TheVariants.{Up}
use Rattle.run_states.specs.Life.{first_there}
use Rattle.api_input.specs.Routes.{is_empty}

-- how much is shown where no end is given, in seconds
abbrev pub day : ℕ
day = 86_400

-- an interval ends after its start
abbrev pub interval_of : ℕ → ℕ → Option Span
interval_of start end = if nat_lt start end then Some (record { start = start; end = end }) else None

-- the value behind a name and an equal sign
abbrev pub value_of : List ℕ → List (List ℕ) → Option (List ℕ)
value_of name (n ∷ value ∷ []) = if bytes_eq n name then Some value else None
value_of name _ = None

-- the moment behind a name; a fraction of a second is rounded up
abbrev pub moment_in : List ℕ → List ℕ → Option ℕ
moment_in name pair = option_and_then (λ text. result_ok (moment_of Up text)) (value_of name (slice_split (λ b. b == 61) pair))

-- the start alone
abbrev pub from_start : Option ℕ → Option Span
from_start None = None
from_start (Some start) = interval_of start (start + day)

-- the end alone
abbrev pub to_end : ℕ → Option ℕ → Option Span
to_end now None = None
to_end now (Some end) = interval_of now end

abbrev pub from_to : Option ℕ → Option ℕ → Option Span
from_to (Some start) (Some end) = interval_of start end
from_to _ _ = None

-- by the parts between ampersands
abbrev pub window_by : ℕ → List (List ℕ) → Option Span
window_by now (a ∷ []) = first_there (from_start (moment_in (codes "start") a)) (to_end now (moment_in (codes "end") a))
window_by now (a ∷ b ∷ []) = from_to (moment_in (codes "start") a) (moment_in (codes "end") b)
window_by now _ = None

-- what a query asks to see at a moment; None where it is no query of a schedule
abbrev pub window_of : ℕ → Option (List ℕ) → Option Span
window_of now None = interval_of now (now + day)
window_of now (Some query) = if is_empty query then interval_of now (now + day) else window_by now (slice_split (λ b. b == 38) query)
