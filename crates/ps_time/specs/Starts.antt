-- Starts of a window that pass a test, as windows, and the least of them.
use Rattle.std.specs.List.{list_any, range_with_len}
use Rattle.std.specs.Prelude.{◌+◌, ◌-◌, ◌==◌, ◌&&◌, ◌∷◌, Bool, List, Option, [], filter, find, if◌then◌else◌, nat_le, take, ℕ}
use Rattle.ps_time.specs.Numbers.{most_intervals}
use Rattle.ps_time.specs.Span.{Range}

-- a moment lies in a window
abbrev pub is_within : Range → ℕ → Bool
is_within w s = nat_le w.first s && nat_le s w.last

-- a moment lies in one of the windows
abbrev pub lies_in : List Range → ℕ → Bool
lies_in windows s = list_any (λ w. is_within w s) windows

-- all starts of a window, ascending
abbrev pub starts_in : Range → List ℕ
starts_in w = range_with_len w.first (w.last + 1 - w.first)

-- the least start of the window that passes
abbrev pub least_start : (ℕ → Bool) → Range → Option ℕ
least_start test w = find test (starts_in w)

-- a start before ascending windows: it makes the first one longer, or one of its own
abbrev pub join_start : ℕ → List Range → List Range
join_start s [] = record { first = s; last = s } ∷ []
join_start s (w ∷ ws) = if w.first == s + 1 then record { first = s; last = w.last } ∷ ws else record { first = s; last = s } ∷ w ∷ ws

-- the maximal windows of ascending starts, ascending
abbrev pub gathered : List ℕ → List Range
gathered [] = []
gathered (s ∷ ss) = join_start s (gathered ss)

-- the starts of the window that pass, as maximal windows, ascending: as many as a tier of an answer has
abbrev pub tier_of : (ℕ → Bool) → Range → List Range
tier_of test w = take most_intervals (gathered (filter test (starts_in w)))
