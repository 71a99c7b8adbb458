-- The least start that all participants have in common.
use Rattle.std.specs.List.{list_all}
use Rattle.std.specs.Option.{option_or}
use Rattle.std.specs.Prelude.{Bool, List, Option, false, option_map, true, ℕ}
use Rattle.ps_time.specs.Span.{Range}
use Rattle.ps_time.specs.Starts.{least_start, lies_in}
use Rattle.ps_time.specs.declared.tiers.Tiers.{Tiers}
use Rattle.slot_search.specs.declared.search.Choice.{Choice}

-- the start is in every first tier
abbrev pub in_all_first : List Tiers → ℕ → Bool
in_all_first lists s = list_all (λ tiers. lies_in tiers.first s) lists

-- the start is in every second tier
abbrev pub in_all_second : List Tiers → ℕ → Bool
in_all_second lists s = list_all (λ tiers. lies_in tiers.second s) lists

-- a start, of the first tiers or of the second
abbrev pub choice_of : Bool → ℕ → Choice
choice_of second s = record { start = s; second = second }

-- the least start in every first tier; if there is none, the least in every second tier
abbrev pub earliest : Range → List Tiers → Option Choice
earliest w lists = option_or (option_map (choice_of false) (least_start (in_all_first lists) w)) (option_map (choice_of true) (least_start (in_all_second lists) w))
