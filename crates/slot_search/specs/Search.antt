-- What the search for the common start computes, pass by pass.
use Rattle.std.specs.List.{AllByRecursion, list_all}
use Rattle.std.specs.List.Sorted.{IsNonDecreasingBy}
use Rattle.std.specs.Prelude.{Bool, List, [], ◌∷◌, Option, Some, None, if◌then◌else◌, max, min, nat_le, option_and_then, ℕ}
use Rattle.ps_time.specs.Span.{Range}
use Rattle.ps_time.specs.Starts.{lies_in}
use Rattle.ps_time.specs.declared.tiers.Tiers.{Tiers}

-- the windows of the second tier, or of the first
abbrev pub windows_of : Bool → Tiers → List Range
windows_of second tiers = if second then tiers.second else tiers.first

-- the start is in this tier of each list
abbrev pub in_all : Bool → List Tiers → ℕ → Bool
in_all second lists s = list_all (λ tiers. lies_in (windows_of second tiers) s) lists

abbrev pub lesser : Option ℕ → Option ℕ → Option ℕ
lesser None b = b
lesser (Some a) None = Some a
lesser (Some a) (Some b) = Some (min a b)

-- the least start of a window from this one on
abbrev pub start_in : Range → ℕ → Option ℕ
start_in w from = if nat_le (max w.first from) w.last then Some (max w.first from) else None

-- the least start from this one on that lies in one of the windows
abbrev pub next_in : List Range → ℕ → Option ℕ
next_in [] from = None
next_in (w ∷ ws) from = lesser (start_in w from) (next_in ws from)

-- the windows begin one after another, and end so
pub record IsInOrder (windows : List Range) : Type 0 where
  pub firsts : IsNonDecreasingBy (λ w. w.first) windows
  pub lasts : IsNonDecreasingBy (λ w. w.last) windows

-- so do those of this tier of each list
abbrev pub AreInOrder : Bool → List Tiers → Type 0
AreInOrder second lists = AllByRecursion (λ tiers. IsInOrder (windows_of second tiers)) lists

-- the start to which the lists send on a start, one after another
abbrev pub next_in_all : Bool → List Tiers → ℕ → Option ℕ
next_in_all second [] from = Some from
next_in_all second (tiers ∷ lists) from = option_and_then (λ s. next_in_all second lists s) (next_in (windows_of second tiers) from)
