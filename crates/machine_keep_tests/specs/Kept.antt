-- The number that a keeper of one number has kept: the last item of the list.
use Rattle.std.specs.Prelude.{◌≡◌, ℕ, List, [], ◌∷◌, Result, Ok, Err}
use Rattle.host_journal.specs.Moments.{IsNear}
use Rattle.host_journal.specs.declared.reading.Counted.{Counted}
use Rattle.host_journal.specs.declared.reading.DiskPlace.{DiskPlace}

abbrev pub last_item : List ℕ → List (List ℕ) → List ℕ
last_item first [] = first
last_item first (item ∷ items) = last_item item items

-- two disks stand for a list with this number at its end
abbrev pub Keeps : List ℕ → Result Counted DiskPlace → Type 0
Keeps number (Ok k) = last_item [] k.list ≡ number
Keeps number (Err place) = ⊥

-- what a keeper makes of it: the same number at the end, with at most one snapshot more
abbrev pub IsMade : List ℕ → Result Counted DiskPlace → Result Counted DiskPlace → Type 0
IsMade number from pair = Keeps number pair × IsNear from pair
