-- What is refused in one form of words is refused in another, where each state of the one gives one of the other.
use Rattle.std.proofs.Common.{◌+◌, ℕ, List, Result, Ok, Err, take}
use Rattle.host_journal.specs.declared.reading.Counted.{Counted}
use Rattle.host_journal.specs.declared.reading.DiskPlace.{DiskPlace}
use Rattle.machine_keep.specs.Refusal.{IsFirstRefused, IsRefusedAt}

module _ {S T : Type 0} (P : List (List ℕ) → S → Type 0) (Q : List (List ℕ) → T → Type 0)
    (to : (list : List (List ℕ)) (s : S) → P list s → (t : T) × Q list t) (back : (list : List (List ℕ)) (t : T) → Q list t → (s : S) × P list s) where
  pub first_as : (list : List (List ℕ)) (index : ℕ) → IsFirstRefused P list index → IsFirstRefused Q list index
  first_as list index it = record {
    within = it.within;
    front = λ some. let one = it.front some in to (take index list) one.0 one.1;
    refused = λ t stands. let one = back (take (index + 1) list) t stands in it.refused one.0 one.1;
  }

  pub place_as : (pair : Result Counted DiskPlace) (place : DiskPlace) → IsRefusedAt P pair place → IsRefusedAt Q pair place
  place_as (Err at) place is = is
  place_as (Ok k) place it = (it.0, first_as k.list it.0 it.1, it.2)
