-- A change with the lists that it needs beside what it says, so that a book takes it in without memory.
use Rattle.std.specs.Prelude.{◌≡◌, ◌≤◌, ◌-◌, ◌∷◌, Bool, List, None, Option, Some, [], false, is_some, length, map, sum, vec_capacity, ℕ}
use Rattle.run_states.specs.ResultBytes.{bytes_in, result_bytes}
use Rattle.run_states.specs.declared.answer.Other.{Other}
use Rattle.run_states.specs.declared.row.RunRow.{RunRow}
use Rattle.host_model.specs.Apply.{apply}
use Rattle.host_model.specs.Book.{Book}
use Rattle.host_model.specs.Heard.{other_at}
use Rattle.host_model.specs.Lawful.{Lawful}
use Rattle.host_model.specs.MayFollow.{CanApply}
use Rattle.host_model.specs.NewRow.{all_unheard}
use Rattle.host_model.specs.declared.change.Change.{Change}
use Rattle.host_model.specs.declared.change.Change.TheVariants.{Accepted, Asked, Ended, Merged, ResultHeard}
use Rattle.host_rows.specs.Ledger.{most_counted}
use Rattle.host_book.specs.declared.ready.Ready.{Ready}

-- what a run that is asked about knows of its other participants
abbrev pub others_for : Change → List Other
others_for (Asked q participants asker) = all_unheard participants
others_for _ = []

-- the most archives of a task
abbrev pub most_archives : ℕ
most_archives = 8

-- so many places are enough for the states of the archives of a run that is merged
abbrev pub HasPlaces : Change → ℕ → Type 0
HasPlaces (Merged k body) places = most_archives ≤ places
HasPlaces _ places = Unit {0}

-- its lists are those of its change, with places for the states of archives
pub record IsReady (r : Ready) : Type 0 where
  pub others : r.others ≡ others_for r.change
  pub empty : r.archives.items ≡ []
  pub places : HasPlaces r.change (vec_capacity r.archives)

-- a change that needs no lists
abbrev pub IsBare : Change → Type 0
IsBare (Accepted p participants epoch) = ⊥
IsBare (Asked q participants asker) = ⊥
IsBare (Merged k body) = ⊥
IsBare _ = Unit {0}

-- how many bytes of results a change brings at most
abbrev pub brought_bytes : Change → ℕ
brought_bytes (Ended k good body) = length body
brought_bytes (ResultHeard k place result) = bytes_in result
brought_bytes (Merged k body) = length body
brought_bytes _ = 0

-- ---- changes in a row
-- how many bytes of results they bring at most
abbrev pub all_brought : List Ready → ℕ
all_brought rs = sum (map (λ r. brought_bytes r.change) rs)

-- what they change
abbrev pub changes_of : List Ready → List Change
changes_of rs = map (λ r. r.change) rs

-- the change can be made at m, leaves a lawful book of the host with this number, has what it needs, and its results can be counted
pub record CanMake (number m : ℕ) (b : Book) (r : Ready) : Type 0 where
  pub can : CanApply b r.change
  pub lawful : Lawful number (apply m r.change b)
  pub ready : IsReady r
  pub bytes : brought_bytes r.change ≤ most_counted - result_bytes b.rows

-- each of them, in order
abbrev pub CanMakeAll : ℕ → ℕ → List Ready → Book → Type 0
CanMakeAll number m [] b = Unit {0}
CanMakeAll number m (r ∷ rs) b = CanMake number m b r × CanMakeAll number m rs (apply m r.change b)

-- ---- what a row has already
-- the participant told its result, or that it has none
abbrev pub heard_of : Option Other → Bool
heard_of None = false
heard_of (Some o) = is_some o.heard

-- so did the participant at a place of the row
abbrev pub is_heard : ℕ → Option RunRow → Bool
is_heard place None = false
is_heard place (Some r) = heard_of (other_at r place)

-- the results of the row are merged
abbrev pub is_merged : Option RunRow → Bool
is_merged None = false
is_merged (Some r) = is_some r.merged
