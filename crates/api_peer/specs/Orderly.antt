-- What a book keeps beside the rules of a lawful one, so that its orders are understood as they are meant.
use Rattle.std.specs.Prelude.{◌+◌, ◌≡◌, ◌≤◌, All, IfSome, IsSome, List, length, ℕ}
use Rattle.ps_time.specs.Numbers.{horizon}
use Rattle.ps_time.specs.Span.{Range}
use Rattle.ps_time.specs.declared.asker.Asker.{Asker}
use Rattle.run_states.specs.declared.row.RunRow.{RunRow}
use Rattle.host_model.specs.Book.{Book}
use Rattle.host_model.specs.declared.input.Input.{Input}
use Rattle.host_model.specs.declared.input.Input.TheVariants as input
use Rattle.api_input.specs.Understood.{most_address_bytes}

-- it was asked for at the host of this name, from an address
pub record IsAskedHere (name : List ℕ) (asker : Asker) : Type 0 where
  pub server : asker.server ≡ name
  pub short : length asker.requester ≤ most_address_bytes

-- a window of a day at most
abbrev pub IsWithinDay : Range → Type 0
IsWithinDay w = w.last ≤ w.first + horizon

pub record IsOwnRow (name : List ℕ) (r : RunRow) : Type 0 where
  pub asker : IsAskedHere name r.asker
  pub question : IfSome r.question IsWithinDay

-- only what the host asks about has orders
abbrev pub IsOrderlyRow : List ℕ → RunRow → Type 0
IsOrderlyRow name r = IsSome r.asked → IsOwnRow name r

-- a book of the host of this name
pub record IsOrderly (name : List ℕ) (b : Book) : Type 0 where
  pub tasks : All (λ t. IsAskedHere name t.asker) b.tasks
  pub rows : All (IsOrderlyRow name) b.rows

-- what an input keeps for that: a task is posted from an address
abbrev pub IsSized : Input → Type 0
IsSized (input.Post task requester) = length requester ≤ most_address_bytes
IsSized _ = Unit {0}
