-- What a placed list ends as, of which an item was lent to be written.
use Rattle.std.specs.Prelude.{ℕ, slice_set}
use Rattle.std.specs.Borrow.{RattleType, Lends, MutBor, Fml}
use Rattle.ps_lists.specs.PlacedList.{PlacedList}
use Rattle.ps_lists.specs.contracts.placed_list.PlacedList.{the_row}

-- the list with the last value behind r at place i
abbrev pub LendsItem : (T : RattleType) → MutBor (PlacedList T.Denot) → ℕ → MutBor T.Denot → Fml
LendsItem T s i r = Lends (the_row T) T s r (λ w. record s.now { list = slice_set s.now.list i w })
