-- What a list ends as, of which an item or the whole was lent to be written.
use Rattle.std.specs.Prelude.{ℕ, List, ◌++◌, length, take, drop, slice_set}
use Rattle.std.specs.Borrow.{RattleType, Lends, MutBor, Fml, Array}
use Rattle.ps_time.specs.contracts.items.Items.{the_row}

-- the list with the last value behind r at place i
abbrev pub LendsItem : (T : RattleType) → MutBor (List T.Denot) → ℕ → MutBor T.Denot → Fml
LendsItem T s i r = Lends (the_row T) T s r (slice_set s.now i)

-- the list with the last items behind r, where r keeps its length
abbrev pub LendsItems : (T : RattleType) → MutBor (List T.Denot) → MutBor (List T.Denot) → Fml
LendsItems T s r = Lends (the_row T) (Array T 0) s r (λ ws. take (length s.now) (ws ++ drop (length ws) s.now))
