use Rattle.std.proofs.Common.{◌<◌, All, List, length, subst, sym}
use Rattle.ps_lists.proofs.OrderLemmas.{inside}
use Rattle.ps_lists.proofs.placed_list.PlacedList.in_order.Goals as goal

pub of-requires : goal.of-requires
of-requires g c =
    subst (λ (cells : List g.row.T.Denot). All (λ n. n < length cells) c.in_order.result) (sym c.as_slice.ensures.value)
    (subst (All (λ n. n < length c.self.inside.cells.items)) (sym c.in_order.ensures) (inside (length c.self.inside.cells.items) c.self.inside.order.list c.self.invariant))
