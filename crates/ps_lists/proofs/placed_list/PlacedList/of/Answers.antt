use Rattle.std.proofs.Common.{◌≡◌, ◌∙◌, [], length, sym, ap, subst}
use Rattle.std.specs.List.{range_with_len}
use Rattle.ps_lists.specs.Order.{IsOrderOf, picked}
use Rattle.ps_lists.proofs.OrderLemmas.{in_turn}
use Rattle.ps_lists.proofs.PickLemmas.{in_turn_picked}
use Rattle.ps_lists.proofs.placed_list.PlacedList.of.Goals as goal

-- the cells in turn
pub invariant_of-result : goal.invariant_of-result
invariant_of-result g c =
    let count : c.len.result ≡ length c.args.items.items = c.len.ensures ∙ c.args.items.ok.0 in
    subst (λ k. IsOrderOf k c.in_ok-order.order.list) count (subst (IsOrderOf c.len.result) (sym c.in_ok-order.ensures.numbers) (in_turn c.len.result c.in_ok-order.ensures.few))

pub returns : goal.returns
returns g c =
    let count : c.len.result ≡ length c.args.items.items = c.len.ensures ∙ c.args.items.ok.0 in
    ap (picked c.args.items.items) (c.in_ok-order.ensures.numbers ∙ ap (range_with_len 0) count) ∙ in_turn_picked [] c.args.items.items
