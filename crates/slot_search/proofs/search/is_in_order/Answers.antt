use Rattle.std.proofs.Common.{◌≤◌, length, arith}
use Rattle.std.proofs.lemmas.List.Sorted.{IsNonDecreasingBy-from_all_adjacent}
use Rattle.slot_search.proofs.search.is_in_order.Goals as goal

-- each stands after the one before it
pub returns : goal.returns
returns c true_is =
    let over : length c.args.windows.now ≤ c.loop-at.at = omega (arith, c.loop-at-test.false) in
    record {
      firsts = IsNonDecreasingBy-from_all_adjacent (λ w. w.first) c.args.windows.now (λ k d within. (c.loop-at.invariant k d (omega (arith, within, over))).0);
      lasts = IsNonDecreasingBy-from_all_adjacent (λ w. w.last) c.args.windows.now (λ k d within. (c.loop-at.invariant k d (omega (arith, within, over))).1);
    }
