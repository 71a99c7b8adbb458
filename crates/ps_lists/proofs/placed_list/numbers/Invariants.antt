use Rattle.std.proofs.Common.{◌≡◌, ◌≤◌}
use Rattle.std.specs.List.{range_with_len}
use Rattle.ps_lists.proofs.placed_list.numbers.Given as goal

-- the numbers so far are there, and the others have places
abbrev pub invariant-loop-number : goal.invariant-loop-number
invariant-loop-number l = record {
  numbers : l.order.list ≡ range_with_len 0 l.number;
  few : l.number ≤ l.count;
  places : l.count ≤ l.order.places;
}
