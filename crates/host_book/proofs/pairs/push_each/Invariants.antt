use Rattle.std.proofs.Common.{◌≡◌, ◌≤◌, length, take}
use Rattle.host_book.proofs.pairs.push_each.Given as goal

-- the pairs so far, and places for all
abbrev pub invariant-loop-pair : goal.invariant-loop-pair
invariant-loop-pair l = record {
  list : l.list.list ≡ take l.pair-index l.pairs;
  places : length l.pairs ≤ l.list.places;
}
