use Rattle.std.proofs.Common.{◌≡◌, ◌+◌, ◌≤◌, ◌++◌, length}
use Rattle.host_rows.proofs.live_keys.add_all.Given as goal

-- the keys so far, and those that are left, each with a place
abbrev pub invariant-loop-key : goal.invariant-loop-key
invariant-loop-key l = record {
  all : l.made.list ++ l.key-iterator ≡ l.fn.keys;
  places : length l.made.list + length l.key-iterator ≤ l.made.places;
}
