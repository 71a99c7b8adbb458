use Rattle.std.proofs.Common.{◌≡◌, ◌++◌, drop}
use Rattle.host_turns.specs.Turns.{exclusive_keys}
use Rattle.host_turns.proofs.exclusive.exclusive_keys.Given as goal

-- the keys so far, and those among what is left
abbrev pub invariant-loop-key : goal.invariant-loop-key
invariant-loop-key l = exclusive_keys l.rows.list l.keys ≡ l.made.items ++ exclusive_keys l.rows.list (drop l.key-index l.keys)
