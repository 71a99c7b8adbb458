use Rattle.std.proofs.Common.{◌≡◌, ◌++◌}
use Rattle.host_rows.proofs.live_keys.listed.Given as goal

-- the keys so far, and those that are left
abbrev pub invariant-loop-key : goal.invariant-loop-key
invariant-loop-key l = l.made.items ++ l.key-iterator ≡ l.fn.keys
