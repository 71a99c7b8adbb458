use Rattle.std.proofs.Common.{◌≡◌, ◌++◌}
use Rattle.host_queries.specs.DueKeys.{due_of_keys}
use Rattle.host_queries.proofs.archives.due_of_keys.Given as goal

-- what is due so far, and of the keys that are left
abbrev pub invariant-loop-key : goal.invariant-loop-key
invariant-loop-key l = due_of_keys l.moment l.fn.keys l.rows.list ≡ l.due ++ due_of_keys l.moment l.key-iterator l.rows.list
