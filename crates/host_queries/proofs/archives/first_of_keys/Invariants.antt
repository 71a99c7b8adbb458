use Rattle.std.specs.Prelude.{slice_get}
use Rattle.std.proofs.Common.{◌≡◌}
use Rattle.host_queries.specs.DueKeys.{due_of_keys}
use Rattle.host_queries.proofs.archives.first_of_keys.Given as goal

-- the first is of the keys that are left
abbrev pub invariant-loop-key : goal.invariant-loop-key
invariant-loop-key l = slice_get (due_of_keys l.moment l.fn.keys l.rows.list) 0 ≡ slice_get (due_of_keys l.moment l.key-iterator l.rows.list) 0
