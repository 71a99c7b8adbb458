use Rattle.std.proofs.Common.{◌≡◌, ◌++◌, drop}
use Rattle.machine_keep_tests.specs.Gathered.{joined}
use Rattle.machine_keep_tests.proofs.gatherer.put_all.Given as goal

-- what is left decides
abbrev pub invariant-loop-item : goal.invariant-loop-item
invariant-loop-item l = l.bytes.items ++ joined (drop l.item-index l.list) ≡ l.initial.bytes.items ++ joined l.list
