use Rattle.std.proofs.Common.{◌≡◌, ◌+◌, drop}
use Rattle.host_book.specs.Ready.{all_brought}
use Rattle.host_book.proofs.preparing.all_brought.Given as goal

-- what is left is still to come
abbrev pub invariant-loop-ready : goal.invariant-loop-ready
invariant-loop-ready l = all_brought l.list ≡ l.bytes + all_brought (drop l.ready-index l.list)
