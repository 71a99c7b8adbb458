use Rattle.std.proofs.Common.{◌≡◌, ◌+◌, take, drop}
use Rattle.host_journal.specs.Format.{record_bytes}
use Rattle.host_journal.proofs.reading.item_place.Given as goal

-- what is left decides
abbrev pub invariant-loop-item : goal.invariant-loop-item
invariant-loop-item l = l.place + record_bytes (drop l.item-index l.item-items) ≡ 21 + record_bytes (take l.index l.list)
