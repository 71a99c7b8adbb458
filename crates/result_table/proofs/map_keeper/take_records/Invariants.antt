use Rattle.std.proofs.Common.{◌≡◌, ◌++◌, ◌-◌, length, take}
use Rattle.result_table.specs.MapKeeper.{records_of}
use Rattle.result_table.proofs.map_keeper.take_records.Given as goal

-- what is left decides
abbrev pub invariant-loop-key : goal.invariant-loop-key
invariant-loop-key l = take l.count (records_of l.initial.key-iterator) ≡ l.found.items ++ take (l.count - length l.found.items) (records_of l.key-iterator)
