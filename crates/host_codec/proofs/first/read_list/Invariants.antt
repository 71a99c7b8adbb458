use Rattle.value_bytes.specs.Reading.{times_at}
use Rattle.value_bytes.proofs.Loop.{IsReading}
use Rattle.host_codec.specs.FirstFormat.{FitsFirst, first_change}
use Rattle.host_codec.proofs.first.read_list.Given as goal

abbrev pub invariant-loop : goal.invariant-loop
invariant-loop l = IsReading FitsFirst first_change.read l.count l.counter l.items.items l.rest (times_at first_change.read l.count l.bytes)
