use Rattle.value_bytes.specs.Reading.{times_at}
use Rattle.value_bytes.proofs.Loop.{IsReading}
use Rattle.byte_codec.proofs.lists.read_times.Given as goal

abbrev pub invariant-loop : goal.invariant-loop
invariant-loop g l = IsReading g.T.Coded.codec.Fits g.T.Coded.codec.read l.count l.counter l.items.items l.rest (times_at g.T.Coded.codec.read l.count l.bytes)
