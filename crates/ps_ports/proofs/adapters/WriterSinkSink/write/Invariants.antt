use Rattle.std.proofs.Common.{◌≡◌}
use Rattle.std.specs.Io.KnownBytes.{Keeps}
use Rattle.ps_ports.specs.Causes.{counted as as_count, raised_by}
use Rattle.ps_ports.proofs.adapters.WriterSinkSink.write.Given as goal

-- each turn so far has counted an error, and has written nothing
abbrev pub invariant-loop : goal.invariant-loop
invariant-loop g l = record {
  errors : as_count l.self.faults ≡ raised_by l.counter (as_count l.fn.self.faults);
  kept : Keeps (g.W.Write.contents l.fn.self.writer) (g.W.Write.contents l.self.writer);
}
