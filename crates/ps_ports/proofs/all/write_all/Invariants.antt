use Rattle.std.proofs.Common.{◌≤◌, length}
use Rattle.ps_ports.proofs.AllLemmas.{Wrote}
use Rattle.ps_ports.proofs.all.write_all.Given as goal

abbrev pub invariant-loop-rest : goal.invariant-loop-rest
invariant-loop-rest g l = record {
  later : g.K.Sink.write_faults l.fn.sink ≤ g.K.Sink.write_faults l.sink;
  kept : g.K.Sink.sink_kept l.fn.sink l.sink;
  wrote : Wrote (g.K.Sink.written l.fn.sink) (g.K.Sink.written l.sink) l.bytes l.rest;
}

abbrev pub decreases-loop-rest : goal.decreases-loop-rest
decreases-loop-rest g l = length l.rest
