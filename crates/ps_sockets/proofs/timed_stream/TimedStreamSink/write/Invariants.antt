use Rattle.std.proofs.Common.{◌≡◌}
use Rattle.std.specs.Io.KnownBytes.{Keeps}
use Rattle.ps_ports.specs.Causes.{counted as as_count, raised_by}
use Rattle.ps_sockets.proofs.timed_stream.TimedStreamSink.write.Given as goal

-- each turn so far has counted an error, has written nothing and has left the other side
abbrev pub invariant-loop : goal.invariant-loop
invariant-loop g l = record {
  errors : as_count l.self.write_faults ≡ raised_by l.counter (as_count l.fn.self.write_faults);
  kept : Keeps (g.S.Socket.contents l.fn.self.socket) (g.S.Socket.contents l.self.socket);
  remaining : g.S.Socket.remaining l.self.socket ≡ g.S.Socket.remaining l.fn.self.socket;
  read_faults : as_count l.self.read_faults ≡ as_count l.fn.self.read_faults;
}
