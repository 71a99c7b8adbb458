use Rattle.std.proofs.Common.{◌≤◌, ◌-◌, length, vec_len}
use Rattle.std.specs.Io.KnownBytes.{Consumes}
use Rattle.ps_sockets.proofs.exchange.read_front.Given as goal

abbrev pub invariant-loop-buf : goal.invariant-loop-buf
invariant-loop-buf g l = record {
  later : g.S.Source.read_faults l.fn.source ≤ g.S.Source.read_faults l.source;
  kept : g.S.Source.kept l.fn.source l.source;
  came : Consumes (g.S.Source.left l.fn.source) (g.S.Source.left l.source) l.all.items;
  within : length l.all.items ≤ l.fn.most;
}

abbrev pub decreases-loop-buf : goal.decreases-loop-buf
decreases-loop-buf g l = l.fn.most - vec_len l.all
