use Rattle.std.proofs.Common.{◌≤◌, ◌-◌, length, vec_len}
use Rattle.std.specs.Io.KnownBytes.{Consumes}
use Rattle.ps_ports.proofs.all.read_all.Given as goal

abbrev pub invariant-loop-count : goal.invariant-loop-count
invariant-loop-count g l = record {
  later : g.S.Source.read_faults l.fn.source ≤ g.S.Source.read_faults l.source;
  kept : g.S.Source.kept l.fn.source l.source;
  came : Consumes (g.S.Source.left l.fn.source) (g.S.Source.left l.source) l.all.items;
  within : length l.all.items ≤ l.most;
}

abbrev pub decreases-loop-count : goal.decreases-loop-count
decreases-loop-count g l = l.most - vec_len l.all
