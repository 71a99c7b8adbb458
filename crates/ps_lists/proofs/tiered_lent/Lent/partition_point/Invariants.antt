use Rattle.std.proofs.Common.{Bool, ◌+◌, ◌≤◌, ◌<◌, length}
use Rattle.std.specs.Fn.{ComputesKey}
use Rattle.ps_lists.proofs.SearchLemmas.{Halved}
use Rattle.ps_lists.proofs.tiered_lent.Lent.partition_point.Given as goal

-- the first one that fails the test is among those that are left, or behind them
abbrev pub invariant-loop-size : goal.invariant-loop-size
invariant-loop-size g l = record {
  some : 0 < l.size;
  within : l.base + l.size ≤ length l.self;
  callable : goal.P-IsAlwaysCallable g l.passes;
  halved : (p : g.row.T.Denot → Bool) → ComputesKey g.P.FnMut p l.initial.passes → ComputesKey g.P.FnMut p l.passes × Halved p l.self l.base l.size;
}

abbrev pub decreases-loop-size : goal.decreases-loop-size
decreases-loop-size g l = l.size
