use Rattle.std.proofs.Common.{◌+◌, ◌≤◌, ◌<◌, length}
use Rattle.std.specs.Fn.{ComputesKey}
use Rattle.std.specs.Ordering.{is_le}
use Rattle.ps_lists.proofs.SearchLemmas.{Halved}
use Rattle.ps_lists.proofs.tiered_lent.Lent.binary_search_by_key.Given as goal

-- the last one whose key is at most this one is among those that are left, if there is one
abbrev pub invariant-loop-size : goal.invariant-loop-size
invariant-loop-size g l = record {
  some : 0 < l.size;
  within : l.base + l.size ≤ length l.self;
  callable : goal.F-IsAlwaysCallable g l.f;
  halved : (own : g.row.T.Denot → g.row.K.Denot) → ComputesKey g.F.FnMut own l.initial.f → ComputesKey g.F.FnMut own l.f × Halved (λ y. is_le (g.K.Ord.cmp (own y) l.key)) l.self l.base l.size;
}

abbrev pub decreases-loop-size : goal.decreases-loop-size
decreases-loop-size g l = l.size
