use Rattle.std.proofs.Common.{◌≡◌, ◌≤◌, ◌-◌, length, take}
use Rattle.ps_http.specs.Collected.{Added}
use Rattle.ps_http.proofs.held.fill.Given as goal

abbrev pub invariant-loop-count : goal.invariant-loop-count
invariant-loop-count g l = record {
  came : Added (take l.ready l.fn.body) (take l.count l.body) (g.S.Source.left l.fn.source) (g.S.Source.left l.source);
  later : g.S.Source.read_faults l.fn.source ≤ g.S.Source.read_faults l.source;
  kept : g.S.Source.kept l.fn.source l.source;
  within : l.count ≤ l.length;
  same : length l.body ≡ l.length;
  order : l.ready ≤ l.count;
}

abbrev pub decreases-loop-count : goal.decreases-loop-count
decreases-loop-count g l = l.length - l.count
