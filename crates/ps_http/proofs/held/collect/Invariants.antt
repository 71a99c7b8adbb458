use Rattle.std.proofs.Common.{◌≡◌, ◌≤◌, ◌-◌, length, take}
use Rattle.ps_http.specs.Collected.{Added, IsWanted}
use Rattle.ps_http.specs.Scan.{positions_after}
use Rattle.ps_http.specs.declared.lines.LinePosition.TheVariants.{Before}
use Rattle.ps_http.proofs.held.collect.Given as goal

abbrev pub invariant-loop-place : goal.invariant-loop-place
invariant-loop-place g l = record {
  came : Added l.fn.held l.held (g.S.Source.left l.fn.source) (g.S.Source.left l.source);
  wanted : IsWanted l.most l.fn.held l.held;
  later : g.S.Source.read_faults l.fn.source ≤ g.S.Source.read_faults l.source;
  kept : g.S.Source.kept l.fn.source l.source;
  within : l.seen ≤ length l.held;
  fits : l.seen ≤ l.most;
  placed : l.place ≡ positions_after Before (take l.seen l.held);
}

abbrev pub decreases-loop-place : goal.decreases-loop-place
decreases-loop-place g l = l.most - length l.held
