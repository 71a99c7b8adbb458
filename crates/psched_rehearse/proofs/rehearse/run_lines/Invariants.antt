use Rattle.std.proofs.Common.{◌≡◌, drop}
use Rattle.psched_rehearse.proofs.PlayLemmas.{HasCome}
use Rattle.psched_rehearse.proofs.rehearse.run_lines.Given as goal

abbrev pub invariant-loop-numbered : goal.invariant-loop-numbered
invariant-loop-numbered g l = record {
  stays : g.A.Archivers.comes l.archivers ≡ g.A.Archivers.comes l.fn.archivers;
  come : HasCome (g.A.Archivers.comes l.fn.archivers) l.script.hosts l.script.lines (drop l.numbered-index l.numbered-items) l.fn.report l.report l.now;
}
