use Rattle.std.proofs.Common.{◌<◌, ◌+◌, ◌^◌, length}
use Rattle.ps_files.proofs.FileLemmas.{Writing}
use Rattle.ps_files.proofs.file_disk.write_whole.Given as goal

abbrev pub invariant-loop-rest : goal.invariant-loop-rest
invariant-loop-rest g l = record {
  in_reach : l.place + length l.rest < 2 ^ 64;
  writing : Writing (g.F.FileCalls.made l.fn.file) (g.F.FileCalls.made l.file) l.at l.bytes l.rest l.place;
}

abbrev pub decreases-loop-rest : goal.decreases-loop-rest
decreases-loop-rest g l = length l.rest
