use Rattle.std.proofs.Common.{bytes_eq}
use Rattle.ps_disks.proofs.RackLemmas.{Passed}
use Rattle.ps_disks.proofs.shelf.place_of_folder.Given as goal

abbrev pub invariant-loop-at : goal.invariant-loop-at
invariant-loop-at l = Passed (bytes_eq l.folder) l.folders l.at
