use Rattle.ps_disks.specs.Rack.{is_under}
use Rattle.ps_disks.proofs.RackLemmas.{Passed}
use Rattle.ps_disks.proofs.shelf.place_of_pair.Given as goal

abbrev pub invariant-loop-at : goal.invariant-loop-at
invariant-loop-at l = Passed (is_under l.folder) l.pairs l.at
