use Rattle.std.proofs.Common.{rules, bytes_eq}
use Rattle.ps_disks.proofs.RackLemmas.{first_here}
use Rattle.ps_disks.proofs.shelf.place_of_folder.Goals as goal

pub returns-then-is_folder-clause-some : goal.returns-then-is_folder-clause-some
returns-then-is_folder-clause-some c =
    first_here (bytes_eq c.args.folder.now) c.args.folders.now c.loop-at.at c.index-folders-at.result (search rules) c.index-folders-at.is c.loop-at.invariant (search rules)
