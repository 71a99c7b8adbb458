use Rattle.std.proofs.Common.{bytes_eq, refl}
use Rattle.ps_disks.proofs.RackLemmas.{same_bytes}
use Rattle.ps_disks.proofs.shelf.is_folder.Goals as goal

pub returns : goal.returns
returns c = same_bytes c.is.result (bytes_eq c.args.folder.now c.args.name.now) c.args.name.now c.args.folder.now refl c.is.ensures
