use Rattle.std.proofs.Common.{refl}
use Rattle.serde_json.proofs.Views.{view-Array}
use Rattle.ps_json.proofs.TreeLemmas.{items_list-items_of}
use Rattle.ps_json.proofs.kinds.read_list.Goals as goal

pub returns-in-Array : goal.returns-in-Array
returns-in-Array c = rw (c.in-Array.is, view-Array, items_list-items_of) refl
