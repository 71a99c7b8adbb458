use Rattle.std.proofs.lemmas.List.{drop-set-add}
use Rattle.ps_lists.proofs.sliding_moves.write.Goals as goal

pub returns-clause-items : goal.returns-clause-items
returns-clause-items g c = drop-set-add c.args.first c.args.cells.now.items c.args.at c.args.item
