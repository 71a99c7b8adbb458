use Rattle.std.proofs.Common.{◌∙◌, ◌-◌, ◌+◌, ap, drop, set, arith}
use Rattle.ps_lists.proofs.MoveLemmas.{opened}
use Rattle.ps_lists.proofs.sliding_moves.open_front.Goals as goal

-- the first ones a cell forward, and the item behind them
pub returns-clause-items : goal.returns-clause-items
returns-clause-items g c =
    ap (λ l. drop (c.args.first - 1) (set l (c.args.first + c.args.at - 1) c.args.item)) c.copy_within.ensures.items
    ∙ opened c.args.cells.now.items c.args.first c.args.at c.args.item c.requires.cell (omega (arith, c.requires.within, c.args.cells.now.ok.0))
