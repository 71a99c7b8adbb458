use Rattle.std.proofs.Common.{◌∙◌, ◌+◌, ap, drop, set, arith}
use Rattle.ps_lists.proofs.MoveLemmas.{made_room, put_behind}
use Rattle.ps_lists.proofs.sliding_moves.open_behind.Goals as goal

-- the item last, those from its place on a cell back, and the item there
pub returns-clause-items : goal.returns-clause-items
returns-clause-items g c =
    let cells = c.args.cells.now in
    let place = c.args.first + c.args.at in
    let made = made_room cells.items c.push_reserved.new.self.items place c.len-len.result c.args.item (omega (arith, c.requires.within, c.len-len.ensures)) (omega (arith, c.len-len.ensures, cells.ok.0)) c.push_reserved.ensures.items in
    ap (λ l. drop c.args.first (set l place c.args.item)) c.copy_within.ensures.items
    ∙ ap (drop c.args.first) made
    ∙ put_behind cells.items c.args.first c.args.at c.args.item (omega (arith, c.requires.within, cells.ok.0))
