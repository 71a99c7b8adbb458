use Rattle.std.proofs.Common.{◌∙◌, ◌-◌, ap, drop, take, arith}
use Rattle.ps_lists.proofs.MoveLemmas.{closed_behind}
use Rattle.ps_lists.proofs.sliding_moves.close_behind.Goals as goal

-- those behind the range over it
pub returns-clause-items : goal.returns-clause-items
returns-clause-items g c =
    let left = c.len.result - (c.args.until - c.args.from) in
    ap (drop c.args.first) (c.truncate.ensures.items ∙ ap (take left) c.copy_within.ensures.items)
    ∙ closed_behind c.args.cells.now.items c.args.first c.args.from c.args.until c.args.cells.now.len left c.requires.ordered c.requires.within (omega (arith, c.args.cells.now.ok.0)) (ap (λ n. n - (c.args.until - c.args.from)) c.len.ensures)
