use Rattle.std.proofs.Common.{◌<◌, ◌≤◌, length, set, sym, ap, ◌∙◌, arith}
use Rattle.run_states.proofs.EffectLemmas.{change_past, change_set}
use Rattle.run_states.proofs.row.RunRow.set_archive.Goals as goal

pub returns-then-at-len : goal.returns-then-at-len
returns-then-at-len c =
    let archives = c.args.self.now.archives in
    let within : c.args.index < length archives = omega (arith, c.from-at.ensures, c.len.ensures, c.if-at-len.true) in
    ap (λ xs. record c.args.self.now { archives = xs })
    (c.replace.ensures.list ∙ (ap (λ i. set archives i c.args.state) c.from-at.ensures ∙ sym (change_set (λ before. c.args.state) c.args.index archives c.args.state within)))

pub returns-else-at-len : goal.returns-else-at-len
returns-else-at-len c =
    let archives = c.args.self.now.archives in
    let beyond : length archives ≤ c.args.index = omega (arith, c.from-at.ensures, c.len.ensures, c.if-at-len.false) in
    ap (λ xs. record c.args.self.now { archives = xs }) (sym (change_past (λ before. c.args.state) c.args.index archives beyond))
