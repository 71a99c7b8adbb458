use Rattle.std.proofs.Common.{◌∙◌, ◌<◌, All, length, suc, sym, ap, subst, arith}
use Rattle.std.specs.List.{cons_option}
use Rattle.std.proofs.lemmas.Option.{slice_get-get_or}
use Rattle.ps_lists.specs.Order.{picked}
use Rattle.ps_lists.proofs.placed_lent.LentIterator.next.Goals as goal

pub invariant_of-self-2 : goal.invariant_of-self-2
invariant_of-self-2 g c =
    let all = subst (All (λ n. n < length c.self.inside.cells.now)) c.in_ok-number.ensures.steps c.self.invariant in
    λ k d lt. all (suc k) d (omega (arith, lt))

pub returns-clause-steps : goal.returns-clause-steps
returns-clause-steps g c =
    let cells = c.self.inside.cells.now in
    let n = c.in_ok-number.number.now in
    let all = subst (All (λ n. n < length cells)) c.in_ok-number.ensures.steps c.self.invariant in
    sym c.self.view_is ∙ ap (picked cells) c.in_ok-number.ensures.steps
    ∙ ap (λ o. cons_option o (picked cells c.next.new.self)) (slice_get-get_or cells n c.index-self-number.result (all 0 0 (omega arith)))
