use Rattle.std.proofs.Common.{◌≡◌, ◌∙◌, ◌+◌, Some, sym, ap, arith}
use Rattle.ps_time.specs.Span.{Range}
use Rattle.slot_search.specs.Search.{next_in_all}
use Rattle.slot_search.proofs.SearchLemmas.{pass_none, pass_here, pass_order, pass_on}
use Rattle.slot_search.proofs.search.common_start.Goals as goal

-- no start is left
pub returns-in_default : goal.returns-in_default
returns-in_default c = sym (pass_none c.args.second c.args.lists.now c.loop-from.from (c.args.window.now.last + 1) (sym c.next_in_all.ensures ∙ c.in_default.is)) ∙ c.loop-from.invariant

-- this start is one
pub returns-then-next-from : goal.returns-then-next-from
returns-then-next-from c =
    let is : next_in_all c.args.second c.args.lists.now c.loop-from.from ≡ Some c.loop-from.from = sym c.next_in_all.ensures ∙ c.in-Some.is ∙ ap Some c.if-next-from.true in
    let seen : c.window.inside.last ≡ c.args.window.now.last = ap (λ (w : Range). w.last) c.window.view_is in
    sym (pass_here c.args.second c.args.lists.now c.loop-from.from (c.args.window.now.last + 1) is (omega (arith, c.loop-from-test.true))) ∙ c.loop-from.invariant

pub loop-from-smaller : goal.loop-from-smaller
loop-from-smaller c =
    let is : next_in_all c.args.second c.args.lists.now c.loop-from.from ≡ Some c.in-Some.next = sym c.next_in_all.ensures ∙ c.in-Some.is in
    let order = pass_order c.args.second c.args.lists.now c.loop-from.from (c.args.window.now.last + 1) c.in-Some.next is in
    let seen : c.window.inside.last ≡ c.args.window.now.last = ap (λ (w : Range). w.last) c.window.view_is in
    omega (arith, order, seen, c.if-next-from.false, c.loop-from-test.true)

-- no start before the next one is
pub loop-from-preserved : goal.loop-from-preserved
loop-from-preserved c =
    let is : next_in_all c.args.second c.args.lists.now c.loop-from.from ≡ Some c.in-Some.next = sym c.next_in_all.ensures ∙ c.in-Some.is in
    sym (pass_on c.args.second c.args.lists.now c.loop-from.from (c.args.window.now.last + 1) c.in-Some.next is) ∙ c.loop-from.invariant
