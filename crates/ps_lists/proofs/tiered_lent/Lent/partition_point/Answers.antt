use Rattle.std.proofs.Common.{◌≡◌, ◌+◌, ◌-◌, true, false, refl, sym, subst, arith, of_calls}
use Rattle.std.proofs.lemmas.Fn.{called}
use Rattle.std.proofs.lemmas.List.Elements.{at_read}
use Rattle.ps_lists.proofs.SearchLemmas.{Halved, after_passing, answers_next, at_failing, failed, passed, unhalved}
use Rattle.ps_lists.proofs.tiered_lent.Lent.partition_point.Goals as goal

pub loop-size-init : goal.loop-size-init
loop-size-init g c = record { some = omega arith; within = omega arith; callable = search of_calls; halved = λ p h. (h, subst (Halved p c.args.self.now 0) (sym c.len-size.ensures) (unhalved p _)) }

pub overflow_add-mid : goal.overflow_add-mid
overflow_add-mid g c = omega (arith, c.len-size.ensures)

pub at-requires : goal.at-requires
at-requires g c = omega (arith, c.loop-size.invariant.within)

pub loop-size-preserved-then-passes : goal.loop-size-preserved-then-passes
loop-size-preserved-then-passes g c =
    let xs = c.args.self.now in let base = c.loop-size.base in let size = c.loop-size.size in let part = c.next_part-part.result in let mid = base + part in
    let k = called g.P.FnMut c.if-passes.ensures refl in
    record {
      some = omega arith;
      within = omega arith;
      callable = search of_calls;
      halved = λ p h. let i = c.loop-size.invariant.halved p h in let n = answers_next g.P.FnMut _ _ _ _ _ k i.0 in (n.1, passed p xs base size mid (size - part) (omega arith) i.1 (at_read xs (λ y. p y ≡ true) mid c.at.result.now (omega arith) c.at.ensures.value (sym n.0)));
    }

pub loop-size-preserved : goal.loop-size-preserved
loop-size-preserved g c =
    let xs = c.args.self.now in let base = c.loop-size.base in let size = c.loop-size.size in let part = c.next_part-part.result in let mid = base + part in
    let k = called g.P.FnMut c.if-passes.ensures refl in
    record {
      some = omega arith;
      within = omega arith;
      callable = search of_calls;
      halved = λ p h. let i = c.loop-size.invariant.halved p h in let n = answers_next g.P.FnMut _ _ _ _ _ k i.0 in (n.1, failed p xs base size mid part (omega arith) i.1 (at_read xs (λ y. p y ≡ false) mid c.at.result.now (omega arith) c.at.ensures.value (sym n.0)));
    }

pub at-requires-2 : goal.at-requires-2
at-requires-2 g c = omega (arith, c.loop-size.invariant.within, c.loop-size.invariant.some)

pub returns-then-passes-2-clause-partitioned : goal.returns-then-passes-2-clause-partitioned
returns-then-passes-2-clause-partitioned g c =
    let xs = c.args.self.now in let base = c.loop-size.base in let size = c.loop-size.size in
    let k = called g.P.FnMut c.if-passes-2.ensures refl in
    λ p h. let i = c.loop-size.invariant.halved p h in let n = answers_next g.P.FnMut _ _ _ _ _ k i.0 in after_passing p xs base size (omega arith) (omega arith) i.1 (at_read xs (λ y. p y ≡ true) base c.at-2.result.now (omega arith) c.at-2.ensures.value (sym n.0))

pub returns-clause-partitioned : goal.returns-clause-partitioned
returns-clause-partitioned g c =
    let xs = c.args.self.now in let base = c.loop-size.base in let size = c.loop-size.size in
    let k = called g.P.FnMut c.if-passes-2.ensures refl in
    λ p h. let i = c.loop-size.invariant.halved p h in let n = answers_next g.P.FnMut _ _ _ _ _ k i.0 in at_failing p xs base size i.1 (at_read xs (λ y. p y ≡ false) base c.at-2.result.now (omega arith) c.at-2.ensures.value (sym n.0))
