use Rattle.std.proofs.Common.{◌≡◌, ◌∙◌, ◌+◌, ◌-◌, true, false, refl, sym, ap, arith, of_calls}
use Rattle.std.specs.declared.cmp.Ordering.TheVariants.{Less, Equal, Greater}
use Rattle.std.specs.Ordering.{is_le}
use Rattle.std.proofs.lemmas.Fn.{called}
use Rattle.std.proofs.lemmas.List.Elements.{at_read}
use Rattle.ps_lists.proofs.SearchLemmas.{after_less, answers_next, at_greater, failed, passed}
use Rattle.ps_lists.proofs.tiered_lent.Lent.binary_search_by_key.Goals as goal

pub loop-size-preserved-then-is_le : goal.loop-size-preserved-then-is_le
loop-size-preserved-then-is_le g c =
    let xs = c.args.self.now in let base = c.loop-size.base in let size = c.loop-size.size in let part = c.next_part-part.result in let mid = base + part in
    let k = called g.F.FnMut c.f.ensures refl in
    record {
      some = omega arith;
      within = omega arith;
      callable = search of_calls;
      halved = λ own h.
          let ord = λ (y : g.row.T.Denot). g.K.Ord.cmp (own y) c.args.key.now in let i = c.loop-size.invariant.halved own h in let n = answers_next g.F.FnMut _ _ _ _ _ k i.0 in
          (n.1, passed (λ y. is_le (ord y)) xs base size mid (size - part) (omega arith) i.1 (at_read xs (λ y. is_le (ord y) ≡ true) mid c.at.result.now (omega arith) c.at.ensures.value (ap is_le (sym (c.cmp.ensures ∙ ap (λ u. g.K.Ord.cmp u c.args.key.now) n.0)) ∙ sym c.if-is_le.ensures)));
    }

pub loop-size-preserved : goal.loop-size-preserved
loop-size-preserved g c =
    let xs = c.args.self.now in let base = c.loop-size.base in let size = c.loop-size.size in let part = c.next_part-part.result in let mid = base + part in
    let k = called g.F.FnMut c.f.ensures refl in
    record {
      some = omega arith;
      within = omega arith;
      callable = search of_calls;
      halved = λ own h.
          let ord = λ (y : g.row.T.Denot). g.K.Ord.cmp (own y) c.args.key.now in let i = c.loop-size.invariant.halved own h in let n = answers_next g.F.FnMut _ _ _ _ _ k i.0 in
          (n.1, failed (λ y. is_le (ord y)) xs base size mid part (omega arith) i.1 (at_read xs (λ y. is_le (ord y) ≡ false) mid c.at.result.now (omega arith) c.at.ensures.value (ap is_le (sym (c.cmp.ensures ∙ ap (λ u. g.K.Ord.cmp u c.args.key.now) n.0)) ∙ sym c.if-is_le.ensures)));
    }

pub returns-in-Equal-clause-position : goal.returns-in-Equal-clause-position
returns-in-Equal-clause-position g c = λ own h.
    let ord = λ (y : g.row.T.Denot). g.K.Ord.cmp (own y) c.args.key.now in let i = c.loop-size.invariant.halved own h in let n = answers_next g.F.FnMut _ _ _ _ _ (called g.F.FnMut c.f-2.ensures refl) i.0 in
    at_read c.args.self.now (λ y. ord y ≡ Equal) c.loop-size.base c.at-2.result.now (omega arith) c.at-2.ensures.value (sym (c.in-Equal.ensures ∙ ap (λ u. g.K.Ord.cmp u c.args.key.now) n.0))

pub returns-in-Less-clause-position : goal.returns-in-Less-clause-position
returns-in-Less-clause-position g c = λ own h rising.
    let ord = λ (y : g.row.T.Denot). g.K.Ord.cmp (own y) c.args.key.now in let i = c.loop-size.invariant.halved own h in let n = answers_next g.F.FnMut _ _ _ _ _ (called g.F.FnMut c.f-2.ensures refl) i.0 in
    let less = at_read c.args.self.now (λ y. ord y ≡ Less) c.loop-size.base c.at-2.result.now (omega arith) c.at-2.ensures.value (sym (c.in-Less.ensures ∙ ap (λ u. g.K.Ord.cmp u c.args.key.now) n.0)) in
    after_less ord c.args.self.now rising c.loop-size.base c.loop-size.size (omega arith) (omega arith) i.1 less

pub returns-clause-position : goal.returns-clause-position
returns-clause-position g c = λ own h rising.
    let ord = λ (y : g.row.T.Denot). g.K.Ord.cmp (own y) c.args.key.now in let i = c.loop-size.invariant.halved own h in let n = answers_next g.F.FnMut _ _ _ _ _ (called g.F.FnMut c.f-2.ensures refl) i.0 in
    let greater = at_read c.args.self.now (λ y. ord y ≡ Greater) c.loop-size.base c.at-2.result.now (omega arith) c.at-2.ensures.value (sym (c.in-Greater.ensures ∙ ap (λ u. g.K.Ord.cmp u c.args.key.now) n.0)) in
    at_greater ord c.args.self.now rising c.loop-size.base c.loop-size.size i.1 greater
