use Rattle.std.proofs.Common.{◌∙◌, Some, refl, sym, ap, of_calls}
use Rattle.std.proofs.lemmas.Fn.{called}
use Rattle.std.proofs.lemmas.Option.{slice_get-get_or}
use Rattle.ps_lists.proofs.SearchLemmas.{answers_next}
use Rattle.ps_lists.specs.Order.{passes_some}
use Rattle.ps_lists.proofs.placed_lent.fn.Lent.partition_point.partition_point.Goals as goal

pub returns-in-Some : goal.returns-in-Some
returns-in-Some g c =
    let k = called g.P.FnMut c.passes.ensures refl in
    let look = c.in-Some.ensures.lookup in
    let there = slice_get-get_or c.captures.cells.now c.args.number.now c.in-Some.item.now look.3.0 in
    record {
      lasts = search of_calls;
      answers = λ p h. let n = answers_next g.P.FnMut _ _ _ _ _ k h in (n.0 ∙ ap (passes_some p) (ap Some look.1 ∙ sym there), n.1);
    }
