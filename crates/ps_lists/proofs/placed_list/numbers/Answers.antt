use Rattle.std.proofs.Common.{◌∙◌, ◌+◌, ◌++◌, [], ◌∷◌, length, sym, ap, arith}
use Rattle.std.specs.List.{range_with_len}
use Rattle.std.proofs.lemmas.List.{map-id}
use Rattle.std.proofs.lemmas.List.FromFn.{length-range_with_len, map-range_with_len_more}
use Rattle.ps_lists.proofs.placed_list.numbers.Goals as goal

pub push-requires : goal.push-requires
push-requires c = omega (arith, ap length c.loop-number.invariant.numbers, length-range_with_len 0 c.loop-number.number, c.loop-number.invariant.places)

pub loop-number-preserved : goal.loop-number-preserved
loop-number-preserved c =
    let n = c.loop-number.number in
    record {
      numbers =
          c.push.ensures.list ∙ ap (λ l. l ++ n ∷ []) (c.loop-number.invariant.numbers ∙ sym (map-id (range_with_len 0 n)))
          ∙ sym (map-range_with_len_more (λ k. k) 0 n n (omega arith)) ∙ map-id (range_with_len 0 (n + 1));
      few = omega arith;
      places = omega (arith, c.push.ensures.places, c.loop-number.invariant.places);
    }
