use Rattle.std.proofs.Common.{◌∙◌, ◌%◌, get_or, ap, arith}
use Rattle.ps_lists.specs.TieredList.{most}
use Rattle.ps_lists.proofs.LentLemmas.{stands_at}
use Rattle.ps_lists.proofs.tiered_lent.item_at.Goals as goal

pub bounds-blocks-place : goal.bounds-blocks-place
bounds-blocks-place g c = (stands_at c.args.blocks.now c.requires.filled c.args.place c.requires.within).block

pub bounds-as_slice-place : goal.bounds-as_slice-place
bounds-as_slice-place g c =
    let there = stands_at c.args.blocks.now c.requires.filled c.args.place c.requires.within in
    rw c.as_slice.ensures.value (there.within c.index-blocks-place.result c.index-blocks-place.is)

pub offset_bounds-as_slice-place : goal.offset_bounds-as_slice-place
offset_bounds-as_slice-place g c = let low = bounds-as_slice-place g c in omega (arith, low)

pub returns : goal.returns
returns g c =
    let x = c.index-as_slice-place.result in
    let there = stands_at c.args.blocks.now c.requires.filled c.args.place c.requires.within in
    there.item c.index-blocks-place.result x c.index-blocks-place.is (c.index-as_slice-place.is ∙ ap (λ l. get_or l (c.args.place % most) x) c.as_slice.ensures.value)
