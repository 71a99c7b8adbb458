use Rattle.std.proofs.Common.{◌∙◌, ◌<◌, ◌/◌, ap, length, arith}
use Rattle.std.proofs.lemmas.List.Edits.{length-remove}
use Rattle.ps_lists.specs.TieredList.{joined, most}
use Rattle.ps_lists.proofs.JoinLemmas.{removed, taken_open}
use Rattle.ps_lists.proofs.LentLemmas.{stands_at}
use Rattle.ps_lists.proofs.tiered_moves.take_out.Goals as goal

pub index_mut-requires : goal.index_mut-requires
index_mut-requires g c =
    let there = stands_at c.args.blocks.now.items c.requires.filled c.args.at (omega (arith, c.requires.within, c.requires.count)) in
    omega (arith, there.block, c.args.blocks.now.ok.0)

pub remove-item-requires : goal.remove-item-requires
remove-item-requires g c =
    let there = stands_at c.args.blocks.now.items c.requires.filled c.args.at (omega (arith, c.requires.within, c.requires.count)) in
    there.within c.index_mut.result.now c.index_mut.ensures.value

pub fill_room-requires : goal.fill_room-requires
fill_room-requires g c =
    let bs = c.args.blocks.now.items in
    let b = c.index_mut.result.now in
    let within : c.args.at < length (joined bs) = omega (arith, c.requires.within, c.requires.count) in
    let gone = removed bs b c.remove-item.new.self c.args.at c.requires.filled within c.index_mut.ensures.value c.remove-item.ensures.list in
    let less = length-remove (joined bs) c.args.at within in
    record {
      ordered = omega (arith, c.requires.within);
      room = taken_open (c.args.at / most) bs b c.remove-item.new.self c.requires.filled (omega (arith, within)) c.index_mut.ensures.value c.remove-item.ensures.len c.remove-item.ensures.places;
      above = omega (arith, ap length gone, less, c.requires.count);
      below = omega (arith, ap length gone, less, c.requires.count);
    }

pub returns-clause-value : goal.returns-clause-value
returns-clause-value g c =
    let there = stands_at c.args.blocks.now.items c.requires.filled c.args.at (omega (arith, c.requires.within, c.requires.count)) in
    there.item c.index_mut.result.now c.remove-item.result c.index_mut.ensures.value c.remove-item.ensures.value

pub returns-clause-items : goal.returns-clause-items
returns-clause-items g c =
    c.fill_room.ensures.items
    ∙ removed c.args.blocks.now.items c.index_mut.result.now c.remove-item.new.self c.args.at c.requires.filled (omega (arith, c.requires.within, c.requires.count)) c.index_mut.ensures.value c.remove-item.ensures.list
