use Rattle.std.proofs.Common.{◌/◌, arith}
use Rattle.ps_lists.specs.TieredList.{most}
use Rattle.ps_lists.proofs.JoinLemmas.{replaced, set_filled}
use Rattle.ps_lists.proofs.LentLemmas.{stands_at}
use Rattle.ps_lists.proofs.tiered_moves.replace.Goals as goal

pub index_mut-requires : goal.index_mut-requires
index_mut-requires g c =
    let there = stands_at c.args.blocks.now.items c.requires.filled c.args.at c.requires.within in
    omega (arith, there.block, c.args.blocks.now.ok.0)

pub set-requires : goal.set-requires
set-requires g c =
    let there = stands_at c.args.blocks.now.items c.requires.filled c.args.at c.requires.within in
    there.within c.index_mut.result.now c.index_mut.ensures.value

pub returns-clause-filled : goal.returns-clause-filled
returns-clause-filled g c =
    set_filled (c.args.at / most) c.args.blocks.now.items c.index_mut.result.now c.set.new.self c.requires.filled (omega (arith, c.requires.within)) c.index_mut.ensures.value c.set.ensures.len c.set.ensures.places

pub returns-clause-items : goal.returns-clause-items
returns-clause-items g c =
    replaced c.args.blocks.now.items c.index_mut.result.now c.set.new.self c.args.at c.requires.filled c.requires.within c.index_mut.ensures.value c.args.item c.set.ensures.list
