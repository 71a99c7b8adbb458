use Rattle.std.proofs.Common.{◌+◌, ◌∙◌, add-one, arith, rules}
use Rattle.std.proofs.lemmas.List.{get_or-set_other}
use Rattle.ps_lists.proofs.JoinLemmas.{full_held, moved_on, open_room, open_within}
use Rattle.ps_lists.proofs.tiered_moves.move_on.Goals as goal

pub index_mut-requires : goal.index_mut-requires
index_mut-requires g c = omega (arith, open_within (c.args.at + 1) c.args.blocks.now.items c.requires, c.args.blocks.now.ok.0)

pub remove-item-requires : goal.remove-item-requires
remove-item-requires g c =
    omega (arith, full_held c.args.at c.args.blocks.now.items c.index_mut.result.now (rw add-one at c.requires) c.index_mut.ensures.value)

pub overflow_add-at : goal.overflow_add-at
overflow_add-at g c = omega (arith, open_within (c.args.at + 1) c.args.blocks.now.items c.requires, c.args.blocks.now.ok)

pub index_mut-requires-2 : goal.index_mut-requires-2
index_mut-requires-2 g c = omega (arith, open_within (c.args.at + 1) c.args.blocks.now.items c.requires, c.args.blocks.now.ok.0)

pub insert-requires-clause-place : goal.insert-requires-clause-place
insert-requires-clause-place g c =
    let room = open_room (c.args.at + 1) c.args.blocks.now.items c.index_mut-2.result.now c.requires (c.index_mut-2.ensures.value ∙ get_or-set_other c.args.blocks.now.items c.args.at (c.args.at + 1) c.remove-item.new.self c.index_mut-2.result.now (omega arith)) in
    omega (arith, room.0, room.1)

pub returns : goal.returns
returns g c =
    let moved = moved_on c.args.at c.args.blocks.now.items c.index_mut.result.now c.index_mut-2.result.now c.remove-item.new.self c.insert.new.self c.remove-item.result (rw add-one at c.requires) c.index_mut.ensures.value c.remove-item.ensures.value c.remove-item.ensures.list c.remove-item.ensures.places (rw add-one at c.index_mut-2.ensures.value) c.insert.ensures.list c.insert.ensures.places in
    record { room = rw add-one moved.0; items = rw add-one moved.1; blocks = search rules }
