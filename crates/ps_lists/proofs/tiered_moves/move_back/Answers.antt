use Rattle.std.proofs.Common.{◌+◌, ◌∙◌, add-one, rules, arith}
use Rattle.std.proofs.lemmas.List.{get_or-set_other}
use Rattle.ps_lists.proofs.JoinLemmas.{moved_back, next_held, next_within, open_room, open_within}
use Rattle.ps_lists.proofs.tiered_moves.move_back.Goals as goal

pub overflow_add-at : goal.overflow_add-at
overflow_add-at g c = omega (arith, open_within c.args.at c.args.blocks.now.items c.requires.room, c.args.blocks.now.ok)

pub index_mut-requires : goal.index_mut-requires
index_mut-requires g c =
    let within = next_within c.args.at c.args.blocks.now.items c.requires.room c.requires.more in
    omega (arith, within, c.args.blocks.now.ok.0)

pub remove-item-requires : goal.remove-item-requires
remove-item-requires g c =
    next_held c.args.at c.args.blocks.now.items c.index_mut.result.now c.requires.room c.requires.more (rw add-one at c.index_mut.ensures.value)

pub index_mut-requires-2 : goal.index_mut-requires-2
index_mut-requires-2 g c = omega (arith, open_within c.args.at c.args.blocks.now.items c.requires.room, c.args.blocks.now.ok.0)

pub push-requires : goal.push-requires
push-requires g c =
    let room = open_room c.args.at c.args.blocks.now.items c.index_mut-2.result.now c.requires.room (c.index_mut-2.ensures.value ∙ get_or-set_other c.args.blocks.now.items (c.args.at + 1) c.args.at c.remove-item.new.self c.index_mut-2.result.now (omega arith)) in
    omega (arith, room.0, room.1)

pub returns : goal.returns
returns g c =
    let moved = moved_back c.args.at c.args.blocks.now.items c.index_mut-2.result.now c.index_mut.result.now c.push.new.self c.remove-item.new.self c.remove-item.result c.requires.room c.requires.more (rw add-one at c.index_mut.ensures.value) c.remove-item.ensures.value c.remove-item.ensures.list c.remove-item.ensures.places (rw add-one at c.index_mut-2.ensures.value) c.push.ensures.list c.push.ensures.places in
    record { room = rw add-one moved.0; items = rw add-one moved.1; blocks = search rules }
