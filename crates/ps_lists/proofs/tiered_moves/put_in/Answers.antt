use Rattle.std.proofs.Common.{◌∙◌, ◌<◌, ◌≤◌, ◌+◌, ◌*◌, ◌/◌, ◌%◌, ap, ap₂, length, arith}
use Rattle.std.specs.List.{insert}
use Rattle.ps_lists.specs.TieredList.{joined, most}
use Rattle.ps_lists.proofs.JoinLemmas.{inserted, open_at, open_held, open_room, open_within, put_filled}
use Rattle.ps_lists.proofs.tiered_moves.put_in.Goals as goal

pub make_room-requires : goal.make_room-requires
make_room-requires g c = record {
  ordered = omega (arith, c.requires.within);
  room = open_at (c.args.len / most) c.args.blocks.now.items c.requires.filled (omega (arith, c.requires.place)) (omega (arith, c.requires.count)) (omega (arith, c.requires.count));
}

pub index_mut-requires : goal.index_mut-requires
index_mut-requires g c = omega (arith, open_within (c.args.at / most) c.make_room.new.blocks.items c.make_room.ensures.room, c.make_room.new.blocks.ok.0)

pub insert-requires : goal.insert-requires
insert-requires g c =
    let bs = c.make_room.new.blocks.items in
    let b = c.index_mut.result.now in
    let room = open_room (c.args.at / most) bs b c.make_room.ensures.room c.index_mut.ensures.value in
    let low : c.args.at % most < most = omega arith in
    let long : most * (c.args.at / most) + c.args.at % most ≤ length (joined bs) = omega (arith, c.requires.within, c.requires.count, ap length c.make_room.ensures.items) in
    record {
      within = open_held (c.args.at / most) bs b (c.args.at % most) c.make_room.ensures.room long low c.index_mut.ensures.value;
      place = omega (arith, room.0, room.1);
    }

pub returns-clause-filled : goal.returns-clause-filled
returns-clause-filled g c =
    put_filled (c.args.at / most) c.make_room.new.blocks.items c.index_mut.result.now c.insert.new.self c.make_room.ensures.room c.index_mut.ensures.value c.insert.ensures.len c.insert.ensures.places

pub returns-clause-items : goal.returns-clause-items
returns-clause-items g c =
    let bs = c.make_room.new.blocks.items in
    let b = c.index_mut.result.now in
    let low : c.args.at % most < most = omega arith in
    let long : most * (c.args.at / most) + c.args.at % most ≤ length (joined bs) = omega (arith, c.requires.within, c.requires.count, ap length c.make_room.ensures.items) in
    let held = open_held (c.args.at / most) bs b (c.args.at % most) c.make_room.ensures.room long low c.index_mut.ensures.value in
    inserted (c.args.at / most) bs b c.insert.new.self (c.args.at % most) c.args.item c.make_room.ensures.room c.index_mut.ensures.value held c.insert.ensures.list
    ∙ ap₂ (λ l n. insert l n c.args.item) c.make_room.ensures.items (omega arith)
