use Rattle.std.proofs.Common.{arith}
use Rattle.machine_keep.proofs.CourseLemmas.{turned_place, turned_some, turned_told}
use Rattle.machine_keep.proofs.KeepLemmas.{snapped_with}
use Rattle.machine_keep.proofs.snapshot.put_snapshot.Goals as goal

pub returns-in_err-snapshot-clause-adds : goal.returns-in_err-snapshot-clause-adds
returns-in_err-snapshot-clause-adds g c p =
    snapped_with g.D.Disk.seen g.D.Disk.moment g.D.Disk.left_since g.M.Machine.stands_for (g.M.Machine.state c.args.machine.now) c.in_ok-image.image.bytes
    c.args.journal.now c.image_in.new.journal c.snapshot.new.self c.image_in.ensures.same c.in_ok-image.ensures.stands (c.snapshot.ensures.adds p)

pub returns-clause-adds : goal.returns-clause-adds
returns-clause-adds g c p =
    snapped_with g.D.Disk.seen g.D.Disk.moment g.D.Disk.left_since g.M.Machine.stands_for (g.M.Machine.state c.args.machine.now) c.in_ok-image.image.bytes
    c.args.journal.now c.image_in.new.journal c.snapshot.new.self c.image_in.ensures.same c.in_ok-image.ensures.stands (c.snapshot.ensures.adds p)

pub returns-in_err-snapshot-clause-told_first : goal.returns-in_err-snapshot-clause-told_first
returns-in_err-snapshot-clause-told_first g c _ =
    let image = c.in_ok-image.image.bytes in (
      image,
      (c.in_ok-image.ensures.stands, omega (arith, c.len.ensures, c.if-len-gt-MOST_IMAGE_BYTES.false), omega (arith, c.generation.ensures, c.generation.type_inv, c.if-generation-eq18446744073709551615.false)),
      turned_some g.D.Disk.told g.D.Disk.disk_faults g.D.Disk.calls_advance g.met.D.Disk.calls_advance_refl g.met.D.Disk.calls_advance_trans c.args.journal.now c.image_in.new.journal c.snapshot.new.self image c.image_in.ensures.same c.in_err-snapshot.ensures.told_first c.in_err-snapshot.ensures.kept.0 c.in_err-snapshot.ensures.kept.1,
    )

pub returns-clause-turned : goal.returns-clause-turned
returns-clause-turned g c =
    let image = c.in_ok-image.image.bytes in
    let place = c.in_ok-snapshot.ensures.place in
    let turned = c.in_ok-snapshot.ensures.turned in (
      image,
      (c.in_ok-image.ensures.stands, omega (arith, c.len.ensures, c.if-len-gt-MOST_IMAGE_BYTES.false), omega (arith, c.generation.ensures, c.generation.type_inv, c.if-generation-eq18446744073709551615.false)),
      turned_place g.D.Disk.told c.args.journal.now c.image_in.new.journal c.snapshot.new.self image c.image_in.ensures.same turned.1 place.0 place.1 place.2,
      turned_told g.D.Disk.told c.args.journal.now c.image_in.new.journal c.snapshot.new.self image c.image_in.ensures.same c.in_ok-snapshot.ensures.told turned.0 turned.1,
    )
