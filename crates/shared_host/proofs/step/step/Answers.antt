use Rattle.shared_host.proofs.GrowthLemmas.{later, stands}
use Rattle.shared_host.proofs.StepLemmas.{comes, counted_is, same}
use Rattle.shared_host.proofs.step.step.Goals as goal

pub returns-clause-comes : goal.returns-clause-comes
returns-clause-comes g c =
    comes g.D.Disk.premise g.D.Disk.seen g.D.Disk.told g.D.Disk.may_leave g.D.Disk.moment g.D.Disk.left_since g.D.Disk.disk_faults g.D.Disk.calls_advance
    c.args.keep.now c.applied-answer.new.keep c.args.call c.applied-answer.result c.applied-answer.ensures c.any-changed.result
    (counted_is c.args.keep.now c.applied-answer.new.keep c.applied-answer.result c.is_fault-failed.result c.is_ready-was_ready.result c.moved-has_moved.result c.any-changed.result c.generation-generation.result
    c.record_bytes-bytes.result c.is_fault-failed.ensures c.is_ready-was_ready.ensures c.generation-generation.ensures c.record_bytes-bytes.ensures c.moved-has_moved.ensures c.any-changed.ensures)

pub returns-clause-later : goal.returns-clause-later
returns-clause-later g c =
    later g.D.Disk.premise g.D.Disk.seen g.D.Disk.told g.D.Disk.may_leave g.D.Disk.moment g.D.Disk.left_since g.D.Disk.disk_faults g.D.Disk.calls_advance c.law_step.ensures.grown c.law_step.ensures.lawful
    c.args.keep.now c.applied-answer.new.keep c.args.call c.requires.asked c.lawful.ensures c.requires.unsure c.applied-answer.result c.applied-answer.ensures

pub returns-clause-same : goal.returns-clause-same
returns-clause-same g c =
    same g.D.Disk.premise g.D.Disk.seen g.D.Disk.told g.D.Disk.may_leave g.D.Disk.moment g.D.Disk.left_since g.D.Disk.disk_faults g.D.Disk.calls_advance
    c.args.keep.now c.applied-answer.new.keep c.args.call c.applied-answer.result c.applied-answer.ensures c.any-changed.result
    (counted_is c.args.keep.now c.applied-answer.new.keep c.applied-answer.result c.is_fault-failed.result c.is_ready-was_ready.result c.moved-has_moved.result c.any-changed.result c.generation-generation.result
    c.record_bytes-bytes.result c.is_fault-failed.ensures c.is_ready-was_ready.ensures c.generation-generation.ensures c.record_bytes-bytes.ensures c.moved-has_moved.ensures c.any-changed.ensures)

pub returns-clause-unsure : goal.returns-clause-unsure
returns-clause-unsure g c =
    stands g.D.Disk.premise g.D.Disk.seen g.D.Disk.told g.D.Disk.may_leave g.D.Disk.moment g.D.Disk.left_since g.D.Disk.disk_faults g.D.Disk.calls_advance c.law_step.ensures.grown c.law_step.ensures.lawful
    c.args.keep.now c.applied-answer.new.keep c.args.call c.requires.asked c.lawful.ensures c.requires.unsure c.applied-answer.result c.applied-answer.ensures
