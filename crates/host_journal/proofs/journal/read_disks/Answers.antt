use Rattle.std.proofs.Common.{inr, refl, sym, ◌∙◌}
use Rattle.host_journal.specs.declared.fault.OpenReason.{OpenReason}
use Rattle.host_journal.proofs.ChoiceLemmas.{pair_read}
use Rattle.host_journal.proofs.ToldLemmas.{behind_syncs, first_sync, handed_on}
use Rattle.host_journal.proofs.journal.read_disks.Goals as goal

pub returns-in-Err-2-clause-place : goal.returns-in-Err-2-clause-place
returns-in-Err-2-clause-place g c p place is =
    pair_read c.in_ok-one.one c.in_ok-two.two (g.D.Disk.seen c.args.first.now) (g.D.Disk.seen c.args.second.now) (g.D.Disk.seen c.read_front.new.disk) (g.D.Disk.seen c.read_front-2.new.disk) c.deref.result.now c.in-Ok.is_second c.in_ok-counted.field-0
    (c.in_ok-one.ensures.front p) (c.in_ok-two.ensures.front p) (sym c.in-Ok.is ∙ c.choose.ensures) (c.in_ok-one.ensures.read p).same (c.in_ok-two.ensures.read p).same
    (c.deref.ensures.value ∙ c.in_ok-bytes.ensures.bytes p) c.in_ok-counted.ensures.counted
    ∙ c.in-Err-2.is ∙ cc is

pub returns-clause-pair : goal.returns-clause-pair
returns-clause-pair g c p =
    pair_read c.in_ok-one.one c.in_ok-two.two (g.D.Disk.seen c.args.first.now) (g.D.Disk.seen c.args.second.now) (g.D.Disk.seen c.read_front.new.disk) (g.D.Disk.seen c.read_front-2.new.disk) c.deref.result.now c.in-Ok.is_second c.in_ok-counted.field-0
    (c.in_ok-one.ensures.front p) (c.in_ok-two.ensures.front p) (sym c.in-Ok.is ∙ c.choose.ensures) (c.in_ok-one.ensures.read p).same (c.in_ok-two.ensures.read p).same
    (c.deref.ensures.value ∙ c.in_ok-bytes.ensures.bytes p) c.in_ok-counted.ensures.counted
    ∙ c.in-Ok-2.is

pub returns-in_err-one-clause-told_err : goal.returns-in_err-one-clause-told_err
returns-in_err-one-clause-told_err g c _ = first_sync g.D.Disk.told g.D.Disk.disk_faults g.D.Disk.calls_advance g.met.D.Disk.calls_advance_refl g.met.D.Disk.calls_advance_trans c.args.first.now c.args.second.now c.read_front.new.disk c.read_front.ensures.told c.in_err-one.ensures.cause c.read_front.ensures.calls_advance

pub returns-in_err-two-clause-told_err : goal.returns-in_err-two-clause-told_err
returns-in_err-two-clause-told_err g c _ = inr (record {
  mid = c.read_front.new.disk;
  before = record { told = c.read_front.ensures.told; no_fault = c.in_ok-one.ensures.no_fault; calls_advance = c.read_front.ensures.calls_advance };
  still = refl;
  told = c.read_front-2.ensures.told;
  rose = inr c.in_err-two.ensures.cause;
  calls_advance_one = g.met.D.Disk.calls_advance_refl c.read_front.new.disk;
  calls_advance_other = c.read_front-2.ensures.calls_advance;
})

pub returns-in_err-bytes-clause-told_err : goal.returns-in_err-bytes-clause-told_err
returns-in_err-bytes-clause-told_err g c is =
    behind_syncs g.D.Disk.told g.D.Disk.disk_faults g.D.Disk.calls_advance g.met.D.Disk.calls_advance_refl g.met.D.Disk.calls_advance_trans c.args.first.now c.args.second.now c.read_front.new.disk c.read_front-2.new.disk c.read_either.new.first c.read_either.new.second
    (record { told = c.read_front.ensures.told; no_fault = c.in_ok-one.ensures.no_fault; calls_advance = c.read_front.ensures.calls_advance })
    (record { told = c.read_front-2.ensures.told; no_fault = c.in_ok-two.ensures.no_fault; calls_advance = c.read_front-2.ensures.calls_advance })
    c.read_either.ensures.told_first c.read_either.ensures.told_second
    (c.read_either.ensures.fault (handed_on c.from_residual-in_err-bytes.result c.read_either.result c.in_err-bytes.field-0.0 OpenReason.DiskFault c.from_residual-in_err-bytes.ensures.1 c.in_err-bytes.was is))
    c.read_either.ensures.calls_advance_first c.read_either.ensures.calls_advance_second
