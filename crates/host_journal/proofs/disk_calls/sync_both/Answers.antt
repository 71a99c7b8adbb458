use Rattle.std.proofs.Common.{inr, refl}
use Rattle.host_journal.proofs.CallLemmas.{on_err}
use Rattle.host_journal.proofs.ToldLemmas.{first_sync}
use Rattle.host_journal.proofs.disk_calls.sync_both.Goals as goal

pub returns-in_err-sync-clause-told_err : goal.returns-in_err-sync-clause-told_err
returns-in_err-sync-clause-told_err g c =
    on_err _ c.from_residual.result (first_sync g.D.Disk.told g.D.Disk.disk_faults g.D.Disk.calls_advance g.met.D.Disk.calls_advance_refl g.met.D.Disk.calls_advance_trans c.args.one.now c.args.other.now c.sync.new.self c.sync.ensures.told c.in_err-sync.ensures.cause.failed c.sync.ensures.calls_advance)

pub returns-in_err-sync-2-clause-told_err : goal.returns-in_err-sync-2-clause-told_err
returns-in_err-sync-2-clause-told_err g c =
    on_err _ c.from_residual-in_err-sync-2.result (inr (record {
      mid = c.sync.new.self;
      before = record { told = c.sync.ensures.told; no_fault = c.in_ok-sync.ensures.cause.ok; calls_advance = c.sync.ensures.calls_advance };
      still = refl;
      told = c.sync-2.ensures.told;
      rose = inr c.in_err-sync-2.ensures.cause.failed;
      calls_advance_one = g.met.D.Disk.calls_advance_refl c.sync.new.self;
      calls_advance_other = c.sync-2.ensures.calls_advance;
    }))
