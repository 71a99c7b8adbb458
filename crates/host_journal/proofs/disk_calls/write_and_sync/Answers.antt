use Rattle.std.proofs.Common.{[], ◌∷◌}
use Rattle.ps_disks.specs.Images.{nothing_is_part}
use Rattle.ps_disks.specs.declared.disk.DiskCall.TheVariants.{Write, Sync}
use Rattle.host_journal.proofs.CallLemmas.{after_part, after_sync, on_err, tells_on}
use Rattle.host_journal.proofs.ToldLemmas.{fails_now, told_rest}
use Rattle.host_journal.proofs.disk_calls.write_and_sync.Goals as goal

pub returns-in_err-write_at-clause-moments : goal.returns-in_err-write_at-clause-moments
returns-in_err-write_at-clause-moments g c p =
    after_part g.D.Disk.seen g.D.Disk.may_leave g.D.Disk.moment g.D.Disk.left_since c.args.disk.now c.write_at.new.self _ (nothing_is_part (Write c.args.at c.args.piece.now))
    (λ b left. g.met.D.Disk.only_now c.args.disk.now b p left) (c.write_at.ensures.crash p) (c.write_at.ensures.time p)

pub returns-in_err-write_at-clause-told_first : goal.returns-in_err-write_at-clause-told_first
returns-in_err-write_at-clause-told_first g c = on_err _ c.from_residual.result (fails_now g.D.Disk.told g.D.Disk.disk_faults g.D.Disk.calls_advance g.met.D.Disk.calls_advance_refl g.met.D.Disk.calls_advance_trans c.args.disk.now c.write_at.new.self _ (Sync ∷ []) c.write_at.ensures.told c.in_err-write_at.ensures.cause.failed c.write_at.ensures.calls_advance)

pub returns-in_err-sync-clause-moments : goal.returns-in_err-sync-clause-moments
returns-in_err-sync-clause-moments g c p =
    let first = after_part g.D.Disk.seen g.D.Disk.may_leave g.D.Disk.moment g.D.Disk.left_since c.args.disk.now c.write_at.new.self _ (nothing_is_part (Write c.args.at c.args.piece.now))
    (λ b left. g.met.D.Disk.only_now c.args.disk.now b p left) (c.write_at.ensures.crash p) (c.write_at.ensures.time p) in
    after_sync g.D.Disk.seen g.D.Disk.may_leave g.D.Disk.moment g.D.Disk.left_since c.args.disk.now c.write_at.new.self c.sync.new.self _ first
    (λ b now. c.write_at.ensures.crash p b now) (c.sync.ensures.crash p) (c.sync.ensures.time p)

pub returns-clause-moments : goal.returns-clause-moments
returns-clause-moments g c p =
    let first = after_part g.D.Disk.seen g.D.Disk.may_leave g.D.Disk.moment g.D.Disk.left_since c.args.disk.now c.write_at.new.self _ (nothing_is_part (Write c.args.at c.args.piece.now))
    (λ b left. g.met.D.Disk.only_now c.args.disk.now b p left) (c.write_at.ensures.crash p) (c.write_at.ensures.time p) in
    after_sync g.D.Disk.seen g.D.Disk.may_leave g.D.Disk.moment g.D.Disk.left_since c.args.disk.now c.write_at.new.self c.sync.new.self _ first
    (λ b now. c.write_at.ensures.crash p b now) (c.sync.ensures.crash p) (c.sync.ensures.time p)

pub returns-in_err-sync-clause-told_first : goal.returns-in_err-sync-clause-told_first
returns-in_err-sync-clause-told_first g c =
    on_err _ c.from_residual-in_err-sync.result (told_rest g.D.Disk.told g.D.Disk.disk_faults g.D.Disk.calls_advance g.met.D.Disk.calls_advance_refl g.met.D.Disk.calls_advance_trans c.args.disk.now c.write_at.new.self c.sync.new.self (Write c.args.at c.args.piece.now ∷ []) (Sync ∷ [])
    (record { told = c.write_at.ensures.told; no_fault = c.in_ok-write_at.ensures.cause.ok; calls_advance = c.write_at.ensures.calls_advance })
    (fails_now g.D.Disk.told g.D.Disk.disk_faults g.D.Disk.calls_advance g.met.D.Disk.calls_advance_refl g.met.D.Disk.calls_advance_trans c.write_at.new.self c.sync.new.self Sync [] c.sync.ensures.told c.in_err-sync.ensures.cause.failed c.sync.ensures.calls_advance))

pub returns-clause-told : goal.returns-clause-told
returns-clause-told g c = tells_on _ _ _ (Write c.args.at c.args.piece.now ∷ []) (Sync ∷ []) c.write_at.ensures.told c.sync.ensures.told
