use Rattle.std.proofs.Common.{[], ◌∷◌, length}
use Rattle.ps_disks.specs.declared.disk.DiskCall.TheVariants.{Write, Cut, Sync}
use Rattle.host_journal.proofs.CallLemmas.{on_err, tells_on}
use Rattle.host_journal.proofs.RestLemmas.{cut_moments, behind_images, behind_moments, sure_images, sure_moments}
use Rattle.host_journal.proofs.ToldLemmas.{fails_now, told_rest}
use Rattle.host_journal.proofs.disk_calls.replace_rest.Goals as goal

pub returns-in_err-cut-clause-moments : goal.returns-in_err-cut-clause-moments
returns-in_err-cut-clause-moments g c p =
    cut_moments g.D.Disk.seen g.D.Disk.may_leave g.D.Disk.moment g.D.Disk.left_since c.args.disk.now c.cut.new.self (λ b left. g.met.D.Disk.only_now c.args.disk.now b p left) (c.cut.ensures.crash p) (c.cut.ensures.time p)

pub returns-in_err-write_at-clause-images : goal.returns-in_err-write_at-clause-images
returns-in_err-write_at-clause-images g c p =
    behind_images g.D.Disk.seen g.D.Disk.may_leave g.D.Disk.moment g.D.Disk.left_since c.args.disk.now c.cut.new.self (λ b left. g.met.D.Disk.only_now c.args.disk.now b p left) (c.cut.ensures.crash p) (c.cut.ensures.time p)
    (length c.args.piece.now) c.write_at.new.self (c.write_at.ensures.crash p) (c.write_at.ensures.time p)

pub returns-in_err-write_at-clause-moments : goal.returns-in_err-write_at-clause-moments
returns-in_err-write_at-clause-moments g c p =
    behind_moments g.D.Disk.seen g.D.Disk.may_leave g.D.Disk.moment g.D.Disk.left_since c.args.disk.now c.cut.new.self (λ b left. g.met.D.Disk.only_now c.args.disk.now b p left) (c.cut.ensures.crash p) (c.cut.ensures.time p)
    (length c.args.piece.now) c.write_at.new.self (c.write_at.ensures.crash p) (c.write_at.ensures.time p)

pub returns-in_err-sync-clause-images : goal.returns-in_err-sync-clause-images
returns-in_err-sync-clause-images g c p =
    sure_images g.D.Disk.seen g.D.Disk.may_leave g.D.Disk.moment g.D.Disk.left_since c.args.disk.now c.cut.new.self (λ b left. g.met.D.Disk.only_now c.args.disk.now b p left) (c.cut.ensures.crash p) (c.cut.ensures.time p)
    (length c.args.piece.now) c.write_at.new.self (c.write_at.ensures.crash p) (c.write_at.ensures.time p) c.sync.new.self (c.sync.ensures.crash p) (c.sync.ensures.time p)

pub returns-in_err-sync-clause-moments : goal.returns-in_err-sync-clause-moments
returns-in_err-sync-clause-moments g c p =
    sure_moments g.D.Disk.seen g.D.Disk.may_leave g.D.Disk.moment g.D.Disk.left_since c.args.disk.now c.cut.new.self (λ b left. g.met.D.Disk.only_now c.args.disk.now b p left) (c.cut.ensures.crash p) (c.cut.ensures.time p)
    (length c.args.piece.now) c.write_at.new.self (c.write_at.ensures.crash p) (c.write_at.ensures.time p) c.sync.new.self (c.sync.ensures.crash p) (c.sync.ensures.time p)

pub returns-clause-images : goal.returns-clause-images
returns-clause-images g c p =
    sure_images g.D.Disk.seen g.D.Disk.may_leave g.D.Disk.moment g.D.Disk.left_since c.args.disk.now c.cut.new.self (λ b left. g.met.D.Disk.only_now c.args.disk.now b p left) (c.cut.ensures.crash p) (c.cut.ensures.time p)
    (length c.args.piece.now) c.write_at.new.self (c.write_at.ensures.crash p) (c.write_at.ensures.time p) c.sync.new.self (c.sync.ensures.crash p) (c.sync.ensures.time p)

pub returns-clause-moments : goal.returns-clause-moments
returns-clause-moments g c p =
    sure_moments g.D.Disk.seen g.D.Disk.may_leave g.D.Disk.moment g.D.Disk.left_since c.args.disk.now c.cut.new.self (λ b left. g.met.D.Disk.only_now c.args.disk.now b p left) (c.cut.ensures.crash p) (c.cut.ensures.time p)
    (length c.args.piece.now) c.write_at.new.self (c.write_at.ensures.crash p) (c.write_at.ensures.time p) c.sync.new.self (c.sync.ensures.crash p) (c.sync.ensures.time p)

pub returns-in_err-cut-clause-told_first : goal.returns-in_err-cut-clause-told_first
returns-in_err-cut-clause-told_first g c =
    on_err _ c.from_residual.result (fails_now g.D.Disk.told g.D.Disk.disk_faults g.D.Disk.calls_advance g.met.D.Disk.calls_advance_refl g.met.D.Disk.calls_advance_trans c.args.disk.now c.cut.new.self (Cut 9) (Write 9 c.args.piece.now ∷ Sync ∷ []) c.cut.ensures.told c.in_err-cut.ensures.cause.failed c.cut.ensures.calls_advance)

pub returns-in_err-write_at-clause-told_first : goal.returns-in_err-write_at-clause-told_first
returns-in_err-write_at-clause-told_first g c =
    on_err _ c.from_residual-in_err-write_at.result (told_rest g.D.Disk.told g.D.Disk.disk_faults g.D.Disk.calls_advance g.met.D.Disk.calls_advance_refl g.met.D.Disk.calls_advance_trans c.args.disk.now c.cut.new.self c.write_at.new.self (Cut 9 ∷ []) (Write 9 c.args.piece.now ∷ Sync ∷ [])
    (record { told = c.cut.ensures.told; no_fault = c.in_ok-cut.ensures.cause.ok; calls_advance = c.cut.ensures.calls_advance })
    (fails_now g.D.Disk.told g.D.Disk.disk_faults g.D.Disk.calls_advance g.met.D.Disk.calls_advance_refl g.met.D.Disk.calls_advance_trans c.cut.new.self c.write_at.new.self (Write 9 c.args.piece.now) (Sync ∷ []) c.write_at.ensures.told c.in_err-write_at.ensures.cause.failed c.write_at.ensures.calls_advance))

pub returns-in_err-sync-clause-told_first : goal.returns-in_err-sync-clause-told_first
returns-in_err-sync-clause-told_first g c =
    on_err _ c.from_residual-in_err-sync.result (told_rest g.D.Disk.told g.D.Disk.disk_faults g.D.Disk.calls_advance g.met.D.Disk.calls_advance_refl g.met.D.Disk.calls_advance_trans c.args.disk.now c.cut.new.self c.sync.new.self (Cut 9 ∷ []) (Write 9 c.args.piece.now ∷ Sync ∷ [])
    (record { told = c.cut.ensures.told; no_fault = c.in_ok-cut.ensures.cause.ok; calls_advance = c.cut.ensures.calls_advance })
    (told_rest g.D.Disk.told g.D.Disk.disk_faults g.D.Disk.calls_advance g.met.D.Disk.calls_advance_refl g.met.D.Disk.calls_advance_trans c.cut.new.self c.write_at.new.self c.sync.new.self (Write 9 c.args.piece.now ∷ []) (Sync ∷ [])
    (record { told = c.write_at.ensures.told; no_fault = c.in_ok-write_at.ensures.cause.ok; calls_advance = c.write_at.ensures.calls_advance })
    (fails_now g.D.Disk.told g.D.Disk.disk_faults g.D.Disk.calls_advance g.met.D.Disk.calls_advance_refl g.met.D.Disk.calls_advance_trans c.write_at.new.self c.sync.new.self Sync [] c.sync.ensures.told c.in_err-sync.ensures.cause.failed c.sync.ensures.calls_advance)))

pub returns-clause-told : goal.returns-clause-told
returns-clause-told g c =
    tells_on _ _ _ (Cut 9 ∷ Write 9 c.args.piece.now ∷ []) (Sync ∷ []) (tells_on _ _ _ (Cut 9 ∷ []) (Write 9 c.args.piece.now ∷ []) c.cut.ensures.told c.write_at.ensures.told) c.sync.ensures.told
