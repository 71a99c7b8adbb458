use Rattle.std.proofs.Common.{ℕ, List, length, ◌∙◌, ap, arith}
use Rattle.ps_disks.specs.History.{IsImage, LeftSince, bytes_now}
use Rattle.ps_disks.specs.Images.{bytes_are_image, only_image}
use Rattle.ps_disks.specs.MemoryDisk.{DiskState}
use Rattle.host_journal.specs.Crash.{opens_head}
use Rattle.host_journal.specs.State.{State}
use Rattle.host_journal.proofs.CrashLemmas.{turned}
use Rattle.host_journal.proofs.crash.Journal+MemoryDisk.crash_in_snapshot.Goals as goal

pub returns-clause-left : goal.returns-clause-left
returns-clause-left c =
    let parts = c.into_parts-counting.ensures in
    let now = c.in_ok-other.ensures in
    turned (λ (d : DiskState). bytes_now d.history) (λ (d : DiskState) (b : List ℕ). IsImage d.history b) (λ (d : DiskState). length d.history.log) (λ (d : DiskState) (t : ℕ) (b : List ℕ). LeftSince d.history t b)
    (λ d. bytes_are_image d.history) (λ d b left. only_image d.history b left) _ _ c.self.view_is c.requires.ready (c.self.invariant.2 tt) c.args.snapshot.bytes c.deref.result.now (c.deref.ensures.value ∙ c.into_piece-piece.ensures.items)
    (omega (arith, c.requires.generation, ap (λ (s : State DiskState). s.generation) c.self.view_is)) (omega (arith, c.requires.bound))
    c.into_parts-counting.result.0 c.into_parts-counting.result.1 c.in_ok-counting.counting c.in_ok-other.other parts.counting parts.other c.in_ok-counting.ensures.image
    c.in_order.result.0 c.in_order.result.1 c.in_order.ensures.one c.in_order.ensures.two c.args.stop (opens_head c.args.stop c.args.image) now.before now.closed now.opened
