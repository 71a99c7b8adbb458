use Rattle.std.proofs.Common.{◌∙◌, ℕ, List, drop, subst}
use Rattle.ps_disks.specs.Disk.{ReadsAt}
use Rattle.host_journal.proofs.CallLemmas.{read_then, read_longer}
use Rattle.host_journal.proofs.disk_calls.read_head.Goals as goal

pub loop-count-preserved : goal.loop-count-preserved
loop-count-preserved g c =
    let i = c.loop-count.invariant in
    let more = c.in_ok-more.ensures in
    record {
      read = λ p. read_then g.D.Disk.seen g.D.Disk.may_leave g.D.Disk.moment g.D.Disk.left_since c.args.disk.now c.loop-count.disk c.read_part.new.disk (i.read p) (more.read p);
      so_far = λ p. read_longer (g.D.Disk.seen c.args.disk.now) c.loop-count.head c.read_part.new.bytes c.loop-count.count c.in_ok-more.more (i.so_far p)
          (subst (λ (l : List ℕ). ReadsAt l c.loop-count.count (drop c.loop-count.count c.read_part.new.bytes) c.in_ok-more.more) (i.read p).same (more.bytes p)) i.within more.front more.bound;
      calls_advance = g.met.D.Disk.calls_advance_trans _ _ _ i.calls_advance more.calls_advance;
      told = more.told ∙ i.told;
      no_fault = more.no_fault ∙ i.no_fault;
      within = more.bound;
      same = more.len ∙ i.same;
    }
