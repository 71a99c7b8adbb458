use Rattle.std.proofs.Common.{◌≡◌, ◌∙◌, ◌++◌, if◌then◌else◌, not, rules, sym, subst, ap, length, take}
use Rattle.ps_disks.specs.Disk.{ReadsAt}
use Rattle.host_journal.proofs.CallLemmas.{ReadSoFar, read_more, read_on}
use Rattle.host_journal.proofs.disk_calls.read_rest.Goals as goal

pub loop-count-preserved : goal.loop-count-preserved
loop-count-preserved g c =
    let i = c.loop-count.invariant in
    let all = c.loop-count.all.items in
    let buf = c.read.new.buf in
    let count = c.in-Ok-read.count in
    let size : c.len.result ≡ length all = search rules in
    let items : c.extend_from_slice.new.self.items ≡ all ++ take count buf =
    c.extend_from_slice.ensures.items ∙ ap (λ b. if b then all ++ take count buf else all) (c.is_err.ensures.negation ∙ ap not c.if-is_err.false) in
    record {
      read = λ p. read_on g.D.Disk.seen g.D.Disk.may_leave g.D.Disk.moment g.D.Disk.left_since c.args.disk.now c.loop-count.disk c.read.new.self (i.read p) (c.read.ensures.seen p) (c.read.ensures.crash p) (c.read.ensures.time p);
      so_far = λ p. subst (ReadSoFar (g.D.Disk.seen c.args.disk.now)) (sym items) (read_more (g.D.Disk.seen c.args.disk.now) all buf count (i.so_far p)
          (subst (λ n. ReadsAt (g.D.Disk.seen c.args.disk.now) n buf count) size (subst (λ l. ReadsAt l c.len.result buf count) (i.read p).same (c.in-Ok-read.ensures.bytes p))) c.in-Ok-read.ensures.bound.0);
      calls_advance = g.met.D.Disk.calls_advance_trans c.args.disk.now c.loop-count.disk c.read.new.self i.calls_advance c.read.ensures.calls_advance;
      told = c.read.ensures.told ∙ i.told;
      no_fault = search rules;
    }
