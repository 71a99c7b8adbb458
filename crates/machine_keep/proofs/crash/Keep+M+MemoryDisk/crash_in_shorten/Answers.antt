use Rattle.std.proofs.Common.{◌+◌, ◌^◌, ◌<◌, Some, [], ◌∷◌, ◌∙◌, length, subst, sym, arith}
use Rattle.std.proofs.lemmas.Result.{IfOk-weaker}
use Rattle.ps_disks.specs.History.{bytes_now}
use Rattle.host_journal.specs.Crash.{opens_head}
use Rattle.host_journal.specs.Pair.{pair_of}
use Rattle.host_journal.specs.State.{SameButRoom}
use Rattle.machine_keep.proofs.CrashLemmas.{left_turned, stands_turned}
use Rattle.machine_keep.proofs.crash.Keep+M+MemoryDisk.crash_in_shorten.Goals as goal

pub returns-clause-stands : goal.returns-clause-stands
returns-clause-stands g c =
    let old = c.args.self.journal in
    let mid = c.into_journal.result in
    let s = g.M.Machine.state c.args.self.machine in
    let bytes = c.in_ok-snapshot.snapshot.bytes in
    let same : SameButRoom old mid = subst (SameButRoom old) (sym c.into_journal.ensures) (subst (λ k. SameButRoom k.journal c.image_in.new.journal) c.keep.view_is c.image_in.ensures.same) in
    let alone = subst (λ k. g.M.Machine.stands_for (bytes ∷ []) (g.M.Machine.state k.machine)) c.keep.view_is c.in_ok-snapshot.ensures.stands in
    IfOk-weaker c.crash_in_snapshot.result _ _
    (λ disks left. stands_turned g.M.Machine.stands_for s bytes (pair_of (bytes_now disks.0.history) (bytes_now disks.1.history)) old mid (opens_head c.args.stop c.args.image) same alone (c.known.ensures.stands tt c.requires.ready) left)
    c.crash_in_snapshot.ensures.left

pub returns-clause-left : goal.returns-clause-left
returns-clause-left g c =
    let old = c.args.self.journal in
    let mid = c.into_journal.result in
    let bytes = c.in_ok-snapshot.snapshot.bytes in
    let same : SameButRoom old mid = subst (SameButRoom old) (sym c.into_journal.ensures) (subst (λ k. SameButRoom k.journal c.image_in.new.journal) c.keep.view_is c.image_in.ensures.same) in
    let alone = subst (λ k. g.M.Machine.stands_for (bytes ∷ []) (g.M.Machine.state k.machine)) c.keep.view_is c.in_ok-snapshot.ensures.stands in
    let short : length bytes < 2 ^ 32 = omega (arith, c.len.ensures, c.if-len-gt-MOST_IMAGE_BYTES.false) in
    let next : old.generation + 1 < 2 ^ 64 = omega (arith, c.generation.ensures, c.generation.type_inv, c.if-generation.false) in
    IfOk-weaker c.crash_in_snapshot.result _ _
    (λ disks left. (
      Some bytes,
      (sym c.has_many_records.ensures ∙ c.if-not-has_many_records.false, (alone, short, next)),
      left_turned bytes (pair_of (bytes_now disks.0.history) (bytes_now disks.1.history)) old mid (opens_head c.args.stop c.args.image) same left,
    ))
    c.crash_in_snapshot.ensures.left
