use Rattle.std.proofs.Common.{◌≡◌, [], arith, drop, refl}
use Rattle.std.proofs.lemmas.List.{append-nil}
use Rattle.api_reply.proofs.ArchivingLemmas.{archivings_end}
use Rattle.api_reply.specs.Views.{archivings}
use Rattle.api_reply.proofs.run_view.archiving_values.Goals as goal

pub returns : goal.returns
returns c =
    let rest : archivings (drop c.loop-index.index c.args.archivers.now) (drop c.loop-index.index c.args.states.now) ≡ [] = archivings_end c.loop-index.index c.args.archivers.now c.args.states.now (omega (arith, c.loop-index-test.false, c.min-index-end.ensures)) in
    rw (c.loop-index.invariant, rest, append-nil) refl
