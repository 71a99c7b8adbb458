use Rattle.std.proofs.Common.{subst, arith, length}
use Rattle.host_journal.specs.Reading.{IsWithin}
use Rattle.host_journal.proofs.reading.read_counted.Goals as goal

pub returns-in-Ok-clause-bound : goal.returns-in-Ok-clause-bound
returns-in-Ok-clause-bound c =
    let less = subst (λ r. IsWithin r (length c.args.body.gate_bytes.now)) c.in-Ok.is c.in_ok-bytes.ensures.bound in (omega (arith, less, c.requires.size), omega arith)
