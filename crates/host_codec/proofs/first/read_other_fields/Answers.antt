use Rattle.std.proofs.Common.{arith}
use Rattle.host_codec.proofs.FirstLemmas.{others_kept}
use Rattle.host_codec.proofs.first.read_other_fields.Goals as goal

pub returns-clause-fits : goal.returns-clause-fits
returns-clause-fits c = others_kept (λ x. (x.0, x.1.now)) c.read_fields.result c.args.tag c.args.bytes.now (omega arith) (λ i. omega (arith, c.type_inv.bytes i)) c.requires.accepted c.requires.planned c.requires.limits c.requires.purged c.read_fields.ensures.value c.read_fields.ensures.fits
