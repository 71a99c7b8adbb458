use Rattle.limit_ident.proofs.AddressLemmas.{far_agree}
use Rattle.limit_ident.proofs.address.agree.Goals as goal

pub returns-then-free_bits-ge128 : goal.returns-then-free_bits-ge128
returns-then-free_bits-ge128 c = far_agree c.args.a c.args.b c.args.free_bits c.ranges.a.fits c.ranges.b.fits c.if-free_bits-ge128.true
