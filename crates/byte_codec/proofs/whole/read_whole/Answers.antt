use Rattle.std.proofs.Common.{arith}
use Rattle.value_bytes.proofs.WholeLemmas.{is_found, is_only}
use Rattle.byte_codec.proofs.whole.read_whole.Goals as goal

pub returns-clause-found : goal.returns-clause-found
returns-clause-found g c = is_found g.T.Coded.codec g.met.T.Coded.laws c.read_all.result c.args.bytes.now (λ i. omega (arith, c.type_inv.bytes i)) c.read_all.ensures.exact c.read_all.ensures.fits

pub returns-clause-only : goal.returns-clause-only
returns-clause-only g c = is_only g.T.Coded.codec g.met.T.Coded.laws c.read_all.result c.args.bytes.now c.read_all.ensures.exact
