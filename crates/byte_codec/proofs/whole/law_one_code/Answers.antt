use Rattle.value_bytes.proofs.WholeLemmas.{one_code}
use Rattle.byte_codec.proofs.whole.law_one_code.Goals as goal

pub returns : goal.returns
returns g c = one_code g.T.Coded.codec g.met.T.Coded.laws
