use Rattle.std.proofs.Common.{arith}
use Rattle.value_bytes.proofs.WholeLemmas.{is_found, is_only}
use Rattle.host_codec.specs.FirstFormat.{first_changes}
use Rattle.host_codec.proofs.FirstLemmas.{first_changes_is}
use Rattle.host_codec.proofs.first.read_first_record.Goals as goal

pub returns-clause-found : goal.returns-clause-found
returns-clause-found c = is_found first_changes first_changes_is c.whole_record.result c.args.bytes.now (λ i. omega (arith, c.type_inv.bytes i)) c.whole_record.ensures.exact c.whole_record.ensures.fits

pub returns-clause-only : goal.returns-clause-only
returns-clause-only c = is_only first_changes first_changes_is c.whole_record.result c.args.bytes.now c.whole_record.ensures.exact
