use Rattle.limit_ident.proofs.AddressLemmas.{none_written}
use Rattle.limit_ident.proofs.address.read_address.Goals as goal

pub returns-in-None-clause-grammar : goal.returns-in-None-clause-grammar
returns-in-None-clause-grammar c = none_written c.args.text.now c.in_default.ensures.grammar c.in-None.ensures.grammar
