use Rattle.limit_ident.proofs.AddressLemmas.{ipv4_read, ipv4_refused}
use Rattle.limit_ident.proofs.address.read_ipv4.Goals as goal

pub returns-in-Ok-clause-value : goal.returns-in-Ok-clause-value
returns-in-Ok-clause-value c = rw c.to_bits.ensures (ipv4_read c.args.text.now c.in-Ok.address c.in-Ok.ensures.value)

pub returns-in-Err-clause-value : goal.returns-in-Err-clause-value
returns-in-Err-clause-value c = ipv4_refused c.args.text.now c.in-Err.ensures.value

pub returns-in-Err-clause-grammar : goal.returns-in-Err-clause-grammar
returns-in-Err-clause-grammar c = λ n written. c.in-Err.ensures.value written.0 written.1
