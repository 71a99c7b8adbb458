use Rattle.std.proofs.Common.{◌≡◌, ◌==◌, ℕ, Bool, List, sym, ◌∙◌, ap}
use Rattle.std.specs.List.{list_any}
use Rattle.limit_ident.proofs.AddressLemmas.{dotted_ipv6, ipv6_read, ipv6_refused}
use Rattle.limit_ident.proofs.address.read_ipv6.Goals as goal

-- what was found of the bytes holds of the text
seen : (text bytes : List ℕ) (answer found : Bool) → bytes ≡ text → answer ≡ list_any (λ b. b == 46) bytes → answer ≡ found → list_any (λ b. b == 46) text ≡ found
seen text bytes answer found same is told = ap (list_any (λ b. b == 46)) (sym same) ∙ sym is ∙ told

pub returns-then-has_dot-clause-value : goal.returns-then-has_dot-clause-value
returns-then-has_dot-clause-value c = dotted_ipv6 c.args.text.now (seen _ _ _ _ c.as_bytes.ensures.value c.has_dot.ensures c.if-has_dot.true)

pub returns-in-Ok-clause-value : goal.returns-in-Ok-clause-value
returns-in-Ok-clause-value c = rw c.to_bits.ensures (ipv6_read c.args.text.now c.in-Ok.address (seen _ _ _ _ c.as_bytes.ensures.value c.has_dot.ensures c.if-has_dot.false) c.in-Ok.ensures.value)

pub returns-in-Err-clause-value : goal.returns-in-Err-clause-value
returns-in-Err-clause-value c = ipv6_refused c.args.text.now (seen _ _ _ _ c.as_bytes.ensures.value c.has_dot.ensures c.if-has_dot.false) c.in-Err.ensures.value

pub returns-in-Err-clause-grammar : goal.returns-in-Err-clause-grammar
returns-in-Err-clause-grammar c = λ n written. c.in-Err.ensures.value written.0 written.1
