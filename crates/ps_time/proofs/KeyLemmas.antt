-- The order of keys is total, and keys that it can't tell apart are one.
use Rattle.std.proofs.Common.{◌≡◌, rules, arith}
use Rattle.std.specs.Cmp.{IsTotalOrder}
use Rattle.std.specs.Cmp.Rules.{comparing}
use Rattle.std.specs.declared.cmp.Ordering.TheVariants.{Equal}
use Rattle.std.proofs.lemmas.Bool.Decides.{nat_tests}
use Rattle.ps_time.specs.declared.key.RunKey.{RunKey}
use Rattle.ps_time.specs.Key.{key_cmp}

pub key_cmp_total : IsTotalOrder key_cmp
key_cmp_total = search (comparing, rules) depth 9

pub same_key : (a b : RunKey) → key_cmp a b ≡ Equal → a ≡ b
same_key a b same = grind (arith, nat_tests)

pub key_cmp_same : (a : RunKey) → key_cmp a a ≡ Equal
key_cmp_same a = grind (arith, nat_tests)
