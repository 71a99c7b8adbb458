-- The order of keys: by their fields, the first that differs.
use Rattle.std.specs.Ordering.{nat_cmp, on, then_cmp}
use Rattle.std.specs.declared.cmp.Ordering.{Ordering}
use Rattle.ps_time.specs.declared.key.RunKey.{RunKey}

abbrev pub key_cmp : RunKey → RunKey → Ordering
key_cmp = then_cmp (on (λ k. k.lead) nat_cmp) (then_cmp (on (λ k. k.task) nat_cmp) (then_cmp (on (λ k. k.number) nat_cmp) (on (λ k. k.attempt) nat_cmp)))
