use Rattle.std.proofs.Common.{rules}
use Rattle.std.proofs.lemmas.List.Sorted.{answers_always}
use Rattle.host_rows.proofs.KeyLemmas.{searched}
use Rattle.host_rows.proofs.live_keys.LiveKeys.search.Goals as goal

-- the closure gives the key itself, and what is lent is the keys
pub returns : goal.returns
returns c =
    let facts = c.binary_search_by_key.ensures in
    let by_key = facts.position (λ own. own) (answers_always _ _ _ (λ f a r g called. search rules)) in
    rw (← c.self.view_is, ← c.in_order.ensures) (searched _ (rw c.in_order.ensures c.self.invariant) c.args.key _ facts.bound by_key)
