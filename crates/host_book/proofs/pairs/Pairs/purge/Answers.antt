use Rattle.std.proofs.Common.{◌≡◌, sym, ap}
use Rattle.host_book.specs.Pairs.{Pairs}
use Rattle.host_book.proofs.PairLemmas.{ascending_drop, drop_gap, drop_place}
use Rattle.host_book.proofs.pairs.Pairs.purge.Goals as goal

-- the pair at the place goes, and the order stays
pub invariant_of-self : goal.invariant_of-self
invariant_of-self c = rw c.remove.ensures.list (ascending_drop _ c.self.invariant _ _ c.remove.result c.in-Ok.ensures.found)

pub returns-in-Ok-clause-list : goal.returns-in-Ok-clause-list
returns-in-Ok-clause-list c =
    let seen : c.self.inside.pairs.list ≡ c.args.self.now.list = ap (λ (t : Pairs). t.list) c.self.view_is in
    rw (← seen, drop_place _ c.self.invariant _ _ c.remove.result c.in-Ok.ensures.found) c.remove.ensures.list

-- no pair has the key
pub returns-in-Err-clause-list : goal.returns-in-Err-clause-list
returns-in-Err-clause-list c =
    let seen : c.self.inside.pairs.list ≡ c.args.self.now.list = ap (λ (t : Pairs). t.list) c.self.view_is in
    rw (← seen) (sym (drop_gap _ _ _ c.in-Err.ensures.absent))
