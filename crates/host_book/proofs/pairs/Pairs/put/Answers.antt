use Rattle.std.proofs.Common.{◌≡◌, sym, ap}
use Rattle.host_book.specs.Pairs.{Pairs}
use Rattle.host_book.proofs.PairLemmas.{find_place, put_gap, ascending_put}
use Rattle.host_book.proofs.pairs.Pairs.put.Goals as goal

-- the key is new, so no place has it
pub unreachable-requires : goal.unreachable-requires
unreachable-requires c =
    let seen : c.self.inside.pairs.list ≡ c.args.self.now.list = ap (λ (t : Pairs). t.list) c.self.view_is in
    let found = rw seen at (find_place _ c.self.invariant _ _ (c.args.key, c.args.epoch) c.in-Ok.ensures.found) in
    cc (found, c.requires.new_key)

-- the pair goes into the gap
pub invariant_of-self : goal.invariant_of-self
invariant_of-self c =
    rw c.insert.ensures.list (ascending_put _ (c.args.key, c.args.epoch) _ c.self.invariant c.in-Err.ensures.absent)

pub returns-clause-list : goal.returns-clause-list
returns-clause-list c =
    let seen : c.self.inside.pairs.list ≡ c.args.self.now.list = ap (λ (t : Pairs). t.list) c.self.view_is in
    rw (c.insert.ensures.list, ← seen) (sym (put_gap _ (c.args.key, c.args.epoch) _ c.in-Err.ensures.absent))
