use Rattle.std.proofs.Common.{◌≡◌, sym, ap}
use Rattle.host_rows.specs.LiveKeys.{LiveKeys, IsPlaceOf}
use Rattle.host_rows.proofs.KeyLemmas.{ascending_drop, drop_gap, drop_place}
use Rattle.host_rows.proofs.live_keys.LiveKeys.remove.Goals as goal

-- the key at the place goes, and the order stays
pub invariant_of-self : goal.invariant_of-self
invariant_of-self c =
    let seen : c.self.inside.keys.list ≡ c.args.self.now.list = ap (λ (t : LiveKeys). t.list) c.self.view_is in
    let place : IsPlaceOf c.self.inside.keys.list c.args.key c.in-Ok.at = rw seen c.in-Ok.ensures.found in
    rw c.remove.ensures.list (ascending_drop _ c.self.invariant _ _ c.remove.result place)

pub returns-in-Ok-clause-list : goal.returns-in-Ok-clause-list
returns-in-Ok-clause-list c =
    let seen : c.self.inside.keys.list ≡ c.args.self.now.list = ap (λ (t : LiveKeys). t.list) c.self.view_is in
    let place : IsPlaceOf c.self.inside.keys.list c.args.key c.in-Ok.at = rw seen c.in-Ok.ensures.found in
    rw (← seen, drop_place _ c.self.invariant _ _ c.remove.result place) c.remove.ensures.list

-- the key isn't there
pub returns-in-Err-clause-list : goal.returns-in-Err-clause-list
returns-in-Err-clause-list c = sym (drop_gap _ _ _ c.in-Err.ensures.absent)
