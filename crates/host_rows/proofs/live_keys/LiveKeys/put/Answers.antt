use Rattle.std.proofs.Common.{◌≡◌, ◌<◌, None, length, ap, subst, sym}
use Rattle.host_rows.specs.LiveKeys.{LiveKeys, find_own, IsGapFor, IsPlaceOf}
use Rattle.host_rows.proofs.KeyLemmas.{ascending_put, find_gap, put_gap, put_place}
use Rattle.host_rows.proofs.live_keys.LiveKeys.put.Goals as goal

-- there is a place for a key that is new
pub insert-requires-clause-place : goal.insert-requires-clause-place
insert-requires-clause-place c =
    let seen : c.self.inside.keys.list ≡ c.args.self.now.list = ap (λ (t : LiveKeys). t.list) c.self.view_is in
    let gap : IsGapFor c.self.inside.keys.list c.args.key c.in-Err.at = rw seen c.in-Err.ensures.absent in
    subst (λ (t : LiveKeys). find_own t.list c.args.key ≡ None → length t.list < t.places) (sym c.self.view_is) c.requires (find_gap _ _ _ gap)

-- the key goes into the gap
pub invariant_of-self : goal.invariant_of-self
invariant_of-self c =
    let seen : c.self.inside.keys.list ≡ c.args.self.now.list = ap (λ (t : LiveKeys). t.list) c.self.view_is in
    let gap : IsGapFor c.self.inside.keys.list c.args.key c.in-Err.at = rw seen c.in-Err.ensures.absent in
    rw c.insert.ensures.list (ascending_put _ c.args.key _ c.self.invariant gap)

-- a key that is there already stays
pub returns-in-Ok-clause-list : goal.returns-in-Ok-clause-list
returns-in-Ok-clause-list c =
    let seen : c.self.inside.keys.list ≡ c.args.self.now.list = ap (λ (t : LiveKeys). t.list) c.self.view_is in
    let place : IsPlaceOf c.self.inside.keys.list c.args.key c.in-Ok.field-0 = rw seen c.in-Ok.ensures.found in
    rw (← seen) (sym (put_place _ c.self.invariant _ _ place))

pub returns-in-Err-clause-list : goal.returns-in-Err-clause-list
returns-in-Err-clause-list c =
    let seen : c.self.inside.keys.list ≡ c.args.self.now.list = ap (λ (t : LiveKeys). t.list) c.self.view_is in
    let gap : IsGapFor c.self.inside.keys.list c.args.key c.in-Err.at = rw seen c.in-Err.ensures.absent in
    rw (c.insert.ensures.list, ← seen) (sym (put_gap _ c.args.key _ gap))
