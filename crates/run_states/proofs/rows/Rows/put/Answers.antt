use Rattle.std.proofs.Common.{◌≡◌, sym, ap}
use Rattle.run_states.specs.Rows.{Rows, IsPlaceOf, IsGapFor}
use Rattle.run_states.proofs.Place.{find_place, place_put, put_gap, ascending_put}
use Rattle.run_states.proofs.rows.Rows.put.Goals as goal

-- the key is new, so no place has it
pub unreachable-requires : goal.unreachable-requires
unreachable-requires c =
    let seen : c.self.inside.rows.list ≡ c.args.self.now.list = ap (λ (t : Rows). t.list) c.self.view_is in
    let place : IsPlaceOf c.self.inside.rows.list c.args.row.key c.in-Ok.field-0 = rw seen c.in-Ok.ensures.found in
    let found = rw seen at (find_place _ c.self.invariant _ _ c.args.row place) in
    cc (found, c.requires.new_key)

-- the row goes into the gap
pub invariant_of-self : goal.invariant_of-self
invariant_of-self c =
    let seen : c.self.inside.rows.list ≡ c.args.self.now.list = ap (λ (t : Rows). t.list) c.self.view_is in
    let gap : IsGapFor c.self.inside.rows.list c.args.row.key c.in-Err.at = rw seen c.in-Err.ensures.absent in
    rw c.insert.ensures.list (ascending_put _ _ _ c.self.invariant gap)

pub returns-clause-rows : goal.returns-clause-rows
returns-clause-rows c =
    let seen : c.self.inside.rows.list ≡ c.args.self.now.list = ap (λ (t : Rows). t.list) c.self.view_is in
    let gap : IsGapFor c.self.inside.rows.list c.args.row.key c.in-Err.at = rw seen c.in-Err.ensures.absent in
    rw (c.insert.ensures.list, ← seen) (sym (put_gap _ _ _ gap))

-- and stands there
pub returns-clause-place : goal.returns-clause-place
returns-clause-place c =
    let seen : c.self.inside.rows.list ≡ c.args.self.now.list = ap (λ (t : Rows). t.list) c.self.view_is in
    let gap : IsGapFor c.self.inside.rows.list c.args.row.key c.in-Err.at = rw seen c.in-Err.ensures.absent in
    rw c.insert.ensures.list (place_put _ _ _ gap.within)
