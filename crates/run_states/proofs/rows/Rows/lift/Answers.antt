use Rattle.std.proofs.Common.{◌≡◌, ◌∙◌, Some, sym, ap, subst}
use Rattle.run_states.specs.Rows.{Rows, IsAscendingRows, IsPlaceOf, find_row, put_row}
use Rattle.run_states.proofs.Place.{find_place, lift_place, ascending_lift, find_gap, find_lifted, lift_gap, put_back}
use Rattle.run_states.proofs.rows.Rows.lift.Goals as goal

-- the row at the place goes, and the order stays
pub invariant_of-self : goal.invariant_of-self
invariant_of-self c =
    let seen : c.self.inside.rows.list ≡ c.args.self.now.list = ap (λ (t : Rows). t.list) c.self.view_is in
    let place : IsPlaceOf c.self.inside.rows.list c.args.key c.in-Ok.at = rw seen c.in-Ok.ensures.found in
    rw c.remove.ensures.list (ascending_lift _ c.self.invariant _ _ c.remove.result place)

pub returns-in-Ok-clause-row : goal.returns-in-Ok-clause-row
returns-in-Ok-clause-row c =
    let seen : c.self.inside.rows.list ≡ c.args.self.now.list = ap (λ (t : Rows). t.list) c.self.view_is in
    let place : IsPlaceOf c.self.inside.rows.list c.args.key c.in-Ok.at = rw seen c.in-Ok.ensures.found in
    rw (← seen, find_place _ c.self.invariant _ _ c.remove.result place) (ap Some c.remove.ensures.value)

pub returns-in-Ok-clause-rows : goal.returns-in-Ok-clause-rows
returns-in-Ok-clause-rows c =
    let seen : c.self.inside.rows.list ≡ c.args.self.now.list = ap (λ (t : Rows). t.list) c.self.view_is in
    let place : IsPlaceOf c.self.inside.rows.list c.args.key c.in-Ok.at = rw seen c.in-Ok.ensures.found in
    rw (← seen, lift_place _ c.self.invariant _ _ c.remove.result place) c.remove.ensures.list

-- no row has the key
pub returns-in-Err-clause-row : goal.returns-in-Err-clause-row
returns-in-Err-clause-row c = sym (find_gap _ _ _ c.in-Err.ensures.absent)

pub returns-in-Err-clause-rows : goal.returns-in-Err-clause-rows
returns-in-Err-clause-rows c = sym (lift_gap _ _ _ c.in-Err.ensures.absent)

-- the key is gone, and a row that is put back stands in its place
pub returns-in-Ok-clause-gone : goal.returns-in-Ok-clause-gone
returns-in-Ok-clause-gone c = ap (λ l. find_row l c.args.key) (returns-in-Ok-clause-rows c) ∙ find_lifted c.args.self.now.list c.args.key

pub returns-in-Err-clause-gone : goal.returns-in-Err-clause-gone
returns-in-Err-clause-gone c = sym (returns-in-Err-clause-row c)

pub returns-in-Ok-clause-back : goal.returns-in-Ok-clause-back
returns-in-Ok-clause-back c = λ s there same.
    let up = subst IsAscendingRows (ap (λ (t : Rows). t.list) c.self.view_is) c.self.invariant in
    ap (λ l. put_row l s) (returns-in-Ok-clause-rows c) ∙ put_back c.args.self.now.list c.args.key c.remove.result s up (sym (returns-in-Ok-clause-row c)) same
