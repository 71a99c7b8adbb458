use Rattle.std.proofs.Common.{◌≡◌, Some, sym, ap}
use Rattle.run_states.specs.Rows.{Rows, IsPlaceOf}
use Rattle.run_states.proofs.Place.{find_place, find_gap}
use Rattle.run_states.proofs.rows.Rows.find.Goals as goal

-- the row at the place has the key
pub returns-in-Ok : goal.returns-in-Ok
returns-in-Ok c =
    let seen : c.self.inside.rows.list ≡ c.args.self.now.list = ap (λ (t : Rows). t.list) c.self.view_is in
    let place : IsPlaceOf c.self.inside.rows.list c.args.key c.in-Ok.at = rw seen c.in-Ok.ensures.found in
    rw (← seen, find_place _ c.self.invariant _ _ c.index.result.now place) (ap Some c.index.ensures)

-- no row has it
pub returns-in-Err : goal.returns-in-Err
returns-in-Err c = sym (find_gap _ _ _ c.in-Err.ensures.absent)
