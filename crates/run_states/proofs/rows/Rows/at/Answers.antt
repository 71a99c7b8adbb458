use Rattle.std.proofs.Common.{◌≡◌, Some, sym, ap, subst}
use Rattle.run_states.specs.Rows.{Rows, IsPlaceOf}
use Rattle.run_states.proofs.Place.{find_place, own_place}
use Rattle.run_states.proofs.rows.Rows.at.Goals as goal

-- the row at the place has its own key there
pub returns-clause-own : goal.returns-clause-own
returns-clause-own c =
    let rows = c.self.inside.rows.list in
    let seen : rows ≡ c.args.self.now.list = ap (λ (t : Rows). t.list) c.self.view_is in
    let r = c.index.result.now in
    subst (λ l. IsPlaceOf l r.key c.args.place) seen (own_place rows c.args.place r (rw seen c.requires) c.index.ensures)

-- and no other row has it
pub returns-clause-found : goal.returns-clause-found
returns-clause-found c = λ k at.
    let seen : c.self.inside.rows.list ≡ c.args.self.now.list = ap (λ (t : Rows). t.list) c.self.view_is in
    let place : IsPlaceOf c.self.inside.rows.list k c.args.place = rw seen at in
    rw (← seen, find_place _ c.self.invariant _ _ c.index.result.now place) (sym (ap Some c.index.ensures))
