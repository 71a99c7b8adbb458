use Rattle.run_states.proofs.Place.{one_place, own_place}
use Rattle.run_states.proofs.rows.place_of_moved.Goals as goal

-- no two places have a key
pub returns : goal.returns
returns c =
    let rows = c.args.rows.now.list in
    let last = c.args.rows.now.last in
    let x = c.last_cell.result.now in
    one_place rows c.requires.ascending x.key c.in-Ok.last last x c.in-Ok.ensures.found (own_place rows last x c.last_cell.ensures.within c.last_cell.ensures.value)
