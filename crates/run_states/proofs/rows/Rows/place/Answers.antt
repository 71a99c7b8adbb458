use Rattle.run_states.proofs.Place.{find_gap}
use Rattle.run_states.proofs.rows.Rows.place.Goals as goal

-- no row has the key
pub returns-in-Err-clause-absent : goal.returns-in-Err-clause-absent
returns-in-Err-clause-absent c = λ none. find_gap _ _ _ c.in-Err.ensures.absent
