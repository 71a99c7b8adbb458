-- The row of a run that was accepted just now.
use Rattle.std.proofs.Common.{◌≡◌, ℕ, cond, List, Option, Some, None, is_some, map, option_map, ap, ◌∙◌, refl}
use Rattle.run_states.specs.Rows.{find_row, put_row}
use Rattle.run_states.specs.declared.proposal.Proposal.{Proposal}
use Rattle.run_states.specs.declared.row.RunRow.{RunRow}
use Rattle.host_model.specs.Apply.{apply}
use Rattle.host_model.specs.Book.{Book}
use Rattle.host_model.specs.NewRow.{accepted_row}
use Rattle.host_model.specs.declared.change.Change.TheVariants.{Accepted}
use Rattle.host_model.proofs.Keyed.{at-put, key_same}
use Rattle.host_model.proofs.Standing.{changed_key, changed_row, find_row-map}

pub accepted_now : (m : ℕ) (b : Book) (p : Proposal) (hosts : List (List ℕ)) (epoch : ℕ) → find_row b.rows p.key ≡ None → find_row (apply m (Accepted p hosts epoch) b).rows p.key ≡ Some (accepted_row m p hosts)
accepted_now m b p hosts epoch new = go (find_row rows p.key) refl none
  where
    rows : List RunRow
    rows = map (changed_row m b.tasks (Accepted p hosts epoch) b.rows) b.rows

    none : find_row rows p.key ≡ None
    none = find_row-map (changed_row m b.tasks (Accepted p hosts epoch) b.rows) (changed_key m b.tasks (Accepted p hosts epoch) b.rows) b.rows p.key ∙ ap (option_map (changed_row m b.tasks (Accepted p hosts epoch) b.rows)) new

    go : (o : Option RunRow) → find_row rows p.key ≡ o → o ≡ None → find_row (cond (is_some o) rows (put_row rows (accepted_row m p hosts))) p.key ≡ Some (accepted_row m p hosts)
    go None at e = at-put (λ r. r.key) (accepted_row m p hosts) rows p.key at ∙ ap (λ t. cond t (Some (accepted_row m p hosts)) (find_row rows p.key)) (key_same p.key)
    go (Some r) at e = cc
