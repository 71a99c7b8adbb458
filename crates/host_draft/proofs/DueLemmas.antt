-- The rows that lapse are among those whose deadline has come, so copies of these lie over a book as it settles.
use Rattle.std.specs.Prelude.{IfOk}
use Rattle.std.proofs.Common.{◌≡◌, ℕ, Bool, true, false, cond, All, List, [], Option, Some, None, Result, Ok, Err, is_some, option_map, refl, ap, sym, ◌∙◌}
use Rattle.ps_time.specs.declared.key.RunKey.{RunKey}
use Rattle.run_states.specs.Life.{closed_by, first_there, lapse_of, settled_row, settled_rows}
use Rattle.run_states.specs.Rows.{Rows, find_row}
use Rattle.run_states.specs.declared.row.RunRow.{RunRow}
use Rattle.run_states.specs.declared.why.Closing.{Closing}
use Rattle.run_states.proofs.Place.{key_is}
use Rattle.host_rows.specs.Deadlines.{is_among, IsDue}
use Rattle.host_rows.proofs.RowLemmas.{found_is}
use Rattle.host_model.proofs.RowLemmas.{found_of_all}
use Rattle.host_model.proofs.Standing.{find_row-map}
use Rattle.draft_parts.specs.Overlay.{lapsed_copy, lapsed_over, named, over}
use Rattle.draft_parts.proofs.OverLemmas.{found_lapsed, settled_key}

no_copy : {A : Type 0} (b : Bool) (o : Option A) → first_there (cond b None None) o ≡ o
no_copy true o = refl
no_copy false o = refl

-- ---- copies of the rows that lapse lie over a book as it settles
module _ (m : ℕ) (rows : List RunRow) (ks : List RunKey) (due : All (IsDue m ks) rows) (k : RunKey) where
  copy : (r : RunRow) → find_row rows k ≡ Some r → (o : Option Closing) → lapse_of m r ≡ o → Some (closed_by o r) ≡ first_there (cond (named k ks) (cond (is_some o) (Some (closed_by o r)) None) None) (Some r)
  copy r at None is = sym (no_copy (named k ks) (Some r))
  copy r at (Some c) is =
      let own : is_among r.key ks ≡ true = found_of_all (IsDue m ks) k r rows due at (ap is_some is) in
      let here : named k ks ≡ true = ap (λ j. is_among j ks) (sym (key_is r.key k (found_is k rows r at))) ∙ own in
      sym (ap (λ b. first_there (cond b (Some (closed_by (Some c) r)) None) (Some r)) here)

  copies : (o : Option RunRow) → find_row rows k ≡ o → option_map (settled_row m) o ≡ first_there (cond (named k ks) (lapsed_copy m o) None) o
  copies None at = sym (no_copy (named k ks) None)
  copies (Some r) at = copy r at (lapse_of m r) refl

  -- as the book settles
  found_opened : find_row (settled_rows m rows) k ≡ over (lapsed_over m rows ks []) [] rows k
  found_opened =
      find_row-map (settled_row m) (settled_key m) rows k
      ∙ (copies (find_row rows k) refl ∙ sym (ap (λ o. first_there o (find_row rows k)) (found_lapsed m rows ks [] k)))

-- what was copied lies over the book
pub opened_ok : {E : Type 0} (m : ℕ) (rows : List RunRow) (ks : List RunKey) → All (IsDue m ks) rows → (r : Result Rows E) → IfOk r (λ made. made.list ≡ lapsed_over m rows ks []) → IfOk r (λ made. (k : RunKey) → find_row (settled_rows m rows) k ≡ over made.list [] rows k)
opened_ok m rows ks due (Ok made) is = λ k. found_opened m rows ks due k ∙ sym (ap (λ l. over l [] rows k) is)
opened_ok m rows ks due (Err e) is = tt
