-- What the decision on a booking says of it: no row has its key.
use Rattle.std.specs.Prelude.{IsNone}
use Rattle.std.proofs.Common.{◌≡◌, ◌∙◌, ◌+◌, ℕ, List, Option, Some, None, refl, sym, ap, arith}
use Rattle.run_states.specs.Rows.{find_row}
use Rattle.run_states.specs.TaskRows.{greatest_number}
use Rattle.run_states.specs.declared.proposal.Proposal.{Proposal}
use Rattle.run_states.specs.declared.row.RunRow.{RunRow}
use Rattle.run_states.specs.declared.why.Denial.{Denial}
use Rattle.host_model.specs.Booking.{booking_key}
use Rattle.host_model.specs.Fits.{Place, denial_of}
use Rattle.host_model.specs.Propose.{decide, decided_at, decided_new}
use Rattle.host_model.specs.declared.part.Decision.TheVariants.{Denied}
use Rattle.host_model.proofs.NewNumbers.{above_new}

module _ (place : Place) (rows : List RunRow) (m : ℕ) (p : Proposal) (new : find_row rows p.key ≡ None) where
  decided : decide place rows m p ≡ decided_new (denial_of place rows m p)
  decided = ap (decided_at place rows m p) new

  -- it is denied for this reason
  pub denied_for : (d : Denial) → decide place rows m p ≡ Denied d → denial_of place rows m p ≡ Some d
  denied_for d is = go (denial_of place rows m p) (sym decided ∙ is)
    where
      go : (o : Option Denial) → decided_new o ≡ Denied d → o ≡ Some d
      go None e = cc
      go (Some x) e = let same : x ≡ d = cc in ap Some same

none_is : (o : Option RunRow) → IsNone o → o ≡ None
none_is None none = refl
none_is (Some r) none = cc

-- no row has the next number
pub next_new : (self : ℕ) (rows : List RunRow) → find_row rows (booking_key self (greatest_number self 0 rows + 1)) ≡ None
next_new self rows = none_is (find_row rows (booking_key self (greatest_number self 0 rows + 1))) (above_new rows (booking_key self (greatest_number self 0 rows + 1)) (omega arith))
