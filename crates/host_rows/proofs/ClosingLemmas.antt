-- Closing rows by their reservations.
use Rattle.std.proofs.Common.{◌≡◌, ℕ, Bool, true, false, cond, List, [], ◌∷◌, All, get_or, refl}
use Rattle.std.proofs.lemmas.List.Elements.{All-map}
use Rattle.std.specs.Ordering.{is_eq}
use Rattle.ps_time.specs.Key.{key_cmp}
use Rattle.ps_time.specs.Span.{Span}
use Rattle.ps_time.specs.declared.class.Class.{Class}
use Rattle.ps_time.specs.declared.key.RunKey.{RunKey}
use Rattle.run_states.specs.declared.row.RunRow.{RunRow}
use Rattle.run_states.specs.declared.why.Closing.{Closing}
use Rattle.run_states.specs.declared.why.Why.TheVariants.{Preempted}
use Rattle.run_states.specs.Life.{close_row}
use Rattle.run_states.specs.Rows.{change_row}
use Rattle.host_timeline.specs.declared.booking.Booking.{Booking}
use Rattle.host_timeline.specs.Booking.{conflicts_with, conflicting, keys_of}
use Rattle.host_rows.specs.Closing.{closed_each, closed_keys}

-- closing one booking after another, each that is in conflict, is closing the keys of the conflicts
pub closed_each_keys : (m : ℕ) (key : RunKey) (class : Class) (s : Span) (bs : List Booking) (rows : List RunRow) → closed_each m key class s bs rows ≡ closed_keys m key (keys_of (conflicting class s bs)) rows
closed_each_keys m key class s [] rows = refl
closed_each_keys m key class s (b ∷ bs) rows =
    let closed = change_row (close_row (record { moment = m; why = Preempted key })) rows b.key in
    elim (conflicts_with class s b) as (λ x. closed_each m key class s bs (cond x closed rows) ≡ closed_keys m key (keys_of (cond x (b ∷ conflicting class s bs) (conflicting class s bs))) rows) [
      | true ↦ closed_each_keys m key class s bs closed
      | false ↦ closed_each_keys m key class s bs rows
    ]

-- what holds of rows, and of a row as it closes, holds as the row of a key closes
module _ (P : RunRow → Type 0) (c : Closing) (keep : (r : RunRow) → P r → P (close_row c r)) where
  pub closed_all : (k : RunKey) (rows : List RunRow) → All P rows → All P (change_row (close_row c) rows k)
  closed_all k rows all = All-map P (λ r. cond (is_eq (key_cmp r.key k)) (close_row c r) r) rows (λ i d lt. one (is_eq (key_cmp (get_or rows i d).key k)) (get_or rows i d) (all i d lt))
    where
      one : (b : Bool) (r : RunRow) → P r → P (cond b (close_row c r) r)
      one true r holds = keep r holds
      one false r holds = holds
