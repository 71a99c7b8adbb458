-- The first of the rows above a key.
use Rattle.std.specs.Prelude.{find}
use Rattle.std.specs.List.{slice_get}
use Rattle.std.proofs.Common.{◌≡◌, ◌&&◌, Bool, true, false, cond, List, [], ◌∷◌, filter, Option, Some, None, refl}
use Rattle.ps_time.specs.declared.key.RunKey.{RunKey}
use Rattle.run_states.specs.Rows.{is_above, rows_above}
use Rattle.run_states.specs.declared.row.RunRow.{RunRow}
use Rattle.host_timeline.specs.Booking.{is_after}
use Rattle.draft_parts.proofs.PickLemmas.{find_passing}

-- the first of them that passes is the first above the key that passes
pub find_above : (after : Option RunKey) (g : RunRow → Bool) (rows : List RunRow) → find g (rows_above after rows) ≡ find (λ r. is_after after r.key && g r) rows
find_above None g rows = refl
find_above (Some low) g rows = find_passing (is_above low) g rows

-- the first of them is the first above the key
pub first_above : (after : Option RunKey) (rows : List RunRow) → slice_get (rows_above after rows) 0 ≡ find (λ r. is_after after r.key) rows
first_above None [] = refl
first_above None (r ∷ rs) = refl
first_above (Some low) [] = refl
first_above (Some low) (r ∷ rs) = elim (is_above low r) as (λ b. slice_get (cond b (r ∷ filter (is_above low) rs) (filter (is_above low) rs)) 0 ≡ cond b (Some r) (find (is_above low) rs)) [ true ↦ refl | false ↦ first_above (Some low) rs ]
