-- Which row a key finds, after a row may have come or gone.
use Rattle.std.specs.Ordering.{is_eq}
use Rattle.std.proofs.Common.{◌≡◌, ◌⊎◌, false, List, Option, Some, None, subst, sym}
use Rattle.ps_time.specs.Key.{key_cmp}
use Rattle.ps_time.specs.declared.key.RunKey.{RunKey}
use Rattle.run_states.specs.Rows.{find_row, lift_row}
use Rattle.run_states.specs.declared.row.RunRow.{RunRow}
use Rattle.host_model.specs.Apply.{put_new}
use Rattle.host_model.proofs.Keyed

-- a row that is found has the key
pub find_row-key : (rows : List RunRow) (k : RunKey) (r : RunRow) → find_row rows k ≡ Some r → r.key ≡ k
find_row-key rows k r e = Keyed.at-key (λ r. r.key) rows k r e

-- and is found by its own
pub find_row-own : (rows : List RunRow) (k : RunKey) (r : RunRow) → find_row rows k ≡ Some r → find_row rows r.key ≡ Some r
find_row-own rows k r e = subst (λ j. find_row rows j ≡ Some r) (sym (find_row-key rows k r e)) e

-- what stands after a row may have come stood before, or is the new row
pub put_from : (n : RunRow) (rows : List RunRow) (k : RunKey) (r : RunRow) → find_row (put_new (Some n) rows) k ≡ Some r → (find_row rows k ≡ Some r) ⊎ ((n.key ≡ k) × (n ≡ r))
put_from n rows k r e = Keyed.put_from (λ r. r.key) n rows k r e

-- what stood before stands after
pub put_keeps : (o : Option RunRow) (rows : List RunRow) (k : RunKey) (r : RunRow) → find_row rows k ≡ Some r → find_row (put_new o rows) k ≡ Some r
put_keeps None rows k r e = e
put_keeps (Some n) rows k r e = Keyed.put_keeps (λ r. r.key) n rows k r e

-- a row with another key than the one that goes stays
pub lift_keeps : (j k : RunKey) → is_eq (key_cmp k j) ≡ false → (rows : List RunRow) (r : RunRow) → find_row rows k ≡ Some r → find_row (lift_row rows j) k ≡ Some r
lift_keeps j k other rows r e = Keyed.without_keeps (λ r. r.key) j k other rows r e

-- what stays stood before
pub lift_from : (j k : RunKey) (rows : List RunRow) (r : RunRow) → find_row (lift_row rows j) k ≡ Some r → find_row rows k ≡ Some r
lift_from j k rows r e = Keyed.without_from (λ r. r.key) j k rows r e
