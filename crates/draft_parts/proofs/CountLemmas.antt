-- The bytes of results as one row changes.
use Rattle.std.proofs.Common.{◌≡◌, ◌≤◌, ◌+◌, ◌-◌, ℕ, Bool, true, false, cond, List, Option, Some, None, option_map, min, sym, subst, arith}
use Rattle.std.specs.Ordering.{is_eq}
use Rattle.ps_time.specs.Key.{key_cmp}
use Rattle.ps_time.specs.declared.key.RunKey.{RunKey}
use Rattle.run_states.specs.ResultBytes.{row_bytes}
use Rattle.run_states.specs.Rows.{change_row, find_row}
use Rattle.run_states.specs.declared.row.RunRow.{RunRow}
use Rattle.host_rows.specs.Ledger.{bytes_at, most_counted}
use Rattle.host_rows.proofs.RowLemmas.{found_change}

module _ (f : RunRow → RunRow) (same : (r : RunRow) → (f r).key ≡ r.key) (n : ℕ) (brings : (r : RunRow) → row_bytes (f r) ≤ row_bytes r + n) where
  brings_one : (b : Bool) (r : RunRow) → row_bytes (cond b (f r) r) ≤ row_bytes r + n
  brings_one true r = brings r
  brings_one false r = omega arith

  brings_at : (k : RunKey) (o : Option RunRow) → bytes_at (option_map (λ r. cond (is_eq (key_cmp r.key k)) (f r) r) o) ≤ bytes_at o + n
  brings_at k None = omega arith
  brings_at k (Some r) = brings_one (is_eq (key_cmp r.key k)) r

  -- the row of the key has so many more at most
  pub brought : (rows : List RunRow) (k : RunKey) → bytes_at (find_row (change_row f rows k) k) ≤ bytes_at (find_row rows k) + n
  brought rows k = subst (λ o. bytes_at o ≤ bytes_at (find_row rows k) + n) (sym (found_change f same rows k k)) (brings_at k (find_row rows k))

  -- counted anew, with those of the row before and after
  module _ (rows ys : List RunRow) (k : RunKey) (is : ys ≡ change_row f rows k) (bytes before after : ℕ) (low : bytes_at (find_row rows k) ≤ bytes) (room : bytes + n ≤ most_counted)
      (was : before ≡ min (bytes_at (find_row rows k)) most_counted) (own : after ≡ min (bytes_at (find_row ys k)) most_counted) where
    more : bytes_at (find_row ys k) ≤ bytes_at (find_row rows k) + n
    more = subst (λ l. bytes_at (find_row l k) ≤ bytes_at (find_row rows k) + n) (sym is) (brought rows k)

    pub recount_fits : (bytes - before) + after ≤ most_counted
    recount_fits = omega (arith, more, low, room, was, own)

    pub recount : ((bytes - before) + after) + bytes_at (find_row rows k) ≡ bytes + bytes_at (find_row ys k)
    recount = omega (arith, more, low, room, was, own)
