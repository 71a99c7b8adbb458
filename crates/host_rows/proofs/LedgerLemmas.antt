-- What is counted over rows is right after one of them changed, came or went.
use Rattle.std.proofs.Common.{◌≡◌, ℕ, ◌+◌, ◌-◌, ◌≤◌, Bool, true, false, cond, not, List, [], ◌∷◌, Option, Some, None, IfSome, All, min, option_map, sym, subst, arith}
use Rattle.std.proofs.lemmas.List.Elements.{recursion_from_All, All-filter, All-from_recursion}
use Rattle.std.specs.List.{AllByRecursion}
use Rattle.std.specs.Ordering.{is_eq, match_ordering}
use Rattle.std.specs.declared.cmp.Ordering.TheVariants.{Less, Equal, Greater}
use Rattle.ps_time.specs.Key.{key_cmp}
use Rattle.ps_time.specs.declared.key.RunKey.{RunKey}
use Rattle.run_states.specs.Life.{HasMoments}
use Rattle.run_states.specs.ResultBytes.{result_bytes, row_bytes}
use Rattle.run_states.specs.Rows.{change_row, find_row, lift_row, put_row, IsAscendingRows}
use Rattle.run_states.specs.declared.row.RunRow.{RunRow}
use Rattle.host_rows.specs.Ledger.{bytes_at, most_counted, IsCounted}
use Rattle.host_rows.proofs.RowLemmas.{bytes_changed, bytes_lifted, bytes_put, bytes_within, found_change}

all_found : (P : RunRow → Type 0) (key : RunKey) (rows : List RunRow) → AllByRecursion P rows → IfSome (find_row rows key) P
all_found P key [] all = tt
all_found P key (r ∷ rs) all =
    elim (is_eq (key_cmp r.key key)) as (λ b. IfSome (cond b (Some r) (find_row rs key)) P) [
      | true ↦ all.0
      | false ↦ all_found P key rs all.1
    ]

-- what holds of all rows holds of the one that the key finds
pub found_if : (P : RunRow → Type 0) (key : RunKey) (rows : List RunRow) → All P rows → IfSome (find_row rows key) P
found_if P key rows all = all_found P key rows (recursion_from_All P rows all)

put_recursion : (P : RunRow → Type 0) (r : RunRow) (rows : List RunRow) → P r → AllByRecursion P rows → AllByRecursion P (put_row rows r)
put_recursion P r [] here all = (here, tt)
put_recursion P r (x ∷ xs) here all =
    let later = put_recursion P r xs here all.1 in
    elim (key_cmp x.key r.key) as (λ c. AllByRecursion P (match_ordering c (x ∷ put_row xs r) (x ∷ put_row xs r) (r ∷ x ∷ xs))) [
      | Less ↦ (all.0, later)
      | Equal ↦ (all.0, later)
      | Greater ↦ (here, all)
    ]

pub all_put : (P : RunRow → Type 0) (r : RunRow) (rows : List RunRow) → P r → All P rows → All P (put_row rows r)
all_put P r rows here all = All-from_recursion P (put_row rows r) (put_recursion P r rows here (recursion_from_All P rows all))

module _ (f : RunRow → RunRow) (same : (r : RunRow) → (f r).key ≡ r.key) (rows : List RunRow) (bytes : ℕ) (k : RunKey) (n : ℕ) (counted : IsCounted rows bytes) (up : IsAscendingRows rows)
    (brings : (r : RunRow) → row_bytes (f r) ≤ row_bytes r + n) (room : n ≤ most_counted - result_bytes rows) (low : bytes ≤ most_counted)
    (before : ℕ) (is : before ≡ min (bytes_at (find_row rows k)) most_counted) where
  pub changed_less : before ≤ bytes
  changed_less = let within = bytes_within rows k in omega (arith, is, within, counted.kept)

  brings_one : (b : Bool) (r : RunRow) → row_bytes (cond b (f r) r) ≤ row_bytes r + n
  brings_one true r = brings r
  brings_one false r = omega arith

  brings_at : (o : Option RunRow) → bytes_at (option_map (λ r. cond (is_eq (key_cmp r.key k)) (f r) r) o) ≤ bytes_at o + n
  brings_at None = omega arith
  brings_at (Some r) = brings_one (is_eq (key_cmp r.key k)) r

  brought : bytes_at (find_row (change_row f rows k) k) ≤ bytes_at (find_row rows k) + n
  brought = subst (λ o. bytes_at o ≤ bytes_at (find_row rows k) + n) (sym (found_change f same rows k k)) (brings_at (find_row rows k))

  module _ (after : ℕ) (now : after ≡ min (bytes_at (find_row (change_row f rows k) k)) most_counted) where
    pub changed_more : (bytes - before) + after ≤ most_counted
    changed_more = let within = bytes_within rows k in omega (arith, is, within, counted.kept, now, brought, room, low)

    pub changed_counted : All HasMoments (change_row f rows k) → IsCounted (change_row f rows k) ((bytes - before) + after)
    changed_counted moments = record {
      moments = moments;
      kept =
          let within = bytes_within rows k in
          let all = bytes_changed f same rows k up in
          omega (arith, is, within, counted.kept, now, brought, room, low, all);
    }

module _ (rows : List RunRow) (bytes : ℕ) (counted : IsCounted rows bytes) where
  -- a new row has no results
  pub put_counted : (r : RunRow) → HasMoments r → row_bytes r ≡ 0 → IsCounted (put_row rows r) bytes
  put_counted r moments none = record {
    moments = all_put HasMoments r rows moments counted.moments;
    kept = let all = bytes_put rows r in omega (arith, all, none, counted.kept);
  }

  -- a row goes
  pub lifted_counted : (k : RunKey) (own : ℕ) → IsAscendingRows rows → bytes ≤ most_counted → own ≡ min (bytes_at (find_row rows k)) most_counted → (own ≤ bytes) × IsCounted (lift_row rows k) (bytes - own)
  lifted_counted k own up low is =
      let within = bytes_within rows k in
      let all = bytes_lifted rows k up in (
        omega (arith, is, within, counted.kept),
        record {
          moments = All-filter (λ r. not (is_eq (key_cmp r.key k))) HasMoments rows counted.moments;
          kept = omega (arith, is, within, counted.kept, low, all);
        },
      )
