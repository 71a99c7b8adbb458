-- What holds of all rows, and of the one that a key finds.
use Rattle.std.specs.List.{AllByRecursion}
use Rattle.std.specs.Ordering.{is_eq}
use Rattle.std.specs.declared.cmp.Ordering.TheVariants.{Less}
use Rattle.std.proofs.Common.{◌≡◌, Bool, true, false, cond, List, [], ◌∷◌, All, Some, unwrap_or, ap, subst, ◌∙◌}
use Rattle.std.proofs.lemmas.List.Elements.{recursion_from_All, All-from_recursion}
use Rattle.ps_time.specs.Key.{key_cmp}
use Rattle.ps_time.specs.declared.key.RunKey.{RunKey}
use Rattle.ps_time.proofs.KeyLemmas.{key_cmp_same}
use Rattle.run_states.specs.Rows.{find_row, IsAscendingRows}
use Rattle.run_states.specs.declared.row.RunRow.{RunRow}

-- ---- ascending rows
-- a row that is found behind another is found
found_behind : (r : RunRow) (rs xs : List RunRow) → AllByRecursion (λ y. key_cmp r.key y.key ≡ Less) xs → AllByRecursion (λ x. find_row rs x.key ≡ Some x) xs → AllByRecursion (λ x. find_row (r ∷ rs) x.key ≡ Some x) xs
found_behind r rs [] above found = tt
found_behind r rs (x ∷ xs) above found = (ap (λ z. cond (is_eq z) (Some r) (find_row rs x.key)) above.0 ∙ found.0, found_behind r rs xs above.1 found.1)

-- each row is found by its key
each_found : (rows : List RunRow) → IsAscendingRows rows → AllByRecursion (λ x. find_row rows x.key ≡ Some x) rows
each_found [] up = tt
each_found (r ∷ rs) up = (ap (λ z. cond (is_eq z) (Some r) (find_row rs r.key)) (key_cmp_same r.key), found_behind r rs rs up.0 (each_found rs up.1))

module _ (P : RunRow → Type 0) where
  found_all : (rows xs : List RunRow) → AllByRecursion (λ x. find_row rows x.key ≡ Some x) xs → ((r : RunRow) → find_row rows r.key ≡ Some r → P r) → AllByRecursion P xs
  found_all rows [] found each = tt
  found_all rows (x ∷ xs) found each = (each x found.0, found_all rows xs found.1 each)

  -- what holds of each row that is found holds of all
  pub all_of_found : (rows : List RunRow) → IsAscendingRows rows → ((r : RunRow) → find_row rows r.key ≡ Some r → P r) → All P rows
  all_of_found rows up each = All-from_recursion P rows (found_all rows rows (each_found rows up) each)

  found_by : (k : RunKey) (r : RunRow) (rows : List RunRow) → AllByRecursion P rows → find_row rows k ≡ Some r → P r
  found_by k r [] all found = cc
  found_by k r (x ∷ xs) all found = go (is_eq (key_cmp x.key k)) found (found_by k r xs all.1)
    where
      go : (b : Bool) → cond b (Some x) (find_row xs k) ≡ Some r → (find_row xs k ≡ Some r → P r) → P r
      go true here later = subst P (ap (λ o. unwrap_or o x) here) all.0
      go false here later = later here

  -- what holds of all rows holds of the one that is found
  pub found_of_all : (k : RunKey) (r : RunRow) (rows : List RunRow) → All P rows → find_row rows k ≡ Some r → P r
  found_of_all k r rows all found = found_by k r rows (recursion_from_All P rows all) found
