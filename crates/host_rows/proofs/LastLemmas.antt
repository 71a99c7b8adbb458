-- Rows as one more comes behind those that are there.
use Rattle.std.proofs.Common.{◌≡◌, cond, List, [], ◌∷◌, ◌++◌, Some, None, refl, ap, ◌∙◌}
use Rattle.std.specs.List.{AllByRecursion}
use Rattle.std.specs.Ordering.{is_eq, match_ordering}
use Rattle.std.specs.declared.cmp.Ordering.TheVariants.{Less}
use Rattle.ps_time.specs.Key.{key_cmp}
use Rattle.run_states.specs.Rows.{find_row, put_row, IsAscendingRows}
use Rattle.run_states.specs.declared.row.RunRow.{RunRow}

module _ (r : RunRow) (rest : List RunRow) where
  pub at_seam : (P : RunRow → Type 0) (xs : List RunRow) → AllByRecursion P (xs ++ r ∷ rest) → P r
  at_seam P [] all = all.0
  at_seam P (x ∷ xs) all = at_seam P xs all.1

  pub before_seam : (P : RunRow → Type 0) (xs : List RunRow) → AllByRecursion P (xs ++ r ∷ rest) → AllByRecursion P xs
  before_seam P [] all = tt
  before_seam P (x ∷ xs) all = (all.0, before_seam P xs all.1)

  pub put_last : (xs : List RunRow) → IsAscendingRows (xs ++ r ∷ rest) → put_row xs r ≡ xs ++ r ∷ []
  put_last [] up = refl
  put_last (x ∷ xs) up =
      ap (λ c. match_ordering c (x ∷ put_row xs r) (x ∷ put_row xs r) (r ∷ x ∷ xs)) (at_seam (λ y. key_cmp x.key y.key ≡ Less) xs up.0)
      ∙ ap (λ l. x ∷ l) (put_last xs up.1)

  pub none_last : (xs : List RunRow) → IsAscendingRows (xs ++ r ∷ rest) → find_row xs r.key ≡ None
  none_last [] up = refl
  none_last (x ∷ xs) up = ap (λ c. cond (is_eq c) (Some x) (find_row xs r.key)) (at_seam (λ y. key_cmp x.key y.key ≡ Less) xs up.0) ∙ none_last xs up.1

  pub front_up : (xs : List RunRow) → IsAscendingRows (xs ++ r ∷ rest) → IsAscendingRows xs
  front_up [] up = tt
  front_up (x ∷ xs) up = (before_seam (λ y. key_cmp x.key y.key ≡ Less) xs up.0, front_up xs up.1)
