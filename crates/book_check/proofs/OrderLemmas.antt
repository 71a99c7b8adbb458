-- Rows are in order where each is above the one before it.
use Rattle.std.specs.Prelude.{◌↔◌}
use Rattle.std.specs.List.{AllByRecursion}
use Rattle.std.specs.declared.cmp.Ordering.TheVariants.{Less}
use Rattle.std.proofs.Common.{◌≡◌, ◌<◌, ◌+◌, ℕ, List, [], ◌∷◌, Option, Some, None, drop, length, get_or, subst, sym}
use Rattle.ps_time.specs.Key.{key_cmp}
use Rattle.ps_time.specs.declared.key.RunKey.{RunKey}
use Rattle.ps_time.proofs.KeyLemmas.{key_cmp_total}
use Rattle.run_states.specs.Rows.{IsAscendingRows}
use Rattle.run_states.specs.declared.row.RunRow.{RunRow}
use Rattle.row_check.proofs.AllLeft.{next_left}
use Rattle.book_check.specs.Order.{AreAbove, IsAbove}

above_all : (j k : RunKey) → key_cmp j k ≡ Less → (rows : List RunRow) → AllByRecursion (λ r. key_cmp k r.key ≡ Less) rows → AllByRecursion (λ r. key_cmp j r.key ≡ Less) rows
above_all j k less [] all = tt
above_all j k less (r ∷ rows) all = (key_cmp_total.trans j k r.key less all.0, above_all j k less rows all.1)

one_more : (before : Option RunKey) (r : RunRow) (rows : List RunRow) → AreAbove before (r ∷ rows) ↔ (IsAbove before r.key × AreAbove (Some r.key) rows)
one_more None r rows = (λ are. (tt, are), λ both. both.1)
one_more (Some j) r rows = (λ are. (are.0.0, are.1), λ both. ((both.0, above_all j r.key both.0 rows both.1.0), both.1))

module _ (rows : List RunRow) (i : ℕ) (r : RunRow) (within : i < length rows) (is : r ≡ get_or rows i r) (before : Option RunKey) (so_far : AreAbove before (drop i rows) ↔ IsAscendingRows rows) where
  parts : AreAbove before (drop i rows) ↔ (IsAbove before r.key × AreAbove (Some r.key) (drop (i + 1) rows))
  parts = subst (λ xs. AreAbove before xs ↔ (IsAbove before r.key × AreAbove (Some r.key) (drop (i + 1) rows))) (sym (next_left rows i r within is)) (one_more before r (drop (i + 1) rows))

  pub goes_on : IsAbove before r.key → (AreAbove (Some r.key) (drop (i + 1) rows) ↔ IsAscendingRows rows)
  goes_on above = (λ rest. so_far.0 (parts.1 (above, rest)), λ up. (parts.0 (so_far.1 up)).1)
