-- Rows are those of one table, so a database that is opened again has the table that it had.
use Rattle.std.proofs.Common.{◌≡◌, inl, inr, zero, suc, ◌+◌, List, [], ◌∷◌, map, filter, IsSorted, Less, Result, Ok, Err, IfOk, refl, sym, ap, ap₂, subst, ◌∙◌, arith}
use Rattle.std.specs.Cmp.{IsTotalOrder}
use Rattle.std.specs.List.{AllByRecursion, AllZip}
use Rattle.std.specs.List.Sorted.{IsPermutation}
use Rattle.std.specs.Ordering.{on}
use Rattle.std.proofs.lemmas.Cmp.{on_total}
use Rattle.std.proofs.lemmas.List.Sorted.{IsPermutation-sym, IsPermutation-trans}
use Rattle.sqlite.specs.Effect.{Database, IsDatabase}
use Rattle.sqlite.specs.Order.{Row}
use Rattle.sqlite.specs.Schema.{Schema}
use Rattle.sqlite.specs.State.{State, HasCleanDisk}
use Rattle.sqlite.specs.Tree.{Trees, IsAscending}
use Rattle.sqlite_catalog.specs.Listing.{IsSound, IsTableRow, is_table_row}
use Rattle.sqlite_keyed.proofs.SortLemmas.{sorted_unique}
use Rattle.sqlite_trees.proofs.ListLemmas.{all-permutation}
use Rattle.sqlite_trees.specs.Objects.{catalog_tree}
use Rattle.ps_time.specs.Key.{key_cmp}
use Rattle.ps_time.proofs.KeyLemmas.{key_cmp_total}
use Rattle.result_keeper.proofs.RowLemmas.{same_record}
use Rattle.result_keeper.specs.Opening.{IsOpenedWith, HasFound}
use Rattle.result_rows.specs.Found.{HoldsTable}
use Rattle.result_rows.specs.Keeps.{Keeps}
use Rattle.result_rows.specs.Keeps as told
use Rattle.result_rows.specs.Rows.{Numbered, kept, row_of, columns_of, HasKey, AreOf, IsRowOf}
use Rattle.result_rows.specs.Table.{no_schema, results_schema}
use Rattle.result_table.specs.Record.{IsTable}
use Rattle.result_table.specs.declared.record.Record.{Record}

-- ---- one list of entries

own_row : (r : Record) → HasKey r → IsRowOf (columns_of r) r
own_row r range = record { key = refl; range = range; since = refl; latest = refl; good = refl; body = refl }

same_entry : (x y : Numbered) → HasKey (kept x) → HasKey (kept y) → row_of x ≡ row_of y → x ≡ y
same_entry x y range other same =
    let number : x.0 ≡ y.0 = cc in
    let columns : columns_of y.1 ≡ columns_of x.1 = cc in
    let record_is : y.1 ≡ x.1 = same_record x.1 y.1 range (subst (λ row. IsRowOf row y.1) columns (own_row y.1 other)) in
    λ i. (number i, sym record_is i)

same_entries : (xs ys : List Numbered) → AllByRecursion HasKey (map kept xs) → AllByRecursion HasKey (map kept ys) → map row_of xs ≡ map row_of ys → xs ≡ ys
same_entries [] [] ranges others same = refl
same_entries [] (y ∷ ys) ranges others same = absurd cc
same_entries (x ∷ xs) [] ranges others same = absurd cc
same_entries (x ∷ xs) (y ∷ ys) ranges others same =
    let first : row_of x ≡ row_of y = cc in
    let rest : map row_of xs ≡ map row_of ys = cc in
    ap₂ ◌∷◌ (same_entry x y ranges.0 others.0 first) (same_entries xs ys ranges.1 others.1 rest)

-- ---- one order of them

by_key : IsTotalOrder (on (λ (r : Record). r.key) key_cmp)
by_key = on_total (λ (r : Record). r.key) key_cmp_total

rising : (rs : List Record) → IsTable rs → IsAscending (λ a b. key_cmp a.key b.key ≡ Less) rs
rising [] up = tt
rising (r ∷ rs) up = (up.0, rising rs up.1)

sorted : (rs : List Record) → IsTable rs → IsSorted (on (λ (r : Record). r.key) key_cmp) rs
sorted [] up k d low high = absurd (omega arith)
sorted (r ∷ []) up k d low high = absurd (omega arith)
sorted (r ∷ s ∷ rs) up zero d low high = rw (key_cmp_total.antisymm s.key r.key, up.0.0) refl
sorted (r ∷ s ∷ rs) up (suc k) d low high = let e : suc k + 1 ≡ suc (k + 1) = omega arith in rw e (sorted (s ∷ rs) up.1 k d (omega arith) (omega arith))

-- so the rows are those of one table
same_table : (rows : List Row) (a b : List Record) → AreOf rows a → AreOf rows b → b ≡ a
same_table rows a b p q =
    let ranges = all-permutation HasKey a (map kept p.entries) p.same p.keys in
    let others = all-permutation HasKey b (map kept q.entries) q.same q.keys in
    let entries = same_entries p.entries q.entries ranges others (sym p.are ∙ q.are) in
    let both = IsPermutation-trans _ _ _ p.same (subst (λ (es : List Numbered). IsPermutation (map kept es) b) (sym entries) (IsPermutation-sym _ _ q.same)) in
    sorted_unique (on (λ (r : Record). r.key) key_cmp) by_key a b (rising a p.ascends) both (sorted b q.ascends)

-- ---- one schema

lists_none : (db : Trees) → IsSound results_schema db → IsSound no_schema db → ⊥
lists_none db some none = both (filter is_table_row (db catalog_tree)) some.lists.listed.tables none.lists.listed.tables
  where
    both : (rows : List Row) → AllZip IsTableRow rows results_schema.tables → AllZip IsTableRow rows no_schema.tables → ⊥
    both [] zipped none = zipped
    both (row ∷ rows) zipped none = none

held_same : (db : Trees) (table found : List Record) → IsSound results_schema db → AreOf (db 0) table → HoldsTable db found → found ≡ table
held_same db table found sound rows (inl held) = same_table (db 0) table found rows held.1
held_same db table found sound rows (inr bare) = absurd (lists_none db sound bare.0)

-- ---- the connection

module _ {K E : Type 0} (shown : K → State) (old conn : State) (table : List Record) where
  pub again_on : (r : Result K E) → Keeps old table → (HasCleanDisk conn → IsOpenedWith conn) → (HasCleanDisk conn → conn.committed.trees ≡ old.committed.trees) → (HasCleanDisk conn → IsDatabase old.now)
      → IfOk r (λ k. HasCleanDisk (shown k) → HasCleanDisk conn) → (IsOpenedWith conn → IfOk r (λ k. HasCleanDisk (shown k) → HasFound conn (shown k)))
      → IfOk r (λ k. HasCleanDisk (shown k) → told.IsSound (shown k) × Keeps (shown k) table)
  again_on (Err e) keeps begun same live clean found = tt
  again_on (Ok k) keeps begun same live clean found = λ late.
      let early = clean late in
      let opens = begun early in
      let it = found opens late in
      let trees : conn.now.trees ≡ old.now.trees = ap (λ (d : Database). d.trees) opens.opens.clean ∙ same early ∙ ap (λ (d : Database). d.trees) keeps.committed in
      let sound = subst (λ (s : Schema). IsSound s old.now.trees) keeps.schema (live early) in
      let is = held_same old.now.trees table it.table sound keeps.rows (subst (λ d. HoldsTable d it.table) trees it.held) in
      (it.sound, subst (Keeps (shown k)) is it.keeps)
