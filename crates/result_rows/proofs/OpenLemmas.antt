-- The table of a database that was just opened.
use Rattle.std.proofs.Common.{◌≡◌, ◌≤◌, ◌<◌, ℕ, ℤ, ◌<ℤ◌, Bool, true, false, not, ◌&&◌, List, [], ◌∷◌, map, flat_map, length, get_or, codes, drop, None, refl, sym, ap, ap₂, subst, ◌∙◌, arith, int_cmp, int_eq, IsTrue, Less}
use Rattle.std.specs.Cmp.Lexicographic.{slice_cmp}
use Rattle.std.specs.Fmt.{digits}
use Rattle.std.specs.List.{AllByRecursion, list_any}
use Rattle.std.specs.List.Sorted.{IsPermutation}
use Rattle.std.specs.Ordering.{nat_cmp, is_eq}
use Rattle.std.proofs.lemmas.Bool.{and_parts}
use Rattle.std.proofs.lemmas.Int.{ints}
use Rattle.std.proofs.lemmas.List.Sorted.{IsPermutation-refl, IsPermutation-cons, IsPermutation-sym, IsPermutation-trans, list_any-IsPermutation}
use Rattle.sqlite.proofs.Callers.{reads_as}
use Rattle.sqlite.specs.Effect.{Database}
use Rattle.sqlite.specs.Kind.TheVariants as kind
use Rattle.sqlite.specs.Order.{Row}
use Rattle.sqlite.specs.Program.{overlay}
use Rattle.sqlite.specs.Query.{IsAnswer, Output, output}
use Rattle.sqlite.specs.Schema.{Schema}
use Rattle.sqlite.specs.State.{State, Opens, IsUnchanged, Shown}
use Rattle.sqlite.specs.Tree.{Trees, IsAscending, IsTable as Rises, rowid}
use Rattle.sqlite.specs.declared.types.Value.{Value}
use Rattle.sqlite.specs.declared.types.Value.TheVariants.{Null, Int, Real, Text, Blob}
use Rattle.sqlite_catalog.specs.Listing.{IsSound}
use Rattle.sqlite_keyed.specs.Keyed.{IsKeyedBy}
use Rattle.sqlite_keyed.proofs.ListLemmas.{map-map, all_map, all_unmap, all_weaker, none_from_any, any_from_none}
use Rattle.sqlite_schema.specs.Rules.{passes, are_typed, suits, agree}
use Rattle.sqlite_schema.specs.declared.schema.Constraint.TheVariants.{Datatype, Unique}
use Rattle.sqlite_sql.specs.declared.ops.CompareOp.TheVariants.{Eq}
use Rattle.sqlite_tied.proofs.RuleLemmas.{clash_is}
use Rattle.sqlite_trees.proofs.ListLemmas.{all-permutation}
use Rattle.sqlite_trees.specs.View.{is_int, IsShaped}
use Rattle.sqlite_trees.specs.declared.store.Shape.TheVariants.{Table}
use Rattle.sqlite_value.proofs.OrderLemmas.{value_cmp-Int}
use Rattle.sqlite_value.specs.Keys.{plain, first_key}
use Rattle.sqlite_value.specs.Order.{value_cmp}
use Rattle.ps_time.specs.Key.{key_cmp}
use Rattle.ps_time.proofs.KeyLemmas.{key_cmp_total}
use Rattle.result_rows.specs.Keeps.{Keeps}
use Rattle.result_rows.specs.Rows.{key_text, Numbered, number, kept, row_of, HasKey, AreOf, IsRowOf, IsRecord, columns_in}
use Rattle.result_rows.specs.Statement.{all_text}
use Rattle.result_rows.specs.Table.{field, results, results_index, results_schema}
use Rattle.result_rows.proofs.SelectLemmas.{texts, compared, and_true}
use Rattle.result_rows.proofs.TableLemmas.{key_of, has, put_new}
use Rattle.result_rows.proofs.Texts.{all_query, all_command, all_is, all_plain}
use Rattle.result_table.specs.Record.{IsTable}
use Rattle.result_table.specs.Upsert.{upsert}
use Rattle.result_table.specs.declared.record.Record.{Record}
use Rattle.result_table.proofs.UpsertLemmas.{ascending-upsert}

-- ---- the schema

-- one key alone
pub one_key : (keys : List (List ℕ)) (key : List ℕ) → 1 ≤ length keys → length keys < 2 → key ≡ get_or keys 0 key → key ≡ 1 ∷ [] → keys ≡ (1 ∷ []) ∷ []
one_key [] key some few first is = absurd (omega arith)
one_key (k ∷ []) key some few first is = ap (λ x. x ∷ []) (sym first ∙ is)
one_key (k ∷ l ∷ keys) key some few first is = absurd (omega arith)

-- the one table, and the one index that its key wants
pub is_schema : (schema : Schema) → schema.tables ≡ results ∷ [] → schema.indexes ≡ results_index ∷ [] → schema.views ≡ [] → schema ≡ results_schema
unfolding digits
is_schema schema tables indexes views = λ i. record { tables = tables i; indexes = indexes i; views = views i }

-- ---- what the select of all rows shows

each_alone : (rows : List Row) → flat_map (λ r. ([] ∷ r ∷ []) ∷ []) rows ≡ map (λ r. [] ∷ r ∷ []) rows
each_alone [] = refl
each_alone (r ∷ rows) = ap (λ l. ([] ∷ r ∷ []) ∷ l) (each_alone rows)

abbrev out : Row → Output
out row = ([], columns_in row)

-- what holds of the columns that it shows holds of those of each row
answered : (P : Row → Type 0) (db : Trees) (found : List Row) → IsAnswer all_query (overlay db []) [] found → AllByRecursion P found → AllByRecursion (λ row. P (columns_in row)) (db 0)
answered P db found a all =
    let kept : a.kept ≡ map out (db 0) = a.distinct ∙ ap (map (output all_query)) (a.grouped ∙ each_alone (db 0)) ∙ map-map (output all_query) (λ r. [] ∷ r ∷ []) (db 0) in
    let ordered = all_unmap P (λ (o : Output). o.1) a.ordered (subst (AllByRecursion P) a.shown all) in
    let each = all-permutation (λ (o : Output). P o.1) a.ordered a.kept (IsPermutation-sym _ _ a.same) ordered in
    all_unmap (λ (o : Output). P o.1) out (db 0) (subst (AllByRecursion (λ (o : Output). P o.1)) kept each)

pub all_shown : (P : Row → Type 0) (old new : State) (found : List Row) → old.now.schema ≡ results_schema → Shown all_text [] old new found → AllByRecursion P found
    → AllByRecursion (λ row. P (columns_in row)) (old.now.trees 0)
all_shown P old new found has shown all =
    let read = reads_as all_text [] old new results_schema has all_command all_is.0 all_plain all_is.1 found shown in
    answered P old.now.trees found (read.answer Null) all

-- ---- a row that the table admits, and whose columns are those of a record

int_in : (v : Value) → IsTrue (is_int v) → (n : ℤ) × (v ≡ Int n)
int_in Null is = absurd (let e : false ≡ true = is in cc)
int_in (Int n) is = (n, refl)
int_in (Real x) is = absurd (let e : false ≡ true = is in cc)
int_in (Text t) is = absurd (let e : false ≡ true = is in cc)
int_in (Blob b) is = absurd (let e : false ≡ true = is in cc)

too_long : (a b c d e : Bool) → a && (b && (c && (d && (e && false)))) ≡ true → ⊥
too_long a b c d e is =
    let rest = (and_parts d _ (and_parts c _ (and_parts b _ (and_parts a _ is).1).1).1).1 in
    let none = (and_parts e false rest).1 in cc

whole_row : (row : Row) (r : Record) → IsTrue (is_int (rowid row)) → are_typed None 0 results.columns (drop 1 row) ≡ true → IsRowOf (columns_in row) r → (e : Numbered) × (row ≡ row_of e) × (e.1 ≡ r)
whole_row [] r int typed is = absurd (let e : false ≡ true = int in cc)
whole_row (v ∷ []) r int typed is = absurd (let e = is.key in cc)
whole_row (v ∷ a ∷ []) r int typed is = absurd (let e = is.since in cc)
whole_row (v ∷ a ∷ b ∷ []) r int typed is = absurd (let e = is.latest in cc)
whole_row (v ∷ a ∷ b ∷ c ∷ []) r int typed is = absurd (let e = is.good in cc)
whole_row (v ∷ a ∷ b ∷ c ∷ d ∷ []) r int typed is = absurd (let e = is.body in cc)
whole_row (v ∷ a ∷ b ∷ c ∷ d ∷ e ∷ []) r int typed is =
    let id = int_in v int in ((id.0, r), (λ i. id.1 i ∷ is.key i ∷ is.since i ∷ is.latest i ∷ is.good i ∷ is.body i ∷ []), refl)
whole_row (v ∷ a ∷ b ∷ c ∷ d ∷ e ∷ f ∷ more) r int typed is = absurd (
    let number = λ (name : List ℕ) (x : Value). suits (field name kind.Integer) x in
    too_long (suits (field (codes "id") kind.Text) a) (number (codes "since") b) (number (codes "latest") c) (number (codes "good") d) (suits (field (codes "body") kind.Text) e) typed)

-- so the rows are those of entries
record Entries (rows : List Row) : Type 0 where
  entries : List Numbered
  are : rows ≡ map row_of entries
  keys : AllByRecursion HasKey (map kept entries)

entries_in : (rows : List Row) → AllByRecursion (λ r. IsTrue (is_int (rowid r))) rows → AllByRecursion (λ row. are_typed None 0 results.columns (drop 1 row) ≡ true) rows
    → AllByRecursion (λ row. IsRecord (columns_in row)) rows → Entries rows
entries_in [] ints typed records = record { entries = []; are = refl; keys = tt }
entries_in (row ∷ rows) ints typed records =
    let is = records.0 in
    let first = whole_row row is.0 ints.0 typed.0 is.1 in
    let more = entries_in rows ints.1 typed.1 records.1 in
    record {
      entries = first.0 ∷ more.entries;
      are = ap₂ ◌∷◌ first.1 more.are;
      keys = (subst HasKey (sym first.2) is.1.range, more.keys);
    }

-- ---- the numbers rise, and no two have one key

over : (a b : ℤ) → int_cmp a b ≡ Less → a <ℤ b
over a b less = grind (arith, ints)

keyed : (entries : List Numbered) → Rises (map row_of entries) → IsKeyedBy number entries
keyed [] up = tt
keyed (x ∷ xs) up = (later_ones xs up.0, keyed xs up.1)
  where
    later_ones : (ys : List Numbered) → AllByRecursion (λ row. value_cmp (Int x.0) (rowid row) ≡ Less) (map row_of ys) → AllByRecursion (λ y. number x <ℤ number y) ys
    later_ones [] all = tt
    later_ones (y ∷ ys) all = (over x.0 y.0 (sym (value_cmp-Int x.0 y.0) ∙ all.0), later_ones ys all.1)

abbrev same_text : Numbered → Numbered → Bool
same_text a b = is_eq (slice_cmp nat_cmp (key_text a.1.key) (key_text b.1.key))

agrees : (a b : Numbered) → agree plain (1 ∷ []) (row_of a) (1 ∷ []) (row_of b) ≡ same_text a b
unfolding first_key
agrees a b = and_true _ ∙ compared Eq (key_text a.1.key) (key_text b.1.key)

abbrev clash : Numbered → Numbered → Bool
clash e x = not (int_eq (number x) (number e)) && same_text x e

back : (b : Bool) → not b ≡ true → b ≡ false
back true is = absurd cc
back false is = refl

no_clash : (db : Trees) (entries : List Numbered) → db 0 ≡ map row_of entries → AllByRecursion (λ row. passes Unique results_schema db results row ≡ true) (db 0) → AllByRecursion (λ e. AllByRecursion (λ x. clash e x ≡ false) entries) entries
no_clash db entries are all =
    all_weaker (λ e. passes Unique results_schema db results (row_of e) ≡ true) _
    (λ e passed. none_from_any (clash e) entries (back (list_any (clash e) entries) (sym (clash_is db 0 row_of number entries are (λ x. refl) (1 ∷ []) same_text agrees e) ∙ (sym (and_true _) ∙ passed))))
    entries (all_unmap (λ row. passes Unique results_schema db results row ≡ true) row_of entries (subst (AllByRecursion (λ row. passes Unique results_schema db results row ≡ true)) are all))

apart : (entries : List Numbered) → IsKeyedBy number entries → AllByRecursion HasKey (map kept entries) → AllByRecursion (λ e. AllByRecursion (λ x. clash e x ≡ false) entries) entries
    → IsAscending (λ a b. has a.1.key b.1 ≡ false) entries
apart [] up keys none = tt
apart (x ∷ xs) up keys none =
    (others xs up.0 keys.1 none.0.1, apart xs up.1 keys.1 (all_weaker (λ e. AllByRecursion (λ y. clash e y ≡ false) (x ∷ xs)) (λ e. AllByRecursion (λ y. clash e y ≡ false) xs) (λ e all. all.1) xs none.1))
  where
    others : (ys : List Numbered) → AllByRecursion (λ y. number x <ℤ number y) ys → AllByRecursion HasKey (map kept ys) → AllByRecursion (λ y. clash x y ≡ false) ys → AllByRecursion (λ y. has x.1.key y.1 ≡ false) ys
    others [] up keys none = tt
    others (y ∷ ys) below known none =
        let low = below.0 in
        let unlike : int_eq (number y) (number x) ≡ false = grind (arith, ints) in
        let differ : same_text y x ≡ false = rw unlike at none.0 in
        (ap is_eq (sym (texts y.1.key x.1.key known.0 keys.0)) ∙ differ, others ys below.1 known.1 none.1)

-- ---- the table of entries that no two have one key

record Built (rs : List Record) : Type 0 where
  table : List Record
  same : IsPermutation table rs
  ascends : IsTable table
  keys : AllByRecursion HasKey table

built : (entries : List Numbered) → IsAscending (λ a b. has a.1.key b.1 ≡ false) entries → AllByRecursion HasKey (map kept entries) → Built (map kept entries)
built [] apart keys = record { table = []; same = IsPermutation-refl []; ascends = tt; keys = tt }
built (e ∷ entries) apart keys =
    let r = e.1 in
    let more = built entries apart.1 keys.1 in
    let none : list_any (has r.key) more.table ≡ false = list_any-IsPermutation (has r.key) more.table (map kept entries) more.same ∙ any_from_none (has r.key) (map kept entries) (all_map (λ x. has r.key x ≡ false) kept entries apart.0) in
    let comes = put_new more.table r.key r (λ x. x) none in
    record {
      table = upsert key_cmp key_of r.key r (λ x. x) more.table;
      same = IsPermutation-trans _ _ _ (IsPermutation-sym _ _ comes) (IsPermutation-cons r _ _ more.same);
      ascends = ascending-upsert key_cmp_total key_of r.key r (λ x. x) refl (λ x. refl) more.table more.ascends;
      keys = all-permutation HasKey (r ∷ more.table) _ comes (keys.0, more.keys);
    }

-- rows that rise by their numbers, and are records, are those of a table
pub has_table : (db : Trees) → IsSound results_schema db → IsShaped Table (db 0) → AllByRecursion (λ row. IsRecord (columns_in row)) (db 0) → (table : List Record) × AreOf (db 0) table
has_table db sound shaped records =
    let typed = all_weaker (λ row. passes Datatype results_schema db results row ≡ true) (λ row. are_typed None 0 results.columns (drop 1 row) ≡ true) (λ row h. (and_parts _ _ h).0) (db 0) (sound.obeys.rules Datatype).0 in
    let it = entries_in (db 0) shaped.1 typed records in
    let up = keyed it.entries (subst Rises it.are shaped.0) in
    let made = built it.entries (apart it.entries up it.keys (no_clash db it.entries it.are (sound.obeys.rules Unique).0)) it.keys in
    (made.table, record { entries = it.entries; are = it.are; numbered = up; same = made.same; ascends = made.ascends; keys = made.keys })

-- ---- the connection

pub opened : (old new : State) (table : List Record) → Opens old → old.now.schema ≡ results_schema → AreOf (old.now.trees 0) table → IsUnchanged old new → Keeps new table
opened old new table opens has rows same = record {
  schema = ap (λ (d : Database). d.schema) same.0.now_is ∙ has;
  rows = subst (λ (d : Database). AreOf (d.trees 0) table) (sym same.0.now_is) rows;
  committed = same.0.committed_is ∙ sym opens.clean ∙ sym same.0.now_is;
  autocommit = same.0.mode ∙ opens.autocommit;
  unmarked = same.2 ∙ opens.unmarked;
}
