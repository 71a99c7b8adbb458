-- What the two selects show of a table's rows.
use Rattle.std.proofs.Common.{◌≡◌, ℕ, zero, suc, ℤ, pos, Bool, true, false, ◌&&◌, List, [], ◌∷◌, map, filter, take, length, Option, Some, None, Result, Ok, Err, IfOk, IfSome, refl, sym, ap, subst, subst₂, ◌∙◌, arith}
use Rattle.std.specs.Cmp.Lexicographic.{slice_cmp}
use Rattle.std.specs.List.{AllByRecursion, list_all}
use Rattle.std.specs.List.Sorted.{IsPermutation}
use Rattle.std.specs.Option.{option_to_list}
use Rattle.std.specs.Ordering.{nat_cmp, is_eq, is_lt, is_gt}
use Rattle.std.specs.declared.cmp.Ordering.TheVariants.{Less, Greater}
use Rattle.std.proofs.lemmas.List.{take-map}
use Rattle.std.proofs.lemmas.List.Sorted.{IsPermutation-trans, IsPermutation-map, length_permutation}
use Rattle.sqlite.proofs.Callers.{reads_as, one_permutation}
use Rattle.sqlite.specs.Order.{Row}
use Rattle.sqlite.specs.Program.{overlay}
use Rattle.sqlite.specs.Query.{IsAnswer, Output, output, output_cmp, page}
use Rattle.sqlite.specs.State.{State, Shown}
use Rattle.sqlite.specs.Term.{Term, holds}
use Rattle.sqlite.specs.Tree.{Trees, IsAscending}
use Rattle.sqlite.specs.declared.error.Error.{Error}
use Rattle.sqlite.specs.declared.types.Value.TheVariants.{Null, Int, Text}
use Rattle.sqlite_keyed.proofs.ListLemmas.{map-map, filter-map, map_same, ascending-map}
use Rattle.sqlite_keyed.proofs.SortLemmas.{sorted_unique}
use Rattle.sqlite_sql.proofs.QueryLemmas.{output_cmp_total}
use Rattle.sqlite_sql.specs.Ops.{binary, is_true, from_truth, test}
use Rattle.sqlite_sql.specs.declared.ops.BinaryOp.TheVariants.{Compare}
use Rattle.sqlite_sql.specs.declared.ops.CompareOp.{CompareOp}
use Rattle.sqlite_sql.specs.declared.ops.CompareOp.TheVariants.{Eq, Gt}
use Rattle.sqlite_trees.proofs.ListLemmas.{filter_same, filter_all, all-filter, ascending-filter, IsPermutation-filter}
use Rattle.sqlite_typed.proofs.AnswerLemmas.{matches_are, last_table, at_end}
use Rattle.sqlite_value.proofs.OrderLemmas.{value_cmp-Text, then-Equal}
use Rattle.sqlite_value.specs.Order.{value_cmp}
use Rattle.sqlite_value.specs.declared.keys.Collation.TheVariants.{Binary}
use Rattle.sqlite_value.specs.declared.keys.Key.{Key}
use Rattle.ps_time.specs.Id.{InRange}
use Rattle.ps_time.specs.Key.{key_cmp}
use Rattle.ps_time.specs.declared.id.Id.TheVariants.{Run}
use Rattle.ps_time.specs.declared.key.RunKey.{RunKey}
use Rattle.ps_time.proofs.IdOrderLemmas.{texts_ordered}
use Rattle.ps_time.proofs.KeyLemmas.{key_cmp_total}
use Rattle.uuid.proofs.TextLemmas.{by_index_length}
use Rattle.result_rows.specs.Keeps.{Keeps}
use Rattle.result_rows.specs.Rows.{key_text, text_above, columns_of, Numbered, number, kept, row_of, HasKey, HasAfter, AreOf}
use Rattle.result_rows.specs.Statement.{get_text, list_text}
use Rattle.result_rows.specs.Table.{results_schema}
use Rattle.result_rows.proofs.TableLemmas.{has, found_alone, turned}
use Rattle.result_rows.proofs.Texts.{query, get_query, list_query, get_command, list_command, get_is, list_is, get_plain, list_plain}
use Rattle.result_table.specs.Record.{find_record, above, first_above, IsTable}
use Rattle.result_table.specs.declared.record.Record.{Record}

-- ---- texts of keys

pub texts : (a b : RunKey) → InRange (Run a) → InRange (Run b) → slice_cmp nat_cmp (key_text a) (key_text b) ≡ key_cmp a b
unfolding key_text
texts a b ra rb = texts_ordered a b ra rb

over_nothing : (t : List ℕ) → length t ≡ 36 → slice_cmp nat_cmp t [] ≡ Greater
over_nothing [] long = absurd (omega (arith, long))
over_nothing (x ∷ xs) long = refl

whole : (key : RunKey) → length (key_text key) ≡ 36
unfolding key_text
whole key = by_index_length 36 _

-- ---- one comparison

told : (b : Bool) → is_true (from_truth (Some b)) ≡ b
told true = refl
told false = refl

pub compared : (op : CompareOp) (a b : List ℕ) → is_true (binary (Compare op Binary) (Text a) (Text b)) ≡ test op (slice_cmp nat_cmp a b)
unfolding binary
compared op a b = told (test op (value_cmp (Text a) (Text b))) ∙ ap (test op) (value_cmp-Text a b)

pub and_true : (b : Bool) → b && true ≡ b
and_true true = refl
and_true false = refl

-- ---- what a query shows before it is put in order

module _ (db : Trees) (table : List Record) (rows : AreOf (db 0) table) (tests shown : List Term) (order : List (Term × Key)) (limit : Term) (params : Row) (found : List Row)
    (a : IsAnswer (query tests shown order limit) (overlay db []) params found) where
  pub kept_are : (p : Numbered → Bool) (out : Numbered → Output) → ((e : Numbered) → list_all (holds (params ∷ row_of e ∷ [])) tests ≡ p e) → ((e : Numbered) → output (query tests shown order limit) (params ∷ row_of e ∷ []) ≡ out e)
      → a.kept ≡ map out (filter p rows.entries)
  kept_are p out passes shows =
      let q = query tests shown order limit in
      let env = λ (e : Numbered). params ∷ row_of e ∷ [] in
      let hits = filter p rows.entries in
      let source = last_table (overlay db []) 0 row_of number rows.entries rows.are rows.numbered (at_end (overlay db [])) in
      let staged : a.staged ≡ map env hits = a.grouped ∙ matches_are q (overlay db []) params source p passes in
      a.distinct ∙ ap (map (output q)) staged ∙ map-map (output q) env hits ∙ map_same _ _ shows hits

  pub arranged : (p : Record → Bool) (out : Record → Output) → ((e : Numbered) → list_all (holds (params ∷ row_of e ∷ [])) tests ≡ p e.1) → ((e : Numbered) → output (query tests shown order limit) (params ∷ row_of e ∷ []) ≡ out e.1)
      → IsPermutation (map out (filter p table)) a.ordered
  arranged p out passes shows =
      let hits = filter (λ (e : Numbered). p e.1) rows.entries in
      let is : a.kept ≡ map out (filter p (map kept rows.entries)) =
      kept_are (λ e. p e.1) (λ e. out e.1) passes shows ∙ sym (map-map out kept hits) ∙ ap (map out) (sym (filter-map p kept rows.entries)) in
      IsPermutation-trans _ _ _ (IsPermutation-map out _ _ (IsPermutation-filter p _ _ rows.same)) (subst (λ k. IsPermutation k a.ordered) is a.same)

-- ---- the record of a key

few : (out : Record → Output) (o : Option Record) (ys : List Output) → IsPermutation (map out (option_to_list o)) ys → ys ≡ map out (option_to_list o)
few out None [] same = refl
few out None (y ∷ ys) same = absurd (omega (arith, length_permutation _ _ same))
few out (Some r) ys same = one_permutation (out r) ys same

has_text : (key : RunKey) → InRange (Run key) → (table : List Record) → AllByRecursion HasKey table → AllByRecursion (λ r. is_eq (slice_cmp nat_cmp (key_text r.key) (key_text key)) ≡ has key r) table
has_text key range [] all = tt
has_text key range (r ∷ rs) all = (ap is_eq (texts r.key key all.0 range), has_text key range rs all.1)

abbrev get_out : Record → Output
get_out r = ([], columns_of r)

pub get_answer : (db : Trees) (table : List Record) (rows : AreOf (db 0) table) (key : RunKey) → InRange (Run key) → (found : List Row) → IsAnswer get_query (overlay db []) (Text (key_text key) ∷ []) found
    → found ≡ map columns_of (option_to_list (find_record table key))
get_answer db table rows key range found a =
    let p = λ (r : Record). is_eq (slice_cmp nat_cmp (key_text r.key) (key_text key)) in
    let same = arranged db table rows _ _ _ _ (Text (key_text key) ∷ []) found a p get_out (λ e. and_true _ ∙ compared Eq (key_text e.1.key) (key_text key)) (λ e. refl) in
    let alone : filter p table ≡ option_to_list (find_record table key) = filter_same p (has key) table (has_text key range table rows.keys) ∙ found_alone table key rows.ascends in
    let ordered = few get_out (find_record table key) a.ordered (subst (λ l. IsPermutation (map get_out l) a.ordered) alone same) in
    a.shown ∙ ap (λ l. page get_query (Text (key_text key) ∷ []) (map (λ (o : Output). o.1) l)) ordered ∙ map-map (λ (o : Output). o.1) get_out (option_to_list (find_record table key))

pub gets : (old new : State) (table : List Record) (key : RunKey) → InRange (Run key) → Keeps old table → (found : List Row) → Shown get_text (Text (key_text key) ∷ []) old new found
    → found ≡ map columns_of (option_to_list (find_record table key))
gets old new table key range keeps found shown =
    let read = reads_as get_text (Text (key_text key) ∷ []) old new results_schema keeps.schema get_command get_is.0 get_plain get_is.1 found shown in
    get_answer old.now.trees table keeps.rows key range found (read.answer Null)

-- ---- the records above a key

abbrev passed : Option RunKey → Record → Bool
passed None r = true
passed (Some key) r = is_lt (key_cmp key r.key)

above_text : (after : Option RunKey) → HasAfter after → (table : List Record) → AllByRecursion HasKey table → AllByRecursion (λ r. is_gt (slice_cmp nat_cmp (key_text r.key) (text_above after)) ≡ passed after r) table
above_text after range [] all = tt
above_text None range (r ∷ rs) all = (ap is_gt (over_nothing (key_text r.key) (whole r.key)), above_text None range rs all.1)
above_text (Some key) range (r ∷ rs) all =
    (ap is_gt (texts r.key key all.0 range) ∙ ap is_gt (key_cmp_total.antisymm r.key key) ∙ turned (key_cmp key r.key), above_text (Some key) range rs all.1)

all_pass : (table : List Record) → AllByRecursion (λ r. passed None r ≡ true) table
all_pass [] = tt
all_pass (r ∷ rs) = (refl, all_pass rs)

above_is : (after : Option RunKey) (table : List Record) → filter (passed after) table ≡ above after table
above_is None table = filter_all (passed None) table (all_pass table)
above_is (Some key) table = refl

abbrev list_out : Record → Output
list_out r = (Text (key_text r.key) ∷ [], columns_of r)

below : (a b : Record) → HasKey a → HasKey b → key_cmp a.key b.key ≡ Less → output_cmp list_query (list_out a) (list_out b) ≡ Less
below a b ra rb less = then-Equal (value_cmp (Text (key_text a.key)) (Text (key_text b.key))) ∙ value_cmp-Text (key_text a.key) (key_text b.key) ∙ texts a.key b.key ra rb ∙ less

below_all : (r : Record) (rs : List Record) → HasKey r → AllByRecursion HasKey rs → AllByRecursion (λ x. key_cmp r.key x.key ≡ Less) rs → AllByRecursion (λ x. output_cmp list_query (list_out r) (list_out x) ≡ Less) rs
below_all r [] range all less = tt
below_all r (x ∷ xs) range all less = (below r x range all.0 less.0, below_all r xs range all.1 less.1)

rises : (rs : List Record) → AllByRecursion HasKey rs → IsTable rs → IsAscending (λ a b. output_cmp list_query (list_out a) (list_out b) ≡ Less) rs
rises [] all up = tt
rises (r ∷ rs) all up = (below_all r rs all.0 all.1 up.0, rises rs all.1 up.1)

pub list_answer : (db : Trees) (table : List Record) (rows : AreOf (db 0) table) (after : Option RunKey) → HasAfter after → (count : ℕ) (found : List Row)
    → IsAnswer list_query (overlay db []) (Text (text_above after) ∷ Int (pos count) ∷ []) found
    → found ≡ map columns_of (first_above table after count)
list_answer db table rows after range count found a =
    let params = Text (text_above after) ∷ Int (pos count) ∷ [] in
    let p = λ (r : Record). is_gt (slice_cmp nat_cmp (key_text r.key) (text_above after)) in
    let same = arranged db table rows _ _ _ _ params found a p list_out (λ e. and_true _ ∙ compared Gt (key_text e.1.key) (text_above after)) (λ e. refl) in
    let up = ascending-map (λ x y. output_cmp list_query x y ≡ Less) list_out (filter p table) (ascending-filter (λ a b. output_cmp list_query (list_out a) (list_out b) ≡ Less) p table (rises table rows.keys rows.ascends)) in
    let ordered = sorted_unique (output_cmp list_query) (output_cmp_total list_query) (map list_out (filter p table)) a.ordered up same a.sorted in
    let over : filter p table ≡ above after table = filter_same p (passed after) table (above_text after range table rows.keys) ∙ above_is after table in
    a.shown ∙ ap (λ l. page list_query params (map (λ (o : Output). o.1) l)) ordered
    ∙ ap (take count) (map-map (λ (o : Output). o.1) list_out (filter p table) ∙ ap (map columns_of) over)
    ∙ take-map columns_of count (above after table)

pub lists : (old new : State) (table : List Record) (after : Option RunKey) → HasAfter after → Keeps old table → (count : ℕ) (found : List Row) → Shown list_text (Text (text_above after) ∷ Int (pos count) ∷ []) old new found
    → found ≡ map columns_of (first_above table after count)
lists old new table after range keeps count found shown =
    let read = reads_as list_text (Text (text_above after) ∷ Int (pos count) ∷ []) old new results_schema keeps.schema list_command list_is.0 list_plain list_is.1 found shown in
    list_answer old.now.trees table keeps.rows after range count found (read.answer Null)

module _ {X : Type 0} (items : X → List Row) (old new : State) (table : List Record) where
  pub gets_on : (r : Result X Error) (key : RunKey) (id : List ℕ) → InRange (Run key) → id ≡ key_text key → Keeps old table → IfOk r (λ v. Shown get_text (Text id ∷ []) old new (items v))
      → IfOk r (λ v. items v ≡ map columns_of (option_to_list (find_record table key)))
  gets_on (Ok v) key id range is keeps shown = gets old new table key range keeps (items v) (subst (λ t. Shown get_text (Text t ∷ []) old new (items v)) is shown)
  gets_on (Err e) key id range is keeps shown = tt

  pub lists_on : (r : Result X Error) (after : Option RunKey) (text : List ℕ) (n : ℕ) (count : ℤ) → HasAfter after → text ≡ text_above after → count ≡ pos n → Keeps old table
      → IfOk r (λ v. Shown list_text (Text text ∷ Int count ∷ []) old new (items v)) → IfOk r (λ v. items v ≡ map columns_of (first_above table after n))
  lists_on (Ok v) after text n count range is same keeps shown =
      lists old new table after range keeps n (items v) (subst₂ (λ t c. Shown list_text (Text t ∷ Int c ∷ []) old new (items v)) is same shown)
  lists_on (Err e) after text n count range is same keeps shown = tt

-- ---- keys whose fields have their widths

taken_keys : (n : ℕ) (rs : List Record) → AllByRecursion HasKey rs → AllByRecursion HasKey (take n rs)
taken_keys zero rs all = tt
taken_keys (suc n) [] all = tt
taken_keys (suc n) (r ∷ rs) all = (all.0, taken_keys n rs all.1)

above_keys : (after : Option RunKey) (table : List Record) → AllByRecursion HasKey table → AllByRecursion HasKey (above after table)
above_keys None table all = all
above_keys (Some key) table all = all-filter HasKey (λ r. is_lt (key_cmp key r.key)) table all

pub first_keys : (table : List Record) (after : Option RunKey) (n : ℕ) → AllByRecursion HasKey table → AllByRecursion HasKey (first_above table after n)
first_keys table after n all = taken_keys n (above after table) (above_keys after table all)

only_key : (o : Option Record) → AllByRecursion HasKey (option_to_list o) → IfSome o HasKey
only_key None all = tt
only_key (Some r) all = all.0

pub found_key : (table : List Record) (key : RunKey) → IsTable table → AllByRecursion HasKey table → IfSome (find_record table key) HasKey
found_key table key up all = only_key (find_record table key) (subst (AllByRecursion HasKey) (found_alone table key up) (all-filter HasKey (has key) table all))
