-- What the upsert makes of a table's rows.
use Rattle.std.proofs.Common.{◌≡◌, ◌≤◌, inl, inr, ℕ, ℤ, pos, Bool, true, false, ◌&&◌, ◌||◌, cond, List, [], ◌∷◌, ◌++◌, map, filter, length, Some, None, Option, Result, Ok, Err, OnOk, refl, sym, ap, subst, subst₂, ◌∙◌, arith, int_eq}
use Rattle.std.specs.Cmp.Lexicographic.{slice_cmp}
use Rattle.std.specs.List.{AllByRecursion, list_any}
use Rattle.std.specs.List.Sorted.{IsPermutation}
use Rattle.std.specs.Option.{option_to_list}
use Rattle.std.specs.Ordering.{nat_cmp, is_eq}
use Rattle.std.proofs.lemmas.Bool.{cases_Bool}
use Rattle.std.proofs.lemmas.Int.{ints}
use Rattle.std.proofs.lemmas.List.{map-append, length-map}
use Rattle.std.proofs.lemmas.List.Sorted.{IsPermutation-trans, IsPermutation-sym, IsPermutation-map, IsPermutation-cons, IsPermutation-append_comm, length_permutation, list_any-IsPermutation}
use Rattle.sqlite.proofs.Callers.{runs_as, one_step, one_permutation, statement_of}
use Rattle.sqlite.specs.Cast.{cast, cast_row}
use Rattle.sqlite.specs.Does.{Tally, Does}
use Rattle.sqlite.specs.Edit.{edit_of, edited, next_rowid, with_rowid}
use Rattle.sqlite.specs.Effect.{Database}
use Rattle.sqlite.specs.Kind.TheVariants.{Integer}
use Rattle.sqlite.specs.Listing.{understood}
use Rattle.sqlite.specs.Order.{Row}
use Rattle.sqlite.specs.Program.{overlay}
use Rattle.sqlite.specs.Query.{IsAnswer, Output, page}
use Rattle.sqlite.specs.Rows.{Task, Written, Then, Gives, Edited, Tries, Judged, Upserts, Meets, Clears, Puts, Updates, InsertsOr, TriesEach, nothing, count_of, shown}
use Rattle.sqlite.specs.Source.TheVariants.{Values}
use Rattle.sqlite.specs.State.{State, mode_of, Executes}
use Rattle.sqlite.specs.Tree.{Trees, rowid, put_row, without_rowid}
use Rattle.sqlite.specs.declared.error.Error.{Error}
use Rattle.sqlite.specs.declared.types.Value.TheVariants.{Null, Int, Text}
use Rattle.sqlite_keyed.specs.Keyed.{IsKeyedBy, insert_by, next_key}
use Rattle.sqlite_keyed.specs.Lists.{without_key}
use Rattle.sqlite_keyed.proofs.KeyedLemmas.{IsKeyedBy-insert_by, IsKeyedBy-delete_where}
use Rattle.sqlite_keyed.proofs.ListLemmas.{map-map, filter-map}
use Rattle.sqlite_keyed.proofs.SliceLemmas.{insert_next}
use Rattle.sqlite_rules.specs.Calls.{ids_of}
use Rattle.sqlite_rules.specs.Keys.{conflicts, AreConflicts}
use Rattle.sqlite_rules.specs.Lists.{Has}
use Rattle.sqlite_rules.proofs.ListLemmas.{all_from, all_has, has_kept, some_has, some_from}
use Rattle.sqlite_rules.specs.declared.error.Refusal.{Refusal}
use Rattle.sqlite_rules.specs.declared.error.Rowids.TheVariants.{Chosen, Given}
use Rattle.sqlite_schema.specs.declared.command.Conflict.TheVariants.{Abort}
use Rattle.sqlite_schema.specs.declared.command.Upsert.{Upsert}
use Rattle.sqlite_schema.specs.declared.schema.Keys.TheVariants.{Enforced}
use Rattle.sqlite_sql.specs.Ops.{unary}
use Rattle.sqlite_sql.specs.declared.ops.CompareOp.TheVariants.{Eq}
use Rattle.sqlite_trees.proofs.ListLemmas.{all-permutation, all-map, IsPermutation-filter}
use Rattle.sqlite_typed.proofs.RowLemmas.{puts-map, deletes-map}
use Rattle.sqlite_typed.proofs.TestLemmas.{at_ints}
use Rattle.sqlite_value.specs.Keys.{first_key}
use Rattle.ps_time.specs.Id.{InRange}
use Rattle.ps_time.specs.declared.id.Id.TheVariants.{Run}
use Rattle.ps_time.specs.declared.key.RunKey.{RunKey}
use Rattle.result_rows.specs.Keeps.{Keeps}
use Rattle.result_rows.specs.Rows.{number_of, key_text, columns_of, Numbered, number, kept, row_of, HasKey, AreOf}
use Rattle.result_rows.specs.Statement.{put_text}
use Rattle.result_rows.specs.Table.{results, results_schema}
use Rattle.result_rows.proofs.EntryLemmas.{change_at, put_over, same_number, next_is, entry_has, row_has, only_one, kept_has, has_record, alone, map_alike}
use Rattle.result_rows.proofs.SelectLemmas.{texts, compared, and_true, kept_are}
use Rattle.result_rows.proofs.StateLemmas.{went, same_value}
use Rattle.result_rows.proofs.TableLemmas.{has, change_if, found_alone, put_new, put_there}
use Rattle.result_rows.proofs.Texts.{program, new_row, clause, put_command, update_query, put_is, put_plain}
use Rattle.result_table.specs.Record.{first_record, renewed, put_record, find_record, says_good}
use Rattle.result_table.specs.declared.record.Record.{Record}
use Rattle.result_table.proofs.RecordLemmas.{table_put}

-- ---- what the columns make of the values

either : {X : Type 0} (b : Bool) (x : X) → cond b x x ≡ x
either true x = refl
either false x = refl

cast_null : cast Integer Null ≡ Null
unfolding unary
cast_null = either _ Null

cast_int : (n : ℤ) → cast Integer (Int n) ≡ Int n
unfolding unary
cast_int n = either _ (Int n)

cast_new : (a b : List ℕ) (s l g : ℤ) → cast_row results (Null ∷ Text a ∷ Int s ∷ Int l ∷ Int g ∷ Text b ∷ []) ≡ Null ∷ Text a ∷ Int s ∷ Int l ∷ Int g ∷ Text b ∷ []
cast_new a b s l g = λ i. cast_null i ∷ Text a ∷ cast_int s i ∷ cast_int l i ∷ cast_int g i ∷ Text b ∷ []

cast_old : (n : ℤ) (a b : List ℕ) (s l g : ℤ) → cast_row results (Int n ∷ Text a ∷ Int s ∷ Int l ∷ Int g ∷ Text b ∷ []) ≡ Int n ∷ Text a ∷ Int s ∷ Int l ∷ Int g ∷ Text b ∷ []
cast_old n a b s l g = λ i. cast_int n i ∷ Text a ∷ cast_int s i ∷ cast_int l i ∷ cast_int g i ∷ Text b ∷ []

equal_int : (n : ℤ) → int_eq n n ≡ true
equal_int n = grind (arith, ints)

at_most_one : {X : Type 0} (o : Option X) → length (option_to_list o) ≤ 1
at_most_one None = omega arith
at_most_one (Some x) = omega arith

changes_alike : (key : RunKey) (f : Record → Record) (id : ℤ) (x : Numbered) → has key x.1 ≡ int_eq (number x) id → change_if key f (kept x) ≡ kept (change_at id f x)
changes_alike key f id x same = ap (λ b. cond b (f x.1) x.1) same ∙ elim (int_eq (number x) id) as (λ b. cond b (f x.1) x.1 ≡ kept (cond b (x.0, f x.1) x)) [ true ↦ refl | false ↦ refl ]

keys_kept : (key : RunKey) (f : Record → Record) → ((r : Record) → HasKey r → HasKey (f r)) → (table : List Record) → AllByRecursion HasKey table → AllByRecursion (λ r. HasKey (change_if key f r)) table
keys_kept key f keeps [] all = tt
keys_kept key f keeps (r ∷ rs) all = (elim (has key r) as (λ b. HasKey (cond b (f r) r)) [ true ↦ keeps r all.0 | false ↦ all.0 ], keys_kept key f keeps rs all.1)

-- ---- the parts of the statement

abbrev put_params : RunKey → ℕ → Bool → List ℕ → Row
put_params key moment good body = Text (key_text key) ∷ Int (pos moment) ∷ Int (pos (number_of good)) ∷ Text body ∷ []

abbrev task : Option ℕ → Row → Task
task limit params = record { limit = limit; keys = Enforced; schema = results_schema; table = results; params = params }

-- both rows have one `id`
conflict_is : (e x : Numbered) → conflicts (Some (1 ∷ [])) results_schema.indexes results (row_of e) (row_of x) ≡ is_eq (slice_cmp nat_cmp (key_text x.1.key) (key_text e.1.key))
unfolding first_key
conflict_is e x = whole _ ∙ compared Eq (key_text x.1.key) (key_text e.1.key)
  where
    whole : (b : Bool) → (b && true) || false ≡ b
    whole true = refl
    whole false = refl

judged : (t : Task) (clauses : List Upsert) (new : Row) (db : Trees) (one : Written) (verdict : Option Refusal) → Judged t Abort clauses new db verdict (Ok one) → Upserts t Abort new db clauses (Ok one)
judged t clauses new db one None h = h
judged t clauses new db one (Some why) h = absurd (let e = h in cc)

tried : (t : Task) (clauses : List Upsert) (new : Row) (db : Trees) (one : Written) → Tries t Abort clauses new db (Ok one) → Upserts t Abort new db clauses (Ok one)
tried t clauses new db one (inl isnt_so) = absurd (let e = isnt_so.1 in cc)
tried t clauses new db one (inr is_so) = judged t clauses new db one is_so.0 is_so.2

module _ (limit : Option ℕ) (db : Trees) (key : RunKey) (moment : ℕ) (body : List ℕ) where
  abbrev fresh : Record
  fresh = first_record key moment body

  abbrev params : Row
  params = put_params key moment fresh.good body

  abbrev here : Task
  here = task limit params

  inserted : (w : Written) → InsertsOr here Abort (clause ∷ []) (Values new_row 6) db (Ok w)
      → (one : Written) × Upserts here Abort (row_of (next_rowid (db 0), fresh)) db (clause ∷ []) (Ok one) × (w.trees ≡ one.trees)
  inserted w h =
      let given = went h in
      let counter = went given.2 in
      let each = went counter.2 in
      let counted = went each.2 in
      let one = went (subst (λ rs. TriesEach here Abort (clause ∷ []) rs (count_of counter.0) (nothing db) (Ok each.0)) given.1.1 each.1) in
      let at_moment = pos moment in
      let flag = pos (number_of fresh.good) in
      let is : with_rowid Chosen (db 0) (cast_row results (Null ∷ Text (key_text key) ∷ Int at_moment ∷ Int at_moment ∷ Int flag ∷ Text body ∷ [])) ≡ row_of (next_rowid (db 0), fresh) =
      ap (with_rowid Chosen (db 0)) (cast_new (key_text key) body at_moment at_moment flag) in
      let tries : Tries here Abort (clause ∷ []) (row_of (next_rowid (db 0), fresh)) db (Ok one.0) = subst (λ r. Tries here Abort (clause ∷ []) r db (Ok one.0)) is one.1 in
      let trees : w.trees ≡ one.0.trees =
      ap (λ (it : Written). it.trees) (same_value counted.2) ∙ same_value counted.1 ∙ ap (λ (it : Written × ℤ). it.0.trees) (same_value one.2) in
      (one.0, tried here (clause ∷ []) _ db one.0 tries, trees)

  -- a row that is put in
  added : (entries : List Numbered) (e : Numbered) (one : Written) → db 0 ≡ map row_of entries → Puts here (row_of e) db (Ok one) → one.trees 0 ≡ map row_of (insert_by number entries e)
  added entries e one are h =
      let parts = went h in
      let edit = edit_of db results [] Given 0 (row_of e ∷ []) in
      let rows = (one_step results_schema Enforced db parts.0 edit refl parts.1).rows in
      let is : edited db edit ≡ put_row (row_of e) (db 0) = ap (λ r. put_row r (db 0)) (cast_old e.0 (key_text e.1.key) e.1.body (pos e.1.since) (pos e.1.latest) (pos (number_of e.1.good))) in
      ap (λ (it : Written). it.trees 0) (same_value parts.2) ∙ rows ∙ is ∙ ap (put_row (row_of e)) are ∙ puts-map number row_of (λ x. refl) (e ∷ []) entries

  -- a row that is changed in its place
  changed : (entries : List Numbered) (e : Numbered) (one : Written) → db 0 ≡ map row_of entries → IsKeyedBy number entries → Has entries e
      → ((found : List Row) → IsAnswer update_query (overlay db []) (params ++ Int e.0 ∷ shown results (row_of (next_rowid (db 0), fresh))) found → found ≡ (Int e.0 ∷ Int e.0 ∷ columns_of (renewed moment body e.1)) ∷ [])
      → Updates here (program update_query) (params ++ Int e.0 ∷ shown results (row_of (next_rowid (db 0), fresh))) db (Ok one)
      → one.trees 0 ≡ map row_of (insert_by number (without_key number entries e.0) (e.0, renewed moment body e.1))
  changed entries e one are up has answer h =
      let queried = went h in
      let next = renewed moment body e.1 in
      let shown_row = Int e.0 ∷ Int e.0 ∷ columns_of next in
      let is = answer queried.0 (queried.1.answer Null) in
      let parts = went (subst (λ rs. Then (Edited results_schema Enforced db (edit_of db results (ids_of rs) Given 1 rs)) (λ after. Gives (record { trees = after; rows = (edit_of db results (ids_of rs) Given 1 rs).news; last = None })) (Ok one)) is queried.2) in
      let edit = edit_of db results (ids_of (shown_row ∷ [])) Given 1 (shown_row ∷ []) in
      let rows = (one_step results_schema Enforced db parts.0 edit refl parts.1).rows in
      let cast : edited db edit ≡ put_row (row_of (e.0, next)) (without_rowid e.0 (db 0)) =
      ap (λ r. put_row r (without_rowid e.0 (db 0))) (cast_old e.0 (key_text next.key) next.body (pos next.since) (pos next.latest) (pos (number_of next.good))) in
      ap (λ (it : Written). it.trees 0) (same_value parts.2) ∙ rows ∙ cast ∙ ap (λ rs. put_row (row_of (e.0, next)) (without_rowid e.0 rs)) are
      ∙ ap (put_row (row_of (e.0, next))) (deletes-map number row_of (λ x. refl) (e.0 ∷ []) entries)
      ∙ puts-map number row_of (λ x. refl) ((e.0, next) ∷ []) (without_key number entries e.0)

  module _ (table : List Record) (rows : AreOf (db 0) table) where
    -- what the update reads
    read : (e : Numbered) → Has rows.entries e → (found : List Row)
        → IsAnswer update_query (overlay db []) (params ++ Int e.0 ∷ shown results (row_of (next_rowid (db 0), fresh))) found
        → found ≡ (Int e.0 ∷ Int e.0 ∷ columns_of (renewed moment body e.1)) ∷ []
    read e has found a =
        let given = params ++ Int e.0 ∷ shown results (row_of (next_rowid (db 0), fresh)) in
        let out : Numbered → Output = λ x. ([], Int x.0 ∷ Int x.0 ∷ columns_of (renewed moment body x.1)) in
        let kept_one : a.kept ≡ out e ∷ [] =
        kept_are db table rows _ _ _ _ given found a (λ x. int_eq (number x) (number e)) out (λ x. and_true _ ∙ at_ints false Eq (number x) (number e)) (λ x. refl)
        ∙ ap (map out) (only_one rows.entries e rows.numbered has) in
        let ordered = one_permutation (out e) a.ordered (subst (λ k. IsPermutation k a.ordered) kept_one a.same) in
        a.shown ∙ ap (λ l. page update_query given (map (λ (o : Output). o.1) l)) ordered

    each_key : AllByRecursion HasKey (map kept rows.entries)
    each_key = all-permutation HasKey table (map kept rows.entries) rows.same rows.keys

    -- an entry has the key exactly where its row is in the way
    in_the_way : InRange (Run key) → (n : ℤ) (x : Numbered) → Has rows.entries x → conflicts (Some (1 ∷ [])) results_schema.indexes results (row_of (n, fresh)) (row_of x) ≡ has key x.1
    in_the_way range n x there = conflict_is (n, fresh) x ∙ ap is_eq (texts x.1.key key (all_has HasKey (map kept rows.entries) x.1 each_key (has_record rows.entries x there)) range)

    new_rows : InRange (Run key) → (one : Written) → list_any (has key) table ≡ false → Puts here (row_of (next_rowid (db 0), fresh)) db (Ok one) → AreOf (one.trees 0) (put_record table key moment body)
    new_rows range one none h =
        let e : Numbered = (next_rowid (db 0), fresh) in
        let entries = rows.entries in
        let id : number e ≡ next_key number entries = ap next_rowid rows.are ∙ next_is (pos 1) entries in
        let after = insert_next number entries e rows.numbered id in
        let comes = put_new table key fresh (renewed moment body) none in
        let behind : map kept (insert_by number entries e) ≡ map kept entries ++ fresh ∷ [] = ap (map kept) after ∙ map-append kept entries (e ∷ []) in
        record {
          entries = insert_by number entries e;
          are = added entries e one rows.are h;
          numbered = IsKeyedBy-insert_by number entries e rows.numbered;
          same = subst (IsPermutation (put_record table key moment body)) (sym behind)
              (IsPermutation-trans _ _ _ (IsPermutation-sym _ _ comes) (IsPermutation-trans _ _ _ (IsPermutation-cons fresh _ _ rows.same) (IsPermutation-append_comm (fresh ∷ []) (map kept entries))));
          ascends = table_put table key moment body rows.ascends;
          keys = all-permutation HasKey (fresh ∷ table) (put_record table key moment body) comes (range, rows.keys);
        }

    -- two entries with the key are one
    one_entry : (x e : Numbered) → Has rows.entries x → Has rows.entries e → has key x.1 ≡ true → has key e.1 ≡ true → x ≡ e
    one_entry x e in_x in_e has_x has_e =
        let hits = filter (λ (y : Numbered). has key y.1) rows.entries in
        let same : IsPermutation (option_to_list (find_record table key)) (map kept hits) =
        subst₂ IsPermutation (found_alone table key rows.ascends) (filter-map (has key) kept rows.entries) (IsPermutation-filter (has key) table (map kept rows.entries) rows.same) in
        let long : length (map kept hits) ≡ length (option_to_list (find_record table key)) = length_permutation _ _ same in
        let few : length hits ≤ 1 = omega (arith, long, length-map hits kept, at_most_one (find_record table key)) in
        alone hits x e few (has_kept (λ y. has key y.1) rows.entries x in_x has_x) (has_kept (λ y. has key y.1) rows.entries e in_e has_e)

    alike : (e : Numbered) → Has rows.entries e → has key e.1 ≡ true → (x : Numbered) → Has rows.entries x → has key x.1 ≡ int_eq (number x) (number e)
    alike e in_e has_e x in_x =
        elim (cases_Bool (has key x.1)) [
          | inl is_so ↦ let same = one_entry x e in_x in_e is_so has_e in let is : int_eq (number x) (number e) ≡ true = ap (λ y. int_eq (number y) (number e)) same ∙ equal_int (number e) in is_so ∙ sym is
          | inr isnt_so ↦ elim (cases_Bool (int_eq (number x) (number e))) [
            | inl is ↦ absurd (let same = same_number rows.entries x e rows.numbered in_x in_e is in let is_so : has key x.1 ≡ true = ap (λ y. has key (kept y)) same ∙ has_e in cc)
            | inr isnt ↦ isnt_so ∙ sym isnt
          ]
        ]

    changed_rows : (one : Written) (e : Numbered) → Has rows.entries e → has key e.1 ≡ true
        → Updates here (program update_query) (params ++ Int e.0 ∷ shown results (row_of (next_rowid (db 0), fresh))) db (Ok one)
        → AreOf (one.trees 0) (put_record table key moment body)
    changed_rows one e in_e has_e h =
        let entries = rows.entries in
        let f = renewed moment body in
        let over = put_over f entries e rows.numbered in_e in
        let put = insert_by number (without_key number entries e.0) (e.0, f e.1) in
        let up : IsKeyedBy number put = IsKeyedBy-insert_by number _ (e.0, f e.1) (IsKeyedBy-delete_where number (λ x. int_eq (number x) e.0) entries rows.numbered) in
        let some : list_any (has key) table ≡ true = list_any-IsPermutation (has key) table (map kept entries) rows.same ∙ some_from (has key) (map kept entries) (kept e) (has_record entries e in_e) has_e in
        let there : put_record table key moment body ≡ map (change_if key f) table = put_there table key fresh f rows.ascends some in
        let point : map (λ x. change_if key f (kept x)) entries ≡ map (λ x. kept (change_at e.0 f x)) entries =
        map_alike _ _ entries (all_from (λ x. change_if key f (kept x) ≡ kept (change_at e.0 f x)) entries (λ x in_x. changes_alike key f e.0 x (alike e in_e has_e x in_x))) in
        let records : map (change_if key f) (map kept entries) ≡ map kept (map (change_at e.0 f) entries) = map-map (change_if key f) kept entries ∙ point ∙ sym (map-map kept (change_at e.0 f) entries) in
        record {
          entries = put;
          are = changed entries e one rows.are rows.numbered in_e (read e in_e) h;
          numbered = up;
          same = subst₂ IsPermutation (sym there) (records ∙ ap (map kept) (sym over)) (IsPermutation-map (change_if key f) table (map kept entries) rows.same);
          ascends = table_put table key moment body rows.ascends;
          keys = subst (AllByRecursion HasKey) (sym there) (all-map HasKey (change_if key f) table (keys_kept key f (λ r range. range) table rows.keys));
        }

    upserted : InRange (Run key) → (one : Written) → Upserts here Abort (row_of (next_rowid (db 0), fresh)) db (clause ∷ []) (Ok one) → AreOf (one.trees 0) (put_record table key moment body)
    upserted range one h = on h.0 h.1 h.2
      where
        on : (found : List Row) → AreConflicts (Some (1 ∷ [])) results_schema.indexes results (db 0) (row_of (next_rowid (db 0), fresh)) found
            → Meets here (Upserts here Abort (row_of (next_rowid (db 0), fresh)) db []) (row_of (next_rowid (db 0), fresh)) db clause found (Ok one) → AreOf (one.trees 0) (put_record table key moment body)
        on [] conflict meets =
            let none : list_any (has key) (map kept rows.entries) ≡ false = elim (cases_Bool (list_any (has key) (map kept rows.entries))) [
              | inl is_so ↦ absurd (
                  let some = some_has (has key) (map kept rows.entries) is_so in
                  let x = kept_has rows.entries some.0 some.1 in
                  let has_x : has key x.0.1 ≡ true = ap (has key) (sym x.2) ∙ some.2 in
                  conflict.complete (row_of x.0) (subst (λ rs. Has rs (row_of x.0)) (sym rows.are) (row_has rows.entries x.0 x.1)) (in_the_way range (next_rowid (db 0)) x.0 x.1 ∙ has_x))
              | inr isnt_so ↦ isnt_so
            ] in
            new_rows range one (list_any-IsPermutation (has key) table (map kept rows.entries) rows.same ∙ none) (clears meets.0 meets.2)
          where
            clears : (more : List Row) → Clears here Abort (row_of (next_rowid (db 0), fresh)) db more (Ok one) → Puts here (row_of (next_rowid (db 0), fresh)) db (Ok one)
            clears [] h = h
            clears (x ∷ xs) h = h
        on (there ∷ more) conflict meets =
            let it = conflict.sound there (inl refl) in
            let e = entry_has rows.entries it.0 (subst (λ rs. Has rs it.0) rows.are it.1) in
            let is : there ≡ Int e.0.0 ∷ [] = it.3 ∙ ap (λ r. rowid r ∷ []) e.2 in
            let has_e : has key e.0.1 ≡ true = sym (in_the_way range (next_rowid (db 0)) e.0 e.1) ∙ ap (conflicts (Some (1 ∷ [])) results_schema.indexes results (row_of (next_rowid (db 0), fresh))) (sym e.2) ∙ it.2 in
            changed_rows one e.0 e.1 has_e (subst (λ t. Updates here (program update_query) (params ++ rowid t ∷ shown results (row_of (next_rowid (db 0), fresh))) db (Ok one)) is meets)

-- ---- the statement

pub puts : (old new : State) (table : List Record) (key : RunKey) (moment : ℕ) (body : List ℕ) → InRange (Run key) → Keeps old table → (count : ℕ)
    → Executes put_text (put_params key moment (says_good body) body) old new (Ok count) → Keeps new (put_record table key moment body)
puts old new table key moment body range keeps count h =
    let params = put_params key moment (says_good body) body in
    let w = runs_as put_text params old new results_schema keeps.schema put_command put_is put_plain count h in
    let text = statement_of put_text (understood results_schema put_text) in
    let done = went (subst (λ s. Does old.step_limit (mode_of old) params (record old.now { schema = s }) text None put_command (Ok (w.tally, new.now))) keeps.schema w.changed) in
    let now = ap (λ (p : Tally × Database). p.1) (same_value (went (went done.2).2).2) in
    let parts = inserted old.step_limit old.now.trees key moment body done.0 done.1 in
    let rows = upserted old.step_limit old.now.trees key moment body table keeps.rows range parts.0 parts.1 in
    let trees : new.now.trees 0 ≡ parts.0.trees 0 = ap (λ (d : Database). d.trees 0) now ∙ ap (λ (t : Trees). t 0) parts.2 in
    record {
      schema = ap (λ (d : Database). d.schema) now;
      rows = subst (λ rs. AreOf rs (put_record table key moment body)) (sym trees) rows;
      committed = w.shown.committed_is ∙ ap (λ b. cond b old.committed new.now) keeps.autocommit;
      autocommit = w.shown.mode ∙ keeps.autocommit;
      unmarked = w.marks ∙ keeps.unmarked;
    }

pub puts_on : (old new : State) (table : List Record) (key : RunKey) (moment : ℕ) (id : List ℕ) (good : Bool) (body : List ℕ) (r : Result ℕ Error) → InRange (Run key) → id ≡ key_text key → good ≡ says_good body → Keeps old table
    → Executes put_text (Text id ∷ Int (pos moment) ∷ Int (pos (number_of good)) ∷ Text body ∷ []) old new r → OnOk r (Keeps new (put_record table key moment body))
puts_on old new table key moment id good body (Ok count) range id_is good_is keeps h =
    puts old new table key moment body range keeps count (subst₂ (λ i g. Executes put_text (Text i ∷ Int (pos moment) ∷ Int (pos (number_of g)) ∷ Text body ∷ []) old new (Ok count)) id_is good_is h)
puts_on old new table key moment id good body (Err e) range id_is good_is keeps h = tt
