-- A walk over the keys of rows shows what the rows do.
use Rattle.std.specs.List.{AllByRecursion, cons_option, filter_map}
use Rattle.std.specs.declared.cmp.Ordering.TheVariants.{Less}
use Rattle.std.proofs.Common.{◌≡◌, ◌∙◌, ◌∷◌, ◌++◌, ◌&&◌, ℕ, Bool, true, false, cond, List, [], filter, Option, Some, None, is_some, option_and_then, refl, sym, ap, ap₂, append_assoc}
use Rattle.std.proofs.lemmas.List.Elements.{recursion_from_All}
use Rattle.ps_time.specs.Key.{key_cmp}
use Rattle.ps_time.specs.Span.{Span, overlap}
use Rattle.ps_time.specs.declared.key.RunKey.{RunKey}
use Rattle.plugin_core.specs.TestSpec.{test_class}
use Rattle.run_states.specs.Life.{state_of}
use Rattle.run_states.specs.Rows.{IsAscendingRows, find_row}
use Rattle.run_states.specs.TaskRows.{is_of_task}
use Rattle.run_states.specs.declared.row.RunRow.{RunRow}
use Rattle.host_model.specs.Book.{keys_of_rows}
use Rattle.host_model.specs.Views.{line_of, runs_of}
use Rattle.host_model.specs.declared.view.Line.{Line}
use Rattle.host_model.proofs.RowLemmas.{all_of_found}
use Rattle.host_inputs.specs.Runs.{runs_of_task}
use Rattle.host_pages.specs.Walks.{HaveKeysAscending, line_at, run_at, run_of}

-- ---- one step of a walk
module _ {X : Type 0} (f : RunKey → Option X) (k : RunKey) (ks : List RunKey) (list : List X) where
  -- the key shows something
  pub one_more : (x : X) (longer : List X) → f k ≡ Some x → longer ≡ list ++ x ∷ [] → longer ++ filter_map f ks ≡ list ++ filter_map f (k ∷ ks)
  one_more x longer is pushed =
      ap (λ l. l ++ filter_map f ks) pushed
      ∙ (append_assoc list (x ∷ []) (filter_map f ks)
      ∙ ap (λ o. list ++ cons_option o (filter_map f ks)) (sym is))

  -- it shows nothing
  pub one_passed : f k ≡ None → list ++ filter_map f ks ≡ list ++ filter_map f (k ∷ ks)
  one_passed is = ap (λ o. list ++ cons_option o (filter_map f ks)) (sym is)

-- ---- rows that are found
-- each of these is found by its key among the rows
abbrev pub AllFound : List RunRow → List RunRow → Type 0
AllFound rows xs = AllByRecursion (λ r. find_row rows r.key ≡ Some r) xs

pub found_up : (rows : List RunRow) → IsAscendingRows rows → AllFound rows rows
found_up rows up = recursion_from_All (λ r. find_row rows r.key ≡ Some r) rows (all_of_found (λ r. find_row rows r.key ≡ Some r) rows up (λ r at. at))

-- ---- the runs of a task
module _ (lead serial : ℕ) where
  by_task : (rows xs : List RunRow) → AllFound rows xs → filter_map (run_at rows) (keys_of_rows (filter (is_of_task lead serial) xs)) ≡ keys_of_rows (filter (λ r. is_of_task lead serial r && is_some r.interval) xs)
  by_task rows [] found = refl
  by_task rows (x ∷ xs) found = go (is_of_task lead serial x) (is_some x.interval) refl (by_task rows xs found.1)
    where
      rest : List RunRow
      rest = filter (is_of_task lead serial) xs

      shown : List RunRow
      shown = filter (λ r. is_of_task lead serial r && is_some r.interval) xs

      go : (t i : Bool) → is_some x.interval ≡ i → filter_map (run_at rows) (keys_of_rows rest) ≡ keys_of_rows shown
          → filter_map (run_at rows) (keys_of_rows (cond t (x ∷ rest) rest)) ≡ keys_of_rows (cond (t && i) (x ∷ shown) shown)
      go false i is later = later
      go true true is later = ap₂ (λ o l. cons_option (option_and_then run_of o) l) found.0 later ∙ ap (λ i. cons_option (cond i (Some x.key) None) (keys_of_rows shown)) is
      go true false is later = ap₂ (λ o l. cons_option (option_and_then run_of o) l) found.0 later ∙ ap (λ i. cons_option (cond i (Some x.key) None) (keys_of_rows shown)) is

  pub runs_are : (rows : List RunRow) → IsAscendingRows rows → filter_map (run_at rows) (runs_of_task lead serial rows) ≡ runs_of lead rows serial
  runs_are rows up = by_task rows rows (found_up rows up)

-- ---- the lines of a schedule
module _ (m : ℕ) (w : Span) where
  abbrev line : RunRow → Option Line
  line r = line_of m w r r.interval

  by_keys : (rows xs : List RunRow) → AllFound rows xs → filter_map (line_at m w rows) (keys_of_rows xs) ≡ filter_map line xs
  by_keys rows [] found = refl
  by_keys rows (x ∷ xs) found = ap₂ (λ o l. cons_option (option_and_then line o) l) found.0 (by_keys rows xs found.1)

  pub lines_are : (rows : List RunRow) → IsAscendingRows rows → filter_map (line_at m w rows) (keys_of_rows rows) ≡ filter_map line rows
  lines_are rows up = by_keys rows rows (found_up rows up)

  -- each line has the key of its row
  above : (k : RunKey) (rows : List RunRow) → AllByRecursion (λ r. key_cmp k r.key ≡ Less) rows → AllByRecursion (λ l. key_cmp k l.key ≡ Less) (filter_map line rows)
  above k [] all = tt
  above k (r ∷ rs) all = go r.interval (above k rs all.1)
    where
      go : (o : Option Span) → AllByRecursion (λ l. key_cmp k l.key ≡ Less) (filter_map line rs) → AllByRecursion (λ l. key_cmp k l.key ≡ Less) (cons_option (line_of m w r o) (filter_map line rs))
      go None rest = rest
      go (Some s) rest = elim (overlap s w) as (λ b. AllByRecursion (λ l. key_cmp k l.key ≡ Less) (cons_option (cond b (Some (record { key = r.key; class = test_class r.test; interval = s; priority = r.priority; state = state_of r m })) None) (filter_map line rs))) [
        | true ↦ (all.0, rest)
        | false ↦ rest
      ]

  pub lines_up : (rows : List RunRow) → IsAscendingRows rows → HaveKeysAscending (filter_map line rows)
  lines_up [] up = tt
  lines_up (r ∷ rs) up = go r.interval (lines_up rs up.1)
    where
      go : (o : Option Span) → HaveKeysAscending (filter_map line rs) → HaveKeysAscending (cons_option (line_of m w r o) (filter_map line rs))
      go None rest = rest
      go (Some s) rest = elim (overlap s w) as (λ b. HaveKeysAscending (cons_option (cond b (Some (record { key = r.key; class = test_class r.test; interval = s; priority = r.priority; state = state_of r m })) None) (filter_map line rs))) [
        | true ↦ (above r.key rs up.0, rest)
        | false ↦ rest
      ]
