-- What canceling a task changes: the task, and of its runs those that a walk over them finds.
use Rattle.std.specs.List.{AllByRecursion, cons_option, filter_map}
use Rattle.std.specs.Ordering.{is_eq, ordering_reverse}
use Rattle.std.specs.declared.cmp.Ordering.TheVariants.{Less}
use Rattle.std.proofs.Common.{◌≡◌, ◌∙◌, ◌∷◌, ◌++◌, ◌&&◌, not, ℕ, Bool, true, false, cond, List, [], map, filter, Option, Some, None, is_some, option_and_then, refl, sym, ap, ap₂, subst, append-nil, append_assoc}
use Rattle.std.proofs.lemmas.List.Elements.{recursion_from_All}
use Rattle.ps_time.specs.Key.{key_cmp}
use Rattle.ps_time.specs.declared.key.RunKey.{RunKey}
use Rattle.ps_time.proofs.KeyLemmas.{key_cmp_total}
use Rattle.run_states.specs.Life.{close_row}
use Rattle.run_states.specs.Rows.{IsAscendingRows, change_row, find_row}
use Rattle.run_states.specs.TaskRows.{is_of_task}
use Rattle.run_states.specs.declared.row.RunRow.{RunRow}
use Rattle.run_states.specs.declared.why.Closing.{Closing}
use Rattle.run_states.specs.declared.why.Why.TheVariants.{Canceled}
use Rattle.host_model.specs.Apply.{apply, apply_all}
use Rattle.host_model.specs.Book.{Book, keys_of_rows}
use Rattle.host_model.specs.Post.{cancel_changes, cancel_run, close_unless}
use Rattle.host_model.specs.Walk.{change_if, each, each_row, then_change}
use Rattle.host_model.specs.declared.change.Change.{Change}
use Rattle.host_model.specs.declared.change.Change.TheVariants.{Closed, TaskClosed}
use Rattle.host_model.specs.declared.task_row.TaskRow.{TaskRow}
use Rattle.host_model.proofs.Keyed.{key_is, key_of}
use Rattle.host_model.proofs.RowLemmas.{all_of_found}
use Rattle.lead_core.specs.Books.{book_of_rows}
use Rattle.host_inputs.specs.Runs.{canceled_run, canceled_runs, runs_of_task}

-- ---- rows that are found
-- each of these is found by its key among the rows
abbrev AllFound : List RunRow → List RunRow → Type 0
AllFound rows xs = AllByRecursion (λ r. find_row rows r.key ≡ Some r) xs

found_up : (rows : List RunRow) → IsAscendingRows rows → AllFound rows rows
found_up rows up = recursion_from_All (λ r. find_row rows r.key ≡ Some r) rows (all_of_found (λ r. find_row rows r.key ≡ Some r) rows up (λ r at. at))

-- a row of another key than the one that is closed is found as it was
module _ (c : Closing) (k j : RunKey) (other : is_eq (key_cmp j k) ≡ false) where
  found_beside : (rows : List RunRow) → find_row (change_row (close_row c) rows k) j ≡ find_row rows j
  found_beside [] = refl
  found_beside (r ∷ rs) = go (is_eq (key_cmp r.key k)) refl (is_eq (key_cmp r.key j)) refl (found_beside rs)
    where
      go : (a : Bool) → is_eq (key_cmp r.key k) ≡ a → (b : Bool) → is_eq (key_cmp r.key j) ≡ b → find_row (change_row (close_row c) rs k) j ≡ find_row rs j
          → cond (is_eq (key_cmp (cond a (close_row c r) r).key j)) (Some (cond a (close_row c r) r)) (find_row (change_row (close_row c) rs k) j) ≡ cond b (Some r) (find_row rs j)
      go false own b is later = ap₂ (λ t o. cond t (Some r) o) is later
      go true own true is later = let same : is_eq (key_cmp j k) ≡ true = key_of j k (sym (key_is r.key j is) ∙ key_is r.key k own) in cc
      go true own false is later = ap₂ (λ t o. cond t (Some (close_row c r)) o) is later

still_found : (c : Closing) (k : RunKey) (rows xs : List RunRow) → AllByRecursion (λ y. key_cmp k y.key ≡ Less) xs → AllFound rows xs → AllFound (change_row (close_row c) rows k) xs
still_found c k rows [] above found = tt
still_found c k rows (x ∷ xs) above found =
    let other : is_eq (key_cmp x.key k) ≡ false = ap is_eq (key_cmp_total.antisymm x.key k ∙ ap ordering_reverse above.0) in
    (found_beside c k x.key other rows ∙ found.0, still_found c k rows xs above.1 found.1)

-- ---- the runs
module _ (lead serial : ℕ) where
  -- the run is of the task, and neither started nor closed
  abbrev is_open : RunRow → Bool
  is_open r = is_of_task lead serial r && (not (is_some r.started) && not (is_some r.closed))

  -- what canceling changes in a row
  abbrev wish : RunRow → Option Change
  wish r = change_if (is_open r) (Closed r.key Canceled)

  abbrev wish_at : Book → RunKey → Option Change
  wish_at b k = option_and_then (cancel_run lead serial b) (find_row b.rows k)

  -- the rows in turn, each read off the book with the earlier ones closed, are the rows as they stood
  each_is : (m : ℕ) (xs : List RunRow) (b : Book) → IsAscendingRows xs → AllFound b.rows xs → each wish_at m (keys_of_rows xs) b ≡ filter_map wish xs
  each_is m [] b up found = refl
  each_is m (x ∷ xs) b up found =
      let c : Closing = record { moment = m; why = Canceled } in
      ap (λ o. then_change m b (option_and_then (cancel_run lead serial b) o) (each wish_at m (keys_of_rows xs))) found.0
      ∙ one (is_open x) (each_is m xs b up.1 found.1) (each_is m xs (apply m (Closed x.key Canceled) b) up.1 (still_found c x.key b.rows xs up.0 found.1))
    where
      one : (t : Bool) → each wish_at m (keys_of_rows xs) b ≡ filter_map wish xs → each wish_at m (keys_of_rows xs) (apply m (Closed x.key Canceled) b) ≡ filter_map wish xs
          → then_change m b (change_if t (Closed x.key Canceled)) (each wish_at m (keys_of_rows xs)) ≡ cons_option (change_if t (Closed x.key Canceled)) (filter_map wish xs)
      one true same closed = ap (λ l. Closed x.key Canceled ∷ l) closed
      one false same closed = same

  rows_are : (m : ℕ) (b : Book) → IsAscendingRows b.rows → each_row (cancel_run lead serial) m b ≡ filter_map wish b.rows
  rows_are m b up = each_is m b.rows b up (found_up b.rows up)

  unchanged : (rows : List RunRow) → map (λ (r : RunRow). r) rows ≡ rows
  unchanged [] = refl
  unchanged (r ∷ rs) = ap (λ l. r ∷ l) (unchanged rs)

  -- that the task was closed leaves the rows
  after_task : (m closing : ℕ) (closed : Bool) (b : Book) → IsAscendingRows b.rows → each_row (cancel_run lead serial) m (apply_all m (cond closed [] (TaskClosed closing ∷ [])) b) ≡ filter_map wish b.rows
  after_task m closing true b up = rows_are m b up
  after_task m closing false b up =
      let later : Book = apply m (TaskClosed closing) b in
      let same : later.rows ≡ b.rows = unchanged b.rows in
      rows_are m later (subst IsAscendingRows (sym same) up) ∙ ap (filter_map wish) same

  -- the walk over the task's keys finds the same
  by_keys : (rows xs : List RunRow) → AllFound rows xs → filter_map (canceled_run lead serial rows) (keys_of_rows (filter (is_of_task lead serial) xs)) ≡ filter_map wish xs
  by_keys rows [] found = refl
  by_keys rows (x ∷ xs) found = go (is_of_task lead serial x) refl (by_keys rows xs found.1)
    where
      rest : List RunRow
      rest = filter (is_of_task lead serial) xs

      go : (t : Bool) → is_of_task lead serial x ≡ t → filter_map (canceled_run lead serial rows) (keys_of_rows rest) ≡ filter_map wish xs
          → filter_map (canceled_run lead serial rows) (keys_of_rows (cond t (x ∷ rest) rest)) ≡ cons_option (wish x) (filter_map wish xs)
      go true is later = ap₂ (λ o l. cons_option (option_and_then (cancel_run lead serial (book_of_rows rows)) o) l) found.0 later
      go false is later = later ∙ sym (ap (λ t. cons_option (change_if (t && (not (is_some x.started) && not (is_some x.closed))) (Closed x.key Canceled)) (filter_map wish xs)) is)

-- the task, and those of its runs that the walk finds
pub canceled_are : (lead m : ℕ) (t : TaskRow) (b : Book) → IsAscendingRows b.rows → close_unless t ++ canceled_runs lead t.serial b.rows (runs_of_task lead t.serial b.rows) ≡ cancel_changes lead b m t
canceled_are lead m t b up =
    let runs : canceled_runs lead t.serial b.rows (runs_of_task lead t.serial b.rows) ≡ each_row (cancel_run lead t.serial) m (apply_all m (close_unless t) b) =
    by_keys lead t.serial b.rows b.rows (found_up b.rows up) ∙ sym (after_task lead t.serial m t.serial (is_some t.closed) b up) in
    ap (λ l. close_unless t ++ l) (runs ∙ sym (append-nil (each_row (cancel_run lead t.serial) m (apply_all m (close_unless t) b))))

-- ---- one step of the walk
module _ (lead serial : ℕ) (rows : List RunRow) (k : RunKey) (ks : List RunKey) (list : List Change) where
  -- the run of the key changes
  pub one_changed : (c : Change) (longer : List Change) → canceled_run lead serial rows k ≡ Some c → longer ≡ list ++ c ∷ [] → longer ++ canceled_runs lead serial rows ks ≡ list ++ canceled_runs lead serial rows (k ∷ ks)
  one_changed c longer is pushed =
      ap (λ l. l ++ canceled_runs lead serial rows ks) pushed
      ∙ (append_assoc list (c ∷ []) (canceled_runs lead serial rows ks)
      ∙ ap (λ o. list ++ cons_option o (canceled_runs lead serial rows ks)) (sym is))

  -- it stays as it is
  pub one_passed : canceled_run lead serial rows k ≡ None → list ++ canceled_runs lead serial rows ks ≡ list ++ canceled_runs lead serial rows (k ∷ ks)
  one_passed is = ap (λ o. list ++ cons_option o (canceled_runs lead serial rows ks)) (sym is)
