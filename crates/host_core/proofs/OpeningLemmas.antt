-- What changes as a host opens: each change, read off the book with the earlier ones applied, is the one that the book had at first.
use Rattle.std.specs.List.{AllByRecursion, cons_option, filter_map}
use Rattle.std.specs.Ordering.{is_eq, ordering_reverse}
use Rattle.std.specs.declared.cmp.Ordering.TheVariants.{Less}
use Rattle.std.proofs.Common.{◌≡◌, ◌∙◌, ◌∷◌, ◌++◌, ◌==◌, ◌≤◌, ℕ, Bool, true, false, cond, List, [], length, map, Option, Some, None, option_map, option_and_then, unwrap_or, refl, sym, ap, subst, append-nil, arith}
use Rattle.ps_time.specs.Key.{key_cmp}
use Rattle.ps_time.specs.declared.key.RunKey.{RunKey}
use Rattle.ps_time.specs.Numbers.{greatest_moment}
use Rattle.ps_time.proofs.KeyLemmas.{key_cmp_total}
use Rattle.plugin_tool.specs.declared.run.Outcome.TheVariants.{Restarted}
use Rattle.run_states.specs.LawfulRow.{IsUpTo}
use Rattle.run_states.specs.Life.{end_row, is_active}
use Rattle.run_states.specs.Rows.{IsAscendingRows, change_row, find_row}
use Rattle.run_states.specs.declared.row.RunRow.{RunRow}
use Rattle.run_states.specs.declared.row.Ending.{Ending}
use Rattle.host_rows.proofs.RowLemmas.{found_change}
use Rattle.host_model.specs.Apply.{apply, apply_all}
use Rattle.host_model.specs.Book.{Book, keys_of_rows}
use Rattle.host_model.specs.Ending.{ended_with, restart_run, tool_view}
use Rattle.host_model.specs.Epochs.{first_limits, open_changes}
use Rattle.host_model.specs.Lawful.{Lawful}
use Rattle.host_model.specs.LawfulRow.{IsHostRow}
use Rattle.host_model.specs.Walk.{change_if, each, each_row, then_change}
use Rattle.host_model.specs.declared.change.Change.{Change}
use Rattle.host_model.specs.declared.change.Change.TheVariants.{LimitsSet}
use Rattle.host_model.specs.declared.config.Config.{Config}
use Rattle.host_model.proofs.RowLemmas.{found_of_all}
use Rattle.host_turns.specs.Wishes.{MayEnd}
use Rattle.host_pages.proofs.ShownLemmas.{AllFound, found_up}
use Rattle.host_core.specs.Restarts.{restart_at}

-- rows of greater keys than the one that ends are found as they were
still_found : (e : Ending) (k : RunKey) (rows xs : List RunRow) → AllByRecursion (λ y. key_cmp k y.key ≡ Less) xs → AllFound rows xs → AllFound (change_row (end_row e) rows k) xs
still_found e k rows [] above found = tt
still_found e k rows (x ∷ xs) above found =
    let other : is_eq (key_cmp x.key k) ≡ false = ap is_eq (key_cmp_total.antisymm x.key k ∙ ap ordering_reverse above.0) in
    let same : find_row (change_row (end_row e) rows k) x.key ≡ option_map (λ r. cond (is_eq (key_cmp r.key k)) (end_row e r) r) (find_row rows x.key) = found_change (end_row e) (λ r. refl) rows k x.key in
    (same ∙ (ap (option_map (λ r. cond (is_eq (key_cmp r.key k)) (end_row e r) r)) found.0 ∙ ap (λ b. Some (cond b (end_row e x) x)) other), still_found e k rows xs above.1 found.1)

-- ---- the runs
module _ (c : Config) where
  -- how a run ends, if it is active
  abbrev wish : RunRow → Option Change
  wish r = change_if (is_active r) (ended_with r (tool_view c r (unwrap_or r.started 0)) Restarted)

  abbrev wish_at : Book → RunKey → Option Change
  wish_at b k = option_and_then (restart_run c b) (find_row b.rows k)

  each_is : (m : ℕ) (xs : List RunRow) (b : Book) → IsAscendingRows xs → AllFound b.rows xs → each wish_at m (keys_of_rows xs) b ≡ filter_map wish xs
  each_is m [] b up found = refl
  each_is m (x ∷ xs) b up found =
      let done : Change = ended_with x (tool_view c x (unwrap_or x.started 0)) Restarted in
      ap (λ o. then_change m b (option_and_then (restart_run c b) o) (each wish_at m (keys_of_rows xs))) found.0
      ∙ one (is_active x) (each_is m xs b up.1 found.1) (each_is m xs (apply m done b) up.1 (still_found _ x.key b.rows xs up.0 found.1))
    where
      one : (t : Bool) → each wish_at m (keys_of_rows xs) b ≡ filter_map wish xs → each wish_at m (keys_of_rows xs) (apply m (ended_with x (tool_view c x (unwrap_or x.started 0)) Restarted) b) ≡ filter_map wish xs
          → then_change m b (change_if t (ended_with x (tool_view c x (unwrap_or x.started 0)) Restarted)) (each wish_at m (keys_of_rows xs)) ≡ cons_option (change_if t (ended_with x (tool_view c x (unwrap_or x.started 0)) Restarted)) (filter_map wish xs)
      one true same ended = ap (λ l. ended_with x (tool_view c x (unwrap_or x.started 0)) Restarted ∷ l) ended
      one false same ended = same

  rows_are : (m : ℕ) (b : Book) → IsAscendingRows b.rows → each_row (restart_run c) m b ≡ filter_map wish b.rows
  rows_are m b up = each_is m b.rows b up (found_up b.rows up)

  -- that limits were set leaves the rows
  unchanged : (rows : List RunRow) → map (λ (r : RunRow). r) rows ≡ rows
  unchanged [] = refl
  unchanged (r ∷ rs) = ap (λ l. r ∷ l) (unchanged rs)

  after_limits : (m : ℕ) (new : Bool) (b : Book) → IsAscendingRows b.rows → each_row (restart_run c) m (apply_all m (cond new (LimitsSet c.limits ∷ []) []) b) ≡ filter_map wish b.rows
  after_limits m false b up = rows_are m b up
  after_limits m true b up =
      let later : Book = apply m (LimitsSet c.limits) b in
      let same : later.rows ≡ b.rows = unchanged b.rows in
      rows_are m later (subst IsAscendingRows (sym same) up) ∙ ap (filter_map wish) same

  -- the walk over the keys finds the same
  by_keys : (b : Book) (xs : List RunRow) → AllFound b.rows xs → filter_map (restart_at c b) (keys_of_rows xs) ≡ filter_map wish xs
  by_keys b [] found = refl
  by_keys b (x ∷ xs) found = ap (λ o. cons_option (option_and_then (restart_run c b) o) (filter_map (restart_at c b) (keys_of_rows xs))) found.0 ∙ ap (λ l. cons_option (wish x) l) (by_keys b xs found.1)

  -- the limits, and the runs that the walk finds
  pub opened_are : (m : ℕ) (b : Book) → IsAscendingRows b.rows → first_limits c.limits b ++ filter_map (restart_at c b) (keys_of_rows b.rows) ≡ open_changes c b m
  opened_are m b up =
      let runs : filter_map (restart_at c b) (keys_of_rows b.rows) ≡ each_row (restart_run c) m (apply_all m (first_limits c.limits b) b) =
      by_keys b b.rows (found_up b.rows up) ∙ sym (after_limits m (length b.epochs == 0) b up) in
      ap (λ l. first_limits c.limits b ++ l) (runs ∙ sym (append-nil (each_row (restart_run c) m (apply_all m (first_limits c.limits b) b))))

-- ---- a row of a lawful book may end
up_to : (m : ℕ) (o : Option ℕ) → m ≤ greatest_moment → IsUpTo m o → IsUpTo greatest_moment o
up_to m None low is = tt
up_to m (Some n) low is = omega (arith, low, is)

pub row_may_end : (number : ℕ) (b : Book) (k : RunKey) (r : RunRow) → Lawful number b → find_row b.rows k ≡ Some r → MayEnd r
row_may_end number b k r lawful at =
    let row : IsHostRow number b.tasks b.moment r = found_of_all (IsHostRow number b.tasks b.moment) k r b.rows lawful.rows at in
    record { test = row.row.test; started = up_to b.moment r.started lawful.moment row.row.moments.started }
