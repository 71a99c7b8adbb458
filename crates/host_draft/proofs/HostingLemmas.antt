-- What a host reads of a draft is what its book says: the tasks, and the runs from key to key.
use Rattle.std.specs.Prelude.{◌==◌, All, IfSome, find}
use Rattle.std.specs.List.{AllByRecursion}
use Rattle.std.proofs.Common.{◌≡◌, ◌∙◌, ◌&&◌, ℕ, Bool, true, false, cond, not, List, [], ◌∷◌, filter, Option, Some, option_map, refl, sym, ap, ap₂}
use Rattle.std.proofs.lemmas.List.Elements.{recursion_from_All}
use Rattle.ps_time.specs.declared.key.RunKey.{RunKey}
use Rattle.ps_time.proofs.KeyLemmas.{key_cmp_total}
use Rattle.ps_time.proofs.SortedLemmas.{ascending-filter}
use Rattle.run_states.specs.Rows.{IsAscendingRows}
use Rattle.run_states.specs.TaskRows.{is_of_task, rows_of_task}
use Rattle.run_states.specs.declared.row.RunRow.{RunRow}
use Rattle.host_timeline.specs.Booking.{is_after, lesser_of}
use Rattle.host_model.specs.Book.{Book, find_task, keys_of_rows}
use Rattle.host_model.specs.Lawful.{Lawful}
use Rattle.host_model.specs.declared.task_row.TaskRow.{TaskRow}
use Rattle.host_inputs.specs.Kept.{HasPolicies}
use Rattle.host_inputs.specs.Runs.{next_run}
use Rattle.host_draft.specs.Draft.{IsDraft}
use Rattle.draft_parts.specs.Overlay.{hides}
use Rattle.draft_parts.proofs.PickLemmas.{earlier_key, find_alike, find_over, find_passing, key_passing}

-- ---- tasks
found_by : (tasks : List TaskRow) (serial : ℕ) → AllByRecursion HasPolicies tasks → IfSome (find_task tasks serial) HasPolicies
found_by [] serial all = tt
found_by (t ∷ ts) serial all = go (t.serial == serial) (found_by ts serial all.1)
  where
    go : (b : Bool) → IfSome (find_task ts serial) HasPolicies → IfSome (cond b (Some t) (find_task ts serial)) HasPolicies
    go true later = all.0
    go false later = later

-- the archives of the task that is found are tried again within bounds, as all are
pub policies_found : (tasks : List TaskRow) (serial : ℕ) → All HasPolicies tasks → IfSome (find_task tasks serial) HasPolicies
policies_found tasks serial all = found_by tasks serial (recursion_from_All HasPolicies tasks all)

-- ---- from key to key
-- the first key that passes is that of the first row
key_first : (t : RunKey → Bool) (rows : List RunRow) → find t (keys_of_rows rows) ≡ option_map (λ r. r.key) (find (λ r. t r.key) rows)
key_first t [] = refl
key_first t (r ∷ rs) = go (t r.key) (key_first t rs)
  where
    go : (b : Bool) → find t (keys_of_rows rs) ≡ option_map (λ (x : RunRow). x.key) (find (λ x. t x.key) rs) → cond b (Some r.key) (find t (keys_of_rows rs)) ≡ option_map (λ (x : RunRow). x.key) (cond b (Some r) (find (λ x. t x.key) rs))
    go true later = refl
    go false later = later

three : (a b c : Bool) → (a && (b && c)) ≡ ((a && b) && c)
three true b c = refl
three false b c = refl

all_rows : (P : RunRow → Type 0) → ((r : RunRow) → P r) → (xs : List RunRow) → AllByRecursion P xs
all_rows P each [] = tt
all_rows P each (x ∷ xs) = (each x, all_rows P each xs)

module _ (number m : ℕ) (began now : Book) (touched : List RunRow) (gone : List RunKey) (epoch count bytes left : ℕ) (sound : IsDraft number m began now touched gone epoch count bytes left)
    (up : IsAscendingRows touched) (lawful : Lawful number began) (after : Option RunKey) where
  abbrev bare : RunRow → Bool
  bare r = not (hides touched gone r.key)

  -- the least key of all is the lesser of the least ones
  pub next_over : (p : RunRow → Bool) → lesser_of (option_map (λ r. r.key) (find p touched)) (option_map (λ r. r.key) (find (λ r. p r && bare r) began.rows)) ≡ option_map (λ r. r.key) (find p now.rows)
  next_over p =
      sym (ap (option_map (λ r. r.key)) (find_over now.rows touched gone began.rows sound.lawful.ascending up lawful.ascending sound.found p)
      ∙ earlier_key (find p touched) (find (λ r. p r && bare r) began.rows))

  pub read_next_row : lesser_of (option_map (λ r. r.key) (find (λ r. is_after after r.key) touched)) (option_map (λ r. r.key) (find (λ r. is_after after r.key && bare r) began.rows)) ≡ find (is_after after) (keys_of_rows now.rows)
  read_next_row = next_over (λ r. is_after after r.key) ∙ sym (key_first (is_after after) now.rows)

  pub read_next_of : (lead serial : ℕ) → lesser_of (option_map (λ r. r.key) (find (λ r. is_after after r.key) (rows_of_task lead serial touched))) (option_map (λ r. r.key) (find (λ r. is_after after r.key && bare r) (rows_of_task lead serial began.rows)))
      ≡ next_run lead serial after now.rows
  read_next_of lead serial =
      let p : RunRow → Bool = is_of_task lead serial in
      let q : RunRow → Bool = λ r. p r && is_after after r.key in
      let over : find (λ r. is_after after r.key) (filter p touched) ≡ find q touched = find_passing p (λ r. is_after after r.key) touched in
      let under : find (λ r. is_after after r.key && bare r) (filter p began.rows) ≡ find (λ r. q r && bare r) began.rows =
      find_passing p (λ r. is_after after r.key && bare r) began.rows
      ∙ find_alike (λ r. p r && (is_after after r.key && bare r)) (λ r. q r && bare r) began.rows (all_rows (λ r. (p r && (is_after after r.key && bare r)) ≡ (q r && bare r)) (λ r. three (p r) (is_after after r.key) (bare r)) began.rows) in
      ap₂ (λ a b. lesser_of (option_map (λ r. r.key) a) (option_map (λ r. r.key) b)) over under
      ∙ (next_over q ∙ sym (key_passing p (is_after after) now.rows))

-- the rows of a task ascend as all do
pub task_up : (lead serial : ℕ) (rows : List RunRow) → IsAscendingRows rows → IsAscendingRows (rows_of_task lead serial rows)
task_up lead serial rows up = ascending-filter key_cmp_total (λ r. r.key) (is_of_task lead serial) rows up
