-- The turn over a draft makes the changes of the turn, and leaves the book with them applied.
use Rattle.std.proofs.Common.{◌≡◌, ◌⊎◌, inl, inr, ℕ, zero, suc, ◌-◌, Bool, true, false, nat_le, List, [], ◌∷◌, ◌++◌, map, take, Option, Some, None, option_and_then, if◌then◌else◌, refl, sym, ap, ◌∙◌, append-nil, append_assoc}
use Rattle.ps_time.specs.Numbers.{most_changes}
use Rattle.run_states.specs.Rows.{find_row}
use Rattle.run_states.specs.declared.row.RunRow.{RunRow}
use Rattle.host_model.specs.Apply.{apply, apply_all}
use Rattle.host_model.specs.Book.{Book, find_task, keys_of_rows}
use Rattle.host_model.specs.Draft.{Draft, ended, fresh, made, make, make_each, make_rows, make_tasks, make_with, turned}
use Rattle.host_model.specs.Ending.{end_run}
use Rattle.host_model.specs.Merging.{merge_run}
use Rattle.host_model.specs.NextAttempt.{ask}
use Rattle.host_model.specs.Plan.{plan_run}
use Rattle.host_model.specs.Purging.{purge_run}
use Rattle.host_model.specs.RecordLength.{change_bytes, record_bytes}
use Rattle.host_model.specs.Starting.{start_run}
use Rattle.host_model.specs.Turn.{due_changes, most_record_bytes, turn_changes, within_bytes}
use Rattle.host_model.specs.Walk.{each, each_row, each_task, in_turn, then_change, then_more}
use Rattle.host_model.specs.declared.change.Change.{Change}
use Rattle.host_model.specs.declared.config.Config.{Config}
use Rattle.host_model.specs.declared.task_row.TaskRow.{TaskRow}

module _ (m : ℕ) where
  -- the changes of a list, one after another, while there is place
  abbrev pub drafted : List Change → Draft → Draft
  drafted [] d = d
  drafted (c ∷ cs) d = drafted cs (make m (Some c) d)

  -- a draft without places stays
  stays : (cs : List Change) (d : Draft) → d.places ≡ zero → drafted cs d ≡ d
  stays [] d none = refl
  stays (c ∷ cs) d none = let same : make m (Some c) d ≡ d = ap (make_with m c d) none in ap (drafted cs) same ∙ stays cs d none

  -- a draft has no places, or this book
  abbrev OrBook : Draft → Book → Type 0
  OrBook d b = (d.places ≡ zero) ⊎ (d.book ≡ b)

  -- so what follows may be read off this book
  followed : (f : Book → List Change) (d : Draft) (b : Book) → OrBook d b → drafted (f d.book) d ≡ drafted (f b) d
  followed f d b (inl none) = stays (f d.book) d none ∙ sym (stays (f b) d none)
  followed f d b (inr same) = ap (λ x. drafted (f x) d) same

  one_made : (c : Change) (d : Draft) → OrBook (make m (Some c) d) (apply m c d.book)
  one_made c d = go d.places refl
    where
      fits : (n : ℕ) (b : Bool) → OrBook (if b then made m c d n else ended d) (apply m c d.book)
      fits n true = inr refl
      fits n false = inl refl

      go : (n : ℕ) → d.places ≡ n → OrBook (make_with m c d n) (apply m c d.book)
      go zero none = inl none
      go (suc n) some = fits n (nat_le (change_bytes c) d.left)

  all_made : (cs : List Change) (d : Draft) → OrBook (drafted cs d) (apply_all m cs d.book)
  all_made [] d = inr refl
  all_made (c ∷ cs) d = go (one_made c d) (all_made cs (make m (Some c) d))
    where
      next : Draft
      next = make m (Some c) d

      go : OrBook next (apply m c d.book) → OrBook (drafted cs next) (apply_all m cs next.book) → OrBook (drafted cs next) (apply_all m cs (apply m c d.book))
      go one (inl none) = inl none
      go (inl none) (inr same) = inl (ap (λ x. x.places) (stays cs next none) ∙ none)
      go (inr here) (inr same) = inr (same ∙ ap (apply_all m cs) here)

  drafted_append : (cs ds : List Change) (d : Draft) → drafted (cs ++ ds) d ≡ drafted ds (drafted cs d)
  drafted_append [] ds d = refl
  drafted_append (c ∷ cs) ds d = drafted_append cs ds (make m (Some c) d)

  -- ---- groups
  -- a group over drafts makes the changes of a group over books
  abbrev Makes : (Draft → Draft) → (Book → List Change) → Type 0
  Makes h g = (d : Draft) → h d ≡ drafted (g d.book) d

  each_makes : {K : Type 0} (wish : Book → K → Option Change) (ks : List K) → Makes (make_each wish m ks) (each wish m ks)
  each_makes wish [] d = refl
  each_makes wish (k ∷ ks) d = go (wish d.book k) (each_makes wish ks)
    where
      go : (o : Option Change) → Makes (make_each wish m ks) (each wish m ks) → make_each wish m ks (make m o d) ≡ drafted (then_change m d.book o (each wish m ks)) d
      go None rest = rest d
      go (Some c) rest = rest (make m (Some c) d) ∙ followed (each wish m ks) (make m (Some c) d) (apply m c d.book) (one_made c d)

  rows_make : (wish : Book → RunRow → Option Change) → Makes (make_rows wish m) (each_row wish m)
  rows_make wish d = each_makes (λ b k. option_and_then (wish b) (find_row b.rows k)) (keys_of_rows d.book.rows) d

  tasks_make : (wish : Book → TaskRow → Option Change) → Makes (make_tasks wish m) (each_task wish m)
  tasks_make wish d = each_makes (λ b serial. option_and_then (wish b) (find_task b.tasks serial)) (map (λ t. t.serial) d.book.tasks) d

  -- one group, and what follows it
  both_make : (h more : Draft → Draft) (g rest : Book → List Change) → Makes h g → Makes more rest → Makes (λ d. more (h d)) (λ b. then_more m b (g b) rest)
  both_make h more g rest first later d =
      let next : Draft = drafted (g d.book) d in
      ap more (first d) ∙ later next ∙ followed rest next (apply_all m (g d.book) d.book) (all_made (g d.book) d) ∙ sym (drafted_append (g d.book) (rest (apply_all m (g d.book) d.book)) d)

  none_make : Makes (λ d. d) (in_turn m [])
  none_make d = refl

  turned_due : (config : Config) → Makes (turned config m) (due_changes config m)
  turned_due config =
      let ends = make_rows (end_run config m) m in
      let merges = make_rows (merge_run config m) m in
      let starts = make_rows (start_run m) m in
      let plans = make_rows (plan_run config m) m in
      let asks = make_tasks (ask config m) m in
      let purges = make_rows (purge_run config m) m in
      let purged = both_make purges (λ d. d) (each_row (purge_run config m) m) (in_turn m []) (rows_make (purge_run config m)) none_make in
      let asked = both_make asks purges (each_task (ask config m) m) (in_turn m (each_row (purge_run config m) m ∷ [])) (tasks_make (ask config m)) purged in
      let planned = both_make plans (λ d. purges (asks d)) (each_row (plan_run config m) m) (in_turn m (each_task (ask config m) m ∷ each_row (purge_run config m) m ∷ [])) (rows_make (plan_run config m)) asked in
      let started = both_make starts (λ d. purges (asks (plans d))) (each_row (start_run m) m) (in_turn m (each_row (plan_run config m) m ∷ each_task (ask config m) m ∷ each_row (purge_run config m) m ∷ [])) (rows_make (start_run m)) planned in
      let merged = both_make merges (λ d. purges (asks (plans (starts d)))) (each_row (merge_run config m) m)
      (in_turn m (each_row (start_run m) m ∷ each_row (plan_run config m) m ∷ each_task (ask config m) m ∷ each_row (purge_run config m) m ∷ [])) (rows_make (merge_run config m)) started in
      both_make ends (λ d. purges (asks (plans (starts (merges d))))) (each_row (end_run config m) m)
      (in_turn m (each_row (merge_run config m) m ∷ each_row (start_run m) m ∷ each_row (plan_run config m) m ∷ each_task (ask config m) m ∷ each_row (purge_run config m) m ∷ [])) (rows_make (end_run config m)) merged

  -- ---- the cut
  -- a draft by its parts
  abbrev draft : Book → List Change → ℕ → ℕ → Draft
  draft b done n left = record { book = b; changes = done; places = n; left = left }

  cut_changes : (cs : List Change) (b : Book) (done : List Change) (n left : ℕ) → (drafted cs (draft b done n left)).changes ≡ done ++ within_bytes left (take n cs)
  cut_changes [] b done zero left = sym (append-nil done)
  cut_changes [] b done (suc n) left = sym (append-nil done)
  cut_changes (c ∷ cs) b done zero left = ap (λ x. x.changes) (stays (c ∷ cs) (draft b done zero left) refl) ∙ sym (append-nil done)
  cut_changes (c ∷ cs) b done (suc n) left = go (nat_le (change_bytes c) left) (cut_changes cs (apply m c b) (done ++ c ∷ []) n (left - change_bytes c))
    where
      go : (fits : Bool) → (drafted cs (draft (apply m c b) (done ++ c ∷ []) n (left - change_bytes c))).changes ≡ (done ++ c ∷ []) ++ within_bytes (left - change_bytes c) (take n cs) →
          (drafted cs (if fits then made m c (draft b done (suc n) left) n else ended (draft b done (suc n) left))).changes ≡ done ++ (if fits then c ∷ within_bytes (left - change_bytes c) (take n cs) else [])
      go true rest = rest ∙ append_assoc done (c ∷ []) (within_bytes (left - change_bytes c) (take n cs))
      go false rest = ap (λ x. x.changes) (stays cs (draft b done zero left) refl) ∙ sym (append-nil done)

  cut_book : (cs : List Change) (b : Book) (done : List Change) (n left : ℕ) → (drafted cs (draft b done n left)).book ≡ apply_all m (within_bytes left (take n cs)) b
  cut_book [] b done zero left = refl
  cut_book [] b done (suc n) left = refl
  cut_book (c ∷ cs) b done zero left = ap (λ x. x.book) (stays (c ∷ cs) (draft b done zero left) refl)
  cut_book (c ∷ cs) b done (suc n) left = go (nat_le (change_bytes c) left) (cut_book cs (apply m c b) (done ++ c ∷ []) n (left - change_bytes c))
    where
      go : (fits : Bool) → (drafted cs (draft (apply m c b) (done ++ c ∷ []) n (left - change_bytes c))).book ≡ apply_all m (within_bytes (left - change_bytes c) (take n cs)) (apply m c b) →
          (drafted cs (if fits then made m c (draft b done (suc n) left) n else ended (draft b done (suc n) left))).book ≡ apply_all m (if fits then c ∷ within_bytes (left - change_bytes c) (take n cs) else []) b
      go true rest = rest
      go false rest = ap (λ x. x.book) (stays cs (draft b done zero left) refl)

  -- both at once
  pub turned_is : (config : Config) (b : Book) → ((turned config m (fresh b)).changes ≡ turn_changes config b m) × ((turned config m (fresh b)).book ≡ apply_all m (turn_changes config b m) b)
  turned_is config b =
      let due : List Change = due_changes config m b in
      let left : ℕ = most_record_bytes - record_bytes [] in
      (ap (λ x. x.changes) (turned_due config (fresh b)) ∙ cut_changes due b [] most_changes left, ap (λ x. x.book) (turned_due config (fresh b)) ∙ cut_book due b [] most_changes left)
