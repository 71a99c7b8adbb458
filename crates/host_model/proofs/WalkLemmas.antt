-- What holds of each change of a walk, at the book with the earlier ones applied, and so of a turn.
use Rattle.std.proofs.Common.{◌≡◌, ℕ, zero, suc, ◌-◌, Bool, true, false, nat_le, List, [], ◌∷◌, ◌++◌, take, map, Option, Some, None, option_and_then, if◌then◌else◌, cond, refl, subst, sym, arith}
use Rattle.std.specs.Prelude.{◌==◌}
use Rattle.std.proofs.lemmas.Bool.Decides.{nat_tests}
use Rattle.ps_time.specs.Numbers.{most_changes}
use Rattle.run_states.specs.declared.row.RunRow.{RunRow}
use Rattle.run_states.specs.Rows.{find_row}
use Rattle.host_model.specs.declared.change.Change.{Change}
use Rattle.host_model.specs.declared.config.Config.{Config}
use Rattle.host_model.specs.declared.task_row.TaskRow.{TaskRow}
use Rattle.host_model.specs.Apply.{apply, apply_all}
use Rattle.host_model.specs.Book.{Book, find_task, keys_of_rows}
use Rattle.host_model.specs.Ending.{end_run}
use Rattle.host_model.specs.Merging.{merge_run}
use Rattle.host_model.specs.NextAttempt.{ask}
use Rattle.host_model.specs.Plan.{plan_run}
use Rattle.host_model.specs.Purging.{purge_run}
use Rattle.host_model.specs.RecordLength.{change_bytes, record_bytes}
use Rattle.host_model.specs.Starting.{start_run}
use Rattle.host_model.specs.Turn.{due_changes, within_bytes, turn_changes, most_record_bytes}
use Rattle.host_model.specs.Walk.{then_change, each, each_row, each_task, in_turn}
use Rattle.host_model.proofs.Placed.{find_row-own}

-- this holds of each change and the book before it
abbrev pub AllAlong : (Book → Change → Type 0) → ℕ → Book → List Change → Type 0
AllAlong P m b [] = Unit {0}
AllAlong P m b (c ∷ cs) = P b c × AllAlong P m (apply m c b) cs

-- a task that is found has the serial, and is found by its own
find_task-serial : (tasks : List TaskRow) (serial : ℕ) (t : TaskRow) → find_task tasks serial ≡ Some t → t.serial ≡ serial
find_task-serial [] serial t e = cc
find_task-serial (x ∷ xs) serial t e = go (x.serial == serial) refl e (find_task-serial xs serial t)
  where
    go : (b : Bool) → (x.serial == serial) ≡ b → cond b (Some x) (find_task xs serial) ≡ Some t → (find_task xs serial ≡ Some t → t.serial ≡ serial) → t.serial ≡ serial
    go true same e ih = let is : x ≡ t = cc in let at : x.serial ≡ serial = grind (arith, nat_tests) in subst (λ y. y.serial ≡ serial) is at
    go false same e ih = ih e

pub find_task-own : (tasks : List TaskRow) (serial : ℕ) (t : TaskRow) → find_task tasks serial ≡ Some t → find_task tasks t.serial ≡ Some t
find_task-own tasks serial t e = subst (λ n. find_task tasks n ≡ Some t) (sym (find_task-serial tasks serial t e)) e

-- where each change keeps a rule of the book, what needs the rule holds along
pub kept_along : (I : Book → Type 0) (P : Book → Change → Type 0) (m : ℕ) (cs : List Change) (b : Book) → I b → AllAlong (λ a c. I a → P a c × I (apply m c a)) m b cs → AllAlong P m b cs
kept_along I P m [] b rule all = tt
kept_along I P m (c ∷ cs) b rule all = let here = all.0 rule in (here.0, kept_along I P m cs (apply m c b) here.1 all.1)

module _ (P : Book → Change → Type 0) (m : ℕ) where
  step_along : (b : Book) (wish : Option Change) (next : Book → List Change) → ((c : Change) → wish ≡ Some c → P b c) → ((a : Book) → AllAlong P m a (next a)) → AllAlong P m b (then_change m b wish next)
  step_along b None next one rest = rest b
  step_along b (Some c) next one rest = (one c refl, rest (apply m c b))

  pub each_along : {K : Type 0} (wish : Book → K → Option Change) → ((b : Book) (k : K) (c : Change) → wish b k ≡ Some c → P b c) → (ks : List K) (b : Book) → AllAlong P m b (each wish m ks b)
  each_along wish one [] b = tt
  each_along wish one (k ∷ ks) b = step_along b (wish b k) (each wish m ks) (one b k) (each_along wish one ks)

  found_along : {K : Type 0} (wish : K → Option Change) (o : Option K) (c : Change) → option_and_then wish o ≡ Some c → (k : K) × (o ≡ Some k) × (wish k ≡ Some c)
  found_along wish None c e = cc
  found_along wish (Some k) c e = (k, refl, e)

  -- of a row that stands in the book, what is wished for is granted
  abbrev pub GrantsRow : (Book → RunRow → Option Change) → Type 0
  GrantsRow wish = (b : Book) (r : RunRow) (c : Change) → find_row b.rows r.key ≡ Some r → wish b r ≡ Some c → P b c

  -- and of a task
  abbrev pub GrantsTask : (Book → TaskRow → Option Change) → Type 0
  GrantsTask wish = (b : Book) (t : TaskRow) (c : Change) → find_task b.tasks t.serial ≡ Some t → wish b t ≡ Some c → P b c

  -- what holds where a wish is granted holds along the rows
  pub rows_along : (wish : Book → RunRow → Option Change) → GrantsRow wish → (b : Book) → AllAlong P m b (each_row wish m b)
  rows_along wish one b = each_along _ (λ a k c e. let f = found_along (wish a) (find_row a.rows k) c e in one a f.0 c (find_row-own a.rows k f.0 f.1) f.2) (keys_of_rows b.rows) b

  pub tasks_along : (wish : Book → TaskRow → Option Change) → GrantsTask wish → (b : Book) → AllAlong P m b (each_task wish m b)
  tasks_along wish one b = each_along _ (λ a serial c e. let f = found_along (wish a) (find_task a.tasks serial) c e in one a f.0 c (find_task-own a.tasks serial f.0 f.1) f.2) (map (λ t. t.serial) b.tasks) b

  pub both_along : (cs ds : List Change) (b : Book) → AllAlong P m b cs → AllAlong P m (apply_all m cs b) ds → AllAlong P m b (cs ++ ds)
  both_along [] ds b first later = later
  both_along (c ∷ cs) ds b first later = (first.0, both_along cs ds (apply m c b) first.1 later)

  pub take_along : (n : ℕ) (cs : List Change) (b : Book) → AllAlong P m b cs → AllAlong P m b (take n cs)
  take_along zero cs b all = tt
  take_along (suc n) [] b all = tt
  take_along (suc n) (c ∷ cs) b all = (all.0, take_along n cs (apply m c b) all.1)

  pub within_along : (left : ℕ) (cs : List Change) (b : Book) → AllAlong P m b cs → AllAlong P m b (within_bytes left cs)
  within_along left [] b all = tt
  within_along left (c ∷ cs) b all = by (nat_le (change_bytes c) left) (within_along (left - change_bytes c) cs (apply m c b) all.1)
    where
      by : (fits : Bool) → AllAlong P m (apply m c b) (within_bytes (left - change_bytes c) cs) → AllAlong P m b (if fits then c ∷ within_bytes (left - change_bytes c) cs else [])
      by true rest = (all.0, rest)
      by false rest = tt

  abbrev pub AllGroups : List (Book → List Change) → Type 0
  AllGroups [] = Unit {0}
  AllGroups (group ∷ groups) = ((b : Book) → AllAlong P m b (group b)) × AllGroups groups

  pub groups_along : (groups : List (Book → List Change)) → AllGroups groups → (b : Book) → AllAlong P m b (in_turn m groups b)
  groups_along [] all b = tt
  groups_along (group ∷ groups) all b = both_along (group b) (in_turn m groups (apply_all m (group b) b)) b (all.0 b) (groups_along groups all.1 (apply_all m (group b) b))

  -- what holds where each of the six wishes is granted holds of every change of a turn
  pub turn_along : (config : Config) → GrantsRow (end_run config m) → GrantsRow (merge_run config m) → GrantsRow (start_run m) → GrantsRow (plan_run config m) → GrantsTask (ask config m) → GrantsRow (purge_run config m) →
      (b : Book) → AllAlong P m b (turn_changes config b m)
  turn_along config ends merges starts plans asks purges b =
      let groups : List (Book → List Change) = each_row (end_run config m) m ∷ each_row (merge_run config m) m ∷ each_row (start_run m) m ∷ each_row (plan_run config m) m ∷ each_task (ask config m) m ∷ each_row (purge_run config m) m ∷ [] in
      let due : AllAlong P m b (due_changes config m b) = groups_along groups
      (rows_along (end_run config m) ends, (rows_along (merge_run config m) merges, (rows_along (start_run m) starts, (rows_along (plan_run config m) plans, (tasks_along (ask config m) asks, (rows_along (purge_run config m) purges, tt)))))) b in
      within_along (most_record_bytes - record_bytes []) (take most_changes (due_changes config m b)) b (take_along most_changes (due_changes config m b) b due)
