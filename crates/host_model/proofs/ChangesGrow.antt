-- A book grows by each change that lets archives go on and purges no row before its time.
use Rattle.std.specs.Ordering.{is_eq}
use Rattle.std.specs.Prelude.{◌==◌, find}
use Rattle.std.proofs.Common.{◌≡◌, ◌≤◌, ◌<◌, ◌+◌, ℕ, zero, suc, Bool, true, false, cond, List, [], ◌∷◌, ◌++◌, map, Option, Some, None, option_map, slice_get, refl, sym, ap, subst, ◌∙◌, arith}
use Rattle.ps_time.specs.Key.{key_cmp}
use Rattle.ps_time.specs.Numbers.{keeping}
use Rattle.ps_time.specs.declared.key.RunKey.{RunKey}
use Rattle.limit_apply.specs.Limits.{LimitsConfig as Limits}
use Rattle.run_states.specs.Life.{first_there}
use Rattle.run_states.specs.Purging.{rest_of}
use Rattle.run_states.specs.Rows.{find_row}
use Rattle.run_states.specs.declared.row.RunRow.{RunRow}
use Rattle.host_model.specs.Apply.{apply, apply_all, book_after, close_task, epochs_after, new_pair, pairs_after, purged_key, put_pair, recorded, settled, tasks_after, without_pair}
use Rattle.host_model.specs.Book.{Book, epoch_of, find_pair, find_task}
use Rattle.host_model.specs.Effect.{change_key, has_key}
use Rattle.host_model.specs.Grown.{Grown, Remains, TaskEvolves}
use Rattle.host_model.specs.declared.change.Change.{Change}
use Rattle.host_model.specs.declared.change.Change.TheVariants.{Posted, TaskClosed, LimitsSet}
use Rattle.host_model.specs.declared.change.Changes.{Changes}
use Rattle.host_model.specs.declared.task_row.TaskRow.{TaskRow}
use Rattle.host_model.proofs.EffectEvolves.{GoesOn}
use Rattle.host_model.proofs.Evolve.{first_keeps}
use Rattle.host_model.proofs.GrownLemmas.{Grown-refl, Grown-trans, TaskEvolves-refl, settled_grown}
use Rattle.host_model.proofs.Placed.{find_row-key}
use Rattle.host_model.proofs.Standing.{IsOther, row_stands}
use Rattle.host_model.proofs.WalkLemmas.{AllAlong}
use Rattle.host_model.proofs.Keyed

-- what a change asks of a book, so that the book grows
pub record GrowsBy (b : Book) (c : Change) : Type 0 where
  -- an attempt at an archive goes on from its state
  pub goes_on : (r : RunRow) → find_row b.rows r.key ≡ Some r → has_key r.key (change_key c) ≡ true → GoesOn c r
  -- a row that goes is long at rest
  pub in_time : (k : RunKey) (r : RunRow) → purged_key c ≡ Some k → find_row b.rows k ≡ Some r → rest_of r + keeping ≤ b.moment

-- ---- epochs
get_append : {A : Type 0} (xs ys : List A) (i : ℕ) (a : A) → slice_get xs i ≡ Some a → slice_get (xs ++ ys) i ≡ Some a
get_append [] ys i a e = cc
get_append (x ∷ xs) ys zero a e = e
get_append (x ∷ xs) ys (suc i) a e = get_append xs ys i a e

epochs_keep : (c : Change) (epochs : List Limits) (i : ℕ) → Remains (slice_get epochs i) (slice_get (epochs_after c epochs) i)
epochs_keep (LimitsSet l) epochs i a e = get_append epochs (l ∷ []) i a e
epochs_keep c epochs i a e = e

-- ---- tasks
pub find_append : {A : Type 0} (p : A → Bool) (xs ys : List A) (a : A) → find p xs ≡ Some a → find p (xs ++ ys) ≡ Some a
find_append p [] ys a e = cc
find_append p (x ∷ xs) ys a e = go (p x) e (find_append p xs ys a)
  where
    go : (b : Bool) → cond b (Some x) (find p xs) ≡ Some a → (find p xs ≡ Some a → find p (xs ++ ys) ≡ Some a) → cond b (Some x) (find p (xs ++ ys)) ≡ Some a
    go true e ih = e
    go false e ih = ih e

pub closed_serial : (m serial : ℕ) (t : TaskRow) → (close_task m serial t).serial ≡ t.serial
closed_serial m serial t = elim (t.serial == serial) as (λ b. (cond b (record t { closed = first_there t.closed (Some m) }) t).serial ≡ t.serial) [ true ↦ refl | false ↦ refl ]

closed_task : (m serial : ℕ) (t : TaskRow) → TaskEvolves t (close_task m serial t)
closed_task m serial t = elim (t.serial == serial) as (λ b. TaskEvolves t (cond b (record t { closed = first_there t.closed (Some m) }) t)) [
  | true ↦ record { serial = refl; task = refl; asker = refl; posted = refl; closed = first_keeps t.closed (Some m) }
  | false ↦ TaskEvolves-refl t
]

pub find_task-closed : (m closed serial : ℕ) (tasks : List TaskRow) → find_task (map (close_task m closed) tasks) serial ≡ option_map (close_task m closed) (find_task tasks serial)
find_task-closed m closed serial [] = refl
find_task-closed m closed serial (t ∷ ts) =
    let here : ((close_task m closed t).serial == serial) ≡ (t.serial == serial) = ap (λ n. n == serial) (closed_serial m closed t) in
    rw here (elim (t.serial == serial) as (λ b. cond b (Some (close_task m closed t)) (find_task (map (close_task m closed) ts) serial) ≡ option_map (close_task m closed) (cond b (Some t) (find_task ts serial))) [
      | true ↦ refl
      | false ↦ find_task-closed m closed serial ts
    ])

tasks_stand : (m : ℕ) (c : Change) (tasks : List TaskRow) (serial : ℕ) (t : TaskRow) → find_task tasks serial ≡ Some t → (u : TaskRow) × (find_task (tasks_after m c tasks) serial ≡ Some u) × TaskEvolves t u
tasks_stand m (Posted new) tasks serial t e = (t, find_append (λ t. t.serial == serial) tasks (new ∷ []) t e, TaskEvolves-refl t)
tasks_stand m (TaskClosed closed) tasks serial t e = (close_task m closed t, find_task-closed m closed serial tasks ∙ ap (option_map (close_task m closed)) e, closed_task m closed t)
tasks_stand m c tasks serial t e = (t, e, TaskEvolves-refl t)

-- ---- pairs
put_pair_keeps : (o : Option (RunKey × ℕ)) (pairs : List (RunKey × ℕ)) (k : RunKey) (p : RunKey × ℕ) → find_pair pairs k ≡ Some p → find_pair (put_pair o pairs) k ≡ Some p
put_pair_keeps None pairs k p e = e
put_pair_keeps (Some q) pairs k p e = Keyed.put_keeps (λ p. p.0) q pairs k p e

without_pair_keeps : (o : Option RunKey) (pairs : List (RunKey × ℕ)) (k : RunKey) (p : RunKey × ℕ) → IsOther k o → find_pair pairs k ≡ Some p → find_pair (without_pair o pairs) k ≡ Some p
without_pair_keeps None pairs k p other e = e
without_pair_keeps (Some j) pairs k p other e = Keyed.without_keeps (λ p. p.0) j k other pairs p e

epoch_stays : (m : ℕ) (c : Change) (b : Book) (k : RunKey) → IsOther k (purged_key c) → Remains (epoch_of b k) (epoch_of (apply m c b) k)
epoch_stays m c b k other = go (find_pair b.pairs k) refl
  where
    go : (o : Option (RunKey × ℕ)) → find_pair b.pairs k ≡ o → Remains (option_map (λ p. p.1) o) (option_map (λ p. p.1) (find_pair (pairs_after c b.pairs) k))
    go None here n e = cc
    go (Some p) here n e =
        let put : find_pair (put_pair (new_pair c) b.pairs) k ≡ Some p = put_pair_keeps (new_pair c) b.pairs k p here in
        ap (option_map (λ p. p.1)) (without_pair_keeps (purged_key c) (put_pair (new_pair c) b.pairs) k p other put) ∙ e

-- ---- one change
pub apply_grown : (m : ℕ) (c : Change) (b : Book) → GrowsBy b c → Grown b (apply m c b)
apply_grown m c b by = record {
  moment = omega arith;
  epochs = λ i. epochs_keep c b.epochs i;
  tasks = λ serial t e. tasks_stand m c b.tasks serial t e;
  rows = λ k r e young.
      let own : find_row b.rows r.key ≡ Some r = subst (λ j. find_row b.rows j ≡ Some r) (sym (find_row-key b.rows k r e)) e in
      let other : IsOther k (purged_key c) = stays k r e young (purged_key c) refl in
      let s = row_stands m b.tasks c b.rows k r e (by.goes_on r own) other in
      record { row = s.0; found = s.1; evolves = s.2; epoch = epoch_stays m c b k other };
}
  where
    stays : (k : RunKey) (r : RunRow) → find_row b.rows k ≡ Some r → b.moment < rest_of r + keeping → (o : Option RunKey) → purged_key c ≡ o → IsOther k o
    stays k r e young None is = tt
    stays k r e young (Some j) is = go (is_eq (key_cmp k j)) refl
      where
        go : (same : Bool) → is_eq (key_cmp k j) ≡ same → same ≡ false
        go false h = refl
        go true h = let old : rest_of r + keeping ≤ b.moment = by.in_time j r is (subst (λ i. find_row b.rows i ≡ Some r) (Keyed.key_is k j h) e) in absurd (omega (arith, old, young))

-- ---- several, and a record of them
pub apply_all_grown : (m : ℕ) (cs : List Change) (b : Book) → AllAlong GrowsBy m b cs → Grown b (apply_all m cs b)
apply_all_grown m [] b all = Grown-refl b
apply_all_grown m (c ∷ cs) b all = Grown-trans b (apply m c b) (apply_all m cs (apply m c b)) (apply_grown m c b all.0) (apply_all_grown m cs (apply m c b) all.1)

pub recorded_grown : (b : Book) (changes : Changes) → b.moment ≤ changes.moment → AllAlong GrowsBy changes.moment (settled changes.moment b) changes.list → Grown b (recorded b changes)
recorded_grown b changes later all = Grown-trans b (settled changes.moment b) (recorded b changes) (settled_grown changes.moment b later) (apply_all_grown changes.moment changes.list (settled changes.moment b) all)

-- a step: with no change the book stays
pub after_grown : (b : Book) (m : ℕ) (cs : List Change) → b.moment ≤ m → AllAlong GrowsBy m (settled m b) cs → Grown b (book_after b (record { moment = m; list = cs }))
after_grown b m [] later all = Grown-refl b
after_grown b m (c ∷ cs) later all = recorded_grown b (record { moment = m; list = c ∷ cs }) later all
