-- The rows of a lawful book are lawful after a change that suits them, ascend by key, and are at most one more.
use Rattle.std.specs.Ordering.{is_eq}
use Rattle.std.specs.Prelude.{IfSome, IsNone}
use Rattle.std.proofs.Common.{◌≡◌, ◌≤◌, ℕ, Bool, true, false, cond, not, ◌&&◌, List, All, map, Option, Some, None, is_some, option_map, refl, ap, sym, subst, ◌∙◌}
use Rattle.std.proofs.lemmas.List.Elements.{All-filter, All-map}
use Rattle.ps_time.specs.Key.{key_cmp}
use Rattle.ps_time.specs.Numbers.{greatest_moment}
use Rattle.ps_time.specs.Span.{Span}
use Rattle.ps_time.specs.declared.class.Class.{Class}
use Rattle.ps_time.specs.declared.key.RunKey.{RunKey}
use Rattle.ps_time.proofs.KeyLemmas.{key_cmp_total}
use Rattle.ps_time.proofs.SortedLemmas.{ascending-insert, ascending-map, ascending-without}
use Rattle.run_states.specs.Conflict.{blocks, in_conflict}
use Rattle.run_states.specs.Life.{close_row}
use Rattle.run_states.specs.Preemption.{give_way, planned_run}
use Rattle.run_states.specs.Rows.{find_row, put_row, IsAscendingRows}
use Rattle.run_states.specs.declared.row.RunRow.{RunRow}
use Rattle.run_states.specs.declared.why.Why.TheVariants.{Preempted}
use Rattle.host_model.specs.Apply.{purged_key, put_new, rows_after, without_row}
use Rattle.host_model.specs.Effect.{change_key, has_key}
use Rattle.host_model.specs.LawfulRow.{IsHostRow}
use Rattle.host_model.specs.NewRow.{new_row}
use Rattle.host_model.specs.Preemption.{incoming}
use Rattle.host_model.specs.declared.change.Change.{Change}
use Rattle.host_model.specs.declared.change.Change.TheVariants.{Accepted, Planned}
use Rattle.host_model.specs.declared.task_row.TaskRow.{TaskRow}
use Rattle.host_model.proofs.HostRows.{Suits, own_host, way_host}
use Rattle.host_model.proofs.Keyed.{key_is, key_same}
use Rattle.host_model.proofs.KeyedLists.{All-put}
use Rattle.host_model.proofs.NewRows.{SuitsNew, new_host}
use Rattle.host_model.proofs.Placed.{find_row-key}
use Rattle.host_model.proofs.RowLemmas.{all_of_found, found_of_all}
use Rattle.host_model.proofs.Standing.{changed_key, changed_row, way_evolves}

-- what a change at m asks of rows, so that they are lawful after it
pub record SuitsRows (self : ℕ) (tasks : List TaskRow) (m : ℕ) (rows : List RunRow) (c : Change) : Type 0 where
  -- the row of its key suits it
  pub own : (r : RunRow) → find_row rows r.key ≡ Some r → has_key r.key (change_key c) ≡ true → Suits self tasks c r
  -- what gives way isn't started
  pub way : (r : RunRow) → find_row rows r.key ≡ Some r → IfSome (incoming rows c) (λ i. in_conflict i.key i.class i.interval r ≡ true → IsNone r.started)
  -- and what comes
  pub new : SuitsNew self tasks c

-- ---- the row of a change's key doesn't give way to it
no_own_conflict : (k : RunKey) (class : Class) (i : Span) (r : RunRow) → r.key ≡ k → in_conflict k class i r ≡ false
no_own_conflict k class i r is = ap (λ b. not b && blocks class i r) (subst (λ j. is_eq (key_cmp r.key j) ≡ true) is (key_same r.key))

way_own : (m : ℕ) (c : Change) (rows : List RunRow) (r : RunRow) → has_key r.key (change_key c) ≡ true → give_way m (incoming rows c) r ≡ r
way_own m (Accepted p participants epoch) rows r own = ap (λ b. cond b (close_row (record { moment = m; why = Preempted p.key }) r) r) (no_own_conflict p.key _ _ r (key_is r.key p.key own))
way_own m (Planned k start tool epoch) rows r own = go (find_row rows k) refl
  where
    go : (o : Option RunRow) → find_row rows k ≡ o → give_way m (option_map (planned_run start) o) r ≡ r
    go None e = refl
    go (Some q) e = ap (λ b. cond b (close_row (record { moment = m; why = Preempted q.key }) r) r) (no_own_conflict q.key _ _ r (key_is r.key k own ∙ sym (find_row-key rows k q e)))
way_own m c rows r own = refl

module _ (self : ℕ) (tasks : List TaskRow) (m : ℕ) (rows : List RunRow) (c : Change) (within : m ≤ greatest_moment) (up : IsAscendingRows rows) (suits : SuitsRows self tasks m rows c) where
  changed_host : (r : RunRow) → find_row rows r.key ≡ Some r → IsHostRow self tasks m r → IsHostRow self tasks m (changed_row m tasks c rows r)
  changed_host r at row =
      let way : RunRow = give_way m (incoming rows c) r in
      own_host self tasks m c way within (way_host self tasks m (incoming rows c) r row (suits.way r at)) (λ own.
      let mine : has_key r.key (change_key c) ≡ true = subst (λ k. has_key k (change_key c) ≡ true) (way_evolves m (incoming rows c) r).key own in
      subst (Suits self tasks c) (sym (way_own m c rows r mine)) (suits.own r at mine))

  put_host : (o : Option RunRow) → IfSome o (IsHostRow self tasks m) → (rs : List RunRow) → All (IsHostRow self tasks m) rs → All (IsHostRow self tasks m) (put_new o rs)
  put_host None new rs all = all
  put_host (Some n) new rs all = go (is_some (find_row rs n.key))
    where
      go : (b : Bool) → All (IsHostRow self tasks m) (cond b rs (put_row rs n))
      go true = all
      go false = All-put (λ r. r.key) (IsHostRow self tasks m) n rs new all

  without_host : (o : Option RunKey) (rs : List RunRow) → All (IsHostRow self tasks m) rs → All (IsHostRow self tasks m) (without_row o rs)
  without_host None rs all = all
  without_host (Some k) rs all = All-filter (λ r. not (is_eq (key_cmp r.key k))) (IsHostRow self tasks m) rs all

  -- every row is lawful after the change
  pub rows_host : All (IsHostRow self tasks m) rows → All (IsHostRow self tasks m) (rows_after m tasks c rows)
  rows_host all =
      let f : RunRow → RunRow = changed_row m tasks c rows in
      let each : All (λ r. IsHostRow self tasks m (f r)) rows = all_of_found (λ r. IsHostRow self tasks m (f r)) rows up (λ r at. changed_host r at (found_of_all (IsHostRow self tasks m) r.key r rows all at)) in
      without_host (purged_key c) (put_new (new_row m c) (map f rows)) (put_host (new_row m c) (new_host self tasks m c suits.new) (map f rows) (All-map (IsHostRow self tasks m) f rows each))

-- ---- their order and their count
put_up : (o : Option RunRow) (rows : List RunRow) → IsAscendingRows rows → IsAscendingRows (put_new o rows)
put_up None rows up = up
put_up (Some n) rows up = go (find_row rows n.key) refl
  where
    go : (o : Option RunRow) → find_row rows n.key ≡ o → IsAscendingRows (cond (is_some o) rows (put_row rows n))
    go (Some x) e = up
    go None e = ascending-insert key_cmp_total (λ r. r.key) rows n up e

without_up : (o : Option RunKey) (rows : List RunRow) → IsAscendingRows rows → IsAscendingRows (without_row o rows)
without_up None rows up = up
without_up (Some k) rows up = ascending-without key_cmp_total (λ r. r.key) rows k up

-- rows ascend by key after every change
pub rows_up : (m : ℕ) (tasks : List TaskRow) (c : Change) (rows : List RunRow) → IsAscendingRows rows → IsAscendingRows (rows_after m tasks c rows)
rows_up m tasks c rows up =
    let f : RunRow → RunRow = changed_row m tasks c rows in
    without_up (purged_key c) (put_new (new_row m c) (map f rows)) (put_up (new_row m c) (map f rows) (ascending-map key_cmp_total (λ r. r.key) f (changed_key m tasks c rows) rows up))
