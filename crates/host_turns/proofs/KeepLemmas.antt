-- Every active run's key stays among those of the rows that were live by the turn's moment.
use Rattle.std.specs.Ordering.{is_eq}
use Rattle.std.specs.Prelude.{IsSome}
use Rattle.std.proofs.Common.{◌≡◌, ℕ, Bool, true, false, cond, List, [], ◌∷◌, map, filter, get_or, length, ◌<◌, suc, zero, Option, Some, None, is_some, refl, sym, ap, subst, ◌∙◌, arith}
use Rattle.ps_time.specs.Class.{conflicting_classes}
use Rattle.ps_time.specs.Key.{key_cmp}
use Rattle.ps_time.specs.Span.{Range}
use Rattle.ps_time.specs.declared.class.Class.{Class}
use Rattle.ps_time.specs.declared.class.Class.TheVariants.{Background, BackgroundMulti, Exclusive, Normal}
use Rattle.ps_time.specs.declared.key.RunKey.{RunKey}
use Rattle.plugin_core.specs.TestSpec.{test_class}
use Rattle.run_states.specs.Conflict.{in_conflict}
use Rattle.run_states.specs.Life.{close_row, closed_by, is_active, lapse_of, settled_row, settled_rows}
use Rattle.run_states.specs.Preemption.{Incoming, give_way}
use Rattle.run_states.specs.Rows.{find_row}
use Rattle.run_states.specs.declared.row.RunRow.{RunRow}
use Rattle.run_states.specs.declared.why.Closing.{Closing}
use Rattle.run_states.specs.declared.why.Denial.{Denial}
use Rattle.run_states.specs.declared.why.Cause.TheVariants.{Denied, NoSlot as no_slot, NoTool as no_tool}
use Rattle.run_states.specs.declared.why.Why.TheVariants.{Nonstart, Preempted}
use Rattle.host_model.specs.Apply.{apply}
use Rattle.host_model.specs.Book.{Book, latest_epoch, limits_in}
use Rattle.host_model.specs.Effect.{change_key, effect, has_key}
use Rattle.host_model.specs.Ending.{ended_with, tool_view}
use Rattle.host_model.specs.Fits.{objection}
use Rattle.host_model.specs.Merging.{merged_text}
use Rattle.host_model.specs.Plan.{change_of_plan, plan_asked, planned_proposal, unless_objected}
use Rattle.host_model.specs.Preemption.{incoming}
use Rattle.host_model.specs.declared.change.Change.{Change}
use Rattle.host_model.specs.declared.change.Change.TheVariants.{Closed, Merged, Planned as planned_change, Started, Tried}
use Rattle.host_model.specs.declared.config.Config.{Config}
use Rattle.host_model.specs.declared.lead.Planned.{Planned}
use Rattle.host_model.specs.declared.lead.Planned.TheVariants.{At, NoSlot, NoTool}
use Rattle.host_model.specs.declared.task_row.TaskRow.{TaskRow}
use Rattle.host_model.proofs.Clashes.{found_map}
use Rattle.host_model.proofs.GrownLemmas.{settled_evolves}
use Rattle.host_model.proofs.Keyed.{key_is, key_same}
use Rattle.host_model.proofs.Placed.{find_row-key}
use Rattle.host_model.proofs.EffectEvolves.{effect_evolves}
use Rattle.host_model.proofs.Standing.{changed_key, changed_row, effect_key, way_evolves}
use Rattle.host_model.proofs.Wishes.{end_granted, merge_granted, plan_granted, start_granted}
use Rattle.host_rows.specs.LiveKeys.{find_own}
use Rattle.host_rows.specs.Still.{is_live_by, keys_live_by}
use Rattle.host_rows.proofs.WaitLemmas.{both}
use Rattle.live_law.proofs.StillLemmas.{silent, unlive_ever}
use Rattle.host_turns.specs.Wishes.{HoldActive, HoldHindering}
use Rattle.host_turns.specs.Turns.{HoldExclusive, exclusive_keys, hindering_keys, is_exclusive_at, wish_of}
use Rattle.host_turns.specs.declared.due.Due.{Due}
use Rattle.host_turns.specs.declared.due.Due.TheVariants.{End, Merge, Start, Plan}

-- ---- keys
own_next : (k j : RunKey) (ks : List RunKey) → IsSome (find_own ks j) → IsSome (find_own (k ∷ ks) j)
own_next k j ks is = go (is_eq (key_cmp k j))
  where
    go : (b : Bool) → is_some (cond b (Some k) (find_own ks j)) ≡ true
    go true = refl
    go false = is

pub own_at : (ks : List RunKey) (i : ℕ) (d : RunKey) → i < length ks → IsSome (find_own ks (get_or ks i d))
own_at [] i d lt = absurd (omega arith)
own_at (k ∷ ks) zero d lt = ap (λ b. is_some (cond b (Some k) (find_own ks k))) (key_same k)
own_at (k ∷ ks) (suc i) d lt = own_next k (get_or ks i d) ks (own_at ks i d (omega arith))

-- ---- at first
live_own : (self m : ℕ) (rows : List RunRow) (k : RunKey) (r : RunRow) → find_row rows k ≡ Some r → is_live_by self m r ≡ true → IsSome (find_own (keys_live_by self m rows) k)
live_own self m [] k r at live = cc
live_own self m (x ∷ xs) k r at live = go (is_eq (key_cmp x.key k)) refl at (live_own self m xs k r)
  where
    others : List RunRow
    others = filter (is_live_by self m) xs

    rest : (t : Bool) → IsSome (find_own (keys_live_by self m xs) k) → IsSome (find_own (map (λ y. y.key) (cond t (x ∷ others) others)) k)
    rest false is = is
    rest true is = own_next x.key k (keys_live_by self m xs) is

    first : is_live_by self m x ≡ true → is_eq (key_cmp x.key k) ≡ true → IsSome (find_own (keys_live_by self m (x ∷ xs)) k)
    first is same = ap (λ t. is_some (find_own (map (λ y. y.key) (cond t (x ∷ others) others)) k)) is ∙ ap (λ b. is_some (cond b (Some x.key) (find_own (keys_live_by self m xs) k))) same

    go : (b : Bool) → is_eq (key_cmp x.key k) ≡ b → cond b (Some x) (find_row xs k) ≡ Some r → (find_row xs k ≡ Some r → is_live_by self m r ≡ true → IsSome (find_own (keys_live_by self m xs) k)) → IsSome (find_own (keys_live_by self m (x ∷ xs)) k)
    go true same found later = let own : x ≡ r = cc in first (subst (λ y. is_live_by self m y ≡ true) (sym own) live) same
    go false other found later = rest (is_live_by self m x) (later found live)

active_live : (self m : ℕ) (r : RunRow) → is_active r ≡ true → is_live_by self m r ≡ true
active_live self m r active = go (is_live_by self m r) refl
  where
    go : (t : Bool) → is_live_by self m r ≡ t → t ≡ true
    go true is = refl
    go false is = let never : false ≡ true = sym (silent self r (unlive_ever self m r is)).inactive ∙ active in cc

closed_active : (o : Option Closing) (r : RunRow) → is_active (closed_by o r) ≡ is_active r
closed_active None r = refl
closed_active (Some c) r = refl

-- the active runs of a book that settled are among those that were live
pub settled_active : (self m : ℕ) (rows : List RunRow) → HoldActive (keys_live_by self m rows) (settled_rows m rows)
settled_active self m rows k r at active =
    let q = found_map (settled_row m) (λ x. (settled_evolves m x).key) rows k r at in
    let was : is_active q.0 ≡ true = sym (closed_active (lapse_of m q.0) q.0) ∙ (ap is_active q.2 ∙ active) in
    live_own self m rows k q.0 q.1 (active_live self m q.0 was)

-- ---- exclusive runs
filter_own : (p : RunKey → Bool) (ks : List RunKey) (k : RunKey) → p k ≡ true → IsSome (find_own ks k) → IsSome (find_own (filter p ks) k)
filter_own p [] k passes own = own
filter_own p (j ∷ ks) k passes own = go (is_eq (key_cmp j k)) refl own (filter_own p ks k passes)
  where
    rest : (t : Bool) → IsSome (find_own (filter p ks) k) → IsSome (find_own (cond t (j ∷ filter p ks) (filter p ks)) k)
    rest true is = own_next j k (filter p ks) is
    rest false is = is

    go : (b : Bool) → is_eq (key_cmp j k) ≡ b → is_some (cond b (Some j) (find_own ks k)) ≡ true → (IsSome (find_own ks k) → IsSome (find_own (filter p ks) k)) → IsSome (find_own (cond (p j) (j ∷ filter p ks) (filter p ks)) k)
    go true same found later =
        let here : p j ≡ true = ap p (key_is j k same) ∙ passes in
        ap (λ b. is_some (find_own (cond b (j ∷ filter p ks) (filter p ks)) k)) here ∙ ap (λ b. is_some (cond b (Some j) (find_own (filter p ks) k))) same
    go false other found later = rest (p j) (later found)

-- of a book that settled they are those of the rows before
pub settled_exclusive : (m : ℕ) (rows : List RunRow) (live : List RunKey) → HoldExclusive live (exclusive_keys rows live) (settled_rows m rows)
settled_exclusive m rows live k r at class own =
    let q = found_map (settled_row m) (λ x. (settled_evolves m x).key) rows k r at in
    let was : conflicting_classes (test_class q.0.test) Normal ≡ true = subst (λ t. conflicting_classes (test_class t) Normal ≡ true) (ap (λ y. y.test) (sym q.2) ∙ (settled_evolves m q.0).test) class in
    filter_own (λ j. is_exclusive_at (find_row rows j)) live k (ap is_exclusive_at q.1 ∙ was) own

none_background : (a : Class) → conflicting_classes a Background ≡ false
none_background Exclusive = refl
none_background Normal = refl
none_background Background = refl
none_background BackgroundMulti = refl

none_multi : (a : Class) → conflicting_classes a BackgroundMulti ≡ false
none_multi Exclusive = refl
none_multi Normal = refl
none_multi Background = refl
none_multi BackgroundMulti = refl

-- what hinders a run of the class is among the keys for it
pub hindering_held : (live exclusive : List RunKey) (rows : List RunRow) → HoldActive live rows → HoldExclusive live exclusive rows → (class : Class) → HoldHindering class (hindering_keys class live exclusive) rows
hindering_held live exclusive rows active held Exclusive k r at hinders = active k r at (both _ _ hinders).0
hindering_held live exclusive rows active held Normal k r at hinders = held k r at (both _ _ hinders).1 (active k r at (both _ _ hinders).0)
hindering_held live exclusive rows active held Background k r at hinders = let never : false ≡ true = sym (none_background (test_class r.test)) ∙ (both (is_active r) (conflicting_classes (test_class r.test) Background) hinders).1 in cc
hindering_held live exclusive rows active held BackgroundMulti k r at hinders = let never : false ≡ true = sym (none_multi (test_class r.test)) ∙ (both (is_active r) (conflicting_classes (test_class r.test) BackgroundMulti) hinders).1 in cc

-- a change leaves the tests of rows
effect_test : (m : ℕ) (tasks : List TaskRow) (x : Change) (r : RunRow) → (effect m tasks x r).test ≡ r.test
effect_test m tasks (Tried k index state) r = refl
effect_test m tasks x r = (effect_evolves m tasks x r tt).test

changed_test : (m : ℕ) (tasks : List TaskRow) (x : Change) (rows : List RunRow) (r : RunRow) → (changed_row m tasks x rows r).test ≡ r.test
changed_test m tasks x rows r = own (has_key way.key (change_key x)) ∙ (way_evolves m (incoming rows x) r).test
  where
    way : RunRow
    way = give_way m (incoming rows x) r

    own : (t : Bool) → (cond t (effect m tasks x way) way).test ≡ way.test
    own true = effect_test m tasks x way
    own false = refl

-- ---- after one change
way_active : (m : ℕ) (o : Option Incoming) (r : RunRow) → is_active (give_way m o r) ≡ is_active r
way_active m None r = refl
way_active m (Some i) r = go (in_conflict i.key i.class i.interval r)
  where
    go : (b : Bool) → is_active (cond b (close_row (record { moment = m; why = Preempted i.key }) r) r) ≡ is_active r
    go true = refl
    go false = refl

-- of the row of one of these keys
module _ (keys exclusive : List RunKey) (m : ℕ) (b : Book) (k : RunKey) (live : IsSome (find_own keys k)) (hold : HoldActive keys b.rows) (held : HoldExclusive keys exclusive b.rows) where
  abbrev After : Change → Type 0
  After x = HoldActive keys (apply m x b).rows × HoldExclusive keys exclusive (apply m x b).rows

  exclusive_changed : (x : Change) → (apply m x b).rows ≡ map (changed_row m b.tasks x b.rows) b.rows → HoldExclusive keys exclusive (apply m x b).rows
  exclusive_changed x rows_are j r at class own =
      let q = found_map (changed_row m b.tasks x b.rows) (changed_key m b.tasks x b.rows) b.rows j r (ap (λ rows. find_row rows j) (sym rows_are) ∙ at) in
      held j q.0 q.1 (subst (λ t. conflicting_classes (test_class t) Normal ≡ true) (ap (λ y. y.test) (sym q.2) ∙ changed_test m b.tasks x b.rows q.0) class) own

  active_changed : (x : Change) → (apply m x b).rows ≡ map (changed_row m b.tasks x b.rows) b.rows → change_key x ≡ Some k → HoldActive keys (apply m x b).rows
  active_changed x rows_are own j r at active =
      let q = found_map (changed_row m b.tasks x b.rows) (changed_key m b.tasks x b.rows) b.rows j r (ap (λ rows. find_row rows j) (sym rows_are) ∙ at) in
      go q.0 q.1 q.2 (has_key (give_way m (incoming b.rows x) q.0).key (change_key x)) refl
    where
      go : (q : RunRow) → find_row b.rows j ≡ Some q → changed_row m b.tasks x b.rows q ≡ r → (t : Bool) → has_key (give_way m (incoming b.rows x) q).key (change_key x) ≡ t → IsSome (find_own keys j)
      go q found is true same =
          let way : RunRow = give_way m (incoming b.rows x) q in
          let way_key : way.key ≡ k = key_is way.key k (ap (has_key way.key) (sym own) ∙ same) in
          let row_key : r.key ≡ j = find_row-key (apply m x b).rows j r at in
          let changed : r.key ≡ way.key = ap (λ y. y.key) (sym is) ∙ (ap (λ t. (cond t (effect m b.tasks x way) way).key) same ∙ effect_key m b.tasks x way) in
          subst (λ y. IsSome (find_own keys y)) (sym way_key ∙ (sym changed ∙ row_key)) live
      go q found is false other =
          let way : RunRow = give_way m (incoming b.rows x) q in
          let same : way ≡ r = ap (λ t. cond t (effect m b.tasks x way) way) (sym other) ∙ is in
          hold j q found (sym (way_active m (incoming b.rows x) q) ∙ (ap is_active same ∙ active))

  row_changed : (x : Change) → (apply m x b).rows ≡ map (changed_row m b.tasks x b.rows) b.rows → change_key x ≡ Some k → After x
  row_changed x rows_are own = (active_changed x rows_are own, exclusive_changed x rows_are)

module _ (c : Config) (keys exclusive : List RunKey) (b : Book) (r : RunRow) (live : IsSome (find_own keys r.key)) (hold : HoldActive keys b.rows) (held : HoldExclusive keys exclusive b.rows) where
  abbrev Next : Change → Type 0
  Next x = HoldActive keys (apply b.moment x b).rows × HoldExclusive keys exclusive (apply b.moment x b).rows

  objected_active : (start : ℕ) (tool : List ℕ) (o : Option Denial) → Next (unless_objected c b (planned_proposal r start tool) o)
  objected_active start tool None = row_changed keys exclusive b.moment b r.key live hold held (planned_change r.key start tool (latest_epoch b)) refl refl
  objected_active start tool (Some denial) = row_changed keys exclusive b.moment b r.key live hold held (Closed r.key (Nonstart (Denied c.name denial))) refl refl

  planned_active : (v : Planned) → Next (change_of_plan c b b.moment r v)
  planned_active (At start tool) = objected_active start tool (objection c.installed (limits_in c b) b.rows b.moment (planned_proposal r start tool))
  planned_active NoTool = row_changed keys exclusive b.moment b r.key live hold held (Closed r.key (Nonstart no_tool)) refl refl
  planned_active NoSlot = row_changed keys exclusive b.moment b r.key live hold held (Closed r.key (Nonstart no_slot)) refl refl

  plan_active : (o : Option Range) → Next (plan_asked c b b.moment r o)
  plan_active None = row_changed keys exclusive b.moment b r.key live hold held (Closed r.key (Nonstart no_slot)) refl refl
  plan_active (Some w) = planned_active _

  pub due_active : (due : Due) (x : Change) → wish_of due c b.moment b r ≡ Some x → Next x
  due_active End x e = let g = end_granted c b.moment b r x e in subst Next g.is (row_changed keys exclusive b.moment b r.key live hold held (ended_with r (tool_view c r g.started) g.outcome) refl refl)
  due_active Merge x e = let g = merge_granted c b.moment b r x e in subst Next g.is (row_changed keys exclusive b.moment b r.key live hold held (Merged r.key (merged_text r)) refl refl)
  due_active Start x e = let g = start_granted b.moment b r x e in subst Next g.is (row_changed keys exclusive b.moment b r.key live hold held (Started r.key) refl refl)
  due_active Plan x e = let g = plan_granted c b.moment b r x e in subst Next g.1 (plan_active r.question)
