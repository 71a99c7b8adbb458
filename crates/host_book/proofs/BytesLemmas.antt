-- How many bytes of results a change brings, and that changes fit one after another where all that they bring can be counted.
use Rattle.std.proofs.Common.{◌≡◌, ℕ, ◌+◌, ◌-◌, ◌≤◌, Bool, true, false, cond, not, List, [], ◌∷◌, map, Option, Some, None, IfSome, is_some, All, refl, ap, ap₂, sym, subst, ◌∙◌, arith}
use Rattle.std.proofs.lemmas.List.Elements.{recursion_from_All}
use Rattle.std.proofs.lemmas.List.Sums.{sum_by-cons}
use Rattle.std.specs.List.{AllByRecursion}
use Rattle.std.specs.Ordering.{is_eq}
use Rattle.ps_time.specs.Key.{key_cmp}
use Rattle.ps_time.specs.declared.key.RunKey.{RunKey}
use Rattle.run_states.proofs.Place.{key_is}
use Rattle.run_states.specs.Conflict.{in_conflict}
use Rattle.run_states.specs.Life.{close_row}
use Rattle.run_states.specs.Preemption.{Incoming, give_way, planned_span}
use Rattle.run_states.specs.ResultBytes.{result_bytes, row_bytes}
use Rattle.run_states.specs.Rows.{IsAscendingRows, find_row, lift_row, put_row}
use Rattle.run_states.specs.declared.answer.Answer.TheVariants as answer
use Rattle.run_states.specs.declared.fact.Fact.TheVariants as fact
use Rattle.run_states.specs.declared.life.LifeStep.TheVariants as life
use Rattle.run_states.specs.declared.row.RunRow.{RunRow}
use Rattle.run_states.specs.declared.why.Why.TheVariants.{Preempted}
use Rattle.host_rows.proofs.RowLemmas.{above_other, bytes_cons, bytes_put, fact_brings, step_brings}
use Rattle.host_rows.specs.Ledger.{most_counted}
use Rattle.host_model.specs.Apply.{apply, put_new, rows_after, without_row, purged_key}
use Rattle.host_model.specs.Book.{Book}
use Rattle.host_model.specs.Effect.{change_key, effect, has_key, own_effect}
use Rattle.host_model.specs.MayFollow.{CanApplyAll}
use Rattle.host_model.specs.NewRow.{new_row}
use Rattle.host_model.specs.Preemption.{incoming}
use Rattle.host_model.specs.declared.change.Change.{Change}
use Rattle.host_model.specs.declared.change.Change.TheVariants as change
use Rattle.host_model.specs.declared.task_row.TaskRow.{TaskRow}
use Rattle.host_book.proofs.AcceptLemmas.{asked_bytes}
use Rattle.host_book.specs.Ready.{CanMakeAll, IsReady, all_brought, brought_bytes, changes_of}
use Rattle.host_book.specs.declared.ready.Ready.{Ready}

-- ---- a map that brings bytes to the row of one key alone
module _ (f : RunRow → RunRow) where
  pub kept_all : ((r : RunRow) → row_bytes (f r) ≡ row_bytes r) → (rows : List RunRow) → result_bytes (map f rows) ≡ result_bytes rows
  kept_all same [] = refl
  kept_all same (r ∷ rs) = bytes_cons (f r) (map f rs) ∙ (ap₂ (λ x y. x + y) (same r) (kept_all same rs) ∙ sym (bytes_cons r rs))

  module _ (k : RunKey) (n : ℕ) (same : (r : RunRow) → is_eq (key_cmp r.key k) ≡ false → row_bytes (f r) ≡ row_bytes r) (brings : (r : RunRow) → row_bytes (f r) ≤ row_bytes r + n) where
    kept_others : (rows : List RunRow) → AllByRecursion (λ y. is_eq (key_cmp y.key k) ≡ false) rows → result_bytes (map f rows) ≡ result_bytes rows
    kept_others [] all = refl
    kept_others (r ∷ rs) all = bytes_cons (f r) (map f rs) ∙ (ap₂ (λ x y. x + y) (same r all.0) (kept_others rs all.1) ∙ sym (bytes_cons r rs))

    pub brought : (rows : List RunRow) → IsAscendingRows rows → result_bytes (map f rows) ≤ result_bytes rows + n
    brought [] up = omega arith
    brought (r ∷ rs) up = go (is_eq (key_cmp r.key k)) refl (brought rs up.1)
      where
        go : (b : Bool) → is_eq (key_cmp r.key k) ≡ b → result_bytes (map f rs) ≤ result_bytes rs + n → result_bytes (map f (r ∷ rs)) ≤ result_bytes (r ∷ rs) + n
        go true is later =
            let one = brings r in
            let rest = kept_others rs (subst (λ j. AllByRecursion (λ y. is_eq (key_cmp y.key j) ≡ false) rs) (key_is r.key k is) (above_other r.key rs up.0)) in
            let after = bytes_cons (f r) (map f rs) in
            let before = bytes_cons r rs in
            omega (arith, one, rest, after, before)
        go false is later =
            let one = same r is in
            let after = bytes_cons (f r) (map f rs) in
            let before = bytes_cons r rs in
            omega (arith, one, later, after, before)

-- ---- what one change does
-- a row that gives way keeps its results and its key
way_kept : (b : Bool) (m : ℕ) (i : Incoming) (r : RunRow) → (row_bytes (cond b (close_row (record { moment = m; why = Preempted i.key }) r) r) ≡ row_bytes r) × ((cond b (close_row (record { moment = m; why = Preempted i.key }) r) r).key ≡ r.key)
way_kept true m i r = (refl, refl)
way_kept false m i r = (refl, refl)

way_both : (m : ℕ) (o : Option Incoming) (r : RunRow) → (row_bytes (give_way m o r) ≡ row_bytes r) × ((give_way m o r).key ≡ r.key)
way_both m None r = (refl, refl)
way_both m (Some i) r = way_kept (in_conflict i.key i.class i.interval r) m i r

effect_brings : (m : ℕ) (tasks : List TaskRow) (c : Change) (r : RunRow) → row_bytes (effect m tasks c r) ≤ row_bytes r + brought_bytes c
effect_brings m tasks (change.Posted t) r = omega arith
effect_brings m tasks (change.TaskClosed serial) r = omega arith
effect_brings m tasks (change.Accepted p participants epoch) r = omega arith
effect_brings m tasks (change.Asked q participants asker) r = omega arith
effect_brings m tasks (change.Planned k start tool epoch) r = fact_brings (fact.Planned tool (planned_span start r)) m r
effect_brings m tasks (change.Confirmed k) r = step_brings life.Confirm m r
effect_brings m tasks (change.Closed k why) r = step_brings (life.Close why) m r
effect_brings m tasks (change.Started k) r = step_brings life.Start m r
effect_brings m tasks (change.Ended k good body) r = step_brings (life.End good body) m r
effect_brings m tasks (change.FreeHeard k place free) r = fact_brings (fact.Answered place (answer.Free free)) m r
effect_brings m tasks (change.AcceptHeard k place) r = fact_brings (fact.Answered place answer.Accepted) m r
effect_brings m tasks (change.Told k place told) r = fact_brings (fact.Answered place (answer.Acknowledged told)) m r
effect_brings m tasks (change.MaterialHeard k) r = fact_brings fact.MaterialHeard m r
effect_brings m tasks (change.ResultHeard k place result) r = fact_brings (fact.Answered place (answer.Result result)) m r
effect_brings m tasks (change.Merged k body) r = fact_brings (fact.Merged body []) m r
effect_brings m tasks (change.Tried k index state) r = fact_brings (fact.Tried index state) m r
effect_brings m tasks (change.LimitsSet l) r = omega arith
effect_brings m tasks (change.Purged k) r = omega arith

own_brings : (m : ℕ) (tasks : List TaskRow) (c : Change) (r : RunRow) (b : Bool) → row_bytes (cond b (effect m tasks c r) r) ≤ row_bytes r + brought_bytes c
own_brings m tasks c r true = effect_brings m tasks c r
own_brings m tasks c r false = omega arith

new_bytes : (m : ℕ) (c : Change) → IfSome (new_row m c) (λ r. row_bytes r ≡ 0)
new_bytes m (change.Accepted p participants epoch) = refl
new_bytes m (change.Asked q participants asker) = asked_bytes m q participants asker
new_bytes m (change.Posted t) = tt
new_bytes m (change.TaskClosed serial) = tt
new_bytes m (change.Planned k start tool epoch) = tt
new_bytes m (change.Confirmed k) = tt
new_bytes m (change.Closed k why) = tt
new_bytes m (change.Started k) = tt
new_bytes m (change.Ended k good body) = tt
new_bytes m (change.FreeHeard k place answer) = tt
new_bytes m (change.AcceptHeard k place) = tt
new_bytes m (change.Told k place told) = tt
new_bytes m (change.MaterialHeard k) = tt
new_bytes m (change.ResultHeard k place result) = tt
new_bytes m (change.Merged k body) = tt
new_bytes m (change.Tried k index state) = tt
new_bytes m (change.LimitsSet l) = tt
new_bytes m (change.Purged k) = tt

put_bytes : (o : Option RunRow) (rows : List RunRow) → IfSome o (λ r. row_bytes r ≡ 0) → result_bytes (put_new o rows) ≤ result_bytes rows
put_bytes None rows bare = omega arith
put_bytes (Some r) rows bare = go (is_some (find_row rows r.key))
  where
    go : (b : Bool) → result_bytes (cond b rows (put_row rows r)) ≤ result_bytes rows
    go true = omega arith
    go false = let all = bytes_put rows r in omega (arith, all, bare)

lift_less : (k : RunKey) (rows : List RunRow) → result_bytes (lift_row rows k) ≤ result_bytes rows
lift_less k [] = omega arith
lift_less k (r ∷ rs) = go (is_eq (key_cmp r.key k)) (lift_less k rs)
  where
    go : (b : Bool) → result_bytes (lift_row rs k) ≤ result_bytes rs → result_bytes (cond (not b) (r ∷ lift_row rs k) (lift_row rs k)) ≤ result_bytes (r ∷ rs)
    go true later = let all = bytes_cons r rs in omega (arith, later, all)
    go false later = let all = bytes_cons r rs in let fewer = bytes_cons r (lift_row rs k) in omega (arith, later, all, fewer)

without_bytes : (o : Option RunKey) (rows : List RunRow) → result_bytes (without_row o rows) ≤ result_bytes rows
without_bytes None rows = omega arith
without_bytes (Some k) rows = lift_less k rows

-- the results of the rows after a change
pub change_brings : (m : ℕ) (tasks : List TaskRow) (c : Change) (rows : List RunRow) → IsAscendingRows rows → result_bytes (rows_after m tasks c rows) ≤ result_bytes rows + brought_bytes c
change_brings m tasks c rows up =
    let inner = go (change_key c) refl in
    let mid = put_bytes (new_row m c) (map own rows) (new_bytes m c) in
    let outer = without_bytes (purged_key c) (put_new (new_row m c) (map own rows)) in
    omega (arith, inner, mid, outer)
  where
    way : RunRow → RunRow
    way r = give_way m (incoming rows c) r

    own : RunRow → RunRow
    own r = own_effect m tasks c (way r)

    brings : (r : RunRow) → row_bytes (own r) ≤ row_bytes r + brought_bytes c
    brings r = let one = own_brings m tasks c (way r) (has_key (way r).key (change_key c)) in let same = (way_both m (incoming rows c) r).0 in omega (arith, one, same)

    go : (o : Option RunKey) → change_key c ≡ o → result_bytes (map own rows) ≤ result_bytes rows + brought_bytes c
    go None is = let all = kept_all own (λ r. ap (λ j. row_bytes (cond (has_key (way r).key j) (effect m tasks c (way r)) (way r))) is ∙ (way_both m (incoming rows c) r).0) rows in omega (arith, all)
    go (Some k) is = brought own k (brought_bytes c)
        (λ r other. ap (λ j. row_bytes (cond (has_key (way r).key j) (effect m tasks c (way r)) (way r))) is
        ∙ (ap (λ j. row_bytes (cond (is_eq (key_cmp j k)) (effect m tasks c (way r)) (way r))) (way_both m (incoming rows c) r).1
        ∙ (ap (λ b. row_bytes (cond b (effect m tasks c (way r)) (way r))) other
        ∙ (way_both m (incoming rows c) r).0)))
        brings rows up

-- ---- changes in a row
all_cons : (r : Ready) (rs : List Ready) → all_brought (r ∷ rs) ≡ brought_bytes r.change + all_brought rs
all_cons r rs = sum_by-cons (λ n. n) (brought_bytes r.change) (map (λ x. brought_bytes x.change) rs)

fit_each : (number m : ℕ) (rs : List Ready) (b : Book) → IsAscendingRows b.rows → AllByRecursion IsReady rs → CanApplyAll number m (changes_of rs) b → all_brought rs ≤ most_counted - result_bytes b.rows → CanMakeAll number m rs b
fit_each number m [] b up ready can bytes = tt
fit_each number m (r ∷ rs) b up ready can bytes =
    let all = all_cons r rs in
    let more = change_brings m b.tasks r.change b.rows up in (
      record { can = can.0; lawful = can.1; ready = ready.0; bytes = omega (arith, bytes, all) },
      fit_each number m rs (apply m r.change b) can.1.ascending ready.1 can.2 (omega (arith, bytes, all, more)),
    )

pub all_fit : (number m : ℕ) (rs : List Ready) (b : Book) → IsAscendingRows b.rows → All IsReady rs → CanApplyAll number m (changes_of rs) b → all_brought rs ≤ most_counted - result_bytes b.rows → CanMakeAll number m rs b
all_fit number m rs b up ready can bytes = fit_each number m rs b up (recursion_from_All IsReady rs ready) can bytes
