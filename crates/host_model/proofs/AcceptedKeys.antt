-- The keys of the accepted rows, as rows change, come and go.
use Rattle.std.specs.Ordering.{is_eq}
use Rattle.std.specs.List.{AllByRecursion, filter}
use Rattle.std.specs.declared.cmp.Ordering.{Ordering}
use Rattle.std.specs.declared.cmp.Ordering.TheVariants.{Less, Equal, Greater}
use Rattle.std.proofs.Common.{◌≡◌, ℕ, zero, suc, Bool, true, false, cond, ◌&&◌, List, [], ◌∷◌, map, Option, Some, None, is_some, refl, sym, ap, ap₂, subst, ◌∙◌}
use Rattle.std.proofs.lemmas.List.Elements.{All-from_recursion, recursion_from_All}
use Rattle.ps_time.specs.Key.{key_cmp}
use Rattle.ps_time.specs.declared.key.RunKey.{RunKey}
use Rattle.ps_time.proofs.KeyLemmas.{key_cmp_total}
use Rattle.ps_time.proofs.SortedLemmas.{insert_front}
use Rattle.run_states.specs.Effect.{accept_row, change_other, confirmed_if, is_alone, is_complete, with_acceptance, with_free, with_result, with_told}
use Rattle.run_states.specs.Life.{close_row, first_there, is_booked}
use Rattle.run_states.specs.Preemption.{Incoming, give_way, planned_span}
use Rattle.run_states.specs.Rows.{find_row, lift_row, put_row, IsAscendingRows}
use Rattle.run_states.specs.Conflict.{in_conflict}
use Rattle.run_states.specs.declared.answer.Other.{Other}
use Rattle.run_states.specs.declared.row.RunRow.{RunRow}
use Rattle.run_states.specs.declared.why.Why.TheVariants.{Preempted}
use Rattle.host_model.specs.Book.{keys_of_rows}
use Rattle.host_model.specs.Effect.{change_key, effect, has_key}
use Rattle.host_model.specs.Preemption.{incoming}
use Rattle.host_model.specs.declared.change.Change.{Change}
use Rattle.host_model.specs.declared.change.Change.TheVariants.{Planned, AcceptHeard, FreeHeard, ResultHeard, Told as told_there}
use Rattle.host_model.specs.declared.task_row.TaskRow.{TaskRow}
use Rattle.host_model.proofs.ClashLemmas.{IsCalm}
use Rattle.host_model.proofs.Keyed.{key_is}
use Rattle.host_model.proofs.KeyedLists.{drop_key, has, keys_drop, keys_put, own_key, passed_drop, passed_put, passed_put_no, put_key}
use Rattle.host_model.proofs.Placed.{find_row-key}
use Rattle.host_model.proofs.RowLemmas.{all_of_found, found_of_all}
use Rattle.host_model.proofs.Standing.{changed_row, way_evolves}

abbrev pub is_accepted : RunRow → Bool
is_accepted r = is_some r.accepted

abbrev pub accepted_keys : List RunRow → List RunKey
accepted_keys rows = keys_of_rows (filter is_accepted rows)

-- ---- a row comes or goes
pub accepted_put : (rows : List RunRow) (n : RunRow) → IsAscendingRows rows → is_accepted n ≡ true → accepted_keys (put_row rows n) ≡ put_key (accepted_keys rows) n.key
accepted_put rows n up passes = ap keys_of_rows (passed_put (λ r. r.key) is_accepted rows n up passes) ∙ keys_put (λ r. r.key) (filter is_accepted rows) n

pub unaccepted_put : (rows : List RunRow) (n : RunRow) → is_accepted n ≡ false → accepted_keys (put_row rows n) ≡ accepted_keys rows
unaccepted_put rows n fails = ap keys_of_rows (passed_put_no (λ r. r.key) is_accepted rows n fails)

pub accepted_drop : (rows : List RunRow) (k : RunKey) → accepted_keys (lift_row rows k) ≡ drop_key (accepted_keys rows) k
accepted_drop rows k = ap keys_of_rows (passed_drop (λ r. r.key) is_accepted rows k) ∙ keys_drop (λ r. r.key) (filter is_accepted rows) k

-- ---- no accepted row has the key
module _ (k : RunKey) where
  -- an accepted row with another key
  abbrev IsApart : RunRow → Type 0
  IsApart r = is_accepted r ≡ true → is_eq (key_cmp r.key k) ≡ false

  apart_none : (rows : List RunRow) → AllByRecursion IsApart rows → has (accepted_keys rows) k ≡ false
  apart_none [] all = refl
  apart_none (r ∷ rs) all = go (is_accepted r) refl (apart_none rs all.1)
    where
      go : (b : Bool) → is_accepted r ≡ b → has (accepted_keys rs) k ≡ false → has (keys_of_rows (cond b (r ∷ filter is_accepted rs) (filter is_accepted rs))) k ≡ false
      go true e ih = rw (all.0 e) ih
      go false e ih = ih

  pub none_accepted : (rows : List RunRow) → IsAscendingRows rows → ((r : RunRow) → find_row rows k ≡ Some r → is_accepted r ≡ false) → has (accepted_keys rows) k ≡ false
  none_accepted rows up none = apart_none rows (recursion_from_All IsApart rows (all_of_found IsApart rows up apart))
    where
      apart : (r : RunRow) → find_row rows r.key ≡ Some r → IsApart r
      apart r at accepted = go (is_eq (key_cmp r.key k)) refl
        where
          go : (b : Bool) → is_eq (key_cmp r.key k) ≡ b → b ≡ false
          go false e = refl
          go true e = let here : is_accepted r ≡ false = none r (subst (λ j. find_row rows j ≡ Some r) (key_is r.key k e) at) in cc

-- ---- rows that keep their keys, accepted where they were before
module _ (f : RunRow → RunRow) (same : (r : RunRow) → (f r).key ≡ r.key) where
  kept_keys : (rows : List RunRow) → AllByRecursion (λ r. is_accepted (f r) ≡ is_accepted r) rows → accepted_keys (map f rows) ≡ accepted_keys rows
  kept_keys [] all = refl
  kept_keys (r ∷ rs) all =
      let rest : accepted_keys (map f rs) ≡ accepted_keys rs = kept_keys rs all.1 in
      ap (λ b. keys_of_rows (cond b (f r ∷ filter is_accepted (map f rs)) (filter is_accepted (map f rs)))) all.0
      ∙ elim (is_accepted r) as (λ b. keys_of_rows (cond b (f r ∷ filter is_accepted (map f rs)) (filter is_accepted (map f rs))) ≡ keys_of_rows (cond b (r ∷ filter is_accepted rs) (filter is_accepted rs))) [
        | true ↦ ap₂ (λ k ks. k ∷ ks) (same r) rest
        | false ↦ rest
      ]

  every : (P : RunRow → Type 0) → ((r : RunRow) → P r) → (rows : List RunRow) → AllByRecursion P rows
  every P each [] = tt
  every P each (r ∷ rs) = (each r, every P each rs)

  pub kept_accepted : ((r : RunRow) → is_accepted (f r) ≡ is_accepted r) → (rows : List RunRow) → accepted_keys (map f rows) ≡ accepted_keys rows
  kept_accepted each rows = kept_keys rows (every (λ r. is_accepted (f r) ≡ is_accepted r) each rows)

  -- the row of a key is accepted
  module _ (k : RunKey) (accepts : (r : RunRow) → is_accepted (f r) ≡ cond (is_eq (key_cmp r.key k)) true (is_accepted r)) where
    above_kept : (rows : List RunRow) → AllByRecursion (λ y. key_cmp k y.key ≡ Less) rows → AllByRecursion (λ r. is_accepted (f r) ≡ is_accepted r) rows
    above_kept [] all = tt
    above_kept (r ∷ rs) all =
        let above : key_cmp r.key k ≡ Greater = rw (key_cmp_total.antisymm r.key k, all.0) refl in
        (accepts r ∙ ap (λ c. cond (is_eq c) true (is_accepted r)) above, above_kept rs all.1)

    above_keys : (rows : List RunRow) → AllByRecursion (λ y. key_cmp k y.key ≡ Less) rows → AllByRecursion (λ j. key_cmp k (own_key j) ≡ Less) (accepted_keys rows)
    above_keys [] all = tt
    above_keys (r ∷ rs) all =
        elim (is_accepted r) as (λ b. AllByRecursion (λ j. key_cmp k (own_key j) ≡ Less) (keys_of_rows (cond b (r ∷ filter is_accepted rs) (filter is_accepted rs)))) [
          | true ↦ (all.0, above_keys rs all.1)
          | false ↦ above_keys rs all.1
        ]

    -- its key comes to the keys
    pub accepted_one : (rows : List RunRow) (q : RunRow) → IsAscendingRows rows → find_row rows k ≡ Some q → is_accepted q ≡ false → accepted_keys (map f rows) ≡ put_key (accepted_keys rows) k
    accepted_one [] q up found new = cc
    accepted_one (r ∷ rs) q up found new = go (key_cmp r.key k) refl found (λ later. accepted_one rs q up.1 later new)
      where
        passed : List RunRow
        passed = filter is_accepted rs

        after : List RunRow
        after = filter is_accepted (map f rs)

        go : (c : Ordering) → key_cmp r.key k ≡ c → cond (is_eq c) (Some r) (find_row rs k) ≡ Some q → (find_row rs k ≡ Some q → accepted_keys (map f rs) ≡ put_key (accepted_keys rs) k) → accepted_keys (map f (r ∷ rs)) ≡ put_key (accepted_keys (r ∷ rs)) k
        go Equal is here ih =
            let own : is_eq (key_cmp r.key k) ≡ true = ap is_eq is in
            let key : r.key ≡ k = key_is r.key k own in
            let above : AllByRecursion (λ y. key_cmp k y.key ≡ Less) rs = subst (λ j. AllByRecursion (λ y. key_cmp j y.key ≡ Less) rs) key up.0 in
            let accepted : is_accepted (f r) ≡ true = accepts r ∙ ap (λ b. cond b true (is_accepted r)) own in
            let row : q ≡ r = cc in
            let was : is_accepted r ≡ false = subst (λ z. is_accepted z ≡ false) row new in
            ap (λ b. keys_of_rows (cond b (f r ∷ after) after)) accepted
            ∙ ap₂ (λ j ks. j ∷ ks) (same r ∙ key) (kept_keys rs (above_kept rs above))
            ∙ sym (insert_front key_cmp_total own_key (accepted_keys rs) k (above_keys rs above))
            ∙ ap (λ b. put_key (keys_of_rows (cond b (r ∷ passed) passed)) k) (sym was)
        go Less is here ih =
            let behind : put_key (r.key ∷ accepted_keys rs) k ≡ r.key ∷ put_key (accepted_keys rs) k = rw is refl in
            ap (λ b. keys_of_rows (cond b (f r ∷ after) after)) (accepts r ∙ ap (λ c. cond (is_eq c) true (is_accepted r)) is)
            ∙ elim (is_accepted r) as (λ b. keys_of_rows (cond b (f r ∷ after) after) ≡ put_key (keys_of_rows (cond b (r ∷ passed) passed)) k) [
              | true ↦ ap₂ (λ j ks. j ∷ ks) (same r) (ih here) ∙ sym behind
              | false ↦ ih here
            ]
        go Greater is here ih =
            let less : key_cmp r.key q.key ≡ Less = found_of_all (λ y. key_cmp r.key y.key ≡ Less) k q rs (All-from_recursion (λ y. key_cmp r.key y.key ≡ Less) rs up.0) here in
            let never : key_cmp r.key k ≡ Less = subst (λ j. key_cmp r.key j ≡ Less) (find_row-key rs k q here) less in
            cc

-- ---- what a change does to a row
-- what gives way stays accepted
way_accepted : (m : ℕ) (o : Option Incoming) (r : RunRow) → is_accepted (give_way m o r) ≡ is_accepted r
way_accepted m None r = refl
way_accepted m (Some i) r = elim (in_conflict i.key i.class i.interval r) as (λ b. is_accepted (cond b (close_row (record { moment = m; why = Preempted i.key }) r) r) ≡ is_accepted r) [ true ↦ refl | false ↦ refl ]

other_accepted : (f : Other → Other) (place : ℕ) (r : RunRow) → is_accepted (change_other f place r) ≡ is_accepted r
other_accepted f zero r = refl
other_accepted f (suc i) r = refl

confirmed_accepted : (b : Bool) (m : ℕ) (r : RunRow) → is_accepted (confirmed_if b m r) ≡ is_accepted r
confirmed_accepted true m r = refl
confirmed_accepted false m r = refl

-- only planning accepts
effect_accepted : (m : ℕ) (tasks : List TaskRow) (c : Change) (r : RunRow) → IsCalm c → is_accepted (effect m tasks c r) ≡ is_accepted r
effect_accepted m tasks (Planned k start tool epoch) r calm = absurd calm
effect_accepted m tasks (FreeHeard k place answer) r calm = other_accepted (with_free answer) place r
effect_accepted m tasks (AcceptHeard k place) r calm =
    let heard : RunRow = change_other with_acceptance place r in confirmed_accepted (is_booked heard && is_complete heard) m heard ∙ other_accepted with_acceptance place r
effect_accepted m tasks (told_there k place told) r calm = other_accepted (with_told told) place r
effect_accepted m tasks (ResultHeard k place result) r calm = other_accepted (with_result result) place r
effect_accepted m tasks c r calm = refl

pub calm_accepted : (m : ℕ) (tasks : List TaskRow) (c : Change) (rows : List RunRow) → IsCalm c → (r : RunRow) → is_accepted (changed_row m tasks c rows r) ≡ is_accepted r
calm_accepted m tasks c rows calm r =
    let way : RunRow = give_way m (incoming rows c) r in
    elim (has_key way.key (change_key c)) as (λ b. is_accepted (cond b (effect m tasks c way) way) ≡ is_accepted way) [ true ↦ effect_accepted m tasks c way calm | false ↦ refl ] ∙ way_accepted m (incoming rows c) r

accepts_first : (o : Option ℕ) (m : ℕ) → is_some (first_there o (Some m)) ≡ true
accepts_first None m = refl
accepts_first (Some a) m = refl

-- and it accepts the row of its key
pub planned_accepted : (m : ℕ) (tasks : List TaskRow) (k : RunKey) (start : ℕ) (tool : List ℕ) (epoch : ℕ) (rows : List RunRow) (r : RunRow) →
    is_accepted (changed_row m tasks (Planned k start tool epoch) rows r) ≡ cond (is_eq (key_cmp r.key k)) true (is_accepted r)
planned_accepted m tasks k start tool epoch rows r =
    let c : Change = Planned k start tool epoch in
    let way : RunRow = give_way m (incoming rows c) r in
    let accepted : RunRow = accept_row m (planned_span start way) tool way in
    let now : is_accepted (effect m tasks c way) ≡ true = confirmed_accepted (is_booked accepted && is_alone accepted) m accepted ∙ accepts_first way.accepted m in
    elim (has_key way.key (change_key c)) as (λ b. is_accepted (cond b (effect m tasks c way) way) ≡ cond b true (is_accepted way)) [ true ↦ now | false ↦ refl ]
    ∙ ap₂ (λ j b. cond (is_eq (key_cmp j k)) true b) (way_evolves m (incoming rows c) r).key (way_accepted m (incoming rows c) r)
