-- What the lawful rows of a book after a change say of the row of its key, and of one that comes.
use Rattle.std.specs.Prelude.{IfSome, IsNone, IsSome}
use Rattle.std.proofs.Common.{◌≡◌, ◌∙◌, ℕ, true, cond, List, [], ◌∷◌, ◌++◌, All, map, Option, Some, None, is_some, option_map, refl, subst, ap}
use Rattle.std.proofs.lemmas.List.Elements.{All-head, All-tail}
use Rattle.ps_time.specs.declared.key.RunKey.{RunKey}
use Rattle.run_states.specs.Conflict.{in_conflict}
use Rattle.run_states.specs.Life.{close_row, first_there}
use Rattle.run_states.specs.Preemption.{Incoming, give_way}
use Rattle.run_states.specs.Rows.{find_row, put_row}
use Rattle.run_states.specs.declared.row.RunRow.{RunRow}
use Rattle.run_states.specs.declared.why.Closing.{Closing}
use Rattle.run_states.specs.declared.why.Why.TheVariants.{Preempted}
use Rattle.host_model.specs.Apply.{put_new}
use Rattle.host_model.specs.Effect.{own_effect}
use Rattle.host_model.specs.LawfulRow.{IsHostRow}
use Rattle.host_model.specs.NewRow.{new_row}
use Rattle.host_model.specs.Preemption.{incoming}
use Rattle.host_model.specs.declared.change.Change.{Change}
use Rattle.host_model.specs.declared.task_row.TaskRow.{TaskRow}
use Rattle.host_model.proofs.Keyed.{at-put, key_same}
use Rattle.host_model.proofs.Placed.{put_keeps}
use Rattle.host_model.proofs.RowLemmas.{found_of_all}
use Rattle.host_model.proofs.Standing.{changed_key, changed_row, find_row-map}

pub last_of : {A : Type 0} (P : A → Type 0) (xs : List A) (x : A) → All P (xs ++ x ∷ []) → P x
last_of P [] x all = All-head P x [] all
last_of P (y ∷ ys) x all = last_of P ys x (All-tail P y (ys ++ x ∷ []) all)

pub none_is : {A : Type 0} (o : Option A) → IsNone o → o ≡ None
none_is None none = refl
none_is (Some a) none = cc

module _ (self m n : ℕ) (tasks others : List TaskRow) (c : Change) (rows : List RunRow) where
  abbrev pub changed : RunRow → RunRow
  changed = changed_row m tasks c rows

  -- ---- a row that was there
  pub found_after : (k : RunKey) (q : RunRow) → find_row rows k ≡ Some q → find_row (put_new (new_row m c) (map changed rows)) k ≡ Some (changed q)
  found_after k q at = put_keeps (new_row m c) (map changed rows) k (changed q) (find_row-map changed (changed_key m tasks c rows) rows k ∙ ap (option_map changed) at)

  pub host_after : (k : RunKey) (q : RunRow) → find_row rows k ≡ Some q → All (IsHostRow self others n) (put_new (new_row m c) (map changed rows)) → IsHostRow self others n (changed q)
  host_after k q at all = found_of_all (IsHostRow self others n) k (changed q) (put_new (new_row m c) (map changed rows)) all (found_after k q at)

  -- ---- a row that comes
  module _ (r : RunRow) (comes : new_row m c ≡ Some r) (new : IsNone (find_row rows r.key)) where
    none : find_row (map changed rows) r.key ≡ None
    none = find_row-map changed (changed_key m tasks c rows) rows r.key ∙ ap (option_map changed) (none_is (find_row rows r.key) new)

    pub put_is : put_new (new_row m c) (map changed rows) ≡ put_row (map changed rows) r
    put_is = ap (λ o. put_new o (map changed rows)) comes ∙ ap (λ (o : Option RunRow). cond (is_some o) (map changed rows) (put_row (map changed rows) r)) none

    found : find_row (put_new (new_row m c) (map changed rows)) r.key ≡ Some r
    found =
        ap (λ rs. find_row rs r.key) put_is
        ∙ (at-put (λ x. x.key) r (map changed rows) r.key none ∙ ap (λ t. cond t (Some r) (find_row (map changed rows) r.key)) (key_same r.key))

    pub host_came : All (IsHostRow self others n) (put_new (new_row m c) (map changed rows)) → IsHostRow self others n r
    host_came all = found_of_all (IsHostRow self others n) r.key r (put_new (new_row m c) (map changed rows)) all found

-- ---- what gives way isn't started
closed_some : (o : Option Closing) (c : Closing) → IsNone (first_there o (Some c)) → ⊥
closed_some None c none = cc
closed_some (Some x) c none = cc

no_start : (o : Option ℕ) (confirmed : Option ℕ) (closed : Option Closing) (c : Closing) → IfSome o (λ m. IsSome confirmed × IsNone (first_there closed (Some c))) → IsNone o
no_start None confirmed closed c life = refl
no_start (Some s) confirmed closed c life = absurd (closed_some closed c life.1)

-- a row in conflict with a run that is accepted closes
module _ (self m n : ℕ) (tasks others : List TaskRow) (c : Change) (rows : List RunRow) (i : Incoming) (comes : incoming rows c ≡ Some i) where
  abbrev pub closed_for : RunRow → RunRow
  closed_for r = close_row (record { moment = m; why = Preempted i.key }) r

  gives_way : (r : RunRow) → in_conflict i.key i.class i.interval r ≡ true → own_effect m tasks c (closed_for r) ≡ closed_for r → changed self m n tasks others c rows r ≡ closed_for r
  gives_way r against stays =
      ap (λ o. own_effect m tasks c (give_way m o r)) comes ∙ (ap (λ b. own_effect m tasks c (cond b (closed_for r) r)) against ∙ stays)

  pub way_free : (r : RunRow) → find_row rows r.key ≡ Some r → in_conflict i.key i.class i.interval r ≡ true → own_effect m tasks c (closed_for r) ≡ closed_for r → All (IsHostRow self others n) (put_new (new_row m c) (map (changed self m n tasks others c rows) rows)) → IsNone r.started
  way_free r at against stays all =
      let host : IsHostRow self others n (closed_for r) = subst (IsHostRow self others n) (gives_way r against stays) (host_after self m n tasks others c rows r.key r at all) in
      no_start r.started r.confirmed r.closed (record { moment = m; why = Preempted i.key }) host.row.life.started
