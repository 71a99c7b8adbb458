-- What may follow a book keeps the bounds of what is written.
use Rattle.std.specs.Ordering.{is_eq}
use Rattle.std.specs.Prelude.{IsTrue, MatchOption, IfSome, IsNone}
use Rattle.std.proofs.Common.{◌≡◌, ◌++◌, ◌&&◌, ℕ, Bool, true, cond, not, List, [], ◌∷◌, All, map, Option, Some, None, is_some, option_map, refl, ap, subst, ◌∙◌}
use Rattle.std.proofs.lemmas.List.Elements.{All-cons, All-head, All-nil, All-tail}
use Rattle.ps_time.specs.Key.{key_cmp}
use Rattle.ps_time.specs.declared.key.RunKey.{RunKey}
use Rattle.run_states.specs.LawfulRow.{IsWhy}
use Rattle.run_states.specs.Life.{close_row, first_there, may_take}
use Rattle.run_states.specs.Rows.{find_row, put_row}
use Rattle.run_states.specs.declared.life.LifeStep.TheVariants.{Close}
use Rattle.run_states.specs.declared.row.RunRow.{RunRow}
use Rattle.run_states.specs.declared.why.Closing.{Closing}
use Rattle.run_states.specs.declared.why.Why.{Why}
use Rattle.host_model.specs.Apply.{apply, put_new, rows_after, settled}
use Rattle.host_model.specs.Book.{Book}
use Rattle.host_model.specs.Lawful.{IsLawfulTask, Lawful}
use Rattle.host_model.specs.LawfulRow.{IsHostRow}
use Rattle.host_model.specs.MayFollow.{CanApply, CanApplyAll, IsNewKey, MayFollow, Takes}
use Rattle.host_model.specs.NewRow.{accepted_row, asked_row}
use Rattle.host_model.specs.declared.change.Change.{Change}
use Rattle.host_model.specs.declared.change.Change.TheVariants.{Accepted, Asked, Closed, Posted}
use Rattle.host_model.specs.declared.change.Changes.{Changes}
use Rattle.host_model.proofs.Keyed.{at-put, key_of, key_same}
use Rattle.host_model.proofs.Placed.{find_row-key}
use Rattle.host_model.proofs.RowLemmas.{found_of_all}
use Rattle.host_model.proofs.Standing.{changed_key, changed_row, find_row-map}
use Rattle.host_codec.specs.Bounds.{KeepsBounds}

last_of : {A : Type 0} (P : A → Type 0) (xs : List A) (x : A) → All P (xs ++ x ∷ []) → P x
last_of P [] x all = All-head P x [] all
last_of P (y ∷ ys) x all = last_of P ys x (All-tail P y (ys ++ x ∷ []) all)

none_of : {A : Type 0} (o : Option A) → IsNone o → o ≡ None
none_of None is = refl
none_of (Some a) is = cc

module _ (self m : ℕ) (b : Book) where
  -- ---- a row that comes
  module _ (c : Change) (n : RunRow) (new : IsNewKey b n.key) where
    abbrev changed : List RunRow
    changed = map (changed_row m b.tasks c b.rows) b.rows

    none : find_row changed n.key ≡ None
    none = find_row-map (changed_row m b.tasks c b.rows) (changed_key m b.tasks c b.rows) b.rows n.key ∙ ap (option_map (changed_row m b.tasks c b.rows)) (none_of (find_row b.rows n.key) new)

    found : find_row (put_new (Some n) changed) n.key ≡ Some n
    found =
        ap (λ o. find_row (cond (is_some o) changed (put_row changed n)) n.key) none
        ∙ (at-put (λ r. r.key) n changed n.key none ∙ ap (λ t. cond t (Some n) (find_row changed n.key)) (key_same n.key))

    came : All (IsHostRow self b.tasks b.moment) (put_new (Some n) changed) → IsHostRow self b.tasks b.moment n
    came all = found_of_all (IsHostRow self b.tasks b.moment) n.key n (put_new (Some n) changed) all found

  -- ---- a row that is closed
  module _ (k : RunKey) (why : Why) (after : Lawful self (apply m (Closed k why) b)) where
    abbrev closing : Closing
    closing = record { moment = m; why = why }

    open_before : (o : Option Closing) (t : Bool) → (not (is_some o) && t) ≡ true → o ≡ None
    open_before None t is = refl
    open_before (Some x) t is = cc

    closes : (r : RunRow) → find_row b.rows k ≡ Some r → IsTrue (may_take (Close why) r) → IsWhy why
    closes r at may =
        let own : is_eq (key_cmp r.key k) ≡ true = key_of r.key k (find_row-key b.rows k r at) in
        let one : find_row (map (changed_row m b.tasks (Closed k why) b.rows) b.rows) k ≡ Some (close_row closing r) =
        find_row-map (changed_row m b.tasks (Closed k why) b.rows) (changed_key m b.tasks (Closed k why) b.rows) b.rows k
        ∙ (ap (option_map (changed_row m b.tasks (Closed k why) b.rows)) at ∙ ap (λ t. Some (cond t (close_row closing r) r)) own) in
        let host = found_of_all (IsHostRow self b.tasks b.moment) k (close_row closing r) (rows_after m b.tasks (Closed k why) b.rows) after.rows one in
        subst (λ o. IfSome (first_there o (Some closing)) (λ (c : Closing). IsWhy c.why)) (open_before r.closed (not (is_some r.started)) may) host.row.closed

    closed_why : Takes b k (Close why) → IsWhy why
    closed_why can = go (find_row b.rows k) refl can
      where
        go : (o : Option RunRow) → find_row b.rows k ≡ o → MatchOption o ⊥ (λ r. IsTrue (may_take (Close why) r)) → IsWhy why
        go None at can = absurd can
        go (Some r) at can = closes r at can

  keeps : (c : Change) → CanApply b c → Lawful self (apply m c b) → KeepsBounds c
  keeps (Posted t) can after = (last_of (IsLawfulTask b.moment) b.tasks t after.tasks).task
  keeps (Accepted p participants epoch) can after = (came (Accepted p participants epoch) (accepted_row m p participants) can after.rows).row.test
  keeps (Asked q participants who) can after = (came (Asked q participants who) (asked_row m q participants who) can after.rows).row.test
  keeps (Closed k why) can after = closed_why k why after can
  keeps c can after = tt

each_keeps : (self m : ℕ) (cs : List Change) (b : Book) → CanApplyAll self m cs b → All KeepsBounds cs
each_keeps self m [] b can = All-nil KeepsBounds
each_keeps self m (c ∷ cs) b can = All-cons KeepsBounds c cs (keeps self m b c can.0 can.1) (each_keeps self m cs (apply m c b) can.2)

pub record_keeps : (self : ℕ) (b : Book) (r : Changes) → MayFollow self b r → All KeepsBounds r.list
record_keeps self b r may = each_keeps self r.moment r.list (settled r.moment b) may.each
