-- What a change brings is within bounds, where the book is lawful after it.
use Rattle.std.specs.Prelude.{IsSome, IsTrue, MatchOption}
use Rattle.std.specs.List.{AllByRecursion}
use Rattle.std.specs.Ordering.{is_eq}
use Rattle.std.proofs.Common.{◌≡◌, ℕ, zero, suc, Bool, true, false, not, cond, ◌&&◌, List, [], ◌∷◌, Option, Some, None, is_some, option_map, option_and_then, slice_get, length, IfSome, All, refl, ap, ap₂, sym, subst, ◌∙◌}
use Rattle.std.proofs.lemmas.List.Elements.{recursion_from_All}
use Rattle.ps_time.specs.Key.{key_cmp}
use Rattle.ps_time.specs.declared.key.RunKey.{RunKey}
use Rattle.archive_retry.specs.Merge.{IsResult, IsResultText, IsTreeText}
use Rattle.archive_retry.specs.declared.state.ArchiveState.{ArchiveState}
use Rattle.run_states.specs.Effect.{change_at, change_other, merge_row, or_else, with_result}
use Rattle.run_states.specs.LawfulRow.{HasArchives, IsOther}
use Rattle.run_states.specs.Life.{first_there, end_row, is_active}
use Rattle.run_states.specs.Rows.{change_row, find_row, IsAscendingRows}
use Rattle.run_states.specs.declared.answer.Other.{Other}
use Rattle.run_states.specs.declared.row.Ending.{Ending}
use Rattle.run_states.specs.declared.row.RunRow.{RunRow}
use Rattle.task_spec.specs.declared.task.Archive.{Archive}
use Rattle.host_model.specs.Heard.{other_at}
use Rattle.host_model.specs.LawfulRow.{HasStates, IsHostRow}
use Rattle.host_model.specs.Effect.{archives_of, states_due}
use Rattle.host_model.specs.declared.task_row.TaskRow.{TaskRow}
use Rattle.run_states.proofs.Place.{key_is}
use Rattle.host_model.proofs.RowLemmas.{found_of_all}
use Rattle.host_book.specs.Ready.{heard_of, is_heard, is_merged}
use Rattle.host_rows.proofs.RowLemmas.{each_found, found_change, found_is}

-- ---- the row that was changed
module _ (f : RunRow → RunRow) (same : (r : RunRow) → (f r).key ≡ r.key) (rows : List RunRow) (k : RunKey) (r : RunRow) (at : find_row rows k ≡ Some r) where
  pub found_changed : find_row (change_row f rows k) k ≡ Some (f r)
  found_changed = found_change f same rows k k ∙ (ap (option_map (λ x. cond (is_eq (key_cmp x.key k)) (f x) x)) at ∙ ap (λ b. Some (cond b (f r) r)) (found_is k rows r at))

  pub changed_host : (self : ℕ) (tasks : List TaskRow) (m : ℕ) → All (IsHostRow self tasks m) (change_row f rows k) → IsHostRow self tasks m (f r)
  changed_host self tasks m all = found_of_all (IsHostRow self tasks m) k (f r) (change_row f rows k) all found_changed

-- a change that leaves its row leaves all
module _ (f : RunRow → RunRow) (rows : List RunRow) (k : RunKey) (leaves : (r : RunRow) → find_row rows k ≡ Some r → f r ≡ r) where
  left_one : (x : RunRow) → find_row rows x.key ≡ Some x → (b : Bool) → is_eq (key_cmp x.key k) ≡ b → cond b (f x) x ≡ x
  left_one x found true is = leaves x (subst (λ j. find_row rows j ≡ Some x) (key_is x.key k is) found)
  left_one x found false is = refl

  left_all : (xs : List RunRow) → AllByRecursion (λ x. find_row rows x.key ≡ Some x) xs → change_row f xs k ≡ xs
  left_all [] found = refl
  left_all (x ∷ xs) found = ap₂ (λ y ys. y ∷ ys) (left_one x found.0 (is_eq (key_cmp x.key k)) refl) (left_all xs found.1)

  pub unchanged : IsAscendingRows rows → change_row f rows k ≡ rows
  unchanged up = left_all rows (each_found rows up)

-- ---- an end
unended : (o p : Bool) → (o && not p) ≡ true → p ≡ false
unended true false is = refl
unended true true is = cc
unended false p is = cc

pub none_of : {A : Type 0} (o : Option A) → is_some o ≡ false → o ≡ None
none_of None is = refl
none_of (Some a) is = cc

-- a run that was active brings its result
pub end_brings : (self : ℕ) (tasks : List TaskRow) (m : ℕ) (rows : List RunRow) (k : RunKey) (e : Ending) → MatchOption (find_row rows k) ⊥ (λ r. IsTrue (is_active r)) → All (IsHostRow self tasks m) (change_row (end_row e) rows k) → IsResultText e.body
end_brings self tasks m rows k e can all = go (find_row rows k) refl can
  where
    go : (o : Option RunRow) → find_row rows k ≡ o → MatchOption o ⊥ (λ r. IsTrue (is_active r)) → IsResultText e.body
    go None at can = absurd can
    go (Some r) at can =
        let ended : r.ended ≡ None = none_of r.ended (unended (is_some r.started) (is_some r.ended) can) in
        let host : IsHostRow self tasks m (end_row e r) = changed_host (end_row e) (λ x. refl) rows k r at self tasks m all in
        subst (λ o. IfSome (option_map (λ (x : Ending). x.body) (first_there o (Some e))) IsResultText) ended host.row.result

-- ---- a result that was heard
at_all : {A : Type 0} (P : A → Type 0) (xs : List A) (i : ℕ) (x : A) → AllByRecursion P xs → slice_get xs i ≡ Some x → P x
at_all P [] i x all at = cc
at_all P (y ∷ ys) zero x all at = let is : y ≡ x = cc in subst P is all.0
at_all P (y ∷ ys) (suc i) x all at = at_all P ys i x all.1 at

get_changed : {A : Type 0} (f : A → A) (xs : List A) (i : ℕ) (x : A) → slice_get xs i ≡ Some x → slice_get (change_at f i xs) i ≡ Some (f x)
get_changed f [] i x at = cc
get_changed f (y ∷ ys) zero x at = let is : y ≡ x = cc in ap (λ z. Some (f z)) is
get_changed f (y ∷ ys) (suc i) x at = get_changed f ys i x at

change_left : {A : Type 0} (f : A → A) (xs : List A) (i : ℕ) → ((x : A) → slice_get xs i ≡ Some x → f x ≡ x) → change_at f i xs ≡ xs
change_left f [] i leaves = refl
change_left f (y ∷ ys) zero leaves = ap (λ z. z ∷ ys) (leaves y refl)
change_left f (y ∷ ys) (suc i) leaves = ap (λ zs. y ∷ zs) (change_left f ys i leaves)

module _ (result : Option (List ℕ)) where
  kept_result : (o : Other) → is_some o.heard ≡ true → with_result result o ≡ o
  kept_result o is = go o.heard refl is
    where
      go : (h : Option (Option (List ℕ))) → o.heard ≡ h → is_some h ≡ true → record o { heard = first_there h (Some result) } ≡ o
      go (Some x) at is = ap (λ h. record o { heard = h }) (sym at)
      go None at is = cc

  -- the result of a participant that was heard before is let go
  pub heard_before : (place : ℕ) (r : RunRow) → is_heard place (Some r) ≡ true → change_other (with_result result) place r ≡ r
  heard_before zero r is = refl
  heard_before (suc i) r is = ap (λ xs. record r { others = xs }) (change_left (with_result result) r.others i (λ x at. kept_result x (subst (λ o. heard_of o ≡ true) at is)))

  brings_at : (place : ℕ) (r : RunRow) → IsSome (other_at r place) → is_heard place (Some r) ≡ false → All IsOther (change_other (with_result result) place r).others → IsResult result
  brings_at zero r there is all = cc
  brings_at (suc i) r there is all = go (slice_get r.others i) refl there is
    where
      go : (o : Option Other) → slice_get r.others i ≡ o → IsSome o → heard_of o ≡ false → IsResult result
      go None at there is = cc
      go (Some x) at there is =
          let own : IsOther (with_result result x) = at_all IsOther (change_at (with_result result) i r.others) i (with_result result x) (recursion_from_All IsOther (change_at (with_result result) i r.others) all) (get_changed (with_result result) r.others i x at) in
          subst (λ o. IfSome (option_and_then (λ told. told) (first_there o (Some result))) IsResultText) (none_of x.heard is) own.heard

change_other_key : (f : Other → Other) (place : ℕ) (r : RunRow) → (change_other f place r).key ≡ r.key
change_other_key f zero r = refl
change_other_key f (suc i) r = refl

-- a participant that wasn't heard brings its result
pub result_brings : (self : ℕ) (tasks : List TaskRow) (m : ℕ) (rows : List RunRow) (k : RunKey) (place : ℕ) (result : Option (List ℕ)) → MatchOption (find_row rows k) ⊥ (λ r. IsSome (other_at r place)) → is_heard place (find_row rows k) ≡ false
    → All (IsHostRow self tasks m) (change_row (change_other (with_result result) place) rows k) → IsResult result
result_brings self tasks m rows k place result can is all = go (find_row rows k) refl can is
  where
    go : (o : Option RunRow) → find_row rows k ≡ o → MatchOption o ⊥ (λ r. IsSome (other_at r place)) → is_heard place o ≡ false → IsResult result
    go None at can is = absurd can
    go (Some r) at can is = brings_at result place r can is (changed_host (change_other (with_result result) place) (change_other_key (with_result result) place) rows k r at self tasks m all).row.others

-- ---- a merging
states_none : (m : ℕ) (archives : List Archive) → length archives ≡ 0 → states_due m archives ≡ []
states_none m [] none = refl
states_none m (a ∷ more) none = cc

or_else_kept : (m : ℕ) (archives : List Archive) (ss : List ArchiveState) → length ss ≡ length archives → or_else ss (states_due m archives) ≡ ss
or_else_kept m archives [] same = states_none m archives (sym same)
or_else_kept m archives (s ∷ ss) same = refl

-- what is merged already stays as it is
pub merged_before : (self : ℕ) (tasks : List TaskRow) (m n : ℕ) (k : RunKey) (body : List ℕ) (r : RunRow) → r.key ≡ k → IsHostRow self tasks m r → is_merged (Some r) ≡ true → merge_row (states_due n (archives_of tasks k)) body r ≡ r
merged_before self tasks m n k body r own host is = go r.merged refl is host.merged
  where
    go : (o : Option (List ℕ)) → r.merged ≡ o → is_some o ≡ true → HasStates self (archives_of tasks r.key) r o → record r { merged = first_there o (Some body); archives = or_else r.archives (states_due n (archives_of tasks k)) } ≡ r
    go None at is has = cc
    go (Some x) at is has =
        ap₂ (λ o ss. record r { merged = o; archives = ss }) (sym at)
        (ap (λ j. or_else r.archives (states_due n (archives_of tasks j))) (sym own) ∙ or_else_kept n (archives_of tasks r.key) r.archives has.1)

-- what wasn't merged brings its text
pub merge_brings : (self : ℕ) (tasks : List TaskRow) (m : ℕ) (rows : List RunRow) (k : RunKey) (states : List ArchiveState) (body : List ℕ) → IsSome (find_row rows k) → is_merged (find_row rows k) ≡ false
    → All (IsHostRow self tasks m) (change_row (merge_row states body) rows k) → IsTreeText body
merge_brings self tasks m rows k states body there is all = go (find_row rows k) refl there is
  where
    go : (o : Option RunRow) → find_row rows k ≡ o → IsSome o → is_merged o ≡ false → IsTreeText body
    go None at there is = cc
    go (Some r) at there is =
        let host : IsHostRow self tasks m (merge_row states body r) = changed_host (merge_row states body) (λ x. refl) rows k r at self tasks m all in
        (subst (λ o. HasArchives (merge_row states body r) (first_there o (Some body))) (none_of r.merged is) host.row.merged).0
