-- What is heard or merged already stays, so such a change leaves the book as it is.
use Rattle.std.specs.List.{AllByRecursion}
use Rattle.std.specs.Ordering.{is_eq}
use Rattle.std.proofs.Common.{◌≡◌, ◌∙◌, ℕ, zero, suc, Bool, true, false, cond, List, [], ◌∷◌, length, map, slice_get, Option, Some, None, is_some, refl, subst, sym, ap, ap₂, arith}
use Rattle.std.proofs.lemmas.List.{length-map}
use Rattle.std.proofs.lemmas.List.Elements.{recursion_from_All}
use Rattle.ps_time.specs.Key.{key_cmp}
use Rattle.ps_time.specs.declared.key.RunKey.{RunKey}
use Rattle.archive_retry.specs.Retry.{due_from}
use Rattle.archive_retry.specs.declared.state.ArchiveState.{ArchiveState}
use Rattle.run_states.specs.Effect.{change_at, change_other, merge_row, or_else, with_free, with_result}
use Rattle.run_states.specs.Life.{first_there}
use Rattle.run_states.specs.Rows.{IsAscendingRows, find_row}
use Rattle.run_states.specs.declared.answer.FreeAnswer.{FreeAnswer}
use Rattle.run_states.specs.declared.answer.Other.{Other}
use Rattle.run_states.specs.declared.row.RunRow.{RunRow}
use Rattle.task_spec.specs.declared.task.Archive.{Archive}
use Rattle.host_model.specs.Effect.{archives_of, states_due}
use Rattle.host_model.specs.Heard.{other_at}
use Rattle.host_model.specs.LawfulRow.{HasStates, IsHostRow}
use Rattle.host_model.specs.declared.task_row.TaskRow.{TaskRow}
use Rattle.host_model.proofs.Keyed.{key_is}
use Rattle.host_model.proofs.RowLemmas.{all_of_found}

-- ---- one row
kept_first : {A : Type 0} (o later : Option A) → is_some o ≡ true → first_there o later ≡ o
kept_first (Some a) later some = refl
kept_first None later some = cc

same_at : {A : Type 0} (f : A → A) (i : ℕ) (xs : List A) (x : A) → slice_get xs i ≡ Some x → f x ≡ x → change_at f i xs ≡ xs
same_at f i [] x at same = refl
same_at f zero (y ∷ ys) x at same = let is : y ≡ x = cc in ap (λ z. z ∷ ys) (ap f is ∙ same ∙ sym is)
same_at f (suc i) (y ∷ ys) x at same = ap (λ zs. y ∷ zs) (same_at f i ys x at same)

other_same : (f : Other → Other) (place : ℕ) (r : RunRow) (o : Other) → other_at r place ≡ Some o → f o ≡ o → change_other f place r ≡ r
other_same f zero r o at same = refl
other_same f (suc i) r o at same = ap (λ (others : List Other). record r { others = others }) (same_at f i r.others o at same)

pub free_same : (answer : FreeAnswer) (place : ℕ) (r : RunRow) (o : Other) → other_at r place ≡ Some o → is_some o.free ≡ true → change_other (with_free answer) place r ≡ r
free_same answer place r o at heard = other_same (with_free answer) place r o at (ap (λ (free : Option FreeAnswer). record o { free = free }) (kept_first o.free (Some answer) heard))

pub result_same : (result : Option (List ℕ)) (place : ℕ) (r : RunRow) (o : Other) → other_at r place ≡ Some o → is_some o.heard ≡ true → change_other (with_result result) place r ≡ r
result_same result place r o at heard = other_same (with_result result) place r o at (ap (λ (told : Option (Option (List ℕ))). record o { heard = told }) (kept_first o.heard (Some result) heard))

kept_states : (xs ys : List ArchiveState) → length xs ≡ length ys → or_else xs ys ≡ xs
kept_states [] [] same = refl
kept_states [] (y ∷ ys) same = absurd (omega (arith, same))
kept_states (x ∷ xs) ys same = refl

states_length : (self : ℕ) (archives : List Archive) (r : RunRow) (o : Option (List ℕ)) → HasStates self archives r o → is_some o ≡ true → length r.archives ≡ length archives
states_length self archives r (Some text) has some = has.1
states_length self archives r None has some = cc

pub merge_same : (self m n : ℕ) (tasks : List TaskRow) (body : List ℕ) (r : RunRow) → IsHostRow self tasks n r → is_some r.merged ≡ true → merge_row (states_due m (archives_of tasks r.key)) body r ≡ r
merge_same self m n tasks body r host merged =
    let archives = archives_of tasks r.key in
    let same : length r.archives ≡ length (states_due m archives) = states_length self archives r r.merged host.merged merged ∙ sym (length-map archives (λ a. due_from m)) in
    ap₂ (λ (text : Option (List ℕ)) (states : List ArchiveState). record r { merged = text; archives = states }) (kept_first r.merged (Some body) merged) (kept_states r.archives (states_due m archives) same)

-- ---- all rows
all_same : (f : RunRow → RunRow) (rows : List RunRow) → AllByRecursion (λ r. f r ≡ r) rows → map f rows ≡ rows
all_same f [] all = refl
all_same f (r ∷ rs) all = ap₂ (λ x xs. x ∷ xs) all.0 (all_same f rs all.1)

-- where only the row of a key changes, and stays as it is
pub rows_same : (f : RunRow → RunRow) (k : RunKey) (q : RunRow) (rows : List RunRow) → IsAscendingRows rows → find_row rows k ≡ Some q → f q ≡ q → map (λ r. cond (is_eq (key_cmp r.key k)) (f r) r) rows ≡ rows
rows_same f k q rows up at same = all_same change rows (recursion_from_All (λ r. change r ≡ r) rows (all_of_found (λ r. change r ≡ r) rows up each))
  where
    change : RunRow → RunRow
    change r = cond (is_eq (key_cmp r.key k)) (f r) r

    each : (r : RunRow) → find_row rows r.key ≡ Some r → change r ≡ r
    each r found = by (is_eq (key_cmp r.key k)) refl
      where
        by : (b : Bool) → is_eq (key_cmp r.key k) ≡ b → cond b (f r) r ≡ r
        by true own =
            let here : find_row rows k ≡ Some r = subst (λ j. find_row rows j ≡ Some r) (key_is r.key k own) found in
            let is : q ≡ r = cc in
            subst (λ z. f z ≡ z) is same
        by false own = refl
