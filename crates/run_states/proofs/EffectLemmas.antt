-- A write at a place is the change of what stands there.
use Rattle.std.proofs.Common.{◌≡◌, ℕ, zero, suc, ◌+◌, ◌<◌, ◌≤◌, List, [], ◌∷◌, length, get_or, set, refl, ap, subst, arith}
use Rattle.std.specs.Prelude.{All}
use Rattle.run_states.specs.declared.answer.Other.{Other}
use Rattle.run_states.specs.declared.row.RunRow.{RunRow}
use Rattle.run_states.specs.Effect.{change_at, change_other}

module _ {A : Type 0} (f : A → A) where
  pub change_set : (i : ℕ) (xs : List A) (d : A) → i < length xs → change_at f i xs ≡ set xs i (f (get_or xs i d))
  change_set i [] d lt = absurd (omega arith)
  change_set zero (x ∷ xs) d lt = refl
  change_set (suc i) (x ∷ xs) d lt = ap (λ l. x ∷ l) (change_set i xs d (omega arith))

  pub change_past : (i : ℕ) (xs : List A) → length xs ≤ i → change_at f i xs ≡ xs
  change_past i [] le = refl
  change_past zero (x ∷ xs) le = absurd (omega arith)
  change_past (suc i) (x ∷ xs) le = ap (λ l. x ∷ l) (change_past i xs (omega arith))

  pub change_length : (i : ℕ) (xs : List A) → length (change_at f i xs) ≡ length xs
  change_length i [] = refl
  change_length zero (x ∷ xs) = refl
  change_length (suc i) (x ∷ xs) = omega (arith, change_length i xs)

  -- what holds of each item still does, where f keeps it
  pub change_all : (P : A → Type 0) → ((x : A) → P x → P (f x)) → (i : ℕ) (xs : List A) → All P xs → All P (change_at f i xs)
  change_all P keeps i [] all = all
  change_all P keeps zero (x ∷ xs) all = λ k d lt. change_first k d lt
    where
      change_first : (k : ℕ) (d : A) → k < length (f x ∷ xs) → P (get_or (f x ∷ xs) k d)
      change_first zero d lt = keeps x (all 0 d (omega arith))
      change_first (suc k) d lt = all (suc k) d lt
  change_all P keeps (suc i) (x ∷ xs) all = λ k d lt. change_rest (change_all P keeps i xs (λ j e less. all (suc j) e (omega arith))) k d lt
    where
      change_rest : All P (change_at f i xs) → (k : ℕ) (d : A) → k < length (x ∷ change_at f i xs) → P (get_or (x ∷ change_at f i xs) k d)
      change_rest rest zero d lt = all 0 d (omega arith)
      change_rest rest (suc k) d lt = rest k d (omega arith)

-- of the participant at a place from 1 on, where there is one
pub other_there : (f : Other → Other) (place i : ℕ) (r : RunRow) (d : Other) → place ≡ i + 1 → i < length r.others
    → change_other f place r ≡ record r { others = set r.others i (f (get_or r.others i d)) }
other_there f zero i r d is within = absurd (omega arith)
other_there f (suc j) i r d is within =
    let same : i ≡ j = omega arith in
    subst (λ n. change_other f (suc n) r ≡ record r { others = set r.others i (f (get_or r.others i d)) }) same (ap (λ xs. record r { others = xs }) (change_set f i r.others d within))

-- and where there is none
pub other_beyond : (f : Other → Other) (place : ℕ) (r : RunRow) → length r.others < place → change_other f place r ≡ r
other_beyond f zero r beyond = absurd (omega arith)
other_beyond f (suc i) r beyond = ap (λ xs. record r { others = xs }) (change_past f i r.others (omega arith))

pub other_lead : (f : Other → Other) (place : ℕ) (r : RunRow) → place ≡ 0 → change_other f place r ≡ r
other_lead f zero r lead = refl
other_lead f (suc i) r lead = absurd (omega arith)
