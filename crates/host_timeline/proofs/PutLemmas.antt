-- What was taken out isn't found any more.
use Rattle.std.proofs.Common.{◌≡◌, List, [], ◌∷◌, Bool, true, false, cond, not, None, Some, refl}
use Rattle.std.specs.List.{filter, find}

module _ {X : Type 0} where
  pub find_fewer : (p q : X → Bool) (xs : List X) → find p xs ≡ None → find p (filter q xs) ≡ None
  find_fewer p q [] none = refl
  find_fewer p q (x ∷ xs) none =
      let cases = elim (p x) as (λ b. p x ≡ b → cond b (Some x) (find p xs) ≡ None → find p (cond (q x) (x ∷ filter q xs) (filter q xs)) ≡ None) [
        | true ↦ λ is found. cc
        | false ↦ λ is found. elim (q x) as (λ b. find p (cond b (x ∷ filter q xs) (filter q xs)) ≡ None) [
          | true ↦ rw is (find_fewer p q xs found)
          | false ↦ find_fewer p q xs found
        ]
      ] in
      cases refl none

  pub find_without : (p : X → Bool) (xs : List X) → find p (filter (λ x. not (p x)) xs) ≡ None
  find_without p [] = refl
  find_without p (x ∷ xs) =
      let cases = elim (p x) as (λ b. p x ≡ b → find p (cond (not b) (x ∷ filter (λ x. not (p x)) xs) (filter (λ x. not (p x)) xs)) ≡ None) [
        | true ↦ λ is. find_without p xs
        | false ↦ λ is. rw is (find_without p xs)
      ] in
      cases refl

  pub filter_without : (p : X → Bool) (xs : List X) → filter p (filter (λ x. not (p x)) xs) ≡ []
  filter_without p [] = refl
  filter_without p (x ∷ xs) =
      let cases = elim (p x) as (λ b. p x ≡ b → filter p (cond (not b) (x ∷ filter (λ x. not (p x)) xs) (filter (λ x. not (p x)) xs)) ≡ []) [
        | true ↦ λ is. filter_without p xs
        | false ↦ λ is. rw is (filter_without p xs)
      ] in
      cases refl
