-- Numbers of stages and messages: they stay as more come.
use Rattle.std.proofs.Common.{◌≡◌, ◌<◌, ◌⊎◌, inl, inr, ◌==◌, ℕ, Bool, true, false, cond, List, [], ◌∷◌, length, Some, refl, ap, ◌∙◌, subst, arith}
use Rattle.std.proofs.lemmas.Bool.Decides.{nat_tests}
use Rattle.world_law.specs.World.{aged}

module _ {A : Type 0} where
  -- the last one's number is how many were there before it
  pub aged_cases : (x : A) (xs : List A) (i : ℕ) (s : A) → aged (x ∷ xs) i ≡ Some s → ((i ≡ length xs) × (x ≡ s)) ⊎ (aged xs i ≡ Some s)
  aged_cases x xs i s e = go (i == length xs) refl e
    where
      go : (b : Bool) → (i == length xs) ≡ b → cond b (Some x) (aged xs i) ≡ Some s → ((i ≡ length xs) × (x ≡ s)) ⊎ (aged xs i ≡ Some s)
      go true h e = inl (grind (arith, nat_tests), cc)
      go false h e = inr e

  pub aged_within : (xs : List A) (i : ℕ) (s : A) → aged xs i ≡ Some s → i < length xs
  aged_within [] i s e = cc
  aged_within (x ∷ xs) i s e = elim (aged_cases x xs i s e) [
    | inl h ↦ omega (arith, h.0)
    | inr h ↦ omega (arith, aged_within xs i s h)
  ]

  -- each keeps its number when another comes
  pub aged_up : (x : A) (xs : List A) (i : ℕ) (s : A) → aged xs i ≡ Some s → aged (x ∷ xs) i ≡ Some s
  aged_up x xs i s e =
      let other : (i == length xs) ≡ false = grind (arith, nat_tests, aged_within xs i s e) in
      ap (λ b. cond b (Some x) (aged xs i)) other ∙ e

  pub aged_last : (x : A) (xs : List A) → aged (x ∷ xs) (length xs) ≡ Some x
  aged_last x xs = let same : (length xs == length xs) ≡ true = grind (arith, nat_tests) in ap (λ b. cond b (Some x) (aged xs (length xs))) same

  -- what holds of each and of the new one holds of all
  pub aged_all : (P : A → Type 0) (x : A) (xs : List A) → P x → ((i : ℕ) (s : A) → aged xs i ≡ Some s → P s) → (i : ℕ) (s : A) → aged (x ∷ xs) i ≡ Some s → P s
  aged_all P x xs here each i s e = elim (aged_cases x xs i s e) [
    | inl h ↦ subst P h.1 here
    | inr h ↦ each i s h
  ]
