-- A test of all items of a list, one after another.
use Rattle.std.specs.Prelude.{◌↔◌}
use Rattle.std.proofs.Common.{◌≡◌, ◌<◌, ◌≤◌, ◌+◌, ℕ, suc, List, ◌∷◌, All, arith, drop, drop-cons, length, get_or, ap, sym, subst, ◌∙◌, add-one}
use Rattle.std.proofs.lemmas.List.{length-drop}
use Rattle.std.proofs.lemmas.List.Elements.{All-cons, All-tail}

-- the next one, and those after it
pub next_left : {A : Type 0} (xs : List A) (i : ℕ) (x : A) → i < length xs → x ≡ get_or xs i x → drop i xs ≡ x ∷ drop (i + 1) xs
next_left xs i x within is = drop-cons xs i x within ∙ (ap (λ y. y ∷ drop (suc i) xs) (sym is) ∙ ap (λ n. x ∷ drop n xs) (sym (add-one i)))

-- where the next one keeps it, the others decide
pub goes_on : {A : Type 0} (P : A → Type 0) (xs : List A) (i : ℕ) (x : A) → i < length xs → x ≡ get_or xs i x → P x → (All P (drop i xs) ↔ All P xs) → (All P (drop (i + 1) xs) ↔ All P xs)
goes_on P xs i x within is keeps so_far =
    let left : drop i xs ≡ x ∷ drop (i + 1) xs = next_left xs i x within is in (
      λ rest. so_far.0 (subst (All P) (sym left) (All-cons P x (drop (i + 1) xs) keeps rest)),
      λ all. All-tail P x (drop (i + 1) xs) (subst (All P) left (so_far.1 all)),
    )

-- where none are left, all keep it
pub all_done : {A : Type 0} (P : A → Type 0) (xs : List A) (i : ℕ) → length xs ≤ i → (All P (drop i xs) ↔ All P xs) → All P xs
all_done P xs i past so_far = so_far.0 (λ k d lt. absurd (omega (arith, length-drop i xs, lt, past)))
