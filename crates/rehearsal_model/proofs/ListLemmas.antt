-- Lists: each item and each pair, the last first and the first first, a search by number.
use Rattle.std.specs.List.{AllByRecursion}
use Rattle.std.specs.Prelude.{All, AllPairs}
use Rattle.std.proofs.Common.{◌≡◌, ◌==◌, inl, inr, ℕ, zero, suc, false, cond, List, [], ◌∷◌, ◌++◌, length, reverse, Some, None, slice_get, refl, sym, ap, ◌∙◌, subst, arith}
use Rattle.std.proofs.lemmas.Bool.Decides.{nat_tests}
use Rattle.std.proofs.lemmas.List.{length-reverse, reverse-append}
use Rattle.std.proofs.lemmas.List.Elements.{All-head, All-push, All-same, All-tail, recursion_from_All}
use Rattle.world_law.specs.World.{aged}
use Rattle.world_law.proofs.Stages.{aged_cases}

-- ---- each
pub each_weaker : {X : Type 0} (P Q : X → Type 0) → ((x : X) → P x → Q x) → (xs : List X) → AllByRecursion P xs → AllByRecursion Q xs
each_weaker P Q up [] all = tt
each_weaker P Q up (x ∷ xs) all = (up x all.0, each_weaker P Q up xs all.1)

pub each_at : {X : Type 0} (P : X → Type 0) (xs : List X) (i : ℕ) (x : X) → AllByRecursion P xs → slice_get xs i ≡ Some x → P x
each_at P [] i x all e = cc
each_at P (y ∷ xs) zero x all e = let same : y ≡ x = cc in subst P same all.0
each_at P (y ∷ xs) (suc i) x all e = each_at P xs i x all.1 e

pub all_aged : {X : Type 0} (P : X → Type 0) (xs : List X) (i : ℕ) (x : X) → All P xs → aged xs i ≡ Some x → P x
all_aged P [] i x all e = cc
all_aged P (y ∷ xs) i x all e = elim (aged_cases y xs i x e) [
  | inl here ↦ subst P here.1 (All-head P y xs all)
  | inr before ↦ all_aged P xs i x (All-tail P y xs all) before
]

pub all_reverse : {X : Type 0} (P : X → Type 0) (xs : List X) → All P xs → All P (reverse xs)
all_reverse P [] all = all
all_reverse P (x ∷ xs) all = All-same P (reverse (x ∷ xs)) (reverse xs ++ x ∷ []) (reverse-append (x ∷ []) xs) (All-push P (reverse xs) x (all_reverse P xs (All-tail P x xs all)) (All-head P x xs all))

-- ---- each pair
abbrev pub Pairs : {X : Type 0} → (X → X → Type 0) → List X → Type 0
Pairs R [] = Unit {0}
Pairs R (x ∷ xs) = AllByRecursion (R x) xs × Pairs R xs

pub pairs : {X : Type 0} (R : X → X → Type 0) (xs : List X) → AllPairs R xs → Pairs R xs
pairs R [] all = tt
pairs R (x ∷ xs) all = (
  recursion_from_All (R x) xs (λ k d lt. all 0 (suc k) d (omega arith) (omega (arith, lt))),
  pairs R xs (λ i j d less lt. all (suc i) (suc j) d (omega (arith, less)) (omega (arith, lt))),
)

-- ---- the first one first
unequal : (n : ℕ) → (zero == suc n) ≡ false
unequal n = grind (arith, nat_tests)

more : (n : ℕ) → (suc n == zero) ≡ false
more n = grind (arith, nat_tests)

same_test : (i n : ℕ) → (suc i == suc n) ≡ (i == n)
same_test i n = grind (arith, nat_tests)

get_last : {X : Type 0} (xs : List X) (y : X) (i : ℕ) → slice_get (xs ++ y ∷ []) i ≡ cond (i == length xs) (Some y) (slice_get xs i)
get_last [] y zero = refl
get_last [] y (suc i) = sym (ap (λ b. cond b (Some y) None) (more i))
get_last (x ∷ xs) y zero = sym (ap (λ b. cond b (Some y) (Some x)) (unequal (length xs)))
get_last (x ∷ xs) y (suc i) = get_last xs y i ∙ sym (ap (λ b. cond b (Some y) (slice_get xs i)) (same_test i (length xs)))

-- by the number that each keeps
pub aged_is : {X : Type 0} (xs : List X) (i : ℕ) → slice_get (reverse xs) i ≡ aged xs i
aged_is [] i = refl
aged_is (x ∷ xs) i =
    ap (λ ys. slice_get ys i) (reverse-append (x ∷ []) xs) ∙ get_last (reverse xs) x i ∙ ap (λ n. cond (i == n) (Some x) (slice_get (reverse xs) i)) (length-reverse xs) ∙ ap (λ o. cond (i == length xs) (Some x) o) (aged_is xs i)
