-- A filter of what passed another test, and the last of what passes one.
use Rattle.std.specs.List.{last_or}
use Rattle.std.proofs.Common.{◌≡◌, ◌∙◌, ◌&&◌, Bool, true, false, cond, List, [], ◌∷◌, None, Option, Some, filter, refl, ap, sym}

-- two tests in a row are one test
pub filter_twice : {X : Type 0} (p g : X → Bool) (xs : List X) → filter g (filter p xs) ≡ filter (λ x. p x && g x) xs
filter_twice p g [] = refl
filter_twice p g (x ∷ xs) = elim (p x) as (λ b. filter g (cond b (x ∷ filter p xs) (filter p xs)) ≡ cond (b && g x) (x ∷ filter (λ y. p y && g y) xs) (filter (λ y. p y && g y) xs)) [
  | true ↦ ap (λ l. cond (g x) (x ∷ l) l) (filter_twice p g xs)
  | false ↦ filter_twice p g xs
]

-- ---- the last item
-- where there is none, none is left
pub none_left : {X : Type 0} (g : X → Bool) (xs : List X) → last_or None xs ≡ None → last_or None (filter g xs) ≡ None
none_left g [] e = refl
none_left {X} g (x ∷ xs) e = absurd (some x xs e)
  where
    some : (x : X) (xs : List X) → last_or (Some x) xs ≡ None → ⊥
    some x [] e = cc
    some x (y ∷ ys) e = some y ys e

-- it is the last of those that pass, where it passes
left_behind : {X : Type 0} (g : X → Bool) (last : X) (before left : Option X) (xs : List X) → (before ≡ Some last → left ≡ Some last) → g last ≡ true → last_or before xs ≡ Some last → last_or left (filter g xs) ≡ Some last
left_behind g last before left [] here passes e = here e
left_behind {X} g last before left (x ∷ xs) here passes e = go (g x) refl (λ rest other. left_behind g last (Some x) rest xs other passes e)
  where
    Behind : Type 0
    Behind = (rest : Option X) → (Some x ≡ Some last → rest ≡ Some last) → last_or rest (filter g xs) ≡ Some last

    go : (b : Bool) → g x ≡ b → Behind → last_or left (cond b (x ∷ filter g xs) (filter g xs)) ≡ Some last
    go true is behind = behind (Some x) (λ same. same)
    go false is behind = behind left other
      where
        other : Some x ≡ Some last → left ≡ Some last
        other same = let one : x ≡ last = cc in let never : true ≡ false = sym passes ∙ (ap g (sym one) ∙ is) in cc

pub last_left : {X : Type 0} (g : X → Bool) (last : X) (xs : List X) → last_or None xs ≡ Some last → g last ≡ true → last_or None (filter g xs) ≡ Some last
last_left g last xs e passes = left_behind g last None None xs (λ none. none) passes e
