-- Lists in the order of their keys: one more key, and the keys that occur.
use Rattle.std.specs.Prelude.{List, [], ◌∷◌}
use Rattle.std.specs.List.{fold}
use Rattle.std.specs.declared.cmp.Ordering.{Ordering}
use Rattle.std.specs.Ordering.{match_ordering}

-- the list with `change` of the item that has the key in its place; where none has it, with a new item in the order
abbrev pub upsert : {K X : Type 0} → (K → K → Ordering) → (X → K) → K → X → (X → X) → List X → List X
upsert cmp key k new change [] = new ∷ []
upsert cmp key k new change (x ∷ xs) = match_ordering (cmp k (key x)) (new ∷ x ∷ xs) (change x ∷ xs) (x ∷ upsert cmp key k new change xs)

-- one more key, unless it is there
abbrev pub with_key : {K : Type 0} → (K → K → Ordering) → List K → K → List K
with_key cmp ks k = upsert cmp (λ x. x) k k (λ x. x) ks

-- the keys that occur, each once, ascending
abbrev pub occurring : {K : Type 0} → (K → K → Ordering) → List K → List K
occurring cmp ks = fold (with_key cmp) [] ks
