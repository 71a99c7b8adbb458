-- Two lists, place by place.
use Rattle.std.proofs.Common.{◌≡◌, ℕ, zero, suc, List, [], ◌∷◌, get_or, refl, All, length, arith}
use Rattle.std.proofs.lemmas.List.Elements.{All-nil, All-cons, All-head, All-tail}
use Rattle.std.specs.List.{AllZip}
use lib.ListN.{set}

pub zip_refl : {A : Type 0} (R : A → A → Type 0) → ((x : A) → R x x) → (xs : List A) → AllZip R xs xs
zip_refl R r [] = tt
zip_refl R r (x ∷ xs) = (r x, zip_refl R r xs)

pub zip_chain : {A B C : Type 0} (R : A → B → Type 0) (Q : B → C → Type 0) (P : A → C → Type 0) → ((x : A) (y : B) (z : C) → R x y → Q y z → P x z)
    → (xs : List A) (ys : List B) (zs : List C) → AllZip R xs ys → AllZip Q ys zs → AllZip P xs zs
zip_chain R Q P f [] [] [] p q = tt
zip_chain R Q P f [] [] (z ∷ zs) p q = absurd q
zip_chain R Q P f [] (y ∷ ys) zs p q = absurd p
zip_chain R Q P f (x ∷ xs) [] zs p q = absurd p
zip_chain R Q P f (x ∷ xs) (y ∷ ys) [] p q = absurd q
zip_chain R Q P f (x ∷ xs) (y ∷ ys) (z ∷ zs) p q = (f x y z p.0 q.0, zip_chain R Q P f xs ys zs p.1 q.1)

-- one that is replaced
pub zip_set : {A B : Type 0} (R : A → B → Type 0) (xs : List A) (ys : List B) (i : ℕ) (d y : B) → ((x : A) → R x (get_or ys i d) → R x y) → AllZip R xs ys → AllZip R xs (set ys i y)
zip_set R [] [] i d y f p = tt
zip_set R [] (b ∷ bs) i d y f p = absurd p
zip_set R (a ∷ rest) [] i d y f p = absurd p
zip_set R (a ∷ rest) (b ∷ bs) zero d y f p = (f a p.0, p.1)
zip_set R (a ∷ rest) (b ∷ bs) (suc n) d y f p = (p.0, zip_set R rest bs n d y f p.1)

-- what each second one has
pub zip_all : {A B : Type 0} (R : A → B → Type 0) (P : B → Type 0) → ((x : A) (y : B) → R x y → P y) → (xs : List A) (ys : List B) → AllZip R xs ys → All P ys
zip_all R P f [] [] p = All-nil P
zip_all R P f [] (y ∷ ys) p = absurd p
zip_all R P f (x ∷ xs) [] p = absurd p
zip_all R P f (x ∷ xs) (y ∷ ys) p = All-cons P y ys (f x y p.0) (zip_all R P f xs ys p.1)

-- the first of those that go with a list that has a first one
pub record First {A B : Type 0} (R : A → B → Type 0) (xs : List A) (y : B) (ys : List B) : Type 0 where
  pub head : A
  pub rest : List A
  pub is : xs ≡ head ∷ rest
  pub here : R head y
  pub later : AllZip R rest ys

pub zip_first : {A B : Type 0} (R : A → B → Type 0) (xs : List A) (y : B) (ys : List B) → AllZip R xs (y ∷ ys) → First R xs y ys
zip_first R [] y ys p = absurd p
zip_first R (x ∷ xs) y ys p = record { head = x; rest = xs; is = refl; here = p.0; later = p.1 }

pub zip_with_all : {A B : Type 0} (R : A → B → Type 0) (P : B → Type 0) (xs : List A) (ys : List B) → AllZip R xs ys → All P ys → AllZip (λ x y. R x y × P y) xs ys
zip_with_all R P [] [] p q = tt
zip_with_all R P [] (y ∷ ys) p q = absurd p
zip_with_all R P (x ∷ xs) [] p q = absurd p
zip_with_all R P (x ∷ xs) (y ∷ ys) p q = ((p.0, All-head P y ys q), zip_with_all R P xs ys p.1 (All-tail P y ys q))

pub none_left : {A : Type 0} (xs : List A) → length xs ≡ 0 → xs ≡ []
none_left [] e = refl
none_left (x ∷ xs) e = absurd (let some : length (x ∷ xs) ≡ suc (length xs) = refl in omega (arith, some, e))

pub zip_weaker : {A B : Type 0} (R Q : A → B → Type 0) → ((x : A) (y : B) → R x y → Q x y) → (xs : List A) (ys : List B) → AllZip R xs ys → AllZip Q xs ys
zip_weaker R Q f [] [] p = tt
zip_weaker R Q f [] (y ∷ ys) p = absurd p
zip_weaker R Q f (x ∷ xs) [] p = absurd p
zip_weaker R Q f (x ∷ xs) (y ∷ ys) p = (f x y p.0, zip_weaker R Q f xs ys p.1)
