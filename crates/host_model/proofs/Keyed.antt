-- Which item the key of a run finds, after an item came or went: of rows, and of pairs of key and epoch.
use Rattle.std.specs.Cmp.{Equal-is}
use Rattle.std.specs.Ordering.{is_eq, match_ordering}
use Rattle.std.specs.declared.cmp.Ordering.{Ordering}
use Rattle.std.specs.declared.cmp.Ordering.TheVariants.{Less, Equal, Greater}
use Rattle.std.proofs.Common.{◌≡◌, ◌⊎◌, inl, inr, Bool, true, false, not, cond, List, [], ◌∷◌, Option, Some, None, is_some, refl, sym, ap, ◌∙◌, subst}
use Rattle.ps_time.specs.Key.{key_cmp}
use Rattle.ps_time.specs.Sorted.{find_key, insert_key, without_key}
use Rattle.ps_time.specs.declared.key.RunKey.{RunKey}
use Rattle.ps_time.proofs.KeyLemmas.{same_key, key_cmp_same}

pub key_is : (a b : RunKey) → is_eq (key_cmp a b) ≡ true → a ≡ b
key_is a b e = same_key a b ((Equal-is (key_cmp a b)).0 e)

pub key_same : (a : RunKey) → is_eq (key_cmp a a) ≡ true
key_same a = ap is_eq (key_cmp_same a)

pub key_of : (a b : RunKey) → a ≡ b → is_eq (key_cmp a b) ≡ true
key_of a b e = subst (λ x. is_eq (key_cmp a x) ≡ true) e (key_same a)

module _ {X : Type 0} (key : X → RunKey) where
  -- the item that has the key
  abbrev at : List X → RunKey → Option X
  at xs k = find_key key_cmp key xs k

  -- an item that is found has the key
  pub at-key : (xs : List X) (k : RunKey) (x : X) → at xs k ≡ Some x → key x ≡ k
  at-key [] k x e = cc
  at-key (y ∷ ys) k x e = go (is_eq (key_cmp (key y) k)) refl (at-key ys k x) e
    where
      go : (b : Bool) → is_eq (key_cmp (key y) k) ≡ b → (at ys k ≡ Some x → key x ≡ k) → cond b (Some y) (at ys k) ≡ Some x → key x ≡ k
      go true h ih e = let i : y ≡ x = cc in subst (λ z. key z ≡ k) i (key_is (key y) k h)
      go false h ih e = ih e

  -- of two items with different keys, the one that stands first hides nothing of the other
  module _ (n x : X) (o : Option X) (k : RunKey) where
    swap : (t u : Bool) → is_eq (key_cmp (key x) k) ≡ t → is_eq (key_cmp (key n) k) ≡ u → is_eq (key_cmp (key x) (key n)) ≡ false → cond t (Some x) (cond u (Some n) o) ≡ cond u (Some n) (cond t (Some x) o)
    swap true true e f g = let same : is_eq (key_cmp (key x) (key n)) ≡ true = key_of (key x) (key n) (key_is (key x) k e ∙ sym (key_is (key n) k f)) in cc
    swap true false e f g = refl
    swap false u e f g = refl

  head_not : (x : X) (o : Option X) (b : Bool) → cond b (Some x) o ≡ None → (b ≡ false) × (o ≡ None)
  head_not x o true e = cc
  head_not x o false e = (refl, e)

  pub at-put : (n : X) (xs : List X) (k : RunKey) → at xs (key n) ≡ None → at (insert_key key_cmp key xs n) k ≡ cond (is_eq (key_cmp (key n) k)) (Some n) (at xs k)
  at-put n [] k e = refl
  at-put n (x ∷ xs) k e =
      let new = head_not x (at xs (key n)) (is_eq (key_cmp (key x) (key n))) e in
      go (key_cmp (key x) (key n)) (swap n x (at xs k) k (is_eq (key_cmp (key x) k)) (is_eq (key_cmp (key n) k)) refl refl new.0) (at-put n xs k new.1)
    where
      late : cond (is_eq (key_cmp (key x) k)) (Some x) (cond (is_eq (key_cmp (key n) k)) (Some n) (at xs k)) ≡ cond (is_eq (key_cmp (key n) k)) (Some n) (cond (is_eq (key_cmp (key x) k)) (Some x) (at xs k)) →
          at (insert_key key_cmp key xs n) k ≡ cond (is_eq (key_cmp (key n) k)) (Some n) (at xs k) → at (x ∷ insert_key key_cmp key xs n) k ≡ cond (is_eq (key_cmp (key n) k)) (Some n) (at (x ∷ xs) k)
      late turn ih = ap (λ o. cond (is_eq (key_cmp (key x) k)) (Some x) o) ih ∙ turn

      go : (c : Ordering) → cond (is_eq (key_cmp (key x) k)) (Some x) (cond (is_eq (key_cmp (key n) k)) (Some n) (at xs k)) ≡ cond (is_eq (key_cmp (key n) k)) (Some n) (cond (is_eq (key_cmp (key x) k)) (Some x) (at xs k)) →
          at (insert_key key_cmp key xs n) k ≡ cond (is_eq (key_cmp (key n) k)) (Some n) (at xs k) →
          at (match_ordering c (x ∷ insert_key key_cmp key xs n) (x ∷ insert_key key_cmp key xs n) (n ∷ x ∷ xs)) k ≡ cond (is_eq (key_cmp (key n) k)) (Some n) (at (x ∷ xs) k)
      go Less turn ih = late turn ih
      go Equal turn ih = late turn ih
      go Greater turn ih = refl

  -- what stands after an item may have come stood before, or is the new one
  pub put_from : (n : X) (xs : List X) (k : RunKey) (x : X) → at (cond (is_some (at xs (key n))) xs (insert_key key_cmp key xs n)) k ≡ Some x → (at xs k ≡ Some x) ⊎ ((key n ≡ k) × (n ≡ x))
  put_from n xs k x e = go (at xs (key n)) refl e
    where
      one : (b : Bool) → is_eq (key_cmp (key n) k) ≡ b → cond b (Some n) (at xs k) ≡ Some x → (at xs k ≡ Some x) ⊎ ((key n ≡ k) × (n ≡ x))
      one true h e = inr (key_is (key n) k h, cc)
      one false h e = inl e

      go : (f : Option X) → at xs (key n) ≡ f → at (cond (is_some f) xs (insert_key key_cmp key xs n)) k ≡ Some x → (at xs k ≡ Some x) ⊎ ((key n ≡ k) × (n ≡ x))
      go (Some y) h e = inl e
      go None h e = one (is_eq (key_cmp (key n) k)) refl (sym (at-put n xs k h) ∙ e)

  -- what stood before stands after
  pub put_keeps : (n : X) (xs : List X) (k : RunKey) (x : X) → at xs k ≡ Some x → at (cond (is_some (at xs (key n))) xs (insert_key key_cmp key xs n)) k ≡ Some x
  put_keeps n xs k x e = go (at xs (key n)) refl
    where
      one : (b : Bool) → at xs (key n) ≡ None → is_eq (key_cmp (key n) k) ≡ b → cond b (Some n) (at xs k) ≡ Some x
      one true new h = let there : at xs (key n) ≡ Some x = subst (λ j. at xs j ≡ Some x) (sym (key_is (key n) k h)) e in cc
      one false new h = e

      go : (f : Option X) → at xs (key n) ≡ f → at (cond (is_some f) xs (insert_key key_cmp key xs n)) k ≡ Some x
      go (Some y) h = e
      go None h = at-put n xs k h ∙ one (is_eq (key_cmp (key n) k)) h refl

  -- an item with another key than the one that goes stays
  pub without_keeps : (j k : RunKey) → is_eq (key_cmp k j) ≡ false → (xs : List X) (x : X) → at xs k ≡ Some x → at (without_key key_cmp key xs j) k ≡ Some x
  without_keeps j k other [] x e = e
  without_keeps j k other (y ∷ ys) x e = go (is_eq (key_cmp (key y) k)) (is_eq (key_cmp (key y) j)) refl refl e (without_keeps j k other ys x)
    where
      rest : List X
      rest = without_key key_cmp key ys j

      go : (a b : Bool) → is_eq (key_cmp (key y) k) ≡ a → is_eq (key_cmp (key y) j) ≡ b → cond a (Some y) (at ys k) ≡ Some x → (at ys k ≡ Some x → at rest k ≡ Some x) → at (cond (not b) (y ∷ rest) rest) k ≡ Some x
      go true true h g e ih = let both : is_eq (key_cmp k j) ≡ true = subst (λ z. is_eq (key_cmp z j) ≡ true) (key_is (key y) k h) g in cc
      go false true h g e ih = ih e
      go true false h g e ih = ap (λ t. cond t (Some y) (at rest k)) h ∙ e
      go false false h g e ih = ap (λ t. cond t (Some y) (at rest k)) h ∙ ih e

  -- and what stays stood before
  without_none : (j : RunKey) (xs : List X) → at (without_key key_cmp key xs j) j ≡ None
  without_none j [] = refl
  without_none j (x ∷ xs) = go (is_eq (key_cmp (key x) j)) refl (without_none j xs)
    where
      rest : List X
      rest = without_key key_cmp key xs j

      go : (b : Bool) → is_eq (key_cmp (key x) j) ≡ b → at rest j ≡ None → at (cond (not b) (x ∷ rest) rest) j ≡ None
      go true h ih = ih
      go false h ih = ap (λ t. cond t (Some x) (at rest j)) h ∙ ih

  pub without_from : (j k : RunKey) (xs : List X) (x : X) → at (without_key key_cmp key xs j) k ≡ Some x → at xs k ≡ Some x
  without_from j k [] x e = cc
  without_from j k (y ∷ ys) x e = go (is_eq (key_cmp (key y) k)) (is_eq (key_cmp (key y) j)) refl refl e (without_from j k ys x)
    where
      rest : List X
      rest = without_key key_cmp key ys j

      go : (a b : Bool) → is_eq (key_cmp (key y) k) ≡ a → is_eq (key_cmp (key y) j) ≡ b → at (cond (not b) (y ∷ rest) rest) k ≡ Some x → (at rest k ≡ Some x → at ys k ≡ Some x) → cond a (Some y) (at ys k) ≡ Some x
      go true false h g e ih = sym (ap (λ t. cond t (Some y) (at rest k)) h) ∙ e
      go false false h g e ih = ih (sym (ap (λ t. cond t (Some y) (at rest k)) h) ∙ e)
      go false true h g e ih = ih e
      go true true h g e ih =
          let same : j ≡ k = sym (key_is (key y) j g) ∙ key_is (key y) k h in
          let none : at rest k ≡ None = subst (λ z. at rest z ≡ None) same (without_none j ys) in
          cc
