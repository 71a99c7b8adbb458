-- Where a search by halves ends in an ascending list, and what stands there.
use Rattle.std.proofs.Common.{◌≡◌, ◌∙◌, ◌⊎◌, inl, inr, ◌<◌, ◌≤◌, ℕ, true, false, List, length, get_or, refl, sym, ap, subst, arith}
use Rattle.std.proofs.lemmas.Bool.{cases_lt}
use Rattle.std.proofs.lemmas.List.{get_or_default}
use Rattle.std.specs.Cmp.{IsTotalOrder}
use Rattle.std.specs.List.Sorted.{IsPartitionedBy, IsPartitionPoint}
use Rattle.std.specs.Ordering.{is_lt, ordering_reverse}
use Rattle.std.specs.declared.cmp.Ordering.{Ordering}
use Rattle.std.specs.declared.cmp.Ordering.TheVariants.{Less, Equal, Greater}
use Rattle.ps_time.specs.Sorted.{IsAscending}
use Rattle.ps_time.proofs.SortedLemmas.{ascending_at}

less_of : (c : Ordering) → is_lt c ≡ true → c ≡ Less
less_of Less is = refl
less_of Equal is = cc
less_of Greater is = cc

greater_of : (c : Ordering) → is_lt c ≡ false → (c ≡ Equal → Less ≡ Greater) → c ≡ Greater
greater_of Less is other = cc
greater_of Equal is other = let wrong = other refl in cc
greater_of Greater is other = refl

module _ {K X : Type 0} {cmp : K → K → Ordering} (o : IsTotalOrder cmp) (key : X → K) (xs : List X) (up : IsAscending cmp key xs) (k : K) where
  -- those below the key stand before all others
  pub parts_below : IsPartitionedBy (λ x. is_lt (cmp (key x) k)) xs
  parts_below i j d le within below = go (cases_lt i j)
    where
      go : (i < j) ⊎ (j ≤ i) → is_lt (cmp (key (get_or xs i d)) k) ≡ true
      go (inl low) = ap is_lt (o.trans _ _ _ (ascending_at o key xs up i j d low within) (less_of (cmp (key (get_or xs j d)) k) below))
      go (inr high) = let same : j ≡ i = omega (arith, le, high) in subst (λ n. is_lt (cmp (key (get_or xs n d)) k) ≡ true) same below

  module _ (i : ℕ) (parted : IsPartitionPoint (λ x. is_lt (cmp (key x) k) ≡ true) (λ x. is_lt (cmp (key x) k) ≡ false) xs i) where
    -- what stands behind one above the key is above it
    above_far : (a b : K) → cmp a b ≡ Less → cmp a k ≡ Greater → cmp b k ≡ Greater
    above_far a b below above =
        let first : cmp k a ≡ Less = o.antisymm k a ∙ ap ordering_reverse above in
        o.antisymm b k ∙ ap ordering_reverse (o.trans k a b first below)

    -- where no item there has the key, one with it would go there
    pub open_there : (e : X) → (i < length xs → cmp (key (get_or xs i e)) k ≡ Equal → Less ≡ Greater) → IsPartitionPoint (λ x. cmp (key x) k ≡ Less) (λ x. cmp (key x) k ≡ Greater) xs i
    open_there e other = (λ j d low high. less_of (cmp (key (get_or xs j d)) k) (parted.0 j d low high), λ j d low high. go j d low high (cases_lt i j))
      where
        here : (d : X) → i < length xs → cmp (key (get_or xs i d)) k ≡ Greater
        here d within = greater_of (cmp (key (get_or xs i d)) k) (parted.1 i d (omega arith) within) (λ same. other within (ap (λ x. cmp (key x) k) (get_or_default xs i e d within) ∙ same))

        go : (j : ℕ) (d : X) → i ≤ j → j < length xs → (i < j) ⊎ (j ≤ i) → cmp (key (get_or xs j d)) k ≡ Greater
        go j d low high (inl far) = above_far (key (get_or xs i d)) (key (get_or xs j d)) (ascending_at o key xs up i j d far high) (here d (omega (arith, far, high)))
        go j d low high (inr near) = let same : i ≡ j = omega (arith, low, near) in subst (λ n. cmp (key (get_or xs n d)) k ≡ Greater) same (here d (omega (arith, low, high)))

    -- the item that has the key stands there
    pub there : (j : ℕ) (d : X) → j < length xs → cmp (key (get_or xs j d)) k ≡ Equal → i ≡ j
    there j d within same = go (cases_lt j i) (cases_lt i j)
      where
        below_same : (a b : K) → cmp a b ≡ Less → cmp b k ≡ Equal → cmp a k ≡ Less
        below_same a b below same = rw (o.antisymm a k, ← o.congr b k a same, o.antisymm b a, below) refl

        go : (j < i) ⊎ (i ≤ j) → (i < j) ⊎ (j ≤ i) → i ≡ j
        go (inl early) other = let wrong = sym (parted.0 j d (omega arith) early) ∙ ap is_lt same in cc
        go (inr le) (inl late) =
            let below = below_same (key (get_or xs i d)) (key (get_or xs j d)) (ascending_at o key xs up i j d late within) same in
            let wrong = sym (parted.1 i d (omega arith) (omega (arith, late, within))) ∙ ap is_lt below in
            cc
        go (inr le) (inr ge) = omega (arith, le, ge)
