-- What a binary search has found.
use Rattle.std.proofs.Common.{◌≡◌, ◌∙◌, ◌⊎◌, inl, inr, ◌<◌, ◌≤◌, ◌+◌, ℕ, Bool, true, false, List, [], ◌∷◌, length, get_or, refl, sym, ap, arith}
use Rattle.std.specs.declared.cmp.Ordering.{Ordering}
use Rattle.std.specs.declared.cmp.Ordering.TheVariants.{Less, Equal, Greater}
use Rattle.std.specs.Ordering.{is_le, ordering_index}
use Rattle.std.proofs.lemmas.Bool.{true≢false}
use Rattle.std.specs.Fn.{AlwaysReturns, Called, Mut}
use Rattle.std.specs.List.{AllWithin, HoldsAt}
use Rattle.std.specs.List.Sorted.{IsNonDecreasingBy, IsPartitionedBy, IsPartitionPoint}

-- one answer of a closure that always answers so
pub answers_next : {F X R : Type 0} (g : Mut F X R) (P : X → R → Type 0) (f : F) (a : X) (r : R) (f' : F) → Called g f a r f' → AlwaysReturns g P f → P a r × AlwaysReturns g P f'
answers_next g P f a r f' called always = ((always.at (a ∷ []) r f' called).0, record { at = λ xs. (always.at (a ∷ xs) r f' called).1 })

module _ {X : Type 0} (p : X → Bool) (xs : List X) where
  -- the items before base pass the test, and those behind the next size items fail it
  pub record Halved (base size : ℕ) : Type 0 where
    pub low : (base ≡ 0) ⊎ HoldsAt (λ y. p y ≡ true) xs base
    pub high : IsPartitionedBy p xs → AllWithin (λ y. p y ≡ false) xs (base + size) (length xs)

  fails : (m k : ℕ) (d : X) → m ≤ k → k < length xs → HoldsAt (λ y. p y ≡ false) xs m → IsPartitionedBy p xs → p (get_or xs k d) ≡ false
  fails m k d le lt failing parted = go (p (get_or xs k d)) (parted m k d le lt)
    where
      go : (b : Bool) → (b ≡ true → p (get_or xs m d) ≡ true) → b ≡ false
      go true first = let wrong = sym (first refl) ∙ failing d in cc
      go false first = refl

  pub unhalved : Halved 0 (length xs)
  unhalved = record { low = inl refl; high = λ parted k d a b. absurd (omega (arith, a, b)) }

  pub failed : (base size mid left : ℕ) → mid ≤ base + left → Halved base size → HoldsAt (λ y. p y ≡ false) xs mid → Halved base left
  failed base size mid left within half failing = record { low = half.low; high = λ parted k d a b. fails mid k d (omega (arith, within, a)) b failing parted }

  pub passed : (base size mid left : ℕ) → base + size ≤ mid + left → Halved base size → HoldsAt (λ y. p y ≡ true) xs mid → Halved mid left
  passed base size mid left within half passing = record { low = inr passing; high = λ parted k d a b. half.high parted k d (omega (arith, within, a)) b }

  pub after_passing : (base size : ℕ) → size ≤ 1 → base < length xs → Halved base size → HoldsAt (λ y. p y ≡ true) xs base → IsPartitionedBy p xs → IsPartitionPoint (λ y. p y ≡ true) (λ y. p y ≡ false) xs (base + 1)
  after_passing base size one within half passing parted =
      (λ k d a b. parted k base d (omega (arith, b)) within (passing d), λ k d a b. half.high parted k d (omega (arith, one, a)) b)

  pub at_failing : (base size : ℕ) → Halved base size → HoldsAt (λ y. p y ≡ false) xs base → IsPartitionedBy p xs → IsPartitionPoint (λ y. p y ≡ true) (λ y. p y ≡ false) xs base
  at_failing base size half failing parted = (λ k d a b. before k d b half.low, λ k d a b. fails base k d a b failing parted)
    where
      before : (k : ℕ) (d : X) → k < base → (base ≡ 0) ⊎ HoldsAt (λ y. p y ≡ true) xs base → p (get_or xs k d) ≡ true
      before k d lt (inl none) = absurd (omega (arith, lt, none))
      before k d lt (inr passing) = let wrong = sym (passing d) ∙ failing d in cc

-- ---- of two parts, those whose key is at most the one that is searched, and the greater ones
low_index : (o : Ordering) → is_le o ≡ true → ordering_index o ≤ 1
low_index Less low = omega arith
low_index Equal low = omega arith
low_index Greater low = absurd (true≢false (sym low))

is_low : (o : Ordering) → ordering_index o ≤ 1 → is_le o ≡ true
is_low Less few = refl
is_low Equal few = refl
is_low Greater few = absurd (omega (arith, few))

is_least : (o : Ordering) → ordering_index o ≤ 0 → o ≡ Less
is_least Less none = refl
is_least Equal none = absurd (omega (arith, none))
is_least Greater none = absurd (omega (arith, none))

is_greater : (o : Ordering) → is_le o ≡ false → o ≡ Greater
is_greater Less high = absurd (true≢false high)
is_greater Equal high = absurd (true≢false high)
is_greater Greater high = refl

module _ {X : Type 0} (ord : X → Ordering) (xs : List X) (rising : IsNonDecreasingBy (λ y. ordering_index (ord y)) xs) where
  parted : IsPartitionedBy (λ y. is_le (ord y)) xs
  parted i j d le lt low = is_low (ord (get_or xs i d)) (omega (arith, rising i j d le lt, low_index (ord (get_or xs j d)) low))

  pub after_less : (base size : ℕ) → size ≤ 1 → base < length xs → Halved (λ y. is_le (ord y)) xs base size → HoldsAt (λ y. ord y ≡ Less) xs base → IsPartitionPoint (λ y. ord y ≡ Less) (λ y. ord y ≡ Greater) xs (base + 1)
  after_less base size one within half less =
      let least : (d : X) → ordering_index (ord (get_or xs base d)) ≡ 0 = λ d. ap ordering_index (less d) in
      (λ k d a b. is_least (ord (get_or xs k d)) (omega (arith, rising k base d (omega (arith, b)) within, least d)), λ k d a b. is_greater (ord (get_or xs k d)) (half.high parted k d (omega (arith, one, a)) b))

  pub at_greater : (base size : ℕ) → Halved (λ y. is_le (ord y)) xs base size → HoldsAt (λ y. ord y ≡ Greater) xs base → IsPartitionPoint (λ y. ord y ≡ Less) (λ y. ord y ≡ Greater) xs base
  at_greater base size half greater =
      let high : HoldsAt (λ y. is_le (ord y) ≡ false) xs base = λ d. ap is_le (greater d) in
      (λ k d a b. before k d b half.low, λ k d a b. is_greater (ord (get_or xs k d)) ((at_failing (λ y. is_le (ord y)) xs base size half high parted).1 k d a b))
    where
      before : (k : ℕ) (d : X) → k < base → (base ≡ 0) ⊎ HoldsAt (λ y. is_le (ord y) ≡ true) xs base → ord (get_or xs k d) ≡ Less
      before k d lt (inl none) = absurd (omega (arith, lt, none))
      before k d lt (inr low) = absurd (true≢false (sym (low d) ∙ ap is_le (greater d)))
