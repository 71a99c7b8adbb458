-- Where the items of blocks stand among all of them.
use Rattle.std.proofs.Common.{◌≡◌, ◌∙◌, ◌⊎◌, inl, inr, ◌<◌, ◌≤◌, ◌+◌, ◌-◌, ◌*◌, ◌/◌, ◌%◌, ℕ, zero, suc, List, [], ◌∷◌, ◌++◌, length, get_or, take, drop, sym, ap, arith, length-append, length-drop}
use Rattle.std.proofs.lemmas.Bool.{cases_lt}
use Rattle.std.proofs.lemmas.List.{drop-drop, drop-take, get_or_append_left, get_or-append_right, length-take-le}
use Rattle.ps_lists.specs.SlidingList.{SlidingList as Block}
use Rattle.ps_lists.specs.TieredList.{AreFilled, IsFilled, joined, most}

-- place j of block i is a place of all items
pub record StandsAt {X : Type 0} (blocks : List (Block X)) (i j place : ℕ) : Type 0 where
  pub block : i < length blocks
  pub within : (b : Block X) → b ≡ get_or blocks i b → j < length b.list
  pub item : (b : Block X) (x : X) → b ≡ get_or blocks i b → x ≡ get_or b.list j x → x ≡ get_or (joined blocks) place x

-- a block with items behind it is full
full : {X : Type 0} (b : Block X) (bs : List (Block X)) → IsFilled b bs → (length b.list ≡ most) ⊎ (length (joined bs) ≡ 0)
full b bs filled = go (cases_lt (length b.list) most)
  where
    go : (length b.list < most) ⊎ (most ≤ length b.list) → (length b.list ≡ most) ⊎ (length (joined bs) ≡ 0)
    go (inl lt) = inr (ap length (filled.full lt))
    go (inr le) = inl (omega (arith, le, filled.few))

pub stands : {X : Type 0} (blocks : List (Block X)) → AreFilled blocks → (i j place : ℕ) → j < most → place ≡ most * i + j → place < length (joined blocks) → StandsAt blocks i j place
stands [] filled i j place low is lt = absurd (omega (arith, lt))
stands {X = X} (b ∷ bs) filled zero j place low is lt =
    let here : place ≡ j = omega (arith, is) in
    let long : j < length b.list = go (full b bs filled.0) in
    record {
      block = omega arith;
      within = λ d same. omega (arith, long, ap (λ (y : Block X). length y.list) same);
      item = λ d x same seen. seen ∙ ap (λ (y : Block X). get_or y.list j x) same ∙ sym (get_or_append_left b.list (joined bs) x j long) ∙ ap (λ n. get_or (b.list ++ joined bs) n x) (sym here);
    }
  where
    go : (length b.list ≡ most) ⊎ (length (joined bs) ≡ 0) → j < length b.list
    go (inl all) = omega (arith, all, low)
    go (inr none) = omega (arith, none, is, lt, length-append b.list (joined bs))
stands (b ∷ bs) filled (suc i) j place low is lt =
    let all : length b.list ≡ most = go (full b bs filled.0) in
    let later = stands bs filled.1 i j (place - most) low (omega (arith, is)) (omega (arith, is, lt, all, length-append b.list (joined bs))) in
    record {
      block = omega (arith, later.block);
      within = later.within;
      item = λ d x same seen. later.item d x same seen ∙ sym (get_or-append_right b.list (joined bs) most place x all (omega (arith, is)));
    }
  where
    go : (length b.list ≡ most) ⊎ (length (joined bs) ≡ 0) → length b.list ≡ most
    go (inl all) = all
    go (inr none) = absurd (omega (arith, none, is, lt, filled.0.few, length-append b.list (joined bs)))

pub stands_at : {X : Type 0} (blocks : List (Block X)) → AreFilled blocks → (place : ℕ) → place < length (joined blocks) → StandsAt blocks (place / most) (place % most) place
stands_at blocks filled place lt = stands blocks filled (place / most) (place % most) place (omega arith) (omega arith) lt

-- ---- those that are left of a list
module _ {X : Type 0} (xs : List X) (from until : ℕ) (left : List X) (within : until ≤ length xs) (is : take (until - from) (drop from xs) ≡ left) where
  pub length_left : length left ≡ until - from
  length_left = sym (ap (λ (l : List X). length l) is) ∙ length-take-le (until - from) (drop from xs) (omega (arith, within, length-drop from xs))

  pub drop_left : (i : ℕ) → i ≤ until - from → drop i left ≡ take (until - (from + i)) (drop (from + i) xs)
  drop_left i le =
      let count : until - from ≡ i + (until - (from + i)) = omega (arith, le) in
      sym (ap (drop i) is) ∙ ap (λ n. drop i (take n (drop from xs))) count ∙ drop-take i (until - (from + i)) (drop from xs) ∙ ap (take (until - (from + i))) (drop-drop i from xs)
