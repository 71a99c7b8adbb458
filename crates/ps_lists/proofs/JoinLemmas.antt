-- Items in blocks: what is changed, put in and taken out within a block, and what moves from block to block.
use Rattle.std.proofs.Common.{add-one, ◌≡◌, ◌∙◌, ◌⊎◌, inl, inr, ◌<◌, ◌≤◌, ◌+◌, ◌-◌, ◌*◌, ◌/◌, ◌%◌, ℕ, zero, suc, List, [], ◌∷◌, ◌++◌, length, get_or, set, refl, sym, ap, ap₂, arith, length-append}
use Rattle.std.specs.Bool.{⊤}
use Rattle.std.specs.List.{insert, remove}
use Rattle.std.proofs.lemmas.Bool.{cases_lt}
use Rattle.std.proofs.lemmas.List.{append_assoc, nil_from_length, set-append_left, set-append_right}
use Rattle.std.proofs.lemmas.List.Edits.{insert-append_left, insert-append_right, length-remove, remove-append_left, remove-append_right}
use Rattle.ps_lists.specs.SlidingList.{SlidingList as Block}
use Rattle.ps_lists.specs.TieredList.{joined, most, AreFilled, IsFilled, IsOpen, IsOpenAt}
use Rattle.ps_lists.proofs.LentLemmas.{stands_at}

module _ {X : Type 0} where
  -- it has room and places for an item more
  abbrev pub IsRoomy : Block X → Type 0
  IsRoomy b = (most ≤ b.places) × (length b.list < most)

  -- ---- which blocks are full
  abbrev pub AreFull : ℕ → List (Block X) → Type 0
  AreFull zero bs = ⊤
  AreFull (suc k) [] = ⊥
  AreFull (suc k) (b ∷ bs) = (length b.list ≡ most) × AreFull k bs

  is_full : (b : Block X) (bs : List (Block X)) → IsFilled b bs → most ≤ length (b.list ++ joined bs) → length b.list ≡ most
  is_full b bs filled long = go (cases_lt (length b.list) most)
    where
      go : (length b.list < most) ⊎ (most ≤ length b.list) → length b.list ≡ most
      go (inl less) = absurd (omega (arith, long, length-append b.list (joined bs), ap length (filled.full less)))
      go (inr more) = omega (arith, more, filled.few)

  pub filled_full : (k : ℕ) (bs : List (Block X)) → AreFilled bs → most * k ≤ length (joined bs) → AreFull k bs
  filled_full zero bs filled long = tt
  filled_full (suc k) [] filled long = absurd (omega (arith, long))
  filled_full (suc k) (b ∷ bs) filled long =
      (is_full b bs filled.0 (omega (arith, long)), filled_full k bs filled.1 (omega (arith, long, filled.0.few, length-append b.list (joined bs))))

  pub open_full : (k : ℕ) (bs : List (Block X)) → IsOpenAt k bs → AreFull k bs
  open_full zero bs is = tt
  open_full (suc k) [] is = is
  open_full (suc k) (b ∷ bs) is = (is.1, open_full k bs is.2)

  pub open_within : (k : ℕ) (bs : List (Block X)) → IsOpenAt k bs → k < length bs
  open_within k [] is = absurd is
  open_within zero (b ∷ bs) is = omega arith
  open_within (suc k) (b ∷ bs) is = omega (arith, open_within k bs is.2)

  -- ---- the block with room, by how many items there are
  pub open_at : (k : ℕ) (bs : List (Block X)) → AreFilled bs → k < length bs → most * k ≤ length (joined bs) → length (joined bs) < most * (k + 1) → IsOpenAt k bs
  open_at k [] filled within long short = absurd (omega (arith, within))
  open_at zero (b ∷ bs) filled within long short =
      (record { places = filled.0.places; room = omega (arith, short, length-append b.list (joined bs)); full = λ less. filled.0.full (omega (arith, less)) }, filled.1)
  open_at (suc k) (b ∷ bs) filled within long short =
      let full = is_full b bs filled.0 (omega (arith, long)) in
      let sum = length-append b.list (joined bs) in
      (filled.0.places, full, open_at k bs filled.1 (omega (arith, within)) (omega (arith, long, sum, full)) (omega (arith, short, sum, full)))

  pub filled_at : (k : ℕ) (bs : List (Block X)) → IsOpenAt k bs → length (joined bs) < most * (k + 1) → AreFilled bs
  filled_at k [] is short = tt
  filled_at zero (b ∷ bs) is short = (record { places = is.0.places; few = omega (arith, is.0.room); full = λ less. behind (cases_lt (length b.list + 1) most) }, is.1)
    where
      behind : (length b.list + 1 < most) ⊎ (most ≤ length b.list + 1) → joined bs ≡ []
      behind (inl less) = is.0.full less
      behind (inr more) = nil_from_length (joined bs) (omega (arith, more, short, length-append b.list (joined bs)))
  filled_at (suc k) (b ∷ bs) is short = (
    record { places = is.0; few = omega (arith, is.1); full = λ less. absurd (omega (arith, less, is.1)) },
    filled_at k bs is.2 (omega (arith, short, is.1, length-append b.list (joined bs))),
  )

  -- ---- how many items a block has
  pub open_held : (k : ℕ) (bs : List (Block X)) (b : Block X) (r : ℕ) → IsOpenAt k bs → most * k + r ≤ length (joined bs) → r < most → b ≡ get_or bs k b → r ≤ length b.list
  open_held k [] b r room long low is = absurd room
  open_held zero (d ∷ bs) b r room long low is = go (cases_lt (length d.list + 1) most)
    where
      same : length b.list ≡ length d.list
      same = ap (λ (x : Block X). length x.list) is

      go : (length d.list + 1 < most) ⊎ (most ≤ length d.list + 1) → r ≤ length b.list
      go (inl less) = omega (arith, same, long, length-append d.list (joined bs), ap length (room.0.full less))
      go (inr more) = omega (arith, same, more, low)
  open_held (suc k) (d ∷ bs) b r room long low is =
      open_held k bs b r room.2 (omega (arith, long, room.1, length-append d.list (joined bs))) low is

  -- the block with room, and the one behind it
  pub open_room : (k : ℕ) (bs : List (Block X)) (b : Block X) → IsOpenAt k bs → b ≡ get_or bs k b → IsRoomy b
  open_room k [] b room is = absurd room
  open_room zero (d ∷ bs) b room is =
      (omega (arith, room.0.places, ap (λ (x : Block X). x.places) is), omega (arith, room.0.room, ap (λ (x : Block X). length x.list) is))
  open_room (suc k) (d ∷ bs) b room is = open_room k bs b room.2 is

  pub full_held : (k : ℕ) (bs : List (Block X)) (b : Block X) → IsOpenAt (suc k) bs → b ≡ get_or bs k b → length b.list ≡ most
  full_held k [] b room is = absurd room
  full_held zero (d ∷ bs) b room is = ap (λ (x : Block X). length x.list) is ∙ room.1
  full_held (suc k) (d ∷ bs) b room is = full_held k bs b room.2 is

  pub next_within : (k : ℕ) (bs : List (Block X)) → IsOpenAt k bs → most * (k + 1) ≤ length (joined bs) → k + 1 < length bs
  next_within k [] room long = absurd room
  next_within zero (d ∷ []) room long = absurd (omega (arith, room.0.room, long, length-append d.list (joined {X = X} [])))
  next_within zero (d ∷ e ∷ bs) room long = omega arith
  next_within (suc k) (d ∷ bs) room long =
      omega (arith, next_within k bs room.2 (omega (arith, long, room.1, length-append d.list (joined bs))))

  pub next_held : (k : ℕ) (bs : List (Block X)) (c : Block X) → IsOpenAt k bs → most * (k + 1) ≤ length (joined bs) → c ≡ get_or bs (suc k) c → 0 < length c.list
  next_held k [] c room long is = absurd room
  next_held zero (d ∷ []) c room long is = absurd (omega (arith, room.0.room, long, length-append d.list (joined {X = X} [])))
  next_held zero (d ∷ e ∷ bs) c room long is = go (cases_lt 0 (length e.list))
    where
      same : length c.list ≡ length e.list
      same = ap (λ (x : Block X). length x.list) is

      go : (0 < length e.list) ⊎ (length e.list ≤ 0) → 0 < length c.list
      go (inl some) = omega (arith, same, some)
      go (inr none) = absurd (omega (arith, none, long, room.0.room, length-append d.list (e.list ++ joined bs), length-append e.list (joined bs), ap length (room.1.0.full (omega (arith, none)))))
  next_held (suc k) (d ∷ bs) c room long is =
      next_held k bs c room.2 (omega (arith, long, room.1, length-append d.list (joined bs))) is

  -- ---- an edit within a block is one of the items
  module _ (edit : List X → ℕ → List X) (more : ℕ) (near : (xs ys : List X) (i : ℕ) → i < length xs + more → edit (xs ++ ys) i ≡ edit xs i ++ ys) (far : (xs ys : List X) (i : ℕ) → edit (xs ++ ys) (length xs + i) ≡ xs ++ edit ys i) where
    edited : (k : ℕ) (bs : List (Block X)) (b c : Block X) (r : ℕ) → AreFull k bs → k < length bs → b ≡ get_or bs k b → r < length b.list + more → c.list ≡ edit b.list r → joined (set bs k c) ≡ edit (joined bs) (most * k + r)
    edited k [] b c r full within is low new = absurd (omega (arith, within))
    edited zero (d ∷ bs) b c r full within is low new =
        ap (λ l. l ++ joined bs) new ∙ sym (near b.list (joined bs) r low) ∙ ap (λ (a : Block X). edit (a.list ++ joined bs) r) is ∙ ap (edit (d.list ++ joined bs)) (omega arith)
    edited (suc k) (d ∷ bs) b c r full within is low new =
        ap (λ l. d.list ++ l) (edited k bs b c r full.1 (omega (arith, within)) is low new)
        ∙ sym (far d.list (joined bs) (most * k + r))
        ∙ ap (edit (d.list ++ joined bs)) (omega (arith, full.0))

  insert_far : (x : X) (xs ys : List X) (i : ℕ) → insert (xs ++ ys) (length xs + i) x ≡ xs ++ insert ys i x
  insert_far x xs ys i = insert-append_right xs ys (length xs) (length xs + i) x refl (omega arith) ∙ ap (λ n. xs ++ insert ys n x) (omega arith)

  remove_far : (xs ys : List X) (i : ℕ) → remove (xs ++ ys) (length xs + i) ≡ xs ++ remove ys i
  remove_far xs ys i = remove-append_right xs ys (length xs) (length xs + i) refl (omega arith) ∙ ap (λ n. xs ++ remove ys n) (omega arith)

  set_far : (x : X) (xs ys : List X) (i : ℕ) → set (xs ++ ys) (length xs + i) x ≡ xs ++ set ys i x
  set_far x xs ys i = set-append_right xs ys (length xs) (length xs + i) x refl (omega arith) ∙ ap (λ n. xs ++ set ys n x) (omega arith)

  pub inserted : (k : ℕ) (bs : List (Block X)) (b c : Block X) (r : ℕ) (x : X) → IsOpenAt k bs → b ≡ get_or bs k b → r ≤ length b.list → c.list ≡ insert b.list r x → joined (set bs k c) ≡ insert (joined bs) (most * k + r) x
  inserted k bs b c r x room is low new =
      edited (λ l i. insert l i x) 1 (λ xs ys i lt. insert-append_left xs ys i x (omega (arith, lt))) (insert_far x) k bs b c r (open_full k bs room) (open_within k bs room) is (omega (arith, low)) new

  module _ (bs : List (Block X)) (b c : Block X) (at : ℕ) (filled : AreFilled bs) (within : at < length (joined bs)) (is : b ≡ get_or bs (at / most) b) where
    changed : (edit : List X → ℕ → List X) → ((xs ys : List X) (i : ℕ) → i < length xs + 0 → edit (xs ++ ys) i ≡ edit xs i ++ ys) → ((xs ys : List X) (i : ℕ) → edit (xs ++ ys) (length xs + i) ≡ xs ++ edit ys i) → c.list ≡ edit b.list (at % most) → joined (set bs (at / most) c) ≡ edit (joined bs) at
    changed edit near far new =
        let there = stands_at bs filled at within in
        edited edit 0 near far (at / most) bs b c (at % most) (filled_full (at / most) bs filled (omega (arith, within))) there.block is (omega (arith, there.within b is)) new
        ∙ ap (edit (joined bs)) (omega arith)

    pub removed : c.list ≡ remove b.list (at % most) → joined (set bs (at / most) c) ≡ remove (joined bs) at
    removed = changed remove (λ xs ys i lt. remove-append_left xs ys i (omega (arith, lt))) remove_far

    pub replaced : (x : X) → c.list ≡ set b.list (at % most) x → joined (set bs (at / most) c) ≡ set (joined bs) at x
    replaced x = changed (λ l i. set l i x) (λ xs ys i lt. set-append_left xs ys i x (omega (arith, lt))) (set_far x)

  -- ---- one item more or less in a block
  pub put_filled : (k : ℕ) (bs : List (Block X)) (b c : Block X) → IsOpenAt k bs → b ≡ get_or bs k b → length c.list ≡ length b.list + 1 → c.places ≡ b.places → AreFilled (set bs k c)
  put_filled k [] b c room is count places = absurd room
  put_filled zero (d ∷ bs) b c room is count places =
      let same : length b.list ≡ length d.list = ap (λ (a : Block X). length a.list) is in
      let wide : b.places ≡ d.places = ap (λ (a : Block X). a.places) is in
      (record { places = omega (arith, room.0.places, wide, places); few = omega (arith, room.0.room, same, count); full = λ less. room.0.full (omega (arith, less, same, count)) }, room.1)
  put_filled (suc k) (d ∷ bs) b c room is count places =
      (record { places = room.0; few = omega (arith, room.1); full = λ less. absurd (omega (arith, less, room.1)) }, put_filled k bs b c room.2 is count places)

  pub taken_open : (k : ℕ) (bs : List (Block X)) (b c : Block X) → AreFilled bs → most * k < length (joined bs) → b ≡ get_or bs k b → length c.list + 1 ≡ length b.list → c.places ≡ b.places → IsOpenAt k (set bs k c)
  taken_open k [] b c filled long is count places = absurd (omega (arith, long))
  taken_open zero (d ∷ bs) b c filled long is count places =
      let same : length b.list ≡ length d.list = ap (λ (a : Block X). length a.list) is in
      let wide : b.places ≡ d.places = ap (λ (a : Block X). a.places) is in
      (record { places = omega (arith, filled.0.places, wide, places); room = omega (arith, filled.0.few, same, count); full = λ less. filled.0.full (omega (arith, less, same, count)) }, filled.1)
  taken_open (suc k) (d ∷ bs) b c filled long is count places =
      let full = is_full d bs filled.0 (omega (arith, long)) in
      (filled.0.places, full, taken_open k bs b c filled.1 (omega (arith, long, full, length-append d.list (joined bs))) is count places)

  pub set_filled : (k : ℕ) (bs : List (Block X)) (b c : Block X) → AreFilled bs → most * k < length (joined bs) → b ≡ get_or bs k b → length c.list ≡ length b.list → c.places ≡ b.places → AreFilled (set bs k c)
  set_filled k [] b c filled long is count places = absurd (omega (arith, long))
  set_filled zero (d ∷ bs) b c filled long is count places =
      let same : length b.list ≡ length d.list = ap (λ (a : Block X). length a.list) is in
      let wide : b.places ≡ d.places = ap (λ (a : Block X). a.places) is in
      (record { places = omega (arith, filled.0.places, wide, places); few = omega (arith, filled.0.few, same, count); full = λ less. filled.0.full (omega (arith, less, same, count)) }, filled.1)
  set_filled (suc k) (d ∷ bs) b c filled long is count places =
      let full = is_full d bs filled.0 (omega (arith, long)) in (
        record { places = filled.0.places; few = filled.0.few; full = λ less. absurd (omega (arith, less, full)) },
        set_filled k bs b c filled.1 (omega (arith, long, full, length-append d.list (joined bs))) is count places,
      )

  -- ---- an item moves to the next block, or to the one before
  last_back : (xs ys : List X) (n : ℕ) (x : X) → length xs ≡ suc n → x ≡ get_or xs n x → remove xs n ++ (x ∷ ys) ≡ xs ++ ys
  last_back [] ys n x long is = absurd (omega (arith, long))
  last_back (y ∷ []) ys zero x long is = ap (λ z. z ∷ ys) is
  last_back (y ∷ z ∷ xs) ys zero x long is = absurd (omega (arith, long))
  last_back (y ∷ xs) ys (suc n) x long is = ap (λ l. y ∷ l) (last_back xs ys n x (omega (arith, long)) is)

  first_on : (xs : List X) (x : X) → 0 < length xs → x ≡ get_or xs 0 x → x ∷ remove xs 0 ≡ xs
  first_on [] x some is = absurd (omega (arith, some))
  first_on (y ∷ xs) x some is = ap (λ z. z ∷ xs) is

  pub moved_on : (k : ℕ) (bs : List (Block X)) (b c b' c' : Block X) (x : X) → IsOpenAt (suc k) bs → b ≡ get_or bs k b → x ≡ get_or b.list (most - 1) x → b'.list ≡ remove b.list (most - 1) → b'.places ≡ b.places → c ≡ get_or (set bs k b') (suc k) c → c'.list ≡ insert c.list 0 x → c'.places ≡ c.places → IsOpenAt k (set (set bs k b') (suc k) c') × (joined (set (set bs k b') (suc k) c') ≡ joined bs)
  moved_on k [] b c b' c' x room is here list places is' list' places' = absurd room
  moved_on zero (d ∷ []) b c b' c' x room is here list places is' list' places' = absurd room.2
  moved_on zero (d ∷ e ∷ bs) b c b' c' x room is here list places is' list' places' =
      let full : length b.list ≡ most = ap (λ (a : Block X). length a.list) is ∙ room.1 in
      let less : length b'.list + 1 ≡ most = omega (arith, ap length list, length-remove b.list (most - 1) (omega (arith, full)), full) in
      let wide : most ≤ b'.places = omega (arith, room.0, places, ap (λ (a : Block X). a.places) is) in (
        (record { places = wide; room = omega (arith, less); full = λ fewer. absurd (omega (arith, less, fewer)) }, put_filled 0 (e ∷ bs) c c' room.2 is' (ap length list' ∙ sym (add-one (length c.list))) places'),
        ap₂ (λ l r. l ++ (r ++ joined bs)) list list' ∙ last_back b.list (c.list ++ joined bs) (most - 1) x full here ∙ ap₂ (λ (a f : Block X). a.list ++ (f.list ++ joined bs)) is is',
      )
  moved_on (suc k) (d ∷ bs) b c b' c' x room is here list places is' list' places' =
      let deep = moved_on k bs b c b' c' x room.2 is here list places is' list' places' in
      ((room.0, room.1, deep.0), ap (λ l. d.list ++ l) deep.1)

  filled_up : (d : Block X) (bs : List (Block X)) → IsOpen d bs → most ≤ length (d.list ++ joined bs) → length d.list + 1 ≡ most
  filled_up d bs room long = go (cases_lt (length d.list + 1) most)
    where
      go : (length d.list + 1 < most) ⊎ (most ≤ length d.list + 1) → length d.list + 1 ≡ most
      go (inl less) = absurd (omega (arith, room.room, long, length-append d.list (joined bs), ap length (room.full less)))
      go (inr more) = omega (arith, more, room.room)

  pub moved_back : (k : ℕ) (bs : List (Block X)) (b c b' c' : Block X) (x : X) → IsOpenAt k bs → most * (k + 1) ≤ length (joined bs) → c ≡ get_or bs (suc k) c → x ≡ get_or c.list 0 x → c'.list ≡ remove c.list 0 → c'.places ≡ c.places → b ≡ get_or (set bs (suc k) c') k b → b'.list ≡ b.list ++ x ∷ [] → b'.places ≡ b.places → IsOpenAt (suc k) (set (set bs (suc k) c') k b') × (joined (set (set bs (suc k) c') k b') ≡ joined bs)
  moved_back k [] b c b' c' x room long is here list places is' list' places' = absurd room
  moved_back zero (d ∷ []) b c b' c' x room long is here list places is' list' places' = absurd (omega (arith, room.0.room, long, length-append d.list (joined {X = X} [])))
  moved_back zero (d ∷ e ∷ bs) b c b' c' x room long is here list places is' list' places' =
      let some = next_held 0 (d ∷ e ∷ bs) c room long is in
      let same : length b.list ≡ length d.list = ap (λ (a : Block X). length a.list) is' in
      let more : length b'.list ≡ length b.list + 1 = ap length list' ∙ length-append b.list (x ∷ []) in
      let full : length b'.list ≡ most = omega (arith, same, more, filled_up d (e ∷ bs) room.0 long) in
      let fewer : length c'.list + 1 ≡ length c.list = ap (λ l. length l + 1) list ∙ length-remove c.list 0 some in
      let wide : most ≤ b'.places = omega (arith, room.0.places, places', ap (λ (a : Block X). a.places) is') in (
        (wide, full, taken_open 0 (e ∷ bs) c c' room.1 (omega (arith, some, ap (λ (a : Block X). length a.list) is, length-append e.list (joined bs))) is fewer places),
        ap₂ (λ l r. l ++ (r ++ joined bs)) list' list ∙ append_assoc b.list (x ∷ []) (remove c.list 0 ++ joined bs) ∙ ap (λ l. b.list ++ (l ++ joined bs)) (first_on c.list x some here) ∙ ap₂ (λ (a f : Block X). a.list ++ (f.list ++ joined bs)) is' is,
      )
  moved_back (suc k) (d ∷ bs) b c b' c' x room long is here list places is' list' places' =
      let deep = moved_back k bs b c b' c' x room.2 (omega (arith, long, room.1, length-append d.list (joined bs))) is here list places is' list' places' in
      ((room.0, room.1, deep.0), ap (λ l. d.list ++ l) deep.1)

  -- ---- all items, and one block more
  pub joined_few : (bs : List (Block X)) → AreFilled bs → length (joined bs) ≤ most * length bs
  joined_few [] filled = omega arith
  joined_few (b ∷ bs) filled = omega (arith, length-append b.list (joined bs), filled.0.few, joined_few bs filled.1)

  added : (bs : List (Block X)) (b : Block X) → AreFilled bs → b.list ≡ [] → most ≤ b.places → AreFilled (bs ++ b ∷ []) × (joined (bs ++ b ∷ []) ≡ joined bs)
  added [] b filled none wide =
      ((record { places = wide; few = omega (arith, ap length none); full = λ less. refl }, tt), ap (λ l. l ++ []) none)
  added (d ∷ bs) b filled none wide =
      let deep = added bs b filled.1 none wide in
      ((record { places = filled.0.places; few = filled.0.few; full = λ less. deep.1 ∙ filled.0.full less }, deep.0), ap (λ l. d.list ++ l) deep.1)

  pub one_more : (bs cs : List (Block X)) (b : Block X) → cs ≡ bs ++ b ∷ [] → AreFilled bs → b.list ≡ [] → most ≤ b.places → AreFilled cs × (joined cs ≡ joined bs) × (length cs ≡ length bs + 1)
  one_more bs cs b is filled none wide =
      let one = added bs b filled none wide in
      rw is (one.0, one.1, length-append bs (b ∷ []))

  -- ---- blocks of which the first are empty
  abbrev pub AreCleared : ℕ → List (Block X) → Type 0
  AreCleared k [] = ⊤
  AreCleared zero (b ∷ bs) = (most ≤ b.places) × AreCleared zero bs
  AreCleared (suc k) (b ∷ bs) = (b.list ≡ []) × (most ≤ b.places) × AreCleared k bs

  pub none_cleared : (bs : List (Block X)) → AreFilled bs → AreCleared 0 bs
  none_cleared [] filled = tt
  none_cleared (b ∷ bs) filled = (filled.0.places, none_cleared bs filled.1)

  pub more_cleared : (k : ℕ) (bs : List (Block X)) (b c : Block X) → AreCleared k bs → k < length bs → b ≡ get_or bs k b → c.list ≡ [] → c.places ≡ b.places → AreCleared (suc k) (set bs k c)
  more_cleared k [] b c cleared within is none places = absurd (omega (arith, within))
  more_cleared zero (d ∷ bs) b c cleared within is none places =
      (none, omega (arith, cleared.0, places, ap (λ (a : Block X). a.places) is), cleared.1)
  more_cleared (suc k) (d ∷ bs) b c cleared within is none places =
      (cleared.0, cleared.1, more_cleared k bs b c cleared.2 (omega (arith, within)) is none places)

  pub all_cleared : (k : ℕ) (bs : List (Block X)) → AreCleared k bs → length bs ≤ k → AreFilled bs × (joined bs ≡ [])
  all_cleared k [] cleared all = (tt, refl)
  all_cleared zero (b ∷ bs) cleared all = absurd (omega (arith, all))
  all_cleared (suc k) (b ∷ bs) cleared all =
      let deep = all_cleared k bs cleared.2 (omega (arith, all)) in
      ((record { places = cleared.1; few = omega (arith, ap length cleared.0); full = λ less. deep.1 }, deep.0), ap₂ (λ l r. l ++ r) cleared.0 deep.1)
