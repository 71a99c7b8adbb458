-- Streams that are dealt to doors in turn.
use Rattle.std.proofs.Common.{◌≡◌, ◌≤◌, ◌<◌, ◌+◌, ◌-◌, ◌⊎◌, inl, inr, ◌++◌, ◌∷◌, [], List, ℕ, zero, suc, length, slice_index_or, slice_set, replicate, refl, sym, ap, subst, ◌∙◌, arith, append_assoc, append-nil, Bool, true, false, true≢false, ◌==◌, if◌then◌else◌, take, drop, All, Option, None, Some, le_trans, suc-le-suc}
use Rattle.std.proofs.lemmas.Bool.Decides.{Decides-eqb}
use Rattle.std.proofs.Math.Numerals.{lt_of_le_of_ne}
use Rattle.std.proofs.lemmas.List.Elements.{All-drop}
use Rattle.std.proofs.lemmas.List.{get_or-set_same, get_or-set_other, length-set, get_or-replicate, take_min, drop_min, drop_all, length-take}
use Rattle.std.proofs.Math.Seq.{take-length}
use Rattle.ps_doors.specs.Door.{DoorState, Guest, HasShortAddress, new_door, with_guest}
use Rattle.ps_doors.specs.Porch.{every, next_place, first_of, first_count, others, behind, dealt_count, HasShare, AreDealt}

-- how many others have their turn before place i, where place `at` is next
abbrev pub Turn : ℕ → ℕ → ℕ → ℕ → Type 0
Turn places i at turn = ((at ≤ i) × (turn + at ≡ i)) ⊎ ((i < at) × (turn + at ≡ places + i))

-- which place comes behind `at`
abbrev pub Next : ℕ → ℕ → ℕ → Type 0
Next places at next = ((at + 1 ≡ places) × (next ≡ 0)) ⊎ ((at + 1 < places) × (next ≡ at + 1))

-- what the door at place i got, and what it will get
pub record Place (places : ℕ) (all : List Guest) (at i : ℕ) (door : DoorState) (rest : List Guest) : Type 0 where
  pub part : List Guest
  pub turn : ℕ
  pub due : Turn places i at turn
  pub got : door ≡ new_door part []
  pub whole : every places i all ≡ part ++ every places turn rest

pub record Dealing (places : ℕ) (all : List Guest) (at : ℕ) (doors : List DoorState) (rest : List Guest) : Type 0 where
  pub number : length doors ≡ places
  pub each : (i : ℕ) (d : DoorState) → i < places → Place places all at i (slice_index_or doors i d) rest

-- another place is one turn nearer
later_turn : (places i at next turn : ℕ) → i < places → at < places → (i ≡ at → ⊥) → Turn places i at turn → Next places at next
    → (s : ℕ) × (turn ≡ suc s) × Turn places i next s
later_turn places i at next zero w v apart (inl p) n = absurd (apart (omega (arith, p.1)))
later_turn places i at next zero w v apart (inr p) n = absurd (omega (arith, p.0, p.1))
later_turn places i at next (suc s) w v apart (inl p) (inl n) = absurd (omega (arith, p.0, p.1, n.0))
later_turn places i at next (suc s) w v apart (inl p) (inr n) = (s, refl, inl (omega (arith, p.0, p.1, n.0, n.1), omega (arith, p.0, p.1, n.0, n.1)))
later_turn places i at next (suc s) w v apart (inr p) (inl n) = (s, refl, inl (omega (arith, p.0, p.1, n.0, n.1), omega (arith, p.0, p.1, n.0, n.1)))
later_turn places i at next (suc s) w v apart (inr p) (inr n) = (s, refl, inr (omega (arith, p.0, p.1, n.0, n.1), omega (arith, p.0, p.1, n.0, n.1)))

-- the place that is next has no turn to wait for
no_turn : (places at turn : ℕ) → at < places → Turn places at at turn → turn ≡ 0
no_turn places at turn v (inl p) = omega (arith, p.1)
no_turn places at turn v (inr p) = absurd (omega (arith, p.0))

-- and then it waits for all others
last_turn : (places at next : ℕ) → at < places → Next places at next → Turn places at next (places - 1)
last_turn places at next v (inl n) = inl (omega (arith, n.0, n.1), omega (arith, n.0, n.1))
last_turn places at next v (inr n) = inr (omega (arith, n.0, n.1), omega (arith, n.0, n.1))

-- the door that is next gets the stream
place_here : (places : ℕ) (all : List Guest) (at next : ℕ) (door : DoorState) (x : Guest) (rest : List Guest) → at < places → Next places at next
    → Place places all at at door (x ∷ rest) → Place places all next at (with_guest door x) rest
place_here places all at next door x rest v n p = record {
  part = p.part ++ x ∷ [];
  turn = places - 1;
  due = last_turn places at next v n;
  got = ap (λ d. with_guest d x) p.got;
  whole = p.whole ∙ ap (λ t. p.part ++ every places t (x ∷ rest)) (no_turn places at p.turn v p.due) ∙ sym (append_assoc p.part (x ∷ []) (every places (places - 1) rest));
}

-- each other door comes nearer
place_there : (places : ℕ) (all : List Guest) (at next i : ℕ) (door : DoorState) (x : Guest) (rest : List Guest) → i < places → at < places → (i ≡ at → ⊥)
    → Next places at next → Place places all at i door (x ∷ rest) → Place places all next i door rest
place_there places all at next i door x rest w v apart n p =
    let later = later_turn places i at next p.turn w v apart p.due n in
    record {
      part = p.part;
      turn = later.0;
      due = later.2;
      got = p.got;
      whole = p.whole ∙ ap (λ t. p.part ++ every places t (x ∷ rest)) later.1;
    }

same_or_not : (i j : ℕ) (b : Bool) → (i == j) ≡ b → (i ≡ j) ⊎ (i ≡ j → ⊥)
same_or_not i j true is = inl ((Decides-eqb i j).0 is)
same_or_not i j false differ = inr (λ same. true≢false (sym ((Decides-eqb i j).1 same) ∙ differ))

is_next : (places at : ℕ) → at < places → Next places at (next_place places at)
is_next places at v = by_test (at + 1 == places) refl
  where
    by_test : (b : Bool) → (at + 1 == places) ≡ b → Next places at (if b then 0 else at + 1)
    by_test true is = inl ((Decides-eqb (at + 1) places).0 is, refl)
    by_test false differ = inr (lt_of_le_of_ne (omega arith) (λ same. true≢false (sym ((Decides-eqb (at + 1) places).1 same) ∙ differ)), refl)

-- one stream more is dealt
pub dealt_one : (places : ℕ) (all : List Guest) (at next : ℕ) (doors : List DoorState) (x : Guest) (rest : List Guest) (d : DoorState) → at < places → Next places at next
    → Dealing places all at doors (x ∷ rest) → Dealing places all next (slice_set doors at (with_guest (slice_index_or doors at d) x)) rest
dealt_one places all at next doors x rest d v n dealing = record {
  number = length-set doors at new ∙ dealing.number;
  each = λ i e w. at_place i e w (same_or_not i at (i == at) refl);
}
  where
    new : DoorState
    new = with_guest (slice_index_or doors at d) x

    at_place : (i : ℕ) (e : DoorState) → i < places → ((i ≡ at) ⊎ (i ≡ at → ⊥)) → Place places all next i (slice_index_or (slice_set doors at new) i e) rest
    at_place i e w (inl same) =
        let set : slice_index_or (slice_set doors at new) at e ≡ new = get_or-set_same doors at new e (omega (arith, dealing.number)) in
        subst (λ j. Place places all next j (slice_index_or (slice_set doors at new) j e) rest) (sym same)
        (subst (λ door. Place places all next at door rest) (sym set) (place_here places all at next (slice_index_or doors at d) x rest v n (dealing.each at d v)))
    at_place i e w (inr apart) =
        subst (λ door. Place places all next i door rest) (sym (get_or-set_other doors at i new e apart)) (place_there places all at next i (slice_index_or doors i e) x rest w v apart n (dealing.each i e w))

-- before the first
pub dealt_none : (all : List Guest) (doors : List DoorState) → doors ≡ replicate (length doors) (new_door [] []) → Dealing (length doors) all 0 doors all
dealt_none all doors nobody = record {
  number = refl;
  each = λ i d w. record {
    part = [];
    turn = i;
    due = inl (omega arith, omega arith);
    got = ap (λ (l : List DoorState). slice_index_or l i d) nobody ∙ get_or-replicate (length doors) i (new_door [] []) d w;
    whole = refl;
  };
}

-- nothing is left to deal
pub dealt_all : (places : ℕ) (all : List Guest) (at : ℕ) (doors : List DoorState) → Dealing places all at doors [] → AreDealt places all doors
dealt_all places all at doors dealing = record {
  number = dealing.number;
  each = λ i d w. let p = dealing.each i d w in p.got ∙ ap (λ part. new_door part []) (sym (p.whole ∙ append-nil p.part));
}

-- after k of so many streams were dealt
pub record Left (places count : ℕ) (all : List Guest) (at k : ℕ) (guests : List Guest) (doors : List DoorState) : Type 0 where
  pub short : All HasShortAddress guests
  pub enough : count - k ≤ length guests
  pub rest : drop (count - k) guests ≡ drop count all
  pub somewhere : 0 < count → at < places
  pub dealing : Dealing places (take count all) at doors (take (count - k) guests)

pub left_first : (count : ℕ) (guests : List Guest) (doors : List DoorState) → All HasShortAddress guests → doors ≡ replicate (length doors) (new_door [] []) → count ≤ length guests
    → (0 < count → 0 < length doors) → Left (length doors) count guests 0 0 guests doors
left_first count guests doors short nobody enough somewhere =
    let all : count - 0 ≡ count = omega arith in
    record {
      short = short;
      enough = omega arith;
      rest = ap (λ n. drop n guests) all;
      somewhere = somewhere;
      dealing = subst (λ n. Dealing (length doors) (take count guests) 0 doors (take n guests)) (sym all) (dealt_none (take count guests) doors nobody);
    }

pub left_next : (places count : ℕ) (all : List Guest) (at k next : ℕ) (x : Guest) (guests : List Guest) (doors : List DoorState) (door d : DoorState) → k < count
    → door ≡ with_guest (slice_index_or doors at d) x → next ≡ next_place (length (slice_set doors at door)) at
    → Left places count all at k (x ∷ guests) doors → Left places count all next (k + 1) guests (slice_set doors at door)
left_next places count all at k next x guests doors door d more is comes left =
    let one : count - k ≡ suc (count - (k + 1)) = omega arith in
    let here : at < places = left.somewhere (omega arith) in
    let follows : Next places at next = subst (Next places at) (sym (comes ∙ ap (λ n. next_place n at) (length-set doors at door ∙ left.dealing.number))) (is_next places at here) in
    record {
      short = All-drop HasShortAddress 1 (x ∷ guests) left.short;
      enough = omega (arith, left.enough);
      rest = sym (ap (λ n. drop n (x ∷ guests)) one) ∙ left.rest;
      somewhere = λ _. next_within next follows here;
      dealing =
          subst (λ (new : DoorState). Dealing places (take count all) next (slice_set doors at new) (take (count - (k + 1)) guests)) (sym is)
          (dealt_one places (take count all) at next doors x (take (count - (k + 1)) guests) d here follows
          (subst (λ l. Dealing places (take count all) at doors l) (ap (λ n. take n (x ∷ guests)) one) left.dealing));
    }
  where
    next_within : (n : ℕ) → Next places at n → at < places → n < places
    next_within n (inl p) v = omega (arith, p.1)
    next_within n (inr p) v = omega (arith, p.0, p.1)

pub left_done : (places count : ℕ) (all : List Guest) (at k : ℕ) (guests : List Guest) (doors : List DoorState) → count ≤ k → Left places count all at k guests doors → AreDealt places (take count all) doors
left_done places count all at k guests doors done left =
    let none : count - k ≡ 0 = omega arith in
    dealt_all places (take count all) at doors (subst (λ l. Dealing places (take count all) at doors l) (ap (λ n. take n guests) none) left.dealing)

-- the first streams, by how many they are
pub first_is : (most : Option ℕ) (xs : List Guest) → take (first_count most (length xs)) xs ≡ first_of most xs
first_is None xs = take-length xs
first_is (Some most) xs = take_min most xs

pub others_is : (most : Option ℕ) (xs : List Guest) → drop (first_count most (length xs)) xs ≡ others most xs
others_is None xs = drop_all (length xs) xs (omega arith)
others_is (Some most) xs = drop_min most xs

-- the doors that were made and got what is dealt
pub dealt_is : (places number count : ℕ) (most : Option ℕ) (xs : List Guest) (doors new : List DoorState) → places ≡ number → count ≡ dealt_count number most (length xs) → new ≡ doors
    → AreDealt places (take count xs) doors → AreDealt number (first_of most xs) new
dealt_is places number count most xs doors new same is made dealt =
    subst (λ (l : List DoorState). AreDealt number (first_of most xs) l) (sym made)
    (by_test (number == 0) refl (subst (λ c. AreDealt number (take c xs) doors) is (subst (λ n. AreDealt n (take count xs) doors) same dealt)))
  where
    by_test : (b : Bool) → (number == 0) ≡ b → AreDealt number (take (if b then 0 else first_count most (length xs)) xs) doors → AreDealt number (first_of most xs) doors
    by_test true none d = record { number = d.number; each = λ i e w. absurd (omega (arith, (Decides-eqb number 0).0 none)) }
    by_test false some d = subst (λ l. AreDealt number l doors) (first_is most xs) d

pub behind_is : (number count : ℕ) (most : Option ℕ) (xs : List Guest) → count ≡ dealt_count number most (length xs) → drop count xs ≡ behind number most xs
behind_is number count most xs is = ap (λ c. drop c xs) is ∙ by_test (number == 0)
  where
    by_test : (b : Bool) → drop (if b then 0 else first_count most (length xs)) xs ≡ (if b then xs else others most xs)
    by_test true = refl
    by_test false = others_is most xs

-- one place gets no more than all
every_short : (places skip : ℕ) (xs : List Guest) → length (every places skip xs) ≤ length xs
every_short places skip [] = omega arith
every_short places zero (x ∷ xs) = suc-le-suc (every_short places (places - 1) xs)
every_short places (suc skip) (x ∷ xs) = le_trans (every_short places skip xs) (omega arith)

pub shares_of : (number : ℕ) (most : Option ℕ) (xs : List Guest) (doors : List DoorState) → AreDealt number (first_of most xs) doors → All (λ d. HasShare most (Some (length d.guests))) doors
shares_of number most xs doors dealt k d w =
    subst (λ (door : DoorState). HasShare most (Some (length door.guests))) (sym (dealt.each k d (omega (arith, dealt.number)))) (share most)
  where
    share : (most : Option ℕ) → HasShare most (Some (length (every number k (first_of most xs))))
    share None = tt
    share (Some m) = le_trans (every_short number k (take m xs)) (omega (arith, length-take m xs))
