-- The first of a list for which a test holds, and shelves.
use Rattle.std.proofs.Common.{◌≡◌, ◌↔◌, ℕ, suc, ◌+◌, ◌<◌, List, [], ◌∷◌, ◌++◌, length, take, drop, get_or, Bool, true, false, IsTrue, Option, None, is_some, if◌then◌else◌, bytes_eq, Some, sym, ◌∙◌, ap, subst, refl, arith}
use Rattle.std.specs.Option.{option_map}
use Rattle.std.proofs.lemmas.List.{drop_more, get_or_default}
use Rattle.std.proofs.lemmas.Slice.Eq.{bytes_eq-Decides}
use Rattle.std.specs.Prelude.{IfSome, IfNone, Result, Ok, Err, OnOk, OnErr}
use Rattle.ps_disks.specs.Rack.{Stored, ShelfState, after_take, first_by, without_first, IsFirst, is_under, find_pair, opened_pair, fresh_first, fresh_second}
use Rattle.ps_disks.specs.Disk.{Only}
use Rattle.ps_disks.specs.History.{bytes_now, IsImage}
use Rattle.ps_disks.specs.MemoryDisk.{DiskState}

-- a test that decides equality answers as the comparison of bytes
pub same_bytes : (b e : Bool) (xs ys : List ℕ) → bytes_eq ys xs ≡ e → (IsTrue b ↔ (xs ≡ ys)) → b ≡ bytes_eq ys xs
same_bytes true true xs ys is decides = sym is
same_bytes false false xs ys is decides = sym is
same_bytes true false xs ys is decides = sym ((bytes_eq-Decides ys xs).1 (sym (decides.0 refl)))
same_bytes false true xs ys is decides = decides.1 (sym ((bytes_eq-Decides ys xs).0 is)) ∙ sym is

-- none of the first i passed
pub record Passed {X : Type 0} (test : X → Bool) (xs : List X) (i : ℕ) : Type 0 where
  pub first : first_by test (drop i xs) ≡ first_by test xs
  pub rest : take i xs ++ without_first test (drop i xs) ≡ without_first test xs

module _ {X : Type 0} (test : X → Bool) (xs : List X) (i : ℕ) (x : X) (lt : i < length xs) (is : x ≡ get_or xs i x) (so_far : Passed test xs i) where
  here : drop i xs ≡ x ∷ drop (i + 1) xs
  here = drop_more xs i x lt ∙ ap (λ y. y ∷ drop (i + 1) xs) (sym is)

  pub first_here : test x ≡ true → IsFirst test xs i
  first_here holds =
      let first : first_by test (drop i xs) ≡ Some x = ap (first_by test) here ∙ ap (λ b. if b then Some x else first_by test (drop (i + 1) xs)) holds in
      let rest : without_first test (drop i xs) ≡ drop (i + 1) xs =
      ap (without_first test) here ∙ ap (λ b. if b then drop (i + 1) xs else x ∷ without_first test (drop (i + 1) xs)) holds in
      let next : i + 1 ≡ suc i = omega arith in
      record {
        within = lt;
        holds = λ d. ap test (sym (is ∙ get_or_default xs i x d lt)) ∙ holds;
        first = λ d. sym so_far.first ∙ first ∙ ap Some (is ∙ get_or_default xs i x d lt);
        rest = sym so_far.rest ∙ ap (λ l. take i xs ++ l) rest ∙ ap (λ n. take i xs ++ drop n xs) next;
      }

pub some_place : {X : Type 0} (test : X → Bool) (xs : List X) (place : Option ℕ) → IfSome place (IsFirst test xs) → IfNone place (first_by test xs ≡ None) → (d : X) → is_some place ≡ is_some (first_by test xs)
some_place test xs (Some i) first none d = ap is_some (sym (first.first d))
some_place test xs None first none d = ap is_some (sym none)

-- the pair at the place is the folder's
pub pair_here : (folder : List ℕ) (pairs : List Stored) (i : ℕ) (p : Stored) → IsFirst (is_under folder) pairs i → p ≡ get_or pairs i p → find_pair folder pairs ≡ Some (p.1, p.2)
pair_here folder pairs i p first is = ap (λ o. option_map (λ (q : Stored). (q.1, q.2)) o) (first.first p ∙ ap Some (sym is))

pub name_here : (folder : List ℕ) (pairs : List Stored) (i : ℕ) (p : Stored) → IsFirst (is_under folder) pairs i → p ≡ get_or pairs i p → p.0 ≡ folder
name_here folder pairs i p first is = sym ((bytes_eq-Decides folder p.0).0 (ap (is_under folder) is ∙ first.holds p))

-- no pair goes where none lies under the folder
pub none_goes : {X : Type 0} (test : X → Bool) (xs : List X) → first_by test xs ≡ None → without_first test xs ≡ xs
none_goes test [] none = refl
none_goes test (x ∷ xs) none = goes (test x) refl none (none_goes test xs)
  where
    goes : (b : Bool) → test x ≡ b → (if b then Some x else first_by test xs) ≡ None → (first_by test xs ≡ None → without_first test xs ≡ xs) → without_first test (x ∷ xs) ≡ x ∷ xs
    goes true holds none rest = absurd (cc none)
    goes false fails none rest = ap (λ b. if b then xs else x ∷ without_first test xs) fails ∙ ap (λ l. x ∷ l) (rest none)

-- a folder that was put last is there
pub is_last : (folder : List ℕ) (out : List (List ℕ)) → is_some (first_by (bytes_eq folder) (out ++ folder ∷ [])) ≡ true
is_last folder [] = ap (λ b. is_some (if b then Some folder else None)) ((bytes_eq-Decides folder folder).1 refl)
is_last folder (f ∷ out) = there (bytes_eq folder f) (is_last folder out)
  where
    there : (b : Bool) → is_some (first_by (bytes_eq folder) (out ++ folder ∷ [])) ≡ true → is_some (if b then Some f else first_by (bytes_eq folder) (out ++ folder ∷ [])) ≡ true
    there true rest = refl
    there false rest = rest

-- where one goes for which another test fails, the first for which that holds stays
pub first_left : {X : Type 0} (goes test : X → Bool) (xs : List X) → ((x : X) → goes x ≡ true → test x ≡ false) → first_by test (without_first goes xs) ≡ first_by test xs
first_left goes test [] apart = refl
first_left {X} goes test (x ∷ xs) apart = here (goes x) refl (first_left goes test xs apart)
  where
    here : (b : Bool) → goes x ≡ b → first_by test (without_first goes xs) ≡ first_by test xs → first_by test (without_first goes (x ∷ xs)) ≡ first_by test (x ∷ xs)
    here true holds rest = ap (λ b. first_by test (if b then xs else x ∷ without_first goes xs)) holds ∙ sym (ap (λ b. if b then Some x else first_by test xs) (apart x holds))
    here false fails rest = ap (λ b. first_by test (if b then xs else x ∷ without_first goes xs)) fails ∙ ap (λ o. if test x then Some x else o) rest

-- one that is there is there with more behind it
pub still_there : {X : Type 0} (test : X → Bool) (xs ys : List X) → is_some (first_by test xs) ≡ true → is_some (first_by test (xs ++ ys)) ≡ true
still_there test [] ys there = absurd (cc there)
still_there {X} test (x ∷ xs) ys there = at (test x) (still_there test xs ys) there
  where
    at : (b : Bool) → (is_some (first_by test xs) ≡ true → is_some (first_by test (xs ++ ys)) ≡ true) → is_some (if b then Some x else first_by test xs) ≡ true
        → is_some (if b then Some x else first_by test (xs ++ ys)) ≡ true
    at true rest is = refl
    at false rest is = rest is

-- what a new pair holds
pub record IsFresh (pair : DiskState × DiskState) : Type 0 where
  pub first : bytes_now pair.0.history ≡ fresh_first
  pub second : bytes_now pair.1.history ≡ fresh_second
  pub only_first : Only fresh_first (IsImage pair.0.history)
  pub only_second : Only fresh_second (IsImage pair.1.history)

pub fresh_pair : (kept : Option (DiskState × DiskState)) (pair : DiskState × DiskState) → pair ≡ opened_pair kept → ((first second : DiskState) → kept ≡ Some (first, second) → ⊥) → IsFresh pair
fresh_pair None pair is none = subst IsFresh (sym is) (record { first = refl; second = refl; only_first = λ c image. image; only_second = λ c image. image })
fresh_pair (Some kept) pair is none = absurd (none kept.0 kept.1 refl)

-- Of other folders.

module _ (folder other : List ℕ) (apart : other ≡ folder → ⊥) where
  other_name : (name : List ℕ) → bytes_eq folder name ≡ true → bytes_eq other name ≡ false
  other_name name is = fails (bytes_eq other name) refl
    where
      fails : (b : Bool) → bytes_eq other name ≡ b → bytes_eq other name ≡ false
      fails false differs = differs
      fails true same = absurd (apart ((bytes_eq-Decides other name).0 same ∙ sym ((bytes_eq-Decides folder name).0 is)))

  pub not_the_folder : bytes_eq other folder ≡ false
  not_the_folder = other_name folder ((bytes_eq-Decides folder folder).1 refl)

  -- an opening leaves their pairs
  pub taken_elsewhere : (pairs : List Stored) → find_pair other (without_first (is_under folder) pairs) ≡ find_pair other pairs
  taken_elsewhere pairs = ap (option_map (λ (p : Stored). (p.1, p.2))) (first_left (is_under folder) (is_under other) pairs (λ p. other_name p.0))

  -- so does a closing
  pub given_elsewhere : (pairs : List Stored) (first second : DiskState) → find_pair other ((folder, first, second) ∷ pairs) ≡ find_pair other pairs
  given_elsewhere pairs first second =
      ap (λ b. option_map (λ (p : Stored). (p.1, p.2)) (if b then Some (folder, first, second) else first_by (is_under other) pairs)) not_the_folder

  -- what was open still is
  pub open_elsewhere : (out : List (List ℕ)) → first_by (bytes_eq other) (without_first (bytes_eq folder) out) ≡ first_by (bytes_eq other) out
  open_elsewhere out = first_left (bytes_eq folder) (bytes_eq other) out other_name

-- What a shelf has after a pair was taken, or wasn't.

pub take_leaves : {A E : Type 0} (folder : List ℕ) (old new : ShelfState) (result : Result A E) → OnOk result (new ≡ after_take folder old) → OnErr result (new ≡ old)
    → (other : List ℕ) → (other ≡ folder → ⊥) → find_pair other new.pairs ≡ find_pair other old.pairs
take_leaves folder old new (Ok value) after same other apart = ap (λ s. find_pair other s.pairs) after ∙ taken_elsewhere folder other apart old.pairs
take_leaves folder old new (Err fault) after same other apart = ap (λ s. find_pair other s.pairs) same

pub take_keeps_open : {A E : Type 0} (folder : List ℕ) (old new : ShelfState) (result : Result A E) → OnOk result (new ≡ after_take folder old) → OnErr result (new ≡ old)
    → (other : List ℕ) → is_some (first_by (bytes_eq other) old.out) ≡ true → is_some (first_by (bytes_eq other) new.out) ≡ true
take_keeps_open folder old new (Ok value) after same other is = ap (λ s. is_some (first_by (bytes_eq other) s.out)) after ∙ still_there (bytes_eq other) old.out (folder ∷ []) is
take_keeps_open folder old new (Err fault) after same other is = ap (λ s. is_some (first_by (bytes_eq other) s.out)) same ∙ is
