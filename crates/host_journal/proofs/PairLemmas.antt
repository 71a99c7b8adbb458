-- What two disks stand for, from what each of them is.
use Rattle.std.proofs.Common.{◌≡◌, inl, inr, ℕ, ◌+◌, Bool, true, false, if◌then◌else◌, List, [], ◌∷◌, length, drop, Result, Ok, Option, Some, None, refl, sym, ◌∙◌, ap}
use Rattle.std.specs.Prelude.{nat_le, ◌==◌}
use Rattle.host_journal.specs.Format.{magic, agreeing, stands, Body, body_of, record_bytes}
use Rattle.host_journal.specs.Moments.{Shows}
use Rattle.host_journal.specs.Pair.{alone, gates_at, number_of, with_records, counted, need_body, headless, unless_at, need_head, greater, pair_by, pair_of}
use Rattle.host_journal.specs.State.{pair_in, Stands, IsClosed, IsBelow, IsWhole}
use Rattle.host_journal.specs.declared.reading.Counted.{Counted}
use Rattle.host_journal.specs.declared.reading.DiskPlace.{DiskPlace}
use Rattle.host_journal.proofs.FormatLemmas.{eq_true, le_true}
use Rattle.host_journal.proofs.FrontLemmas.{stands_whole}

abbrev pub counts_as : Bool → ℕ → ℕ → ℕ → List (List ℕ) → Result Counted DiskPlace
counts_as second generation start end list = Ok (record { second = second; generation = generation; start = start; end = end; list = list })

abbrev pub place_at : Bool → ℕ → DiskPlace
place_at second place = record { disk = number_of second; place = place }

pub need_head_is : (second : Bool) (bytes : List ℕ) (next : Result Counted DiskPlace) → IsClosed bytes → need_head second bytes next ≡ next
need_head_is second bytes next closed =
    let eight : (agreeing magic bytes == 8) ≡ true = eq_true (agreeing magic bytes) 8 closed.has_magic in
    let nine : nat_le 9 (length bytes) ≡ true = le_true 9 (length bytes) closed.has_gate in
    let none : headless second bytes ≡ None =
    ap (λ (t : Bool). if t then (if nat_le 9 (length bytes) then None else Some (place_at second 8)) else Some (place_at second (agreeing magic bytes))) eight
    ∙ ap (λ (t : Bool). if t then None else Some (place_at second 8)) nine in
    ap (λ (o : Option DiskPlace). unless_at o next) none

pub by_stands : (first second : List ℕ) (p q : Bool) → stands first ≡ p → stands second ≡ q → pair_of first second ≡ pair_by p q first second
by_stands first second p q one two = ap (λ (t : Bool). pair_by t (stands second) first second) one ∙ ap (λ (t : Bool). pair_by p t first second) two

pub whole_counted : (second : Bool) (generation start end : ℕ) (list : List (List ℕ)) (c : List ℕ) (whole : IsWhole generation start end list c) (made : Stands generation list c) → gates_at made.body.snapshot ≡ start → gates_at made.body.snapshot + record_bytes made.records ≡ end
    → counted second made.body ≡ counts_as second generation start end list
whole_counted second generation start end list c whole made starts ends =
    ap (with_records second made.body) made.are_records
    ∙ ap (λ (n : ℕ). counts_as second n (gates_at made.body.snapshot) (gates_at made.body.snapshot + record_bytes made.records) (made.body.snapshot ∷ made.records)) made.is_generation
    ∙ ap (λ (n : ℕ). counts_as second generation n (gates_at made.body.snapshot + record_bytes made.records) (made.body.snapshot ∷ made.records)) starts
    ∙ ap (λ (n : ℕ). counts_as second generation start n (made.body.snapshot ∷ made.records)) ends
    ∙ ap (λ (l : List (List ℕ)). counts_as second generation start end l) (sym made.is_list)

-- what a whole disk stands for, and where
pub record Standing (second : Bool) (generation start end : ℕ) (list : List (List ℕ)) (c : List ℕ) : Type 0 where
  pub is_standing : stands c ≡ true
  pub body : Body
  pub is_body : body_of (drop 9 c) ≡ Some body
  pub is_generation : body.generation ≡ generation
  pub is_counted : counted second body ≡ counts_as second generation start end list

pub standing : (second : Bool) (generation start end : ℕ) (list : List (List ℕ)) (c : List ℕ) → IsWhole generation start end list c → Standing second generation start end list c
standing second generation start end list c whole =
    let made = stands_whole generation start end list c whole in
    let same : made.body.snapshot ∷ made.records ≡ whole.snapshot ∷ whole.records = sym made.is_list ∙ whole.is_list in
    let starts : gates_at made.body.snapshot ≡ start = ap gates_at (first_is made.body.snapshot whole.snapshot made.records whole.records same) ∙ sym whole.is_start in
    let ends : gates_at made.body.snapshot + record_bytes made.records ≡ end =
    ap (λ (l : List (List ℕ)). end_of l) same ∙ sym (whole.is_end ∙ whole.is_front.size) in
    record {
      is_standing = made.is_standing;
      body = made.body;
      is_body = made.is_body;
      is_generation = made.is_generation;
      is_counted = whole_counted second generation start end list c whole made starts ends;
    }
  where
    end_of : List (List ℕ) → ℕ
    end_of [] = 0
    end_of (s ∷ rs) = gates_at s + record_bytes rs

    first_is : (a b : List ℕ) (xs ys : List (List ℕ)) → a ∷ xs ≡ b ∷ ys → a ≡ b
    first_is a b xs ys is = cc is

-- a disk that stands for something, and one that lies beside it
pub pair_standing : (second : Bool) (generation start end : ℕ) (list : List (List ℕ)) (c d : List ℕ) → Standing second generation start end list c → IsBelow second generation d → pair_in second c d ≡ counts_as second generation start end list
pair_standing false generation start end list c d made (inl closed) =
    by_stands c d true false made.is_standing closed.not_standing
    ∙ need_head_is true d (need_body false (body_of (drop 9 c)) (λ b. counted false b)) closed
    ∙ ap (λ (o : Option Body). need_body false o (λ b. counted false b)) made.is_body
    ∙ made.is_counted
pair_standing true generation start end list c d made (inl closed) =
    by_stands d c false true closed.not_standing made.is_standing
    ∙ need_head_is false d (need_body true (body_of (drop 9 c)) (λ b. counted true b)) closed
    ∙ ap (λ (o : Option Body). need_body true o (λ b. counted true b)) made.is_body
    ∙ made.is_counted
pair_standing false generation start end list c d made (inr older) =
    let one = made.body in
    by_stands c d true true made.is_standing older.is_standing
    ∙ ap (λ (o : Option Body). need_body false o (λ a. need_body true (body_of (drop 9 d)) (λ b. greater a b))) made.is_body
    ∙ ap (λ (o : Option Body). need_body true o (λ b. greater one b)) older.is_body
    ∙ ap (λ (t : Bool). if t then counted false one else counted true older.body) (ap (nat_le older.body.generation) made.is_generation ∙ older.is_less)
    ∙ made.is_counted
pair_standing true generation start end list c d made (inr older) =
    let two = made.body in
    by_stands d c true true older.is_standing made.is_standing
    ∙ ap (λ (o : Option Body). need_body false o (λ a. need_body true (body_of (drop 9 c)) (λ b. greater a b))) older.is_body
    ∙ ap (λ (o : Option Body). need_body true o (λ b. greater older.body b)) made.is_body
    ∙ ap (λ (t : Bool). if t then counted false older.body else counted true two) (ap (λ (n : ℕ). nat_le n older.body.generation) made.is_generation ∙ older.is_less)
    ∙ made.is_counted

pub pair_whole : (second : Bool) (generation start end : ℕ) (list : List (List ℕ)) (c d : List ℕ) → IsWhole generation start end list c → IsBelow second generation d → pair_in second c d ≡ counts_as second generation start end list
pair_whole second generation start end list c d whole below = pair_standing second generation start end list c d (standing second generation start end list c whole) below

-- what a disk stands for by itself
pub standing_alone : (second : Bool) (generation start end : ℕ) (list : List (List ℕ)) (c : List ℕ) → Standing second generation start end list c → alone second c ≡ counts_as second generation start end list
standing_alone second generation start end list c made = ap (λ (o : Option Body). need_body second o (λ b. counted second b)) made.is_body ∙ made.is_counted

pub whole_shows : (second : Bool) (generation start end : ℕ) (list : List (List ℕ)) (c : List ℕ) → IsWhole generation start end list c → Shows (counts_as second generation start end list) second c
whole_shows second generation start end list c whole =
    let made = standing second generation start end list c whole in (refl, made.is_standing, standing_alone second generation start end list c made)
