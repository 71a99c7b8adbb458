-- From what two disks stand for to what each of them is.
use Rattle.std.proofs.Common.{◌≡◌, inl, inr, ℕ, suc, zero, ◌+◌, ◌≤◌, ◌<◌, ◌^◌, Bool, true, false, not, if◌then◌else◌, List, [], ◌∷◌, length, take, drop, Result, Ok, Err, Option, Some, None, refl, sym, ◌∙◌, ap, subst, arith}
use Rattle.std.specs.Prelude.{nat_le, ◌==◌}
use Rattle.ps_disks.specs.Disk.{Only}
use Rattle.host_journal.specs.Format.{magic, agreeing, stands, Body, body_of, record_bytes, records_of}
use Rattle.host_journal.specs.Moments.{Shows}
use Rattle.host_journal.specs.Pair.{AreGatesOf, gates_at, with_records, counted, need_body, unless_at, need_head, greater, pair_by, pair_of}
use Rattle.host_journal.specs.State.{IsClosed, IsAside, IsBelow, IsWhole, IsSound}
use Rattle.host_journal.specs.declared.pending.Pending.TheVariants.{Nothing}
use Rattle.host_journal.specs.declared.reading.Counted.{Counted}
use Rattle.host_journal.specs.declared.reading.DiskPlace.{DiskPlace}
use Rattle.host_journal.proofs.FormatLemmas.{eq_from, le_from}
use Rattle.host_journal.proofs.FrontLemmas.{whole_from}
use Rattle.host_journal.proofs.HeadLemmas.{older_has}
use Rattle.host_journal.proofs.PairLemmas.{Standing, place_at}

-- the disk that counts is whole, and the other one lies below it
pub record Opened (k : Counted) (counting other : List ℕ) : Type 0 where
  pub whole : IsWhole k.generation k.start k.end k.list counting
  pub below : IsBelow k.second k.generation other

abbrev pub either : {A : Type 0} → Bool → A → A → A
either second one other = if second then one else other

-- One disk counts.
abbrev found : Bool → Body → List (List ℕ) → Counted
found second body records = record {
  second = second;
  generation = body.generation;
  start = gates_at body.snapshot;
  end = gates_at body.snapshot + record_bytes records;
  list = body.snapshot ∷ records;
}

ok_is : (r : Result Counted DiskPlace) (a b : Counted) → r ≡ Ok a → r ≡ Ok b → a ≡ b
ok_is r a b one two = cc (one, two)

with_is : (second : Bool) (body : Body) (k : Counted) (bytes : List ℕ) (r : Result (List (List ℕ)) ℕ) → stands bytes ≡ true → body_of (drop 9 bytes) ≡ Some body → records_of body.gate_bytes ≡ r → with_records second body r ≡ Ok k
    → (k.second ≡ second) × (k.generation ≡ body.generation) × IsWhole k.generation k.start k.end k.list bytes
with_is second body k bytes (Err at) opens is_body are is = absurd (cc is)
with_is second body k bytes (Ok records) opens is_body are is =
    let made = ok_is (Ok (found second body records)) (found second body records) k refl is in (
      ap (λ (c : Counted). c.second) (sym made),
      ap (λ (c : Counted). c.generation) (sym made),
      subst (λ (c : Counted). IsWhole c.generation c.start c.end c.list bytes) made (whole_from bytes body records opens is_body are),
    )

need_is : (second : Bool) (k : Counted) (o : Option Body) (next : Body → Result Counted DiskPlace) → need_body second o next ≡ Ok k → (body : Body) × (o ≡ Some body) × (next body ≡ Ok k)
need_is second k None next is = absurd (cc is)
need_is second k (Some body) next is = (body, refl, is)

counted_is : (second : Bool) (k : Counted) (bytes : List ℕ) → stands bytes ≡ true → need_body second (body_of (drop 9 bytes)) (λ body. counted second body) ≡ Ok k
    → (k.second ≡ second) × IsWhole k.generation k.start k.end k.list bytes
counted_is second k bytes opens is =
    let has = need_is second k (body_of (drop 9 bytes)) (λ body. counted second body) is in
    let found = with_is second has.0 k bytes (records_of has.0.gate_bytes) opens has.1 refl has.2 in (found.0, found.2)

-- a disk that shows something stands for it
pub shows_standing : (k : Counted) (second : Bool) (bytes : List ℕ) → Shows (Ok k) second bytes → Standing k.second k.generation k.start k.end k.list bytes
shows_standing k second bytes shows =
    let has = need_is k.second k (body_of (drop 9 bytes)) (λ body. counted k.second body) shows.2 in
    let found = with_is k.second has.0 k bytes (records_of has.0.gate_bytes) shows.1 has.1 refl has.2 in
    record { is_standing = shows.1; body = has.0; is_body = has.1; is_generation = sym found.1; is_counted = has.2 }

-- The other has a head.
head_by : (second : Bool) (k : Counted) (bytes : List ℕ) (next : Result Counted DiskPlace) (p q : Bool) → stands bytes ≡ false → (agreeing magic bytes == 8) ≡ p → nat_le 9 (length bytes) ≡ q
    → unless_at (if p then (if q then None else Some (place_at second 8)) else Some (place_at second (agreeing magic bytes))) next ≡ Ok k → IsClosed bytes × (next ≡ Ok k)
head_by second k bytes next true true shut eight nine is = (
  record {
    not_standing = shut;
    has_magic = eq_from (agreeing magic bytes) 8 eight;
    has_gate = le_from 9 (length bytes) nine;
  },
  is,
)
head_by second k bytes next true false shut eight nine is = absurd (cc is)
head_by second k bytes next false q shut eight nine is = absurd (cc is)

head_is : (second : Bool) (k : Counted) (bytes : List ℕ) (next : Result Counted DiskPlace) → stands bytes ≡ false → need_head second bytes next ≡ Ok k → IsClosed bytes × (next ≡ Ok k)
head_is second k bytes next shut is = head_by second k bytes next (agreeing magic bytes == 8) (nat_le 9 (length bytes)) shut refl refl is

-- In the order of the pair.
side_first : (k : Counted) (first second : List ℕ) → k.second ≡ false → IsWhole k.generation k.start k.end k.list first → IsBelow false k.generation second → Opened k (either k.second second first) (either k.second first second)
side_first k first second side whole below = record {
  whole = subst (λ (s : Bool). IsWhole k.generation k.start k.end k.list (either s second first)) (sym side) whole;
  below = subst (λ (s : Bool). IsBelow s k.generation (either s first second)) (sym side) below;
}

side_second : (k : Counted) (first second : List ℕ) → k.second ≡ true → IsWhole k.generation k.start k.end k.list second → IsBelow true k.generation first → Opened k (either k.second second first) (either k.second first second)
side_second k first second side whole below = record {
  whole = subst (λ (s : Bool). IsWhole k.generation k.start k.end k.list (either s second first)) (sym side) whole;
  below = subst (λ (s : Bool). IsBelow s k.generation (either s first second)) (sym side) below;
}

-- Both stand.
both_by : (k : Counted) (first second : List ℕ) (one two : Body) (t : Bool) → stands first ≡ true → stands second ≡ true → body_of (drop 9 first) ≡ Some one → body_of (drop 9 second) ≡ Some two
    → nat_le two.generation one.generation ≡ t → (if t then counted false one else counted true two) ≡ Ok k → Opened k (either k.second second first) (either k.second first second)
both_by k first second one two true opens opens_too is_one is_two less is =
    let found = with_is false one k first (records_of one.gate_bytes) opens is_one refl is in
    side_first k first second found.0 found.2 (inr (record { is_standing = opens_too; body = two; is_body = is_two; is_less = ap (nat_le two.generation) found.1 ∙ less }))
both_by k first second one two false opens opens_too is_one is_two less is =
    let found = with_is true two k second (records_of two.gate_bytes) opens_too is_two refl is in
    side_second k first second found.0 found.2 (inr (record { is_standing = opens; body = one; is_body = is_one; is_less = ap (λ (g : ℕ). nat_le g one.generation) found.1 ∙ less }))

opened_by : (k : Counted) (first second : List ℕ) (p q : Bool) → stands first ≡ p → stands second ≡ q → pair_by p q first second ≡ Ok k → Opened k (either k.second second first) (either k.second first second)
opened_by k first second false false one two is = absurd (cc is)
opened_by k first second true false one two is =
    let head = head_is true k second (need_body false (body_of (drop 9 first)) (λ body. counted false body)) two is in
    let found = counted_is false k first one head.1 in
    side_first k first second found.0 found.1 (inl head.0)
opened_by k first second false true one two is =
    let head = head_is false k first (need_body true (body_of (drop 9 second)) (λ body. counted true body)) one is in
    let found = counted_is true k second two head.1 in
    side_second k first second found.0 found.1 (inl head.0)
opened_by k first second true true one two is =
    let has = need_is false k (body_of (drop 9 first)) (λ a. need_body true (body_of (drop 9 second)) (λ b. greater a b)) is in
    let has_too = need_is true k (body_of (drop 9 second)) (λ b. greater has.0 b) has.2 in
    both_by k first second has.0 has_too.0 (nat_le has_too.0.generation has.0.generation) one two has.1 has_too.1 refl has_too.2

pub opened_pair : (k : Counted) (first second : List ℕ) → pair_of first second ≡ Ok k → Opened k (either k.second second first) (either k.second first second)
opened_pair k first second is = opened_by k first second (stands first) (stands second) refl refl is

-- an item of the list lies before the last gate byte
taken : (n : ℕ) (list : List (List ℕ)) → n < length list → record_bytes (take n list) + 5 ≤ record_bytes list
taken n [] less = absurd (omega (arith, less))
taken zero (item ∷ list) less = omega arith
taken (suc n) (item ∷ list) less = omega (arith, taken n list (omega (arith, less)))

pub place_fits : (n : ℕ) (list : List (List ℕ)) (start end : ℕ) → AreGatesOf list start end → end + 1 < 2 ^ 64 → n < length list → 21 + record_bytes (take n list) < 2 ^ 64
place_fits n [] start end gate_bytes fits less = absurd gate_bytes
place_fits n (snapshot ∷ records) start end gate_bytes fits less = omega (arith, gate_bytes.0, gate_bytes.1, fits, taken n (snapshot ∷ records) less)

-- the head gate byte of the other, as it was read
pub aside_is : (shut : Bool) (second : Bool) (generation : ℕ) (bytes : List ℕ) → shut ≡ not (stands bytes) → IsBelow second generation bytes → IsAside second generation shut bytes
aside_is true second generation bytes is (inl closed) = closed
aside_is true second generation bytes is (inr older) = absurd (cc (is, ap not older.is_standing))
aside_is false second generation bytes is (inl closed) = absurd (cc (is, ap not closed.not_standing))
aside_is false second generation bytes is (inr older) = older_has second generation bytes older

-- so a journal over two such disks is sound
pub opened_sound : {D : Type 0} (seen : D → List ℕ) (may_leave : D → List ℕ → Type 0) (k : Counted) (counting other : D) (shut : Bool) (room : ℕ) → Opened k (seen counting) (seen other) → shut ≡ not (stands (seen other))
    → Only (seen counting) (may_leave counting) → Only (seen other) (may_leave other)
    → IsSound seen may_leave (record { counting = counting; other = other; second = k.second; generation = k.generation; start = k.start; end = k.end; shut = shut; pending = Nothing; room = room })
opened_sound seen may_leave k counting other shut room opened is_shut only only_other = record {
  list = k.list;
  counting = λ c now. subst (IsWhole k.generation k.start k.end k.list) (sym (only c now)) opened.whole;
  other = λ d now. subst (IsAside k.second k.generation shut) (sym (only_other d now)) (aside_is shut k.second k.generation (seen other) is_shut opened.below);
  fixed = λ _. (only, only_other);
}

-- The two disks in the order in which the journal holds them.
module _ {D : Type 0} (seen : D → List ℕ) (may_leave : D → List ℕ → Type 0) (k : Counted) (shut : Bool) where
  abbrev Held : D → D → Type 0
  Held counting other = Opened k (seen counting) (seen other) × (shut ≡ not (stands (seen other))) × Only (seen counting) (may_leave counting) × Only (seen other) (may_leave other)

  held : (side : Bool) (first second counting other : D) → Opened k (either side (seen second) (seen first)) (either side (seen first) (seen second)) → shut ≡ not (stands (either side (seen first) (seen second)))
      → Only (seen first) (may_leave first) → Only (seen second) (may_leave second) → counting ≡ either side second first → other ≡ either side first second → Held counting other
  held false first second counting other opened is_shut only only_too is_counting is_other =
      subst (λ (x : D). Held x other) (sym is_counting) (subst (λ (y : D). Held first y) (sym is_other) (opened, is_shut, only, only_too))
  held true first second counting other opened is_shut only only_too is_counting is_other =
      subst (λ (x : D). Held x other) (sym is_counting) (subst (λ (y : D). Held second y) (sym is_other) (opened, is_shut, only_too, only))

  pub opened_journal : (first second counting other : D) (one two : List ℕ) (room : ℕ) → pair_of one two ≡ Ok k → seen first ≡ one → seen second ≡ two → shut ≡ not (stands (either k.second one two))
      → Only (seen first) (may_leave first) → Only (seen second) (may_leave second) → counting ≡ either k.second second first → other ≡ either k.second first second
      → IsSound seen may_leave (record { counting = counting; other = other; second = k.second; generation = k.generation; start = k.start; end = k.end; shut = shut; pending = Nothing; room = room })
  opened_journal first second counting other one two room is same same_too is_shut only only_too is_counting is_other =
      let now : pair_of (seen first) (seen second) ≡ Ok k = ap (λ (l : List ℕ). pair_of l (seen second)) same ∙ ap (pair_of one) same_too ∙ is in
      let shut_now : shut ≡ not (stands (either k.second (seen first) (seen second))) =
      is_shut ∙ sym (ap (λ (l : List ℕ). not (stands (either k.second l (seen second)))) same ∙ ap (λ (l : List ℕ). not (stands (either k.second one l))) same_too) in
      let all = held k.second first second counting other (opened_pair k (seen first) (seen second) now) shut_now only only_too is_counting is_other in
      opened_sound seen may_leave k counting other shut room all.0 all.1 all.2 all.3
