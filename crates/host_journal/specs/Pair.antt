-- What two disks stand for together.
use Rattle.std.specs.Prelude.{◌≡◌, ◌==◌, ℕ, ◌+◌, Bool, true, false, if◌then◌else◌, nat_le, List, [], ◌∷◌, length, drop, Option, Some, None, Result, Ok, Err, refl}
use Rattle.host_journal.specs.Format.{magic, open_head, agreeing, stands, Body, body_of, record_bytes, records_of}
use Rattle.host_journal.specs.declared.reading.Counted.{Counted}
use Rattle.host_journal.specs.declared.reading.DiskPlace.{DiskPlace}

-- the first disk is disk 1
abbrev pub number_of : Bool → ℕ
number_of false = 1
number_of true = 2

abbrev pub bad : Bool → ℕ → Result Counted DiskPlace
bad second place = Err (record { disk = number_of second; place = place })

-- the place of the first gate byte: behind the head, the generation, a length and the snapshot
abbrev pub gates_at : List ℕ → ℕ
gates_at snapshot = 21 + length snapshot

-- the places of the first gate byte and of the last of a snapshot with records
abbrev pub AreGatesOf : List (List ℕ) → ℕ → ℕ → Type 0
AreGatesOf [] start end = ⊥
AreGatesOf (snapshot ∷ records) start end = (start ≡ gates_at snapshot) × (end ≡ start + record_bytes records)

abbrev pub with_records : Bool → Body → Result (List (List ℕ)) ℕ → Result Counted DiskPlace
with_records second body (Ok records) = Ok (record {
  second = second;
  generation = body.generation;
  start = gates_at body.snapshot;
  end = gates_at body.snapshot + record_bytes records;
  list = body.snapshot ∷ records;
})
with_records second body (Err at) = bad second (gates_at body.snapshot + at)

-- the disk with this body counts
abbrev pub counted : Bool → Body → Result Counted DiskPlace
counted second body = with_records second body (records_of body.gate_bytes)

-- a disk that stands has a body
abbrev pub need_body : Bool → Option Body → (Body → Result Counted DiskPlace) → Result Counted DiskPlace
need_body second None next = bad second 9
need_body second (Some body) next = next body

-- what a disk that stands says by itself
abbrev pub alone : Bool → List ℕ → Result Counted DiskPlace
alone second bytes = need_body second (body_of (drop 9 bytes)) (λ body. counted second body)

-- where a disk that doesn't stand isn't the magic and a gate byte
abbrev pub headless : Bool → List ℕ → Option DiskPlace
headless second bytes =
    if agreeing magic bytes == 8
    then (if nat_le 9 (length bytes) then None else Some (record { disk = number_of second; place = 8 }))
    else Some (record { disk = number_of second; place = agreeing magic bytes })

abbrev pub unless_at : Option DiskPlace → Result Counted DiskPlace → Result Counted DiskPlace
unless_at None next = next
unless_at (Some place) next = Err place

abbrev pub need_head : Bool → List ℕ → Result Counted DiskPlace → Result Counted DiskPlace
need_head second bytes next = unless_at (headless second bytes) next

-- the one of the greater generation counts, and of two with one generation the first
abbrev pub greater : Body → Body → Result Counted DiskPlace
greater first second = if nat_le second.generation first.generation then counted false first else counted true second

abbrev pub pair_by : Bool → Bool → List ℕ → List ℕ → Result Counted DiskPlace
pair_by false false first second = bad false (agreeing open_head first)
pair_by true false first second = need_head true second (need_body false (body_of (drop 9 first)) (λ body. counted false body))
pair_by false true first second = need_head false first (need_body true (body_of (drop 9 second)) (λ body. counted true body))
pair_by true true first second = need_body false (body_of (drop 9 first)) (λ one. need_body true (body_of (drop 9 second)) (λ two. greater one two))

-- what two disks stand for, or the place at which they are no journal
abbrev pub pair_of : List ℕ → List ℕ → Result Counted DiskPlace
pair_of first second = pair_by (stands first) (stands second) first second

-- The images of a new pair, after one append, after one snapshot; and five bytes that are no journal.

abbrev fresh_first : List ℕ
fresh_first = 80 ∷ 83 ∷ 67 ∷ 72 ∷ 74 ∷ 82 ∷ 78 ∷ 49 ∷ 1 ∷ 0 ∷ 0 ∷ 0 ∷ 0 ∷ 0 ∷ 0 ∷ 0 ∷ 1 ∷ 0 ∷ 0 ∷ 0 ∷ 0 ∷ 0 ∷ []

abbrev fresh_second : List ℕ
fresh_second = 80 ∷ 83 ∷ 67 ∷ 72 ∷ 74 ∷ 82 ∷ 78 ∷ 49 ∷ 0 ∷ []

pub a_new_pair_is_empty : pair_of fresh_first fresh_second ≡ Ok (record { second = false; generation = 1; start = 21; end = 21; list = [] ∷ [] })
a_new_pair_is_empty = refl

-- the bytes 01 02, appended: 29 bytes
pub one_record_behind_its_gate :
    pair_of (80 ∷ 83 ∷ 67 ∷ 72 ∷ 74 ∷ 82 ∷ 78 ∷ 49 ∷ 1 ∷ 0 ∷ 0 ∷ 0 ∷ 0 ∷ 0 ∷ 0 ∷ 0 ∷ 1 ∷ 0 ∷ 0 ∷ 0 ∷ 0 ∷ 1 ∷ 0 ∷ 0 ∷ 0 ∷ 2 ∷ 1 ∷ 2 ∷ 0 ∷ []) fresh_second
    ≡ Ok (record { second = false; generation = 1; start = 21; end = 28; list = [] ∷ (1 ∷ 2 ∷ []) ∷ [] })
one_record_behind_its_gate = refl

-- the same, its gate byte not opened
pub a_record_behind_a_closed_gate :
    pair_of (80 ∷ 83 ∷ 67 ∷ 72 ∷ 74 ∷ 82 ∷ 78 ∷ 49 ∷ 1 ∷ 0 ∷ 0 ∷ 0 ∷ 0 ∷ 0 ∷ 0 ∷ 0 ∷ 1 ∷ 0 ∷ 0 ∷ 0 ∷ 0 ∷ 0 ∷ 0 ∷ 0 ∷ 0 ∷ 2 ∷ 1 ∷ 2 ∷ 0 ∷ []) fresh_second
    ≡ Ok (record { second = false; generation = 1; start = 21; end = 21; list = [] ∷ [] })
a_record_behind_a_closed_gate = refl

-- a snapshot of the byte ab on the second disk
pub the_greater_generation_counts :
    pair_of fresh_first (80 ∷ 83 ∷ 67 ∷ 72 ∷ 74 ∷ 82 ∷ 78 ∷ 49 ∷ 1 ∷ 0 ∷ 0 ∷ 0 ∷ 0 ∷ 0 ∷ 0 ∷ 0 ∷ 2 ∷ 0 ∷ 0 ∷ 0 ∷ 1 ∷ 171 ∷ 0 ∷ [])
    ≡ Ok (record { second = true; generation = 2; start = 22; end = 22; list = (171 ∷ []) ∷ [] })
the_greater_generation_counts = refl

-- PSCHK
pub five_bytes_are_no_journal : pair_of (80 ∷ 83 ∷ 67 ∷ 72 ∷ 75 ∷ []) [] ≡ Err (record { disk = 1; place = 4 })
five_bytes_are_no_journal = refl

pub an_open_gate_without_a_record :
    pair_of (80 ∷ 83 ∷ 67 ∷ 72 ∷ 74 ∷ 82 ∷ 78 ∷ 49 ∷ 1 ∷ 0 ∷ 0 ∷ 0 ∷ 0 ∷ 0 ∷ 0 ∷ 0 ∷ 1 ∷ 0 ∷ 0 ∷ 0 ∷ 0 ∷ 1 ∷ 0 ∷ 0 ∷ 0 ∷ 2 ∷ 1 ∷ 2 ∷ []) fresh_second
    ≡ Err (record { disk = 1; place = 21 })
an_open_gate_without_a_record = refl
