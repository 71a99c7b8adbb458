-- What a journal holds, and what its disks may leave.
use Rattle.std.specs.Prelude.{⊤, ◌≡◌, ◌≢◌, ◌⊎◌, ◌≤◌, ◌<◌, ◌^◌, ℕ, ◌+◌, ◌==◌, Bool, true, false, not, if◌then◌else◌, nat_le, List, [], ◌∷◌, ◌++◌, length, drop, Some, Result, Ok, Err}
use Rattle.ps_disks.specs.Disk.{Only}
use Rattle.std.specs.Int.{w32, w64, to_be_bytes}
use Rattle.ps_disks.specs.declared.disk.DiskCall.{DiskCall}
use Rattle.ps_disks.specs.declared.disk.DiskCall.TheVariants.{Write, Cut, Sync}
use Rattle.host_journal.specs.Format.{magic, agreeing, stands, Body, body_of, record_bytes, records_of, joined}
use Rattle.host_journal.specs.Pair.{gates_at, pair_of}
use Rattle.host_journal.specs.declared.reading.Counted.{Counted}
use Rattle.host_journal.specs.declared.reading.DiskPlace.{DiskPlace}
use Rattle.host_journal.specs.declared.pending.Pending.{Pending}
use Rattle.host_journal.specs.declared.pending.Pending.TheVariants.{Nothing, Unopened, Record, Snapshot}

-- The disk that counts and the other one; whether the one that counts is the second of the pair; its generation, the place of its first gate byte
-- and of its last; whether the other's head gate byte is known to be closed; what a failed call has left to look at; the room.
pub record State (D : Type 0) : Type 0 where
  pub counting : D
  pub other : D
  pub second : Bool
  pub generation : ℕ
  pub start : ℕ
  pub end : ℕ
  pub shut : Bool
  pub pending : Pending
  pub room : ℕ

-- no call failed, or `reload` was Ok since
abbrev pub is_ready : Pending → Bool
is_ready Nothing = true
is_ready Unopened = false
is_ready (Record end) = false
is_ready (Snapshot start) = false

-- what the disk that counts and the other stand for, in the order of the pair
abbrev pub pair_in : Bool → List ℕ → List ℕ → Result Counted DiskPlace
pair_in false counting other = pair_of counting other
pair_in true counting other = pair_of other counting

abbrev pub first_disk : {D : Type 0} → State D → D
first_disk s = if s.second then s.other else s.counting

abbrev pub second_disk : {D : Type 0} → State D → D
second_disk s = if s.second then s.counting else s.other

-- what the disks stand for as they read
abbrev pub stored : {D : Type 0} → (D → List ℕ) → State D → Result Counted DiskPlace
stored seen s = pair_of (seen (first_disk s)) (seen (second_disk s))

-- with one more record
abbrev pub with_record : List ℕ → Result Counted DiskPlace → Result Counted DiskPlace
with_record payload (Ok k) = Ok (record { second = k.second; generation = k.generation; start = k.start; end = k.end + 5 + length payload; list = k.list ++ payload ∷ [] })
with_record payload (Err place) = Err place

-- whatever a crash leaves now of the first disk and of the second, what the two stand for has P
abbrev pub EachImage : {D : Type 0} → (D → List ℕ → Type 0) → State D → (Result Counted DiskPlace → Type 0) → Type 0
EachImage may_leave s P = (c d : List ℕ) → may_leave (first_disk s) c → may_leave (second_disk s) d → P (pair_of c d)

-- the same of what a crash at any moment since then might have left, each disk at a moment of its own
abbrev pub EachSince : {D : Type 0} → (D → ℕ) → (D → ℕ → List ℕ → Type 0) → State D → State D → (Result Counted DiskPlace → Type 0) → Type 0
EachSince moment left_since old new P =
    (c d : List ℕ) → left_since (first_disk new) (moment (first_disk old)) c → left_since (second_disk new) (moment (second_disk old)) d → P (pair_of c d)

-- what the disks stand for is where the journal is
abbrev pub IsAt : {D : Type 0} → State D → Result Counted DiskPlace → Type 0
IsAt s (Ok k) = (k.second ≡ s.second) × (k.generation ≡ s.generation) × (k.start ≡ s.start) × (k.end ≡ s.end)
IsAt s (Err place) = ⊥

-- one of ours: two disks that stand for something
abbrev pub IsOurs : Result Counted DiskPlace → Type 0
IsOurs pair = (k : Counted) × (pair ≡ Ok k)

-- a disk that stands, with this generation and this list: a snapshot, and then records
pub record Stands (generation : ℕ) (list : List (List ℕ)) (bytes : List ℕ) : Type 0 where
  pub is_standing : stands bytes ≡ true
  pub body : Body
  pub is_body : body_of (drop 9 bytes) ≡ Some body
  pub is_generation : body.generation ≡ generation
  pub records : List (List ℕ)
  pub are_records : records_of body.gate_bytes ≡ Ok records
  pub is_list : list ≡ body.snapshot ∷ records

-- of two generations the other one is the smaller; the first of a pair counts also over its equal
abbrev pub IsLess : Bool → ℕ → ℕ → Type 0
IsLess false counting other = nat_le other counting ≡ true
IsLess true counting other = nat_le counting other ≡ false

-- a disk that doesn't stand: the magic, and a gate byte that isn't open
pub record IsClosed (bytes : List ℕ) : Type 0 where
  pub not_standing : stands bytes ≡ false
  pub has_magic : agreeing magic bytes ≡ 8
  pub has_gate : 9 ≤ length bytes

-- one that stands, with a smaller generation
pub record IsOlder (second : Bool) (generation : ℕ) (bytes : List ℕ) : Type 0 where
  pub is_standing : stands bytes ≡ true
  pub body : Body
  pub is_body : body_of (drop 9 bytes) ≡ Some body
  pub is_less : IsLess second generation body.generation

-- the magic, any gate byte, and behind it what would be such a disk
pub record HasOlder (second : Bool) (generation : ℕ) (bytes : List ℕ) : Type 0 where
  pub gate_byte : ℕ
  pub rest : List ℕ
  pub split : bytes ≡ magic ++ gate_byte ∷ rest
  pub older : IsOlder second generation (magic ++ 1 ∷ rest)

-- a disk whose head gate byte is known to be closed, or one that is whole behind its head gate byte
abbrev pub IsAside : Bool → ℕ → Bool → List ℕ → Type 0
IsAside second generation true bytes = IsClosed bytes
IsAside second generation false bytes = HasOlder second generation bytes

-- a disk that may lie beside one that counts
abbrev pub IsBelow : Bool → ℕ → List ℕ → Type 0
IsBelow second generation bytes = IsClosed bytes ⊎ IsOlder second generation bytes

-- Bytes behind which a gate byte stands: whatever that gate byte is, and whatever follows, the disk has these records and then those from there on.
pub record IsFront (generation : ℕ) (snapshot : List ℕ) (records : List (List ℕ)) (front : List ℕ) : Type 0 where
  pub is_standing : (gate_bytes : List ℕ) → stands (front ++ gate_bytes) ≡ true
  pub frames : List ℕ
  pub is_body : (gate_byte : ℕ) (rest : List ℕ) → body_of (drop 9 (front ++ gate_byte ∷ rest)) ≡ Some (record { generation = generation; snapshot = snapshot; gate_bytes = frames ++ gate_byte ∷ rest })
  pub goes_on : (gate_byte : ℕ) (rest : List ℕ) → records_of (frames ++ gate_byte ∷ rest) ≡ joined records (records_of (gate_byte ∷ rest))
  pub size : length front ≡ gates_at snapshot + record_bytes records

-- such bytes, a gate byte that isn't open, and whatever follows
pub record IsWhole (generation start end : ℕ) (list : List (List ℕ)) (bytes : List ℕ) : Type 0 where
  pub front : List ℕ
  pub gate_byte : ℕ
  pub tail : List ℕ
  pub split : bytes ≡ front ++ gate_byte ∷ tail
  pub is_shut : gate_byte ≢ 1
  pub snapshot : List ℕ
  pub records : List (List ℕ)
  pub is_list : list ≡ snapshot ∷ records
  pub is_front : IsFront generation snapshot records front
  pub is_start : start ≡ gates_at snapshot
  pub is_end : end ≡ length front

-- such bytes, any gate byte, and behind it a record with a gate byte that isn't open
pub record IsStaged (generation start end next : ℕ) (list : List (List ℕ)) (payload bytes : List ℕ) : Type 0 where
  pub front : List ℕ
  pub gate_byte : ℕ
  pub frame : List ℕ
  pub last : ℕ
  pub tail : List ℕ
  pub split : bytes ≡ front ++ gate_byte ∷ (frame ++ last ∷ tail)
  pub is_shut : last ≢ 1
  pub snapshot : List ℕ
  pub records : List (List ℕ)
  pub is_list : list ≡ snapshot ∷ records
  pub is_front : IsFront generation snapshot records front
  pub is_longer : IsFront generation snapshot (records ++ payload ∷ []) (front ++ 1 ∷ frame)
  pub is_start : start ≡ gates_at snapshot
  pub is_end : end ≡ length front
  pub is_next : next ≡ length front + 1 + length frame

-- the magic, any head gate byte, and behind it what stands for a snapshot alone
pub record IsImage (generation start : ℕ) (image bytes : List ℕ) : Type 0 where
  pub gate_byte : ℕ
  pub rest : List ℕ
  pub split : bytes ≡ magic ++ gate_byte ∷ rest
  pub is_whole : IsWhole generation start start (image ∷ []) (magic ++ 1 ∷ rest)

-- what a crash may leave of the disk that counts
abbrev pub Counting : {D : Type 0} → State D → List (List ℕ) → Pending → List ℕ → Type 0
Counting s list Nothing bytes = IsWhole s.generation s.start s.end list bytes
Counting s list Unopened bytes = IsWhole s.generation s.start s.end list bytes
Counting s list (Record next) bytes = (payload : List ℕ) × IsStaged s.generation s.start s.end next list payload bytes
Counting s list (Snapshot start) bytes = IsWhole s.generation s.start s.end list bytes

-- and of the other
abbrev pub Beside : {D : Type 0} → State D → Pending → List ℕ → Type 0
Beside s Nothing bytes = IsAside s.second s.generation s.shut bytes
Beside s Unopened bytes = IsAside s.second s.generation s.shut bytes
Beside s (Record next) bytes = IsAside s.second s.generation s.shut bytes
Beside s (Snapshot start) bytes = (s.shut ≡ true) × ((image : List ℕ) × IsImage (s.generation + 1) start image bytes)

-- the places that a failed call has left, and the generation, are numbers of eight bytes
abbrev pub AreWithin : ℕ → ℕ → Pending → Type 0
AreWithin start generation Nothing = ⊤
AreWithin start generation Unopened = ⊤
AreWithin start generation (Record next) = (next + 1 < 2 ^ 64) × (start ≤ next)
AreWithin start generation (Snapshot at) = (at + 1 < 2 ^ 64) × (generation + 1 < 2 ^ 64)

pub record IsSound {D : Type 0} (seen : D → List ℕ) (may_leave : D → List ℕ → Type 0) (s : State D) : Type 0 where
  pub list : List (List ℕ)
  pub counting : (c : List ℕ) → may_leave s.counting c → Counting s list s.pending c
  pub other : (c : List ℕ) → may_leave s.other c → Beside s s.pending c
  pub fixed : is_ready s.pending ≡ true → Only (seen s.counting) (may_leave s.counting) × Only (seen s.other) (may_leave s.other)

-- a call that leaves which disk counts, its generation and first gate byte, and what is known of the other's head gate byte
pub record KeepsPlace {D : Type 0} (old new : State D) : Type 0 where
  pub second : new.second ≡ old.second
  pub generation : new.generation ≡ old.generation
  pub start : new.start ≡ old.start
  pub shut : new.shut ≡ old.shut
  pub room : old.room ≤ new.room

-- each of the two disks went through some calls in a row
abbrev pub WentOn : {D : Type 0} → (D → D → Type 0) → State D → State D → Type 0
WentOn calls_advance old new = calls_advance (first_disk old) (first_disk new) × calls_advance (second_disk old) (second_disk new)

-- one that leaves all but the room
abbrev pub with_room : {D : Type 0} → State D → ℕ → State D
with_room s room = record {
  counting = s.counting;
  other = s.other;
  second = s.second;
  generation = s.generation;
  start = s.start;
  end = s.end;
  shut = s.shut;
  pending = s.pending;
  room = room;
}

abbrev pub SameButRoom : {D : Type 0} → State D → State D → Type 0
SameButRoom old new = new ≡ with_room old new.room

-- the four calls of an append: the record with a closed gate byte behind the gate byte at this place, and then that gate byte
abbrev pub append_calls : ℕ → List ℕ → List DiskCall
append_calls end payload = Write (end + 1) (to_be_bytes w32 (length payload) ++ (payload ++ 0 ∷ [])) ∷ Sync ∷ Write end (1 ∷ []) ∷ Sync ∷ []

-- what `open` found
abbrev pub opened_as : {D : Type 0} → State D → List (List ℕ) → Result Counted DiskPlace
opened_as s list = Ok (record { second = s.second; generation = s.generation; start = s.start; end = s.end; list = list })

-- the record of a failed `append` stands
abbrev pub has_record : Pending → Result Counted DiskPlace → Bool
has_record (Record next) (Ok k) = k.end == next
has_record (Record next) (Err place) = false
has_record Nothing pair = false
has_record Unopened pair = false
has_record (Snapshot start) pair = false

-- what the disks stand for with this record, where it stands, or without it
abbrev pub which : List ℕ → Bool → Result Counted DiskPlace → Result Counted DiskPlace
which payload stood before = if stood then with_record payload before else before

-- after a snapshot: the other disk, of the next generation, with it and no record
abbrev pub snapshot_of : {D : Type 0} → List ℕ → State D → Result Counted DiskPlace
snapshot_of image s = Ok (record { second = not s.second; generation = s.generation + 1; start = gates_at image; end = gates_at image; list = image ∷ [] })

-- the bytes behind a head gate byte
abbrev pub image_bytes : ℕ → List ℕ → List ℕ
image_bytes generation image = to_be_bytes w64 generation ++ (to_be_bytes w32 (length image) ++ (image ++ 0 ∷ []))

-- the bytes that close a head gate byte: none where it is known to be closed
abbrev pub closing : Bool → List ℕ
closing shut = if shut then [] else 0 ∷ []

-- the first two calls of a snapshot, and the other five
abbrev pub close_calls : Bool → List DiskCall
close_calls shut = Write 8 (closing shut) ∷ Sync ∷ []

abbrev pub fill_calls : ℕ → List ℕ → List DiskCall
fill_calls generation image = Cut 9 ∷ Write 9 (image_bytes generation image) ∷ Sync ∷ Write 8 (1 ∷ []) ∷ Sync ∷ []

-- the seven calls of a snapshot
abbrev pub snapshot_calls : Bool → ℕ → List ℕ → List DiskCall
snapshot_calls shut generation image = close_calls shut ++ fill_calls generation image
