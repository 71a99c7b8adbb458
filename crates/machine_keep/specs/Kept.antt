-- What the disks of a kept machine stand for.
use Rattle.std.specs.Prelude.{◌≡◌, ◌⊎◌, ℕ, Bool, true, false, List, None, Option, Some, [], ◌∷◌, Result, Ok, Err, ◌-◌, ◌*◌, ◌≤◌, if◌then◌else◌, max, nat_lt}
use Rattle.host_journal.specs.Moments.{AddsOnly, IsNear, LeftIn, LiesBeside, Shows}
use Rattle.host_journal.specs.Pair.{pair_of}
use Rattle.host_journal.specs.State.{State, first_disk, has_record, second_disk, snapshot_of, stored, which}
use Rattle.host_journal.specs.declared.pending.Pending.{Pending}
use Rattle.host_journal.specs.declared.reading.Counted.{Counted}
use Rattle.host_journal.specs.declared.reading.DiskPlace.{DiskPlace}

-- a machine, its journal, the step of an append that failed, and how many snapshots were put off
pub record Kept (M D T : Type 0) : Type 0 where
  pub machine : M
  pub journal : State D
  pub unsure : Option T
  pub put_off : ℕ

-- two disks stand for a list that stands for the state
abbrev pub StandsFor : {S : Type 0} → (List (List ℕ) → S → Type 0) → S → Result Counted DiskPlace → Type 0
StandsFor stands s (Ok k) = stands k.list s
StandsFor stands s (Err place) = ⊥

-- in one of two forms
abbrev pub StandsEither : {S : Type 0} → (List (List ℕ) → S → Type 0) → (List (List ℕ) → S → Type 0) → S → Result Counted DiskPlace → Type 0
StandsEither stands stood s pair = StandsFor stands s pair ⊎ StandsFor stood s pair

-- after an append failed they stand for the state without the step, or with its record too
pub record IsUnsure {S T : Type 0} (stands : List (List ℕ) → S → Type 0) (bytes : T → List ℕ) (s : S) (step : T) (pending : Pending) (pair : Result Counted DiskPlace) : Type 0 where
  pub before : Result Counted DiskPlace
  pub stood : StandsFor stands s before
  pub found : pair ≡ which (bytes step) (has_record pending pair) before

-- they stand for the state, but for a step that is unsure
abbrev pub StandsExcept : {S T : Type 0} → (List (List ℕ) → S → Type 0) → (T → List ℕ) → S → Pending → Result Counted DiskPlace → Option T → Type 0
StandsExcept stands bytes s pending pair None = StandsFor stands s pair
StandsExcept stands bytes s pending pair (Some step) = IsUnsure stands bytes s step pending pair

-- the state with a step, where there is one
abbrev pub after_step : {S T : Type 0} → (S → T → S) → S → Option T → S
after_step after s None = s
after_step after s (Some step) = after s step

-- the state once it is known whether the record of a step stands that was unsure
abbrev pub caught : {S T : Type 0} → (S → T → S) → S → Option T → Bool → S
caught after s None stood = s
caught after s (Some step) stood = if stood then after s step else s

-- the bytes of records are more than 1 MiB and than twice those of the snapshot
abbrev pub is_many : ℕ → ℕ → Bool
is_many records snapshot = nat_lt (max (2 * snapshot) 1_048_576) records

-- the bytes of a journal's records are at most 1 MiB, or twice those of its snapshot
abbrev pub IsLogBounded : {D : Type 0} → State D → Type 0
IsLogBounded s = s.end - s.start ≤ max (2 * (s.start - 21)) 1_048_576

-- the disks stand for the state, or for what a step that the call asks for makes of it
abbrev pub StandsAround : {S C R T : Type 0} → (List (List ℕ) → S → Type 0) → (S → C → R → Option T → Type 0) → (S → T → S) → S → C → Result Counted DiskPlace → Type 0
StandsAround {S} {C} {R} {T} stands answers after s call pair = StandsFor stands s pair ⊎ ((reply : R) × ((step : T) × (answers s call reply (Some step) × StandsFor stands (after s step) pair)))

-- they stand for the later state, with at most one snapshot more
abbrev pub IsMade : {S : Type 0} → (List (List ℕ) → S → Type 0) → Result Counted DiskPlace → S → Result Counted DiskPlace → Type 0
IsMade stands from later pair = StandsFor stands later pair × IsNear from pair

-- the same of what a step makes that the call asks for
abbrev pub IsStepMade : {S C R T : Type 0} → (List (List ℕ) → S → Type 0) → (S → C → R → Option T → Type 0) → (S → T → S) → Result Counted DiskPlace → S → C → Result Counted DiskPlace → Type 0
IsStepMade {S} {C} {R} {T} stands answers after from s call pair = (reply : R) × ((step : T) × (answers s call reply (Some step) × IsMade stands from (after s step) pair))

-- Of what was left of two disks since they were handed in, each at a moment of its own: one of them could have been left as they
-- were handed in, or what the two stand for has P.
abbrev pub EachFrom : {D : Type 0} → (D → List ℕ → Type 0) → (D → ℕ) → (D → ℕ → List ℕ → Type 0) → D → D → D → D → (Result Counted DiskPlace → Type 0) → Type 0
EachFrom may_leave moment left_since first second first_now second_now P =
    (c d : List ℕ) → left_since first_now (moment first) c → left_since second_now (moment second) d → (may_leave first c ⊎ may_leave second d) ⊎ P (pair_of c d)

-- what a snapshot adds to one of two disks, where an image alone stands for the state
abbrev pub Snapped : {D S : Type 0} → (D → List ℕ) → (List (List ℕ) → S → Type 0) → S → State D → Bool → List ℕ → Type 0
Snapped seen stands s old second c = LiesBeside (stored seen old) second c ⊎ ((image : List ℕ) × (stands (image ∷ []) s × Shows (snapshot_of image old) second c))

-- two disks of a journal, while a snapshot of a state for which they stand is put on them
pub record IsMigrating {D S : Type 0} (seen : D → List ℕ) (moment : D → ℕ) (left_since : D → ℕ → List ℕ → Type 0) (stands stood : List (List ℕ) → S → Type 0) (from : State D) (first second : D) : Type 0 where
  pub state : S
  pub either : StandsEither stands stood state (stored seen from)
  pub adds_first : AddsOnly moment left_since (first_disk from) first (LeftIn (stored seen from) (IsMade stands (stored seen from) state) false)
  pub adds_second : AddsOnly moment left_since (second_disk from) second (LeftIn (stored seen from) (IsMade stands (stored seen from) state) true)
