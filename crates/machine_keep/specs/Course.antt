-- The course of a call of a kept machine: what it finds, makes and leaves, and what its disks tell.
use Rattle.std.specs.Prelude.{◌≡◌, ℕ, ◌+◌, ◌-◌, ◌^◌, ◌<◌, ◌≤◌, Bool, true, false, not, if◌then◌else◌, List, [], ◌∷◌, ◌++◌, length, Option, None, Some, IfSome, option_map, Result}
use Rattle.ps_ports.specs.Causes.{raised}
use Rattle.ps_disks.specs.declared.disk.DiskCall.{DiskCall}
use Rattle.host_journal.specs.Format.{stands as is_standing}
use Rattle.host_journal.specs.Pair.{pair_of}
use Rattle.host_journal.specs.State.{State, IsAt, SameButRoom, first_disk, has_record, is_ready, second_disk, stored}
use Rattle.host_journal.specs.declared.reading.Counted.{Counted}
use Rattle.host_journal.specs.declared.reading.DiskPlace.{DiskPlace}
use Rattle.machine_keep.specs.Calls.{TellsIn, TellsPair, TellsSome, TellsSomeIn, image_calls, kept_calls, step_calls, sync_calls}
use Rattle.machine_keep.specs.Kept.{Kept, StandsFor, after_step, caught, is_many}

-- The journal as it was, or, where the last call met a fault, as a reload finds it; and whether the record of a step that was
-- unsure is found to stand.
pub record IsFound {D : Type 0} (premise : Type 0) (seen : D → List ℕ) (old : State D) (stood : Bool) (place : State D) : Type 0 where
  pub same : is_ready old.pending ≡ true → place ≡ old
  pub ready : is_ready place.pending ≡ true
  pub at : premise → IsAt place (stored seen old)
  pub stands : premise → stood ≡ has_record old.pending (stored seen old)
  pub shut : (place.second ≡ old.second → place.shut ≡ old.shut) × (place.second ≡ not old.second → place.shut ≡ false)

-- with this record the records are many
abbrev pub is_many_with : {D : Type 0} → State D → List ℕ → Bool
is_many_with s payload = is_many (s.end + 5 + length payload - s.start) (s.start - 21)

-- a snapshot of this state, which has fewer than 2^32 bytes, beside a disk of a generation that isn't the last
abbrev pub IsSnapshotOf : {S : Type 0} → (List (List ℕ) → S → Type 0) → S → ℕ → List ℕ → Type 0
IsSnapshotOf stands s generation image = stands (image ∷ []) s × (length image < 2 ^ 32) × (generation + 1 < 2 ^ 64)

-- Where a record makes the records many, a snapshot of the state is made, or it is put off, and counted. Else none is.
abbrev pub Shortens : {D S : Type 0} → (List (List ℕ) → S → Type 0) → S → ℕ → ℕ → State D → Option (List ℕ) → Option (List ℕ) → Type 0
Shortens stands s off off_now place None image = (image ≡ None) × (off_now ≡ off)
Shortens stands s off off_now place (Some payload) None = off_now ≡ (if is_many_with place payload then raised off else off)
Shortens stands s off off_now place (Some payload) (Some image) = (is_many_with place payload ≡ true) × IsSnapshotOf stands s place.generation image × (off_now ≡ off)

-- behind a record the same disk counts
pub record IsBehind {D : Type 0} (payload : List ℕ) (place now : State D) : Type 0 where
  pub second : now.second ≡ place.second
  pub generation : now.generation ≡ place.generation
  pub start : now.start ≡ place.start
  pub shut : now.shut ≡ place.shut
  pub end : now.end ≡ place.end + 5 + length payload

-- behind a snapshot the other disk counts
pub record IsTurned {D : Type 0} (image : List ℕ) (place now : State D) : Type 0 where
  pub second : now.second ≡ not place.second
  pub generation : now.generation ≡ place.generation + 1
  pub start : now.start ≡ 21 + length image
  pub end : now.end ≡ now.start

-- where the journal is behind a record, and behind a snapshot
abbrev pub Moves : {D : Type 0} → State D → Option (List ℕ) → Option (List ℕ) → State D → Type 0
Moves place None image now = SameButRoom place now
Moves place (Some payload) None now = IsBehind payload place now
Moves place (Some payload) (Some image) now = IsTurned image place now

-- the same of a journal that has the record already
abbrev pub IsShortened : {D S : Type 0} → (List (List ℕ) → S → Type 0) → S → ℕ → ℕ → State D → Option (List ℕ) → State D → Type 0
IsShortened stands s off off_now old None now = (off_now ≡ (if is_many (old.end - old.start) (old.start - 21) then raised off else off)) × SameButRoom old now
IsShortened stands s off off_now old (Some image) now = (is_many (old.end - old.start) (old.start - 21) ≡ true) × IsSnapshotOf stands s old.generation image × (off_now ≡ off) × IsTurned image old now

-- a snapshot of this state is due with the record, where one was begun
abbrev pub IsDue : {D S : Type 0} → (List (List ℕ) → S → Type 0) → S → State D → Option (List ℕ) → Option (List ℕ) → Type 0
IsDue stands s place payload None = Unit {0}
IsDue stands s place None (Some image) = ⊥
IsDue stands s place (Some payload) (Some image) = (is_many_with place payload ≡ true) × IsSnapshotOf stands s place.generation image

-- The state and the step that is unsure after a fault: in a record the step isn't taken in, in a snapshot it was.
abbrev pub Leaves : {S T : Type 0} → (S → T → S) → S → Option T → Option (List ℕ) → S → Option T → Type 0
Leaves after s step None now unsure = (now ≡ s) × (unsure ≡ step)
Leaves after s step (Some image) now unsure = (now ≡ after_step after s step) × (unsure ≡ None)

module _ {M D S T : Type 0} (tells : D → Option (List DiskCall)) (faults : D → ℕ) (goes : D → D → Type 0) (state : M → S) where
  -- a fault was met before it was known what stands
  pub record Unfound (old new : Kept M D T) : Type 0 where
    pub became : state new.machine ≡ state old.machine
    pub unsure : new.unsure ≡ old.unsure
    pub told : TellsSomeIn tells faults goes old.journal new.journal (sync_calls (is_ready old.journal.pending))

module _ {M D S T : Type 0} (tells : D → Option (List DiskCall)) (state : M → S) (stands : List (List ℕ) → S → Type 0) (bytes : T → List ℕ) (after : S → T → S) where
  -- a step was kept, if there is one
  pub record Keeps (old new : Kept M D T) (step : Option T) : Type 0 where
    pub became : state new.machine ≡ after_step after (state old.machine) step
    -- of the snapshot, where one is made
    pub image : Option (List ℕ)
    pub shortened : Shortens stands (state new.machine) old.put_off new.put_off old.journal (option_map bytes step) image
    pub moved : Moves old.journal (option_map bytes step) image new.journal
    pub told : TellsIn tells old.journal new.journal (kept_calls old.journal (option_map bytes step) image)

-- where a snapshot was begun, the four calls of the record were made before
abbrev pub IsBehindRecord : Option (List ℕ) → ℕ → Type 0
IsBehindRecord None made = Unit {0}
IsBehindRecord (Some image) made = 4 ≤ made

module _ {M D S T : Type 0} (tells : D → Option (List DiskCall)) (faults : D → ℕ) (goes : D → D → Type 0) (state : M → S) (stands : List (List ℕ) → S → Type 0) (bytes : T → List ℕ) (after : S → T → S) where
  -- a fault was met as the step was kept
  pub record Breaks (old new : Kept M D T) (step : Option T) : Type 0 where
    pub image : Option (List ℕ)
    pub due : IsDue stands (after_step after (state old.machine) step) old.journal (option_map bytes step) image
    pub left : Leaves after (state old.machine) step image (state new.machine) new.unsure
    pub told : TellsSomeIn tells faults goes old.journal new.journal (kept_calls old.journal (option_map bytes step) image)
    pub behind : IsBehindRecord image (length told.made)

module _ {M D S C R T : Type 0} (premise : Type 0) (seen : D → List ℕ) (tells : D → Option (List DiskCall)) (state : M → S) (stands : List (List ℕ) → S → Type 0)
    (bytes : T → List ℕ) (answers : S → C → R → Option T → Type 0) (follows : S → T → Type 0) (after : S → T → S) where
  -- a call that was answered
  pub record Answered (old new : Kept M D T) (call : C) (reply : R) : Type 0 where
    pub stood : Bool
    pub place : State D
    pub found : IsFound premise seen old.journal stood place
    -- the step that the call makes in the state that stands
    pub step : Option T
    pub answered : answers (caught after (state old.machine) old.unsure stood) call reply step
    pub may : IfSome step (λ t. follows (caught after (state old.machine) old.unsure stood) t)
    pub became : state new.machine ≡ after_step after (caught after (state old.machine) old.unsure stood) step
    -- the snapshot, where one is made
    pub image : Option (List ℕ)
    pub shortened : Shortens stands (state new.machine) old.put_off new.put_off place (option_map bytes step) image
    pub moved : Moves place (option_map bytes step) image new.journal
    pub told : TellsIn tells old.journal new.journal (step_calls (is_ready old.journal.pending) place (option_map bytes step) image)

  -- one for which there was no memory
  pub record OutOfMemory (old new : Kept M D T) : Type 0 where
    pub stood : Bool
    pub place : State D
    pub found : IsFound premise seen old.journal stood place
    pub became : state new.machine ≡ caught after (state old.machine) old.unsure stood
    pub same : SameButRoom place new.journal
    pub put_off : new.put_off ≡ old.put_off
    pub told : TellsIn tells old.journal new.journal (sync_calls (is_ready old.journal.pending))

module _ {M D S C R T : Type 0} (premise : Type 0) (seen : D → List ℕ) (tells : D → Option (List DiskCall)) (faults : D → ℕ) (goes : D → D → Type 0) (state : M → S) (stands : List (List ℕ) → S → Type 0)
    (bytes : T → List ℕ) (answers : S → C → R → Option T → Type 0) (follows : S → T → Type 0) (after : S → T → S) where
  -- one that met a fault as its step was kept
  pub record Unkept (old new : Kept M D T) (call : C) : Type 0 where
    pub stood : Bool
    pub place : State D
    pub found : IsFound premise seen old.journal stood place
    pub reply : R
    pub step : Option T
    pub answered : answers (caught after (state old.machine) old.unsure stood) call reply step
    pub may : IfSome step (λ t. follows (caught after (state old.machine) old.unsure stood) t)
    pub image : Option (List ℕ)
    pub due : IsDue stands (after_step after (caught after (state old.machine) old.unsure stood) step) place (option_map bytes step) image
    pub left : Leaves after (caught after (state old.machine) old.unsure stood) step image (state new.machine) new.unsure
    pub told : TellsSomeIn tells faults goes old.journal new.journal (step_calls (is_ready old.journal.pending) place (option_map bytes step) image)

-- the journal of two disks, as an opening reads it
pub record IsRead {D : Type 0} (premise : Type 0) (seen : D → List ℕ) (first second : D) (place : State D) : Type 0 where
  pub ready : is_ready place.pending ≡ true
  pub at : premise → IsAt place (pair_of (seen first) (seen second))
  pub shut : premise → place.shut ≡ not (is_standing (if place.second then seen first else seen second))

-- A list in the form that is written stays; one in the earlier form gives way to a snapshot of the state.
abbrev pub IsRewritten : {D S : Type 0} → (List (List ℕ) → S → Type 0) → S → State D → Option (List ℕ) → State D → Type 0
IsRewritten stands s place None now = SameButRoom place now
IsRewritten stands s place (Some image) now = stands (image ∷ []) s × IsTurned image place now

module _ {D S : Type 0} (premise : Type 0) (seen : D → List ℕ) (tells : D → Option (List DiskCall)) (stands : List (List ℕ) → S → Type 0) (first second : D) where
  -- an opening that gave a machine in this state
  pub record Opened (s : S) (now : State D) : Type 0 where
    pub place : State D
    pub read : IsRead premise seen first second place
    pub image : Option (List ℕ)
    pub rewritten : IsRewritten stands s place image now
    pub told : TellsPair tells first second (first_disk now) (second_disk now) (sync_calls false ++ image_calls place image)

module _ {D S : Type 0} (premise : Type 0) (seen : D → List ℕ) (tells : D → Option (List DiskCall)) (faults : D → ℕ) (goes : D → D → Type 0) (stands : List (List ℕ) → S → Type 0) (first second : D) where
  -- one that met a fault in such a snapshot
  pub record Unwritten (first_now second_now : D) : Type 0 where
    pub place : State D
    pub read : IsRead premise seen first second place
    pub state : S
    pub image : List ℕ
    pub alone : stands (image ∷ []) state
    pub told : TellsSome tells faults goes first second first_now second_now (sync_calls false ++ image_calls place (Some image))

-- The same disk counts as before where the list stood for the state in the form that is written, and the other where it stood for it in the earlier one.
abbrev pub IsInForm : {S : Type 0} → (List (List ℕ) → S → Type 0) → (List (List ℕ) → S → Type 0) → S → Bool → Bool → Result Counted DiskPlace → Type 0
IsInForm stands stood s before now pair = (now ≡ before → StandsFor stands s pair) × (now ≡ not before → StandsFor stood s pair)
