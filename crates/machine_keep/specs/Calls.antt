-- The calls of two disks that a kept machine makes, and that they tell.
use Rattle.std.specs.Prelude.{◌≡◌, ◌⊎◌, ℕ, ◌+◌, Bool, true, false, not, if◌then◌else◌, List, [], ◌∷◌, ◌++◌, map, Option, None, Some}
use Rattle.ps_ports.specs.Causes.{Rose}
use Rattle.ps_disks.specs.declared.disk.DiskCall.{DiskCall}
use Rattle.ps_disks.specs.declared.disk.DiskCall.TheVariants.{Sync}
use Rattle.host_journal.specs.State.{State, append_calls, first_disk, second_disk, snapshot_calls}
use Rattle.host_journal.specs.Told.{TellsAll}

-- calls of a pair of disks in the order in which they are made, each with whether it is one of the second disk
abbrev pub PairCalls : Type 0
PairCalls = List (Bool × DiskCall)

-- those of the first disk
abbrev pub first_calls : PairCalls → List DiskCall
first_calls [] = []
first_calls (c ∷ cs) = if c.0 then first_calls cs else c.1 ∷ first_calls cs

-- and of the second
abbrev pub second_calls : PairCalls → List DiskCall
second_calls [] = []
second_calls (c ∷ cs) = if c.0 then c.1 ∷ second_calls cs else second_calls cs

-- all of these on one of the two
abbrev pub all_on : Bool → List DiskCall → PairCalls
all_on second calls = map (λ c. (second, c)) calls

-- ---- the calls of one step
-- where the last call met a fault, first a sync of each disk
abbrev pub sync_calls : Bool → PairCalls
sync_calls ready = if ready then [] else (false, Sync) ∷ (true, Sync) ∷ []

-- the four of its record, on the disk that counts
abbrev pub record_calls : {D : Type 0} → State D → Option (List ℕ) → PairCalls
record_calls s None = []
record_calls s (Some payload) = all_on s.second (append_calls s.end payload)

-- where a snapshot is made then, its seven on the other disk
abbrev pub image_calls : {D : Type 0} → State D → Option (List ℕ) → PairCalls
image_calls s None = []
image_calls s (Some image) = all_on (not s.second) (snapshot_calls s.shut (s.generation + 1) image)

abbrev pub kept_calls : {D : Type 0} → State D → Option (List ℕ) → Option (List ℕ) → PairCalls
kept_calls s payload image = record_calls s payload ++ image_calls s image

-- all of them, in a row
abbrev pub step_calls : {D : Type 0} → Bool → State D → Option (List ℕ) → Option (List ℕ) → PairCalls
step_calls ready s payload image = sync_calls ready ++ kept_calls s payload image

-- ---- what is told
-- where the two disks tell their calls, they told those before, and then these
abbrev pub TellsPair : {D : Type 0} → (D → Option (List DiskCall)) → D → D → D → D → PairCalls → Type 0
TellsPair told first second first_now second_now calls = TellsAll (told first) (told first_now) (first_calls calls) × TellsAll (told second) (told second_now) (second_calls calls)

module _ {D : Type 0} (tells : D → Option (List DiskCall)) (faults : D → ℕ) (goes : D → D → Type 0) where
  -- they made these, and none of their calls failed
  pub record MakesPair (first second first_now second_now : D) (calls : PairCalls) : Type 0 where
    pub told : TellsPair tells first second first_now second_now calls
    pub no_fault : (faults first_now ≡ faults first) × (faults second_now ≡ faults second)
    pub calls_advance : goes first first_now × goes second second_now

  -- The first of these, up to the one at which a fault was met: those before it were made without one. It failed, or, behind a sync, a read.
  pub record TellsSome (first second first_now second_now : D) (calls : PairCalls) : Type 0 where
    pub made : PairCalls
    pub last : Bool × DiskCall
    pub rest : PairCalls
    pub split : calls ≡ made ++ last ∷ rest
    -- before the last of them
    pub first_mid : D
    pub second_mid : D
    pub before : MakesPair first second first_mid second_mid made
    pub told : TellsPair tells first_mid second_mid first_now second_now (last ∷ [])
    pub rose : Rose (faults first_mid) (faults first_now) ⊎ Rose (faults second_mid) (faults second_now)
    pub calls_advance : goes first_mid first_now × goes second_mid second_now

  -- the disks of a journal
  abbrev pub TellsSomeIn : State D → State D → PairCalls → Type 0
  TellsSomeIn old new calls = TellsSome (first_disk old) (second_disk old) (first_disk new) (second_disk new) calls

abbrev pub TellsIn : {D : Type 0} → (D → Option (List DiskCall)) → State D → State D → PairCalls → Type 0
TellsIn told old new calls = TellsPair told (first_disk old) (second_disk old) (first_disk new) (second_disk new) calls
