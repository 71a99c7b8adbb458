-- What an opening of a porch answers, how streams are dealt to doors, and a porch in memory.
use Rattle.std.specs.Prelude.{◌≡◌, ◌≤◌, ◌<◌, ℕ, zero, suc, ◌+◌, ◌-◌, min, ◌==◌, not, Bool, true, false, if◌then◌else◌, List, [], ◌∷◌, length, take, drop, map, slice_index_or, Option, None, Some, ⊤, Result, Ok, Err}
use Rattle.std.specs.List.{list_any}
use Rattle.std.specs.declared.io.ErrorKind.{ErrorKind}
use Rattle.std.specs.declared.io.ErrorKind.TheVariants.{OutOfMemory}
use Rattle.ps_ports.specs.Causes.{counted, raised}
use Rattle.ps_ports.specs.Memory.{Calls, called}
use Rattle.ps_doors.specs.Door.{DoorState, Guest, new_door}
use Rattle.ps_doors.specs.Returned.{ReturnedState, after_going, after_coming}
use Rattle.ps_doors.specs.Told.{IsUntold}
use Rattle.ps_doors.specs.declared.porch.PorchFault.{PorchFault}
use Rattle.ps_doors.specs.declared.porch.PorchFault.TheVariants.{Failed, Memory}

-- the fault that an error of the system stands for
abbrev pub porch_fault_of : ErrorKind → PorchFault
porch_fault_of OutOfMemory = Memory
porch_fault_of _ = Failed

-- the count rises exactly where the call failed, and by one
abbrev pub porch_faults_after : {A : Type 0} → ℕ → Result A PorchFault → ℕ
porch_faults_after count (Ok doors) = count
porch_faults_after count (Err Failed) = raised count
porch_faults_after count (Err Memory) = count

-- a shutting raises it by one exactly where a door's count isn't 0
abbrev pub porch_faults_shut : ℕ → List ℕ → ℕ
porch_faults_shut count door_counts = if list_any (λ n. not (n == 0)) door_counts then raised count else count

-- where a door tells its streams, none was given out and none came back
abbrev pub IsUnused : {G S : Type 0} → Option (List G) → Option (List S) → Type 0
IsUnused given returned = IsUntold given × IsUntold returned

-- where the porch gives at most so many streams, so does the door
abbrev pub HasShare : Option ℕ → Option ℕ → Type 0
HasShare None share = ⊤
HasShare (Some most) None = ⊥
HasShare (Some most) (Some n) = n ≤ most

-- of what is dealt to so many places in turn, that which the place behind `skip` others gets
abbrev pub every : {X : Type 0} → ℕ → ℕ → List X → List X
every places skip [] = []
every places zero (x ∷ xs) = x ∷ every places (places - 1) xs
every places (suc skip) (x ∷ xs) = every places skip xs

-- so many doors, to which these streams were dealt in turn
pub record AreDealt (places : ℕ) (guests : List Guest) (doors : List DoorState) : Type 0 where
  pub number : length doors ≡ places
  pub each : (i : ℕ) (d : DoorState) → i < places → slice_index_or doors i d ≡ new_door (every places i guests) []

-- the place behind this one; behind the last comes the first
abbrev pub next_place : ℕ → ℕ → ℕ
next_place places at = if at + 1 == places then 0 else at + 1

-- the first of them, or all
abbrev pub first_of : {X : Type 0} → Option ℕ → List X → List X
first_of None xs = xs
first_of (Some most) xs = take most xs

-- the others
abbrev pub others : {X : Type 0} → Option ℕ → List X → List X
others None xs = []
others (Some most) xs = drop most xs

-- those that stay at a porch with so many doors: the others, or all where there is no door
abbrev pub behind : {X : Type 0} → ℕ → Option ℕ → List X → List X
behind places most xs = if places == 0 then xs else others most xs

-- how many of so many are first
abbrev pub first_count : Option ℕ → ℕ → ℕ
first_count None waiting = waiting
first_count (Some most) waiting = min most waiting

-- how many are dealt to so many doors
abbrev pub dealt_count : ℕ → Option ℕ → ℕ → ℕ
dealt_count places most waiting = if places == 0 then 0 else first_count most waiting

-- the streams that are left to deal, the doors that came back, those of one shutting together, the calls, the count of faults
pub record PorchState : Type 0 where
  pub guests : List Guest
  pub shut : ReturnedState (List DoorState)
  pub calls : Calls
  pub faults : ℕ

-- what an opening answers and leaves; one that found no memory may have lost streams
abbrev pub Opens : ℕ → Option ℕ → PorchState → PorchState → Result (List DoorState) PorchFault → Type 0
Opens number most old new (Ok doors) =
    AreDealt number (first_of most old.guests) doors
    × (new ≡ record { guests = behind number most old.guests; shut = after_going old.shut; calls = called old.calls; faults = old.faults })
Opens number most old new (Err Failed) = new ≡ record { guests = old.guests; shut = old.shut; calls = called old.calls; faults = raised old.faults }
Opens number most old new (Err Memory) = (new.shut ≡ old.shut) × (new.calls ≡ called old.calls) × (new.faults ≡ old.faults)

-- the same answer, its doors seen as a list
abbrev pub seen_doors : {A : Type 0} → (A → List DoorState) → Result A PorchFault → Result (List DoorState) PorchFault
seen_doors doors (Ok opened) = Ok (doors opened)
seen_doors doors (Err fault) = Err fault

abbrev pub is_failed : {A : Type 0} → Result A PorchFault → Bool
is_failed (Err Failed) = true
is_failed answer = false

-- after doors came back
abbrev pub after_shut : PorchState → List DoorState → PorchState
after_shut p doors = record {
  guests = p.guests;
  shut = after_coming p.shut doors;
  calls = p.calls;
  faults = porch_faults_shut p.faults (map (λ d. counted d.faults) doors);
}
