-- What the disks noted of a step that met a fault, and which call of the schedule that is.
use Rattle.std.proofs.Common.{◌≡◌, ◌∙◌, ℕ, zero, suc, ◌+◌, ◌-◌, ◌^◌, ◌<◌, ◌≤◌, Bool, true, false, List, [], ◌∷◌, ◌++◌, length, map, take, drop, Some, ap, arith, refl, sym, subst, length-append}
use Rattle.std.proofs.lemmas.List.{append_cancel_left}
use Rattle.ps_ports.specs.Causes.{raised}
use Rattle.ps_disks.specs.MemoryDisk.{DiskState}
use Rattle.ps_disks.specs.Run.{IsArmed, faults_after, noted}
use Rattle.ps_disks.specs.declared.disk.DiskCall.{DiskCall}
use Rattle.host_journal.specs.State.{State, first_disk, second_disk}
use Rattle.machine_keep.specs.Calls.{PairCalls, first_calls, second_calls, sync_calls}
use Rattle.machine_keep.specs.Stopped.{StopsAt, are_too_far, noted_as}
use Rattle.simulated_machine.specs.Held.{failing, on_first, on_second}
use Rattle.simulated_machine.specs.IsHeld.{HasFaults, HasMade}
use Rattle.simulated_machine.proofs.ScheduleLemmas.{by_disks, first_counted, met_in_front, second_counted}

pub same_number : (a b : ℕ) → Some a ≡ Some b → a ≡ b
same_number a b is = cc is

-- ---- the calls that were made
abbrev pub disks_of : PairCalls → List Bool
disks_of calls = map (λ (c : Bool × DiskCall). c.0) calls

-- a sync writes nothing
pub near_syncs : (ready : Bool) → are_too_far (sync_calls ready) ≡ false
near_syncs true = refl
near_syncs false = refl

noted_length : (number : ℕ) (calls : List DiskCall) → length (noted number calls) ≡ length calls
noted_length number [] = refl
noted_length number (c ∷ calls) = ap suc (noted_length (number - 1) calls)

-- the disks of the first so many calls
front_of : (n : ℕ) (calls : PairCalls) (back : List Bool) → n ≤ length calls → disks_of (take n calls) ≡ take n (disks_of calls ++ back)
front_of zero calls back some = refl
front_of (suc n) [] back some = let none : suc n ≤ 0 = some in absurd (omega (arith, none))
front_of (suc n) (c ∷ calls) back some = let less : suc n ≤ suc (length calls) = some in ap (λ (l : List Bool). c.0 ∷ l) (front_of n calls back (omega (arith, less)))

-- one call of a disk failed at most
faults_of : (faults : ℕ) (done failed : List DiskCall) → faults_after faults (noted_as true done ++ noted_as false failed) ≤ faults + length failed
faults_of faults [] [] = omega arith
faults_of faults [] (c ∷ failed) =
    let rest = faults_of (raised faults) [] failed in
    let more : raised faults ≤ faults + 1 = omega arith in
    let all : faults_after (raised faults) (noted_as false failed) ≤ faults + suc (length failed) = omega (arith, rest, more) in
    all
faults_of faults (c ∷ done) failed = faults_of faults done failed

one_of_first : (calls : PairCalls) → length (first_calls (take 1 calls)) ≤ 1
one_of_first [] = let few : 0 ≤ 1 = omega arith in few
one_of_first ((false, c) ∷ calls) = let few : 1 ≤ 1 = omega arith in few
one_of_first ((true, c) ∷ calls) = let few : 0 ≤ 1 = omega arith in few

one_of_second : (calls : PairCalls) → length (second_calls (take 1 calls)) ≤ 1
one_of_second [] = let few : 0 ≤ 1 = omega arith in few
one_of_second ((false, c) ∷ calls) = let few : 0 ≤ 1 = omega arith in few
one_of_second ((true, c) ∷ calls) = let few : 1 ≤ 1 = omega arith in few

module _ (first second : ℕ) (old new : State DiskState) (calls : PairCalls) (n : ℕ) (stops : StopsAt first second old new calls n) where
  pub made_as : (back all : List Bool) → disks_of calls ++ back ≡ all → HasMade old new (take n all)
  made_as back all is = subst (λ (l : List Bool). HasMade old new (take n l)) is (record {
    first = ap length stops.first_after.log ∙ (length-append (first_disk old).history.log (noted (first_disk old).until_fault (first_calls (take n calls)))
        ∙ ap (λ (k : ℕ). length (first_disk old).history.log + k) (noted_length (first_disk old).until_fault (first_calls (take n calls)) ∙ (first_counted (take n calls) ∙ ap on_first (front_of n calls back stops.most))));
    second = ap length stops.second_after.log ∙ (length-append (second_disk old).history.log (noted (second_disk old).until_fault (second_calls (take n calls)))
        ∙ ap (λ (k : ℕ). length (second_disk old).history.log + k) (noted_length (second_disk old).until_fault (second_calls (take n calls)) ∙ (second_counted (take n calls) ∙ ap on_second (front_of n calls back stops.most))));
  })

  pub fault_in : (back all : List Bool) → disks_of calls ++ back ≡ all → failing first second all ≡ Some n
  fault_in back all is = subst (λ (l : List Bool). failing first second l ≡ Some n) is (met_in_front first second n (disks_of calls) back (sym (by_disks first second calls) ∙ stops.place))

  first_noted : noted (first_disk old).until_fault (first_calls (take n calls)) ≡ noted_as true (first_calls (take (n - 1) calls)) ++ noted_as false (first_calls (take 1 (drop (n - 1) calls)))
  first_noted = append_cancel_left (first_disk old).history.log _ _ (sym stops.first_after.log ∙ ap (λ h. h.log) stops.first_history)

  second_noted : noted (second_disk old).until_fault (second_calls (take n calls)) ≡ noted_as true (second_calls (take (n - 1) calls)) ++ noted_as false (second_calls (take 1 (drop (n - 1) calls)))
  second_noted = append_cancel_left (second_disk old).history.log _ _ (sym stops.second_after.log ∙ ap (λ h. h.log) stops.second_history)

  pub more_faults : (most : ℕ) → HasFaults old most → HasFaults new (most + 1)
  more_faults most few =
      let one = faults_of (first_disk old).faults (first_calls (take (n - 1) calls)) (first_calls (take 1 (drop (n - 1) calls))) in
      let two = faults_of (second_disk old).faults (second_calls (take (n - 1) calls)) (second_calls (take 1 (drop (n - 1) calls))) in
      let first_is = stops.first_after.faults ∙ ap (faults_after (first_disk old).faults) first_noted in
      let second_is = stops.second_after.faults ∙ ap (faults_after (second_disk old).faults) second_noted in
      (omega (arith, one, first_is, few.0, one_of_first (drop (n - 1) calls)), omega (arith, two, second_is, few.1, one_of_second (drop (n - 1) calls)))

  module _ (most : ℕ) (few : HasFaults old most) (small : most + 2 < 2 ^ 64) (fed_one : (first_disk new).starved ≡ false) (fed_two : (second_disk new).starved ≡ false) where
    pub first_armed : IsArmed (first_disk new) (first_disk new).until_fault
    first_armed = record { reads = stops.first_after.reads; fed = fed_one; few = omega (arith, small, (more_faults most few).0); armed = refl }

    pub second_armed : IsArmed (second_disk new) (second_disk new).until_fault
    second_armed = record { reads = stops.second_after.reads; fed = fed_two; few = omega (arith, small, (more_faults most few).1); armed = refl }
