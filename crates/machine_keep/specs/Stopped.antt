-- How far the calls of a step over disks in memory come, where one call of each disk is to fail.
use Rattle.std.specs.Prelude.{◌≡◌, ℕ, ◌+◌, ◌-◌, ◌==◌, ◌≤◌, Bool, false, true, if◌then◌else◌, List, [], ◌∷◌, ◌++◌, drop, length, map, take, Option, None, Some, option_map}
use Rattle.std.specs.List.{list_any}
use Rattle.ps_ports.specs.Causes.{counted}
use Rattle.ps_disks.specs.History.{History}
use Rattle.ps_disks.specs.MemoryDisk.{DiskState, ends_too_far, told_calls}
use Rattle.ps_disks.specs.Run.{IsAfter, Went}
use Rattle.ps_disks.specs.declared.disk.DiskCall.{DiskCall}
use Rattle.ps_disks.specs.declared.history.LoggedCall.{LoggedCall}
use Rattle.host_journal.specs.State.{State, first_disk, second_disk}
use Rattle.machine_keep.specs.Calls.{PairCalls, TellsSomeIn, first_calls, second_calls}

-- Of each disk the call of this number is to fail, counted from 1 among its own (0: none). Which of these calls is the first such one,
-- counted from 1 among all.
abbrev pub first_fault : ℕ → ℕ → PairCalls → Option ℕ
first_fault first second [] = None
first_fault first second ((false, call) ∷ calls) = if first == 1 then Some 1 else option_map (λ n. n + 1) (first_fault (first - 1) second calls)
first_fault first second ((true, call) ∷ calls) = if second == 1 then Some 1 else option_map (λ n. n + 1) (first_fault first (second - 1) calls)

-- one of them would end past 2^64 - 1
abbrev pub are_too_far : PairCalls → Bool
are_too_far calls = list_any (λ c. ends_too_far c.1) calls

-- as a disk notes them: all done, or all failed
abbrev pub noted_as : Bool → List DiskCall → List LoggedCall
noted_as done calls = map (λ c. record { call = c; done = done }) calls

-- the history after calls that were done, and then others that failed
abbrev pub with_calls : History → List DiskCall → List DiskCall → History
with_calls h done failed = record { start = h.start; log = h.log ++ (noted_as true done ++ noted_as false failed) }

-- a fault was met at some of these calls
abbrev pub IsStopped : State DiskState → State DiskState → PairCalls → Type 0
IsStopped old new calls = TellsSomeIn told_calls (λ d. counted d.faults) Went old new calls

-- Of these calls the first n were made. The last of them failed, and did nothing; those before it were done.
pub record StopsAt (first second : ℕ) (old new : State DiskState) (calls : PairCalls) (n : ℕ) : Type 0 where
  pub place : first_fault first second calls ≡ Some n
  pub least : 1 ≤ n
  pub most : n ≤ length calls
  pub first_history : (first_disk new).history ≡ with_calls (first_disk old).history (first_calls (take (n - 1) calls)) (first_calls (take 1 (drop (n - 1) calls)))
  pub second_history : (second_disk new).history ≡ with_calls (second_disk old).history (second_calls (take (n - 1) calls)) (second_calls (take 1 (drop (n - 1) calls)))
  pub first_after : IsAfter (first_disk old) (first_disk new) (first_calls (take n calls))
  pub second_after : IsAfter (second_disk old) (second_disk new) (second_calls (take n calls))

-- all were made and done
pub record RunsThrough (first second : ℕ) (old new : State DiskState) (calls : PairCalls) : Type 0 where
  pub place : first_fault first second calls ≡ None
  pub first_history : (first_disk new).history ≡ with_calls (first_disk old).history (first_calls calls) []
  pub second_history : (second_disk new).history ≡ with_calls (second_disk old).history (second_calls calls) []
