-- A disk in memory, and the calls that are to fail.
use Rattle.std.specs.Prelude.{◌≡◌, ◌⊎◌, ℕ, ◌+◌, ◌-◌, ◌^◌, ◌==◌, nat_le, Bool, true, false, ◌||◌, if◌then◌else◌, List, [], length, map, Option, Some, None, Result, Ok, Err}
use Rattle.ps_ports.specs.Causes.{raised}
use Rattle.ps_ports.specs.Memory.{Calls, no_calls, fails_next, called}
use Rattle.ps_disks.specs.History.{History, with_call}
use Rattle.ps_disks.specs.declared.disk.DiskCall.{DiskCall}
use Rattle.ps_disks.specs.declared.disk.DiskCall.TheVariants.{Write, Cut, Sync}

-- the bytes and what was done to them; all calls, reads too; how many writes, cuts and syncs come up to the one that is to fail (0: none);
-- the count of faults; whether memory ran out
pub record DiskState : Type 0 where
  pub history : History
  pub calls : Calls
  pub until_fault : ℕ
  pub faults : ℕ
  pub starved : Bool

abbrev pub new_disk : List ℕ → List ℕ → DiskState
new_disk bytes failing =
    record { history = record { start = bytes; log = [] }; calls = no_calls failing; until_fault = 0; faults = 0; starved = false }

-- the n-th write, cut or sync from now on is to fail
abbrev pub armed : DiskState → ℕ → DiskState
armed s n = record { history = s.history; calls = s.calls; until_fault = n; faults = s.faults; starved = s.starved }

abbrev pub armed_number : Option ℕ → ℕ
armed_number None = 0
armed_number (Some n) = n

-- after a read with this answer
abbrev pub after_read : {E : Type 0} → DiskState → Result ℕ E → DiskState
after_read s (Ok n) = record { history = s.history; calls = called s.calls; until_fault = s.until_fault; faults = s.faults; starved = s.starved }
after_read s (Err e) = record { history = s.history; calls = called s.calls; until_fault = s.until_fault; faults = raised s.faults; starved = s.starved }

-- a write would end past 2^64 - 1
abbrev pub ends_too_far : DiskCall → Bool
ends_too_far (Write at bytes) = nat_le (2 ^ 64) (at + length bytes)
ends_too_far (Cut len) = false
ends_too_far Sync = false

-- the next write, cut or sync is to fail, whatever it is
abbrev pub is_to_fail : DiskState → Bool
is_to_fail s = fails_next s.calls || (s.until_fault == 1)

-- this call fails, even with memory enough
abbrev pub fails_call : DiskState → DiskCall → Bool
fails_call s call = is_to_fail s || ends_too_far call

-- a write, cut or sync was made, and is in the history
abbrev pub after_made : DiskState → DiskCall → Bool → DiskState
after_made s call done = record {
  history = with_call s.history call done;
  calls = called s.calls;
  until_fault = s.until_fault - 1;
  faults = if done then s.faults else raised s.faults;
  starved = s.starved;
}

-- one found no memory
abbrev pub after_starved : DiskState → DiskState
after_starved s = record { history = s.history; calls = called s.calls; until_fault = s.until_fault - 1; faults = raised s.faults; starved = true }

-- what a write, cut or sync answers and leaves
abbrev pub Makes : {E : Type 0} → DiskCall → DiskState → DiskState → Result (Unit {0}) E → Type 0
Makes call old new (Ok u) = (fails_call old call ≡ false) × (new ≡ after_made old call true)
Makes call old new (Err e) = ((fails_call old call ≡ true) × (new ≡ after_made old call false)) ⊎ (new ≡ after_starved old)

-- a disk with its count set back
abbrev pub reopened : DiskState → DiskState
reopened d = record { history = d.history; calls = d.calls; until_fault = d.until_fault; faults = 0; starved = d.starved }

-- the calls, as long as memory never ran out
abbrev pub told_calls : DiskState → Option (List DiskCall)
told_calls s = if s.starved then None else Some (map (λ l. l.call) s.history.log)
