-- A disk in memory after some calls in a row, and what its count of faults says of them.
use Rattle.std.specs.Prelude.{◌≡◌, ◌⊎◌, ℕ, ◌-◌, ◌^◌, ◌<◌, ◌≤◌, ◌==◌, Bool, false, true, not, ◌||◌, if◌then◌else◌, List, [], ◌∷◌, ◌++◌, length, drop, map, refl}
use Rattle.std.specs.List.{list_any}
use Rattle.std.proofs.Common.{subst}
use Rattle.ps_ports.specs.Causes.{raised}
use Rattle.ps_ports.specs.Memory.{called, fails_next}
use Rattle.ps_disks.specs.MemoryDisk.{DiskState, after_made, after_starved, ends_too_far, fails_call}
use Rattle.ps_disks.specs.declared.disk.DiskCall.{DiskCall}
use Rattle.ps_disks.specs.declared.history.LoggedCall.{LoggedCall}

-- after a read, which fails where it is to fail
abbrev pub after_one_read : DiskState → DiskState
after_one_read s = record { history = s.history; calls = called s.calls; until_fault = s.until_fault; faults = if fails_next s.calls then raised s.faults else s.faults; starved = s.starved }

-- after one call: a read; a write, cut or sync, which is done but where it is to fail; or one that found no memory
abbrev pub IsNext : DiskState → DiskState → Type 0
IsNext old new = (new ≡ after_one_read old) ⊎ (((call : DiskCall) × (new ≡ after_made old call (not (fails_call old call)))) ⊎ (new ≡ after_starved old))

-- the states after each of some calls in a row, of which the last is this one
abbrev pub IsRun : DiskState → List DiskState → DiskState → Type 0
IsRun old [] new = new ≡ old
IsRun old (s ∷ states) new = IsNext old s × IsRun s states new

-- the second is the first after some calls in a row
pub record Went (old new : DiskState) : Type 0 where
  pub states : List DiskState
  pub run : IsRun old states new

pub calls_advance_nowhere : (s : DiskState) → Went s s
calls_advance_nowhere s = record { states = []; run = refl }

run_on : (a b c : DiskState) (first second : List DiskState) → IsRun a first b → IsRun b second c → IsRun a (first ++ second) c
run_on a b c [] second same next = subst (λ s. IsRun s second c) same next
run_on a b c (s ∷ first) second one next = (one.0, run_on s b c first second one.1 next)

pub calls_advance_further : (a b c : DiskState) → Went a b → Went b c → Went a c
calls_advance_further a b c one next = record { states = one.states ++ next.states; run = run_on a b c one.states next.states one.run next.run }

-- ---- one disk, of which no read is to fail
-- no call found no memory, the count isn't at its greatest value, and of the writes, cuts and syncs this one is to fail (0: none)
pub record IsArmed (d : DiskState) (call : ℕ) : Type 0 where
  pub reads : d.calls.failing ≡ []
  pub fed : d.starved ≡ false
  pub few : d.faults < 2 ^ 64 - 1
  pub armed : d.until_fault ≡ call

-- the writes, cuts and syncs that it noted since
abbrev pub made_since : DiskState → DiskState → List DiskCall
made_since old new = map (λ l. l.call) (drop (length old.history.log) new.history.log)

-- one of them would end past 2^64 - 1
abbrev pub has_too_far : List DiskCall → Bool
has_too_far calls = list_any ends_too_far calls

-- these as they are noted: that one and those that would end too far failed, the others were done
abbrev pub noted : ℕ → List DiskCall → List LoggedCall
noted call [] = []
noted call (c ∷ cs) = record { call = c; done = not ((call == 1) || ends_too_far c) } ∷ noted (call - 1) cs

-- the count of faults after these
abbrev pub faults_after : ℕ → List LoggedCall → ℕ
faults_after faults [] = faults
faults_after faults (l ∷ log) = faults_after (if l.done then faults else raised faults) log

-- Where memory didn't run out: the calls that it noted, and what they have left.
pub record IsAfter (old new : DiskState) (calls : List DiskCall) : Type 0 where
  pub start : new.history.start ≡ old.history.start
  pub log : new.history.log ≡ old.history.log ++ noted old.until_fault calls
  pub until : new.until_fault ≡ old.until_fault - length calls
  pub faults : new.faults ≡ faults_after old.faults (noted old.until_fault calls)
  pub reads : new.calls.failing ≡ []

-- Its calls met no fault: the one that is to fail is still to come, and is nearer by so many.
pub record IsSpared (old new : DiskState) : Type 0 where
  pub ahead : (old.until_fault ≡ 0) ⊎ (length (made_since old new) < old.until_fault)
  pub in_reach : has_too_far (made_since old new) ≡ false
  pub left : IsArmed new (old.until_fault - length (made_since old new))
  pub after : IsAfter old new (made_since old new)

-- why they met one: memory ran out, a write would have ended too far, or the call that was to fail was made
abbrev pub MeetsFault : DiskState → DiskState → Type 0
MeetsFault old new = (new.starved ≡ true) ⊎ ((has_too_far (made_since old new) ≡ true) ⊎ ((1 ≤ old.until_fault) × (old.until_fault ≤ length (made_since old new))))
