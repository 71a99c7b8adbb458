-- What a step makes of what is held.
use Rattle.std.specs.Prelude.{◌≡◌, ℕ, ◌+◌, ◌-◌, ◌==◌, ◌<◌, ◌≤◌, nat_lt, Bool, true, false, not, if◌then◌else◌, List, length, take, Option, None, Some, IfSome, option_map}
use Rattle.machine_keep.specs.Course.{IsSnapshotOf}
use Rattle.machine_keep.specs.Kept.{after_step}
use Rattle.simulated_machine.specs.Held.{Held, Unsynced, Place, calls_of, fault_at, is_many_at, on_first, on_second, place_after, schedule, syncs, with_record, with_snapshot}

-- a snapshot of the state, where with its record the records are many
abbrev pub HasSnapshot : {S : Type 0} → (List (List ℕ) → S → Type 0) → S → Place → Option (List ℕ) → Option (List ℕ) → Type 0
HasSnapshot stands s p None snapshot = snapshot ≡ None
HasSnapshot stands s p (Some payload) None = is_many_at p (length payload) ≡ false
HasSnapshot stands s p (Some payload) (Some image) = (is_many_at p (length payload) ≡ true) × IsSnapshotOf stands s p.generation image

-- the first call that is to fail comes behind so many
abbrev pub IsBeyond : ℕ → Option ℕ → Type 0
IsBeyond made None = Unit {0}
IsBeyond made (Some n) = made < n

-- ---- what is unsynced behind a fault
-- a sync that failed, the first or the second: behind that of the first disk nothing of it is unsynced
abbrev pub unsynced_still : {S : Type 0} → ℕ → Option (Unsynced S) → Option (Unsynced S)
unsynced_still number None = None
unsynced_still number (Some unsynced) = if nat_lt 1 number then (if unsynced.second then Some unsynced else None) else Some unsynced

-- the call of this number of a record of so many bytes, or, from the fifth on, of a snapshot
abbrev pub state_broken : {S : Type 0} → ℕ → S → S → S
state_broken number before later = if nat_lt 3 number then later else before

abbrev pub place_broken : ℕ → Place → ℕ → ℕ → Place
place_broken number p record_bytes snapshot_bytes = if nat_lt 10 number then with_snapshot p snapshot_bytes else (if nat_lt 3 number then with_record p record_bytes else p)

-- the fourth makes sure of the record's gate byte, and the eleventh of the snapshot's
abbrev pub unsynced_broken : {S : Type 0} → ℕ → Place → S → S → ℕ → Option (Unsynced S)
unsynced_broken number p before later record_bytes =
    if number == 4 then Some (record { second = p.second; state = before; place = p })
    else (if number == 11 then Some (record { second = not p.second; state = later; place = with_record p record_bytes }) else None)

-- the disk of what is unsynced then
abbrev pub unsynced_disk_still : ℕ → Option Bool → Option Bool
unsynced_disk_still number None = None
unsynced_disk_still number (Some second) = if nat_lt 1 number then (if second then Some true else None) else Some second

-- by how many calls of the second disk were among so many of a record and a snapshot
abbrev pub unsynced_disk_broken : ℕ → ℕ → Option Bool
unsynced_disk_broken number on_second = if number == 4 then Some (on_second == 4) else (if number == 11 then Some (on_second == 7) else None)

-- how many bytes a snapshot has
abbrev pub bytes_in : Option (List ℕ) → ℕ
bytes_in None = 0
bytes_in (Some image) = length image

module _ {S : Type 0} where
  -- A sync with which a step after a fault begins failed: the step isn't begun.
  pub record SyncFailed (old new : Held S) : Type 0 where
    pub unready : old.ready ≡ false
    pub number : ℕ
    pub least : 1 ≤ number
    pub most : number ≤ 2
    pub place : fault_at old ≡ Some number
    pub became : new ≡ record { state = old.state; place = old.place; ready = false; unsynced = unsynced_still number old.unsynced; first = 0; second = 0 }

module _ {S C R T : Type 0} (stands : List (List ℕ) → S → Type 0) (bytes : T → List ℕ) (answers : S → C → R → Option T → Type 0) (follows : S → T → Type 0) (after : S → T → S) where
  -- A step that was answered.
  pub record Done (old new : Held S) (call : C) (reply : R) : Type 0 where
    pub step : Option T
    pub answered : answers old.state call reply step
    pub may : IfSome step (λ t. follows old.state t)
    pub snapshot : Option (List ℕ)
    pub due : HasSnapshot stands (after_step after old.state step) old.place (option_map bytes step) snapshot
    pub clear : IsBeyond (calls_of old.ready step snapshot) (fault_at old)
    pub became : new ≡ record {
      state = after_step after old.state step;
      place = place_after old.place (option_map (λ t. length (bytes t)) step) (option_map length snapshot);
      ready = true;
      unsynced = None;
      first = old.first - on_first (take (calls_of old.ready step snapshot) (schedule old));
      second = old.second - on_second (take (calls_of old.ready step snapshot) (schedule old));
    }

  -- One that met a fault behind the syncs, at this of its calls. What was armed is armed no more.
  pub record Broken (old new : Held S) (call : C) : Type 0 where
    pub reply : R
    pub step : T
    pub answered : answers old.state call reply (Some step)
    pub may : follows old.state step
    pub short : length (bytes step) ≤ 8_388_608
    pub number : ℕ
    pub least : 1 ≤ number
    pub most : number ≤ 11
    pub place : fault_at old ≡ Some (length (syncs old.ready) + number)
    pub snapshot : Option (List ℕ)
    -- behind the record it is the snapshot that is due
    pub due : 4 < number → (is_many_at old.place (length (bytes step)) ≡ true) × ((image : List ℕ) × (snapshot ≡ Some image) × IsSnapshotOf stands (after old.state step) old.place.generation image)
    pub became : new ≡ record {
      state = state_broken number old.state (after old.state step);
      place = place_broken number old.place (length (bytes step)) (bytes_in snapshot);
      ready = false;
      unsynced = unsynced_broken number old.place old.state (after old.state step) (length (bytes step));
      first = 0;
      second = 0;
    }
