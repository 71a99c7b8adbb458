-- What is said of a simulated machine's calls, by what the machine means.
use Rattle.std.specs.Prelude.{◌≡◌, ◌⊎◌, ◌+◌, ◌-◌, ◌^◌, ◌<◌, ◌≤◌, ◌∷◌, [], ℕ, List, Ok, Result, length, take}
use Rattle.ps_disks.specs.MemoryDisk.{DiskState}
use Rattle.ps_disks.specs.declared.image.Image.{Image}
use Rattle.host_journal.specs.declared.reading.Counted.{Counted}
use Rattle.host_journal.specs.declared.reading.DiskPlace.{DiskPlace}
use Rattle.machine_keep.specs.InMemory.{seen_pair}
use Rattle.machine_keep.specs.Kept.{Kept, StandsFor}
use Rattle.machine_keep.specs.declared.machine.Machine as Machine
use Rattle.simulated_machine.specs.AfterStep.{Broken, Done, SyncFailed}
use Rattle.simulated_machine.specs.Crashed.{StandsAt, Stops, place_unsynced, state_unsynced}
use Rattle.simulated_machine.specs.Held.{Held, place_at, schedule, syncs, with_snapshot}
use Rattle.simulated_machine.specs.IsHeld.{HasFaults, HasMade, IsHeld, SimulatedState, held}

module _ {M O C R T : Type 0} (machine : Machine.Ghosts M O C R T) where
  -- what is held of a simulated machine, and of a kept one
  abbrev pub held_by : SimulatedState M T → Held machine.State
  held_by s = held machine.state machine.after s

  abbrev pub KeepHolds : Kept M DiskState T → Held machine.State → Type 0
  KeepHolds keep h = IsHeld machine.state machine.stands_for machine.after keep h

  -- ---- of a step
  abbrev pub StepDone : Held machine.State → Held machine.State → C → R → Type 0
  StepDone old new call reply = Done machine.stands_for machine.record_of machine.answers machine.follows machine.after old new call reply

  abbrev pub StepBroken : Held machine.State → Held machine.State → C → Type 0
  StepBroken old new call = Broken machine.stands_for machine.record_of machine.answers machine.follows machine.after old new call

  -- it was answered, whatever was held
  abbrev pub HoldsDone : Kept M DiskState T → Kept M DiskState T → C → R → Type 0
  HoldsDone old new call reply =
      (h : Held machine.State) → KeepHolds old h → (held : Held machine.State) × KeepHolds new held × StepDone h held call reply

  -- it met a fault, and the disks noted the calls up to it
  abbrev pub HoldsFaulted : Kept M DiskState T → Kept M DiskState T → C → Type 0
  HoldsFaulted old new call =
      (h : Held machine.State) (n : ℕ) → KeepHolds old h → HasFaults old.journal n → n + 2 < 2 ^ 64 → h.place.snapshot + h.place.records ≤ 2 ^ 62
      → (held : Held machine.State) × KeepHolds new held × HasFaults new.journal (n + 1)
      × (((sync_failed : SyncFailed h held) × HasMade old.journal new.journal (take sync_failed.number (schedule h)))
      ⊎ ((broken : StepBroken h held call) × HasMade old.journal new.journal (take (length (syncs h.ready) + broken.number) (schedule h))))

  -- ---- of a crash
  -- a pair stands for what is left of a simulated machine before what is unsynced is made sure of
  abbrev pub StandsUnsynced : SimulatedState M T → ℕ → Image → Result Counted DiskPlace → Type 0
  StandsUnsynced s stop image pair =
      StandsAt machine.stands_for (state_unsynced (held_by s).state (held_by s).unsynced stop image)
      (place_unsynced (held_by s).place (held_by s).unsynced stop image) pair

  -- behind the syncs, of a step that stops at this of its calls, counted with them
  abbrev pub StopsBehindSyncs : SimulatedState M T → C → ℕ → Image → Result Counted DiskPlace → Type 0
  StopsBehindSyncs s call stop image pair = Stops machine.stands_for machine.record_of machine.answers machine.follows machine.after
      (held_by s) call (stop - length (syncs (held_by s).ready)) image pair

  -- ---- of an opening
  -- where the disks lie: as they did, or, where their list was in the earlier form, with a snapshot alone on the other disk
  abbrev pub LiesByForm : SimulatedState M T → DiskState → DiskState → Type 0
  LiesByForm s first second = (read : Counted) × (seen_pair first second ≡ Ok read)
      × ((StandsFor machine.stands_for (held_by s).state (seen_pair first second) × ((held_by s).place ≡ place_at read))
      ⊎ (StandsFor machine.stood_for (held_by s).state (seen_pair first second)
      × ((image : List ℕ) × machine.stands_for (image ∷ []) (held_by s).state × ((held_by s).place ≡ with_snapshot (place_at read) (length image)))))
