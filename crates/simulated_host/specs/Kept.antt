-- Hosts that are kept: the disks of each stand for its book.
use Rattle.std.specs.Prelude.{◌∷◌, List, []}
use Rattle.host_journal.specs.Pair.{pair_of}
use Rattle.host_keep.specs.Standing.{StandsNow}
use Rattle.machine_keep.specs.Kept.{StandsFor}
use Rattle.simulated_machine.specs.Held.{Held}
use Rattle.ps_disks.specs.History.{bytes_now}
use Rattle.ps_disks.specs.MemoryDisk.{DiskState}
use Rattle.world_law.specs.World.{Stage}
use Rattle.simulated_host.specs.Staged.{standing_of}

-- two disks stand for the book of a host in this stage
abbrev pub IsKeptOn : Stage → DiskState → DiskState → Type 0
IsKeptOn s first second = StandsFor StandsNow (standing_of s) (pair_of (bytes_now first.history) (bytes_now second.history))

-- so do those of each host, in order, as they read
abbrev pub AreKeptOn : List (Held Stage) → List (DiskState × DiskState) → Type 0
AreKeptOn [] [] = Unit {0}
AreKeptOn (h ∷ hs) (d ∷ ds) = IsKeptOn h.state d.0 d.1 × AreKeptOn hs ds
AreKeptOn _ _ = ⊥
