-- A step over disks in memory, and the fault of a disk that it meets.
use Rattle.std.specs.Prelude.{◌≡◌, ◌⊎◌, true, Result, Err}
use Rattle.ps_ports.specs.Causes.{Rose, counted}
use Rattle.ps_disks.specs.MemoryDisk.{DiskState}
use Rattle.ps_disks.specs.Run.{Went, has_too_far, made_since}
use Rattle.host_journal.specs.State.{State, WentOn, first_disk, second_disk}
use Rattle.machine_keep.specs.declared.fault.StepFault.{StepFault}
use Rattle.machine_keep.specs.declared.fault.StepFault.TheVariants.{Disk as disk_fault}

-- What `Keep::apply` says of both disks: they went on by calls in a row, and a fault of a disk is answered exactly where a count rose.
pub record IsStep {R : Type 0} (old new : State DiskState) (result : Result R StepFault) : Type 0 where
  pub calls_advance : WentOn Went old new
  pub cause : result ≡ Err disk_fault → Rose (counted (first_disk old).faults) (counted (first_disk new).faults) ⊎ Rose (counted (second_disk old).faults) (counted (second_disk new).faults)
  pub no_fault : (result ≡ Err disk_fault → ⊥) → (counted (first_disk new).faults ≡ counted (first_disk old).faults) × (counted (second_disk new).faults ≡ counted (second_disk old).faults)

-- there was no memory for a call, or a write would have ended past 2^64 - 1
abbrev pub Lacks : DiskState → DiskState → Type 0
Lacks old new = (new.starved ≡ true) ⊎ (has_too_far (made_since old new) ≡ true)
