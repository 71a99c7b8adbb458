-- An append or a snapshot that a crash stops, over disks in memory.
use Rattle.std.specs.Prelude.{ℕ, Bool, true, false, ◌&&◌, ◌||◌, nat_lt}
use Rattle.ps_disks.specs.Disk.{AreBounded, Only}
use Rattle.ps_disks.specs.History.{IsImage, bytes_now}
use Rattle.ps_disks.specs.MemoryDisk.{DiskState}
use Rattle.ps_disks.specs.Run.{IsArmed}
use Rattle.ps_disks.specs.declared.image.Image.{Image}
use Rattle.ps_disks.specs.declared.image.Image.TheVariants.{Old, New, Torn}

-- a disk that was crashed: no call of it is to fail, and a crash then leaves what it reads
pub record IsCrashed (d : DiskState) : Type 0 where
  pub no_fault : IsArmed d 0
  pub only : Only (bytes_now d.history) (IsImage d.history)
  pub size : AreBounded (IsImage d.history)

-- the image that keeps all calls since the last sync
abbrev pub is_new : Image → Bool
is_new Old = false
is_new New = true
is_new Torn = false

-- An append that stops at this of its calls leaves its gate byte open in this image: the third writes the gate byte, and the fourth makes sure of it.
abbrev pub opens_gate : ℕ → Image → Bool
opens_gate stop image = nat_lt 2 stop && is_new image

-- A snapshot that stops at this of its calls leaves its head gate byte open in this image: the sixth opens that, and the seventh makes sure of it.
abbrev pub opens_head : ℕ → Image → Bool
opens_head stop image = (nat_lt 5 stop && is_new image) || nat_lt 7 stop
