-- A kept host as passes see it behind a gate: what may be asked of it, and how it grows.
use Rattle.std.specs.Prelude.{◌≡◌, ◌≤◌, ℕ, Bool, List}
use Rattle.ps_time.specs.Numbers.{greatest_moment}
use Rattle.host_journal.specs.State.{first_disk, has_record, second_disk, stored, with_room}
use Rattle.machine_keep.specs.Kept.{Kept, caught}
use Rattle.host_model.specs.Grown.{Grown}
use Rattle.host_model.specs.Lawful.{Lawful}
use Rattle.host_keep.specs.Standing.{IsAsked, Seen, Standing, after}
use Rattle.host_keep.specs.declared.call.HostStep.{HostStep}
use Rattle.shared_host.specs.declared.call.KeepCall.{KeepCall}
use Rattle.shared_host.specs.declared.call.KeepCall.TheVariants.{Apply, Orders, Due, Attempt}

-- the host, its journal but for the room that was made in it, the step that is unsure after a fault, and how many snapshots were put off
abbrev pub Gated : Type 0 → Type 0
Gated D = Kept Standing D HostStep

-- what is seen of a keep
abbrev pub seen_of : {D : Type 0} → Kept Seen D HostStep → Gated D
seen_of k = record { machine = k.machine.standing; journal = with_room k.journal 0; unsure = k.unsure; put_off = k.put_off }

-- the call may be made
abbrev pub MayAsk : {D : Type 0} → Gated D → KeepCall → Type 0
MayAsk x (Apply call) = IsAsked x.machine.config call
MayAsk x (Orders clock) = clock ≤ greatest_moment
MayAsk x (Due clock) = Unit {0}
MayAsk x (Attempt key index) = Unit {0}

-- The second has grown from the first: its book has, and the disks have met no fewer faults.
pub record IsLater {D : Type 0} (faults : D → ℕ) (x y : Gated D) : Type 0 where
  pub config : y.machine.config ≡ x.machine.config
  pub book : Grown x.machine.book y.machine.book
  pub first : faults (first_disk x.journal) ≤ faults (first_disk y.journal)
  pub second : faults (second_disk x.journal) ≤ faults (second_disk y.journal)

-- ---- after a fault
-- whether the disks have the record of the step that is unsure
abbrev pub stands_there : {D : Type 0} → (D → List ℕ) → Gated D → Bool
stands_there seen x = has_record x.journal.pending (stored seen x.journal)

-- the host from which a call is answered, once it is known whether they have
abbrev pub found : {D : Type 0} → Gated D → Bool → Standing
found x stood = caught after x.machine x.unsure stood

-- a step that may be found to stand: the book grows by it, and stays lawful
pub record MayStand (s : Standing) (step : HostStep) : Type 0 where
  pub grown : Grown s.book (after s step).book
  pub lawful : Lawful s.config.number (after s step).book
