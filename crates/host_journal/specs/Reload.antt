-- What a `reload` finds.
use Rattle.std.specs.Prelude.{⊤, ◌≡◌, ◌==◌, ℕ, if◌then◌else◌, slice_index_or, List}
use Rattle.host_journal.specs.declared.pending.Pending.{Pending}
use Rattle.host_journal.specs.declared.pending.Pending.TheVariants.{Nothing, Unopened, Record, Snapshot}
use Rattle.host_journal.specs.declared.reload.Stood.{Stood}
use Rattle.host_journal.specs.declared.reload.Stood.TheVariants.{Nothing as no_gate, Record as the_record, Snapshot as the_snapshot}

-- the gate byte that a failed call was to open, where it is open: the last one of the disk that counts, or the other's head gate byte
abbrev pub stood_of : Pending → ℕ → List ℕ → List ℕ → Stood
stood_of Nothing end counting other = no_gate
stood_of Unopened end counting other = no_gate
stood_of (Record next) end counting other = if slice_index_or counting end 0 == 1 then the_record next else no_gate
stood_of (Snapshot start) end counting other = if slice_index_or other 8 0 == 1 then the_snapshot start else no_gate

-- what is found is what was pending
abbrev pub IsOf : Pending → Stood → Type 0
IsOf pending no_gate = ⊤
IsOf pending (the_record next) = pending ≡ Record next
IsOf pending (the_snapshot start) = pending ≡ Snapshot start
