-- What is held of a kept host, as rehearsals see it.
use Rattle.std.specs.Prelude.{Result, option_map}
use Rattle.host_journal.specs.declared.reading.Counted.{Counted}
use Rattle.host_journal.specs.declared.reading.DiskPlace.{DiskPlace}
use Rattle.host_keep.specs.Standing.{Standing, StandsNow}
use Rattle.simulated_machine.specs.Crashed.{StandsAt}
use Rattle.simulated_machine.specs.Held.{Held, Unsynced}
use Rattle.world_law.specs.World.{Stage}
use Rattle.rehearsal_model.specs.Simulated.{Left}

abbrev pub stage_of : Standing → Stage
stage_of s = record { config = s.config; book = s.book }

abbrev pub standing_of : Stage → Standing
standing_of s = record { config = s.config; book = s.book }

abbrev pub staged_unsynced : Unsynced Standing → Unsynced Stage
staged_unsynced l = record { second = l.second; state = stage_of l.state; place = l.place }

abbrev pub staged : Held Standing → Held Stage
staged h = record { state = stage_of h.state; place = h.place; ready = h.ready; unsynced = option_map staged_unsynced h.unsynced; first = h.first; second = h.second }

-- two disks stand for this stage, at this place
abbrev pub IsLeft : Left → Result Counted DiskPlace → Type 0
IsLeft left pair = StandsAt StandsNow (standing_of left.state) left.place pair
