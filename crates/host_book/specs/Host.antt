-- A host's book with reserved places, and what it keeps of it beside.
use Rattle.std.specs.Prelude.{◌≡◌, List, ℕ, min}
use Rattle.host_timeline.specs.declared.booking.Booking.{Booking}
use Rattle.ps_time.specs.declared.key.RunKey.{RunKey}
use Rattle.run_states.specs.Effect.{noted_row}
use Rattle.run_states.specs.Rows.{change_row}
use Rattle.run_states.specs.declared.fact.Fact.{Fact}
use Rattle.run_states.specs.declared.row.RunRow.{RunRow}
use Rattle.part_core.specs.Reservations.{bookings_of}
use Rattle.host_model.specs.Book.{Book}
use Rattle.host_model.specs.Lawful.{Lawful}

-- a host's book, and for how many more changes there are places
pub record Host : Type 0 where
  -- of the host
  pub number : ℕ
  pub book : Book
  pub room : ℕ

-- the book with other rows
abbrev pub with_rows : List RunRow → Book → Book
with_rows rows b = record b { rows = rows }

-- the book, where the run of the key has the fact at the book's moment
abbrev pub noted : RunKey → Fact → Book → Book
noted k fact b = with_rows (change_row (noted_row fact b.moment) b.rows k) b

-- the least of five
abbrev pub least : ℕ → ℕ → ℕ → ℕ → ℕ → ℕ
least a b c d e = min a (min b (min c (min d e)))

-- a lawful book of the host with this number, and exactly what its booked rows reserve
pub record IsSound (number : ℕ) (b : Book) (bookings : List Booking) : Type 0 where
  pub lawful : Lawful number b
  pub index : bookings ≡ bookings_of b.rows
