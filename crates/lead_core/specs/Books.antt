-- Books of which a decision reads only a part.
use Rattle.std.specs.Prelude.{◌≡◌, List, ℕ}
use Rattle.limit_apply.specs.Limits.{LimitsConfig as Limits}
use Rattle.run_states.specs.declared.row.RunRow.{RunRow}
use Rattle.host_model.specs.Book.{Book, empty_book, latest_epoch, limits_in}
use Rattle.host_model.specs.declared.config.Config.{Config}

-- a book of these rows and no more: what reads nothing but rows is the same over it
abbrev pub book_of_rows : List RunRow → Book
book_of_rows rows = record empty_book { rows = rows }

-- the host's book has these rows, and these limits are in force there, as the epoch of this number; 0 where it has none
pub record IsBookOf (c : Config) (seen : List RunRow) (in_force : Limits) (latest : ℕ) (b : Book) : Type 0 where
  pub rows : b.rows ≡ seen
  pub limits : limits_in c b ≡ in_force
  pub epoch : latest_epoch b ≡ latest
