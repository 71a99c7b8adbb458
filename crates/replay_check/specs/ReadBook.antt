-- What is known of a book that was read from bytes.
use Rattle.std.specs.Prelude.{◌<◌, ◌^◌, All, length}
use Rattle.host_model.specs.Book.{Book}
use Rattle.row_check.specs.HasTests.{HasTests}
use Rattle.book_check.specs.Known.{IsReadTask}

-- its epochs are counted in 32 bits, and its tasks and the tests of its rows keep their bounds
pub record IsReadBook (b : Book) : Type 0 where
  pub epochs : length b.epochs < 2 ^ 32
  pub tasks : All IsReadTask b.tasks
  pub rows : All HasTests b.rows
