-- What was read from a snapshot keeps what the test of a book asks.
use Rattle.std.proofs.Common.{ℕ, List, [], ◌∷◌, All, length, arith, subst, sym, ap}
use Rattle.std.proofs.lemmas.List.Elements.{All-nil, All-weaker}
use Rattle.run_states.specs.declared.row.RunRow.{RunRow}
use Rattle.host_model.specs.Book.{Book}
use Rattle.host_model.specs.declared.task_row.TaskRow.{TaskRow}
use Rattle.row_check.specs.HasTests.{HasTests}
use Rattle.book_check.specs.Known.{IsReadTask}
use Rattle.value_bytes.specs.Codec.{list}
use Rattle.value_bytes.specs.Rows.{row}
use Rattle.value_bytes.specs.Tasks.{task_row}
use Rattle.host_codec.specs.Books.{book}
use Rattle.host_codec.specs.FirstFormat.{IsFirstSnapshot}
use Rattle.replay_check.specs.ReadBook.{IsReadBook}

module _ (row_tests : (r : RunRow) → row.Fits r → HasTests r) (task_tests : (t : TaskRow) → task_row.Fits t → IsReadTask t) where
  tasks_read : (tasks : List TaskRow) → (list task_row).Fits tasks → All IsReadTask tasks
  tasks_read tasks fits = All-weaker task_row.Fits IsReadTask task_tests tasks fits.1

  rows_read : (rows : List RunRow) → (list row).Fits rows → All HasTests rows
  rows_read rows fits = All-weaker row.Fits HasTests row_tests rows fits.1

  pub second_read : (b : Book) → book.Fits b → IsReadBook b
  second_read b fits = record { epochs = fits.1.0.1.0.0; tasks = tasks_read b.tasks fits.1.1.0; rows = rows_read b.rows fits.1.1.1 }

  pub first_read : (bytes : List ℕ) (b : Book) → IsFirstSnapshot bytes b → IsReadBook b
  first_read [] b is = subst IsReadBook (sym is) (record { epochs = omega arith; tasks = All-nil IsReadTask; rows = All-nil HasTests })
  first_read (x ∷ bytes) b is = record {
    epochs = omega (arith, ap length is.0.epochs);
    tasks = tasks_read b.tasks is.0.parts.1.0;
    rows = rows_read b.rows is.0.parts.1.1;
  }
