-- What is known of the parts of a book that was read from bytes: its tasks and the tests of its rows keep their bounds.

use Rattle.task_spec.specs.Bounds.{IsTask}
use Rattle.host_model.specs.declared.task_row.TaskRow.{TaskRow}

abbrev pub IsReadTask : TaskRow → Type 0
IsReadTask t = IsTask t.asker.server t.task
