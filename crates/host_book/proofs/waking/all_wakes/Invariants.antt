use Rattle.std.proofs.Common.{◌≡◌, ◌++◌, drop, map}
use Rattle.live_law.specs.Waking.{wake_in}
use Rattle.host_book.proofs.waking.all_wakes.Given as goal

-- what is left decides
abbrev pub invariant-loop-task : goal.invariant-loop-task
invariant-loop-task l = l.wakes.items ++ map (wake_in l.book.number l.book.book.rows) (drop l.task-index l.tasks) ≡ map (wake_in l.book.number l.book.book.rows) l.tasks
