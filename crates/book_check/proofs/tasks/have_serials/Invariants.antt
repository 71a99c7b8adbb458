use Rattle.std.specs.List.{range_with_len}
use Rattle.std.specs.Prelude.{◌↔◌}
use Rattle.std.proofs.Common.{◌≡◌, ◌+◌, drop, length, map}
use Rattle.book_check.proofs.tasks.have_serials.Given as goal

-- what is left decides
abbrev pub invariant-loop-task : goal.invariant-loop-task
invariant-loop-task l =
    (l.next ≡ l.task-index + 1)
    × ((map (λ t. t.serial) (drop l.task-index l.tasks) ≡ range_with_len l.next (length (drop l.task-index l.tasks))) ↔ (map (λ t. t.serial) l.tasks ≡ range_with_len 1 (length l.tasks)))
