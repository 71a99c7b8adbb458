use Rattle.std.proofs.Common.{◌≡◌, map, take}
use Rattle.host_pages.proofs.page.serials_of.Given as goal

-- those so far
abbrev pub invariant-loop-task : goal.invariant-loop-task
invariant-loop-task l = l.serials ≡ map (λ t. t.serial) (take l.task-index l.tasks)
