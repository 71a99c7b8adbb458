use Rattle.std.specs.List.{range_with_len}
use Rattle.std.proofs.Common.{◌≡◌, length, map, subst}
use Rattle.host_turns.proofs.RowLemmas.{may_plan}
use Rattle.host_turns.proofs.wishes.plan_at.Goals as goal

pub find_task-requires : goal.find_task-requires
find_task-requires c = subst (λ tasks. map (λ t. t.serial) tasks ≡ range_with_len 1 (length tasks)) c.requires.book.tasks c.requires.book.lawful.serials

pub plan_run-requires : goal.plan_run-requires
plan_run-requires c = may_plan c.args.config.now.number c.args.draft.now.draft.book c.requires.book.lawful c.args.key
