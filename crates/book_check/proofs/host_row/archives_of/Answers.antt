use Rattle.std.specs.Option.{option_copied}
use Rattle.std.proofs.Common.{◌∙◌, All, ap, subst, sym}
use Rattle.archive_retry.specs.Bounds.{IsPolicy}
use Rattle.task_spec.specs.declared.task.Archive.{Archive}
use Rattle.book_check.proofs.FoundTasks.{policies}
use Rattle.book_check.proofs.host_row.archives_of.Goals as goal

pub returns-in-Some-clause-policies : goal.returns-in-Some-clause-policies
returns-in-Some-clause-policies c = λ read. subst (All (λ (a : Archive). IsPolicy a.policy)) (sym c.as_slice.ensures) (policies c.args.tasks.now c.args.key.task c.in-Some.task.now read (sym c.find_task.ensures ∙ ap option_copied c.in-Some.is))
