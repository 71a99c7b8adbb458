use Rattle.task_spec.proofs.ArchiveLemmas.{every_archiver}
use Rattle.task_spec.proofs.archive.archivers.Goals as goal

pub returns-clause-every : goal.returns-clause-every
returns-clause-every c = every_archiver
