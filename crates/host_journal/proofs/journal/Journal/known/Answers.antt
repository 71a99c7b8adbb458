use Rattle.host_journal.proofs.OursLemmas.{ours}
use Rattle.host_journal.proofs.journal.Journal.known.Goals as goal

pub returns-clause-ours : goal.returns-clause-ours
returns-clause-ours g c p = rw (← c.self.view_is) (ours g.D.Disk.seen g.D.Disk.may_leave _ (c.self.invariant.2 p))

pub returns-clause-sound : goal.returns-clause-sound
returns-clause-sound g c p = rw (← c.self.view_is) (c.self.invariant.2 p)
