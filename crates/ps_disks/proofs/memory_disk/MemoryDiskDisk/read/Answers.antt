use Rattle.std.proofs.Common.{◌∙◌, false, rules, sym, true}
use Rattle.ps_disks.proofs.RunLemmas.{calls_advance_read}
use Rattle.ps_disks.proofs.memory_disk.MemoryDiskDisk.read.Goals as goal

pub returns-then-next_fails-clause-calls_advance : goal.returns-then-next_fails-clause-calls_advance
returns-then-next_fails-clause-calls_advance c = calls_advance_read _ _ _ true c.self.view_is (sym c.if-next_fails.true ∙ c.next_fails.ensures.answer) (search rules)

pub returns-clause-calls_advance : goal.returns-clause-calls_advance
returns-clause-calls_advance c = calls_advance_read _ _ _ false c.self.view_is (sym c.if-next_fails.false ∙ c.next_fails.ensures.answer) (search rules)
