use Rattle.rehearsal_report.proofs.shown.ShownRunDisplay.fmt.Goals as goal

-- the UUID is that of the run
pub returns-clause-writes : goal.returns-clause-writes
returns-clause-writes g c = rw (c.from_u128-uuid.ensures, c.key_uuid.ensures.value) at c.write.ensures.writes
