use Rattle.std.proofs.Common.{◌∙◌}
use Rattle.result_keeper.proofs.sqlite_keeper.SqliteKeeperKeeper.put.Goals as goal

pub returns-in-Ok-clause-ok : goal.returns-in-Ok-clause-ok
returns-in-Ok-clause-ok g c table keeps sound = c.in-Ok.ensures.ok table c.args.key c.in_ok-id.ensures.range (c.as_str.ensures ∙ c.in_ok-id.ensures.text) c.in_ok-good.ensures keeps sound.0

pub returns-in-Ok-clause-runs : goal.returns-in-Ok-clause-runs
returns-in-Ok-clause-runs g c clean = rw (← c.in_ok-id.ensures.text, ← c.as_str.ensures, ← c.in_ok-good.ensures) (c.in-Ok._changed, c.in-Ok.ensures.runs clean)

pub returns-clause-refused : goal.returns-clause-refused
returns-clause-refused g c clean failed = rw (← c.in_ok-id.ensures.text, ← c.as_str.ensures, ← c.in_ok-good.ensures) (c.in-Err.error, c.in-Err.ensures.runs clean)
