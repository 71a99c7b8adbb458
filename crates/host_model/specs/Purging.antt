-- Which rows are long past, and go.
use Rattle.std.specs.Prelude.{Option, ℕ}
use Rattle.run_states.specs.declared.row.RunRow.{RunRow}
use Rattle.run_states.specs.Purging.{is_purgeable}
use Rattle.host_model.specs.Book.{Book}
use Rattle.host_model.specs.Walk.{change_if}
use Rattle.host_model.specs.declared.change.Change.{Change}
use Rattle.host_model.specs.declared.change.Change.TheVariants.{Purged}
use Rattle.host_model.specs.declared.config.Config.{Config}

-- a row that is purgeable goes
abbrev pub purge_run : Config → ℕ → Book → RunRow → Option Change
purge_run c m b r = change_if (is_purgeable c.number m b.rows r) (Purged r.key)
