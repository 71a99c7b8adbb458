-- Which runs end as their host opens.
use Rattle.std.specs.Prelude.{Option, option_and_then}
use Rattle.ps_time.specs.declared.key.RunKey.{RunKey}
use Rattle.run_states.specs.Rows.{find_row}
use Rattle.host_model.specs.Book.{Book}
use Rattle.host_model.specs.Ending.{restart_run}
use Rattle.host_model.specs.declared.change.Change.{Change}
use Rattle.host_model.specs.declared.config.Config.{Config}

-- how the run of a key ends, if it is active
abbrev pub restart_at : Config → Book → RunKey → Option Change
restart_at c b k = option_and_then (restart_run c b) (find_row b.rows k)
