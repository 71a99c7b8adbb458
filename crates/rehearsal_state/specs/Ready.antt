-- What a host is to be for a step to be made.
use Rattle.std.specs.Prelude.{◌<◌, ◌≤◌, length, ℕ}
use Rattle.ps_time.specs.Numbers.{greatest_moment}
use Rattle.host_model.specs.Conditions.{IsConfig}
use Rattle.host_model.specs.Lawful.{Lawful}
use Rattle.rehearsal_model.specs.Simulations.{Simulation, book_of, config_of}

-- the host at the place may take a step at the clock
pub record IsReady (b : Simulation) (place clock : ℕ) : Type 0 where
  pub there : place < length b.held_hosts
  pub config : IsConfig (config_of b place)
  pub book : Lawful (config_of b place).number (book_of b place)
  pub in_time : clock ≤ greatest_moment
