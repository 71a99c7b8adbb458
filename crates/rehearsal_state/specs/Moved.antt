-- What is seen after a step or a move, at the same greatest moment.
use Rattle.std.specs.Prelude.{◌++◌, ◌+◌, ◌∷◌, [], List, None, Option, Some, filter, filter_map, length, set, ℕ}
use Rattle.host_model.specs.declared.config.Config.{Config}
use Rattle.host_model.specs.declared.input.Input.{Input}
use Rattle.host_model.specs.declared.order.Order.{Order}
use Rattle.world_law.specs.World.{Message as Sent}
use Rattle.rehearsal_script.specs.declared.script.Stop.{Stop}
use Rattle.rehearsal_model.specs.Moves.{is_untold, message_of, numbers_from}
use Rattle.rehearsal_model.specs.Simulations.{Simulation, count_sent, held_at, stop_for, stops_left}
use Rattle.rehearsal_model.specs.Simulated.{crashed_at, fault_in, stepped}
use Rattle.rehearsal_model.specs.Seen.{Seen, disarmed}

-- the host at the place takes a step
abbrev pub with_act : Simulation → ℕ → ℕ → Input → Simulation
with_act b place clock i = record b { held_hosts = set b.held_hosts place (stepped (held_at b place) clock i) }

-- the step of the host at the place stops, and the host is opened again
abbrev pub with_crash : Simulation → ℕ → ℕ → Input → Stop → Simulation
with_crash b place clock i stop = record b { held_hosts = set b.held_hosts place (crashed_at (held_at b place) clock i stop); stops = disarmed place b.stops }

-- a step, by the call that fails in it, and by the stop that it meets
abbrev pub with_either : Simulation → ℕ → ℕ → Input → Option ℕ → Option Stop → Simulation
with_either b place clock i failed None = record b { held_hosts = set b.held_hosts place (stepped (held_at b place) clock i); stops = stops_left failed place b.stops }
with_either b place clock i failed (Some stop) = with_crash b place clock i stop

abbrev pub with_step : Simulation → ℕ → ℕ → Input → Simulation
with_step b place clock i = with_either b place clock i (fault_in (held_at b place) clock i) (stop_for b place clock i)

-- messages are sent
abbrev pub with_messages : Simulation → List Sent → Simulation
with_messages b messages = record b { messages = b.messages ++ messages; flying = b.flying ++ numbers_from (length b.messages + 1) messages }

-- a fault took the place of an answer
abbrev pub with_broken : Simulation → Simulation
with_broken b = record b { broken = b.broken ++ (count_sent b + 1) ∷ []; unheard = b.unheard ++ (count_sent b + 1) ∷ [] }

-- what a host with this configuration sends of these orders
abbrev pub sent_of : Seen → Config → List Order → List Sent
sent_of b c os = filter_map (message_of c) (filter (is_untold b) os)
