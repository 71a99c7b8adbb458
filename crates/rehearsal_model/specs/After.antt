-- What is seen after a move, over what was seen before it.
use Rattle.std.specs.Prelude.{◌++◌, Bool, false, List, [], None, Option, Some, map, max, set, true, ℕ}
use Rattle.machine_keep.specs.Crash.{keeps_step}
use Rattle.host_model.specs.Book.{empty_book}
use Rattle.host_model.specs.declared.input.Input.{Input}
use Rattle.host_model.specs.declared.input.Input.TheVariants as input
use Rattle.world_law.specs.Events.{brings}
use Rattle.world_law.specs.World.{Message, Stage}
use Rattle.rehearsal_script.specs.declared.script.ScriptHost.{ScriptHost}
use Rattle.rehearsal_script.specs.declared.script.Stop.{Stop}
use Rattle.rehearsal_model.specs.Hosts.{first_config}
use Rattle.rehearsal_model.specs.Moves.{Move, flying_after, joining, receiver, stops_after}
use Rattle.rehearsal_model.specs.Rehearsal.{retooled}
use Rattle.rehearsal_model.specs.Seen.{Seen, acted, book_at, config_at, message, stage_at}

-- a host after it was opened
abbrev pub opened_stage : List ScriptHost → ScriptHost → Stage
opened_stage hosts h = acted (record { config = first_config hosts h; book = empty_book }) 0 input.Open

abbrev pub first_seen : List ScriptHost → Seen
first_seen hosts = record { stages = map (opened_stage hosts) hosts; messages = []; flying = []; last = 0; stops = [] }

-- the stages after a step of the host at the place
abbrev pub stepped_at : Seen → ℕ → ℕ → Input → List Stage
stepped_at b place clock i = set b.stages place (acted (stage_at b place) clock i)

abbrev pub arrived_at : List ScriptHost → Seen → ℕ → Option Message → List Stage
arrived_at hosts b clock None = b.stages
arrived_at hosts b clock (Some l) = stepped_at b (receiver hosts l) clock (brings l l.reply)

-- a host whose step stopped: the step is kept, or it isn't
abbrev pub cut_stage : Bool → Stage → ℕ → Input → Stage
cut_stage true s clock i = acted s clock i
cut_stage false s clock i = s

-- and then it is opened again
abbrev pub crashed_stage : Stop → Stage → ℕ → Input → Stage
crashed_stage stop s clock i = acted (cut_stage (keeps_step stop.call stop.image) s clock i) clock input.Open

abbrev pub stages_after : List ScriptHost → Seen → Move → List Stage
stages_after hosts b Move.Rests = b.stages
stages_after hosts b (Move.Asks place clock i) = stepped_at b place clock i
stages_after hosts b (Move.Tries place clock i) = stepped_at b place clock i
stages_after hosts b (Move.Turns place clock) = stepped_at b place clock input.Turn
stages_after hosts b (Move.Retools place tools) = set b.stages place (record { config = retooled tools (config_at b place); book = book_at b place })
stages_after hosts b (Move.Reopens place clock) = stepped_at b place clock input.Open
stages_after hosts b (Move.Arrives n clock) = arrived_at hosts b clock (message b n)
stages_after hosts b (Move.Lost n) = b.stages
stages_after hosts b (Move.Arms place stop) = b.stages
stages_after hosts b (Move.Crashes c) = set b.stages c.place (crashed_stage c.stop (stage_at b c.place) c.clock c.asked)
stages_after hosts b (Move.Breaks c kept) = set b.stages c.place (cut_stage kept (stage_at b c.place) c.clock c.asked)

-- a move at a moment
abbrev pub moved_seen : List ScriptHost → Seen → ℕ → Move → Seen
moved_seen hosts b m move = record {
  stages = stages_after hosts b move;
  messages = b.messages ++ joining hosts b move;
  flying = flying_after hosts b move;
  last = max b.last m;
  stops = stops_after b move;
}
