-- What the lead makes of a run once every other participant has told when it is free. The entry is `plan_run`, the last one
-- here. Its steps, in their order:
-- 1. `is_answered`: only a row all of whose answers are heard is planned;
-- 2. `own_answer` and `wanted_tools`: the lead's own answer, and the tools that the task names;
-- 3. `plan`: the tool that all have (`planned_with`), and then the start (`common_start`, `planned_at`);
-- 4. `change_of_plan`: without a tool or a start the row is closed; with both it is accepted, unless `objection`, of
--    `Fits`, speaks against it (`unless_objected`).
use Rattle.std.specs.List.{list_all}
use Rattle.std.specs.Prelude.{◌&&◌, ◌+◌, ◌∷◌, Bool, List, None, Option, Some, [], filter_map, if◌then◌else◌, is_some, map, max, not, ℕ}
use Rattle.ps_time.specs.Span.{Range}
use Rattle.ps_time.specs.Numbers.{plan_lead}
use Rattle.plugin_tool.specs.Choice.{chosen}
use Rattle.plugin_tool.specs.Tool.{tool_text}
use Rattle.plugin_tool.specs.declared.tool.Tool.{Tool}
use Rattle.run_states.specs.declared.answer.FreeAnswer.{FreeAnswer}
use Rattle.run_states.specs.declared.proposal.Proposal.{Proposal}
use Rattle.run_states.specs.declared.row.RunRow.{RunRow}
use Rattle.run_states.specs.declared.why.Cause.TheVariants.{NoTool as no_tool, NoSlot as no_slot, Denied}
use Rattle.run_states.specs.declared.why.Denial.{Denial}
use Rattle.run_states.specs.declared.why.Why.TheVariants.{Nonstart}
use Rattle.slot_search.specs.CommonStart.{earliest}
use Rattle.slot_search.specs.declared.search.Choice.{Choice}
use Rattle.host_model.specs.Book.{Book, find_task, latest_epoch, limits_in}
use Rattle.host_model.specs.Fits.{objection}
use Rattle.host_model.specs.FreeStarts.{free_answer}
use Rattle.host_model.specs.declared.change.Change.{Change}
use Rattle.host_model.specs.declared.change.Change.TheVariants.{Planned as planned_change, Closed}
use Rattle.host_model.specs.declared.config.Config.{Config}
use Rattle.host_model.specs.declared.lead.Planned.{Planned}
use Rattle.host_model.specs.declared.lead.Planned.TheVariants.{At, NoTool, NoSlot}
use Rattle.host_model.specs.declared.task_row.TaskRow.{TaskRow}

-- it is asked, neither accepted nor closed, and every answer is heard
abbrev pub is_answered : RunRow → Bool
is_answered r = is_some r.asked && (not (is_some r.accepted) && (not (is_some r.closed) && list_all (λ o. is_some o.free) r.others))

-- the answers of the other participants
abbrev pub answers_of : RunRow → List FreeAnswer
answers_of r = filter_map (λ o. o.free) r.others

-- the starts of a window from 5 s after m on; none where that is past its last
abbrev pub startable_window : ℕ → Range → Range
startable_window m w = record { first = max w.first (m + plan_lead); last = w.last }

-- the least start that all have in common
abbrev pub common_start : ℕ → Option Range → List FreeAnswer → Option Choice
common_start m None answers = None
common_start m (Some w) answers = earliest (startable_window m w) (map (λ a. a.tiers) answers)

-- with the start that was found, if there is one
abbrev pub planned_at : Option Choice → Tool → Planned
planned_at None tool = NoSlot
planned_at (Some choice) tool = At choice.start (tool_text tool)

-- with the tool that was found, if there is one
abbrev pub planned_with : ℕ → Option Range → List FreeAnswer → Option Tool → Planned
planned_with m question answers None = NoTool
planned_with m question answers (Some tool) = planned_at (common_start m question answers) tool

-- the tool that all have, and then the start: of these wanted tools, for this row, with the lead's own answer
abbrev pub plan : ℕ → List (List ℕ) → RunRow → FreeAnswer → Planned
plan m wanted r own =
    let answers = own ∷ answers_of r in planned_with m r.question answers (chosen (map (λ a. a.tools) answers) wanted)

-- ---- what comes of it
abbrev pub planned_proposal : RunRow → ℕ → List ℕ → Proposal
planned_proposal r start tool = record { key = r.key; test = r.test; tool = tool; start = start; priority = r.priority; asker = r.asker }

-- the lead accepts it, unless it objects itself
abbrev pub unless_objected : Config → Book → Proposal → Option Denial → Change
unless_objected c b p None = planned_change p.key p.start p.tool (latest_epoch b)
unless_objected c b p (Some denial) = Closed p.key (Nonstart (Denied c.name denial))

-- the change for what was planned
abbrev pub change_of_plan : Config → Book → ℕ → RunRow → Planned → Change
change_of_plan c b m r (At start tool) = let p = planned_proposal r start tool in unless_objected c b p (objection c.installed (limits_in c b) b.rows m p)
change_of_plan c b m r NoTool = Closed r.key (Nonstart no_tool)
change_of_plan c b m r NoSlot = Closed r.key (Nonstart no_slot)

-- the lead's own answer, now
abbrev pub own_answer : Config → Book → ℕ → RunRow → Range → FreeAnswer
own_answer c b m r w = free_answer c.installed b.rows m (record { key = r.key; test = r.test; priority = r.priority; window = w })

-- the tools that the task names
abbrev pub wanted_tools : Option TaskRow → List (List ℕ)
wanted_tools None = []
wanted_tools (Some t) = t.task.tools

-- by the question, which every asked row has: without one there would be no slot
abbrev pub plan_asked : Config → Book → ℕ → RunRow → Option Range → Change
plan_asked c b m r None = Closed r.key (Nonstart no_slot)
plan_asked c b m r (Some w) = change_of_plan c b m r (plan m (wanted_tools (find_task b.tasks r.key.task)) r (own_answer c b m r w))

-- an asked row with all answers is planned or closed
abbrev pub plan_run : Config → ℕ → Book → RunRow → Option Change
plan_run c m b r = if is_answered r then Some (plan_asked c b m r r.question) else None
