-- How the active runs of a host end: by their tools, or by the host's restart.
use Rattle.std.specs.List.{list_any}
use Rattle.std.specs.Prelude.{◌||◌, Bool, List, None, Option, Some, false, if◌then◌else◌, is_some, option_map, true, unwrap_or, ℕ}
use Rattle.serde_json.specs.Written.{compact_text}
use Rattle.ps_time.specs.Span.{Span}
use Rattle.plugin_tool.specs.ResultText.{result_data}
use Rattle.plugin_tool.specs.Run.{role_in, outcome_at}
use Rattle.plugin_tool.specs.declared.run.Outcome.{Outcome as ToolOutcome}
use Rattle.plugin_tool.specs.declared.run.Outcome.TheVariants.{Good, Restarted}
use Rattle.plugin_tool.specs.declared.run.ToolView.{ToolView}
use Rattle.run_states.specs.Life.{is_active}
use Rattle.run_states.specs.declared.row.RunRow.{RunRow}
use Rattle.host_model.specs.Book.{Book}
use Rattle.host_model.specs.Heard.{name_at}
use Rattle.host_model.specs.Walk.{change_if}
use Rattle.host_model.specs.declared.change.Change.{Change}
use Rattle.host_model.specs.declared.change.Change.TheVariants.{Ended}
use Rattle.host_model.specs.declared.config.Config.{Config}

-- the lead is the first participant
abbrev pub lead_of : RunRow → List ℕ
lead_of r = name_at r 0

-- the end of an interval, which every run that was started has
abbrev pub end_of_span : Option Span → ℕ
end_of_span None = 0
end_of_span (Some s) = s.end

-- the material was heard here, or acknowledged by the participant to which it was sent
abbrev pub has_material : RunRow → Bool
has_material r = is_some r.material || list_any (λ o. o.material_told) r.others

-- what the tool sees of the run that was started at this moment
abbrev pub tool_view : Config → RunRow → ℕ → ToolView
tool_view c r started = record { started = started; end = end_of_span r.interval; role = role_in r.test (lead_of r) c.name; material = has_material r }

-- only a good outcome is a success
abbrev pub is_good_outcome : ToolOutcome → Bool
is_good_outcome Good = true
is_good_outcome _ = false

-- it ends so, with the tool's result
abbrev pub ended_with : RunRow → ToolView → ToolOutcome → Change
ended_with r view outcome = Ended r.key (is_good_outcome outcome) (compact_text (result_data r.test view outcome))

-- of a run that was started then
abbrev pub end_started : Config → ℕ → RunRow → Option ℕ → Option Change
end_started c m r None = None
end_started c m r (Some started) = let view = tool_view c r started in option_map (ended_with r view) (outcome_at r.test view m)

-- an active run whose tool is done at m ends
abbrev pub end_run : Config → ℕ → Book → RunRow → Option Change
end_run c m b r = if is_active r then end_started c m r r.started else None

-- an active run, which was started, ends without success where its host was opened anew
abbrev pub restart_run : Config → Book → RunRow → Option Change
restart_run c b r = change_if (is_active r) (ended_with r (tool_view c r (unwrap_or r.started 0)) Restarted)
