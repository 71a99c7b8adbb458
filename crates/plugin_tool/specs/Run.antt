-- How a tool takes part in a run, when it is done, and how its run went then.
use Rattle.std.specs.Prelude.{ℕ, ◌+◌, nat_le, List, Option, Some, None, if◌then◌else◌}
use Rattle.std.specs.Str.{bytes_eq}
use Rattle.plugin_core.specs.declared.test_spec.TestSpec.{TestSpec}
use Rattle.plugin_core.specs.declared.test_spec.TestSpec.TheVariants.{Idle, Idleex, Idlebgm, Idlemany, Simplestream}
use Rattle.plugin_tool.specs.declared.run.ToolView.{ToolView}
use Rattle.plugin_tool.specs.declared.run.Role.{Role}
use Rattle.plugin_tool.specs.declared.run.Role.TheVariants.{Only, Source, Dest}
use Rattle.plugin_tool.specs.declared.run.Outcome.{Outcome}
use Rattle.plugin_tool.specs.declared.run.Outcome.TheVariants.{Good, TimedOut, NotTaken}

-- the part of a participant
abbrev pub role_in : TestSpec → List ℕ → List ℕ → Role
role_in (Simplestream dest material dawdle timeout) lead host =
    if bytes_eq dest lead then Only else if bytes_eq host lead then Source else Dest
role_in _ lead host = Only

-- good once the length has passed since the start
abbrev pub good_after : ℕ → ℕ → ℕ → Option Outcome
good_after started len m = if nat_le (started + len) m then Some Good else None

-- good once the material was acknowledged or heard, and otherwise something else at the end
abbrev pub material_or : ToolView → Outcome → ℕ → Option Outcome
material_or view otherwise m = if view.material then Some Good else if nat_le view.end m then Some otherwise else None

abbrev pub stream_at : ToolView → ℕ → ℕ → Option Outcome
stream_at view dawdle m = by_role view.role
  where
    by_role : Role → Option Outcome
    by_role Only = good_after view.started dawdle m
    by_role Source = material_or view NotTaken m
    by_role Dest = material_or view TimedOut m

-- the outcome at the moment m, if the tool is done then
abbrev pub outcome_at : TestSpec → ToolView → ℕ → Option Outcome
outcome_at (Idle sleep) view m = good_after view.started sleep.duration m
outcome_at (Idleex sleep) view m = good_after view.started sleep.duration m
outcome_at (Idlebgm sleep interval) view m = good_after view.started sleep.duration m
outcome_at (Idlemany sleep hosts) view m = good_after view.started sleep.duration m
outcome_at (Simplestream dest material dawdle timeout) view m = stream_at view dawdle m
