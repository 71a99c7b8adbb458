-- The results of runs.
use Rattle.std.specs.Prelude.{ℕ, ◌+◌, ◌*◌, ◌/◌, ◌≤◌, Bool, true, false, List, map, codes}
use Rattle.std.specs.List.{range_with_len}
use Rattle.serde_json.specs.Data.{Data, unsigned, boolean, number, string, array, object, Members, no_members, member}
use Rattle.serde_json.specs.View.{items_of}
use Rattle.ps_time.specs.Moment.{moment_text_of}
use Rattle.ps_time.specs.Numbers.{greatest_moment}
use Rattle.plugin_tool.specs.declared.run.ToolView.{ToolView}
use Rattle.plugin_tool.specs.declared.run.Role.{Role}
use Rattle.plugin_tool.specs.declared.run.Role.TheVariants.{Dest}
use Rattle.plugin_tool.specs.declared.run.Outcome.{Outcome}
use Rattle.plugin_tool.specs.declared.run.Outcome.TheVariants.{Good, TimedOut, NotTaken, Restarted}
use Rattle.plugin_core.specs.declared.test_spec.TestSpec.{TestSpec}
use Rattle.plugin_core.specs.declared.test_spec.TestSpec.TheVariants.{Idle, Idleex, Idlebgm, Idlemany, Simplestream}
use Rattle.plugin_core.specs.WriteTest.{length_data}

-- the members that each result ends with
abbrev pub ending : Bool → Members
ending good = member (codes "schema") (number (unsigned 1)) (member (codes "succeeded") (boolean good) no_members)

-- `{"error":E,"schema":1,"succeeded":false}`
abbrev pub failed : List ℕ → Data
failed error = object (member (codes "error") (string error) (ending false))

-- `{"duration":TEXT,"schema":1,"succeeded":true}`
abbrev pub slept : ℕ → Data
slept duration = object (member (codes "duration") (length_data duration) (ending true))

-- `{"at":MOMENT}`
abbrev pub tick : ℕ → Data
tick at = object (member (codes "at") (string (moment_text_of at)) no_members)

-- one tick for each interval that has passed, from the first on
abbrev pub ticks : ℕ → ℕ → ℕ → List Data
ticks started interval count = map (λ i. tick (started + i * interval)) (range_with_len 1 count)

-- `{"duration":TEXT,"results":TICKS,"schema":1,"succeeded":true}`
abbrev pub ticked : ℕ → ℕ → ℕ → Data
ticked started duration interval =
    object (member (codes "duration") (length_data duration) (
    member (codes "results") (array (items_of (ticks started interval (duration / interval)))) (ending true)))

-- `{"schema":1,"sent":MATERIAL,"succeeded":true}` or `{"received":MATERIAL,"schema":1,"succeeded":true}`
abbrev pub streamed : List ℕ → Role → Data
streamed material Dest = object (member (codes "received") (string material) (ending true))
streamed material _ =
    object (member (codes "schema") (number (unsigned 1)) (
    member (codes "sent") (string material) (
    member (codes "succeeded") (boolean true) no_members)))

abbrev pub good_result : TestSpec → ToolView → Data
good_result (Idle sleep) view = slept sleep.duration
good_result (Idleex sleep) view = slept sleep.duration
good_result (Idlebgm sleep interval) view = ticked view.started sleep.duration interval
good_result (Idlemany sleep hosts) view = slept sleep.duration
good_result (Simplestream dest material dawdle timeout) view = streamed material view.role

abbrev pub result_data : TestSpec → ToolView → Outcome → Data
result_data test view Good = good_result test view
result_data test view TimedOut = failed (codes "timed out")
result_data test view NotTaken = failed (codes "not taken")
result_data test view Restarted = failed (codes "host restarted")

-- every tick is a moment
abbrev pub TicksFit : TestSpec → ToolView → Outcome → Type 0
TicksFit (Idlebgm sleep interval) view Good = view.started + sleep.duration ≤ greatest_moment
TicksFit _ view outcome = Unit {0}
