-- The tree of each view.
use Rattle.std.specs.Prelude.{◌++◌, ◌==◌, ◌∷◌, List, None, Option, Some, [], codes, false, filter, if◌then◌else◌, map, option_map, ℕ}
use Rattle.serde_json.specs.Data.{Data, array, boolean, no_members, member, null, number, object, put, string}
use Rattle.serde_json.specs.Find.{of_integer}
use Rattle.serde_json.specs.View.{items_of}
use Rattle.ps_json.specs.TreeText.{kept_tree}
use Rattle.ps_time.specs.Class.{class_text}
use Rattle.ps_time.specs.declared.class.Class.{Class}
use Rattle.ps_time.specs.declared.key.RunKey.{RunKey}
use Rattle.plugin_core.specs.Kind.{kind_text, kinds_by_name}
use Rattle.plugin_core.specs.Participants.{is_named, participants}
use Rattle.plugin_core.specs.WriteTest.{names_data}
use Rattle.plugin_tool.specs.Choice.{tools_by_name}
use Rattle.plugin_tool.specs.Tool.{tool_text}
use Rattle.archive_retry.specs.declared.state.ArchiveState.{ArchiveState}
use Rattle.run_states.specs.ResultBytes.{own_result}
use Rattle.run_states.specs.State.{state_text}
use Rattle.run_states.specs.declared.row.RunRow.{RunRow}
use Rattle.run_states.specs.declared.state.State.{State}
use Rattle.task_spec.specs.ReadArchive.{archivers_by_name}
use Rattle.task_spec.specs.WriteTask.{count_data, members_in, task_data}
use Rattle.host_model.specs.declared.config.Config.{Config}
use Rattle.host_model.specs.declared.task_row.TaskRow.{TaskRow}
use Rattle.host_model.specs.declared.view.Line.{Line}
use Rattle.host_model.specs.declared.view.View.{View}
use Rattle.host_model.specs.declared.view.View.TheVariants as view
use Rattle.api_reply.specs.Shown.{moment_data, run_text, run_url, task_url}

-- ---- the host
-- `{"synchronized":false,"time":MOMENT}`
abbrev pub clock_data : ℕ → Data
clock_data m = object (member (codes "synchronized") (boolean false) (member (codes "time") (moment_data m) no_members))

-- the tools that the host has, ascending by name
abbrev pub tools_of : List (List ℕ) → List (List ℕ)
tools_of installed = filter (λ name. is_named name installed) (map tool_text tools_by_name)

-- `{"class":C,"name":N}`
abbrev pub test_data : List ℕ → Class → Data
test_data name class = object (member (codes "class") (string (class_text class)) (member (codes "name") (string name) no_members))

-- ---- tasks
abbrev pub task_link : Config → ℕ → Data
task_link c serial = string (task_url c.authority c.number serial)

abbrev pub task_state : Option ℕ → List ℕ
task_state None = codes "open"
task_state (Some closed) = codes "canceled"

-- `{"participants":[NAME],"requester":ADDRESS,"state":STATE}`
abbrev pub detail_data : TaskRow → Data
detail_data t =
    object (member (codes "participants") (names_data (participants t.task.test t.asker.server)) (
    member (codes "requester") (string t.asker.requester) (
    member (codes "state") (string (task_state t.closed)) no_members)))

-- what was posted, with `detail`, and with `tools` also where none is wanted
abbrev pub task_view : TaskRow → Data
task_view t = object (put (codes "tools") (names_data t.task.tools) (put (codes "detail") (detail_data t) (members_in (task_data t.task))))

-- ---- runs
abbrev pub run_link : Config → RunKey → Data
run_link c k = string (run_url c.authority k)

-- how far an archiver has come
abbrev pub archiving_state : ArchiveState → List ℕ
archiving_state s = if s.done then codes "succeeded" else unless_due s.next
  where
    unless_due : Option ℕ → List ℕ
    unless_due None = codes "given-up"
    unless_due (Some next) = codes "waiting"

-- `{"archiver":NAME,"state":STATE,"tried":N}`
abbrev pub archiving_data : List ℕ → ArchiveState → Data
archiving_data archiver s =
    object (member (codes "archiver") (string archiver) (
    member (codes "state") (string (archiving_state s)) (
    member (codes "tried") (count_data s.tried) no_members)))

abbrev pub archivings : List (List ℕ) → List ArchiveState → List Data
archivings (archiver ∷ archivers) (s ∷ states) = archiving_data archiver s ∷ archivings archivers states
archivings _ _ = []

abbrev pub some_moment : Option ℕ → Data
some_moment None = null
some_moment (Some m) = moment_data m

abbrev pub some_text : Option (List ℕ) → Data
some_text None = null
some_text (Some text) = string text

-- the merged result on the lead, and elsewhere the host's own
abbrev pub shown_result : ℕ → RunRow → Option (List ℕ)
shown_result self r = if r.key.lead == self then r.merged else own_result r

-- `{"archivings":[..],"end-time":MOMENT,"participants":[NAME],"priority":P,"result":R,"start-time":MOMENT,"state":STATE,"tool":T}`
abbrev pub run_view : ℕ → RunRow → List (List ℕ) → State → Data
run_view self r archivers s =
    object (member (codes "archivings") (array (items_of (archivings archivers r.archives))) (
    member (codes "end-time") (some_moment (option_map (λ i. i.end) r.interval)) (
    member (codes "participants") (names_data r.participants) (
    member (codes "priority") (number (of_integer r.priority)) (
    member (codes "result") (kept_tree (shown_result self r)) (
    member (codes "start-time") (some_moment (option_map (λ i. i.start) r.interval)) (
    member (codes "state") (string (state_text s)) (
    member (codes "tool") (some_text r.tool) no_members))))))))

-- ---- the schedule
-- `{"class":C,"end-time":MOMENT,"priority":P,"run":ID,"start-time":MOMENT,"state":STATE}`
abbrev pub line_data : Line → Data
line_data l =
    object (member (codes "class") (string (class_text l.class)) (
    member (codes "end-time") (moment_data l.interval.end) (
    member (codes "priority") (number (of_integer l.priority)) (
    member (codes "run") (string (run_text l.key)) (
    member (codes "start-time") (moment_data l.interval.start) (
    member (codes "state") (string (state_text l.state)) no_members))))))

-- ---- each view
abbrev pub view_data : Config → View → Data
view_data c view.Home = string (codes "pScheduler on " ++ c.name)
view_data c (view.Clock m) = clock_data m
view_data c view.Tests = names_data (map kind_text kinds_by_name)
view_data c view.Tools = names_data (tools_of c.installed)
view_data c view.Archivers = names_data archivers_by_name
view_data c (view.Test name class) = test_data name class
view_data c (view.Tasks serials) = array (items_of (map (task_link c) serials))
view_data c (view.Task t) = task_view t
view_data c (view.Runs keys) = array (items_of (map (run_link c) keys))
view_data c (view.Run r archivers s) = run_view c.number r archivers s
view_data c (view.Schedule lines) = array (items_of (map line_data lines))
