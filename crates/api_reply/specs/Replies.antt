-- The status and the body of each reply.
use Rattle.std.specs.Prelude.{◌∷◌, List, None, Some, [], codes, false, map, true, ℕ}
use Rattle.serde_json.specs.Data.{Data, array, boolean, no_members, member, null, object, string}
use Rattle.serde_json.specs.View.{items_of}
use Rattle.serde_json.specs.Written.{compact_text}
use Rattle.ps_http.specs.declared.message.Response.{Response}
use Rattle.ps_json.specs.TreeText.{kept_tree}
use Rattle.ps_time.specs.Span.{Range}
use Rattle.plugin_core.specs.WriteTest.{names_data}
use Rattle.run_states.specs.Life.{closed_state}
use Rattle.run_states.specs.State.{state_text}
use Rattle.run_states.specs.declared.answer.FreeAnswer.{FreeAnswer}
use Rattle.run_states.specs.declared.state.State.{State}
use Rattle.host_model.specs.declared.config.Config.{Config}
use Rattle.host_model.specs.declared.reply.Reply.{Reply}
use Rattle.host_model.specs.declared.reply.Reply.TheVariants as reply
use Rattle.api_reply.specs.Denials.{denial_data, denial_status, full_data, limits_data}
use Rattle.api_reply.specs.Shown.{error, error_with, second_data}
use Rattle.api_reply.specs.Views.{task_link, view_data}

-- ---- bodies of replies alone
-- `{"accepted":M}`, and others of one moment
abbrev pub moment_told : List ℕ → ℕ → Data
moment_told name m = object (member name (second_data m) no_members)

-- `{"canceled":true}`, and others that say yes
abbrev pub yes_told : List ℕ → Data
yes_told name = object (member name (boolean true) no_members)

-- `{"result":R}`
abbrev pub result_told : List ℕ → Data
result_told text = object (member (codes "result") (kept_tree (Some text)) no_members)

-- `{"state":NAME}`
abbrev pub state_told : State → Data
state_told s = object (member (codes "state") (string (state_text s)) no_members)

-- `[A,B]`, the two ends
abbrev pub window_data : Range → Data
window_data w = array (items_of (second_data w.first ∷ second_data w.last ∷ []))

abbrev pub windows_data : List Range → Data
windows_data windows = array (items_of (map window_data windows))

-- `{"first-tier":[[A,B]],"second-tier":[[A,B]],"tools":[T]}`
abbrev pub free_told : FreeAnswer → Data
free_told answer =
    object (member (codes "first-tier") (windows_data answer.tiers.first) (
    member (codes "second-tier") (windows_data answer.tiers.second) (
    member (codes "tools") (names_data answer.tools) no_members)))

-- ---- each reply
abbrev pub reply_status : Reply → ℕ
reply_status (reply.UnknownHost name) = 400
reply_status (reply.NotAdmitted verdict) = 403
reply_status reply.NotPoster = 403
reply_status reply.NotLead = 403
reply_status reply.NotFound = 404
reply_status reply.Unknown = 404
reply_status (reply.Closed why) = 409
reply_status reply.NotRunning = 409
reply_status (reply.TasksFull count) = 507
reply_status (reply.Denied denial) = denial_status denial
reply_status _ = 200

-- null where no request of the interface is replied to in this way
abbrev pub reply_data : Config → Reply → Data
reply_data c (reply.Posted serial) = task_link c serial
reply_data c (reply.UnknownHost name) = error_with (codes "unknown host") (codes "name") name
reply_data c (reply.NotAdmitted verdict) = limits_data verdict
reply_data c (reply.TasksFull count) = full_data count (codes "tasks")
reply_data c reply.Canceled = yes_told (codes "canceled")
reply_data c reply.NotPoster = error (codes "not the poster")
reply_data c reply.NotFound = error (codes "not found")
reply_data c reply.NotLead = error (codes "not the lead")
reply_data c (reply.View view) = view_data c view
reply_data c (reply.Free answer) = free_told answer
reply_data c (reply.Accepted m) = moment_told (codes "accepted") m
reply_data c (reply.Denied denial) = denial_data c.name denial
reply_data c (reply.Confirmed m) = moment_told (codes "confirmed") m
reply_data c reply.Unknown = error (codes "not found")
reply_data c (reply.Closed why) = error_with (codes "closed") (codes "why") (state_text (closed_state why))
reply_data c reply.Dropped = yes_told (codes "dropped")
reply_data c reply.MaterialHeard = yes_told (codes "heard")
reply_data c reply.NotRunning = error (codes "not running")
reply_data c (reply.Result text) = result_told text
reply_data c (reply.State s) = state_told s
reply_data c _ = null

-- ---- responses
-- with this status and tree
abbrev pub answered : ℕ → Data → Response
answered status d = record { status = status; allow = None; close = false; body = compact_text d }

abbrev pub response_of : Config → Reply → Response
response_of c r = answered (reply_status r) (reply_data c r)
