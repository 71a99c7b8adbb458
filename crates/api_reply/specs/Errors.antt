-- The status, the methods and the body of each refusal of a request.
use Rattle.std.specs.Prelude.{List, None, Option, Some, codes, false, ℕ}
use Rattle.serde_json.specs.Data.{Data}
use Rattle.serde_json.specs.Written.{compact_text}
use Rattle.ps_http.specs.declared.message.Response.{Response}
use Rattle.ps_json.specs.declared.fault.JsonFault.{JsonFault}
use Rattle.ps_json.specs.declared.fault.JsonFault.TheVariants as json
use Rattle.task_spec.specs.declared.fault.TaskFault.{TaskFault}
use Rattle.task_spec.specs.declared.fault.TaskFault.TheVariants as task
use Rattle.api_input.specs.Routes.{methods_text}
use Rattle.api_input.specs.declared.refusal.Refusal.{Refusal}
use Rattle.api_input.specs.declared.refusal.Refusal.TheVariants as refusal
use Rattle.api_reply.specs.Shown.{error, error_with}

-- ---- of bodies
abbrev pub json_error : JsonFault → Data
json_error json.Syntax = error (codes "syntax")
json_error json.TooDeep = error (codes "too deep")
json_error json.NotUtf8 = error (codes "not utf-8")
json_error (json.Missing name) = error_with (codes "missing") (codes "member") name
json_error (json.WrongKind name) = error_with (codes "wrong kind") (codes "member") name
json_error (json.Unknown name) = error_with (codes "unknown") (codes "member") name
json_error json.Memory = error (codes "memory")

abbrev pub body_error : TaskFault → Data
body_error (task.Json fault) = json_error fault
body_error (task.BadTime member fault) = error_with (codes "bad time") (codes "member") member
body_error (task.UnknownTest name) = error_with (codes "unknown test") (codes "name") name
body_error task.BadPriority = error (codes "bad priority")
body_error (task.UnknownTool name) = error_with (codes "unknown tool") (codes "name") name
body_error (task.UnknownArchiver name) = error_with (codes "unknown archiver") (codes "name") name
body_error (task.BadSpec member) = error_with (codes "bad spec") (codes "member") member
body_error task.Memory = error (codes "memory")

-- ---- each refusal
abbrev pub refusal_status : Refusal → ℕ
refusal_status refusal.NotFound = 404
refusal_status (refusal.Method methods) = 405
refusal_status refusal.NoPeerKey = 403
refusal_status refusal.Query = 400
refusal_status (refusal.Body fault) = 400
refusal_status refusal.Memory = 500

abbrev pub refusal_error : Refusal → Data
refusal_error refusal.NotFound = error (codes "not found")
refusal_error (refusal.Method methods) = error (codes "method")
refusal_error refusal.NoPeerKey = error (codes "no peer key")
refusal_error refusal.Query = error (codes "query")
refusal_error (refusal.Body fault) = body_error fault
refusal_error refusal.Memory = error (codes "memory")

-- the methods of the path, where another was used
abbrev pub refusal_allow : Refusal → Option (List ℕ)
refusal_allow (refusal.Method methods) = Some (methods_text methods)
refusal_allow _ = None

abbrev pub refused : Refusal → Response
refused r = record { status = refusal_status r; allow = refusal_allow r; close = false; body = compact_text (refusal_error r) }
