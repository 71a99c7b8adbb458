-- The errors of refusals have no numbers.
use Rattle.std.proofs.Common.{◌≡◌, false, refl}
use Rattle.serde_json.specs.Written.{has_float}
use Rattle.ps_json.specs.declared.fault.JsonFault.{JsonFault}
use Rattle.ps_json.specs.declared.fault.JsonFault.TheVariants as json
use Rattle.task_spec.specs.declared.fault.TaskFault.{TaskFault}
use Rattle.task_spec.specs.declared.fault.TaskFault.TheVariants as task
use Rattle.api_input.specs.declared.refusal.Refusal.{Refusal}
use Rattle.api_input.specs.declared.refusal.Refusal.TheVariants as refusal
use Rattle.api_reply.specs.Errors.{body_error, json_error, refusal_error}

json_whole : (fault : JsonFault) → has_float (json_error fault) ≡ false
json_whole json.Syntax = refl
json_whole json.TooDeep = refl
json_whole json.NotUtf8 = refl
json_whole (json.Missing name) = refl
json_whole (json.WrongKind name) = refl
json_whole (json.Unknown name) = refl
json_whole json.Memory = refl

body_whole : (fault : TaskFault) → has_float (body_error fault) ≡ false
body_whole (task.Json fault) = json_whole fault
body_whole (task.BadTime member fault) = refl
body_whole (task.UnknownTest name) = refl
body_whole task.BadPriority = refl
body_whole (task.UnknownTool name) = refl
body_whole (task.UnknownArchiver name) = refl
body_whole (task.BadSpec member) = refl
body_whole task.Memory = refl

pub refusal_whole : (r : Refusal) → has_float (refusal_error r) ≡ false
refusal_whole refusal.NotFound = refl
refusal_whole (refusal.Method methods) = refl
refusal_whole refusal.NoPeerKey = refl
refusal_whole refusal.Query = refl
refusal_whole (refusal.Body fault) = body_whole fault
refusal_whole refusal.Memory = refl
