-- Faults of JSON, tests and policies as those of a task.
use Rattle.std.specs.Prelude.{Result}
use Rattle.ps_json.specs.Answer.{lifted}
use Rattle.ps_json.specs.declared.fault.JsonFault.{JsonFault}
use Rattle.ps_json.specs.declared.fault.JsonFault.TheVariants.{Memory as json_memory}
use Rattle.plugin_core.specs.declared.fault.SpecFault.{SpecFault}
use Rattle.plugin_core.specs.declared.fault.SpecFault.TheVariants.{Json as spec_json, BadTime as spec_time, UnknownTest as spec_test, BadSpec as spec_bounds, Memory as spec_memory}
use Rattle.archive_retry.specs.declared.fault.PolicyFault.{PolicyFault}
use Rattle.archive_retry.specs.declared.fault.PolicyFault.TheVariants.{Json as policy_json, BadTime as policy_time, Memory as policy_memory}
use Rattle.task_spec.specs.declared.fault.TaskFault.{TaskFault}
use Rattle.task_spec.specs.declared.fault.TaskFault.TheVariants.{Json, BadTime, UnknownTest, BadSpec, Memory}

abbrev pub wrapped : JsonFault → TaskFault
wrapped json_memory = Memory
wrapped fault = Json fault

abbrev pub in_json : {A : Type 0} → Result A JsonFault → Result A TaskFault
in_json r = lifted wrapped r

abbrev pub wrapped_spec : SpecFault → TaskFault
wrapped_spec (spec_json fault) = Json fault
wrapped_spec (spec_time member fault) = BadTime member fault
wrapped_spec (spec_test name) = UnknownTest name
wrapped_spec (spec_bounds member) = BadSpec member
wrapped_spec spec_memory = Memory

abbrev pub wrapped_policy : PolicyFault → TaskFault
wrapped_policy (policy_json fault) = Json fault
wrapped_policy (policy_time member fault) = BadTime member fault
wrapped_policy policy_memory = Memory
