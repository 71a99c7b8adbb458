-- A fault of a body as that of a request.
use Rattle.std.specs.Prelude.{Result}
use Rattle.ps_json.specs.Answer.{lifted}
use Rattle.task_spec.specs.declared.fault.TaskFault.{TaskFault}
use Rattle.task_spec.specs.declared.fault.TaskFault.TheVariants.{Memory as task_memory}
use Rattle.api_input.specs.declared.refusal.Refusal.{Refusal}
use Rattle.api_input.specs.declared.refusal.Refusal.TheVariants.{Body, Memory}

abbrev pub refused : TaskFault → Refusal
refused task_memory = Memory
refused fault = Body fault

abbrev pub in_body : {A : Type 0} → Result A TaskFault → Result A Refusal
in_body r = lifted refused r
