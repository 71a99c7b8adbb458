-- A fault of JSON as one of a policy.
use Rattle.std.specs.Prelude.{Result}
use Rattle.ps_json.specs.Answer.{lifted}
use Rattle.ps_json.specs.declared.fault.JsonFault.{JsonFault}
use Rattle.ps_json.specs.declared.fault.JsonFault.TheVariants.{Memory as json_memory}
use Rattle.archive_retry.specs.declared.fault.PolicyFault.{PolicyFault}
use Rattle.archive_retry.specs.declared.fault.PolicyFault.TheVariants.{Json, Memory}

abbrev pub wrapped : JsonFault → PolicyFault
wrapped json_memory = Memory
wrapped fault = Json fault

abbrev pub in_json : {A : Type 0} → Result A JsonFault → Result A PolicyFault
in_json r = lifted wrapped r
