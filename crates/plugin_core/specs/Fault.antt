-- A fault of JSON as one of a test.
use Rattle.std.specs.Prelude.{Result}
use Rattle.ps_json.specs.Answer.{lifted}
use Rattle.ps_json.specs.declared.fault.JsonFault.{JsonFault}
use Rattle.ps_json.specs.declared.fault.JsonFault.TheVariants.{Memory as json_memory}
use Rattle.plugin_core.specs.declared.fault.SpecFault.{SpecFault}
use Rattle.plugin_core.specs.declared.fault.SpecFault.TheVariants.{Json, Memory}

abbrev pub wrapped : JsonFault → SpecFault
wrapped json_memory = Memory
wrapped fault = Json fault

abbrev pub in_json : {A : Type 0} → Result A JsonFault → Result A SpecFault
in_json r = lifted wrapped r
