-- A fault of JSON as one of meshes, and the texts of these.
use Rattle.std.specs.Prelude.{ℕ, List, ◌++◌, Result, codes}
use Rattle.ps_json.specs.Answer.{lifted}
use Rattle.ps_json.specs.Fault.{fault_text}
use Rattle.ps_json.specs.declared.fault.JsonFault.{JsonFault}
use Rattle.ps_json.specs.declared.fault.JsonFault.TheVariants.{Memory as json_memory, Syntax, TooDeep, NotUtf8}
use Rattle.mesh_parts.specs.declared.fault.MeshFault.{MeshFault}
use Rattle.mesh_parts.specs.declared.fault.MeshFault.TheVariants.{Json, Empty, TooMany, BadName, BadUrl, UnknownName, BadTemplate, BadTask, Memory}

abbrev pub wrapped : JsonFault → MeshFault
wrapped json_memory = Memory
wrapped fault = Json fault

abbrev pub in_json : {A : Type 0} → Result A JsonFault → Result A MeshFault
in_json r = lifted wrapped r

abbrev pub json_text : JsonFault → List ℕ
json_text Syntax = codes "not json"
json_text TooDeep = codes "not json"
json_text NotUtf8 = codes "not json"
json_text fault = fault_text fault

abbrev pub mesh_fault_text : MeshFault → List ℕ
mesh_fault_text (Json fault) = json_text fault
mesh_fault_text (Empty name) = codes "empty " ++ name
mesh_fault_text (TooMany name) = codes "too many " ++ name
mesh_fault_text (BadName name) = codes "bad name " ++ name
mesh_fault_text (BadUrl name) = codes "bad url " ++ name
mesh_fault_text (UnknownName name) = codes "unknown name " ++ name
mesh_fault_text (BadTemplate name) = codes "bad template " ++ name
mesh_fault_text (BadTask name) = codes "bad task " ++ name
mesh_fault_text Memory = codes "out of memory"
