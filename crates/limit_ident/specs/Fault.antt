-- A fault of JSON as one of limits, and the texts of these.
use Rattle.std.specs.Prelude.{ℕ, List, ◌++◌, Result, codes}
use Rattle.ps_json.specs.Answer.{lifted}
use Rattle.ps_json.specs.Fault.{fault_text}
use Rattle.ps_json.specs.declared.fault.JsonFault.{JsonFault}
use Rattle.ps_json.specs.declared.fault.JsonFault.TheVariants.{Memory as json_memory, Syntax, TooDeep, NotUtf8}
use Rattle.limit_ident.specs.declared.fault.LimitFault.{LimitFault}
use Rattle.limit_ident.specs.declared.fault.LimitFault.TheVariants.{Json, UnknownType, Duplicate, UnknownName, BadCidr, Empty, BadRange, Memory}

abbrev pub wrapped : JsonFault → LimitFault
wrapped json_memory = Memory
wrapped fault = Json fault

abbrev pub in_json : {A : Type 0} → Result A JsonFault → Result A LimitFault
in_json r = lifted wrapped r

abbrev pub json_text : JsonFault → List ℕ
json_text Syntax = codes "not json"
json_text TooDeep = codes "not json"
json_text NotUtf8 = codes "not json"
json_text fault = fault_text fault

abbrev pub limit_fault_text : LimitFault → List ℕ
limit_fault_text (Json fault) = json_text fault
limit_fault_text (UnknownType name) = codes "unknown type " ++ name
limit_fault_text (Duplicate name) = codes "duplicate " ++ name
limit_fault_text (UnknownName name) = codes "unknown name " ++ name
limit_fault_text (BadCidr text) = codes "bad cidr " ++ text
limit_fault_text (Empty name) = codes "empty " ++ name
limit_fault_text (BadRange name) = codes "bad range " ++ name
limit_fault_text Memory = codes "out of memory"
