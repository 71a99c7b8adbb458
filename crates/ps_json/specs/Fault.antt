-- The text of a fault.
use Rattle.std.specs.Prelude.{ℕ, List, ◌++◌, codes}
use Rattle.ps_json.specs.declared.fault.JsonFault.{JsonFault}
use Rattle.ps_json.specs.declared.fault.JsonFault.TheVariants.{Syntax, TooDeep, NotUtf8, Missing, WrongKind, Unknown, Memory}

abbrev pub fault_text : JsonFault → List ℕ
fault_text Syntax = codes "syntax"
fault_text TooDeep = codes "too deep"
fault_text NotUtf8 = codes "not utf-8"
fault_text (Missing name) = codes "missing " ++ name
fault_text (WrongKind name) = codes "wrong kind " ++ name
fault_text (Unknown name) = codes "unknown member " ++ name
fault_text Memory = codes "out of memory"
