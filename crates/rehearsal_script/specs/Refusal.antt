-- The texts of refusals.
use Rattle.std.specs.Prelude.{ℕ, ◌++◌, List, codes, decimal}
use Rattle.rehearsal_script.specs.declared.script.Reason.{Reason}
use Rattle.rehearsal_script.specs.declared.script.Reason.TheVariants.{NotUtf8, UnknownWord, WrongNumberOfFields, BadNumber, BadName, NoSuchHost, RepeatedHost, TooManyHosts, BadClass, BadTool, BadLimits, BadImage}
use Rattle.rehearsal_script.specs.declared.script.ScriptFault.{ScriptFault}
use Rattle.rehearsal_script.specs.declared.script.ScriptFault.TheVariants.{Refused, Memory}

abbrev pub reason_text : Reason → List ℕ
reason_text NotUtf8 = codes "not utf-8"
reason_text UnknownWord = codes "unknown word"
reason_text WrongNumberOfFields = codes "wrong number of fields"
reason_text BadNumber = codes "bad number"
reason_text BadName = codes "bad name"
reason_text NoSuchHost = codes "no such host"
reason_text RepeatedHost = codes "repeated host"
reason_text TooManyHosts = codes "too many hosts"
reason_text BadClass = codes "bad class"
reason_text BadTool = codes "bad tool"
reason_text BadLimits = codes "bad limits"
reason_text BadImage = codes "bad image"

-- a refusal as a user reads it: `line 2: bad class`
abbrev pub fault_text : ScriptFault → List ℕ
fault_text (Refused line reason) = codes "line " ++ decimal line ++ codes ": " ++ reason_text reason
fault_text Memory = codes "out of memory"
