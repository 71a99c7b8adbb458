-- What a reader may answer, by what the grammar gives.
use Rattle.std.specs.Prelude.{◌≡◌, Result, Ok, Err}
use Rattle.rehearsal_script.specs.declared.script.Script.{Script}
use Rattle.rehearsal_script.specs.declared.script.ScriptFault.{ScriptFault}
use Rattle.rehearsal_script.specs.declared.script.ScriptFault.TheVariants.{Refused, Memory}

-- the script or the refusal that the grammar gives, or out of memory
abbrev pub Reads : Result Script ScriptFault → Result Script ScriptFault → Type 0
Reads (Ok script) given = given ≡ Ok script
Reads (Err (Refused line reason)) given = given ≡ Err (Refused line reason)
Reads (Err Memory) given = Unit {0}
