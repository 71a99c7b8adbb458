-- Which task a JSON tree is.
use Rattle.std.specs.Prelude.{ℕ, ℤ, pos, negsuc, Bool, true, false, ◌&&◌, nat_le, List, [], ◌∷◌, length, Option, Some, None, is_some, option_and_then, Result, Ok, Err, if◌then◌else◌, codes}
use Rattle.std.specs.Str.{bytes_eq}
use Rattle.serde_json.specs.Data.{Data, Members, depth}
use Rattle.serde_json.specs.Find.{as_number, as_i64, as_null}
use Rattle.serde_json.specs.Written.{has_float, compact_text}
use Rattle.ps_json.specs.Each.{read_each}
use Rattle.ps_json.specs.Answer.{then_with, lifted}
use Rattle.ps_json.specs.Fields.{end_of}
use Rattle.ps_json.specs.Kinds.{count_of, text_of, list_of, members_of, integer_within}
use Rattle.ps_json.specs.declared.fault.JsonFault.TheVariants.{WrongKind}
use Rattle.plugin_core.specs.declared.test_spec.TestSpec.{TestSpec}
use Rattle.plugin_core.specs.declared.test_spec.TestSpec.TheVariants.{Idle, Idleex, Idlebgm, Idlemany, Simplestream}
use Rattle.plugin_tool.specs.Choice.{tool_of_text}
use Rattle.ps_json.specs.Member.{required, optional, member_then}
use Rattle.plugin_core.specs.ReadTest.{test_of}
use Rattle.schedule_rule.specs.Rule.{Schedule}
use Rattle.task_spec.specs.declared.fault.TaskFault.{TaskFault}
use Rattle.task_spec.specs.declared.fault.TaskFault.TheVariants.{Json, BadPriority, UnknownTool, BadSpec}
use Rattle.task_spec.specs.declared.read_task.Rest.{Rest}
use Rattle.task_spec.specs.declared.task.Task.{Task}
use Rattle.task_spec.specs.Fault.{wrapped, in_json, wrapped_spec}
use Rattle.task_spec.specs.ReadArchive.{archives_in}
use Rattle.task_spec.specs.ReadSchedule.{schedule_in}

-- ---- contents of members

-- the version of the format
abbrev pub schema : List ℕ → Data → Result ℕ TaskFault
schema name d = in_json (count_of name 1 5 d)

-- the lead is the first of the hosts of a test that has some
abbrev pub leads : List ℕ → TestSpec → Bool
leads lead (Idle sleep) = true
leads lead (Idleex sleep) = true
leads lead (Idlebgm sleep interval) = true
leads lead (Idlemany sleep hosts) = is_first hosts
  where
    is_first : List (List ℕ) → Bool
    is_first [] = false
    is_first (host ∷ hosts) = bytes_eq host lead
leads lead (Simplestream dest material dawdle timeout) = true

abbrev pub test_in : List ℕ → List ℕ → Data → Result TestSpec TaskFault
test_in lead name d =
    then_with (lifted wrapped_spec (test_of d)) (λ test. if leads lead test then Ok test else Err (BadSpec (codes "hosts")))

-- the name of a tool
abbrev pub is_tool : List ℕ → Bool
is_tool name = is_some (tool_of_text name)

abbrev pub tool_name_in : List ℕ → Data → Result (List ℕ) TaskFault
tool_name_in name d = then_with (in_json (text_of name d)) (λ bs. if is_tool bs then Ok bs else Err (UnknownTool bs))

abbrev pub tool_in : List ℕ → Data → Result (List (List ℕ)) TaskFault
tool_in name d = then_with (tool_name_in name d) (λ bs. Ok (bs ∷ []))

-- a list of 1 to 8 names, where there is no `tool`
abbrev pub tools_in : List (List ℕ) → List ℕ → Data → Result (List (List ℕ)) TaskFault
tools_in [] name d =
    then_with (in_json (list_of name d)) (λ ds.
    if nat_le 1 (length ds) && nat_le (length ds) 8 then read_each (tool_name_in name) ds else Err (Json (WrongKind name)))
tools_in (tool ∷ _) name d = Err (Json (WrongKind name))

-- a tree of at most 63 levels whose numbers are whole, and whose compact text isn't long; null is none
abbrev pub reference_in : List ℕ → Data → Result (Option (List ℕ)) TaskFault
reference_in name d = if is_some (as_null d) then Ok None else if fits then Ok (Some (compact_text d)) else Err (BadSpec name)
  where
    fits : Bool
    fits = if has_float d then false else nat_le (depth d) 63 && nat_le (length (compact_text d)) 65_536

-- a whole number from -1000 to 1000
abbrev pub priority_in : List ℕ → Data → Result ℤ TaskFault
priority_in name d = in_bounds (integer_within (negsuc 999) (pos 1_000) (option_and_then as_i64 (as_number d)))
  where
    in_bounds : Option ℤ → Result ℤ TaskFault
    in_bounds None = Err BadPriority
    in_bounds (Some z) = Ok z

-- the schedule of a task that gives none
abbrev pub from_now : ℕ → Schedule
from_now now = record { anchor = now; slip = 300; repeat = None; until = None; max_runs = None }

-- ---- a task: its members, in the order in which they are read

-- those after the test
abbrev pub rest_of : ℕ → Members → Result Rest TaskFault
rest_of now ms =
    member_then (codes "tool") (optional [] tool_in) ms (λ tool ms.
    member_then (codes "tools") (optional tool (tools_in tool)) ms (λ tools ms.
    member_then (codes "schedule") (optional (from_now now) (schedule_in now)) ms (λ rule ms.
    member_then (codes "archives") (optional [] archives_in) ms (λ archives ms.
    member_then (codes "reference") (optional None reference_in) ms (λ reference ms.
    member_then (codes "priority") (optional (pos 0) priority_in) ms (λ priority ms.
    then_with (in_json (end_of ms)) (λ _.
    Ok (record { tools = tools; rule = rule; archives = archives; reference = reference; priority = priority }))))))))

abbrev pub with_test : TestSpec → Rest → Task
with_test test rest = record { test = test; tools = rest.tools; rule = rest.rule; archives = rest.archives; reference = rest.reference; priority = rest.priority }

abbrev pub without_test : Task → Rest
without_test task = record { tools = task.tools; rule = task.rule; archives = task.archives; reference = task.reference; priority = task.priority }

abbrev pub task_of : ℕ → List ℕ → Data → Result Task TaskFault
task_of now lead d =
    then_with (in_json (members_of (codes "task") d)) (λ ms.
    member_then (codes "schema") (optional 1 schema) ms (λ _ ms.
    member_then (codes "test") (required wrapped (test_in lead)) ms (λ test ms.
    then_with (rest_of now ms) (λ rest. Ok (with_test test rest)))))
