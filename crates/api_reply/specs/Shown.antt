-- How moments, identifiers, addresses and errors are shown.
use Rattle.std.specs.Prelude.{◌++◌, List, codes, min, ℕ}
use Rattle.serde_json.specs.Data.{Data, no_members, member, object, put, string}
use Rattle.ps_time.specs.Id.{id_text}
use Rattle.ps_time.specs.Moment.{moment_text_of}
use Rattle.ps_time.specs.Numbers.{greatest_moment}
use Rattle.ps_time.specs.declared.id.Id.TheVariants.{Run, Task}
use Rattle.ps_time.specs.declared.key.RunKey.{RunKey}
use Rattle.task_spec.specs.WriteTask.{count_data}

-- ---- moments: one above the last is shown as the last
abbrev pub shown : ℕ → ℕ
shown m = min m greatest_moment

-- as a text, for everybody
unfoldable pub moment_data : ℕ → Data
moment_data m = string (moment_text_of (shown m))

-- as a number, for peers
unfoldable pub second_data : ℕ → Data
second_data m = count_data (shown m)

-- ---- identifiers and addresses
unfoldable pub run_text : RunKey → List ℕ
run_text k = id_text (Run k)

unfoldable pub task_text : ℕ → ℕ → List ℕ
task_text lead serial = id_text (Task lead serial)

-- the task of this serial on its lead, at the host of this authority
abbrev pub task_url : List ℕ → ℕ → ℕ → List ℕ
task_url authority lead serial = codes "http://" ++ (authority ++ (codes "/pscheduler/tasks/" ++ task_text lead serial))

abbrev pub run_url : List ℕ → RunKey → List ℕ
run_url authority k = task_url authority k.lead k.task ++ (codes "/runs/" ++ run_text k)

-- ---- errors
-- `{"error":E}`
abbrev pub error : List ℕ → Data
error e = object (member (codes "error") (string e) no_members)

-- and with a second member, as `{"error":E,"name":N}`
abbrev pub error_with : List ℕ → List ℕ → List ℕ → Data
error_with e name text = object (put name (string text) (member (codes "error") (string e) no_members))
