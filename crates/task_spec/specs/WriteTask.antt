-- The JSON tree of a task. Members stand in the order of the bytes of their names.
use Rattle.std.specs.Prelude.{ℕ, List, [], ◌∷◌, map, Option, Some, None, codes}
use Rattle.serde_json.specs.Data.{Data, unsigned, number, string, array, object, Members, no_members, member, put}
use Rattle.serde_json.specs.Find.{of_integer}
use Rattle.serde_json.specs.View.{items_of}
use Rattle.ps_time.specs.Moment.{moment_text_of}
use Rattle.plugin_core.specs.WriteTest.{length_data, names_data, test_data}
use Rattle.archive_retry.specs.Merge.{result_tree as kept_tree}
use Rattle.archive_retry.specs.declared.policy.Entry.{Entry}
use Rattle.schedule_rule.specs.Rule.{Schedule}
use Rattle.task_spec.specs.declared.task.Archive.{Archive}
use Rattle.task_spec.specs.declared.task.Task.{Task}

-- the most bytes that the compact text of a task has
abbrev pub most_task_bytes : ℕ
most_task_bytes = 163_840

-- a member, where there is something to be written
abbrev pub with_some : {A : Type 0} → List ℕ → (A → Data) → Option A → Members → Members
with_some name write None ms = ms
with_some name write (Some a) ms = put name (write a) ms

abbrev pub moment_data : ℕ → Data
moment_data m = string (moment_text_of m)

abbrev pub count_data : ℕ → Data
count_data n = number (unsigned n)

-- `{"max-runs":N,"repeat":LENGTH,"slip":LENGTH,"start":MOMENT,"until":MOMENT}`; what is absent is left out
abbrev pub schedule_data : Schedule → Data
schedule_data rule =
    object (
    with_some (codes "max-runs") count_data rule.max_runs (
    with_some (codes "until") moment_data rule.until (
    with_some (codes "repeat") length_data rule.repeat (
    member (codes "slip") (length_data rule.slip) (
    member (codes "start") (moment_data rule.anchor) no_members)))))

-- `{"attempts":N,"wait":LENGTH}`
abbrev pub entry_data : Entry → Data
entry_data e = object (member (codes "attempts") (count_data e.attempts) (member (codes "wait") (length_data e.wait) no_members))

-- the policy, where it has entries
abbrev pub with_policy : List Entry → Members → Members
with_policy [] ms = ms
with_policy (e ∷ es) ms = put (codes "retry-policy") (array (items_of (map entry_data (e ∷ es)))) ms

abbrev pub members_in : Data → Members
members_in (object ms) = ms
members_in _ = no_members

-- `{"archiver":NAME,"data":{..}}`, with the settings and the policy in `data`
abbrev pub archive_data : Archive → Data
archive_data a =
    object (member (codes "archiver") (string a.archiver) (
    member (codes "data") (object (with_policy a.policy.entries (members_in (kept_tree (Some a.settings))))) no_members))

-- the wanted tools, where there are some
abbrev pub with_tools : List (List ℕ) → Members → Members
with_tools [] ms = ms
with_tools (t ∷ ts) ms = put (codes "tools") (names_data (t ∷ ts)) ms

abbrev pub task_data : Task → Data
task_data task =
    object (
    with_tools task.tools (
    member (codes "archives") (array (items_of (map archive_data task.archives))) (
    member (codes "priority") (number (of_integer task.priority)) (
    member (codes "reference") (kept_tree task.reference) (
    member (codes "schedule") (schedule_data task.rule) (
    member (codes "schema") (count_data 1) (
    member (codes "test") (test_data task.test) no_members)))))))
