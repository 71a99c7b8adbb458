-- How many bytes the compact text of a task has at most.
use Rattle.std.proofs.Common.{◌≡◌, ℕ, ℤ, pos, negsuc, ◌+◌, ◌*◌, ◌≤◌, Bool, true, false, if◌then◌else◌, List, [], ◌∷◌, length, map, All, Option, Some, None, IfSome, refl, codes, arith}
use Rattle.std.proofs.lemmas.Fmt.{length-decimal-le, length_signed_le}
use Rattle.std.proofs.lemmas.Int.{ints}
use Rattle.std.proofs.lemmas.List.Elements.{All-nil, All-cons}
use Rattle.std.proofs.lemmas.Slice.Eq.{bytes_eq-Decides}
use Rattle.std.specs.Int.Signed.{◌≤ℤ◌}
use Rattle.std.specs.List.{list_all}
use Rattle.std.specs.Str.{bytes_eq}
use Rattle.serde_json.specs.Data.{Data, number, string, array, object, Members, no_members, member}
use Rattle.serde_json.specs.Find.{of_integer}
use Rattle.serde_json.specs.View.{items_of}
use Rattle.serde_json.specs.Written.{compact_text, members_text}
use Rattle.ps_json.specs.TreeText.{kept_tree}
use Rattle.ps_time.proofs.PictureLemmas.{and_true}
use Rattle.plugin_tool.proofs.ChoiceLemmas.{tool_length}
use Rattle.plugin_core.proofs.LengthLemmas.{text_short, items_short, member_short, put_short, length_short, moment_short, test_short}
use Rattle.plugin_core.specs.WriteTest.{length_data, names_data, test_data}
use Rattle.archive_retry.specs.Bounds.{IsEntry, IsPolicy}
use Rattle.archive_retry.specs.declared.policy.Entry.{Entry}
use Rattle.schedule_rule.specs.Rule.{Schedule, IsRule}
use Rattle.task_spec.specs.Bounds.{FitsArchiver, IsArchive, IsReference, IsTask}
use Rattle.task_spec.specs.ReadArchive.{is_archiver, settings_members}
use Rattle.task_spec.specs.ReadTask.{is_tool}
use Rattle.task_spec.specs.WriteTask.{with_some, moment_data, count_data, schedule_data, entry_data, with_policy, archive_data, with_tools, task_data, most_task_bytes}
use Rattle.task_spec.specs.declared.task.Archive.{Archive}
use Rattle.task_spec.specs.declared.task.Task.{Task}

-- ---- archives

entry_short : (e : Entry) → IsEntry e → length (compact_text (entry_data e)) ≤ 190
entry_short e is =
    omega (
      arith,
      is.few,
      length-decimal-le 4 e.attempts (omega arith) (omega (arith, is.few)) (omega (arith, is.few)),
      length_short e.wait is.short,
      member_short (codes "attempts") (count_data e.attempts) (member (codes "wait") (length_data e.wait) no_members) false,
      member_short (codes "wait") (length_data e.wait) no_members true,
    )

policy_short : (es : List Entry) (ms : Members) → IsPolicy (record { entries = es }) → length (members_text false (with_policy es ms)) ≤ length (members_text false ms) + 3_134
policy_short [] ms is = omega arith
policy_short (e ∷ es) ms is =
    omega (arith, is.few, put_short (codes "retry-policy") (array (items_of (map entry_data (e ∷ es)))) ms false, items_short IsEntry entry_data 190 entry_short (e ∷ es) false is.entries)

settings_short : (archiver : List ℕ) (fail : Option ℕ) → FitsArchiver archiver fail → length (members_text false (settings_members fail)) ≤ 33
settings_short archiver None fits = omega arith
settings_short archiver (Some n) fits =
    omega (arith, fits.1, length-decimal-le 4 n (omega arith) (omega (arith, fits.1)) (omega (arith, fits.1)), member_short (codes "fail") (count_data n) no_members false)

archiver_length : (name : List ℕ) → is_archiver name ≡ true → length name ≤ 9
archiver_length name = by_test (bytes_eq name (codes "bitbucket")) refl
  where
    by_test : (b : Bool) → bytes_eq name (codes "bitbucket") ≡ b → (if b then true else bytes_eq name (codes "failer")) ≡ true → length name ≤ 9
    by_test true here is = rw ((bytes_eq-Decides name (codes "bitbucket")).0 here) (omega arith)
    by_test false other is = rw ((bytes_eq-Decides name (codes "failer")).0 is) (omega arith)

archive_short : (a : Archive) → IsArchive a → length (compact_text (archive_data a)) ≤ 3_310
archive_short a is =
    rw is.reads
    (omega (
      arith,
      text_short a.archiver,
      archiver_length a.archiver is.known,
      settings_short a.archiver is.fail is.fits,
      policy_short a.policy.entries (settings_members is.fail) is.policy,
      member_short (codes "archiver") (string a.archiver) (member (codes "data") (object (with_policy a.policy.entries (settings_members is.fail))) no_members) false,
      member_short (codes "data") (object (with_policy a.policy.entries (settings_members is.fail))) no_members true,
    ))

archives_short : (archives : List Archive) → All IsArchive archives → length archives ≤ 8 → length (compact_text (array (items_of (map archive_data archives)))) ≤ 26_500
archives_short archives are few = omega (arith, few, items_short IsArchive archive_data 3_310 archive_short archives false are)

-- ---- the schedule

some_short : (name : List ℕ) (write : ℕ → Data) (most : ℕ) (P : ℕ → Type 0) → ((n : ℕ) → P n → length (compact_text (write n)) ≤ most) → (o : Option ℕ) (ms : Members) → IfSome o P
    → length (members_text false (with_some name write o ms)) ≤ length (members_text false ms) + (6 * length name + (4 + most))
some_short name write most P each None ms is = omega arith
some_short name write most P each (Some n) ms is = omega (arith, put_short name (write n) ms false, each n is)

if_some : {P : ℕ → Type 0} (o : Option ℕ) → ((n : ℕ) → o ≡ Some n → P n) → IfSome o P
if_some None for = tt
if_some (Some n) for = for n refl

runs_short : (n : ℕ) → n ≤ 4_294_967_295 → length (compact_text (count_data n)) ≤ 10
runs_short n few = length-decimal-le 10 n (omega arith) (omega (arith, few)) (omega (arith, few))

schedule_short : (rule : Schedule) → IsRule rule → IfSome rule.max_runs (λ n. n ≤ 4_294_967_295) → length (compact_text (schedule_data rule)) ≤ 650
schedule_short rule is runs =
    omega (
      arith,
      some_short (codes "max-runs") count_data 10 (λ n. n ≤ 4_294_967_295) runs_short rule.max_runs (with_some (codes "until") moment_data rule.until (with_some (codes "repeat") length_data rule.repeat (member (codes "slip") (length_data rule.slip) (member (codes "start") (moment_data rule.anchor) no_members)))) runs,
      some_short (codes "until") moment_data 122 (λ u. u ≤ 4_102_444_800) (λ u _. moment_short u) rule.until (with_some (codes "repeat") length_data rule.repeat (member (codes "slip") (length_data rule.slip) (member (codes "start") (moment_data rule.anchor) no_members))) (if_some rule.until is.until),
      some_short (codes "repeat") length_data 98 (λ r. (1 ≤ r) × (r ≤ 315_360_000)) (λ r within. length_short r within.1) rule.repeat (member (codes "slip") (length_data rule.slip) (member (codes "start") (moment_data rule.anchor) no_members)) (if_some rule.repeat is.repeat),
      member_short (codes "slip") (length_data rule.slip) (member (codes "start") (moment_data rule.anchor) no_members) false,
      member_short (codes "start") (moment_data rule.anchor) no_members true,
      length_short rule.slip is.slip,
      moment_short rule.anchor,
    )

-- ---- the others

priority_short : (z : ℤ) → negsuc 999 ≤ℤ z → z ≤ℤ pos 1_000 → length (compact_text (number (of_integer z))) ≤ 5
priority_short (pos n) low high =
    let bound : n ≤ 1_000 = omega (arith, ints, high) in omega (arith, length-decimal-le 4 n (omega arith) (omega (arith, bound)) (omega (arith, bound)))
priority_short (negsuc n) low high =
    let bound : n ≤ 999 = omega (arith, ints, low) in length_signed_le 4 (negsuc n) (omega (arith, bound)) (omega (arith, bound))

reference_short : (reference : Option (List ℕ)) → IfSome reference IsReference → length (compact_text (kept_tree reference)) ≤ 65_536
reference_short None is = omega arith
reference_short (Some bs) is = rw (is.reads, is.text) is.short

pub tool_short : (name : List ℕ) → is_tool name ≡ true → length (compact_text (string name)) ≤ 86
tool_short name is = omega (arith, text_short name, tool_length name is)

pub all_tools : (names : List (List ℕ)) → list_all is_tool names ≡ true → All (λ name. is_tool name ≡ true) names
all_tools [] are = All-nil (λ name. is_tool name ≡ true)
all_tools (x ∷ xs) are =
    let each = and_true (is_tool x) (list_all is_tool xs) are in All-cons (λ name. is_tool name ≡ true) x xs each.0 (all_tools xs each.1)

tools_short : (names : List (List ℕ)) (ms : Members) → list_all is_tool names ≡ true → length names ≤ 8 → length (members_text false (with_tools names ms)) ≤ length (members_text false ms) + 740
tools_short [] ms are few = omega arith
tools_short (t ∷ ts) ms are few =
    omega (arith, few, put_short (codes "tools") (names_data (t ∷ ts)) ms false, items_short (λ name. is_tool name ≡ true) string 86 tool_short (t ∷ ts) false (all_tools (t ∷ ts) are))

-- the members of a task but its tools
members_short : (a p r s t : Data) → length (compact_text a) ≤ 26_500 → length (compact_text p) ≤ 5 → length (compact_text r) ≤ 65_536 → length (compact_text s) ≤ 650 → length (compact_text t) ≤ 65_536
    → length (members_text false (member (codes "archives") a (member (codes "priority") p (member (codes "reference") r (member (codes "schedule") s (member (codes "schema") (count_data 1) (member (codes "test") t no_members)))))))
    ≤ 158_600
members_short a p r s t ha hp hr hs ht =
    omega (
      arith,
      ha,
      hp,
      hr,
      hs,
      ht,
      length-decimal-le 1 1 (omega arith) (omega arith) (omega arith),
      member_short (codes "archives") a (member (codes "priority") p (member (codes "reference") r (member (codes "schedule") s (member (codes "schema") (count_data 1) (member (codes "test") t no_members))))) false,
      member_short (codes "priority") p (member (codes "reference") r (member (codes "schedule") s (member (codes "schema") (count_data 1) (member (codes "test") t no_members)))) true,
      member_short (codes "reference") r (member (codes "schedule") s (member (codes "schema") (count_data 1) (member (codes "test") t no_members))) true,
      member_short (codes "schedule") s (member (codes "schema") (count_data 1) (member (codes "test") t no_members)) true,
      member_short (codes "schema") (count_data 1) (member (codes "test") t no_members) true,
      member_short (codes "test") t no_members true,
    )

pub task_short : (host : List ℕ) (task : Task) → IsTask host task → length (compact_text (task_data task)) ≤ most_task_bytes
task_short host task is =
    let ms = member (codes "archives") (array (items_of (map archive_data task.archives))) (member (codes "priority") (number (of_integer task.priority)) (member (codes "reference") (kept_tree task.reference) (member (codes "schedule") (schedule_data task.rule) (member (codes "schema") (count_data 1) (member (codes "test") (test_data task.test) no_members))))) in
    let short =
    members_short (array (items_of (map archive_data task.archives))) (number (of_integer task.priority)) (kept_tree task.reference) (schedule_data task.rule) (test_data task.test)
    (archives_short task.archives is.rest.archives is.rest.few_archives) (priority_short task.priority is.rest.priority.0 is.rest.priority.1) (reference_short task.reference is.rest.reference)
    (schedule_short task.rule is.rest.rule (if_some task.rule.max_runs is.rest.runs)) (test_short task.test is.test) in
    omega (arith, tools_short task.tools ms is.rest.tools is.rest.few_tools, short)
