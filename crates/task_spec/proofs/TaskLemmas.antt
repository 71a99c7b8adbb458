-- The tree of a task is read again.
use Rattle.std.proofs.Common.{◌≡◌, ◌≢◌, ℕ, ℤ, pos, negsuc, ◌^◌, ◌&&◌, ◌≤◌, nat_le, nat_lt, List, [], ◌∷◌, length, map, true, false, Option, Some, None, Ok, IfSome, refl, codes, arith}
use Rattle.std.proofs.lemmas.Bool.Decides.{nat_tests}
use Rattle.std.proofs.lemmas.Int.{ints}
use Rattle.std.proofs.lemmas.List.{length-map}
use Rattle.std.specs.Int.Signed.{◌≤ℤ◌}
use Rattle.std.specs.List.{list_all}
use Rattle.std.specs.Option.{is_some}
use Rattle.serde_json.specs.Data.{Data, null, boolean, number, string, array, object, Members, no_members, member, put, depth}
use Rattle.serde_json.specs.Find.{as_null, of_integer}
use Rattle.serde_json.specs.View.{items_of}
use Rattle.serde_json.specs.Written.{has_float, compact_text}
use Rattle.ps_json.specs.Each.{read_each}
use Rattle.ps_json.proofs.TreeLemmas.{items_list-items_of}
use Rattle.ps_time.proofs.PictureLemmas.{and_true}
use Rattle.ps_time.specs.Length.{length_of, length_text_of}
use Rattle.ps_time.specs.Moment.{moment_of, moment_text_of}
use Rattle.ps_time.specs.declared.moment.Round.{Round}
use Rattle.ps_time.specs.declared.moment.Round.TheVariants.{Up}
use Rattle.ps_time.specs.declared.moment.TheConstants.{MAX_LENGTH, MAX_MOMENT}
use Rattle.plugin_core.specs.Bounds.{IsTest}
use Rattle.plugin_core.specs.ReadTest.{test_of}
use Rattle.plugin_core.specs.WriteTest.{names_data, test_data}
use Rattle.plugin_core.specs.declared.test_spec.TestSpec.{TestSpec}
use Rattle.archive_retry.specs.Merge.{result_tree as kept_tree}
use Rattle.schedule_rule.specs.Rule.{Schedule}
use Rattle.task_spec.proofs.ArchiveLemmas.{archives_back}
use Rattle.task_spec.proofs.ScheduleLemmas.{schedule_back}
use Rattle.task_spec.proofs.StartLemmas.{start_read}
use Rattle.task_spec.specs.Bounds.{IsReference, IsTask}
use Rattle.task_spec.specs.ReadArchive.{archives_in}
use Rattle.task_spec.specs.ReadSchedule.{schedule_in}
use Rattle.task_spec.specs.ReadTask.{is_tool, leads, tool_name_in, tools_in, reference_in, priority_in, test_in, task_of}
use Rattle.task_spec.specs.WriteTask.{count_data, schedule_data, archive_data, task_data}
use Rattle.task_spec.specs.declared.task.Archive.{Archive}
use Rattle.task_spec.specs.declared.task.Task.{Task}

tools_read : (name : List ℕ) (tools : List (List ℕ)) → list_all is_tool tools ≡ true → read_each (tool_name_in name) (map string tools) ≡ Ok tools
tools_read name [] are = refl
tools_read name (t ∷ ts) are =
    let each = and_true (is_tool t) (list_all is_tool ts) are in rw (each.0, tools_read name ts each.1) refl

tools_back : (name : List ℕ) (tools : List (List ℕ)) → 1 ≤ length tools → list_all is_tool tools ≡ true → length tools ≤ 8 → tools_in [] name (names_data tools) ≡ Ok tools
tools_back name tools some are few =
    let count : nat_le 1 (length tools) && nat_le (length tools) 8 ≡ true = grind (arith, nat_tests) in
    rw (items_list-items_of (map string tools), length-map tools string, count) (tools_read name tools are)

priority_back : (name : List ℕ) (z : ℤ) → negsuc 999 ≤ℤ z → z ≤ℤ pos 1_000 → priority_in name (number (of_integer z)) ≡ Ok z
priority_back name (pos n) low high =
    let bound : n ≤ 1_000 = omega (arith, ints, high) in
    let small : nat_lt n (2 ^ 63) ≡ true = grind (arith, nat_tests) in
    let within : nat_le n 1_000 ≡ true = grind (arith, nat_tests) in
    rw (small, within) refl
priority_back name (negsuc n) low high =
    let bound : n ≤ 999 = omega (arith, ints, low) in let within : nat_le n 999 ≡ true = grind (arith, nat_tests) in rw within refl

not_null : (d : Data) → d ≢ null → is_some (as_null d) ≡ false
not_null null some = absurd (some refl)
not_null (boolean b) some = refl
not_null (number n) some = refl
not_null (string s) some = refl
not_null (array ds) some = refl
not_null (object ms) some = refl

reference_read : (name bs : List ℕ) (d : Data) → is_some (as_null d) ≡ false → has_float d ≡ false → nat_le (depth d) 63 ≡ true → compact_text d ≡ bs → nat_le (length bs) 65_536 ≡ true → reference_in name d ≡ Ok (Some bs)
reference_read name bs d some whole flat text short = rw (some, whole, flat, text, short) refl

reference_back : (name bs : List ℕ) → IsReference bs → reference_in name (kept_tree (Some bs)) ≡ Ok (Some bs)
reference_back name bs is =
    let flat : nat_le (depth is.tree) 63 ≡ true = grind (arith, nat_tests, is.flat) in
    let short : nat_le (length bs) 65_536 ≡ true = grind (arith, nat_tests, is.short) in
    rw is.reads (reference_read name bs is.tree (not_null is.tree is.some) is.whole flat is.text short)

-- the members of a task, put together
module _ (now : ℕ) (host : List ℕ) (test : TestSpec) (rule : Schedule) (archives : List Archive) (reference : Option (List ℕ)) (priority : ℤ) (t s a r p : Data) (ht : test_in host (codes "test") t ≡ Ok test) (hs : schedule_in now (codes "schedule") s ≡ Ok rule) (ha : archives_in (codes "archives") a ≡ Ok archives) (hr : reference_in (codes "reference") r ≡ Ok reference) (hp : priority_in (codes "priority") p ≡ Ok priority) where
  abbrev the_members : Members
  the_members =
      member (codes "archives") a (member (codes "priority") p (member (codes "reference") r (member (codes "schedule") s (member (codes "schema") (count_data 1) (member (codes "test") t no_members)))))

  no_tools : task_of now host (object the_members) ≡ Ok (record { test = test; tools = []; rule = rule; archives = archives; reference = reference; priority = priority })
  no_tools = rw (ht, hs, ha, hr, hp) refl

  some_tools : (tools : List (List ℕ)) (n : Data) → tools_in [] (codes "tools") n ≡ Ok tools → task_of now host (object (put (codes "tools") n the_members)) ≡ Ok (record { test = test; tools = tools; rule = rule; archives = archives; reference = reference; priority = priority })
  some_tools tools n hn = rw (ht, hn, hs, ha, hr, hp) refl

module _ (lengths : (n : ℕ) → n ≤ MAX_LENGTH → length_of (length_text_of n) ≡ Ok n) (moments : (round : Round) (m : ℕ) → m ≤ MAX_MOMENT → moment_of round (moment_text_of m) ≡ Ok m) (tests : (test : TestSpec) → IsTest test → test_of (test_data test) ≡ Ok test) where
  reference_again : (reference : Option (List ℕ)) → IfSome reference IsReference → reference_in (codes "reference") (kept_tree reference) ≡ Ok reference
  reference_again None is = refl
  reference_again (Some bs) is = reference_back (codes "reference") bs is

  test_again : (host : List ℕ) (test : TestSpec) → IsTest test → leads host test ≡ true → test_in host (codes "test") (test_data test) ≡ Ok test
  test_again host test is lead = rw (tests test is, lead) refl

  again : (now : ℕ) (host : List ℕ) (test : TestSpec) (tools : List (List ℕ)) (rule : Schedule) (archives : List Archive) (reference : Option (List ℕ)) (priority : ℤ) → IsTask host (record { test = test; tools = tools; rule = rule; archives = archives; reference = reference; priority = priority }) → task_of now host (task_data (record { test = test; tools = tools; rule = rule; archives = archives; reference = reference; priority = priority })) ≡ Ok (record { test = test; tools = tools; rule = rule; archives = archives; reference = reference; priority = priority })
  again now host test [] rule archives reference priority is =
      no_tools now host test rule archives reference priority (test_data test) (schedule_data rule) (array (items_of (map archive_data archives))) (kept_tree reference) (number (of_integer priority))
      (test_again host test is.test is.lead)
      (schedule_back lengths moments (λ now m h. start_read now (moment_text_of m) m (moments Up m h)) now (codes "schedule") rule is.rest.rule is.rest.runs)
      (archives_back lengths (codes "archives") archives is.rest.archives is.rest.few_archives)
      (reference_again reference is.rest.reference)
      (priority_back (codes "priority") priority is.rest.priority.0 is.rest.priority.1)
  again now host test (n ∷ ns) rule archives reference priority is =
      some_tools now host test rule archives reference priority (test_data test) (schedule_data rule) (array (items_of (map archive_data archives))) (kept_tree reference) (number (of_integer priority))
      (test_again host test is.test is.lead)
      (schedule_back lengths moments (λ now m h. start_read now (moment_text_of m) m (moments Up m h)) now (codes "schedule") rule is.rest.rule is.rest.runs)
      (archives_back lengths (codes "archives") archives is.rest.archives is.rest.few_archives)
      (reference_again reference is.rest.reference)
      (priority_back (codes "priority") priority is.rest.priority.0 is.rest.priority.1)
      (n ∷ ns) (names_data (n ∷ ns)) (tools_back (codes "tools") (n ∷ ns) (omega arith) is.rest.tools is.rest.few_tools)

  -- the tree of a task is read again as that task, whatever the moment
  pub task_back : (now : ℕ) (host : List ℕ) (task : Task) → IsTask host task → task_of now host (task_data task) ≡ Ok task
  task_back now host task is = again now host task.test task.tools task.rule task.archives task.reference task.priority is
