-- The tree of a task has whole numbers alone, and nests at most 64 levels.
use Rattle.std.proofs.Common.{◌≡◌, ℕ, ℤ, pos, negsuc, ◌≤◌, List, [], ◌∷◌, map, All, false, Option, Some, None, IfSome, refl, arith}
use Rattle.std.proofs.lemmas.List.Elements.{All-head, All-tail}
use Rattle.serde_json.specs.Data.{depth, items_depth, members_depth}
use Rattle.serde_json.specs.Find.{of_integer, is_float}
use Rattle.serde_json.specs.View.{items_of}
use Rattle.serde_json.specs.Written.{has_float, items_have_float, members_have_float}
use Rattle.archive_retry.specs.Merge.{result_tree as kept_tree}
use Rattle.archive_retry.specs.declared.policy.Entry.{Entry}
use Rattle.plugin_core.proofs.ShapeLemmas.{test_whole, test_flat, names_whole, names_flat}
use Rattle.schedule_rule.specs.Rule.{Schedule}
use Rattle.task_spec.specs.Bounds.{IsArchive, IsReference, IsRest}
use Rattle.task_spec.specs.ReadArchive.{settings_members}
use Rattle.task_spec.specs.WriteTask.{schedule_data, entry_data, with_policy, archive_data, task_data}
use Rattle.task_spec.specs.declared.task.Archive.{Archive}
use Rattle.task_spec.specs.declared.task.Task.{Task}

-- a schedule
schedule_parts : (a s : ℕ) (r u n : Option ℕ) → (has_float (schedule_data (record { anchor = a; slip = s; repeat = r; until = u; max_runs = n })) ≡ false) × (depth (schedule_data (record { anchor = a; slip = s; repeat = r; until = u; max_runs = n })) ≡ 1)
schedule_parts a s None None None = (refl, refl)
schedule_parts a s None None (Some n) = (refl, refl)
schedule_parts a s None (Some u) None = (refl, refl)
schedule_parts a s None (Some u) (Some n) = (refl, refl)
schedule_parts a s (Some r) None None = (refl, refl)
schedule_parts a s (Some r) None (Some n) = (refl, refl)
schedule_parts a s (Some r) (Some u) None = (refl, refl)
schedule_parts a s (Some r) (Some u) (Some n) = (refl, refl)

schedule_shape : (rule : Schedule) → (has_float (schedule_data rule) ≡ false) × (depth (schedule_data rule) ≡ 1)
schedule_shape rule = schedule_parts rule.anchor rule.slip rule.repeat rule.until rule.max_runs

-- an archive, with its policy
entries_whole : (es : List Entry) → items_have_float (items_of (map entry_data es)) ≡ false
entries_whole [] = refl
entries_whole (e ∷ es) = entries_whole es

entries_flat : (es : List Entry) → items_depth (items_of (map entry_data es)) ≤ 1
entries_flat [] = omega arith
entries_flat (e ∷ es) = omega (arith, entries_flat es)

data_shape : (fail : Option ℕ) (es : List Entry) → (members_have_float (with_policy es (settings_members fail)) ≡ false) × (members_depth (with_policy es (settings_members fail)) ≤ 2)
data_shape None [] = (refl, omega arith)
data_shape (Some n) [] = (refl, omega arith)
data_shape None (e ∷ es) = (rw (entries_whole es) refl, omega (arith, entries_flat es))
data_shape (Some n) (e ∷ es) = (rw (entries_whole es) refl, omega (arith, entries_flat es))

archive_shape : (a : Archive) → IsArchive a → (has_float (archive_data a) ≡ false) × (depth (archive_data a) ≤ 4)
archive_shape a is =
    let shape = data_shape is.fail a.policy.entries in
    (rw (is.reads, shape.0) refl, rw is.reads (omega (arith, shape.1)))

archives_whole : (archives : List Archive) → All IsArchive archives → items_have_float (items_of (map archive_data archives)) ≡ false
archives_whole [] are = refl
archives_whole (a ∷ rest) are = rw ((archive_shape a (All-head IsArchive a rest are)).0) (archives_whole rest (All-tail IsArchive a rest are))

archives_flat : (archives : List Archive) → All IsArchive archives → items_depth (items_of (map archive_data archives)) ≤ 4
archives_flat [] are = omega arith
archives_flat (a ∷ rest) are = omega (arith, (archive_shape a (All-head IsArchive a rest are)).1, archives_flat rest (All-tail IsArchive a rest are))

-- a reference
kept_whole : (reference : Option (List ℕ)) → IfSome reference IsReference → has_float (kept_tree reference) ≡ false
kept_whole None is = refl
kept_whole (Some bs) is = rw is.reads is.whole

kept_flat : (reference : Option (List ℕ)) → IfSome reference IsReference → depth (kept_tree reference) ≤ 63
kept_flat None is = omega arith
kept_flat (Some bs) is = rw is.reads is.flat

priority_whole : (z : ℤ) → is_float (of_integer z) ≡ false
priority_whole (pos n) = refl
priority_whole (negsuc n) = refl

module _ (task : Task) (rest : IsRest (record { tools = task.tools; rule = task.rule; archives = task.archives; reference = task.reference; priority = task.priority })) where
  whole_with : (tools : List (List ℕ)) → has_float (task_data (record task { tools = tools })) ≡ false
  whole_with [] =
      rw (archives_whole task.archives rest.archives, priority_whole task.priority, kept_whole task.reference rest.reference, (schedule_shape task.rule).0, test_whole task.test) refl
  whole_with (n ∷ ns) =
      rw (archives_whole task.archives rest.archives, priority_whole task.priority, kept_whole task.reference rest.reference, (schedule_shape task.rule).0, test_whole task.test, names_whole ns) refl

  flat_with : (tools : List (List ℕ)) → depth (task_data (record task { tools = tools })) ≤ 64
  flat_with [] =
      omega (arith, archives_flat task.archives rest.archives, kept_flat task.reference rest.reference, (schedule_shape task.rule).1, test_flat task.test)
  flat_with (n ∷ ns) =
      omega (arith, archives_flat task.archives rest.archives, kept_flat task.reference rest.reference, (schedule_shape task.rule).1, test_flat task.test, names_flat ns)

  pub task_whole : has_float (task_data task) ≡ false
  task_whole = whole_with task.tools

  pub task_flat : depth (task_data task) ≤ 64
  task_flat = flat_with task.tools
