-- The bounds that every task keeps.
use Rattle.std.specs.Prelude.{ℕ, pos, negsuc, ◌≡◌, ◌≢◌, ◌≤◌, ◌≤ℤ◌, true, List, length, Option, Some, None, Ok, IfSome, All, codes}
use Rattle.std.specs.List.{list_all}
use Rattle.std.specs.Option.{ForSome}
use Rattle.serde_json.specs.Data.{Data, null, object, depth}
use Rattle.serde_json.specs.Written.{compact_text}
use Rattle.ps_json.specs.Tree.{tree_of, IsWhole}
use Rattle.plugin_core.specs.Bounds.{IsTest}
use Rattle.archive_retry.specs.Bounds.{IsPolicy}
use Rattle.schedule_rule.specs.Rule.{IsRule}
use Rattle.task_spec.specs.ReadArchive.{is_archiver, settings_members}
use Rattle.task_spec.specs.ReadTask.{is_tool, leads, without_test}
use Rattle.task_spec.specs.declared.read_task.Rest.{Rest}
use Rattle.task_spec.specs.declared.task.Archive.{Archive}
use Rattle.task_spec.specs.declared.task.Task.{Task}

-- only `failer` has settings
abbrev pub FitsArchiver : List ℕ → Option ℕ → Type 0
FitsArchiver archiver None = Unit {0}
FitsArchiver archiver (Some n) = (archiver ≡ codes "failer") × (n ≤ 1_000)

pub record IsArchive (archive : Archive) : Type 0 where
  pub known : is_archiver archive.archiver ≡ true
  pub fail : Option ℕ
  pub fits : FitsArchiver archive.archiver fail
  pub text : compact_text (object (settings_members fail)) ≡ archive.settings
  pub reads : tree_of archive.settings ≡ Ok (object (settings_members fail))
  pub policy : IsPolicy archive.policy

-- the compact text of a tree, which isn't null
pub record IsReference (reference : List ℕ) : Type 0 where
  pub tree : Data
  pub some : tree ≢ null
  pub whole : IsWhole tree
  pub flat : depth tree ≤ 63
  pub text : compact_text tree ≡ reference
  pub reads : tree_of reference ≡ Ok tree
  pub short : length reference ≤ 65_536

-- what a task has besides its test
pub record IsRest (rest : Rest) : Type 0 where
  pub tools : list_all is_tool rest.tools ≡ true
  pub few_tools : length rest.tools ≤ 8
  pub rule : IsRule rest.rule
  pub runs : ForSome rest.rule.max_runs (λ n. n ≤ 4_294_967_295)
  pub archives : All IsArchive rest.archives
  pub few_archives : length rest.archives ≤ 8
  pub reference : IfSome rest.reference IsReference
  pub priority : (negsuc 999 ≤ℤ rest.priority) × (rest.priority ≤ℤ pos 1_000)

-- a task that the host of this name leads
pub record IsTask (host : List ℕ) (task : Task) : Type 0 where
  pub test : IsTest task.test
  pub lead : leads host task.test ≡ true
  pub rest : IsRest (without_test task)
