-- What is within bounds, so that it can be shown: what the rows of a lawful book keep, and what peers are told by them.
use Rattle.std.specs.Prelude.{IfSome}
use Rattle.plugin_core.specs.Bounds.{IsTest}
use Rattle.archive_retry.specs.Merge.{IsResult, IsResultText, IsTreeText}
use Rattle.run_states.specs.LawfulRow.{IsDenial}
use Rattle.run_states.specs.ResultBytes.{own_result}
use Rattle.run_states.specs.declared.row.RunRow.{RunRow}
use Rattle.task_spec.specs.Bounds.{IsRest}
use Rattle.task_spec.specs.ReadTask.{without_test}
use Rattle.task_spec.specs.declared.task.Task.{Task}
use Rattle.host_model.specs.declared.reply.Reply.{Reply}
use Rattle.host_model.specs.declared.reply.Reply.TheVariants as reply
use Rattle.host_model.specs.declared.view.View.{View as Shown}
use Rattle.host_model.specs.declared.view.View.TheVariants as view

-- its results are texts of trees
pub record IsRunShown (r : RunRow) : Type 0 where
  pub own : IsResult (own_result r)
  pub merged : IfSome r.merged IsTreeText

-- a task that some host may lead
pub record IsTaskShown (t : Task) : Type 0 where
  pub test : IsTest t.test
  pub rest : IsRest (without_test t)

abbrev pub IsViewShown : Shown → Type 0
IsViewShown (view.Task t) = IsTaskShown t.task
IsViewShown (view.Run r archivers s) = IsRunShown r
IsViewShown _ = Unit {0}

-- a reply that a step from a lawful book gives
abbrev pub IsReplyShown : Reply → Type 0
IsReplyShown (reply.View v) = IsViewShown v
IsReplyShown (reply.Denied denial) = IsDenial denial
IsReplyShown (reply.Result text) = IsResultText text
IsReplyShown _ = Unit {0}
