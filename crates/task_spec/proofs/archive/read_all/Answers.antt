use Rattle.std.proofs.Common.{arith, ◌∙◌}
use Rattle.std.proofs.lemmas.Grind.{common_steps}
use Rattle.std.proofs.lemmas.List.Elements.{All-push}
use Rattle.serde_json.specs.View.{view}
use Rattle.ps_json.proofs.EachLemmas.{read_each-begins, read_after-item}
use Rattle.task_spec.specs.Bounds.{IsArchive}
use Rattle.task_spec.specs.ReadArchive.{archive_of}
use Rattle.task_spec.proofs.archive.read_all.Goals as goal

pub loop-value-init : goal.loop-value-init
loop-value-init c = record {
  decides = read_each-begins archive_of view _ _ _ c.new-archives.ensures c.into_iter-value-iterator.ensures.into_iter_gives.0;
  bounds = grind (arith, common_steps);
  count = grind (arith, common_steps);
}

pub loop-value-preserved : goal.loop-value-preserved
loop-value-preserved c = record {
  decides = c.loop-value.invariant.decides ∙ read_after-item archive_of view _ _ _ _ _ _ c.in-Some.ensures.steps.0 c.in_ok-read_archive.ensures.value c.in_ok-push.ensures.ok;
  bounds = rw c.in_ok-push.ensures.ok (All-push IsArchive c.loop-value.archives c.in_ok-read_archive.field-0 c.loop-value.invariant.bounds c.in_ok-read_archive.ensures.bounds);
  count = grind (arith, common_steps);
}
