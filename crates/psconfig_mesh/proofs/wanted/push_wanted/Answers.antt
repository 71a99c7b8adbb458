use Rattle.std.proofs.Common.{◌++◌}
use Rattle.std.specs.Vec.Iter.{into_iter_items}
use Rattle.std.proofs.lemmas.List.Elements.{All-push}
use Rattle.psconfig_mesh.specs.Body.{body_data, fits}
use Rattle.psconfig_mesh.specs.Mesh.{IsWanted, wanted, wanted_by}
use Rattle.psconfig_mesh.proofs.WantedLemmas.{pair_pushed, fit_left}
use Rattle.psconfig_mesh.proofs.wanted.push_wanted.Goals as goal

pub loop-pair-preserved : goal.loop-pair-preserved
loop-pair-preserved c =
    let mesh = c.args.mesh.now in
    let task = c.args.task.now in
    let left = into_iter_items c.next.new.self in
    let pairs = into_iter_items c.loop-pair.pair-iterator in
    record {
      value = pair_pushed (c.args.wanted.now.items ++ wanted_by mesh task) c.loop-pair.wanted.items c.push.new.self.items (wanted mesh task) c.in-Some.pair pairs left c.in_ok-wanted_of.field-0 c.loop-pair.invariant.value c.in-Some.ensures.steps.0 c.in_ok-wanted_of.ensures.value c.in_ok-push.ensures.items;
      fit = fit_left (λ pair. fits mesh.moment pair.first (body_data mesh.name task pair)) c.in-Some.pair pairs left c.in-Some.ensures.steps.0 c.loop-pair.invariant.fit;
      reads = λ before. rw c.in_ok-push.ensures.items (All-push (IsWanted mesh.moment) c.loop-pair.wanted.items c.in_ok-wanted_of.field-0 (c.loop-pair.invariant.reads before) c.in_ok-wanted_of.ensures.reads);
    }
