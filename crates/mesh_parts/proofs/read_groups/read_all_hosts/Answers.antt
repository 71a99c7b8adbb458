use Rattle.std.proofs.Common.{◌∙◌}
use Rattle.serde_json.specs.View.{view}
use Rattle.ps_json.proofs.EachLemmas.{read_each-begins, read_after-item}
use Rattle.mesh_parts.specs.ReadGroups.{host_in}
use Rattle.mesh_parts.proofs.read_groups.read_all_hosts.Goals as goal

pub loop-value-init : goal.loop-value-init
loop-value-init c = read_each-begins (host_in c.args.addresses.now c.args.name.now) view _ _ _ c.new-hosts.ensures c.into_iter-value-iterator.ensures.into_iter_gives.0

pub loop-value-preserved : goal.loop-value-preserved
loop-value-preserved c =
    c.loop-value.invariant ∙ read_after-item (host_in c.args.addresses.now c.args.name.now) view _ _ _ _ _ _ c.in-Some.ensures.steps.0 c.in_ok-read_host.ensures c.in_ok-push.ensures.ok
