use Rattle.std.proofs.Common.{arith, subst, sym}
use Rattle.host_model.specs.Conditions.{IsConfig}
use Rattle.host_model.specs.declared.config.Config.{Config}
use Rattle.psched_rehearse.proofs.PlayLemmas.{right_config}
use Rattle.psched_rehearse.proofs.rehearse.open_hosts.Goals as goal

-- a host may have the configuration that it has at first
pub open-requires : goal.open-requires
open-requires c = subst (λ (x : Config). IsConfig x) (sym c.in_ok-config.ensures) (right_config c.args.hosts.now c.requires c.loop-host.host-index c.host-item.result (omega arith) c.host-item.is)
