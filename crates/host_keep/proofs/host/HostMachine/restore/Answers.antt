use Rattle.std.proofs.Common.{◌≡◌, ◌∙◌, Err, ap}
use Rattle.host_replay.specs.Stands.{StandsFor}
use Rattle.machine_keep.specs.declared.machine.RestoreFault.TheVariants.{NotARecord}
use Rattle.machine_keep.proofs.RefusalLemmas.{first_as}
use Rattle.host_keep.proofs.HostLemmas.{OfHost, to_book, to_host}
use Rattle.host_keep.proofs.host.HostMachine.restore.Goals as goal

-- it stands for no host with this configuration
pub returns-in-Err-clause-refused : goal.returns-in-Err-clause-refused
returns-in-Err-clause-refused c = λ index e.
    let same : c.in-Err.fault ≡ NotARecord index = cc in
    let refused = c.restore.ensures.refused index (c.in-Err.is ∙ ap Err same) in
    let list = c.args.list.now in
    (refused.0, λ s of either. let one = to_book c.args.origin list s (of, either) in refused.1 one.0 one.1)

pub returns-in-Err-clause-front : goal.returns-in-Err-clause-front
returns-in-Err-clause-front c = λ index e.
    let same : c.in-Err.fault ≡ NotARecord index = cc in
    let config = c.args.origin in
    first_as (StandsFor config.number) (OfHost config) (to_host config) (to_book config) c.args.list.now index (c.restore.ensures.front index (c.in-Err.is ∙ ap Err same))
