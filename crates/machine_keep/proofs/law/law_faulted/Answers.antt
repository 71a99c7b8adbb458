use Rattle.machine_keep.proofs.FaultedLemmas.{faulted}
use Rattle.machine_keep.proofs.law.law_faulted.Goals as goal

pub returns : goal.returns
returns g c old new call broken first second one two fed fed_too near except_unsure =
    faulted g.M.Machine.state g.M.Machine.stands_for g.M.Machine.record_of g.M.Machine.answers g.M.Machine.follows g.M.Machine.after g.met.M.Machine.stands_more old new call broken first second one two fed fed_too near except_unsure
