use Rattle.machine_keep.proofs.LeftLemmas.{left_again}
use Rattle.machine_keep.proofs.law.law_left_again.Goals as goal

pub returns : goal.returns
returns g c old new call broken first second faulted one two fed fed_too near reach =
    left_again g.M.Machine.state g.M.Machine.stands_for g.M.Machine.record_of g.M.Machine.answers g.M.Machine.follows g.M.Machine.after old new call broken first second faulted one two fed fed_too near reach
