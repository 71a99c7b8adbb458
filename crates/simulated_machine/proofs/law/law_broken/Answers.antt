use Rattle.machine_keep.specs.Faulted.{wanted_calls}
use Rattle.simulated_machine.proofs.BrokenLemmas.{broken_so, in_reach, near_wanted}
use Rattle.simulated_machine.proofs.law.law_broken.Goals as goal

pub returns : goal.returns
returns g c old new call h n held few small within broken unready except_unsure fed fed_too =
    let calls = wanted_calls g.M.Machine.state g.M.Machine.stands_for g.M.Machine.record_of g.M.Machine.answers g.M.Machine.follows g.M.Machine.after old new call broken in
    let near = near_wanted g.M.Machine.state g.M.Machine.stands_for g.M.Machine.record_of g.M.Machine.answers g.M.Machine.follows g.M.Machine.after g.met.M.Machine.stands_more old new call h held within broken in
    let reach = in_reach g.M.Machine.state g.M.Machine.stands_for g.M.Machine.record_of g.M.Machine.answers g.M.Machine.follows g.M.Machine.after g.met.M.Machine.stands_more old new call h held within broken in
    let faulted = c.law_faulted.ensures old new call broken h.first h.second held.first held.second fed fed_too near except_unsure in
    let again = c.law_left_again.ensures old new call broken h.first h.second faulted held.first held.second fed fed_too near (reach faulted.number) in
    let stopped = c.law_stopped.ensures old.journal new.journal calls h.first h.second broken.unkept.told held.first held.second fed fed_too near in
    broken_so g.M.Machine.state g.M.Machine.stands_for g.M.Machine.record_of g.M.Machine.answers g.M.Machine.follows g.M.Machine.after g.met.M.Machine.stands_more old new call h held within broken n few small unready fed fed_too
    faulted again stopped
