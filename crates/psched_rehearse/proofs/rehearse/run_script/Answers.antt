use Rattle.psched_rehearse.proofs.SimulatedLemmas.{kept_as_well}
use Rattle.psched_rehearse.proofs.rehearse.run_script.Goals as goal

-- the hosts stand at the end as the last simulation has them
pub returns-clause-kept : goal.returns-clause-kept
returns-clause-kept g c = kept_as_well c.in_ok-report.held_hosts.items _ c.in_ok-disks.disks.items c.in_ok-report.ensures.states c.in_ok-disks.ensures
