use Rattle.host_journal.specs.State.{is_ready}
use Rattle.machine_keep.specs.Calls.{sync_calls}
use Rattle.simulated_machine.proofs.MadeLemmas.{near_syncs}
use Rattle.simulated_machine.proofs.SyncFailedLemmas.{sync_failed}
use Rattle.simulated_machine.proofs.law.law_sync_failed.Goals as goal

pub returns : goal.returns
returns g c old new h n held few small unsettled fed fed_too =
    sync_failed g.M.Machine.state g.M.Machine.stands_for g.M.Machine.after old new h n held few small unsettled fed fed_too
    (c.law_left_still.ensures old new h.first h.second unsettled.unfound held.first held.second fed fed_too)
    (c.law_stopped.ensures old.journal new.journal (sync_calls (is_ready old.journal.pending)) h.first h.second unsettled.unfound.told held.first held.second fed fed_too (near_syncs (is_ready old.journal.pending)))
