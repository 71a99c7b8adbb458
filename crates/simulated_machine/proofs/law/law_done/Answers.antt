use Rattle.std.specs.Prelude.{Err, option_map}
use Rattle.std.proofs.Common.{◌≡◌}
use Rattle.host_journal.specs.State.{first_disk, is_ready, second_disk}
use Rattle.machine_keep.specs.Calls.{PairCalls, first_calls, second_calls, step_calls}
use Rattle.machine_keep.specs.declared.fault.StepFault.TheVariants.{Disk as disk_fault}
use Rattle.simulated_machine.proofs.DoneLemmas.{done_step}
use Rattle.simulated_machine.proofs.law.law_done.Goals as goal

pub returns : goal.returns
returns g c old new call reply result h held is step answered ready sure durable at each fed_one fed_two same_off none_off =
    let no_fault : result ≡ Err disk_fault → ⊥ = λ failed. cc (is, failed) in
    let calls : PairCalls = step_calls (is_ready old.journal.pending) answered.place (option_map g.M.Machine.record_of answered.step) answered.image in
    let spared = c.law_armed.ensures.no_fault old.journal new.journal result h.first h.second step held.first held.second no_fault in
    let through = c.law_through.ensures old.journal new.journal result calls h.first h.second step no_fault answered.told held.first held.second in
    let made_one = c.law_made.ensures (first_disk old.journal) (first_disk new.journal) (first_calls calls) fed_one answered.told.0 in
    let made_two = c.law_made.ensures (second_disk old.journal) (second_disk new.journal) (second_calls calls) fed_two answered.told.1 in
    done_step g.M.Machine.state g.M.Machine.stands_for g.M.Machine.record_of g.M.Machine.answers g.M.Machine.follows g.M.Machine.after
    old new call reply h held answered ready sure durable at each same_off none_off spared.0 spared.1 made_one made_two through.place
