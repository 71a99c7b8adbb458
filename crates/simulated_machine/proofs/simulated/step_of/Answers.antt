use Rattle.std.proofs.Common.{◌≡◌, ◌+◌, ⊎_elim, Err, ap, arith, inl, inr, subst, sym}
use Rattle.std.specs.Prelude.{length, take}
use Rattle.host_journal.specs.State.{first_disk, second_disk}
use Rattle.simulated_machine.specs.Held.{Held, armed_at, schedule, syncs}
use Rattle.simulated_machine.specs.IsHeld.{IsHeld}
use Rattle.simulated_machine.specs.AfterStep.{Done}
use Rattle.simulated_machine.proofs.SimulatedLemmas.{faults_armed, held_armed, made_armed, or_parts, same_faults}
use Rattle.simulated_machine.proofs.simulated.step_of.Goals as goal

pub returns-else-put_off-ne0-clause-done : goal.returns-else-put_off-ne0-clause-done
returns-else-put_off-ne0-clause-done g c reply is off h held =
    let old = c.args.keep.now in
    let new = c.apply.new.self in
    let fed = or_parts (first_disk new.journal).starved (second_disk new.journal).starved (sym c.if-is_starved.ensures) in
    let ready = c.in-Ok.ensures.ready (λ e. cc e) in
    let same : c.in-Ok.reply ≡ reply = cc is in
    subst (λ r. (x : Held g.M.Machine.State) × IsHeld g.M.Machine.state g.M.Machine.stands_for g.M.Machine.after new x × Done g.M.Machine.stands_for g.M.Machine.record_of g.M.Machine.answers g.M.Machine.follows g.M.Machine.after h x c.args.call r) same
    (c.law_done.ensures old new c.args.call c.in-Ok.reply c.apply.result h held c.in-Ok.is
    (record { calls_advance = c.apply.ensures.calls_advance; cause = c.apply.ensures.cause; no_fault = c.apply.ensures.no_fault })
    c.in-Ok.ensures.answered ready (c.known.ensures.sure ready) (c.in-Ok.ensures.durable tt) (c.known.ensures.place tt ready) (c.known.ensures.each tt ready) fed.0 fed.1 (omega (arith, c.put_off.ensures, c.if-put_off-ne0.false, off)) off)

pub returns-else-put_off-ne0-clause-no_fault : goal.returns-else-put_off-ne0-clause-no_fault
returns-else-put_off-ne0-clause-no_fault g c reply is n fits few =
    let old = c.args.keep.now.journal in
    let new = c.apply.new.self.journal in
    let same = c.in-Ok.ensures.no_fault (λ e. cc e) in
    (same_faults (first_disk old).faults (first_disk new).faults n same.0 few.0 fits, same_faults (second_disk old).faults (second_disk new).faults n same.1 few.1 fits)

pub returns-else-put_off-ne0-2-clause-faulted : goal.returns-else-put_off-ne0-2-clause-faulted
returns-else-put_off-ne0-2-clause-faulted g c is h n held few fits small =
    let old = c.args.keep.now in
    let mid = c.apply.new.self in
    let new = c.fail_at.new.self in
    let fed = or_parts (first_disk mid.journal).starved (second_disk mid.journal).starved (sym c.if-is_starved-2.ensures) in
    let met = ap Err c.in-Err-Disk.field-0-is in
    let f = c.fail_at.ensures in
    let state = g.M.Machine.state in
    let stands = g.M.Machine.stands_for in
    let after = g.M.Machine.after in
    let arm = held_armed state stands after 0 mid new f.on_first f.on_second f.pending f.machine f.unsure in
    let arm_few = faults_armed state stands after 0 mid new f.on_first f.on_second f.pending f.machine f.unsure (n + 1) in
    let arm_made = made_armed state stands after 0 mid new f.on_first f.on_second f.pending f.machine f.unsure old in
    ⊎_elim
    (λ u. let it = c.law_sync_failed.ensures old mid h n held few fits u fed.0 fed.1 in (armed_at it.0 0, arm it.0 it.1, arm_few it.2, inl (it.3, arm_made (take it.3.number (schedule h)) it.4)))
    (λ b. let it = c.law_broken.ensures old mid c.args.call h n held few fits small b (c.in-Err-Disk.ensures.unready met) (c.known-in-Err-Disk.ensures.except_unsure tt) fed.0 fed.1 in (armed_at it.0 0, arm it.0 it.1, arm_few it.2, inr (it.3, arm_made (take (length (syncs h.ready) + it.3.number) (schedule h)) it.4)))
    (c.in-Err-Disk.ensures.broken met)
