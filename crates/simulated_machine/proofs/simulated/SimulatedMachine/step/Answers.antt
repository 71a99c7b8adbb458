use Rattle.std.proofs.Common.{◌∙◌, ◌⊎◌, None, Ok, ap, arith, subst, sym}
use Rattle.simulated_machine.specs.IsHeld.{IsCounting, held, held_of}
use Rattle.simulated_machine.specs.AfterStep.{Broken, Done, SyncFailed}
use Rattle.simulated_machine.proofs.StepLemmas.{Tells, answered_counts, answered_done, answered_holds, answered_ready, faulted_counts, faulted_holds, faulted_so}
use Rattle.simulated_machine.proofs.simulated.SimulatedMachine.step.Goals as goal

pub step_of-requires : goal.step_of-requires
step_of-requires g c =
    let holds = (c.self.invariant c.if-not-self.false).0 in
    record { may = subst (λ f. g.M.Machine.may_ask f c.args.call) holds.is_fixed (subst (λ s. g.M.Machine.may_ask (g.M.Machine.fixed (held g.M.Machine.state g.M.Machine.after s).state) c.args.call) (sym c.self.view_is) c.requires) }

pub invariant_of-self-in-Answered : goal.invariant_of-self-in-Answered
invariant_of-self-in-Answered g c fed =
    let m = g.M.Machine in
    let old = c.self.inside.keep in
    let new = c.step_of.new.keep in
    let holds = (c.self.invariant c.if-not-self.false).0 in
    let is = c.in_ok-reply.was ∙ ap Ok c.in-Answered.is in
    let it = c.step_of.ensures.done c.in-Answered.reply is holds.made (held_of m.state m.after old c.self.inside.unsynced) holds.held in
    let at = c.known.ensures.place tt (answered_ready m.fixed m.state m.stands_for m.record_of m.answers m.follows m.after g.met.M.Machine.fixed_after old new c.self.inside.unsynced c.self.inside.faults c.self.inside.most_bytes holds c.step_of.ensures.fixed c.args.call c.in-Answered.reply it) in (
      answered_holds m.fixed m.state m.stands_for m.record_of m.answers m.follows m.after g.met.M.Machine.fixed_after old new c.self.inside.unsynced c.self.inside.faults c.self.inside.most_bytes holds c.step_of.ensures.fixed c.args.call c.in-Answered.reply it
          (c.step_of.ensures.no_fault c.in-Answered.reply is c.self.inside.faults (omega (arith, c.if-self-gt-MOST.false)) holds.few)
          (c.in_ok-reply.ensures.made holds.made) c.snapshot_bytes.result c.record_bytes.result c.saturating_add-self-inside.result c.snapshot_bytes.ensures c.record_bytes.ensures c.saturating_add-self-inside.ensures at,
      answered_counts m.fixed m.state m.stands_for m.record_of m.answers m.follows m.after g.met.M.Machine.fixed_after old new c.self.inside.unsynced c.self.inside.faults c.self.inside.most_bytes holds c.step_of.ensures.fixed c.args.call c.in-Answered.reply it c.is_second-self-inside.result c.is_second-self-inside.ensures at,
    )

pub invariant_of-self-in-Faulted : goal.invariant_of-self-in-Faulted
invariant_of-self-in-Faulted g c fed =
    let m = g.M.Machine in
    let old = c.self.inside.keep in
    let new = c.step_of.new.keep in
    let holds = (c.self.invariant c.if-not-self.false).0 in
    let is = c.in_ok-reply.was ∙ ap Ok c.in-Faulted.is in
    let it = c.step_of.ensures.faulted is (held_of m.state m.after old c.self.inside.unsynced) c.self.inside.faults holds.held holds.few (omega (arith, c.if-self-gt-MOST.false)) (omega (arith, c.if-self-gt-MOST-2.false, holds.size (omega (arith, c.if-self-gt-MOST-2.false)))) in
    let l = c.unsynced_after-self-inside.ensures in
    let first = c.saturating_sub-first.result in
    let second = c.saturating_sub-second.result in
    let tells : Tells m.fixed m.state m.stands_for m.record_of m.answers m.follows m.after g.met.M.Machine.fixed_after old new c.self.inside.unsynced c.self.inside.faults c.self.inside.most_bytes holds c.step_of.ensures.fixed c.unsynced_after-self-inside.result first second = record {
      first_made = omega (arith, c.saturating_sub-first.ensures, c.calls-after.ensures.first, c.calls-before.ensures.first);
      second_made = omega (arith, c.saturating_sub-second.ensures, c.calls-after.ensures.second, c.calls-before.ensures.second);
      sync_failed = λ failed. l.sync_failed (c.is_ready-was_ready.ensures ∙ failed);
      ready = λ ready. l.ready (c.is_ready-was_ready.ensures ∙ ready);
      again = λ failed. l.again (c.is_ready-was_ready.ensures ∙ failed);
    } in (
      faulted_holds m.fixed m.state m.stands_for m.record_of m.answers m.follows m.after g.met.M.Machine.fixed_after old new c.self.inside.unsynced c.self.inside.faults c.self.inside.most_bytes holds c.step_of.ensures.fixed c.unsynced_after-self-inside.result first second tells c.args.call it.0 it.1 it.3 (omega (arith, c.if-self-gt-MOST-2.false)) it.2 (c.in_ok-reply.ensures.made holds.made),
      subst (IsCounting new.journal c.unsynced_after-self-inside.result) (sym c.unwrap_or-self-inside.ensures)
          (faulted_counts m.fixed m.state m.stands_for m.record_of m.answers m.follows m.after g.met.M.Machine.fixed_after old new c.self.inside.unsynced c.self.inside.faults c.self.inside.most_bytes holds c.step_of.ensures.fixed c.unsynced_after-self-inside.result first second tells c.args.call it.0 it.1 it.3 c.self.inside.second (c.self.invariant c.if-not-self.false).1),
    )

pub returns-in-Answered-clause-done : goal.returns-in-Answered-clause-done
returns-in-Answered-clause-done g c reply same =
    let m = g.M.Machine in
    let old = c.self.inside.keep in
    let new = c.step_of.new.keep in
    let holds = (c.self.invariant c.if-not-self.false).0 in
    let is = c.in_ok-reply.was ∙ ap Ok c.in-Answered.is in
    let it = c.step_of.ensures.done c.in-Answered.reply is holds.made (held_of m.state m.after old c.self.inside.unsynced) holds.held in
    subst (λ s. Done m.stands_for m.record_of m.answers m.follows m.after (held m.state m.after s) (held_of m.state m.after new None) c.args.call reply) c.self.view_is
    (subst (λ r. Done m.stands_for m.record_of m.answers m.follows m.after (held_of m.state m.after old c.self.inside.unsynced) (held_of m.state m.after new None) c.args.call r) (cc same)
    (answered_done m.fixed m.state m.stands_for m.record_of m.answers m.follows m.after g.met.M.Machine.fixed_after old new c.self.inside.unsynced c.self.inside.faults c.self.inside.most_bytes holds c.step_of.ensures.fixed c.args.call c.in-Answered.reply it))

pub returns-in-Faulted-clause-faulted : goal.returns-in-Faulted-clause-faulted
returns-in-Faulted-clause-faulted g c same =
    let m = g.M.Machine in
    let old = c.self.inside.keep in
    let new = c.step_of.new.keep in
    let holds = (c.self.invariant c.if-not-self.false).0 in
    let is = c.in_ok-reply.was ∙ ap Ok c.in-Faulted.is in
    let it = c.step_of.ensures.faulted is (held_of m.state m.after old c.self.inside.unsynced) c.self.inside.faults holds.held holds.few (omega (arith, c.if-self-gt-MOST.false)) (omega (arith, c.if-self-gt-MOST-2.false, holds.size (omega (arith, c.if-self-gt-MOST-2.false)))) in
    let l = c.unsynced_after-self-inside.ensures in
    let first = c.saturating_sub-first.result in
    let second = c.saturating_sub-second.result in
    let tells : Tells m.fixed m.state m.stands_for m.record_of m.answers m.follows m.after g.met.M.Machine.fixed_after old new c.self.inside.unsynced c.self.inside.faults c.self.inside.most_bytes holds c.step_of.ensures.fixed c.unsynced_after-self-inside.result first second = record {
      first_made = omega (arith, c.saturating_sub-first.ensures, c.calls-after.ensures.first, c.calls-before.ensures.first);
      second_made = omega (arith, c.saturating_sub-second.ensures, c.calls-after.ensures.second, c.calls-before.ensures.second);
      sync_failed = λ failed. l.sync_failed (c.is_ready-was_ready.ensures ∙ failed);
      ready = λ ready. l.ready (c.is_ready-was_ready.ensures ∙ ready);
      again = λ failed. l.again (c.is_ready-was_ready.ensures ∙ failed);
    } in
    let now = held_of m.state m.after new c.unsynced_after-self-inside.result in
    subst (λ s. SyncFailed (held m.state m.after s) now ⊎ Broken m.stands_for m.record_of m.answers m.follows m.after (held m.state m.after s) now c.args.call) c.self.view_is
    (faulted_so m.fixed m.state m.stands_for m.record_of m.answers m.follows m.after g.met.M.Machine.fixed_after old new c.self.inside.unsynced c.self.inside.faults c.self.inside.most_bytes holds c.step_of.ensures.fixed c.unsynced_after-self-inside.result first second tells c.args.call it.0 it.1 it.3)
