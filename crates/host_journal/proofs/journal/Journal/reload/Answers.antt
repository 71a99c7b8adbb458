use Rattle.std.proofs.Common.{refl, sym, ◌∙◌, ap, subst, arith}
use Rattle.std.specs.Vec.{vec_capacity}
use Rattle.host_journal.specs.Reload.{IsOf}
use Rattle.host_journal.specs.State.{State, stored, has_record, AreWithin}
use Rattle.host_journal.proofs.TakenLemmas.{fixed_place, fixed_durable, fixed_sound}
use Rattle.host_journal.proofs.ReloadLemmas.{neither, recorded, snapped, fixed_neither, fixed_recorded, fixed_snapped, answer_neither, answer_recorded}
use Rattle.host_journal.proofs.journal.Journal.reload.Goals as goal

pub invariant_of-self-in-Nothing : goal.invariant_of-self-in-Nothing
invariant_of-self-in-Nothing g c =
    (c.self.invariant.0, c.self.invariant.1, λ p. fixed_sound g.D.Disk.seen g.D.Disk.may_leave _ _ (fixed_neither g.D.Disk.seen g.D.Disk.may_leave (λ disk. g.met.D.Disk.reads_now disk p) _ (c.self.invariant.2 p) c.find_stood.new.counting c.find_stood.new.other (c.find_stood.ensures.read p).same (c.find_stood.ensures.read_other p).same (c.in_ok-stood.ensures.fixed p).0 (c.in_ok-stood.ensures.fixed p).1 (vec_capacity c.self.inside.buffer) (neither g.D.Disk.seen g.D.Disk.may_leave (λ disk. g.met.D.Disk.reads_now disk p) _ (c.self.invariant.2 p) (sym (c.in_ok-stood.ensures.stood p) ∙ c.in-Nothing.is))) refl, tt)

pub invariant_of-self-in-Record : goal.invariant_of-self-in-Record
invariant_of-self-in-Record g c =
    let within = subst (AreWithin c.self.inside.start c.self.inside.generation) (subst (IsOf c.self.inside.pending) c.in-Record.is c.in_ok-stood.ensures.of) c.self.invariant.3 in
    (within.0, within.1, λ p. fixed_sound g.D.Disk.seen g.D.Disk.may_leave _ _ (fixed_recorded g.D.Disk.seen g.D.Disk.may_leave (λ disk. g.met.D.Disk.reads_now disk p) _ (c.self.invariant.2 p) c.find_stood.new.counting c.find_stood.new.other (c.find_stood.ensures.read p).same (c.find_stood.ensures.read_other p).same (c.in_ok-stood.ensures.fixed p).0 (c.in_ok-stood.ensures.fixed p).1 (vec_capacity c.self.inside.buffer) c.in-Record.next (recorded g.D.Disk.seen g.D.Disk.may_leave (λ disk. g.met.D.Disk.reads_now disk p) _ (c.self.invariant.2 p) c.in-Record.next (sym (c.in_ok-stood.ensures.stood p) ∙ c.in-Record.is))) refl, tt)

pub overflow_add-self : goal.overflow_add-self
overflow_add-self g c =
    let within = subst (AreWithin c.self.inside.start c.self.inside.generation) (subst (IsOf c.self.inside.pending) c.in-Snapshot.is c.in_ok-stood.ensures.of) c.self.invariant.3 in omega (arith, within.1)

pub invariant_of-self-in-Snapshot : goal.invariant_of-self-in-Snapshot
invariant_of-self-in-Snapshot g c =
    let within = subst (AreWithin c.self.inside.start c.self.inside.generation) (subst (IsOf c.self.inside.pending) c.in-Snapshot.is c.in_ok-stood.ensures.of) c.self.invariant.3 in
    (within.0, omega arith, λ p. fixed_sound g.D.Disk.seen g.D.Disk.may_leave _ _ (fixed_snapped g.D.Disk.seen g.D.Disk.may_leave (λ disk. g.met.D.Disk.reads_now disk p) _ (c.self.invariant.2 p) c.find_stood.new.counting c.find_stood.new.other (c.find_stood.ensures.read p).same (c.find_stood.ensures.read_other p).same (c.in_ok-stood.ensures.fixed p).0 (c.in_ok-stood.ensures.fixed p).1 (vec_capacity c.self.inside.buffer) c.in-Snapshot.start (snapped g.D.Disk.seen g.D.Disk.may_leave (λ disk. g.met.D.Disk.reads_now disk p) _ (c.self.invariant.2 p) c.in-Snapshot.start (sym (c.in_ok-stood.ensures.stood p) ∙ c.in-Snapshot.is)) c.swap.new.x c.swap.new.y c.swap.ensures.x_after c.swap.ensures.y_after) refl, tt)

pub returns-in-Nothing-clause-place : goal.returns-in-Nothing-clause-place
returns-in-Nothing-clause-place g c p =
    fixed_place g.D.Disk.seen g.D.Disk.may_leave _ _ (fixed_neither g.D.Disk.seen g.D.Disk.may_leave (λ disk. g.met.D.Disk.reads_now disk p) _ (c.self.invariant.2 p) c.find_stood.new.counting c.find_stood.new.other (c.find_stood.ensures.read p).same (c.find_stood.ensures.read_other p).same (c.in_ok-stood.ensures.fixed p).0 (c.in_ok-stood.ensures.fixed p).1 (vec_capacity c.self.inside.buffer) (neither g.D.Disk.seen g.D.Disk.may_leave (λ disk. g.met.D.Disk.reads_now disk p) _ (c.self.invariant.2 p) (sym (c.in_ok-stood.ensures.stood p) ∙ c.in-Nothing.is)))

pub returns-in-Nothing-clause-durable : goal.returns-in-Nothing-clause-durable
returns-in-Nothing-clause-durable g c p =
    fixed_durable g.D.Disk.seen g.D.Disk.may_leave _ _ (fixed_neither g.D.Disk.seen g.D.Disk.may_leave (λ disk. g.met.D.Disk.reads_now disk p) _ (c.self.invariant.2 p) c.find_stood.new.counting c.find_stood.new.other (c.find_stood.ensures.read p).same (c.find_stood.ensures.read_other p).same (c.in_ok-stood.ensures.fixed p).0 (c.in_ok-stood.ensures.fixed p).1 (vec_capacity c.self.inside.buffer) (neither g.D.Disk.seen g.D.Disk.may_leave (λ disk. g.met.D.Disk.reads_now disk p) _ (c.self.invariant.2 p) (sym (c.in_ok-stood.ensures.stood p) ∙ c.in-Nothing.is)))

pub returns-in-Record-clause-place : goal.returns-in-Record-clause-place
returns-in-Record-clause-place g c p =
    fixed_place g.D.Disk.seen g.D.Disk.may_leave _ _ (fixed_recorded g.D.Disk.seen g.D.Disk.may_leave (λ disk. g.met.D.Disk.reads_now disk p) _ (c.self.invariant.2 p) c.find_stood.new.counting c.find_stood.new.other (c.find_stood.ensures.read p).same (c.find_stood.ensures.read_other p).same (c.in_ok-stood.ensures.fixed p).0 (c.in_ok-stood.ensures.fixed p).1 (vec_capacity c.self.inside.buffer) c.in-Record.next (recorded g.D.Disk.seen g.D.Disk.may_leave (λ disk. g.met.D.Disk.reads_now disk p) _ (c.self.invariant.2 p) c.in-Record.next (sym (c.in_ok-stood.ensures.stood p) ∙ c.in-Record.is)))

pub returns-in-Record-clause-durable : goal.returns-in-Record-clause-durable
returns-in-Record-clause-durable g c p =
    fixed_durable g.D.Disk.seen g.D.Disk.may_leave _ _ (fixed_recorded g.D.Disk.seen g.D.Disk.may_leave (λ disk. g.met.D.Disk.reads_now disk p) _ (c.self.invariant.2 p) c.find_stood.new.counting c.find_stood.new.other (c.find_stood.ensures.read p).same (c.find_stood.ensures.read_other p).same (c.in_ok-stood.ensures.fixed p).0 (c.in_ok-stood.ensures.fixed p).1 (vec_capacity c.self.inside.buffer) c.in-Record.next (recorded g.D.Disk.seen g.D.Disk.may_leave (λ disk. g.met.D.Disk.reads_now disk p) _ (c.self.invariant.2 p) c.in-Record.next (sym (c.in_ok-stood.ensures.stood p) ∙ c.in-Record.is)))

pub returns-in-Snapshot-clause-place : goal.returns-in-Snapshot-clause-place
returns-in-Snapshot-clause-place g c p =
    fixed_place g.D.Disk.seen g.D.Disk.may_leave _ _ (fixed_snapped g.D.Disk.seen g.D.Disk.may_leave (λ disk. g.met.D.Disk.reads_now disk p) _ (c.self.invariant.2 p) c.find_stood.new.counting c.find_stood.new.other (c.find_stood.ensures.read p).same (c.find_stood.ensures.read_other p).same (c.in_ok-stood.ensures.fixed p).0 (c.in_ok-stood.ensures.fixed p).1 (vec_capacity c.self.inside.buffer) c.in-Snapshot.start (snapped g.D.Disk.seen g.D.Disk.may_leave (λ disk. g.met.D.Disk.reads_now disk p) _ (c.self.invariant.2 p) c.in-Snapshot.start (sym (c.in_ok-stood.ensures.stood p) ∙ c.in-Snapshot.is)) c.swap.new.x c.swap.new.y c.swap.ensures.x_after c.swap.ensures.y_after)

pub returns-in-Snapshot-clause-durable : goal.returns-in-Snapshot-clause-durable
returns-in-Snapshot-clause-durable g c p =
    fixed_durable g.D.Disk.seen g.D.Disk.may_leave _ _ (fixed_snapped g.D.Disk.seen g.D.Disk.may_leave (λ disk. g.met.D.Disk.reads_now disk p) _ (c.self.invariant.2 p) c.find_stood.new.counting c.find_stood.new.other (c.find_stood.ensures.read p).same (c.find_stood.ensures.read_other p).same (c.in_ok-stood.ensures.fixed p).0 (c.in_ok-stood.ensures.fixed p).1 (vec_capacity c.self.inside.buffer) c.in-Snapshot.start (snapped g.D.Disk.seen g.D.Disk.may_leave (λ disk. g.met.D.Disk.reads_now disk p) _ (c.self.invariant.2 p) c.in-Snapshot.start (sym (c.in_ok-stood.ensures.stood p) ∙ c.in-Snapshot.is)) c.swap.new.x c.swap.new.y c.swap.ensures.x_after c.swap.ensures.y_after)

pub returns-in-Nothing-clause-answer : goal.returns-in-Nothing-clause-answer
returns-in-Nothing-clause-answer g c p =
    sym (ap (λ (s : State _). has_record s.pending (stored g.D.Disk.seen s)) (sym c.self.view_is) ∙ answer_neither g.D.Disk.seen g.D.Disk.may_leave (λ disk. g.met.D.Disk.reads_now disk p) _ (c.self.invariant.2 p) c.find_stood.new.counting c.find_stood.new.other (c.find_stood.ensures.read p).same (c.find_stood.ensures.read_other p).same (c.in_ok-stood.ensures.fixed p).0 (c.in_ok-stood.ensures.fixed p).1 (vec_capacity c.self.inside.buffer) (neither g.D.Disk.seen g.D.Disk.may_leave (λ disk. g.met.D.Disk.reads_now disk p) _ (c.self.invariant.2 p) (sym (c.in_ok-stood.ensures.stood p) ∙ c.in-Nothing.is)))

pub returns-in-Record-clause-answer : goal.returns-in-Record-clause-answer
returns-in-Record-clause-answer g c p =
    sym (ap (λ (s : State _). has_record s.pending (stored g.D.Disk.seen s)) (sym c.self.view_is) ∙ answer_recorded g.D.Disk.seen g.D.Disk.may_leave (λ disk. g.met.D.Disk.reads_now disk p) _ (c.self.invariant.2 p) c.find_stood.new.counting c.find_stood.new.other (c.find_stood.ensures.read p).same (c.find_stood.ensures.read_other p).same (c.in_ok-stood.ensures.fixed p).0 (c.in_ok-stood.ensures.fixed p).1 (vec_capacity c.self.inside.buffer) c.in-Record.next (recorded g.D.Disk.seen g.D.Disk.may_leave (λ disk. g.met.D.Disk.reads_now disk p) _ (c.self.invariant.2 p) c.in-Record.next (sym (c.in_ok-stood.ensures.stood p) ∙ c.in-Record.is)))

pub returns-in-Snapshot-clause-answer : goal.returns-in-Snapshot-clause-answer
returns-in-Snapshot-clause-answer g c p =
    sym (ap (λ (s : State _). has_record s.pending (stored g.D.Disk.seen s)) (sym c.self.view_is) ∙ (snapped g.D.Disk.seen g.D.Disk.may_leave (λ disk. g.met.D.Disk.reads_now disk p) _ (c.self.invariant.2 p) c.in-Snapshot.start (sym (c.in_ok-stood.ensures.stood p) ∙ c.in-Snapshot.is)).answer)
