use Rattle.std.proofs.Common.{◌≡◌, ◌∙◌, Err, IfSome, Some, ap, inl, inr, option_map, refl, subst, sym, ⊎_elim}
use Rattle.host_journal.specs.Calls.{IsRead}
use Rattle.host_journal.specs.Moments.{LeftIn}
use Rattle.host_journal.specs.Pair.{pair_of}
use Rattle.host_journal.specs.State.{IsSound, first_disk, is_ready, second_disk, stored}
use Rattle.machine_keep.specs.Calls.{MakesPair, TellsIn, kept_calls, sync_calls}
use Rattle.machine_keep.specs.Course.{IsDue, IsFound, Leaves, Shortens}
use Rattle.machine_keep.specs.Kept.{IsMade, IsStepMade, StandsAround, StandsFor, after_step, caught}
use Rattle.machine_keep.specs.declared.fault.StepFault.TheVariants.{Disk as disk_fault, Memory as no_memory}
use Rattle.host_journal.proofs.ToldLemmas.{handed_on}
use Rattle.machine_keep.proofs.BrokenLemmas.{broken_so}
use Rattle.machine_keep.proofs.CallLemmas.{some_later, tells_both}
use Rattle.machine_keep.proofs.CourseLemmas.{synced_and_room}
use Rattle.machine_keep.proofs.KeepLemmas.{adds_still, around, recovered, since_same}
use Rattle.machine_keep.proofs.OpeningLemmas.{adds_asked}
use Rattle.machine_keep.proofs.keep.Keep.apply.Goals as goal

pub returns-in_err-catch_up-clause-any_moment : goal.returns-in_err-catch_up-clause-any_moment
returns-in_err-catch_up-clause-any_moment g c p ready =
    since_same g.D.Disk.moment g.D.Disk.left_since g.D.Disk.may_leave (λ d b left. g.met.D.Disk.only_now d b p left) g.M.Machine.stands_for (g.M.Machine.state c.args.self.now.machine)
    c.args.self.now.journal c.catch_up.new.self.journal
    (λ pair. (reply : g.row.M-Reply.Denot) × ((step : g.row.M-Step.Denot) × (g.M.Machine.answers (g.M.Machine.state c.args.self.now.machine) c.args.call reply (Some step) × StandsFor g.M.Machine.stands_for (g.M.Machine.after (g.M.Machine.state c.args.self.now.machine) step) pair)))
    (ap (λ k. k.journal) (c.catch_up.ensures.still ready)) (c.known.ensures.durable p ready)

pub returns-in_err-decided-clause-any_moment : goal.returns-in_err-decided-clause-any_moment
returns-in_err-decided-clause-any_moment g c p ready =
    since_same g.D.Disk.moment g.D.Disk.left_since g.D.Disk.may_leave (λ d b left. g.met.D.Disk.only_now d b p left) g.M.Machine.stands_for (g.M.Machine.state c.args.self.now.machine)
    c.args.self.now.journal c.self.inside.journal
    (λ pair. (reply : g.row.M-Reply.Denot) × ((step : g.row.M-Step.Denot) × (g.M.Machine.answers (g.M.Machine.state c.args.self.now.machine) c.args.call reply (Some step) × StandsFor g.M.Machine.stands_for (g.M.Machine.after (g.M.Machine.state c.args.self.now.machine) step) pair)))
    (ap (λ k. k.journal) (c.self.view_is ∙ c.catch_up.ensures.still ready)) (c.known.ensures.durable p ready)

pub returns-in_err-catch_up-clause-adds : goal.returns-in_err-catch_up-clause-adds
returns-in_err-catch_up-clause-adds g c p ready =
    let from = stored g.D.Disk.seen c.args.self.now.journal in
    adds_still g.D.Disk.moment g.D.Disk.left_since c.args.self.now.journal c.catch_up.new.self.journal
    (LeftIn from (IsStepMade g.M.Machine.stands_for g.M.Machine.answers g.M.Machine.after from (g.M.Machine.state c.args.self.now.machine) c.args.call)) (ap (λ k. k.journal) (c.catch_up.ensures.still ready))

pub returns-in_err-decided-clause-adds : goal.returns-in_err-decided-clause-adds
returns-in_err-decided-clause-adds g c p ready =
    let from = stored g.D.Disk.seen c.args.self.now.journal in
    adds_still g.D.Disk.moment g.D.Disk.left_since c.args.self.now.journal c.self.inside.journal
    (LeftIn from (IsStepMade g.M.Machine.stands_for g.M.Machine.answers g.M.Machine.after from (g.M.Machine.state c.args.self.now.machine) c.args.call)) (ap (λ k. k.journal) (c.self.view_is ∙ c.catch_up.ensures.still ready))

pub returns-in_err-reply-clause-adds : goal.returns-in_err-reply-clause-adds
returns-in_err-reply-clause-adds g c p ready =
    let same = c.self.view_is ∙ c.catch_up.ensures.still ready in
    let answered = subst (λ s. g.M.Machine.answers s c.args.call c.in_ok-decided.decided.reply c.in_ok-decided.decided.step) (sym c.decide.ensures.same) c.in_ok-decided.ensures.answer in
    adds_asked g.D.Disk.moment g.D.Disk.left_since g.D.Disk.seen g.M.Machine.stands_for g.M.Machine.answers g.M.Machine.after (g.M.Machine.state c.args.self.now.machine) (g.M.Machine.state c.decide.new.self) c.args.call
    c.in_ok-decided.decided.reply c.in_ok-decided.decided.step answered (c.decide.ensures.same ∙ ap (λ k. g.M.Machine.state k.machine) same) c.args.self.now.journal c.self.inside.journal c.keep_decided.new.self.journal (ap (λ k. k.journal) same) (c.keep_decided.ensures.adds p)

pub returns-clause-adds : goal.returns-clause-adds
returns-clause-adds g c p ready =
    let same = c.self.view_is ∙ c.catch_up.ensures.still ready in
    let answered = subst (λ s. g.M.Machine.answers s c.args.call c.in_ok-decided.decided.reply c.in_ok-decided.decided.step) (sym c.decide.ensures.same) c.in_ok-decided.ensures.answer in
    adds_asked g.D.Disk.moment g.D.Disk.left_since g.D.Disk.seen g.M.Machine.stands_for g.M.Machine.answers g.M.Machine.after (g.M.Machine.state c.args.self.now.machine) (g.M.Machine.state c.decide.new.self) c.args.call
    c.in_ok-decided.decided.reply c.in_ok-decided.decided.step answered (c.decide.ensures.same ∙ ap (λ k. g.M.Machine.state k.machine) same) c.args.self.now.journal c.self.inside.journal c.keep_decided.new.self.journal (ap (λ k. k.journal) same) (c.keep_decided.ensures.adds p)

pub returns-in_err-reply-clause-recovers : goal.returns-in_err-reply-clause-recovers
returns-in_err-reply-clause-recovers g c p failed b d left left_too =
    let stands = g.M.Machine.stands_for in
    let now = g.M.Machine.state c.decide.new.self in
    let inside = subst (λ k. StandsFor stands (g.M.Machine.state k.machine) (stored g.D.Disk.seen k.journal)) (sym c.self.view_is) (c.known-2.ensures.stands p c.in_ok-catch_up.ensures.ready) in
    let stood = subst (λ s. StandsFor stands s (stored g.D.Disk.seen c.self.inside.journal)) (sym c.decide.ensures.same) inside in
    let answered = subst (λ s. g.M.Machine.answers s c.args.call c.in_ok-decided.decided.reply c.in_ok-decided.decided.step) (sym c.decide.ensures.same) c.in_ok-decided.ensures.answer in
    let same = c.decide.ensures.same ∙ (ap (λ k. g.M.Machine.state k.machine) c.self.view_is ∙ c.in_ok-catch_up.ensures.state p) in
    let one = subst (λ k. IsRead g.D.Disk.seen g.D.Disk.may_leave g.D.Disk.moment g.D.Disk.left_since (first_disk c.args.self.now.journal) (first_disk k.journal)) (sym c.self.view_is) (c.catch_up.ensures.first p failed) in
    let two = subst (λ k. IsRead g.D.Disk.seen g.D.Disk.may_leave g.D.Disk.moment g.D.Disk.left_since (second_disk c.args.self.now.journal) (second_disk k.journal)) (sym c.self.view_is) (c.catch_up.ensures.second p failed) in
    ⊎_elim (λ before. inl before)
    (λ made. inr (subst (λ s. StandsAround stands g.M.Machine.answers g.M.Machine.after s c.args.call (pair_of b d)) same
    (around stands g.M.Machine.answers g.M.Machine.after now c.args.call c.in_ok-decided.decided.reply c.in_ok-decided.decided.step (stored g.D.Disk.seen c.self.inside.journal) stood answered (pair_of b d) made)))
    (recovered g.D.Disk.seen g.D.Disk.may_leave g.D.Disk.moment g.D.Disk.left_since (λ disk bytes now. g.met.D.Disk.only_now disk bytes p now) (first_disk c.args.self.now.journal) (second_disk c.args.self.now.journal) c.self.inside.journal (first_disk c.keep_decided.new.self.journal) (second_disk c.keep_decided.new.self.journal)
    (stored g.D.Disk.seen c.self.inside.journal) (λ pair. (step : g.row.M-Step.Denot) × ((c.in_ok-decided.decided.step ≡ Some step) × IsMade stands (stored g.D.Disk.seen c.self.inside.journal) (g.M.Machine.after now step) pair))
    (λ pair made. made.1.1.1) one two (c.keep_decided.ensures.adds p).first (c.keep_decided.ensures.adds p).second b d left left_too)

pub returns-clause-recovers : goal.returns-clause-recovers
returns-clause-recovers g c p failed b d left left_too =
    let stands = g.M.Machine.stands_for in
    let now = g.M.Machine.state c.decide.new.self in
    let inside = subst (λ k. StandsFor stands (g.M.Machine.state k.machine) (stored g.D.Disk.seen k.journal)) (sym c.self.view_is) (c.known-2.ensures.stands p c.in_ok-catch_up.ensures.ready) in
    let stood = subst (λ s. StandsFor stands s (stored g.D.Disk.seen c.self.inside.journal)) (sym c.decide.ensures.same) inside in
    let answered = subst (λ s. g.M.Machine.answers s c.args.call c.in_ok-decided.decided.reply c.in_ok-decided.decided.step) (sym c.decide.ensures.same) c.in_ok-decided.ensures.answer in
    let same = c.decide.ensures.same ∙ (ap (λ k. g.M.Machine.state k.machine) c.self.view_is ∙ c.in_ok-catch_up.ensures.state p) in
    let one = subst (λ k. IsRead g.D.Disk.seen g.D.Disk.may_leave g.D.Disk.moment g.D.Disk.left_since (first_disk c.args.self.now.journal) (first_disk k.journal)) (sym c.self.view_is) (c.catch_up.ensures.first p failed) in
    let two = subst (λ k. IsRead g.D.Disk.seen g.D.Disk.may_leave g.D.Disk.moment g.D.Disk.left_since (second_disk c.args.self.now.journal) (second_disk k.journal)) (sym c.self.view_is) (c.catch_up.ensures.second p failed) in
    ⊎_elim (λ before. inl before)
    (λ made. inr (subst (λ s. StandsAround stands g.M.Machine.answers g.M.Machine.after s c.args.call (pair_of b d)) same
    (around stands g.M.Machine.answers g.M.Machine.after now c.args.call c.in_ok-decided.decided.reply c.in_ok-decided.decided.step (stored g.D.Disk.seen c.self.inside.journal) stood answered (pair_of b d) made)))
    (recovered g.D.Disk.seen g.D.Disk.may_leave g.D.Disk.moment g.D.Disk.left_since (λ disk bytes now. g.met.D.Disk.only_now disk bytes p now) (first_disk c.args.self.now.journal) (second_disk c.args.self.now.journal) c.self.inside.journal (first_disk c.keep_decided.new.self.journal) (second_disk c.keep_decided.new.self.journal)
    (stored g.D.Disk.seen c.self.inside.journal) (λ pair. (step : g.row.M-Step.Denot) × ((c.in_ok-decided.decided.step ≡ Some step) × IsMade stands (stored g.D.Disk.seen c.self.inside.journal) (g.M.Machine.after now step) pair))
    (λ pair made. made.1.1.1) one two (c.keep_decided.ensures.adds p).first (c.keep_decided.ensures.adds p).second b d left left_too)

pub returns-in_err-catch_up-clause-failed : goal.returns-in_err-catch_up-clause-failed
returns-in_err-catch_up-clause-failed g c _ = inl c.in_err-catch_up.ensures.unfound

pub returns-in_err-decided-clause-out_of_memory : goal.returns-in_err-decided-clause-out_of_memory
returns-in_err-decided-clause-out_of_memory g c _ =
    let found = c.in_ok-catch_up.ensures.found in
    record {
      stood = found.0;
      place = c.self.inside.journal;
      found = subst (λ k. IsFound g.D.Disk.premise g.D.Disk.seen c.args.self.now.journal found.0 k.journal) (sym c.self.view_is) found.1;
      became = c.decide.ensures.same ∙ (ap (λ k. g.M.Machine.state k.machine) c.self.view_is ∙ found.2);
      same = refl;
      put_off = ap (λ k. k.put_off) c.self.view_is ∙ c.catch_up.ensures.put_off;
      told = subst (λ k. TellsIn g.D.Disk.told c.args.self.now.journal k.journal (sync_calls (is_ready c.args.self.now.journal.pending))) (sym c.self.view_is) c.in_ok-catch_up.ensures.told;
    }

pub returns-in_err-reply-clause-out_of_memory : goal.returns-in_err-reply-clause-out_of_memory
returns-in_err-reply-clause-out_of_memory g c e =
    let found = c.in_ok-catch_up.ensures.found in
    let none : c.keep_decided.result ≡ Err no_memory = handed_on c.from_residual-in_err-reply.result c.keep_decided.result c.in_err-reply.field-0.0 no_memory c.from_residual-in_err-reply.ensures.1 c.in_err-reply.was e in
    let unmoved = c.keep_decided.ensures.unmoved none in
    record {
      stood = found.0;
      place = c.self.inside.journal;
      found = subst (λ k. IsFound g.D.Disk.premise g.D.Disk.seen c.args.self.now.journal found.0 k.journal) (sym c.self.view_is) found.1;
      became = unmoved.1 ∙ (c.decide.ensures.same ∙ (ap (λ k. g.M.Machine.state k.machine) c.self.view_is ∙ found.2));
      same = unmoved.0;
      put_off = unmoved.2 ∙ (ap (λ k. k.put_off) c.self.view_is ∙ c.catch_up.ensures.put_off);
      told = synced_and_room g.D.Disk.told c.args.self.now.journal c.self.inside.journal c.keep_decided.new.self.journal (sync_calls (is_ready c.args.self.now.journal.pending)) unmoved.0
          (subst (λ k. TellsIn g.D.Disk.told c.args.self.now.journal k.journal (sync_calls (is_ready c.args.self.now.journal.pending))) (sym c.self.view_is) c.in_ok-catch_up.ensures.told);
    }

pub returns-in_err-reply-clause-failed : goal.returns-in_err-reply-clause-failed
returns-in_err-reply-clause-failed g c e =
    let found = c.in_ok-catch_up.ensures.found in
    let old = c.args.self.now in
    let met : c.keep_decided.result ≡ Err disk_fault = handed_on c.from_residual-in_err-reply.result c.keep_decided.result c.in_err-reply.field-0.0 disk_fault c.from_residual-in_err-reply.ensures.1 c.in_err-reply.was e in
    let broke = c.keep_decided.ensures.breaks met in
    let step = c.in_ok-decided.decided.step in
    let at = ap (λ k. g.M.Machine.state k.machine) c.self.view_is ∙ found.2 in
    let same = c.decide.ensures.same ∙ at in
    inr (record {
      stood = found.0;
      place = c.self.inside.journal;
      found = subst (λ k. IsFound g.D.Disk.premise g.D.Disk.seen old.journal found.0 k.journal) (sym c.self.view_is) found.1;
      reply = c.in_ok-decided.decided.reply;
      step = step;
      answered = subst (λ s. g.M.Machine.answers s c.args.call c.in_ok-decided.decided.reply step) at c.in_ok-decided.ensures.answer;
      may = subst (λ s. IfSome step (λ t. g.M.Machine.follows s t)) at c.in_ok-decided.ensures.follows;
      image = broke.image;
      due = subst (λ s. IsDue g.M.Machine.stands_for (after_step g.M.Machine.after s step) c.self.inside.journal (option_map g.M.Machine.record_of step) broke.image) same broke.due;
      left = subst (λ s. Leaves g.M.Machine.after s step broke.image (g.M.Machine.state c.keep_decided.new.self.machine) c.keep_decided.new.self.unsure) same broke.left;
      told = some_later g.D.Disk.told g.D.Disk.disk_faults g.D.Disk.calls_advance g.met.D.Disk.calls_advance_refl g.met.D.Disk.calls_advance_trans (first_disk old.journal) (second_disk old.journal) (first_disk c.self.inside.journal) (second_disk c.self.inside.journal) (first_disk c.keep_decided.new.self.journal) (second_disk c.keep_decided.new.self.journal)
          (sync_calls (is_ready old.journal.pending)) (kept_calls c.self.inside.journal (option_map g.M.Machine.record_of step) broke.image)
          (subst (λ k. MakesPair g.D.Disk.told g.D.Disk.disk_faults g.D.Disk.calls_advance (first_disk old.journal) (second_disk old.journal) (first_disk k.journal) (second_disk k.journal) (sync_calls (is_ready old.journal.pending))) (sym c.self.view_is)
          (record { told = c.in_ok-catch_up.ensures.told; no_fault = c.in_ok-catch_up.ensures.no_fault; calls_advance = c.catch_up.ensures.calls_advance })) broke.told;
    })

pub returns-clause-answered : goal.returns-clause-answered
returns-clause-answered g c =
    let found = c.in_ok-catch_up.ensures.found in
    let old = c.args.self.now in
    let kept = c.in_ok-reply.ensures.keeps in
    let step = c.in_ok-decided.decided.step in
    let at = ap (λ k. g.M.Machine.state k.machine) c.self.view_is ∙ found.2 in
    let same = c.decide.ensures.same ∙ at in
    record {
      stood = found.0;
      place = c.self.inside.journal;
      found = subst (λ k. IsFound g.D.Disk.premise g.D.Disk.seen old.journal found.0 k.journal) (sym c.self.view_is) found.1;
      step = step;
      answered = subst (λ r. g.M.Machine.answers (caught g.M.Machine.after (g.M.Machine.state old.machine) old.unsure found.0) c.args.call r step) (sym c.in_ok-reply.ensures.reply)
          (subst (λ s. g.M.Machine.answers s c.args.call c.in_ok-decided.decided.reply step) at c.in_ok-decided.ensures.answer);
      may = subst (λ s. IfSome step (λ t. g.M.Machine.follows s t)) at c.in_ok-decided.ensures.follows;
      became = kept.became ∙ ap (λ s. after_step g.M.Machine.after s step) same;
      image = kept.image;
      shortened = subst (λ n. Shortens g.M.Machine.stands_for (g.M.Machine.state c.keep_decided.new.self.machine) n c.keep_decided.new.self.put_off c.self.inside.journal (option_map g.M.Machine.record_of step) kept.image)
          (ap (λ k. k.put_off) c.self.view_is ∙ c.catch_up.ensures.put_off) kept.shortened;
      moved = kept.moved;
      told = tells_both g.D.Disk.told (first_disk old.journal) (second_disk old.journal) (first_disk c.self.inside.journal) (second_disk c.self.inside.journal) (first_disk c.keep_decided.new.self.journal) (second_disk c.keep_decided.new.self.journal)
          (sync_calls (is_ready old.journal.pending)) (kept_calls c.self.inside.journal (option_map g.M.Machine.record_of step) kept.image)
          (subst (λ k. TellsIn g.D.Disk.told old.journal k.journal (sync_calls (is_ready old.journal.pending))) (sym c.self.view_is) c.in_ok-catch_up.ensures.told) kept.told;
    }

pub returns-in_err-catch_up-clause-broken : goal.returns-in_err-catch_up-clause-broken
returns-in_err-catch_up-clause-broken g c _ = inl (record { unfound = c.in_err-catch_up.ensures.unfound; same = λ p. c.catch_up.ensures.stored p; pending = c.in_err-catch_up.ensures.pending })

pub returns-in_err-reply-clause-broken : goal.returns-in_err-reply-clause-broken
returns-in_err-reply-clause-broken g c e =
    let found = c.in_ok-catch_up.ensures.found in
    let old = c.args.self.now in
    let mid = c.self.inside in
    let met : c.keep_decided.result ≡ Err disk_fault = handed_on c.from_residual-in_err-reply.result c.keep_decided.result c.in_err-reply.field-0.0 disk_fault c.from_residual-in_err-reply.ensures.1 c.in_err-reply.was e in
    let broke = c.keep_decided.ensures.breaks met in
    let step = c.in_ok-decided.decided.step in
    let at = ap (λ k. g.M.Machine.state k.machine) c.self.view_is ∙ found.2 in
    inr (broken_so g.D.Disk.premise g.D.Disk.seen g.D.Disk.may_leave g.D.Disk.told g.D.Disk.disk_faults g.D.Disk.calls_advance g.met.D.Disk.calls_advance_refl g.met.D.Disk.calls_advance_trans g.M.Machine.state g.M.Machine.stands_for g.M.Machine.record_of g.M.Machine.answers g.M.Machine.follows g.M.Machine.after
    old c.keep_decided.new.self mid.journal c.args.call c.in_ok-decided.decided.reply step found.0 c.decide.new.self
    (subst (λ k. IsFound g.D.Disk.premise g.D.Disk.seen old.journal found.0 k.journal) (sym c.self.view_is) found.1)
    (c.decide.ensures.same ∙ at)
    (subst (λ s. g.M.Machine.answers s c.args.call c.in_ok-decided.decided.reply step) at c.in_ok-decided.ensures.answer)
    (subst (λ s. IfSome step (λ t. g.M.Machine.follows s t)) at c.in_ok-decided.ensures.follows)
    c.in_ok-decided.ensures.short
    (subst (λ k. MakesPair g.D.Disk.told g.D.Disk.disk_faults g.D.Disk.calls_advance (first_disk old.journal) (second_disk old.journal) (first_disk k.journal) (second_disk k.journal) (sync_calls (is_ready old.journal.pending))) (sym c.self.view_is)
    (record { told = c.in_ok-catch_up.ensures.told; no_fault = c.in_ok-catch_up.ensures.no_fault; calls_advance = c.catch_up.ensures.calls_advance }))
    broke.image broke.due broke.left broke.told broke.behind
    (λ p. subst (λ k. IsSound g.D.Disk.seen g.D.Disk.may_leave k.journal) (sym c.self.view_is) (c.known-2.ensures.sound p))
    (λ p. subst (λ k. (g.D.Disk.seen (first_disk k.journal) ≡ g.D.Disk.seen (first_disk old.journal)) × (g.D.Disk.seen (second_disk k.journal) ≡ g.D.Disk.seen (second_disk old.journal))) (sym c.self.view_is) (c.catch_up.ensures.read p))
    (λ p. subst (λ s. StandsFor g.M.Machine.stands_for s (stored g.D.Disk.seen mid.journal)) (sym c.decide.ensures.same)
    (subst (λ k. StandsFor g.M.Machine.stands_for (g.M.Machine.state k.machine) (stored g.D.Disk.seen k.journal)) (sym c.self.view_is) (c.known-2.ensures.stands p c.in_ok-catch_up.ensures.ready)))
    (λ p. c.keep_decided.ensures.which p met))
