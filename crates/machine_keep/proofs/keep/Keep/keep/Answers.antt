use Rattle.std.proofs.Common.{◌≡◌, ◌∙◌, IfSome, None, Some, ap, subst, sym}
use Rattle.host_journal.specs.State.{SameButRoom, has_record, stored, which}
use Rattle.machine_keep.specs.Course.{IsSnapshotOf, Shortens}
use Rattle.machine_keep.proofs.CourseLemmas.{kept_early, kept_late, kept_moves, kept_short, kept_told, late_behind, many_same, snapshot_same}
use Rattle.machine_keep.proofs.KeepLemmas.{made_record, made_snapshot, since_record, since_snapshot, with_step}
use Rattle.machine_keep.proofs.keep.Keep.keep.Goals as goal

pub returns-in_err-put-clause-any_moment : goal.returns-in_err-put-clause-any_moment
returns-in_err-put-clause-any_moment g c p =
    let at = c.known.ensures.place p c.requires.ready in
    let stood = c.known.ensures.stands p c.requires.ready in
    since_record g.D.Disk.seen g.D.Disk.moment g.D.Disk.left_since g.D.Disk.may_leave (λ d. g.met.D.Disk.reads_now d p) (λ d b left. g.met.D.Disk.only_now d b p left)
    g.M.Machine.stands_for (g.M.Machine.state c.args.self.now.machine) (g.M.Machine.after (g.M.Machine.state c.args.self.now.machine) c.args.step) (g.M.Machine.record_of c.args.step)
    c.args.self.now.journal c.reserve.new.self (subst (λ k. SameButRoom k.journal c.reserve.new.self) c.self.view_is c.reserve.ensures.same) at (c.known.ensures.each p c.requires.ready) stood
    (with_step g.M.Machine.stands_for g.M.Machine.record_of g.M.Machine.follows g.M.Machine.after g.met.M.Machine.stands_more (g.M.Machine.state c.args.self.now.machine) c.args.step _ c.requires.follows stood)
    c.put.new.self.journal (c.put.ensures.adds p)

pub returns-in_err-put-clause-adds : goal.returns-in_err-put-clause-adds
returns-in_err-put-clause-adds g c p =
    let at = c.known.ensures.place p c.requires.ready in
    let stood = c.known.ensures.stands p c.requires.ready in
    made_record g.D.Disk.seen g.D.Disk.moment g.D.Disk.left_since g.D.Disk.may_leave (λ d. g.met.D.Disk.reads_now d p) (λ d b left. g.met.D.Disk.only_now d b p left)
    g.M.Machine.stands_for (g.M.Machine.state c.args.self.now.machine) (g.M.Machine.after (g.M.Machine.state c.args.self.now.machine) c.args.step) (g.M.Machine.record_of c.args.step)
    c.args.self.now.journal c.reserve.new.self (subst (λ k. SameButRoom k.journal c.reserve.new.self) c.self.view_is c.reserve.ensures.same) at (c.known.ensures.each p c.requires.ready) stood
    (with_step g.M.Machine.stands_for g.M.Machine.record_of g.M.Machine.follows g.M.Machine.after g.met.M.Machine.stands_more (g.M.Machine.state c.args.self.now.machine) c.args.step _ c.requires.follows stood)
    c.put.new.self.journal (c.put.ensures.adds p)

pub returns-in_err-shorten-clause-any_moment : goal.returns-in_err-shorten-clause-any_moment
returns-in_err-shorten-clause-any_moment g c p =
    let at = c.known.ensures.place p c.requires.ready in
    let stood = c.known.ensures.stands p c.requires.ready in
    since_snapshot g.D.Disk.seen g.D.Disk.moment g.D.Disk.left_since g.D.Disk.may_leave (λ d. g.met.D.Disk.reads_now d p) (λ d b left. g.met.D.Disk.only_now d b p left)
    g.M.Machine.stands_for (g.M.Machine.state c.args.self.now.machine) (g.M.Machine.after (g.M.Machine.state c.args.self.now.machine) c.args.step) (g.M.Machine.record_of c.args.step)
    c.args.self.now.journal c.reserve.new.self (subst (λ k. SameButRoom k.journal c.reserve.new.self) c.self.view_is c.reserve.ensures.same) at (c.known.ensures.each p c.requires.ready) stood
    (with_step g.M.Machine.stands_for g.M.Machine.record_of g.M.Machine.follows g.M.Machine.after g.met.M.Machine.stands_more (g.M.Machine.state c.args.self.now.machine) c.args.step _ c.requires.follows stood)
    c.put.new.self.journal c.shorten.new.self.journal (g.M.Machine.state c.put.new.self.machine) (c.put.ensures.adds p) (c.in_ok-put.ensures.appended p) c.put.ensures.kept (c.in_ok-put.ensures.state ∙ ap (λ k. g.M.Machine.after (g.M.Machine.state k.machine) c.args.step) c.self.view_is) (c.shorten.ensures.adds p)

pub returns-in_err-shorten-clause-adds : goal.returns-in_err-shorten-clause-adds
returns-in_err-shorten-clause-adds g c p =
    let at = c.known.ensures.place p c.requires.ready in
    let stood = c.known.ensures.stands p c.requires.ready in
    made_snapshot g.D.Disk.seen g.D.Disk.moment g.D.Disk.left_since g.D.Disk.may_leave (λ d. g.met.D.Disk.reads_now d p) (λ d b left. g.met.D.Disk.only_now d b p left)
    g.M.Machine.stands_for (g.M.Machine.state c.args.self.now.machine) (g.M.Machine.after (g.M.Machine.state c.args.self.now.machine) c.args.step) (g.M.Machine.record_of c.args.step)
    c.args.self.now.journal c.reserve.new.self (subst (λ k. SameButRoom k.journal c.reserve.new.self) c.self.view_is c.reserve.ensures.same) at (c.known.ensures.each p c.requires.ready) stood
    (with_step g.M.Machine.stands_for g.M.Machine.record_of g.M.Machine.follows g.M.Machine.after g.met.M.Machine.stands_more (g.M.Machine.state c.args.self.now.machine) c.args.step _ c.requires.follows stood)
    c.put.new.self.journal c.shorten.new.self.journal (g.M.Machine.state c.put.new.self.machine) (c.put.ensures.adds p) (c.in_ok-put.ensures.appended p) c.put.ensures.kept (c.in_ok-put.ensures.state ∙ ap (λ k. g.M.Machine.after (g.M.Machine.state k.machine) c.args.step) c.self.view_is) (c.shorten.ensures.adds p)

pub returns-clause-any_moment : goal.returns-clause-any_moment
returns-clause-any_moment g c p =
    let at = c.known.ensures.place p c.requires.ready in
    let stood = c.known.ensures.stands p c.requires.ready in
    since_snapshot g.D.Disk.seen g.D.Disk.moment g.D.Disk.left_since g.D.Disk.may_leave (λ d. g.met.D.Disk.reads_now d p) (λ d b left. g.met.D.Disk.only_now d b p left)
    g.M.Machine.stands_for (g.M.Machine.state c.args.self.now.machine) (g.M.Machine.after (g.M.Machine.state c.args.self.now.machine) c.args.step) (g.M.Machine.record_of c.args.step)
    c.args.self.now.journal c.reserve.new.self (subst (λ k. SameButRoom k.journal c.reserve.new.self) c.self.view_is c.reserve.ensures.same) at (c.known.ensures.each p c.requires.ready) stood
    (with_step g.M.Machine.stands_for g.M.Machine.record_of g.M.Machine.follows g.M.Machine.after g.met.M.Machine.stands_more (g.M.Machine.state c.args.self.now.machine) c.args.step _ c.requires.follows stood)
    c.put.new.self.journal c.shorten.new.self.journal (g.M.Machine.state c.put.new.self.machine) (c.put.ensures.adds p) (c.in_ok-put.ensures.appended p) c.put.ensures.kept (c.in_ok-put.ensures.state ∙ ap (λ k. g.M.Machine.after (g.M.Machine.state k.machine) c.args.step) c.self.view_is) (c.shorten.ensures.adds p)

pub returns-clause-adds : goal.returns-clause-adds
returns-clause-adds g c p =
    let at = c.known.ensures.place p c.requires.ready in
    let stood = c.known.ensures.stands p c.requires.ready in
    made_snapshot g.D.Disk.seen g.D.Disk.moment g.D.Disk.left_since g.D.Disk.may_leave (λ d. g.met.D.Disk.reads_now d p) (λ d b left. g.met.D.Disk.only_now d b p left)
    g.M.Machine.stands_for (g.M.Machine.state c.args.self.now.machine) (g.M.Machine.after (g.M.Machine.state c.args.self.now.machine) c.args.step) (g.M.Machine.record_of c.args.step)
    c.args.self.now.journal c.reserve.new.self (subst (λ k. SameButRoom k.journal c.reserve.new.self) c.self.view_is c.reserve.ensures.same) at (c.known.ensures.each p c.requires.ready) stood
    (with_step g.M.Machine.stands_for g.M.Machine.record_of g.M.Machine.follows g.M.Machine.after g.met.M.Machine.stands_more (g.M.Machine.state c.args.self.now.machine) c.args.step _ c.requires.follows stood)
    c.put.new.self.journal c.shorten.new.self.journal (g.M.Machine.state c.put.new.self.machine) (c.put.ensures.adds p) (c.in_ok-put.ensures.appended p) c.put.ensures.kept (c.in_ok-put.ensures.state ∙ ap (λ k. g.M.Machine.after (g.M.Machine.state k.machine) c.args.step) c.self.view_is) (c.shorten.ensures.adds p)

pub returns-in_err-shorten-clause-breaks : goal.returns-in_err-shorten-clause-breaks
returns-in_err-shorten-clause-breaks g c _ =
    let old = c.args.self.now.journal in
    let mid = c.reserve.new.self in
    let turned = c.put.new.self.journal in
    let payload = g.M.Machine.record_of c.args.step in
    let same = subst (λ k. SameButRoom k.journal mid) c.self.view_is c.reserve.ensures.same in
    let became = c.in_ok-put.ensures.state ∙ ap (λ k. g.M.Machine.after (g.M.Machine.state k.machine) c.args.step) c.self.view_is in
    let met = c.in_err-shorten.ensures.told_first in
    record {
      image = Some met.0;
      due = (sym (many_same old mid turned same payload c.put.ensures.kept c.in_ok-put.ensures.end) ∙ met.1, snapshot_same old mid turned same payload c.put.ensures.kept c.in_ok-put.ensures.end g.M.Machine.stands_for (g.M.Machine.after (g.M.Machine.state c.args.self.now.machine) c.args.step) met.0 (subst (λ s. IsSnapshotOf g.M.Machine.stands_for s turned.generation met.0) became met.2));
      left = (ap (λ m. g.M.Machine.state m) c.shorten.ensures.machine ∙ became, c.shorten.ensures.unsure ∙ c.in_ok-put.ensures.sure);
      told = kept_late g.D.Disk.told g.D.Disk.disk_faults g.D.Disk.calls_advance g.met.D.Disk.calls_advance_refl g.met.D.Disk.calls_advance_trans old mid same payload turned c.shorten.new.self.journal c.put.ensures.kept
          (record { told = c.in_ok-put.ensures.told; no_fault = c.in_ok-put.ensures.no_fault; calls_advance = c.put.ensures.calls_advance }) met.0 met.3;
      behind = late_behind g.D.Disk.told g.D.Disk.disk_faults g.D.Disk.calls_advance g.met.D.Disk.calls_advance_refl g.met.D.Disk.calls_advance_trans old mid same payload turned c.shorten.new.self.journal c.put.ensures.kept
          (record { told = c.in_ok-put.ensures.told; no_fault = c.in_ok-put.ensures.no_fault; calls_advance = c.put.ensures.calls_advance }) met.0 met.3;
    }

pub returns-clause-keeps : goal.returns-clause-keeps
returns-clause-keeps g c =
    let old = c.args.self.now.journal in
    let mid = c.reserve.new.self in
    let turned = c.put.new.self.journal in
    let new = c.shorten.new.self in
    let payload = g.M.Machine.record_of c.args.step in
    let same = subst (λ k. SameButRoom k.journal mid) c.self.view_is c.reserve.ensures.same in
    let state_same = ap (λ m. g.M.Machine.state m) c.shorten.ensures.machine in
    let made = c.in_ok-shorten.ensures.shortened in
    let before = g.M.Machine.state c.put.new.self.machine in
    let off = c.put.new.self.put_off in
    record {
      became = state_same ∙ (c.in_ok-put.ensures.state ∙ ap (λ k. g.M.Machine.after (g.M.Machine.state k.machine) c.args.step) c.self.view_is);
      image = made.0;
      shortened = subst (λ n. Shortens g.M.Machine.stands_for (g.M.Machine.state new.machine) n new.put_off old (Some payload) made.0) (c.put.ensures.put_off ∙ ap (λ k. k.put_off) c.self.view_is)
          (subst (λ s. Shortens g.M.Machine.stands_for s off new.put_off old (Some payload) made.0) (sym state_same)
          (kept_short old mid turned same payload c.put.ensures.kept c.in_ok-put.ensures.end g.M.Machine.stands_for before off new.put_off new.journal made.0 made.1));
      moved = kept_moves old mid turned same payload c.put.ensures.kept c.in_ok-put.ensures.end g.M.Machine.stands_for before off new.put_off new.journal made.0 made.1;
      told = kept_told g.D.Disk.told old mid same payload turned new.journal c.put.ensures.kept c.in_ok-put.ensures.told made.0 made.2;
    }

pub returns-in_err-put-clause-breaks : goal.returns-in_err-put-clause-breaks
returns-in_err-put-clause-breaks g c _ =
    let old = c.args.self.now.journal in
    let mid = c.reserve.new.self in
    let same = subst (λ k. SameButRoom k.journal mid) c.self.view_is c.reserve.ensures.same in
    record {
      image = None;
      due = tt;
      left = (c.in_err-put.ensures.unsure.0 ∙ ap (λ k. g.M.Machine.state k.machine) c.self.view_is, c.in_err-put.ensures.unsure.1);
      told = kept_early g.D.Disk.told g.D.Disk.disk_faults g.D.Disk.calls_advance g.met.D.Disk.calls_advance_refl g.met.D.Disk.calls_advance_trans old mid same (g.M.Machine.record_of c.args.step) c.put.new.self.journal c.in_err-put.ensures.told_first;
      behind = tt;
    }

pub returns-in_err-put-clause-which : goal.returns-in_err-put-clause-which
returns-in_err-put-clause-which g c p _ =
    let unsure = c.in_err-put.ensures.unsure.1 in
    let new = c.put.new.self in
    let mid = c.reserve.new.self in
    let same = subst (λ k. SameButRoom k.journal mid) c.self.view_is c.reserve.ensures.same in
    subst (λ u. IfSome u (λ step. stored g.D.Disk.seen new.journal ≡ which (g.M.Machine.record_of step) (has_record new.journal.pending (stored g.D.Disk.seen new.journal)) (stored g.D.Disk.seen c.args.self.now.journal))) (sym unsure)
    (c.in_err-put.ensures.which p ∙ ap (λ j. which (g.M.Machine.record_of c.args.step) (has_record new.journal.pending (stored g.D.Disk.seen new.journal)) (stored g.D.Disk.seen j)) same)

pub returns-in_err-shorten-clause-which : goal.returns-in_err-shorten-clause-which
returns-in_err-shorten-clause-which g c p _ =
    let new = c.shorten.new.self in
    subst (λ u. IfSome u (λ step. stored g.D.Disk.seen new.journal ≡ which (g.M.Machine.record_of step) (has_record new.journal.pending (stored g.D.Disk.seen new.journal)) (stored g.D.Disk.seen c.args.self.now.journal)))
    (sym (c.shorten.ensures.unsure ∙ c.in_ok-put.ensures.sure)) tt
