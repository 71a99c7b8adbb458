use Rattle.std.proofs.Common.{List, None, Option, Some, false, inr, refl, subst, sym, true, ℕ}
use Rattle.host_journal.specs.Moments.{Adds, AddsOnly, LeftIn}
use Rattle.host_journal.specs.State.{first_disk, second_disk, stored}
use Rattle.machine_keep.specs.Calls.{TellsIn, image_calls}
use Rattle.machine_keep.specs.Course.{IsInForm, IsRewritten}
use Rattle.machine_keep.specs.Kept.{IsMade}
use Rattle.machine_keep.proofs.CourseLemmas.{form_same, form_turned, room_told}
use Rattle.machine_keep.proofs.KeepLemmas.{adds_none, made_alone}
use Rattle.machine_keep.proofs.keep.Keep.of_restored.Goals.{then-is_earlier+in_default, else-is_earlier}
use Rattle.machine_keep.proofs.keep.Keep.of_restored.Goals as goal

pub returns-in-Err-clause-left : goal.returns-in-Err-clause-left
returns-in-Err-clause-left g c p =
    let from = stored g.D.Disk.seen c.args.journal in
    let now = g.M.Machine.state c.args.restored.machine in
    let made = made_alone g.D.Disk.seen g.D.Disk.moment g.D.Disk.left_since g.M.Machine.stands_for now c.args.journal c.put_snapshot.new.journal
    (c.known.ensures.place p c.requires.ready) (c.put_snapshot.ensures.adds p) in
    record {
      state = now;
      either = inr (c.requires.earlier p c.if-is_earlier.true);
      adds_first = subst (λ disk. AddsOnly g.D.Disk.moment g.D.Disk.left_since (first_disk c.args.journal) disk (LeftIn from (IsMade g.M.Machine.stands_for from now) false)) (sym c.refused.ensures.first) made.first;
      adds_second = subst (λ disk. AddsOnly g.D.Disk.moment g.D.Disk.left_since (second_disk c.args.journal) disk (LeftIn from (IsMade g.M.Machine.stands_for from now) true)) (sym c.refused.ensures.second) made.second;
    }

pub returns-clause-adds : goal.returns-clause-adds
returns-clause-adds g c p =
    let from = stored g.D.Disk.seen c.args.journal in
    let now = g.M.Machine.state c.args.restored.machine in
    subst (λ m. Adds g.D.Disk.moment g.D.Disk.left_since c.args.journal c.over-keep.result.journal (LeftIn from (IsMade g.M.Machine.stands_for from (g.M.Machine.state m)))) (sym c.over-keep.ensures.machine)
    (subst (λ j. Adds g.D.Disk.moment g.D.Disk.left_since c.args.journal j (LeftIn from (IsMade g.M.Machine.stands_for from now))) (sym c.over-keep.ensures.journal)
    (elim c.if-is_earlier.branch [
      | then-is_earlier+in_default w ↦ subst (λ j. Adds g.D.Disk.moment g.D.Disk.left_since c.args.journal j (LeftIn from (IsMade g.M.Machine.stands_for from now))) (sym w.journal-is)
          (made_alone g.D.Disk.seen g.D.Disk.moment g.D.Disk.left_since g.M.Machine.stands_for now c.args.journal w.put_snapshot.new.journal
          (c.known.ensures.place p c.requires.ready) (w.put_snapshot.ensures.adds p))
      | else-is_earlier w ↦ subst (λ j. Adds g.D.Disk.moment g.D.Disk.left_since c.args.journal j (LeftIn from (IsMade g.M.Machine.stands_for from now))) (sym w.journal-is)
          (adds_none g.D.Disk.moment g.D.Disk.left_since c.args.journal c.args.journal (LeftIn from (IsMade g.M.Machine.stands_for from now)) refl)
    ]))

pub returns-clause-told : goal.returns-clause-told
returns-clause-told g c =
    let now = g.M.Machine.state c.args.restored.machine in
    subst (λ m. (x : Option (List ℕ)) × IsRewritten g.M.Machine.stands_for (g.M.Machine.state m) c.args.journal x c.over-keep.result.journal × TellsIn g.D.Disk.told c.args.journal c.over-keep.result.journal (image_calls c.args.journal x)) (sym c.over-keep.ensures.machine)
    (subst (λ j. (x : Option (List ℕ)) × IsRewritten g.M.Machine.stands_for now c.args.journal x j × TellsIn g.D.Disk.told c.args.journal j (image_calls c.args.journal x)) (sym c.over-keep.ensures.journal)
    (elim c.if-is_earlier.branch [
      | then-is_earlier+in_default w ↦ let made = w.in_default.ensures.turned in
          subst (λ j. (x : Option (List ℕ)) × IsRewritten g.M.Machine.stands_for now c.args.journal x j × TellsIn g.D.Disk.told c.args.journal j (image_calls c.args.journal x)) (sym w.journal-is)
          (Some made.0, (made.1.0, made.2), made.3)
      | else-is_earlier w ↦ subst (λ j. (x : Option (List ℕ)) × IsRewritten g.M.Machine.stands_for now c.args.journal x j × TellsIn g.D.Disk.told c.args.journal j (image_calls c.args.journal x)) (sym w.journal-is)
          (None, refl, room_told g.D.Disk.told c.args.journal c.args.journal refl)
    ]))

pub returns-clause-form : goal.returns-clause-form
returns-clause-form g c p =
    let s = g.M.Machine.state c.args.restored.machine in
    let pair = stored g.D.Disk.seen c.args.journal in
    let before = c.args.journal.second in
    subst (λ m. IsInForm g.M.Machine.stands_for g.M.Machine.stood_for (g.M.Machine.state m) before c.over-keep.result.journal.second pair) (sym c.over-keep.ensures.machine)
    (subst (λ j. IsInForm g.M.Machine.stands_for g.M.Machine.stood_for s before j.second pair) (sym c.over-keep.ensures.journal)
    (elim c.if-is_earlier.branch [
      | then-is_earlier+in_default w ↦ subst (λ j. IsInForm g.M.Machine.stands_for g.M.Machine.stood_for s before j.second pair) (sym w.journal-is)
          (form_turned g.M.Machine.stands_for g.M.Machine.stood_for s before w.put_snapshot.new.journal.second pair w.in_default.ensures.turned.2.second (c.requires.earlier p w.if-is_earlier.true))
      | else-is_earlier w ↦ subst (λ j. IsInForm g.M.Machine.stands_for g.M.Machine.stood_for s before j.second pair) (sym w.journal-is)
          (form_same g.M.Machine.stands_for g.M.Machine.stood_for s before pair (c.requires.now p w.if-is_earlier.false))
    ]))
