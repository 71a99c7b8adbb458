use Rattle.std.proofs.Common.{◌≡◌, IfErr, IfOk, List, Ok, Option, inl, inr, subst, ℕ}
use Rattle.std.proofs.lemmas.Result.{IfErr-weaker}
use Rattle.host_journal.specs.Moments.{Adds, LeftIn}
use Rattle.host_journal.specs.Pair.{pair_of}
use Rattle.host_journal.specs.State.{first_disk, second_disk, stored}
use Rattle.host_journal.specs.declared.fault.OpenReason.{OpenReason}
use Rattle.host_journal.specs.declared.reading.Counted.{Counted}
use Rattle.host_journal.specs.declared.reading.DiskPlace.{DiskPlace}
use Rattle.machine_keep.specs.Calls.{TellsIn, image_calls}
use Rattle.machine_keep.specs.Course.{IsInForm, IsRewritten, Opened}
use Rattle.machine_keep.specs.Kept.{IsMade, StandsEither}
use Rattle.machine_keep.specs.Opening.{EachUnlessUndone, IsBegun}
use Rattle.machine_keep.proofs.CourseLemmas.{form_read, ok_more, opened_so, read_at, refused_so, syncs_some, unwritten_so}
use Rattle.machine_keep.proofs.KeepLemmas.{left_so, not_opened, ok_both}
use Rattle.machine_keep.proofs.OpeningLemmas.{begun, given, not_given, not_written}
use Rattle.machine_keep.proofs.keep.Keep.open.Goals as goal

pub returns-in-Ok-clause-nothing : goal.returns-in-Ok-clause-nothing
returns-in-Ok-clause-nothing g c p =
    subst (λ pair. IfErr c.of_list.result (λ f. (place : DiskPlace) → f.reason ≡ OpenReason.NotAJournal place → (s : g.M.Machine.State) → g.M.Machine.fixed s ≡ g.M.Machine.fixed_of c.args.origin → StandsEither g.M.Machine.stands_for g.M.Machine.stood_for s pair → ⊥))
    (c.in-Ok.ensures.stored p) (c.of_list.ensures.nothing p)

pub returns-in-Ok-clause-any_moment_err : goal.returns-in-Ok-clause-any_moment_err
returns-in-Ok-clause-any_moment_err g c p =
    IfErr-weaker c.of_list.result _ _
    (λ f left. not_opened g.D.Disk.seen g.D.Disk.may_leave g.D.Disk.moment g.D.Disk.left_since (λ disk bytes now. g.met.D.Disk.only_now disk bytes p now) g.M.Machine.stands_for g.M.Machine.stood_for
    c.args.first c.args.second c.in-Ok.journal (c.in-Ok.ensures.read_first p) (c.in-Ok.ensures.read_second p) f.first f.second (c.in-Ok.ensures.stored p) left)
    (c.of_list.ensures.left p)

pub returns-in-Ok-clause-begun : goal.returns-in-Ok-clause-begun
returns-in-Ok-clause-begun g c p =
    let from = stored g.D.Disk.seen c.in-Ok.journal in
    ok_both (λ keep. Adds g.D.Disk.moment g.D.Disk.left_since c.in-Ok.journal keep.journal (LeftIn from (IsMade g.M.Machine.stands_for from (g.M.Machine.state keep.machine))))
    (λ keep. StandsEither g.M.Machine.stands_for g.M.Machine.stood_for (g.M.Machine.state keep.machine) from)
    (λ keep. IsBegun g.D.Disk.seen g.D.Disk.moment g.D.Disk.left_since g.M.Machine.stands_for c.args.first c.args.second (g.M.Machine.state keep.machine) keep.journal)
    (λ keep adds either. begun g.D.Disk.seen g.D.Disk.may_leave g.D.Disk.moment g.D.Disk.left_since (λ disk bytes now. g.met.D.Disk.only_now disk bytes p now) g.M.Machine.stands_for g.M.Machine.stood_for
    c.args.first c.args.second (λ disk. g.met.D.Disk.reads_now disk p) (λ disk t bytes le now. g.met.D.Disk.counts_now disk t bytes p le now) c.in-Ok.journal keep.journal (g.M.Machine.state keep.machine)
    (c.in-Ok.ensures.read_first p) (c.in-Ok.ensures.read_second p) (c.in-Ok.ensures.stored p) (c.in-Ok.ensures.durable p) either adds)
    c.of_list.result (c.of_list.ensures.adds p) (c.of_list.ensures.stands p)

pub returns-in-Ok-clause-unless_undone : goal.returns-in-Ok-clause-unless_undone
returns-in-Ok-clause-unless_undone g c p =
    let from = pair_of (g.D.Disk.seen c.args.first) (g.D.Disk.seen c.args.second) in
    ok_both (λ keep. IsBegun g.D.Disk.seen g.D.Disk.moment g.D.Disk.left_since g.M.Machine.stands_for c.args.first c.args.second (g.M.Machine.state keep.machine) keep.journal)
    (λ keep. StandsEither g.M.Machine.stands_for g.M.Machine.stood_for (g.M.Machine.state keep.machine) from)
    (λ keep. EachUnlessUndone g.D.Disk.seen g.D.Disk.may_leave g.D.Disk.moment g.D.Disk.left_since c.args.first c.args.second (first_disk keep.journal) (second_disk keep.journal) (λ x y. StandsEither g.M.Machine.stands_for g.M.Machine.stood_for (g.M.Machine.state keep.machine) (pair_of x y)))
    (λ keep was either. given g.D.Disk.seen g.D.Disk.may_leave g.D.Disk.moment g.D.Disk.left_since (λ disk bytes now. g.met.D.Disk.only_now disk bytes p now) g.M.Machine.stands_for g.M.Machine.stood_for
    c.args.first c.args.second keep.journal (g.M.Machine.state keep.machine) was either)
    c.of_list.result (returns-in-Ok-clause-begun g c p)
    (subst (λ pair. IfOk c.of_list.result (λ keep. StandsEither g.M.Machine.stands_for g.M.Machine.stood_for (g.M.Machine.state keep.machine) pair)) (c.in-Ok.ensures.stored p) (c.of_list.ensures.stands p))

pub returns-in-Ok-clause-unless_undone_err : goal.returns-in-Ok-clause-unless_undone_err
returns-in-Ok-clause-unless_undone_err g c p =
    IfErr-weaker c.of_list.result _ _
    (λ f left. not_written g.D.Disk.seen g.D.Disk.may_leave g.D.Disk.moment g.D.Disk.left_since (λ disk bytes now. g.met.D.Disk.only_now disk bytes p now) g.M.Machine.stands_for g.M.Machine.stood_for
    c.args.first c.args.second (λ disk t bytes le now. g.met.D.Disk.counts_now disk t bytes p le now) c.in-Ok.journal f.first f.second (c.in-Ok.ensures.read_first p) (c.in-Ok.ensures.read_second p) (c.in-Ok.ensures.stored p) left)
    (c.of_list.ensures.left p)

pub returns-in-Err-clause-unless_undone_err : goal.returns-in-Err-clause-unless_undone_err
returns-in-Err-clause-unless_undone_err g c p =
    not_given g.D.Disk.seen g.D.Disk.may_leave g.D.Disk.moment g.D.Disk.left_since (λ disk bytes now. g.met.D.Disk.only_now disk bytes p now) g.M.Machine.stands_for g.M.Machine.stood_for
    c.args.first c.args.second (λ disk t bytes le now. g.met.D.Disk.counts_now disk t bytes p le now) c.in-Err.fault.first c.in-Err.fault.second (c.in-Err.ensures.refused_first p) (c.in-Err.ensures.refused_second p)

pub returns-in-Ok-clause-left : goal.returns-in-Ok-clause-left
returns-in-Ok-clause-left g c p =
    IfErr-weaker c.of_list.result _ _
    (λ f left. left_so g.D.Disk.seen g.D.Disk.may_leave g.D.Disk.moment g.D.Disk.left_since (λ disk bytes now. g.met.D.Disk.only_now disk bytes p now) g.M.Machine.stands_for g.M.Machine.stood_for
    c.args.first c.args.second c.in-Ok.journal (c.in-Ok.ensures.read_first p) (c.in-Ok.ensures.read_second p) (λ disk. g.met.D.Disk.reads_now disk p) (λ disk t bytes le now. g.met.D.Disk.counts_now disk t bytes p le now)
    c.in-Ok.list f.first f.second (c.in-Ok.ensures.stored p) (c.in-Ok.ensures.list p) (c.in-Ok.ensures.durable p) left)
    (c.of_list.ensures.left p)

pub returns-in-Ok-clause-opened : goal.returns-in-Ok-clause-opened
returns-in-Ok-clause-opened g c =
    let journal = c.in-Ok.journal in
    ok_more (λ keep. (image : Option (List ℕ)) × IsRewritten g.M.Machine.stands_for (g.M.Machine.state keep.machine) journal image keep.journal × TellsIn g.D.Disk.told journal keep.journal (image_calls journal image))
    (λ keep. Opened g.D.Disk.premise g.D.Disk.seen g.D.Disk.told g.M.Machine.stands_for c.args.first c.args.second (g.M.Machine.state keep.machine) keep.journal)
    (λ keep made. opened_so g.D.Disk.premise g.D.Disk.seen g.D.Disk.told g.M.Machine.stands_for c.args.first c.args.second journal
    (record { ready = c.in-Ok.ensures.ready; at = λ p. read_at journal c.in-Ok.list _ (c.in-Ok.ensures.list p); shut = λ p. c.in-Ok.ensures.shut p }) c.in-Ok.ensures.told_first c.in-Ok.ensures.told_second (g.M.Machine.state keep.machine) keep.journal made)
    c.of_list.result c.of_list.ensures.told

pub returns-in-Ok-clause-told_err : goal.returns-in-Ok-clause-told_err
returns-in-Ok-clause-told_err g c =
    let journal = c.in-Ok.journal in
    IfErr-weaker c.of_list.result _ _
    (λ f some is. inr (unwritten_so g.D.Disk.premise g.D.Disk.seen g.D.Disk.told g.D.Disk.disk_faults g.D.Disk.calls_advance g.met.D.Disk.calls_advance_refl g.met.D.Disk.calls_advance_trans g.M.Machine.stands_for c.args.first c.args.second journal
    (record { ready = c.in-Ok.ensures.ready; at = λ p. read_at journal c.in-Ok.list _ (c.in-Ok.ensures.list p); shut = λ p. c.in-Ok.ensures.shut p })
    (record { told = (c.in-Ok.ensures.told_first, c.in-Ok.ensures.told_second); no_fault = c.in-Ok.ensures.no_fault; calls_advance = c.in-Ok.ensures.calls_advance }) f.first f.second (some is)))
    c.of_list.ensures.told_first

pub returns-in-Ok-clause-told_refused : goal.returns-in-Ok-clause-told_refused
returns-in-Ok-clause-told_refused g c =
    let journal = c.in-Ok.journal in
    IfErr-weaker c.of_list.result _ _
    (λ f refused no_fault. refused_so g.D.Disk.told c.args.first c.args.second (first_disk journal) (second_disk journal) f.first f.second (c.in-Ok.ensures.told_first, c.in-Ok.ensures.told_second) (refused no_fault))
    c.of_list.ensures.refused

pub returns-in-Err-clause-told_err : goal.returns-in-Err-clause-told_err
returns-in-Err-clause-told_err g c is = inl (syncs_some g.D.Disk.told g.D.Disk.disk_faults g.D.Disk.calls_advance g.met.D.Disk.calls_advance_refl g.met.D.Disk.calls_advance_trans c.args.first c.args.second c.in-Err.fault.first c.in-Err.fault.second (c.in-Err.ensures.told_err is))

pub returns-in-Ok-clause-form : goal.returns-in-Ok-clause-form
returns-in-Ok-clause-form g c p =
    let journal = c.in-Ok.journal in
    let pair = pair_of (g.D.Disk.seen c.args.first) (g.D.Disk.seen c.args.second) in
    ok_more (λ keep. IsInForm g.M.Machine.stands_for g.M.Machine.stood_for (g.M.Machine.state keep.machine) journal.second keep.journal.second pair)
    (λ keep. (read : Counted) → pair ≡ Ok read → IsInForm g.M.Machine.stands_for g.M.Machine.stood_for (g.M.Machine.state keep.machine) read.second keep.journal.second pair)
    (λ keep form. form_read g.M.Machine.stands_for g.M.Machine.stood_for (g.M.Machine.state keep.machine) journal c.in-Ok.list pair (c.in-Ok.ensures.list p) keep.journal.second form)
    c.of_list.result
    (subst (λ x. IfOk c.of_list.result (λ keep. IsInForm g.M.Machine.stands_for g.M.Machine.stood_for (g.M.Machine.state keep.machine) journal.second keep.journal.second x)) (c.in-Ok.ensures.stored p) (c.of_list.ensures.form p))
