use Rattle.std.specs.Prelude.{IfErr}
use Rattle.std.proofs.Common.{◌≡◌, ◌⊎◌, [], false, inl, inr, refl, subst, true, ⊎_elim}
use Rattle.std.proofs.lemmas.Result.{IfErr-weaker, IfOk-weaker}
use Rattle.host_journal.specs.Moments.{Adds, AddsOnly, LeftIn}
use Rattle.host_journal.specs.Pair.{pair_of}
use Rattle.host_journal.specs.State.{first_disk, second_disk, stored}
use Rattle.host_model.specs.Book.{Book}
use Rattle.host_model.specs.Step.{step_book, step_reply}
use Rattle.host_model.specs.declared.config.Config.{Config}
use Rattle.host_model.specs.declared.input.Input.TheVariants.{Open}
use Rattle.host_model.specs.declared.reply.LimitsWrong.{LimitsWrong}
use Rattle.host_model.specs.declared.reply.Reply.{Reply}
use Rattle.host_model.specs.declared.reply.Reply.TheVariants.{LimitsWrong as limits_wrong}
use Rattle.host_replay.specs.Stands.{StandsFor}
use Rattle.machine_keep.specs.Calls.{TellsPair, TellsSome, sync_calls}
use Rattle.machine_keep.specs.Course.{Unwritten}
use Rattle.machine_keep.specs.Kept.{IsMade, StandsEither}
use Rattle.machine_keep.specs.Opening.{EachUnlessUndone, StandsAsBefore}
use Rattle.machine_keep.proofs.RefusalLemmas.{place_as}
use Rattle.host_keep.specs.Opening.{Halted, IsFirstAnswer, IsFirstFault, IsStarting, KeptHost, Started, Unstarted, started}
use Rattle.host_keep.specs.Standing.{Standing, StandsNow, StoodOnce}
use Rattle.host_keep.specs.declared.open.KeepReason.TheVariants.{DiskFault, Limits}
use Rattle.host_keep.proofs.HostLemmas.{OfHost, to_book, to_host}
use Rattle.host_keep.proofs.OpeningLemmas.{err_three, halted_so, ok_three, started_so, starting, unstarted_so}
use Rattle.host_keep.proofs.open.open.Goals as goal

-- as the machine's opening says
pub returns-in-Err-clause-nothing : goal.returns-in-Err-clause-nothing
returns-in-Err-clause-nothing g c = λ p place e b stands.
    c.in-Err.ensures.nothing p place (c.reason_of.ensures.place place e) (record { config = c.args.config; book = b }) refl stands

pub returns-in-Err-clause-place : goal.returns-in-Err-clause-place
returns-in-Err-clause-place g c = λ p place e.
    place_as (OfHost c.args.config) (StandsFor c.args.config.number) (to_book c.args.config) (to_host c.args.config) (pair_of (g.D.Disk.seen c.args.first) (g.D.Disk.seen c.args.second)) place
    (c.in-Err.ensures.place p place (c.reason_of.ensures.place place e))

-- the opening's calls, and then those of the first step
pub returns-in-Ok-clause-calls_advance : goal.returns-in-Ok-clause-calls_advance
returns-in-Ok-clause-calls_advance g c =
    let calls_advance = g.D.Disk.calls_advance in
    let place = c.in-Ok.keep.journal in
    let opened = c.in-Ok.ensures.calls_advance in
    IfOk-weaker c.begin.result (λ k. calls_advance (first_disk place) (first_disk k.journal) × calls_advance (second_disk place) (second_disk k.journal))
    (λ k. calls_advance c.args.first (first_disk k.journal) × calls_advance c.args.second (second_disk k.journal))
    (λ k on. (g.met.D.Disk.calls_advance_trans c.args.first (first_disk place) (first_disk k.journal) opened.0 on.0, g.met.D.Disk.calls_advance_trans c.args.second (second_disk place) (second_disk k.journal) opened.1 on.1))
    c.begin.ensures.calls_advance

pub returns-in-Ok-clause-calls_advance_err : goal.returns-in-Ok-clause-calls_advance_err
returns-in-Ok-clause-calls_advance_err g c =
    let calls_advance = g.D.Disk.calls_advance in
    let place = c.in-Ok.keep.journal in
    let opened = c.in-Ok.ensures.calls_advance in
    IfErr-weaker c.begin.result (λ f. calls_advance (first_disk place) f.first × calls_advance (second_disk place) f.second)
    (λ f. calls_advance c.args.first f.first × calls_advance c.args.second f.second)
    (λ f on. (g.met.D.Disk.calls_advance_trans c.args.first (first_disk place) f.first opened.0 on.0, g.met.D.Disk.calls_advance_trans c.args.second (second_disk place) f.second opened.1 on.1))
    c.begin.ensures.calls_advance_err

-- the limits are refused by the first step alone, of the host for which the disks stand
pub returns-in-Err-clause-limits : goal.returns-in-Err-clause-limits
returns-in-Err-clause-limits g c = λ p wrong e. absurd (c.reason_of.ensures.no_limits wrong e)

pub returns-in-Ok-clause-limits : goal.returns-in-Ok-clause-limits
returns-in-Ok-clause-limits g c = λ p.
    let s : Standing = c.in-Ok.keep.machine.standing in
    let pair = pair_of (g.D.Disk.seen c.args.first) (g.D.Disk.seen c.args.second) in
    let clock = c.args.clock in
    let stands = subst (λ (k : Config). StandsEither StandsNow StoodOnce (record { config = k; book = s.book }) pair) c.in-Ok.ensures.fixed (c.in-Ok.ensures.stands p) in
    let told = subst (λ (k : Config). IfErr c.begin.result (λ f. (wrong : LimitsWrong) → f.reason ≡ Limits wrong → step_reply k s.book clock Open ≡ limits_wrong wrong)) c.in-Ok.ensures.fixed c.begin.ensures.limits in
    IfErr-weaker c.begin.result (λ f. (wrong : LimitsWrong) → f.reason ≡ Limits wrong → step_reply c.args.config s.book clock Open ≡ limits_wrong wrong)
    (λ f. (wrong : LimitsWrong) → f.reason ≡ Limits wrong → (before : Book) × StandsEither StandsNow StoodOnce (record { config = c.args.config; book = before }) pair × (step_reply c.args.config before clock Open ≡ limits_wrong wrong))
    (λ f on wrong e. (s.book, stands, on wrong e)) told

pub returns-in-Ok-clause-book : goal.returns-in-Ok-clause-book
returns-in-Ok-clause-book g c = λ p.
    let s : Standing = c.in-Ok.keep.machine.standing in
    let pair = pair_of (g.D.Disk.seen c.args.first) (g.D.Disk.seen c.args.second) in
    let stands = subst (λ (k : Config). StandsEither StandsNow StoodOnce (record { config = k; book = s.book }) pair) c.in-Ok.ensures.fixed (c.in-Ok.ensures.stands p) in
    IfOk-weaker c.begin.result (λ k. k.machine.standing.book ≡ step_book s.config s.book c.args.clock Open)
    (λ k. (before : Book) × StandsEither StandsNow StoodOnce (record { config = c.args.config; book = before }) pair × (k.machine.standing.book ≡ step_book c.args.config before c.args.clock Open))
    (λ k became. (s.book, stands, subst (λ (x : Config). k.machine.standing.book ≡ step_book x s.book c.args.clock Open) c.in-Ok.ensures.fixed became))
    (c.begin.ensures.book p)

-- ---- every moment
pub returns-in-Ok-clause-any_moment : goal.returns-in-Ok-clause-any_moment
returns-in-Ok-clause-any_moment g c = λ p.
    let mid = c.in-Ok.keep in
    let s : Standing = mid.machine.standing in
    let later = started s.config s.book c.args.clock in
    let from = stored g.D.Disk.seen mid.journal in
    ok_three (λ k. Adds g.D.Disk.moment g.D.Disk.left_since mid.journal k.journal (LeftIn from (IsMade StandsNow from later)))
    (λ k. g.D.Disk.calls_advance (first_disk mid.journal) (first_disk k.journal) × g.D.Disk.calls_advance (second_disk mid.journal) (second_disk k.journal))
    (λ k. k.machine.standing.book ≡ step_book s.config s.book c.args.clock Open)
    (λ k. (before : Book) × (k.machine.standing.book ≡ step_book c.args.config before c.args.clock Open)
    × IsStarting g.D.Disk.seen g.D.Disk.may_leave g.D.Disk.moment g.D.Disk.left_since g.D.Disk.calls_advance c.args.config c.args.clock c.args.first c.args.second before (first_disk k.journal) (second_disk k.journal))
    (λ k adds called became. (
      s.book,
      subst (λ (x : Config). k.machine.standing.book ≡ step_book x s.book c.args.clock Open) c.in-Ok.ensures.fixed became,
      starting g.D.Disk.seen g.D.Disk.may_leave g.D.Disk.moment g.D.Disk.left_since g.D.Disk.calls_advance (λ disk bytes now. g.met.D.Disk.only_now disk bytes p now) (λ disk. g.met.D.Disk.reads_now disk p)
          c.args.config c.args.clock c.args.first c.args.second mid c.in-Ok.ensures.fixed (c.in-Ok.ensures.begun p) (c.in-Ok.ensures.stands p) (c.begin.ensures.stands p) (c.begin.ensures.each p) c.in-Ok.ensures.calls_advance
          (first_disk k.journal) (second_disk k.journal) adds.first adds.second called,
    ))
    c.begin.result (c.begin.ensures.adds p) c.begin.ensures.calls_advance (c.begin.ensures.book p)

pub returns-in-Ok-clause-any_moment_err : goal.returns-in-Ok-clause-any_moment_err
returns-in-Ok-clause-any_moment_err g c = λ p.
    let mid = c.in-Ok.keep in
    let s : Standing = mid.machine.standing in
    let later = started s.config s.book c.args.clock in
    let from = stored g.D.Disk.seen mid.journal in
    err_three (λ f. AddsOnly g.D.Disk.moment g.D.Disk.left_since (first_disk mid.journal) f.first (LeftIn from (IsMade StandsNow from later) false))
    (λ f. AddsOnly g.D.Disk.moment g.D.Disk.left_since (second_disk mid.journal) f.second (LeftIn from (IsMade StandsNow from later) true))
    (λ f. g.D.Disk.calls_advance (first_disk mid.journal) f.first × g.D.Disk.calls_advance (second_disk mid.journal) f.second)
    (λ f. EachUnlessUndone g.D.Disk.seen g.D.Disk.may_leave g.D.Disk.moment g.D.Disk.left_since c.args.first c.args.second f.first f.second
    (λ x y. StandsAsBefore StandsNow StoodOnce (pair_of (g.D.Disk.seen c.args.first) (g.D.Disk.seen c.args.second)) (pair_of x y))
    ⊎ ((before : Book) × IsStarting g.D.Disk.seen g.D.Disk.may_leave g.D.Disk.moment g.D.Disk.left_since g.D.Disk.calls_advance c.args.config c.args.clock c.args.first c.args.second before f.first f.second))
    (λ f adds adds_too called. inr (
      s.book,
      starting g.D.Disk.seen g.D.Disk.may_leave g.D.Disk.moment g.D.Disk.left_since g.D.Disk.calls_advance (λ disk bytes now. g.met.D.Disk.only_now disk bytes p now) (λ disk. g.met.D.Disk.reads_now disk p)
          c.args.config c.args.clock c.args.first c.args.second mid c.in-Ok.ensures.fixed (c.in-Ok.ensures.begun p) (c.in-Ok.ensures.stands p) (c.begin.ensures.stands p) (c.begin.ensures.each p) c.in-Ok.ensures.calls_advance
          f.first f.second adds adds_too called,
    ))
    c.begin.result (c.begin.ensures.adds_first p) (c.begin.ensures.adds_second p) c.begin.ensures.calls_advance_err

-- ---- the calls that are told
pub returns-in-Ok-clause-told : goal.returns-in-Ok-clause-told
returns-in-Ok-clause-told g c =
    let mid = c.in-Ok.keep in
    IfOk-weaker c.begin.result (λ k. (reply : Reply) × IsFirstAnswer g.D.Disk.premise g.D.Disk.seen g.D.Disk.told c.args.clock mid k reply)
    (λ k. Started g.D.Disk.premise g.D.Disk.seen g.D.Disk.told c.args.clock c.args.first c.args.second k)
    (λ k made. started_so g.D.Disk.premise g.D.Disk.seen g.D.Disk.told c.args.clock c.args.first c.args.second mid c.in-Ok.ensures.opened c.in-Ok.ensures.ready k made)
    c.begin.ensures.answered

pub returns-in-Ok-clause-told_err : goal.returns-in-Ok-clause-told_err
returns-in-Ok-clause-told_err g c =
    let mid = c.in-Ok.keep in
    IfErr-weaker c.begin.result
    (λ f. f.reason ≡ DiskFault → (now : KeptHost g.row.D.Denot) × IsFirstFault g.D.Disk.premise g.D.Disk.seen g.D.Disk.told g.D.Disk.disk_faults g.D.Disk.calls_advance c.args.clock mid now × (f.first ≡ first_disk now.journal) × (f.second ≡ second_disk now.journal))
    (λ f. f.reason ≡ DiskFault → TellsSome g.D.Disk.told g.D.Disk.disk_faults g.D.Disk.calls_advance c.args.first c.args.second f.first f.second (sync_calls false)
    ⊎ (Unwritten g.D.Disk.premise g.D.Disk.seen g.D.Disk.told g.D.Disk.disk_faults g.D.Disk.calls_advance StandsNow c.args.first c.args.second f.first f.second
    ⊎ Halted g.D.Disk.premise g.D.Disk.seen g.D.Disk.told g.D.Disk.disk_faults g.D.Disk.calls_advance c.args.clock c.args.first c.args.second f.first f.second))
    (λ f halted e. inr (inr (halted_so g.D.Disk.premise g.D.Disk.seen g.D.Disk.told g.D.Disk.disk_faults g.D.Disk.calls_advance c.args.clock g.met.D.Disk.calls_advance_refl g.met.D.Disk.calls_advance_trans c.args.first c.args.second mid c.in-Ok.ensures.opened
    c.in-Ok.ensures.ready c.in-Ok.ensures.no_fault c.in-Ok.ensures.calls_advance f.first f.second (halted e))))
    c.begin.ensures.halted

pub returns-in-Ok-clause-told_refused : goal.returns-in-Ok-clause-told_refused
returns-in-Ok-clause-told_refused g c =
    let mid = c.in-Ok.keep in
    IfErr-weaker c.begin.result (λ f. (f.reason ≡ DiskFault → ⊥) → TellsPair g.D.Disk.told (first_disk mid.journal) (second_disk mid.journal) f.first f.second [])
    (λ f. (f.reason ≡ DiskFault → ⊥) → TellsPair g.D.Disk.told c.args.first c.args.second f.first f.second (sync_calls false) ⊎ Unstarted g.D.Disk.premise g.D.Disk.seen g.D.Disk.told c.args.clock c.args.first c.args.second f.first f.second)
    (λ f unmoved no_fault. inr (unstarted_so g.D.Disk.premise g.D.Disk.seen g.D.Disk.told c.args.clock c.args.first c.args.second mid c.in-Ok.ensures.opened f.first f.second (unmoved no_fault)))
    c.begin.ensures.unmoved

pub returns-in-Err-clause-told_err : goal.returns-in-Err-clause-told_err
returns-in-Err-clause-told_err g c = λ e. ⊎_elim (λ syncs. inl syncs) (λ written. inr (inl written)) (c.in-Err.ensures.told_err (c.reason_of.ensures.disk e))

pub returns-in-Err-clause-told_refused : goal.returns-in-Err-clause-told_refused
returns-in-Err-clause-told_refused g c = λ no_fault. inl (c.in-Err.ensures.told_refused (c.reason_of.ensures.no_disk no_fault))

pub returns-in-Err-clause-any_moment_err : goal.returns-in-Err-clause-any_moment_err
returns-in-Err-clause-any_moment_err g c = λ p. inl (c.in-Err.ensures.unless_undone_err p)
