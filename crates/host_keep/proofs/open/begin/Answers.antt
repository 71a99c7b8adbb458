use Rattle.std.proofs.Common.{◌≡◌, ◌∙◌, [], Err, ap, subst, sym, false, true}
use Rattle.host_journal.specs.Moments.{AddsOnly, LeftIn}
use Rattle.host_journal.specs.State.{first_disk, has_record, second_disk, stored}
use Rattle.host_model.specs.Step.{step_reply}
use Rattle.host_model.specs.declared.input.Input.TheVariants.{Open}
use Rattle.host_model.specs.declared.reply.Reply.{Reply}
use Rattle.host_model.specs.declared.reply.Reply.TheVariants.{LimitsWrong as limits_wrong}
use Rattle.machine_keep.specs.Calls.{TellsIn, sync_calls}
use Rattle.machine_keep.specs.Kept.{IsMade, after_step, caught}
use Rattle.machine_keep.specs.declared.fault.StepFault.TheVariants.{Disk as disk_fault, Memory as no_memory}
use Rattle.host_keep.specs.Laws.{book_answered}
use Rattle.host_keep.specs.Opening.{started}
use Rattle.host_keep.specs.Standing.{Answers, Standing, StandsNow, after}
use Rattle.host_keep.specs.declared.call.HostCall.{HostCall}
use Rattle.host_keep.proofs.OpeningLemmas.{adds_started, met_in_step, told_back}
use Rattle.host_keep.proofs.RefusedLemmas.{refused_calls}
use Rattle.host_keep.proofs.open.begin.Goals as goal

-- no step was unsure, so the first one is of the host that was opened
pub returns-in-Ok-clause-book : goal.returns-in-Ok-clause-book
returns-in-Ok-clause-book g c p =
    let s : Standing = c.args.keep.machine.standing in
    let call : HostCall = record { clock = c.args.clock; input = Open } in
    let stood = has_record c.args.keep.journal.pending (stored g.D.Disk.seen c.args.keep.journal) in
    let is : caught after s c.args.keep.unsure stood ≡ s = ap (λ u. caught after s u stood) (c.known.ensures.sure c.requires.ready) in
    let done = c.in-Ok.ensures.done p in
    let answers = subst (λ (x : Standing). Answers x call c.in-Ok.reply done.0) is done.1 in
    ap (λ (x : Standing). x.book) (done.2 ∙ ap (λ x. after_step after x done.0) is) ∙ book_answered s call c.in-Ok.reply done.0 answers

-- what the first step answers, where it refuses the limits
pub returns-in-Ok-LimitsWrong-clause-limits : goal.returns-in-Ok-LimitsWrong-clause-limits
returns-in-Ok-LimitsWrong-clause-limits g c = λ wrong e.
    let s : Standing = c.args.keep.machine.standing in
    let call : HostCall = record { clock = c.args.clock; input = Open } in
    let reply : Reply = c.in-Ok-LimitsWrong.field-0 in
    let done = c.in-Ok-LimitsWrong.ensures.answered in
    let is : caught after s c.args.keep.unsure done.stood ≡ s = ap (λ u. caught after s u done.stood) (c.known.ensures.sure c.requires.ready) in
    let answers = subst (λ (x : Standing). Answers x call reply done.step) is done.answered in
    let told : step_reply s.config s.book c.args.clock Open ≡ limits_wrong c.in-Ok-LimitsWrong.wrong = sym answers.reply ∙ c.in-Ok-LimitsWrong.field-0-is in
    let same : c.in-Ok-LimitsWrong.wrong ≡ wrong = cc (c.refused.ensures.reason, e) in
    told ∙ ap limits_wrong same

-- ---- every moment
pub returns-in-Ok-clause-adds : goal.returns-in-Ok-clause-adds
returns-in-Ok-clause-adds g c p =
    adds_started g.D.Disk.moment g.D.Disk.left_since c.args.keep.journal c.apply.new.self.journal (stored g.D.Disk.seen c.args.keep.journal) c.args.keep.machine.standing c.args.clock (c.apply.ensures.adds p c.requires.ready)

pub returns-in-Ok-LimitsWrong-clause-adds_first : goal.returns-in-Ok-LimitsWrong-clause-adds_first
returns-in-Ok-LimitsWrong-clause-adds_first g c p =
    let s : Standing = c.args.keep.machine.standing in
    let from = stored g.D.Disk.seen c.args.keep.journal in
    subst (λ d. AddsOnly g.D.Disk.moment g.D.Disk.left_since (first_disk c.args.keep.journal) d (LeftIn from (IsMade StandsNow from (started s.config s.book c.args.clock)) false)) (sym c.refused.ensures.first)
    (adds_started g.D.Disk.moment g.D.Disk.left_since c.args.keep.journal c.apply.new.self.journal from s c.args.clock (c.apply.ensures.adds p c.requires.ready)).first

pub returns-in-Ok-LimitsWrong-clause-adds_second : goal.returns-in-Ok-LimitsWrong-clause-adds_second
returns-in-Ok-LimitsWrong-clause-adds_second g c p =
    let s : Standing = c.args.keep.machine.standing in
    let from = stored g.D.Disk.seen c.args.keep.journal in
    subst (λ d. AddsOnly g.D.Disk.moment g.D.Disk.left_since (second_disk c.args.keep.journal) d (LeftIn from (IsMade StandsNow from (started s.config s.book c.args.clock)) true)) (sym c.refused.ensures.second)
    (adds_started g.D.Disk.moment g.D.Disk.left_since c.args.keep.journal c.apply.new.self.journal from s c.args.clock (c.apply.ensures.adds p c.requires.ready)).second

pub returns-in-Err-Disk-clause-adds_first : goal.returns-in-Err-Disk-clause-adds_first
returns-in-Err-Disk-clause-adds_first g c p =
    let s : Standing = c.args.keep.machine.standing in
    let from = stored g.D.Disk.seen c.args.keep.journal in
    subst (λ d. AddsOnly g.D.Disk.moment g.D.Disk.left_since (first_disk c.args.keep.journal) d (LeftIn from (IsMade StandsNow from (started s.config s.book c.args.clock)) false)) (sym c.refused-in-Err-Disk.ensures.first)
    (adds_started g.D.Disk.moment g.D.Disk.left_since c.args.keep.journal c.apply.new.self.journal from s c.args.clock (c.apply.ensures.adds p c.requires.ready)).first

pub returns-in-Err-Disk-clause-adds_second : goal.returns-in-Err-Disk-clause-adds_second
returns-in-Err-Disk-clause-adds_second g c p =
    let s : Standing = c.args.keep.machine.standing in
    let from = stored g.D.Disk.seen c.args.keep.journal in
    subst (λ d. AddsOnly g.D.Disk.moment g.D.Disk.left_since (second_disk c.args.keep.journal) d (LeftIn from (IsMade StandsNow from (started s.config s.book c.args.clock)) true)) (sym c.refused-in-Err-Disk.ensures.second)
    (adds_started g.D.Disk.moment g.D.Disk.left_since c.args.keep.journal c.apply.new.self.journal from s c.args.clock (c.apply.ensures.adds p c.requires.ready)).second

pub returns-in-Err-Memory-clause-adds_first : goal.returns-in-Err-Memory-clause-adds_first
returns-in-Err-Memory-clause-adds_first g c p =
    let s : Standing = c.args.keep.machine.standing in
    let from = stored g.D.Disk.seen c.args.keep.journal in
    subst (λ d. AddsOnly g.D.Disk.moment g.D.Disk.left_since (first_disk c.args.keep.journal) d (LeftIn from (IsMade StandsNow from (started s.config s.book c.args.clock)) false)) (sym c.refused-in-Err-Memory.ensures.first)
    (adds_started g.D.Disk.moment g.D.Disk.left_since c.args.keep.journal c.apply.new.self.journal from s c.args.clock (c.apply.ensures.adds p c.requires.ready)).first

pub returns-in-Err-Memory-clause-adds_second : goal.returns-in-Err-Memory-clause-adds_second
returns-in-Err-Memory-clause-adds_second g c p =
    let s : Standing = c.args.keep.machine.standing in
    let from = stored g.D.Disk.seen c.args.keep.journal in
    subst (λ d. AddsOnly g.D.Disk.moment g.D.Disk.left_since (second_disk c.args.keep.journal) d (LeftIn from (IsMade StandsNow from (started s.config s.book c.args.clock)) true)) (sym c.refused-in-Err-Memory.ensures.second)
    (adds_started g.D.Disk.moment g.D.Disk.left_since c.args.keep.journal c.apply.new.self.journal from s c.args.clock (c.apply.ensures.adds p c.requires.ready)).second

-- ---- the calls that are told
pub returns-in-Ok-clause-answered : goal.returns-in-Ok-clause-answered
returns-in-Ok-clause-answered g c = (c.in-Ok.reply, c.in-Ok.ensures.answered)

pub returns-in-Err-Disk-clause-halted : goal.returns-in-Err-Disk-clause-halted
returns-in-Err-Disk-clause-halted g c = λ _.
    let is : c.apply.result ≡ Err disk_fault = cc in (
      c.apply.new.self,
      met_in_step g.D.Disk.premise g.D.Disk.seen g.D.Disk.told g.D.Disk.disk_faults g.D.Disk.calls_advance c.args.clock c.args.keep c.apply.new.self c.requires.ready (c.apply.ensures.failed is),
      c.refused-in-Err-Disk.ensures.first,
      c.refused-in-Err-Disk.ensures.second,
    )

pub returns-in-Ok-LimitsWrong-clause-unmoved : goal.returns-in-Ok-LimitsWrong-clause-unmoved
returns-in-Ok-LimitsWrong-clause-unmoved g c = λ _.
    told_back g.D.Disk.told c.args.keep.journal c.apply.new.self.journal c.refused.result.first c.refused.result.second [] c.refused.ensures.first c.refused.ensures.second
    (refused_calls g.D.Disk.premise g.D.Disk.seen g.D.Disk.told c.args.clock c.args.keep c.apply.new.self c.in-Ok-LimitsWrong.field-0 c.in-Ok-LimitsWrong.wrong (c.known.ensures.sure c.requires.ready) c.requires.ready
    c.in-Ok-LimitsWrong.field-0-is c.in-Ok-LimitsWrong.ensures.answered)

pub returns-in-Err-Memory-clause-unmoved : goal.returns-in-Err-Memory-clause-unmoved
returns-in-Err-Memory-clause-unmoved g c = λ _.
    let is : c.apply.result ≡ Err no_memory = cc in
    told_back g.D.Disk.told c.args.keep.journal c.apply.new.self.journal c.refused-in-Err-Memory.result.first c.refused-in-Err-Memory.result.second [] c.refused-in-Err-Memory.ensures.first c.refused-in-Err-Memory.ensures.second
    (subst (λ b. TellsIn g.D.Disk.told c.args.keep.journal c.apply.new.self.journal (sync_calls b)) c.requires.ready (c.apply.ensures.out_of_memory is).told)
