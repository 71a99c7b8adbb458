use Rattle.std.proofs.Common.{◌∙◌, ap, arith, length}
use Rattle.host_journal.proofs.CallLemmas.{on_err}
use Rattle.host_journal.proofs.RecordLemmas.{append_unopened, unopened_same, append_at_gate, gate_which, append_done, appended, append_durable, exit_left}
use Rattle.host_journal.proofs.ToldLemmas.{append_told_behind, append_told_gate}
use Rattle.host_journal.proofs.journal.Journal.append.Goals as goal

pub invariant_of-self : goal.invariant_of-self
invariant_of-self g c = (
  c.self.invariant.0,
  c.self.invariant.1,
  λ p. (append_unopened g.D.Disk.seen g.D.Disk.may_leave g.D.Disk.moment g.D.Disk.left_since (λ d. g.met.D.Disk.reads_now d p) (λ d b left. g.met.D.Disk.only_now d b p left) _ _ c.self.view_is c.requires.ready (c.self.invariant.2 p) c.write_and_sync.new.disk _ c.args.payload.now c.deref.result.now (c.deref.ensures.value ∙ c.put_record.ensures.items) c.write_and_sync.new.disk (c.write_and_sync.ensures.moments p) (c.write_and_sync.ensures.part p) (c.write_and_sync.ensures.images p)).sound,
  tt,
)

pub returns-in_err-write_and_sync-clause-any_moment : goal.returns-in_err-write_and_sync-clause-any_moment
returns-in_err-write_and_sync-clause-any_moment g c p =
    (append_unopened g.D.Disk.seen g.D.Disk.may_leave g.D.Disk.moment g.D.Disk.left_since (λ d. g.met.D.Disk.reads_now d p) (λ d b left. g.met.D.Disk.only_now d b p left) _ _ c.self.view_is c.requires.ready (c.self.invariant.2 p) c.write_and_sync.new.disk 0 c.args.payload.now c.deref.result.now (c.deref.ensures.value ∙ c.put_record.ensures.items) c.write_and_sync.new.disk (c.write_and_sync.ensures.moments p) (c.write_and_sync.ensures.part p) (c.write_and_sync.ensures.images p)).since

pub returns-in_err-write_and_sync-clause-adds : goal.returns-in_err-write_and_sync-clause-adds
returns-in_err-write_and_sync-clause-adds g c p =
    (append_unopened g.D.Disk.seen g.D.Disk.may_leave g.D.Disk.moment g.D.Disk.left_since (λ d. g.met.D.Disk.reads_now d p) (λ d b left. g.met.D.Disk.only_now d b p left) _ _ c.self.view_is c.requires.ready (c.self.invariant.2 p) c.write_and_sync.new.disk _ c.args.payload.now c.deref.result.now (c.deref.ensures.value ∙ c.put_record.ensures.items) c.write_and_sync.new.disk (c.write_and_sync.ensures.moments p) (c.write_and_sync.ensures.part p) (c.write_and_sync.ensures.images p)).adds

pub returns-in_err-write_and_sync-clause-left : goal.returns-in_err-write_and_sync-clause-left
returns-in_err-write_and_sync-clause-left g c p =
    on_err _ c.from_residual.result (exit_left g.D.Disk.seen g.D.Disk.may_leave g.D.Disk.moment g.D.Disk.left_since (λ d t b le now. g.met.D.Disk.counts_now d t b p le now) _ _ _ _
    (append_unopened g.D.Disk.seen g.D.Disk.may_leave g.D.Disk.moment g.D.Disk.left_since (λ d. g.met.D.Disk.reads_now d p) (λ d b left. g.met.D.Disk.only_now d b p left) _ _ c.self.view_is c.requires.ready (c.self.invariant.2 p) c.write_and_sync.new.disk 0 c.args.payload.now c.deref.result.now (c.deref.ensures.value ∙ c.put_record.ensures.items) c.write_and_sync.new.disk (c.write_and_sync.ensures.moments p) (c.write_and_sync.ensures.part p) (c.write_and_sync.ensures.images p)))

pub returns-in_err-write_and_sync-clause-whole_or_not : goal.returns-in_err-write_and_sync-clause-whole_or_not
returns-in_err-write_and_sync-clause-whole_or_not g c p =
    (append_unopened g.D.Disk.seen g.D.Disk.may_leave g.D.Disk.moment g.D.Disk.left_since (λ d. g.met.D.Disk.reads_now d p) (λ d b left. g.met.D.Disk.only_now d b p left) _ _ c.self.view_is c.requires.ready (c.self.invariant.2 p) c.write_and_sync.new.disk 0 c.args.payload.now c.deref.result.now (c.deref.ensures.value ∙ c.put_record.ensures.items) c.write_and_sync.new.disk (c.write_and_sync.ensures.moments p) (c.write_and_sync.ensures.part p) (c.write_and_sync.ensures.images p)).now

pub returns-in_err-write_and_sync-clause-which : goal.returns-in_err-write_and_sync-clause-which
returns-in_err-write_and_sync-clause-which g c p =
    on_err _ c.from_residual.result (unopened_same g.D.Disk.seen g.D.Disk.may_leave g.D.Disk.moment g.D.Disk.left_since (λ d. g.met.D.Disk.reads_now d p) (λ d b left. g.met.D.Disk.only_now d b p left) _ _ c.self.view_is c.requires.ready (c.self.invariant.2 p) c.write_and_sync.new.disk 0 c.args.payload.now c.deref.result.now (c.deref.ensures.value ∙ c.put_record.ensures.items) c.write_and_sync.new.disk (c.write_and_sync.ensures.moments p) (c.write_and_sync.ensures.part p))

pub returns-in_err-write_and_sync-clause-told_first : goal.returns-in_err-write_and_sync-clause-told_first
returns-in_err-write_and_sync-clause-told_first g c =
    on_err _ c.from_residual.result (append_told_behind g.D.Disk.told g.D.Disk.disk_faults g.D.Disk.calls_advance g.met.D.Disk.calls_advance_refl g.met.D.Disk.calls_advance_trans _ _ c.self.view_is c.args.payload.now c.deref.result.now (c.deref.ensures.value ∙ c.put_record.ensures.items) c.write_and_sync.new.disk c.in_err-write_and_sync.ensures.told_first)

pub invariant_of-self-in_err-write_and_sync-2 : goal.invariant_of-self-in_err-write_and_sync-2
invariant_of-self-in_err-write_and_sync-2 g c = (
  c.self.invariant.0,
  c.self.invariant.1,
  λ p. (append_at_gate g.D.Disk.seen g.D.Disk.may_leave g.D.Disk.moment g.D.Disk.left_since (λ d. g.met.D.Disk.reads_now d p) (λ d b left. g.met.D.Disk.only_now d b p left) _ _ c.self.view_is c.requires.ready (c.self.invariant.2 p) c.write_and_sync-2.new.disk _ c.args.payload.now c.deref.result.now (c.deref.ensures.value ∙ c.put_record.ensures.items) c.write_and_sync.new.disk (c.write_and_sync.ensures.moments p) c.requires.bound (c.in_ok-write_and_sync.ensures.written p) (c.in_ok-write_and_sync.ensures.fixed p) (c.write_and_sync-2.ensures.moments p) c.len.result (omega (arith, c.len.ensures, ap length c.deref.ensures.value)) (c.write_and_sync-2.ensures.images p)).sound,
  (omega (arith, c.in_ok-write_and_sync.ensures.reach, c.len.ensures, c.deref.ensures.len, ap length c.deref.ensures.value), omega (arith, c.self.invariant.1)),
)

pub returns-in_err-write_and_sync-2-clause-any_moment : goal.returns-in_err-write_and_sync-2-clause-any_moment
returns-in_err-write_and_sync-2-clause-any_moment g c p =
    (append_at_gate g.D.Disk.seen g.D.Disk.may_leave g.D.Disk.moment g.D.Disk.left_since (λ d. g.met.D.Disk.reads_now d p) (λ d b left. g.met.D.Disk.only_now d b p left) _ _ c.self.view_is c.requires.ready (c.self.invariant.2 p) c.write_and_sync-2.new.disk 0 c.args.payload.now c.deref.result.now (c.deref.ensures.value ∙ c.put_record.ensures.items) c.write_and_sync.new.disk (c.write_and_sync.ensures.moments p) c.requires.bound (c.in_ok-write_and_sync.ensures.written p) (c.in_ok-write_and_sync.ensures.fixed p) (c.write_and_sync-2.ensures.moments p) c.len.result (omega (arith, c.len.ensures, ap length c.deref.ensures.value)) (c.write_and_sync-2.ensures.images p)).since

pub returns-in_err-write_and_sync-2-clause-adds : goal.returns-in_err-write_and_sync-2-clause-adds
returns-in_err-write_and_sync-2-clause-adds g c p =
    (append_at_gate g.D.Disk.seen g.D.Disk.may_leave g.D.Disk.moment g.D.Disk.left_since (λ d. g.met.D.Disk.reads_now d p) (λ d b left. g.met.D.Disk.only_now d b p left) _ _ c.self.view_is c.requires.ready (c.self.invariant.2 p) c.write_and_sync-2.new.disk _ c.args.payload.now c.deref.result.now (c.deref.ensures.value ∙ c.put_record.ensures.items) c.write_and_sync.new.disk (c.write_and_sync.ensures.moments p) c.requires.bound (c.in_ok-write_and_sync.ensures.written p) (c.in_ok-write_and_sync.ensures.fixed p) (c.write_and_sync-2.ensures.moments p) c.len.result (omega (arith, c.len.ensures, ap length c.deref.ensures.value)) (c.write_and_sync-2.ensures.images p)).adds

pub returns-in_err-write_and_sync-2-clause-left : goal.returns-in_err-write_and_sync-2-clause-left
returns-in_err-write_and_sync-2-clause-left g c p =
    on_err _ c.from_residual-in_err-write_and_sync-2.result (exit_left g.D.Disk.seen g.D.Disk.may_leave g.D.Disk.moment g.D.Disk.left_since (λ d t b le now. g.met.D.Disk.counts_now d t b p le now) _ _ _ _
    (append_at_gate g.D.Disk.seen g.D.Disk.may_leave g.D.Disk.moment g.D.Disk.left_since (λ d. g.met.D.Disk.reads_now d p) (λ d b left. g.met.D.Disk.only_now d b p left) _ _ c.self.view_is c.requires.ready (c.self.invariant.2 p) c.write_and_sync-2.new.disk 0 c.args.payload.now c.deref.result.now (c.deref.ensures.value ∙ c.put_record.ensures.items) c.write_and_sync.new.disk (c.write_and_sync.ensures.moments p) c.requires.bound (c.in_ok-write_and_sync.ensures.written p) (c.in_ok-write_and_sync.ensures.fixed p) (c.write_and_sync-2.ensures.moments p) c.len.result (omega (arith, c.len.ensures, ap length c.deref.ensures.value)) (c.write_and_sync-2.ensures.images p)))

pub returns-in_err-write_and_sync-2-clause-whole_or_not : goal.returns-in_err-write_and_sync-2-clause-whole_or_not
returns-in_err-write_and_sync-2-clause-whole_or_not g c p =
    (append_at_gate g.D.Disk.seen g.D.Disk.may_leave g.D.Disk.moment g.D.Disk.left_since (λ d. g.met.D.Disk.reads_now d p) (λ d b left. g.met.D.Disk.only_now d b p left) _ _ c.self.view_is c.requires.ready (c.self.invariant.2 p) c.write_and_sync-2.new.disk 0 c.args.payload.now c.deref.result.now (c.deref.ensures.value ∙ c.put_record.ensures.items) c.write_and_sync.new.disk (c.write_and_sync.ensures.moments p) c.requires.bound (c.in_ok-write_and_sync.ensures.written p) (c.in_ok-write_and_sync.ensures.fixed p) (c.write_and_sync-2.ensures.moments p) c.len.result (omega (arith, c.len.ensures, ap length c.deref.ensures.value)) (c.write_and_sync-2.ensures.images p)).now

pub returns-in_err-write_and_sync-2-clause-which : goal.returns-in_err-write_and_sync-2-clause-which
returns-in_err-write_and_sync-2-clause-which g c p =
    on_err _ c.from_residual-in_err-write_and_sync-2.result (gate_which g.D.Disk.seen g.D.Disk.may_leave g.D.Disk.moment g.D.Disk.left_since (λ d. g.met.D.Disk.reads_now d p) (λ d b left. g.met.D.Disk.only_now d b p left) _ _ c.self.view_is c.requires.ready (c.self.invariant.2 p) c.write_and_sync-2.new.disk 0 c.args.payload.now c.deref.result.now (c.deref.ensures.value ∙ c.put_record.ensures.items) c.write_and_sync.new.disk (c.write_and_sync.ensures.moments p) c.requires.bound (c.in_ok-write_and_sync.ensures.written p) (c.in_ok-write_and_sync.ensures.fixed p) (c.write_and_sync-2.ensures.moments p) c.len.result (omega (arith, c.len.ensures, ap length c.deref.ensures.value)) (c.write_and_sync-2.ensures.images p))

pub returns-in_err-write_and_sync-2-clause-told_first : goal.returns-in_err-write_and_sync-2-clause-told_first
returns-in_err-write_and_sync-2-clause-told_first g c =
    on_err _ c.from_residual-in_err-write_and_sync-2.result (append_told_gate g.D.Disk.told g.D.Disk.disk_faults g.D.Disk.calls_advance g.met.D.Disk.calls_advance_refl g.met.D.Disk.calls_advance_trans _ _ c.self.view_is c.args.payload.now c.deref.result.now (c.deref.ensures.value ∙ c.put_record.ensures.items) c.write_and_sync.new.disk c.write_and_sync-2.new.disk (record { told = c.in_ok-write_and_sync.ensures.told; no_fault = c.in_ok-write_and_sync.ensures.no_fault; calls_advance = c.write_and_sync.ensures.calls_advance }) c.in_err-write_and_sync-2.ensures.told_first)

pub invariant_of-self-2 : goal.invariant_of-self-2
invariant_of-self-2 g c = (
  omega (arith, c.in_ok-write_and_sync.ensures.reach, c.len.ensures, c.deref.ensures.len, ap length c.deref.ensures.value),
  omega (arith, c.self.invariant.1),
  λ p. (append_done g.D.Disk.seen g.D.Disk.may_leave g.D.Disk.moment g.D.Disk.left_since (λ d. g.met.D.Disk.reads_now d p) (λ d b left. g.met.D.Disk.only_now d b p left) _ _ c.self.view_is c.requires.ready (c.self.invariant.2 p) c.write_and_sync-2.new.disk _ c.args.payload.now c.deref.result.now (c.deref.ensures.value ∙ c.put_record.ensures.items) c.write_and_sync.new.disk (c.write_and_sync.ensures.moments p) c.requires.bound (c.in_ok-write_and_sync.ensures.written p) (c.in_ok-write_and_sync.ensures.fixed p) (c.write_and_sync-2.ensures.moments p) c.len.result (omega (arith, c.len.ensures, ap length c.deref.ensures.value)) (c.in_ok-write_and_sync-2.ensures.written p) (c.in_ok-write_and_sync-2.ensures.fixed p)).sound,
  tt,
)

pub returns-clause-appended : goal.returns-clause-appended
returns-clause-appended g c p =
    appended g.D.Disk.seen g.D.Disk.may_leave g.D.Disk.moment g.D.Disk.left_since (λ d. g.met.D.Disk.reads_now d p) (λ d b left. g.met.D.Disk.only_now d b p left) _ _ c.self.view_is c.requires.ready (c.self.invariant.2 p) c.write_and_sync-2.new.disk 0 c.args.payload.now c.deref.result.now (c.deref.ensures.value ∙ c.put_record.ensures.items) c.write_and_sync.new.disk (c.write_and_sync.ensures.moments p) c.requires.bound (c.in_ok-write_and_sync.ensures.written p) (c.in_ok-write_and_sync.ensures.fixed p) (c.write_and_sync-2.ensures.moments p) c.len.result (omega (arith, c.len.ensures, ap length c.deref.ensures.value)) (c.in_ok-write_and_sync-2.ensures.written p) (c.in_ok-write_and_sync-2.ensures.fixed p)

pub returns-clause-durable : goal.returns-clause-durable
returns-clause-durable g c p =
    append_durable g.D.Disk.seen g.D.Disk.may_leave g.D.Disk.moment g.D.Disk.left_since (λ d. g.met.D.Disk.reads_now d p) (λ d b left. g.met.D.Disk.only_now d b p left) _ _ c.self.view_is c.requires.ready (c.self.invariant.2 p) c.write_and_sync-2.new.disk 0 c.args.payload.now c.deref.result.now (c.deref.ensures.value ∙ c.put_record.ensures.items) c.write_and_sync.new.disk (c.write_and_sync.ensures.moments p) c.requires.bound (c.in_ok-write_and_sync.ensures.written p) (c.in_ok-write_and_sync.ensures.fixed p) (c.write_and_sync-2.ensures.moments p) c.len.result (omega (arith, c.len.ensures, ap length c.deref.ensures.value)) (c.in_ok-write_and_sync-2.ensures.written p) (c.in_ok-write_and_sync-2.ensures.fixed p)

pub returns-clause-any_moment : goal.returns-clause-any_moment
returns-clause-any_moment g c p =
    (append_done g.D.Disk.seen g.D.Disk.may_leave g.D.Disk.moment g.D.Disk.left_since (λ d. g.met.D.Disk.reads_now d p) (λ d b left. g.met.D.Disk.only_now d b p left) _ _ c.self.view_is c.requires.ready (c.self.invariant.2 p) c.write_and_sync-2.new.disk 0 c.args.payload.now c.deref.result.now (c.deref.ensures.value ∙ c.put_record.ensures.items) c.write_and_sync.new.disk (c.write_and_sync.ensures.moments p) c.requires.bound (c.in_ok-write_and_sync.ensures.written p) (c.in_ok-write_and_sync.ensures.fixed p) (c.write_and_sync-2.ensures.moments p) c.len.result (omega (arith, c.len.ensures, ap length c.deref.ensures.value)) (c.in_ok-write_and_sync-2.ensures.written p) (c.in_ok-write_and_sync-2.ensures.fixed p)).since

pub returns-clause-adds : goal.returns-clause-adds
returns-clause-adds g c p =
    (append_done g.D.Disk.seen g.D.Disk.may_leave g.D.Disk.moment g.D.Disk.left_since (λ d. g.met.D.Disk.reads_now d p) (λ d b left. g.met.D.Disk.only_now d b p left) _ _ c.self.view_is c.requires.ready (c.self.invariant.2 p) c.write_and_sync-2.new.disk _ c.args.payload.now c.deref.result.now (c.deref.ensures.value ∙ c.put_record.ensures.items) c.write_and_sync.new.disk (c.write_and_sync.ensures.moments p) c.requires.bound (c.in_ok-write_and_sync.ensures.written p) (c.in_ok-write_and_sync.ensures.fixed p) (c.write_and_sync-2.ensures.moments p) c.len.result (omega (arith, c.len.ensures, ap length c.deref.ensures.value)) (c.in_ok-write_and_sync-2.ensures.written p) (c.in_ok-write_and_sync-2.ensures.fixed p)).adds

pub returns-clause-whole_or_not : goal.returns-clause-whole_or_not
returns-clause-whole_or_not g c p =
    (append_done g.D.Disk.seen g.D.Disk.may_leave g.D.Disk.moment g.D.Disk.left_since (λ d. g.met.D.Disk.reads_now d p) (λ d b left. g.met.D.Disk.only_now d b p left) _ _ c.self.view_is c.requires.ready (c.self.invariant.2 p) c.write_and_sync-2.new.disk 0 c.args.payload.now c.deref.result.now (c.deref.ensures.value ∙ c.put_record.ensures.items) c.write_and_sync.new.disk (c.write_and_sync.ensures.moments p) c.requires.bound (c.in_ok-write_and_sync.ensures.written p) (c.in_ok-write_and_sync.ensures.fixed p) (c.write_and_sync-2.ensures.moments p) c.len.result (omega (arith, c.len.ensures, ap length c.deref.ensures.value)) (c.in_ok-write_and_sync-2.ensures.written p) (c.in_ok-write_and_sync-2.ensures.fixed p)).now
