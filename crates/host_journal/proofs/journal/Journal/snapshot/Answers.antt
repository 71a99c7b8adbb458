use Rattle.std.proofs.Common.{◌≡◌, Bool, true, false, if◌then◌else◌, inl, inr, refl, ◌+◌, length, ◌∙◌, ap, arith, subst}
use Rattle.std.specs.Vec.{vec_capacity}
use Rattle.host_journal.specs.State.{State, first_disk, second_disk}
use Rattle.host_journal.proofs.CallLemmas.{on_err}
use Rattle.host_journal.proofs.RecordLemmas.{exit_left}
use Rattle.host_journal.proofs.TurnExits.{closing_exit, putting_exit, opening_exit, done_exit, done_counts, done_durable, told_closing, told_putting, told_opening, told_done, shut_closing, shut_putting, shut_opening}
use Rattle.host_journal.proofs.journal.Journal.snapshot.Goals as goal

-- the disk that doesn't count went on, and the other one stayed
other_calls_advance : {D : Type 0} (calls_advance : D → D → Type 0) → ((d : D) → calls_advance d d) → (s old : State D) → s ≡ old → (new : D) → calls_advance s.other new
    → calls_advance (first_disk old) (if s.second then new else s.counting) × calls_advance (second_disk old) (if s.second then s.counting else new)
other_calls_advance {D} calls_advance still s old is new on = subst (λ (o : State D). calls_advance (first_disk o) (if s.second then new else s.counting) × calls_advance (second_disk o) (if s.second then s.counting else new)) is (by_side s.second)
  where
    by_side : (side : Bool) → calls_advance (if side then s.other else s.counting) (if side then new else s.counting) × calls_advance (if side then s.counting else s.other) (if side then s.counting else new)
    by_side true = (on, still s.counting)
    by_side false = (still s.counting, on)

pub invariant_of-self : goal.invariant_of-self
invariant_of-self g c = (
  c.self.invariant.0,
  c.self.invariant.1,
  λ p. (closing_exit g.D.Disk.seen g.D.Disk.may_leave g.D.Disk.moment g.D.Disk.left_since (λ d. g.met.D.Disk.reads_now d p) (λ d b left. g.met.D.Disk.only_now d b p left)
      _ _ c.self.view_is c.requires.ready (c.self.invariant.2 p) c.args.image.bytes (vec_capacity c.put_image.new.buffer) c.close_head.new.disk (c.close_head.ensures.moments p) (c.close_head.ensures.images p)).sound,
  tt,
)

pub returns-in_err-close_head-clause-any_moment : goal.returns-in_err-close_head-clause-any_moment
returns-in_err-close_head-clause-any_moment g c p =
    (closing_exit g.D.Disk.seen g.D.Disk.may_leave g.D.Disk.moment g.D.Disk.left_since (λ d. g.met.D.Disk.reads_now d p) (λ d b left. g.met.D.Disk.only_now d b p left)
    _ _ c.self.view_is c.requires.ready (c.self.invariant.2 p) c.args.image.bytes (vec_capacity c.put_image.new.buffer) c.close_head.new.disk (c.close_head.ensures.moments p) (c.close_head.ensures.images p)).since

pub returns-in_err-close_head-clause-adds : goal.returns-in_err-close_head-clause-adds
returns-in_err-close_head-clause-adds g c p =
    (closing_exit g.D.Disk.seen g.D.Disk.may_leave g.D.Disk.moment g.D.Disk.left_since (λ d. g.met.D.Disk.reads_now d p) (λ d b left. g.met.D.Disk.only_now d b p left)
    _ _ c.self.view_is c.requires.ready (c.self.invariant.2 p) c.args.image.bytes (vec_capacity c.put_image.new.buffer) c.close_head.new.disk (c.close_head.ensures.moments p) (c.close_head.ensures.images p)).adds

pub returns-in_err-close_head-clause-left : goal.returns-in_err-close_head-clause-left
returns-in_err-close_head-clause-left g c p =
    on_err _ c.from_residual.result (exit_left g.D.Disk.seen g.D.Disk.may_leave g.D.Disk.moment g.D.Disk.left_since (λ d t b le now. g.met.D.Disk.counts_now d t b p le now) _ _ _ _
    (closing_exit g.D.Disk.seen g.D.Disk.may_leave g.D.Disk.moment g.D.Disk.left_since (λ d. g.met.D.Disk.reads_now d p) (λ d b left. g.met.D.Disk.only_now d b p left)
    _ _ c.self.view_is c.requires.ready (c.self.invariant.2 p) c.args.image.bytes (vec_capacity c.put_image.new.buffer) c.close_head.new.disk (c.close_head.ensures.moments p) (c.close_head.ensures.images p)))

pub returns-in_err-close_head-clause-one_or_other : goal.returns-in_err-close_head-clause-one_or_other
returns-in_err-close_head-clause-one_or_other g c p =
    (closing_exit g.D.Disk.seen g.D.Disk.may_leave g.D.Disk.moment g.D.Disk.left_since (λ d. g.met.D.Disk.reads_now d p) (λ d b left. g.met.D.Disk.only_now d b p left)
    _ _ c.self.view_is c.requires.ready (c.self.invariant.2 p) c.args.image.bytes (vec_capacity c.put_image.new.buffer) c.close_head.new.disk (c.close_head.ensures.moments p) (c.close_head.ensures.images p)).now

pub invariant_of-self-in_err-replace_rest : goal.invariant_of-self-in_err-replace_rest
invariant_of-self-in_err-replace_rest g c = (
  c.self.invariant.0,
  c.self.invariant.1,
  λ p. (putting_exit g.D.Disk.seen g.D.Disk.may_leave g.D.Disk.moment g.D.Disk.left_since (λ d. g.met.D.Disk.reads_now d p) (λ d b left. g.met.D.Disk.only_now d b p left)
      _ _ c.self.view_is c.requires.ready (c.self.invariant.2 p) c.args.image.bytes (vec_capacity c.put_image.new.buffer) c.close_head.new.disk (c.close_head.ensures.moments p) (c.close_head.ensures.images p)
      (c.in_ok-close_head.ensures.written p) (c.in_ok-close_head.ensures.fixed p) c.deref.result.now (c.deref.ensures.value ∙ c.put_image.ensures.items) c.replace_rest.new.disk (c.replace_rest.ensures.images p) (c.replace_rest.ensures.moments p)).sound,
  tt,
)

pub returns-in_err-replace_rest-clause-any_moment : goal.returns-in_err-replace_rest-clause-any_moment
returns-in_err-replace_rest-clause-any_moment g c p =
    (putting_exit g.D.Disk.seen g.D.Disk.may_leave g.D.Disk.moment g.D.Disk.left_since (λ d. g.met.D.Disk.reads_now d p) (λ d b left. g.met.D.Disk.only_now d b p left)
    _ _ c.self.view_is c.requires.ready (c.self.invariant.2 p) c.args.image.bytes (vec_capacity c.put_image.new.buffer) c.close_head.new.disk (c.close_head.ensures.moments p) (c.close_head.ensures.images p)
    (c.in_ok-close_head.ensures.written p) (c.in_ok-close_head.ensures.fixed p) c.deref.result.now (c.deref.ensures.value ∙ c.put_image.ensures.items) c.replace_rest.new.disk (c.replace_rest.ensures.images p) (c.replace_rest.ensures.moments p)).since

pub returns-in_err-replace_rest-clause-adds : goal.returns-in_err-replace_rest-clause-adds
returns-in_err-replace_rest-clause-adds g c p =
    (putting_exit g.D.Disk.seen g.D.Disk.may_leave g.D.Disk.moment g.D.Disk.left_since (λ d. g.met.D.Disk.reads_now d p) (λ d b left. g.met.D.Disk.only_now d b p left)
    _ _ c.self.view_is c.requires.ready (c.self.invariant.2 p) c.args.image.bytes (vec_capacity c.put_image.new.buffer) c.close_head.new.disk (c.close_head.ensures.moments p) (c.close_head.ensures.images p)
    (c.in_ok-close_head.ensures.written p) (c.in_ok-close_head.ensures.fixed p) c.deref.result.now (c.deref.ensures.value ∙ c.put_image.ensures.items) c.replace_rest.new.disk (c.replace_rest.ensures.images p) (c.replace_rest.ensures.moments p)).adds

pub returns-in_err-replace_rest-clause-left : goal.returns-in_err-replace_rest-clause-left
returns-in_err-replace_rest-clause-left g c p =
    on_err _ c.from_residual-in_err-replace_rest.result (exit_left g.D.Disk.seen g.D.Disk.may_leave g.D.Disk.moment g.D.Disk.left_since (λ d t b le now. g.met.D.Disk.counts_now d t b p le now) _ _ _ _
    (putting_exit g.D.Disk.seen g.D.Disk.may_leave g.D.Disk.moment g.D.Disk.left_since (λ d. g.met.D.Disk.reads_now d p) (λ d b left. g.met.D.Disk.only_now d b p left)
    _ _ c.self.view_is c.requires.ready (c.self.invariant.2 p) c.args.image.bytes (vec_capacity c.put_image.new.buffer) c.close_head.new.disk (c.close_head.ensures.moments p) (c.close_head.ensures.images p)
    (c.in_ok-close_head.ensures.written p) (c.in_ok-close_head.ensures.fixed p) c.deref.result.now (c.deref.ensures.value ∙ c.put_image.ensures.items) c.replace_rest.new.disk (c.replace_rest.ensures.images p) (c.replace_rest.ensures.moments p)))

pub returns-in_err-replace_rest-clause-one_or_other : goal.returns-in_err-replace_rest-clause-one_or_other
returns-in_err-replace_rest-clause-one_or_other g c p =
    (putting_exit g.D.Disk.seen g.D.Disk.may_leave g.D.Disk.moment g.D.Disk.left_since (λ d. g.met.D.Disk.reads_now d p) (λ d b left. g.met.D.Disk.only_now d b p left)
    _ _ c.self.view_is c.requires.ready (c.self.invariant.2 p) c.args.image.bytes (vec_capacity c.put_image.new.buffer) c.close_head.new.disk (c.close_head.ensures.moments p) (c.close_head.ensures.images p)
    (c.in_ok-close_head.ensures.written p) (c.in_ok-close_head.ensures.fixed p) c.deref.result.now (c.deref.ensures.value ∙ c.put_image.ensures.items) c.replace_rest.new.disk (c.replace_rest.ensures.images p) (c.replace_rest.ensures.moments p)).now

pub invariant_of-self-in_err-write_and_sync : goal.invariant_of-self-in_err-write_and_sync
invariant_of-self-in_err-write_and_sync g c = (
  c.self.invariant.0,
  c.self.invariant.1,
  λ p. (opening_exit g.D.Disk.seen g.D.Disk.may_leave g.D.Disk.moment g.D.Disk.left_since (λ d. g.met.D.Disk.reads_now d p) (λ d b left. g.met.D.Disk.only_now d b p left)
      _ _ c.self.view_is c.requires.ready (c.self.invariant.2 p) c.args.image.bytes (vec_capacity c.put_image.new.buffer) c.close_head.new.disk (c.close_head.ensures.moments p) (c.close_head.ensures.images p)
      (c.in_ok-close_head.ensures.written p) (c.in_ok-close_head.ensures.fixed p) c.deref.result.now (c.deref.ensures.value ∙ c.put_image.ensures.items) c.replace_rest.new.disk (c.replace_rest.ensures.images p) (c.replace_rest.ensures.moments p)
      (omega (arith, c.requires.generation, ap (λ (s : State _). s.generation) c.self.view_is)) (omega (arith, c.requires.bound)) (c.in_ok-replace_rest.ensures.written p) (c.in_ok-replace_rest.ensures.fixed p) (8 + c.len.result) (omega (arith, c.len.ensures, ap length c.deref.ensures.value))
      c.write_and_sync.new.disk (c.write_and_sync.ensures.images p) (c.write_and_sync.ensures.moments p)).sound,
  (omega (arith, c.in_ok-replace_rest.ensures.reach, c.len.ensures, ap length c.deref.ensures.value), omega (arith, c.requires.generation, ap (λ (s : State _). s.generation) c.self.view_is)),
)

pub returns-in_err-write_and_sync-clause-any_moment : goal.returns-in_err-write_and_sync-clause-any_moment
returns-in_err-write_and_sync-clause-any_moment g c p =
    (opening_exit g.D.Disk.seen g.D.Disk.may_leave g.D.Disk.moment g.D.Disk.left_since (λ d. g.met.D.Disk.reads_now d p) (λ d b left. g.met.D.Disk.only_now d b p left)
    _ _ c.self.view_is c.requires.ready (c.self.invariant.2 p) c.args.image.bytes (vec_capacity c.put_image.new.buffer) c.close_head.new.disk (c.close_head.ensures.moments p) (c.close_head.ensures.images p)
    (c.in_ok-close_head.ensures.written p) (c.in_ok-close_head.ensures.fixed p) c.deref.result.now (c.deref.ensures.value ∙ c.put_image.ensures.items) c.replace_rest.new.disk (c.replace_rest.ensures.images p) (c.replace_rest.ensures.moments p)
    (omega (arith, c.requires.generation, ap (λ (s : State _). s.generation) c.self.view_is)) (omega (arith, c.requires.bound)) (c.in_ok-replace_rest.ensures.written p) (c.in_ok-replace_rest.ensures.fixed p) (8 + c.len.result) (omega (arith, c.len.ensures, ap length c.deref.ensures.value))
    c.write_and_sync.new.disk (c.write_and_sync.ensures.images p) (c.write_and_sync.ensures.moments p)).since

pub returns-in_err-write_and_sync-clause-adds : goal.returns-in_err-write_and_sync-clause-adds
returns-in_err-write_and_sync-clause-adds g c p =
    (opening_exit g.D.Disk.seen g.D.Disk.may_leave g.D.Disk.moment g.D.Disk.left_since (λ d. g.met.D.Disk.reads_now d p) (λ d b left. g.met.D.Disk.only_now d b p left)
    _ _ c.self.view_is c.requires.ready (c.self.invariant.2 p) c.args.image.bytes (vec_capacity c.put_image.new.buffer) c.close_head.new.disk (c.close_head.ensures.moments p) (c.close_head.ensures.images p)
    (c.in_ok-close_head.ensures.written p) (c.in_ok-close_head.ensures.fixed p) c.deref.result.now (c.deref.ensures.value ∙ c.put_image.ensures.items) c.replace_rest.new.disk (c.replace_rest.ensures.images p) (c.replace_rest.ensures.moments p)
    (omega (arith, c.requires.generation, ap (λ (s : State _). s.generation) c.self.view_is)) (omega (arith, c.requires.bound)) (c.in_ok-replace_rest.ensures.written p) (c.in_ok-replace_rest.ensures.fixed p) (8 + c.len.result) (omega (arith, c.len.ensures, ap length c.deref.ensures.value))
    c.write_and_sync.new.disk (c.write_and_sync.ensures.images p) (c.write_and_sync.ensures.moments p)).adds

pub returns-in_err-write_and_sync-clause-left : goal.returns-in_err-write_and_sync-clause-left
returns-in_err-write_and_sync-clause-left g c p =
    on_err _ c.from_residual-in_err-write_and_sync.result (exit_left g.D.Disk.seen g.D.Disk.may_leave g.D.Disk.moment g.D.Disk.left_since (λ d t b le now. g.met.D.Disk.counts_now d t b p le now) _ _ _ _
    (opening_exit g.D.Disk.seen g.D.Disk.may_leave g.D.Disk.moment g.D.Disk.left_since (λ d. g.met.D.Disk.reads_now d p) (λ d b left. g.met.D.Disk.only_now d b p left)
    _ _ c.self.view_is c.requires.ready (c.self.invariant.2 p) c.args.image.bytes (vec_capacity c.put_image.new.buffer) c.close_head.new.disk (c.close_head.ensures.moments p) (c.close_head.ensures.images p)
    (c.in_ok-close_head.ensures.written p) (c.in_ok-close_head.ensures.fixed p) c.deref.result.now (c.deref.ensures.value ∙ c.put_image.ensures.items) c.replace_rest.new.disk (c.replace_rest.ensures.images p) (c.replace_rest.ensures.moments p)
    (omega (arith, c.requires.generation, ap (λ (s : State _). s.generation) c.self.view_is)) (omega (arith, c.requires.bound)) (c.in_ok-replace_rest.ensures.written p) (c.in_ok-replace_rest.ensures.fixed p) (8 + c.len.result) (omega (arith, c.len.ensures, ap length c.deref.ensures.value))
    c.write_and_sync.new.disk (c.write_and_sync.ensures.images p) (c.write_and_sync.ensures.moments p)))

pub returns-in_err-write_and_sync-clause-one_or_other : goal.returns-in_err-write_and_sync-clause-one_or_other
returns-in_err-write_and_sync-clause-one_or_other g c p =
    (opening_exit g.D.Disk.seen g.D.Disk.may_leave g.D.Disk.moment g.D.Disk.left_since (λ d. g.met.D.Disk.reads_now d p) (λ d b left. g.met.D.Disk.only_now d b p left)
    _ _ c.self.view_is c.requires.ready (c.self.invariant.2 p) c.args.image.bytes (vec_capacity c.put_image.new.buffer) c.close_head.new.disk (c.close_head.ensures.moments p) (c.close_head.ensures.images p)
    (c.in_ok-close_head.ensures.written p) (c.in_ok-close_head.ensures.fixed p) c.deref.result.now (c.deref.ensures.value ∙ c.put_image.ensures.items) c.replace_rest.new.disk (c.replace_rest.ensures.images p) (c.replace_rest.ensures.moments p)
    (omega (arith, c.requires.generation, ap (λ (s : State _). s.generation) c.self.view_is)) (omega (arith, c.requires.bound)) (c.in_ok-replace_rest.ensures.written p) (c.in_ok-replace_rest.ensures.fixed p) (8 + c.len.result) (omega (arith, c.len.ensures, ap length c.deref.ensures.value))
    c.write_and_sync.new.disk (c.write_and_sync.ensures.images p) (c.write_and_sync.ensures.moments p)).now

pub invariant_of-self-2 : goal.invariant_of-self-2
invariant_of-self-2 g c = (
  omega (arith, c.in_ok-replace_rest.ensures.reach, c.len.ensures, ap length c.deref.ensures.value),
  omega arith,
  λ p. (done_exit g.D.Disk.seen g.D.Disk.may_leave g.D.Disk.moment g.D.Disk.left_since (λ d. g.met.D.Disk.reads_now d p) (λ d b left. g.met.D.Disk.only_now d b p left)
      _ _ c.self.view_is c.requires.ready (c.self.invariant.2 p) c.args.image.bytes (vec_capacity c.put_image.new.buffer) c.close_head.new.disk (c.close_head.ensures.moments p) (c.close_head.ensures.images p)
      (c.in_ok-close_head.ensures.written p) (c.in_ok-close_head.ensures.fixed p) c.deref.result.now (c.deref.ensures.value ∙ c.put_image.ensures.items) c.replace_rest.new.disk (c.replace_rest.ensures.images p) (c.replace_rest.ensures.moments p)
      (omega (arith, c.requires.generation, ap (λ (s : State _). s.generation) c.self.view_is)) (omega (arith, c.requires.bound)) (c.in_ok-replace_rest.ensures.written p) (c.in_ok-replace_rest.ensures.fixed p) (8 + c.len.result) (omega (arith, c.len.ensures, ap length c.deref.ensures.value))
      c.write_and_sync.new.disk (c.write_and_sync.ensures.images p) (c.write_and_sync.ensures.moments p)
      (c.in_ok-write_and_sync.ensures.written p) (c.in_ok-write_and_sync.ensures.fixed p) c.swap.new.x c.swap.new.y c.swap.ensures.x_after c.swap.ensures.y_after).sound,
  tt,
)

pub returns-clause-any_moment : goal.returns-clause-any_moment
returns-clause-any_moment g c p =
    (done_exit g.D.Disk.seen g.D.Disk.may_leave g.D.Disk.moment g.D.Disk.left_since (λ d. g.met.D.Disk.reads_now d p) (λ d b left. g.met.D.Disk.only_now d b p left)
    _ _ c.self.view_is c.requires.ready (c.self.invariant.2 p) c.args.image.bytes (vec_capacity c.put_image.new.buffer) c.close_head.new.disk (c.close_head.ensures.moments p) (c.close_head.ensures.images p)
    (c.in_ok-close_head.ensures.written p) (c.in_ok-close_head.ensures.fixed p) c.deref.result.now (c.deref.ensures.value ∙ c.put_image.ensures.items) c.replace_rest.new.disk (c.replace_rest.ensures.images p) (c.replace_rest.ensures.moments p)
    (omega (arith, c.requires.generation, ap (λ (s : State _). s.generation) c.self.view_is)) (omega (arith, c.requires.bound)) (c.in_ok-replace_rest.ensures.written p) (c.in_ok-replace_rest.ensures.fixed p) (8 + c.len.result) (omega (arith, c.len.ensures, ap length c.deref.ensures.value))
    c.write_and_sync.new.disk (c.write_and_sync.ensures.images p) (c.write_and_sync.ensures.moments p)
    (c.in_ok-write_and_sync.ensures.written p) (c.in_ok-write_and_sync.ensures.fixed p) c.swap.new.x c.swap.new.y c.swap.ensures.x_after c.swap.ensures.y_after).since

pub returns-clause-adds : goal.returns-clause-adds
returns-clause-adds g c p =
    (done_exit g.D.Disk.seen g.D.Disk.may_leave g.D.Disk.moment g.D.Disk.left_since (λ d. g.met.D.Disk.reads_now d p) (λ d b left. g.met.D.Disk.only_now d b p left)
    _ _ c.self.view_is c.requires.ready (c.self.invariant.2 p) c.args.image.bytes (vec_capacity c.put_image.new.buffer) c.close_head.new.disk (c.close_head.ensures.moments p) (c.close_head.ensures.images p)
    (c.in_ok-close_head.ensures.written p) (c.in_ok-close_head.ensures.fixed p) c.deref.result.now (c.deref.ensures.value ∙ c.put_image.ensures.items) c.replace_rest.new.disk (c.replace_rest.ensures.images p) (c.replace_rest.ensures.moments p)
    (omega (arith, c.requires.generation, ap (λ (s : State _). s.generation) c.self.view_is)) (omega (arith, c.requires.bound)) (c.in_ok-replace_rest.ensures.written p) (c.in_ok-replace_rest.ensures.fixed p) (8 + c.len.result) (omega (arith, c.len.ensures, ap length c.deref.ensures.value))
    c.write_and_sync.new.disk (c.write_and_sync.ensures.images p) (c.write_and_sync.ensures.moments p)
    (c.in_ok-write_and_sync.ensures.written p) (c.in_ok-write_and_sync.ensures.fixed p) c.swap.new.x c.swap.new.y c.swap.ensures.x_after c.swap.ensures.y_after).adds

pub returns-clause-one_or_other : goal.returns-clause-one_or_other
returns-clause-one_or_other g c p =
    (done_exit g.D.Disk.seen g.D.Disk.may_leave g.D.Disk.moment g.D.Disk.left_since (λ d. g.met.D.Disk.reads_now d p) (λ d b left. g.met.D.Disk.only_now d b p left)
    _ _ c.self.view_is c.requires.ready (c.self.invariant.2 p) c.args.image.bytes (vec_capacity c.put_image.new.buffer) c.close_head.new.disk (c.close_head.ensures.moments p) (c.close_head.ensures.images p)
    (c.in_ok-close_head.ensures.written p) (c.in_ok-close_head.ensures.fixed p) c.deref.result.now (c.deref.ensures.value ∙ c.put_image.ensures.items) c.replace_rest.new.disk (c.replace_rest.ensures.images p) (c.replace_rest.ensures.moments p)
    (omega (arith, c.requires.generation, ap (λ (s : State _). s.generation) c.self.view_is)) (omega (arith, c.requires.bound)) (c.in_ok-replace_rest.ensures.written p) (c.in_ok-replace_rest.ensures.fixed p) (8 + c.len.result) (omega (arith, c.len.ensures, ap length c.deref.ensures.value))
    c.write_and_sync.new.disk (c.write_and_sync.ensures.images p) (c.write_and_sync.ensures.moments p)
    (c.in_ok-write_and_sync.ensures.written p) (c.in_ok-write_and_sync.ensures.fixed p) c.swap.new.x c.swap.new.y c.swap.ensures.x_after c.swap.ensures.y_after).now

pub returns-clause-counts : goal.returns-clause-counts
returns-clause-counts g c p =
    done_counts g.D.Disk.seen g.D.Disk.may_leave g.D.Disk.moment g.D.Disk.left_since (λ d. g.met.D.Disk.reads_now d p) (λ d b left. g.met.D.Disk.only_now d b p left)
    _ _ c.self.view_is c.requires.ready (c.self.invariant.2 p) c.args.image.bytes (vec_capacity c.put_image.new.buffer) c.close_head.new.disk (c.close_head.ensures.moments p) (c.close_head.ensures.images p)
    (c.in_ok-close_head.ensures.written p) (c.in_ok-close_head.ensures.fixed p) c.deref.result.now (c.deref.ensures.value ∙ c.put_image.ensures.items) c.replace_rest.new.disk (c.replace_rest.ensures.images p) (c.replace_rest.ensures.moments p)
    (omega (arith, c.requires.generation, ap (λ (s : State _). s.generation) c.self.view_is)) (omega (arith, c.requires.bound)) (c.in_ok-replace_rest.ensures.written p) (c.in_ok-replace_rest.ensures.fixed p) (8 + c.len.result) (omega (arith, c.len.ensures, ap length c.deref.ensures.value))
    c.write_and_sync.new.disk (c.write_and_sync.ensures.images p) (c.write_and_sync.ensures.moments p)
    (c.in_ok-write_and_sync.ensures.written p) (c.in_ok-write_and_sync.ensures.fixed p) c.swap.new.x c.swap.new.y c.swap.ensures.x_after c.swap.ensures.y_after

pub returns-clause-durable : goal.returns-clause-durable
returns-clause-durable g c p =
    done_durable g.D.Disk.seen g.D.Disk.may_leave g.D.Disk.moment g.D.Disk.left_since (λ d. g.met.D.Disk.reads_now d p) (λ d b left. g.met.D.Disk.only_now d b p left)
    _ _ c.self.view_is c.requires.ready (c.self.invariant.2 p) c.args.image.bytes (vec_capacity c.put_image.new.buffer) c.close_head.new.disk (c.close_head.ensures.moments p) (c.close_head.ensures.images p)
    (c.in_ok-close_head.ensures.written p) (c.in_ok-close_head.ensures.fixed p) c.deref.result.now (c.deref.ensures.value ∙ c.put_image.ensures.items) c.replace_rest.new.disk (c.replace_rest.ensures.images p) (c.replace_rest.ensures.moments p)
    (omega (arith, c.requires.generation, ap (λ (s : State _). s.generation) c.self.view_is)) (omega (arith, c.requires.bound)) (c.in_ok-replace_rest.ensures.written p) (c.in_ok-replace_rest.ensures.fixed p) (8 + c.len.result) (omega (arith, c.len.ensures, ap length c.deref.ensures.value))
    c.write_and_sync.new.disk (c.write_and_sync.ensures.images p) (c.write_and_sync.ensures.moments p)
    (c.in_ok-write_and_sync.ensures.written p) (c.in_ok-write_and_sync.ensures.fixed p) c.swap.new.x c.swap.new.y c.swap.ensures.x_after c.swap.ensures.y_after

pub returns-in_err-close_head-clause-told_first : goal.returns-in_err-close_head-clause-told_first
returns-in_err-close_head-clause-told_first g c =
    on_err _ c.from_residual.result (told_closing g.D.Disk.told g.D.Disk.disk_faults g.D.Disk.calls_advance g.met.D.Disk.calls_advance_refl g.met.D.Disk.calls_advance_trans _ _ c.self.view_is c.args.image.bytes c.put_image.new.buffer.items c.put_image.ensures.items c.close_head.new.disk c.in_err-close_head.ensures.told_first)

pub returns-in_err-replace_rest-clause-told_first : goal.returns-in_err-replace_rest-clause-told_first
returns-in_err-replace_rest-clause-told_first g c =
    on_err _ c.from_residual-in_err-replace_rest.result (told_putting g.D.Disk.told g.D.Disk.disk_faults g.D.Disk.calls_advance g.met.D.Disk.calls_advance_refl g.met.D.Disk.calls_advance_trans _ _ c.self.view_is c.args.image.bytes c.deref.result.now (c.deref.ensures.value ∙ c.put_image.ensures.items) c.close_head.new.disk c.replace_rest.new.disk (record { told = c.in_ok-close_head.ensures.told; no_fault = c.in_ok-close_head.ensures.no_fault; calls_advance = c.close_head.ensures.calls_advance }) c.in_err-replace_rest.ensures.told_first)

pub returns-in_err-write_and_sync-clause-told_first : goal.returns-in_err-write_and_sync-clause-told_first
returns-in_err-write_and_sync-clause-told_first g c =
    on_err _ c.from_residual-in_err-write_and_sync.result (told_opening g.D.Disk.told g.D.Disk.disk_faults g.D.Disk.calls_advance g.met.D.Disk.calls_advance_refl g.met.D.Disk.calls_advance_trans _ _ c.self.view_is c.args.image.bytes c.deref.result.now (c.deref.ensures.value ∙ c.put_image.ensures.items) c.close_head.new.disk c.replace_rest.new.disk c.write_and_sync.new.disk (record { told = c.in_ok-close_head.ensures.told; no_fault = c.in_ok-close_head.ensures.no_fault; calls_advance = c.close_head.ensures.calls_advance }) (record { told = c.in_ok-replace_rest.ensures.told; no_fault = c.in_ok-replace_rest.ensures.no_fault; calls_advance = c.replace_rest.ensures.calls_advance }) c.in_err-write_and_sync.ensures.told_first)

pub returns-clause-told : goal.returns-clause-told
returns-clause-told g c =
    told_done g.D.Disk.told g.D.Disk.disk_faults g.D.Disk.calls_advance g.met.D.Disk.calls_advance_refl g.met.D.Disk.calls_advance_trans _ _ c.self.view_is c.args.image.bytes c.deref.result.now (c.deref.ensures.value ∙ c.put_image.ensures.items) c.close_head.new.disk c.replace_rest.new.disk c.write_and_sync.new.disk c.swap.new.x c.in_ok-close_head.ensures.told c.in_ok-replace_rest.ensures.told c.in_ok-write_and_sync.ensures.told c.swap.ensures.x_after

pub returns-in_err-close_head-clause-shut_err : goal.returns-in_err-close_head-clause-shut_err
returns-in_err-close_head-clause-shut_err g c =
    on_err _ c.from_residual.result (inl (ap (λ (s : State _). s.shut) c.self.view_is, shut_closing g.D.Disk.told g.D.Disk.disk_faults g.D.Disk.calls_advance g.met.D.Disk.calls_advance_refl g.met.D.Disk.calls_advance_trans _ _ c.self.view_is c.args.image.bytes c.put_image.new.buffer.items c.put_image.ensures.items c.close_head.new.disk c.in_err-close_head.ensures.told_first))

pub returns-in_err-replace_rest-clause-shut_err : goal.returns-in_err-replace_rest-clause-shut_err
returns-in_err-replace_rest-clause-shut_err g c =
    on_err _ c.from_residual-in_err-replace_rest.result (inr (refl, shut_putting g.D.Disk.told g.D.Disk.disk_faults g.D.Disk.calls_advance g.met.D.Disk.calls_advance_refl g.met.D.Disk.calls_advance_trans _ _ c.self.view_is c.args.image.bytes c.deref.result.now (c.deref.ensures.value ∙ c.put_image.ensures.items) c.close_head.new.disk c.replace_rest.new.disk (record { told = c.in_ok-close_head.ensures.told; no_fault = c.in_ok-close_head.ensures.no_fault; calls_advance = c.close_head.ensures.calls_advance }) c.in_err-replace_rest.ensures.told_first))

pub returns-in_err-write_and_sync-clause-shut_err : goal.returns-in_err-write_and_sync-clause-shut_err
returns-in_err-write_and_sync-clause-shut_err g c =
    on_err _ c.from_residual-in_err-write_and_sync.result (inr (refl, shut_opening g.D.Disk.told g.D.Disk.disk_faults g.D.Disk.calls_advance g.met.D.Disk.calls_advance_refl g.met.D.Disk.calls_advance_trans _ _ c.self.view_is c.args.image.bytes c.deref.result.now (c.deref.ensures.value ∙ c.put_image.ensures.items) c.close_head.new.disk c.replace_rest.new.disk c.write_and_sync.new.disk (record { told = c.in_ok-close_head.ensures.told; no_fault = c.in_ok-close_head.ensures.no_fault; calls_advance = c.close_head.ensures.calls_advance }) (record { told = c.in_ok-replace_rest.ensures.told; no_fault = c.in_ok-replace_rest.ensures.no_fault; calls_advance = c.replace_rest.ensures.calls_advance }) c.in_err-write_and_sync.ensures.told_first))

pub returns-in_err-write_and_sync-clause-calls_advance : goal.returns-in_err-write_and_sync-clause-calls_advance
returns-in_err-write_and_sync-clause-calls_advance g c =
    other_calls_advance g.D.Disk.calls_advance g.met.D.Disk.calls_advance_refl _ _ c.self.view_is c.write_and_sync.new.disk
    (g.met.D.Disk.calls_advance_trans c.self.inside.other c.replace_rest.new.disk c.write_and_sync.new.disk
    (g.met.D.Disk.calls_advance_trans c.self.inside.other c.close_head.new.disk c.replace_rest.new.disk c.close_head.ensures.calls_advance c.replace_rest.ensures.calls_advance) c.write_and_sync.ensures.calls_advance)
