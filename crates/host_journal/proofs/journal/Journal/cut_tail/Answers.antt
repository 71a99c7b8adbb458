use Rattle.host_journal.proofs.CallLemmas.{on_err}
use Rattle.host_journal.proofs.RecordLemmas.{cut_failed, cut_done, cut_durable, exit_left}
use Rattle.host_journal.proofs.journal.Journal.cut_tail.Goals as goal

pub invariant_of-self : goal.invariant_of-self
invariant_of-self g c = (
  c.self.invariant.0,
  c.self.invariant.1,
  λ p. (cut_failed g.D.Disk.seen g.D.Disk.may_leave g.D.Disk.moment g.D.Disk.left_since (λ d. g.met.D.Disk.reads_now d p) (λ d b left. g.met.D.Disk.only_now d b p left) _ _ c.self.view_is c.requires.ready (c.self.invariant.2 p) _ _ (c.cut_and_sync.ensures.part p)
      (c.cut_and_sync.ensures.images p) (c.cut_and_sync.ensures.moments p)).sound,
  tt,
)

pub returns-in_err-cut_and_sync-clause-same : goal.returns-in_err-cut_and_sync-clause-same
returns-in_err-cut_and_sync-clause-same g c p =
    (cut_failed g.D.Disk.seen g.D.Disk.may_leave g.D.Disk.moment g.D.Disk.left_since (λ d. g.met.D.Disk.reads_now d p) (λ d b left. g.met.D.Disk.only_now d b p left) _ _ c.self.view_is c.requires.ready (c.self.invariant.2 p) _ 0 (c.cut_and_sync.ensures.part p)
    (c.cut_and_sync.ensures.images p) (c.cut_and_sync.ensures.moments p)).now

pub returns-in_err-cut_and_sync-clause-any_moment : goal.returns-in_err-cut_and_sync-clause-any_moment
returns-in_err-cut_and_sync-clause-any_moment g c p =
    (cut_failed g.D.Disk.seen g.D.Disk.may_leave g.D.Disk.moment g.D.Disk.left_since (λ d. g.met.D.Disk.reads_now d p) (λ d b left. g.met.D.Disk.only_now d b p left) _ _ c.self.view_is c.requires.ready (c.self.invariant.2 p) _ 0 (c.cut_and_sync.ensures.part p)
    (c.cut_and_sync.ensures.images p) (c.cut_and_sync.ensures.moments p)).since

pub returns-in_err-cut_and_sync-clause-adds : goal.returns-in_err-cut_and_sync-clause-adds
returns-in_err-cut_and_sync-clause-adds g c p =
    (cut_failed g.D.Disk.seen g.D.Disk.may_leave g.D.Disk.moment g.D.Disk.left_since (λ d. g.met.D.Disk.reads_now d p) (λ d b left. g.met.D.Disk.only_now d b p left) _ _ c.self.view_is c.requires.ready (c.self.invariant.2 p) _ _ (c.cut_and_sync.ensures.part p)
    (c.cut_and_sync.ensures.images p) (c.cut_and_sync.ensures.moments p)).adds

pub returns-in_err-cut_and_sync-clause-left : goal.returns-in_err-cut_and_sync-clause-left
returns-in_err-cut_and_sync-clause-left g c p =
    on_err _ c.from_residual.result (exit_left g.D.Disk.seen g.D.Disk.may_leave g.D.Disk.moment g.D.Disk.left_since (λ d t b le now. g.met.D.Disk.counts_now d t b p le now) _ _ _ _
    (cut_failed g.D.Disk.seen g.D.Disk.may_leave g.D.Disk.moment g.D.Disk.left_since (λ d. g.met.D.Disk.reads_now d p) (λ d b left. g.met.D.Disk.only_now d b p left) _ _ c.self.view_is c.requires.ready (c.self.invariant.2 p) _ 0 (c.cut_and_sync.ensures.part p)
    (c.cut_and_sync.ensures.images p) (c.cut_and_sync.ensures.moments p)))

pub invariant_of-self-2 : goal.invariant_of-self-2
invariant_of-self-2 g c = (
  c.self.invariant.0,
  c.self.invariant.1,
  λ p. (cut_done g.D.Disk.seen g.D.Disk.may_leave g.D.Disk.moment g.D.Disk.left_since (λ d. g.met.D.Disk.reads_now d p) (λ d b left. g.met.D.Disk.only_now d b p left) _ _ c.self.view_is c.requires.ready (c.self.invariant.2 p) _ _ (c.cut_and_sync.ensures.part p)
      (c.in_ok-cut_and_sync.ensures.fixed p) (c.cut_and_sync.ensures.moments p)).sound,
  tt,
)

pub returns-clause-same : goal.returns-clause-same
returns-clause-same g c p =
    (cut_done g.D.Disk.seen g.D.Disk.may_leave g.D.Disk.moment g.D.Disk.left_since (λ d. g.met.D.Disk.reads_now d p) (λ d b left. g.met.D.Disk.only_now d b p left) _ _ c.self.view_is c.requires.ready (c.self.invariant.2 p) _ 0 (c.cut_and_sync.ensures.part p)
    (c.in_ok-cut_and_sync.ensures.fixed p) (c.cut_and_sync.ensures.moments p)).now

pub returns-clause-any_moment : goal.returns-clause-any_moment
returns-clause-any_moment g c p =
    (cut_done g.D.Disk.seen g.D.Disk.may_leave g.D.Disk.moment g.D.Disk.left_since (λ d. g.met.D.Disk.reads_now d p) (λ d b left. g.met.D.Disk.only_now d b p left) _ _ c.self.view_is c.requires.ready (c.self.invariant.2 p) _ 0 (c.cut_and_sync.ensures.part p)
    (c.in_ok-cut_and_sync.ensures.fixed p) (c.cut_and_sync.ensures.moments p)).since

pub returns-clause-adds : goal.returns-clause-adds
returns-clause-adds g c p =
    (cut_done g.D.Disk.seen g.D.Disk.may_leave g.D.Disk.moment g.D.Disk.left_since (λ d. g.met.D.Disk.reads_now d p) (λ d b left. g.met.D.Disk.only_now d b p left) _ _ c.self.view_is c.requires.ready (c.self.invariant.2 p) _ _ (c.cut_and_sync.ensures.part p)
    (c.in_ok-cut_and_sync.ensures.fixed p) (c.cut_and_sync.ensures.moments p)).adds

pub returns-clause-durable : goal.returns-clause-durable
returns-clause-durable g c p =
    cut_durable g.D.Disk.seen g.D.Disk.may_leave g.D.Disk.moment g.D.Disk.left_since (λ d. g.met.D.Disk.reads_now d p) (λ d b left. g.met.D.Disk.only_now d b p left) _ _ c.self.view_is c.requires.ready (c.self.invariant.2 p) _ 0 (c.cut_and_sync.ensures.part p)
    (c.in_ok-cut_and_sync.ensures.fixed p)
