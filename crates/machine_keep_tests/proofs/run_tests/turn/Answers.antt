use Rattle.machine_keep_tests.proofs.RunLemmas.{after_record, after_both, made_since}
use Rattle.machine_keep_tests.proofs.run_tests.turn.Goals as goal

pub returns-in_err-append : goal.returns-in_err-append
returns-in_err-append g c = record {
  any_moment = λ p.
      let at = c.known.ensures.place p c.requires.ready in
      made_since g.D.Disk.seen g.D.Disk.moment g.D.Disk.left_since c.args.number.now g.D.Disk.may_leave (λ d. g.met.D.Disk.reads_now d p) (λ d b left. g.met.D.Disk.only_now d b p left)
      c.args.journal.now c.append.new.self at (c.known.ensures.durable p c.requires.ready)
      (after_record g.D.Disk.seen g.D.Disk.moment g.D.Disk.left_since c.args.number.now c.args.journal.now c.append.new.self at (c.append.ensures.adds p));
}

pub returns : goal.returns
returns g c = record {
  any_moment = λ p.
      let at = c.known.ensures.place p c.requires.ready in
      made_since g.D.Disk.seen g.D.Disk.moment g.D.Disk.left_since c.args.number.now g.D.Disk.may_leave (λ d. g.met.D.Disk.reads_now d p) (λ d b left. g.met.D.Disk.only_now d b p left)
      c.args.journal.now c.snap_number.new.journal at (c.known.ensures.durable p c.requires.ready)
      (after_both g.D.Disk.seen g.D.Disk.moment g.D.Disk.left_since c.args.number.now c.args.journal.now c.append.new.self c.snap_number.new.journal at (c.append.ensures.adds p)
      (c.in_ok-append.ensures.appended p) c.append.ensures.kept (c.snap_number.ensures.adds p));
}
