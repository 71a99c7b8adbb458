use Rattle.machine_keep_tests.proofs.RunLemmas.{after_snapshot, after_all}
use Rattle.machine_keep_tests.proofs.run_tests.settle.Goals as goal

pub returns-in_err-snap_number : goal.returns-in_err-snap_number
returns-in_err-snap_number g c = record {
  adds = λ p.
      after_snapshot g.D.Disk.seen g.D.Disk.moment g.D.Disk.left_since c.args.number.now c.args.journal.now c.cut_tail.new.self (c.known.ensures.place p c.requires.ready)
      (c.cut_tail.ensures.adds p) (c.cut_tail.ensures.same p) c.cut_tail.ensures.kept c.snap_number.new.journal (c.snap_number.ensures.adds p);
}

pub returns : goal.returns
returns g c = record {
  adds = λ p.
      after_all g.D.Disk.seen g.D.Disk.moment g.D.Disk.left_since c.args.number.now c.args.journal.now c.cut_tail.new.self (c.known.ensures.place p c.requires.ready)
      (c.cut_tail.ensures.adds p) (c.cut_tail.ensures.same p) c.cut_tail.ensures.kept c.snap_number.new.journal c.append.new.self (c.snap_number.ensures.adds p) (c.in_ok-snap_number.ensures.counts p) (c.append.ensures.adds p);
}
