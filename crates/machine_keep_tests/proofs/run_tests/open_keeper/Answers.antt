use Rattle.std.proofs.Common.{refl}
use Rattle.host_journal.specs.Pair.{pair_of}
use Rattle.machine_keep_tests.proofs.RunLemmas.{opened_any, opened_fixed}
use Rattle.machine_keep_tests.proofs.run_tests.open_keeper.Goals as goal

pub returns-in-Ok-clause-any_moment : goal.returns-in-Ok-clause-any_moment
returns-in-Ok-clause-any_moment g c p =
    opened_any g.D.Disk.seen g.D.Disk.moment g.D.Disk.left_since c.args.number.now g.D.Disk.may_leave (λ d t b le now. g.met.D.Disk.counts_now d t b p le now) (λ d b left. g.met.D.Disk.only_now d b p left)
    c.args.first c.args.second c.in-Ok.journal c.settle_if-done.new.journal (pair_of (g.D.Disk.seen c.args.first) (g.D.Disk.seen c.args.second)) (c.in-Ok.ensures.stored p) (c.in-Ok.ensures.read_first p) (c.in-Ok.ensures.read_second p)
    (c.settle_if-done.ensures.adds p)

pub returns-in-Ok-clause-fixed : goal.returns-in-Ok-clause-fixed
returns-in-Ok-clause-fixed g c p =
    opened_fixed g.D.Disk.seen g.D.Disk.moment g.D.Disk.left_since c.args.number.now g.D.Disk.may_leave (λ d t b le now. g.met.D.Disk.counts_now d t b p le now) (λ d b left. g.met.D.Disk.only_now d b p left)
    c.args.first c.args.second c.in-Ok.journal c.settle_if-done.new.journal (pair_of (g.D.Disk.seen c.args.first) (g.D.Disk.seen c.args.second)) (c.in-Ok.ensures.stored p) (c.in-Ok.ensures.read_first p) (c.in-Ok.ensures.read_second p)
    (c.settle_if-done.ensures.adds p) (_, c.in-Ok.ensures.list p) refl
