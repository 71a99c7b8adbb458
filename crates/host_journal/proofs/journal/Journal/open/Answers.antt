use Rattle.host_journal.proofs.OpenLemmas.{opened_journal, place_fits}
use Rattle.host_journal.proofs.journal.Journal.open.Goals as goal

pub invariant_of-journal : goal.invariant_of-journal
invariant_of-journal g c = (
  c.in-Ok.ensures.bound.0,
  c.in-Ok.ensures.bound.1,
  λ p.
      let fixed = c.in-Ok.ensures.fixed p in
      opened_journal g.D.Disk.seen g.D.Disk.may_leave c.in-Ok.counted c.in-Ok.shut c.read_disks.new.first c.read_disks.new.second c.in_order-counting.result.0 c.in_order-counting.result.1
      (g.D.Disk.seen c.args.first) (g.D.Disk.seen c.args.second) _ (c.in-Ok.ensures.pair p) (c.in-Ok.ensures.read_first p).same (c.in-Ok.ensures.read_second p).same (c.in-Ok.ensures.shut p)
      fixed.0 fixed.1 c.in_order-counting.ensures.one c.in_order-counting.ensures.two,
  tt,
)

pub returns-in-Ok-clause-places : goal.returns-in-Ok-clause-places
returns-in-Ok-clause-places g c n less = place_fits n c.in-Ok.counted.list c.in-Ok.counted.start c.in-Ok.counted.end c.in-Ok.ensures.gate_bytes c.in-Ok.ensures.bound.0 less
