use Rattle.std.proofs.Common.{◌∙◌, sym}
use Rattle.host_timeline.proofs.BusyLemmas.{covered_more, covered_same}
use Rattle.host_timeline.proofs.busy.cover.Goals as goal

pub returns-then-classes_conflict-clause-busy : goal.returns-then-classes_conflict-clause-busy
returns-then-classes_conflict-clause-busy c bookings busy =
    covered_more c.args.class c.args.booking.now bookings c.args.ranges.now.list c.add.new.self.list (sym c.classes_conflict.ensures ∙ c.if-classes_conflict.true) c.add.ensures.covers c.add.ensures.apart busy

pub returns-else-classes_conflict-clause-busy : goal.returns-else-classes_conflict-clause-busy
returns-else-classes_conflict-clause-busy c bookings busy =
    covered_same c.args.class c.args.booking.now bookings c.args.ranges.now.list (sym c.classes_conflict.ensures ∙ c.if-classes_conflict.false) busy
