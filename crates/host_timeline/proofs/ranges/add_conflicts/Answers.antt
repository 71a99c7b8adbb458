use Rattle.std.proofs.Common.{◌∙◌, ◌||◌, ap, sym}
use Rattle.std.specs.List.{list_any}
use Rattle.host_timeline.specs.Busy.{begin_at, covers, takes_beside}
use Rattle.host_timeline.proofs.BusyLemmas.{begins_coming, rest_coming, take_one}
use Rattle.host_timeline.proofs.RangeLemmas.{begin_with}
use Rattle.host_timeline.proofs.ranges.add_conflicts.Goals as goal

-- one more is covered
pub loop-booking-preserved-then-conflicts_with : goal.loop-booking-preserved-then-conflicts_with
loop-booking-preserved-then-conflicts_with c =
    let class = c.args.class in
    let s = c.args.interval.now in
    let bs = c.loop-booking.booking-iterator in
    let b = c.in-Some.booking.now in
    let rest = c.next.new.self in
    let here = c.in-Some.ensures.steps in
    let left = c.loop-booking.invariant in
    let conflicts = sym c.conflicts_with.ensures ∙ c.if-conflicts_with.true in
    record {
      left = λ t. ap (λ x. x || list_any (takes_beside class s t) rest) (c.add.ensures.covers t)
          ∙ sym (take_one class s bs b rest here t conflicts (covers c.loop-booking.ranges.list t))
          ∙ left.left t;
      apart = c.add.ensures.apart;
      begin = λ begins standing coming. ap (λ l. begin_at begins l) c.add.ensures.list
          ∙ begin_with begins c.loop-booking.ranges.list b.interval (left.begin begins standing coming) (begins_coming begins class s bs b rest here (left.coming begins coming) conflicts);
      coming = λ begins coming. rest_coming begins class s bs b rest here (left.coming begins coming);
      places = c.add.ensures.places ∙ left.places;
    }
