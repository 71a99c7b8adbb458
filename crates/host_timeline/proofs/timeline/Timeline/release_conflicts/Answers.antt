use Rattle.std.proofs.Common.{◌∙◌, ◌<◌, length, ap, sym, arith}
use Rattle.host_timeline.specs.Booking.{conflicts_with, without_conflicts}
use Rattle.host_timeline.proofs.HoldLemmas.{only}
use Rattle.host_timeline.proofs.WalkLemmas.{all_stay, fewer, found_one, left_alike}
use Rattle.host_timeline.proofs.timeline.Timeline.release_conflicts.Goals as goal

-- the booking that goes is in conflict
pub loop-key-preserved : goal.loop-key-preserved
loop-key-preserved c =
    let list = c.loop-key.self.list in
    let passes = conflicts_with c.args.class c.args.interval.now in
    let one = found_one passes c.in-Some.key list c.some_conflict.ensures.ordered c.in-Some.ensures.there in
    let alone = only c.in-Some.key one.0 list c.some_conflict.ensures.ordered one.1 in
    record {
      left = ap (without_conflicts c.args.class c.args.interval.now) c.release.ensures.list ∙ left_alike c.args.class c.args.interval.now list c.in-Some.key one.0 alone one.2 ∙ c.loop-key.invariant.left;
      room = omega (arith, c.release.ensures.room, c.loop-key.invariant.room);
    }

pub loop-key-smaller : goal.loop-key-smaller
loop-key-smaller c =
    let list = c.loop-key.self.list in
    let passes = conflicts_with c.args.class c.args.interval.now in
    let one = found_one passes c.in-Some.key list c.some_conflict.ensures.ordered c.in-Some.ensures.there in
    let less : length c.release.new.self.list < length list = rw c.release.ensures.list (fewer list c.in-Some.key one.0 one.1) in
    less

-- none is left
pub returns-clause-list : goal.returns-clause-list
returns-clause-list c =
    sym (all_stay c.args.class c.args.interval.now c.loop-key.self.list c.in_default.ensures.none) ∙ c.loop-key.invariant.left
