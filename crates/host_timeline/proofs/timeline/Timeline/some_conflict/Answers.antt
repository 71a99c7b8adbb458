use Rattle.host_timeline.proofs.WalkLemmas.{none_in_conflict}
use Rattle.host_timeline.proofs.timeline.Timeline.some_conflict.Goals as goal

-- neither list has one
pub returns-in-None-clause-none : goal.returns-in-None-clause-none
returns-in-None-clause-none c =
    none_in_conflict c.args.class c.args.interval.now c.args.self.now.list c.in_ok-exclusive.exclusive c.in_ok-exclusive.normal c.first_conflict-in-None.result c.in_ok-exclusive.ensures.decide c.in-None.ensures.none c.first_conflict-in-None.ensures.none
