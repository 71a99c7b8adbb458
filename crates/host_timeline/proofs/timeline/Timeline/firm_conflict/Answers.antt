use Rattle.std.proofs.Common.{◌∙◌, ◌&&◌, Bool, not, Some, ap, ap₂, sym}
use Rattle.std.proofs.Math.Facts.{to_z-of_z}
use Rattle.std.specs.List.{list_all}
use Rattle.std.specs.Option.{is_none}
use Rattle.host_timeline.specs.declared.booking.Booking.{Booking}
use Rattle.host_timeline.specs.Booking.{conflicts_with, can_preempt, is_firm, keys_of, least_key, lesser_of}
use Rattle.host_timeline.proofs.Least.{decided_least, none_least}
use Rattle.host_timeline.proofs.WalkLemmas.{none_firm}
use Rattle.host_timeline.proofs.timeline.Timeline.firm_conflict.Goals as goal

-- nothing that is busy is in conflict with it
pub returns-in_err-exclusive-clause-least : goal.returns-in_err-exclusive-clause-least
returns-in_err-exclusive-clause-least c =
    c.from_residual.ensures ∙ ap (λ l. least_key (keys_of l)) (sym (none_firm c.args.class c.args.interval.now c.args.priority c.args.moment c.args.self.now.list c.in_err-exclusive.ensures.clear))

pub returns-in_err-exclusive-clause-none : goal.returns-in_err-exclusive-clause-none
returns-in_err-exclusive-clause-none c = ap is_none c.from_residual.ensures ∙ ap (list_all (can_preempt c.args.priority c.args.moment)) (sym c.in_err-exclusive.ensures.clear)

-- the least of the two lists
pub returns-clause-least : goal.returns-clause-least
returns-clause-least c =
    let interval = c.args.interval.now in
    let passes : Booking → Bool = is_firm c.args.class interval c.args.priority c.args.moment in
    let some = rw (to_z-of_z c.ranges.priority) at c.least_firm.ensures in
    let others = rw (to_z-of_z c.ranges.priority) at c.least_firm-2.ensures in
    c.lesser_of.ensures ∙ ap₂ lesser_of some others
    ∙ decided_least passes c.args.class interval.start (Some interval.end) c.args.self.now.list c.in_ok-exclusive.exclusive c.in_ok-exclusive.normal c.in_ok-exclusive.ensures.decide (λ b off. ap (λ x. x && not (can_preempt c.args.priority c.args.moment b)) off)

pub returns-clause-none : goal.returns-clause-none
returns-clause-none c =
    ap is_none (returns-clause-least c) ∙ none_least (conflicts_with c.args.class c.args.interval.now) (can_preempt c.args.priority c.args.moment) c.args.self.now.list
