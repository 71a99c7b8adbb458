use Rattle.std.proofs.Common.{◌≡◌, ◌++◌, ◌+◌, drop, get_or, subst, sym, take}
use Rattle.ps_time.specs.Span.{Span}
use Rattle.host_timeline.specs.Busy.{pieces, without_range, IsCovered}
use Rattle.host_timeline.proofs.RangeLemmas.{cut_at, found_within}
use Rattle.host_timeline.proofs.ranges.containing.Goals as goal

pub returns-clause-within : goal.returns-clause-within
returns-clause-within c =
    let s : Span = record { start = c.interval.inside.start; end = c.interval.inside.end } in
    found_within c.args.ranges.now s c.ending_by.result c.ending_by.ensures.parted c.interval.invariant (subst (IsCovered c.args.ranges.now) (sym c.interval.view_is) c.requires.covered)

pub returns-clause-cut : goal.returns-clause-cut
returns-clause-cut c d =
    let s : Span = record { start = c.interval.inside.start; end = c.interval.inside.end } in
    let l = c.args.ranges.now in
    let at = c.ending_by.result in
    subst (λ (i : Span). without_range l i ≡ take at l ++ (pieces (get_or l at d) i ++ drop (at + 1) l)) c.interval.view_is (cut_at l s at c.ending_by.ensures.parted d (returns-clause-within c))
