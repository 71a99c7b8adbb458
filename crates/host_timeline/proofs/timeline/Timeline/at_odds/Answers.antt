use Rattle.std.proofs.Common.{◌≡◌, [], Some, ap, subst}
use Rattle.ps_time.specs.Span.{Span}
use Rattle.host_timeline.specs.Lane.{Decide, HoldLanes}
use Rattle.host_timeline.specs.Timeline.{Timeline}
use Rattle.host_timeline.proofs.WalkLemmas.{none_beside}
use Rattle.host_timeline.proofs.timeline.Timeline.at_odds.Goals as goal

-- what conflicts lies in the ranges
pub are_clear-requires : goal.are_clear-requires
are_clear-requires c = c.reach_back-earliest.ensures c.self.inside.bookings.list c.self.inside.places c.self.inside.lanes c.self.invariant.are_busy c.self.invariant.hold

pub beside-requires : goal.beside-requires
beside-requires c = c.reach_back-earliest.ensures c.self.inside.bookings.list c.self.inside.places c.self.inside.lanes c.self.invariant.are_busy c.self.invariant.hold

-- two empty lists decide
pub returns-then-are_clear-clause-clear : goal.returns-then-are_clear-clause-clear
returns-then-are_clear-clause-clear c =
    let seen : c.self.inside.bookings.list ≡ c.args.self.now.list = ap (λ (t : Timeline). t.list) c.self.view_is in
    let hold : HoldLanes c.args.self.now.list c.self.inside.lanes = subst (λ l. HoldLanes l c.self.inside.lanes) seen c.self.invariant.hold in
    let decide : Decide c.args.class c.args.interval.now.start (Some c.args.interval.now.end) c.args.self.now.list [] [] = subst (λ (s : Span). Decide c.args.class s.start (Some s.end) c.args.self.now.list [] []) c.interval.view_is (c.are_clear.ensures c.args.self.now.list hold c.if-are_clear.true) in
    none_beside c.args.class c.args.interval.now c.args.self.now.list decide

pub returns-clause-decide : goal.returns-clause-decide
returns-clause-decide c =
    let seen : c.self.inside.bookings.list ≡ c.args.self.now.list = ap (λ (t : Timeline). t.list) c.self.view_is in
    let hold : HoldLanes c.args.self.now.list c.self.inside.lanes = subst (λ l. HoldLanes l c.self.inside.lanes) seen c.self.invariant.hold in
    subst (λ (s : Span). Decide c.args.class s.start (Some s.end) c.args.self.now.list c.beside.result.0 c.beside.result.1) c.interval.view_is (c.beside.ensures.decide c.args.self.now.list hold)
