use Rattle.std.proofs.Common.{◌∙◌, ◌<◌, ◌+◌, Some, None, ap, length, subst, sym, arith}
use Rattle.std.specs.List.{insert}
use Rattle.host_timeline.specs.Busy.{Ranges, IsApart, without_range}
use Rattle.host_timeline.proofs.RangeLemmas.{apart_seen, cut_found, none_for_one, one_for_one, two_for_one}
use Rattle.host_timeline.proofs.ranges.Ranges.cut.Goals as goal

-- both pieces
pub returns-in-Some-Some-clause-list : goal.returns-in-Some-Some-clause-list
returns-in-Some-Some-clause-list c =
    let rs = c.self.inside.ranges.list in
    let at = c.containing-at.result in
    let within : at < length rs = omega (arith, c.containing-at.ensures.within, ap length c.in_order.ensures) in
    let done = cut_found rs c.in_order.result at _ c.args.interval.now _ c.index-range.result.now (Some c.in-Some-Some.before) (Some c.in-Some-Some.behind) c.in_order.ensures c.interval.view_is (c.containing-at.ensures.cut c.index-range.result.now) (c.range.view_is ∙ c.index-range.ensures) (sym c.span_between-before.ensures ∙ c.in-Some-Some.is-0) (sym c.span_between-behind.ensures ∙ c.in-Some-Some.is-1) in
    c.insert.ensures.list ∙ ap (λ l. insert l (at + 1) c.in-Some-Some.behind) c.set.ensures.list ∙ two_for_one rs at c.in-Some-Some.before c.in-Some-Some.behind within ∙ sym done ∙ ap (λ (r : Ranges). without_range r.list c.args.interval.now) c.self.view_is

pub invariant_of-self : goal.invariant_of-self
invariant_of-self c = subst IsApart (sym (returns-in-Some-Some-clause-list c)) (apart_seen _ _ _ _ (ap (λ (r : Ranges). r.list) c.self.view_is) c.interval.view_is c.self.invariant c.interval.invariant)

pub returns-in-Some-Some-clause-apart : goal.returns-in-Some-Some-clause-apart
returns-in-Some-Some-clause-apart c = invariant_of-self c

-- the piece before it
pub returns-in-Some-None-clause-list : goal.returns-in-Some-None-clause-list
returns-in-Some-None-clause-list c =
    let rs = c.self.inside.ranges.list in
    let at = c.containing-at.result in
    let within : at < length rs = omega (arith, c.containing-at.ensures.within, ap length c.in_order.ensures) in
    let done = cut_found rs c.in_order.result at _ c.args.interval.now _ c.index-range.result.now (Some c.in-Some-None.piece) None c.in_order.ensures c.interval.view_is (c.containing-at.ensures.cut c.index-range.result.now) (c.range.view_is ∙ c.index-range.ensures) (sym c.span_between-before.ensures ∙ c.in-Some-None.is-0) (sym c.span_between-behind.ensures ∙ c.in-Some-None.is-1) in
    c.set-in-Some-None.ensures.list ∙ one_for_one rs at c.in-Some-None.piece within ∙ sym done ∙ ap (λ (r : Ranges). without_range r.list c.args.interval.now) c.self.view_is

pub invariant_of-self-in-Some-None : goal.invariant_of-self-in-Some-None
invariant_of-self-in-Some-None c = subst IsApart (sym (returns-in-Some-None-clause-list c)) (apart_seen _ _ _ _ (ap (λ (r : Ranges). r.list) c.self.view_is) c.interval.view_is c.self.invariant c.interval.invariant)

pub returns-in-Some-None-clause-apart : goal.returns-in-Some-None-clause-apart
returns-in-Some-None-clause-apart c = invariant_of-self-in-Some-None c

-- the piece behind it
pub returns-in-None-Some-clause-list : goal.returns-in-None-Some-clause-list
returns-in-None-Some-clause-list c =
    let rs = c.self.inside.ranges.list in
    let at = c.containing-at.result in
    let within : at < length rs = omega (arith, c.containing-at.ensures.within, ap length c.in_order.ensures) in
    let done = cut_found rs c.in_order.result at _ c.args.interval.now _ c.index-range.result.now None (Some c.in-None-Some.piece) c.in_order.ensures c.interval.view_is (c.containing-at.ensures.cut c.index-range.result.now) (c.range.view_is ∙ c.index-range.ensures) (sym c.span_between-before.ensures ∙ c.in-None-Some.is-0) (sym c.span_between-behind.ensures ∙ c.in-None-Some.is-1) in
    c.set-in-None-Some.ensures.list ∙ one_for_one rs at c.in-None-Some.piece within ∙ sym done ∙ ap (λ (r : Ranges). without_range r.list c.args.interval.now) c.self.view_is

pub invariant_of-self-in-None-Some : goal.invariant_of-self-in-None-Some
invariant_of-self-in-None-Some c = subst IsApart (sym (returns-in-None-Some-clause-list c)) (apart_seen _ _ _ _ (ap (λ (r : Ranges). r.list) c.self.view_is) c.interval.view_is c.self.invariant c.interval.invariant)

pub returns-in-None-Some-clause-apart : goal.returns-in-None-Some-clause-apart
returns-in-None-Some-clause-apart c = invariant_of-self-in-None-Some c

-- nothing
pub returns-in-None-None-clause-list : goal.returns-in-None-None-clause-list
returns-in-None-None-clause-list c =
    let rs = c.self.inside.ranges.list in
    let at = c.containing-at.result in
    let done = cut_found rs c.in_order.result at _ c.args.interval.now _ c.index-range.result.now None None c.in_order.ensures c.interval.view_is (c.containing-at.ensures.cut c.index-range.result.now) (c.range.view_is ∙ c.index-range.ensures) (sym c.span_between-before.ensures ∙ c.in-None-None.is-0) (sym c.span_between-behind.ensures ∙ c.in-None-None.is-1) in
    c.remove.ensures.list ∙ none_for_one rs at ∙ sym done ∙ ap (λ (r : Ranges). without_range r.list c.args.interval.now) c.self.view_is

pub invariant_of-self-in-None-None : goal.invariant_of-self-in-None-None
invariant_of-self-in-None-None c = subst IsApart (sym (returns-in-None-None-clause-list c)) (apart_seen _ _ _ _ (ap (λ (r : Ranges). r.list) c.self.view_is) c.interval.view_is c.self.invariant c.interval.invariant)

pub returns-in-None-None-clause-apart : goal.returns-in-None-None-clause-apart
returns-in-None-None-clause-apart c = invariant_of-self-in-None-None c
