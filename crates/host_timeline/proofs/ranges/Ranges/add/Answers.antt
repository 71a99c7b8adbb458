use Rattle.std.proofs.Common.{◌≡◌, ◌∙◌, ◌++◌, ◌∷◌, ◌+◌, ◌-◌, ◌<◌, ◌≤◌, ap, ap₂, drop, get_or, length, min, max, subst, sym, take, true, false, ltb, arith}
use Rattle.std.specs.List.{remove_range}
use Rattle.std.specs.List.Sorted.{IsPartitionPoint}
use Rattle.ps_time.specs.Span.{Span}
use Rattle.host_timeline.specs.Busy.{Ranges, IsApart, covers, with_range}
use Rattle.host_timeline.proofs.RangeLemmas.{apart_with, closed, covers_with, put_between, put_over}
use Rattle.host_timeline.proofs.ranges.Ranges.add.Goals as goal

-- those that it overlaps or touches give way to their hull
pub returns-then-first-end-clause-list : goal.returns-then-first-end-clause-list
returns-then-first-end-clause-list c =
    let rs = c.self.inside.ranges.list in
    let s : Span = record { start = c.interval.inside.start; end = c.interval.inside.end } in
    let first = c.ending_before-first.result in
    let end = c.starting_by-end.result in
    let seen : rs ≡ c.args.self.now.list = ap (λ (r : Ranges). r.list) c.self.view_is in
    let early : IsPartitionPoint (λ r. ltb r.end s.start ≡ true) (λ r. ltb r.end s.start ≡ false) rs first = subst (λ l. IsPartitionPoint (λ r. ltb r.end s.start ≡ true) (λ r. ltb r.end s.start ≡ false) l first) c.in_order.ensures c.ending_before-first.ensures.parted in
    let late : IsPartitionPoint (λ r. ltb s.end r.start ≡ false) (λ r. ltb s.end r.start ≡ true) rs end = subst (λ l. IsPartitionPoint (λ r. ltb s.end r.start ≡ false) (λ r. ltb s.end r.start ≡ true) l end) c.in_order-2.ensures c.starting_by-end.ensures.parted in
    let d = c.index.result.now in
    let e = c.index-then-first-end.result.now in
    let within : end ≤ length rs = omega (arith, c.starting_by-end.ensures.within, ap length c.in_order-2.ensures) in
    let start : c.min-start.result ≡ min (get_or rs first d).start s.start = c.min-start.ensures ∙ ap (λ (r : Span). min r.start s.start) (c.behind-self.view_is ∙ c.index.ensures) in
    let last : c.max-last.result ≡ max (get_or rs (end - 1) e).end s.end = c.max-last.ensures ∙ ap (λ (r : Span). max r.end s.end) (c.behind-self-then-first-end.view_is ∙ c.index-then-first-end.ensures) in
    c.take_out.ensures.list
    ∙ ap (λ l. remove_range l (first + 1) end) c.set.ensures.list
    ∙ closed rs (record { start = c.min-start.result; end = c.max-last.result }) first end c.if-first-end.true within
    ∙ ap₂ (λ a b. take first rs ++ (record { start = a; end = b }) ∷ drop end rs) start last
    ∙ sym (put_over rs s first end c.interval.invariant c.self.invariant early late d e c.if-first-end.true within)
    ∙ ap₂ with_range seen c.interval.view_is

pub invariant_of-self : goal.invariant_of-self
invariant_of-self c =
    let seen : c.self.inside.ranges.list ≡ c.args.self.now.list = ap (λ (r : Ranges). r.list) c.self.view_is in
    subst IsApart (sym (returns-then-first-end-clause-list c)) (apart_with c.args.self.now.list c.args.interval.now (subst IsApart seen c.self.invariant) (subst (λ (i : Span). i.start < i.end) c.interval.view_is c.interval.invariant))

-- it touches none
pub returns-else-first-end-clause-list : goal.returns-else-first-end-clause-list
returns-else-first-end-clause-list c =
    let rs = c.self.inside.ranges.list in
    let s : Span = record { start = c.interval.inside.start; end = c.interval.inside.end } in
    let first = c.ending_before-first.result in
    let end = c.starting_by-end.result in
    let seen : rs ≡ c.args.self.now.list = ap (λ (r : Ranges). r.list) c.self.view_is in
    let early : IsPartitionPoint (λ r. ltb r.end s.start ≡ true) (λ r. ltb r.end s.start ≡ false) rs first = subst (λ l. IsPartitionPoint (λ r. ltb r.end s.start ≡ true) (λ r. ltb r.end s.start ≡ false) l first) c.in_order.ensures c.ending_before-first.ensures.parted in
    let late : IsPartitionPoint (λ r. ltb s.end r.start ≡ false) (λ r. ltb s.end r.start ≡ true) rs end = subst (λ l. IsPartitionPoint (λ r. ltb s.end r.start ≡ false) (λ r. ltb s.end r.start ≡ true) l end) c.in_order-2.ensures c.starting_by-end.ensures.parted in
    let within : first ≤ length rs = omega (arith, c.ending_before-first.ensures.within, ap length c.in_order.ensures) in
    rw c.insert.ensures.list (sym (put_between rs s first end c.interval.invariant c.self.invariant early late c.if-first-end.false within)) ∙ ap₂ with_range seen c.interval.view_is

pub invariant_of-self-else-first-end : goal.invariant_of-self-else-first-end
invariant_of-self-else-first-end c =
    let seen : c.self.inside.ranges.list ≡ c.args.self.now.list = ap (λ (r : Ranges). r.list) c.self.view_is in
    subst IsApart (sym (returns-else-first-end-clause-list c)) (apart_with c.args.self.now.list c.args.interval.now (subst IsApart seen c.self.invariant) (subst (λ (i : Span). i.start < i.end) c.interval.view_is c.interval.invariant))

pub returns-then-first-end-clause-apart : goal.returns-then-first-end-clause-apart
returns-then-first-end-clause-apart c = invariant_of-self c

pub returns-else-first-end-clause-apart : goal.returns-else-first-end-clause-apart
returns-else-first-end-clause-apart c = invariant_of-self-else-first-end c

pub returns-then-first-end-clause-covers : goal.returns-then-first-end-clause-covers
returns-then-first-end-clause-covers c second =
    let seen : c.self.inside.ranges.list ≡ c.args.self.now.list = ap (λ (r : Ranges). r.list) c.self.view_is in
    ap (λ l. covers l second) (returns-then-first-end-clause-list c) ∙ covers_with c.args.self.now.list c.args.interval.now second (subst IsApart seen c.self.invariant) (subst (λ (i : Span). i.start < i.end) c.interval.view_is c.interval.invariant)

pub returns-else-first-end-clause-covers : goal.returns-else-first-end-clause-covers
returns-else-first-end-clause-covers c second =
    let seen : c.self.inside.ranges.list ≡ c.args.self.now.list = ap (λ (r : Ranges). r.list) c.self.view_is in
    ap (λ l. covers l second) (returns-else-first-end-clause-list c) ∙ covers_with c.args.self.now.list c.args.interval.now second (subst IsApart seen c.self.invariant) (subst (λ (i : Span). i.start < i.end) c.interval.view_is c.interval.invariant)
