use Rattle.std.proofs.Common.{◌≡◌, ◌∙◌, ◌<◌, ◌≤◌, ap, get_or, length, ltb, subst, sym, true, false, arith}
use Rattle.std.specs.List.Sorted.{IsPartitionPoint}
use Rattle.ps_time.specs.Span.{Span}
use Rattle.host_timeline.specs.Busy.{Ranges, IsCovered}
use Rattle.host_timeline.proofs.RangeLemmas.{reached, reached_none}
use Rattle.host_timeline.proofs.ranges.Ranges.reach_back.Goals as goal

-- the range in which the moment lies, or the one behind it
pub returns-then-at-len : goal.returns-then-at-len
returns-then-at-len c s some covered behind =
    let rs = c.self.inside.ranges.list in
    let at = c.ending_by-at.result in
    let d = c.index.result.now in
    let seen : rs ≡ c.args.self.now.list = ap (λ (r : Ranges). r.list) c.self.view_is in
    let parted : IsPartitionPoint (λ r. ltb c.args.from r.end ≡ false) (λ r. ltb c.args.from r.end ≡ true) rs at = subst (λ l. IsPartitionPoint (λ r. ltb c.args.from r.end ≡ false) (λ r. ltb c.args.from r.end ≡ true) l at) c.in_order.ensures c.ending_by-at.ensures.parted in
    let within : at < length rs = omega (arith, c.if-at-len.true, c.len.ensures.value) in
    let is : c.behind-self.inside.start ≡ (get_or rs at d).start = ap (λ (r : Span). r.start) (c.behind-self.view_is ∙ c.index.ensures) in
    rw is (reached rs c.args.from at d c.self.invariant within parted s some (subst (λ l. IsCovered l s) (sym seen) covered) behind)

-- all ranges end by the moment
pub returns-else-at-len : goal.returns-else-at-len
returns-else-at-len c s some covered behind =
    let rs = c.self.inside.ranges.list in
    let at = c.ending_by-at.result in
    let seen : rs ≡ c.args.self.now.list = ap (λ (r : Ranges). r.list) c.self.view_is in
    let parted : IsPartitionPoint (λ r. ltb c.args.from r.end ≡ false) (λ r. ltb c.args.from r.end ≡ true) rs at = subst (λ l. IsPartitionPoint (λ r. ltb c.args.from r.end ≡ false) (λ r. ltb c.args.from r.end ≡ true) l at) c.in_order.ensures c.ending_by-at.ensures.parted in
    let over : length rs ≤ at = omega (arith, c.if-at-len.false, c.len.ensures.value) in
    reached_none rs c.args.from _ s (λ k d within. parted.0 k d (omega arith) (omega (arith, within, over))) some (subst (λ l. IsCovered l s) (sym seen) covered) behind
