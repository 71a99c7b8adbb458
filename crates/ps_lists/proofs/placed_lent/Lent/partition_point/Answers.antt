use Rattle.std.proofs.Common.{◌≡◌, ◌∙◌, rules, List, false, length, refl, sym, true, ap, arith, subst}
use Rattle.std.specs.Fn.{ComputesKey, always_mut}
use Rattle.std.specs.List.Sorted.{IsPartitionPoint, IsPartitionedBy}
use Rattle.std.proofs.lemmas.Fn.{answers_by}
use denote.Param.Always.{mut_by}
use Rattle.ps_lists.specs.Order.{passes_in}
use Rattle.ps_lists.proofs.PickLemmas.{length_picked, parted_items, parted_numbers}
use Rattle.ps_lists.proofs.placed_lent.Lent.partition_point.Goals as goal

pub partition_point-requires : goal.partition_point-requires
partition_point-requires g c = mut_by _ (λ s. always_mut g.P.FnMut s.1.now) (λ s a i. i) (λ s a r t i e. search rules) _ c.requires

pub returns-clause-bound : goal.returns-clause-bound
returns-clause-bound g c =
    let same = length_picked c.self.inside.cells.now c.self.inside.order c.self.invariant in
    let long = ap (λ (l : List g.row.T.Denot). length l) c.self.view_is in
    omega (arith, same, long, c.partition_point.ensures.bound)

-- each test of a number is one of its cell's item, and leaves the cells
pub returns-clause-partitioned : goal.returns-clause-partitioned
returns-clause-partitioned g c =
    let cells = c.self.inside.cells.now in
    let order = c.self.inside.order in
    λ p h parted.
    let tests = answers_by _ (λ a r. r ≡ passes_in p cells a.0.now) (λ s. ComputesKey g.P.FnMut p s.1.now × (s.0.now ≡ cells))
    (λ s a r t e i.
    let told : (r ≡ passes_in p s.0.now a.0.now) × ComputesKey g.P.FnMut p t.1.now = search rules in
    let left : t.0.now ≡ s.0.now = search rules in
    (told.0 ∙ ap (λ (xs : List g.row.T.Denot). passes_in p xs a.0.now) i.1, (told.1, left ∙ i.1)))
    _ (h, refl) in
    let numbers = parted_numbers cells order c.self.invariant p (subst (λ (l : List g.row.T.Denot). IsPartitionedBy p l) (sym c.self.view_is) parted) in
    subst (λ (l : List g.row.T.Denot). IsPartitionPoint (λ y. p y ≡ true) (λ y. p y ≡ false) l c.partition_point.result) c.self.view_is
    (parted_items cells order c.self.invariant p c.partition_point.result c.partition_point.ensures.bound (c.partition_point.ensures.partitioned (passes_in p cells) tests numbers))
