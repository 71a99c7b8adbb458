use Rattle.std.proofs.Common.{◌≡◌, ◌∙◌, ◌+◌, true, ap, ap₂, refl, subst, sym}
use Rattle.std.specs.List.{list_all}
use Rattle.ps_time.specs.declared.class.Class.TheVariants.{Normal, Exclusive}
use Rattle.host_timeline.specs.Lane.{Lanes, FailsOutside, HoldLanes, Reach, how_many, is_beside, reaches}
use Rattle.host_timeline.proofs.BesideLemmas.{outside_spans, none_conflicts, have_decide, have_exclusive, have_none, have_normal}
use Rattle.host_timeline.proofs.lanes.Lanes.beside.Goals as goal

pub near-requires : goal.near-requires
near-requires c =
    let reach : Reach Exclusive c.args.earliest c.args.from c.args.self.now = subst (λ k. Reach k c.args.earliest c.args.from c.args.self.now) c.in-Exclusive.is c.requires in
    subst (λ (l : Lanes). list_all (reaches c.args.earliest c.args.from) l.exclusive.list ≡ true) (sym c.self.view_is) (reach Exclusive refl)

pub near-requires-in-Exclusive : goal.near-requires-in-Exclusive
near-requires-in-Exclusive c =
    let reach : Reach Exclusive c.args.earliest c.args.from c.args.self.now = subst (λ k. Reach k c.args.earliest c.args.from c.args.self.now) c.in-Exclusive.is c.requires in
    subst (λ (l : Lanes). list_all (reaches c.args.earliest c.args.from) l.normal.list ≡ true) (sym c.self.view_is) (reach Normal refl)

pub near-requires-in-Normal : goal.near-requires-in-Normal
near-requires-in-Normal c =
    let reach : Reach Normal c.args.earliest c.args.from c.args.self.now = subst (λ k. Reach k c.args.earliest c.args.from c.args.self.now) c.in-Normal.is c.requires in
    subst (λ (l : Lanes). list_all (reaches c.args.earliest c.args.from) l.exclusive.list ≡ true) (sym c.self.view_is) (reach Exclusive refl)

-- it looks at both lanes
pub returns-in-Exclusive-clause-have : goal.returns-in-Exclusive-clause-have
returns-in-Exclusive-clause-have c bookings hold test outside =
    let others : FailsOutside (is_beside Exclusive c.args.from c.args.until) test = subst (λ k. FailsOutside (is_beside k c.args.from c.args.until) test) c.in-Exclusive.is outside in
    let inside = outside_spans c.args.from c.args.until test Exclusive others in
    have_exclusive bookings _ (subst (HoldLanes bookings) (sym c.self.view_is) hold) c.args.from c.args.until test c.near.result c.near-in-Exclusive.result others (c.near.ensures test inside) (c.near-in-Exclusive.ensures test inside)

pub returns-in-Exclusive-clause-decide : goal.returns-in-Exclusive-clause-decide
returns-in-Exclusive-clause-decide c bookings hold = have_decide c.args.class c.args.from c.args.until bookings c.near.result c.near-in-Exclusive.result (returns-in-Exclusive-clause-have c bookings hold)

-- it looks at the exclusive ones
pub returns-in-Normal-clause-have : goal.returns-in-Normal-clause-have
returns-in-Normal-clause-have c bookings hold test outside =
    let others : FailsOutside (is_beside Normal c.args.from c.args.until) test = subst (λ k. FailsOutside (is_beside k c.args.from c.args.until) test) c.in-Normal.is outside in
    let inside = outside_spans c.args.from c.args.until test Normal others in
    ap (λ l. how_many test c.near-in-Normal.result + how_many test l) c.nothing.ensures
    ∙ have_normal bookings _ (subst (HoldLanes bookings) (sym c.self.view_is) hold) c.args.from c.args.until test c.near-in-Normal.result others (c.near-in-Normal.ensures test inside)

pub returns-in-Normal-clause-decide : goal.returns-in-Normal-clause-decide
returns-in-Normal-clause-decide c bookings hold = have_decide c.args.class c.args.from c.args.until bookings c.near-in-Normal.result c.nothing.result (returns-in-Normal-clause-have c bookings hold)

-- it conflicts with none
pub returns-in_default-clause-have : goal.returns-in_default-clause-have
returns-in_default-clause-have c bookings hold test outside =
    ap₂ (λ x y. how_many test x + how_many test y) c.nothing-in_default.ensures c.nothing-in_default-2.ensures
    ∙ have_none bookings c.args.self.now hold c.args.from c.args.until test c.args.class (none_conflicts c.args.class c.in_default.not-Normal c.in_default.not-Exclusive) outside

pub returns-in_default-clause-decide : goal.returns-in_default-clause-decide
returns-in_default-clause-decide c bookings hold = have_decide c.args.class c.args.from c.args.until bookings c.nothing-in_default.result c.nothing-in_default-2.result (returns-in_default-clause-have c bookings hold)
