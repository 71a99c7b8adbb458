use Rattle.std.proofs.Common.{◌≡◌, ◌∙◌, [], true, refl, subst, sym}
use Rattle.std.specs.List.{list_all}
use Rattle.ps_time.specs.declared.class.Class.TheVariants.{Normal, Exclusive}
use Rattle.host_timeline.specs.Lane.{Lanes, FailsOutside, HoldLanes, Reach, is_beside, reaches}
use Rattle.host_timeline.proofs.BesideLemmas.{outside_spans, none_conflicts, have_decide, have_exclusive, have_none, have_normal}
use Rattle.host_timeline.proofs.Tests.{both_true}
use Rattle.host_timeline.proofs.lanes.Lanes.are_clear.Goals as goal

pub is_clear-requires : goal.is_clear-requires
is_clear-requires c =
    let reach : Reach Exclusive c.args.earliest c.args.from c.args.self.now = subst (λ k. Reach k c.args.earliest c.args.from c.args.self.now) c.in-Exclusive.is c.requires in
    subst (λ (l : Lanes). list_all (reaches c.args.earliest c.args.from) l.exclusive.list ≡ true) (sym c.self.view_is) (reach Exclusive refl)

pub is_clear-requires-in-Exclusive : goal.is_clear-requires-in-Exclusive
is_clear-requires-in-Exclusive c =
    let reach : Reach Exclusive c.args.earliest c.args.from c.args.self.now = subst (λ k. Reach k c.args.earliest c.args.from c.args.self.now) c.in-Exclusive.is c.requires in
    subst (λ (l : Lanes). list_all (reaches c.args.earliest c.args.from) l.normal.list ≡ true) (sym c.self.view_is) (reach Normal refl)

pub is_clear-requires-in-Normal : goal.is_clear-requires-in-Normal
is_clear-requires-in-Normal c =
    let reach : Reach Normal c.args.earliest c.args.from c.args.self.now = subst (λ k. Reach k c.args.earliest c.args.from c.args.self.now) c.in-Normal.is c.requires in
    subst (λ (l : Lanes). list_all (reaches c.args.earliest c.args.from) l.exclusive.list ≡ true) (sym c.self.view_is) (reach Exclusive refl)

-- neither lane has one
pub returns-in-Exclusive : goal.returns-in-Exclusive
returns-in-Exclusive c bookings hold is =
    let clear = both_true c.is_clear.result c.is_clear-in-Exclusive.result (sym c.both.ensures ∙ is) in
    have_decide c.args.class c.args.from c.args.until bookings [] [] (λ test outside.
    let others : FailsOutside (is_beside Exclusive c.args.from c.args.until) test = subst (λ k. FailsOutside (is_beside k c.args.from c.args.until) test) c.in-Exclusive.is outside in
    let inside = outside_spans c.args.from c.args.until test Exclusive others in
    have_exclusive bookings _ (subst (HoldLanes bookings) (sym c.self.view_is) hold) c.args.from c.args.until test [] [] others (sym (c.is_clear.ensures test inside clear.0)) (sym (c.is_clear-in-Exclusive.ensures test inside clear.1)))

-- the exclusive ones have none
pub returns-in-Normal : goal.returns-in-Normal
returns-in-Normal c bookings hold is = have_decide c.args.class c.args.from c.args.until bookings [] [] (λ test outside.
    let others : FailsOutside (is_beside Normal c.args.from c.args.until) test = subst (λ k. FailsOutside (is_beside k c.args.from c.args.until) test) c.in-Normal.is outside in
    let inside = outside_spans c.args.from c.args.until test Normal others in
    have_normal bookings _ (subst (HoldLanes bookings) (sym c.self.view_is) hold) c.args.from c.args.until test [] others (sym (c.is_clear-in-Normal.ensures test inside is)))

-- it conflicts with none
pub returns-in_default : goal.returns-in_default
returns-in_default c bookings hold is = have_decide c.args.class c.args.from c.args.until bookings [] [] (λ test outside.
    have_none bookings c.args.self.now hold c.args.from c.args.until test c.args.class (none_conflicts c.args.class c.in_default.not-Normal c.in_default.not-Exclusive) outside)
