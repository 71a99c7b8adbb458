use Rattle.std.proofs.Common.{subst, sym}
use Rattle.ps_time.specs.declared.class.Class.TheVariants.{Normal, Exclusive}
use Rattle.host_timeline.specs.Busy.{AreBusy}
use Rattle.host_timeline.specs.Lane.{Reach}
use Rattle.host_timeline.proofs.BesideLemmas.{none_conflicts}
use Rattle.host_timeline.proofs.BusyLemmas.{busy_reach, no_reach}
use Rattle.host_timeline.proofs.busy.Busy.reach_back.Goals as goal

pub returns-in-Exclusive : goal.returns-in-Exclusive
returns-in-Exclusive c bookings places lanes are hold =
    let inside : AreBusy bookings places (record { normal = c.self.inside.normal; exclusive = c.self.inside.exclusive }) = subst (AreBusy bookings places) (sym c.self.view_is) are in
    subst (λ k. Reach k c.reach_back.result c.args.from lanes) (sym c.in-Exclusive.is) (busy_reach Exclusive c.reach_back.result c.args.from bookings lanes hold c.self.inside.exclusive.list inside.exclusive c.reach_back.ensures)

pub returns-in-Normal : goal.returns-in-Normal
returns-in-Normal c bookings places lanes are hold =
    let inside : AreBusy bookings places (record { normal = c.self.inside.normal; exclusive = c.self.inside.exclusive }) = subst (AreBusy bookings places) (sym c.self.view_is) are in
    subst (λ k. Reach k c.reach_back-in-Normal.result c.args.from lanes) (sym c.in-Normal.is) (busy_reach Normal c.reach_back-in-Normal.result c.args.from bookings lanes hold c.self.inside.normal.list inside.normal c.reach_back-in-Normal.ensures)

-- it conflicts with none
pub returns-in_default : goal.returns-in_default
returns-in_default c bookings places lanes are hold =
    no_reach c.args.class c.args.from c.args.from bookings lanes hold (none_conflicts c.args.class c.in_default.not-Normal c.in_default.not-Exclusive)
