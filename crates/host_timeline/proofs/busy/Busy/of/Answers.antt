use Rattle.std.proofs.Common.{◌∙◌, ap, sym}
use Rattle.host_timeline.specs.Busy.{covers}
use Rattle.host_timeline.proofs.BesideLemmas.{none_conflicts}
use Rattle.host_timeline.proofs.BusyLemmas.{never_busy}
use Rattle.host_timeline.proofs.busy.Busy.of.Goals as goal

-- it conflicts with none
pub returns-in_default-clause-covered : goal.returns-in_default-clause-covered
returns-in_default-clause-covered c bookings places busy second =
    ap (λ l. covers l second) c.nothing.ensures ∙ sym (never_busy c.args.class bookings second (none_conflicts c.args.class c.in_default.not-Normal c.in_default.not-Exclusive))
