use Rattle.std.proofs.Common.{subst, rules}
use Rattle.ps_doors.specs.Porch.{AreDealt, PorchState, first_of}
use Rattle.ps_doors.proofs.DealLemmas.{shares_of}
use Rattle.ps_doors.proofs.memory_porch.MemoryPorchPorch.open.Goals as goal

pub returns-clause-shares : goal.returns-clause-shares
returns-clause-shares c = shares_of c.args.number c.args.most c.self.inside.guests.items c.in_ok-doors.doors.items c.in_ok-doors.ensures.dealt

pub returns-clause-opens : goal.returns-clause-opens
returns-clause-opens c =
    (subst (λ (p : PorchState). AreDealt c.args.number (first_of c.args.most p.guests) c.in_ok-doors.doors.items) c.self.view_is c.in_ok-doors.ensures.dealt, search rules)
