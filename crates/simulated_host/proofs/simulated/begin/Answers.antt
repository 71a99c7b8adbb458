use Rattle.std.proofs.Common.{◌∙◌, ap}
use Rattle.host_model.specs.declared.input.Input.TheVariants.{Open}
use Rattle.rehearsal_model.specs.Simulated.{stepped}
use Rattle.simulated_host.proofs.OpenLemmas.{first_step}
use Rattle.simulated_host.proofs.simulated.begin.Goals as goal

pub returns-clause-opened : goal.returns-clause-opened
returns-clause-opened c = λ left is. c.in_ok-reply.ensures.simulated ∙ (ap (λ x. stepped x c.args.clock Open) is ∙ first_step left c.args.clock)
