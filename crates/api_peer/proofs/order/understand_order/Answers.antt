use Rattle.std.specs.Prelude.{codes}
use Rattle.std.proofs.Common.{Result, subst}
use Rattle.ps_json.specs.Answer.{GivesUnless}
use Rattle.host_model.specs.declared.input.Input.{Input}
use Rattle.api_input.specs.declared.refusal.Refusal.{Refusal}
use Rattle.api_input.specs.declared.refusal.Refusal.TheVariants.{Memory}
use Rattle.api_peer.proofs.order.understand_order.Goals as goal

pub returns : goal.returns
returns c = λ i means.
    subst (λ (want : Result Input Refusal). GivesUnless Memory c.understand.result want) (means (codes "127.0.0.1") c.args.clock) c.understand.ensures.value
