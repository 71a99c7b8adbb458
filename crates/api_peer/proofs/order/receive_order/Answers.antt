use Rattle.std.proofs.Common.{◌≡◌, ◌∙◌, List, Ok, Result, ap, ℕ}
use Rattle.ps_http.specs.declared.message.Request.{Request}
use Rattle.host_model.specs.declared.input.Input.{Input}
use Rattle.world_law.specs.World.{input_of}
use Rattle.api_input.specs.Understood.{understood}
use Rattle.api_input.specs.declared.refusal.Refusal.{Refusal}
use Rattle.api_peer.proofs.order.receive_order.Goals as goal

abbrev Same : Result Input Refusal → Result Input Refusal → Type 0
Same a b = a ≡ b

ok_same : (x y : Input) → Same (Ok x) (Ok y) → y ≡ x
ok_same x y is = cc

-- the request that was read is the one that was written
pub returns-in-Ok-asked : goal.returns-in-Ok-asked
returns-in-Ok-asked c = λ mark name o carries knows bounds.
    let self = c.args.config.now in
    let read : c.in-Ok.request ≡ carries.request = c.in-Ok.ensures.request carries.request carries.is in
    let asked : Input = input_of mark.number o.key o.body in
    let means : (address : List ℕ) (m : ℕ) → understood self c.in-Ok.request address m ≡ Ok asked =
    λ address m. ap (λ (r : Request). understood self r address m) read ∙ carries.meant self name knows bounds address m in
    ok_same asked c.in-Ok-asked.input (c.in-Ok-asked.ensures asked means)
