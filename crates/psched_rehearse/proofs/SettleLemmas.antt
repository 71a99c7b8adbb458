-- A host of which a call of a disk failed, once it is disarmed and looked at.
use Rattle.std.proofs.Common.{◌≡◌, ◌∙◌, ℕ, ap, refl, true}
use Rattle.host_model.specs.declared.input.Input.{Input}
use Rattle.host_model.specs.declared.input.Input.TheVariants as input
use Rattle.host_model.specs.declared.view.Page.TheVariants as page
use Rattle.simulated_machine.specs.Held.{Held, armed_at}
use Rattle.world_law.specs.World.{Stage}
use Rattle.rehearsal_model.specs.Simulated.{done, stepped}
use Rattle.rehearsal_model.proofs.UnarmedLemmas.{stepped_done}

abbrev look : Input
look = input.View page.Home

module _ (h before after : Held Stage) (clock : ℕ) (disarmed : before ≡ armed_at h 0) (looked : after ≡ stepped before clock look) where
  knows : after ≡ done (armed_at h 0) clock look
  knows = looked ∙ (ap (λ (x : Held Stage). stepped x clock look) disarmed ∙ stepped_done (armed_at h 0) refl refl clock look)

  pub then_ready : after.ready ≡ true
  then_ready = ap (λ (x : Held Stage). x.ready) knows

  -- to look changes nothing
  pub then_same : after.state ≡ h.state
  then_same = ap (λ (x : Held Stage). x.state) knows
