use Rattle.std.proofs.Common.{◌≡◌, ◌∙◌, Ok, ap}
use Rattle.host_keep.specs.declared.call.HostCall.{HostCall}
use Rattle.rehearsal_model.proofs.SimulationLemmas.{config_stepped}
use Rattle.rehearsal_model.specs.Simulated.{answered, stepped}
use Rattle.simulated_host.proofs.OpenLemmas.{if_ok, on_ok}
use Rattle.simulated_host.proofs.StepLemmas.{done_so, faulted_so, replied_so}
use Rattle.simulated_host.proofs.simulated.SimulatedHost.act.Goals.{in-Answered, in-Faulted}
use Rattle.simulated_host.proofs.simulated.SimulatedHost.act.Goals as goal

pub returns-clause-reply : goal.returns-clause-reply
returns-clause-reply c =
    let call : HostCall = record { clock = c.args.clock; input = c.args.input } in
    let same = ap (λ x. answered x c.args.clock c.args.input) c.self.view_is in
    elim c.match-branch-2.branch [
      | in-Answered w ↦ if_ok (λ o. o ≡ answered c.args.self.now c.args.clock c.args.input) _ _ w.result-is
          (replied_so _ call _ w.in-Answered.reply (c.step.ensures.done w.in-Answered.reply (c.in_ok-reply.was ∙ ap Ok w.in-Answered.is)) ∙ same)
      | in-Faulted w ↦ if_ok (λ o. o ≡ answered c.args.self.now c.args.clock c.args.input) _ _ w.result-is
          ((faulted_so _ call _ (c.step.ensures.faulted (c.in_ok-reply.was ∙ ap Ok w.in-Faulted.is))).1 ∙ same)
    ]

pub returns-clause-simulated : goal.returns-clause-simulated
returns-clause-simulated c =
    let call : HostCall = record { clock = c.args.clock; input = c.args.input } in
    let same = ap (λ x. stepped x c.args.clock c.args.input) c.self.view_is in
    elim c.match-branch-2.branch [
      | in-Answered w ↦ on_ok _ _ w.result-is (done_so _ call _ w.in-Answered.reply (c.step.ensures.done w.in-Answered.reply (c.in_ok-reply.was ∙ ap Ok w.in-Answered.is)) ∙ same)
      | in-Faulted w ↦ on_ok _ _ w.result-is ((faulted_so _ call _ (c.step.ensures.faulted (c.in_ok-reply.was ∙ ap Ok w.in-Faulted.is))).0 ∙ same)
    ]

pub returns-clause-config : goal.returns-clause-config
returns-clause-config c =
    let call : HostCall = record { clock = c.args.clock; input = c.args.input } in
    let same = ap (λ x. stepped x c.args.clock c.args.input) c.self.view_is in
    let left = config_stepped c.args.self.now c.args.clock c.args.input in
    elim c.match-branch-2.branch [
      | in-Answered w ↦ on_ok _ _ w.result-is
          (ap (λ x. x.state.config) (done_so _ call _ w.in-Answered.reply (c.step.ensures.done w.in-Answered.reply (c.in_ok-reply.was ∙ ap Ok w.in-Answered.is)) ∙ same) ∙ left)
      | in-Faulted w ↦ on_ok _ _ w.result-is (ap (λ x. x.state.config) ((faulted_so _ call _ (c.step.ensures.faulted (c.in_ok-reply.was ∙ ap Ok w.in-Faulted.is))).0 ∙ same) ∙ left)
    ]
