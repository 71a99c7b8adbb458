-- A turn: what is told of it, and what was sent.
use Rattle.std.specs.Prelude.{codes}
use Rattle.std.proofs.Common.{◌≡◌, ◌≤◌, ◌+◌, ◌++◌, ◌∙◌, ℕ, List, None, Option, ap, arith, length, sym}
use Rattle.std.proofs.lemmas.List.{length-append}
use Rattle.host_model.specs.declared.input.Input.TheVariants.{Turn}
use Rattle.host_model.specs.declared.reply.Reply.{Reply}
use Rattle.rehearsal_script.specs.declared.script.ScriptHost.{ScriptHost}
use Rattle.rehearsal_script.specs.declared.script.Stop.{Stop}
use Rattle.world_law.specs.Events.{Cause}
use Rattle.world_law.specs.World.{Message}
use Rattle.rehearsal_report.specs.Line.{changes_text}
use Rattle.rehearsal_model.specs.Moves.{Move.Turns, sent_at}
use Rattle.rehearsal_model.specs.Rehearsal.{messages_told}
use Rattle.rehearsal_model.specs.Simulations.{Action.Does, Simulation, Step, as_read, outcome_at, count_sent, simulation_after, simulation_step, unless_fault}
use Rattle.rehearsal_model.specs.Telling.{outcome_said, disk_fault, turn_said}
use Rattle.rehearsal_model.specs.declared.outcome.StepOutcome.{StepOutcome}
use Rattle.rehearsal_model.specs.declared.outcome.StepOutcome.TheVariants as outcome
use Rattle.rehearsal_lines.proofs.MoveLemmas.{none_fails, none_stops}

module _ (hosts : List ScriptHost) (b : Simulation) (place clock : ℕ) where
  abbrev step_outcome : StepOutcome
  step_outcome = outcome_at b place clock Turn

  abbrev sent : List Message
  sent = sent_at (as_read b) place clock

  -- ---- what is told of it
  abbrev told_by : StepOutcome → List ℕ
  told_by x = outcome_said x disk_fault (λ reply. changes_text reply ++ messages_told hosts (count_sent b + 1) sent)

  told_so : (x : StepOutcome) → step_outcome ≡ x → told_by x ≡ turn_said hosts b place clock
  told_so x e = sym (ap told_by e)

  pub turn_told : (r : Reply) → step_outcome ≡ outcome.Answered r → changes_text r ++ messages_told hosts (count_sent b + 1) sent ≡ turn_said hosts b place clock
  turn_told r e = told_so (outcome.Answered r) e

  pub fault_told : step_outcome ≡ outcome.Faulted → disk_fault ≡ turn_said hosts b place clock
  fault_told e = told_so outcome.Faulted e

  pub crash_told : step_outcome ≡ outcome.Crashed → codes "crashed" ≡ turn_said hosts b place clock
  crash_told e = told_so outcome.Crashed e

  -- ---- what was sent
  abbrev turning : Step
  turning = record { place = place; clock = clock; cause = Cause.ByInner Turn; asked = Turn; landing = None }

  abbrev messages_by : Option Stop → List Message
  messages_by o = (simulation_step hosts b (Turns place clock) turning o).messages

  module _ (r : Reply) (e : step_outcome ≡ outcome.Answered r) where
    messages_turned : (simulation_after hosts b (Does (Turns place clock))).messages ≡ b.messages ++ sent
    messages_turned =
        ap messages_by (none_stops b place clock Turn r e)
        ∙ ap (λ (f : Option ℕ). b.messages ++ unless_fault f sent) (none_fails b place clock Turn r e)

    module _ (now : Simulation) (now_is : now ≡ simulation_after hosts b (Does (Turns place clock))) (after : List Message) (after_is : after ≡ now.messages) where
      pub after_turn : after ≡ b.messages ++ sent
      after_turn = after_is ∙ (ap (λ (x : Simulation). x.messages) now_is ∙ messages_turned)

      -- it takes no message away
      pub longer : (before : List Message) → before ≡ b.messages → length before ≤ length after
      longer before before_is =
          let many : length after ≡ length b.messages + length sent = ap length after_turn ∙ length-append b.messages sent in
          let few : length before ≡ length b.messages = ap length before_is in
          omega (arith, many, few)
