-- What is told of a message that arrives, by what came of it.
use Rattle.std.specs.Prelude.{if◌then◌else◌}
use Rattle.std.proofs.Common.{◌≡◌, ◌≤◌, ◌+◌, ◌++◌, ◌∙◌, ◌∷◌, ℕ, Bool, List, [], None, Option, Some, ap, arith, length, refl, sym, true}
use Rattle.std.proofs.lemmas.List.{length-append}
use Rattle.host_model.specs.Step.{step_reply}
use Rattle.host_model.specs.declared.reply.Reply.{Reply}
use Rattle.rehearsal_script.specs.declared.script.ScriptHost.{ScriptHost}
use Rattle.world_law.specs.Events.{brings}
use Rattle.world_law.specs.World.{Message, Stage}
use Rattle.rehearsal_model.specs.Moves.{Move.Arrives, Move.Rests, receiver, replied, replies}
use Rattle.rehearsal_model.specs.Simulations.{Action, Action.Does, Simulation, as_read, outcome_at, flies, is_broken, kept_all, simulation_after, unless_broken}
use Rattle.rehearsal_model.specs.Seen.{landed, message}
use Rattle.rehearsal_model.specs.Telling.{arrival_said, brought_said}
use Rattle.rehearsal_model.specs.declared.outcome.StepOutcome.{StepOutcome}
use Rattle.rehearsal_model.specs.declared.outcome.StepOutcome.TheVariants as outcome
use Rattle.rehearsal_model.proofs.SimulationLemmas.{stage_chosen}
use Rattle.rehearsal_state.proofs.MoveLemmas.{messages_kept, order_replied, said_so}
use Rattle.rehearsal_lines.specs.Arriving.{arrival_of, arrival_told, arrived_by}
use Rattle.rehearsal_lines.specs.declared.arrive.Arrival.{Arrival}
use Rattle.rehearsal_lines.specs.declared.arrive.Arrival.TheVariants as arrival

module _ (hosts : List ScriptHost) (b : Simulation) (clock : ℕ) where
  told_message : (l : Message) (told : Option Reply) (x : StepOutcome) → outcome_at b (receiver hosts l) clock (brings l told) ≡ x
      → arrival_told hosts b clock (Some (record l { reply = told })) (arrived_by x l told) ≡ brought_said hosts b clock l told
  told_message l None outcome.Crashed e = rw e refl
  told_message l None outcome.Faulted e = rw e refl
  told_message l None (outcome.Answered r) e = rw e refl
  told_message l (Some s) outcome.Crashed e = rw e refl
  told_message l (Some s) outcome.Faulted e = rw e refl
  told_message l (Some s) (outcome.Answered r) e = rw e refl

  told_so : (m : Option Message) → arrival_told hosts b clock m (arrival_of hosts b clock m) ≡ arrival_said hosts b clock m
  told_so None = refl
  told_so (Some l) = told_message l l.reply (outcome_at b (receiver hosts l) clock (brings l l.reply)) refl

  -- what came of it is told
  pub tells : (m : Option Message) (x : Arrival) → x ≡ arrival_of hosts b clock m → arrival_told hosts b clock m x ≡ arrival_said hosts b clock m
  tells m x is = ap (arrival_told hosts b clock m) is ∙ told_so m

  -- ---- an order that was replied to
  module _ (n : ℕ) where
    message_sent : (l : Message) → message (as_read b) n ≡ Some l → l.reply ≡ None → (r : Reply) → outcome_at b (receiver hosts l) clock (brings l l.reply) ≡ outcome.Answered r
        → (simulation_after hosts b (Does (Arrives n clock))).messages ≡ b.messages ++ replies hosts (as_read b) clock (Some l)
    message_sent l sent order r e =
        let said : record l { reply = Some r } ∷ [] ≡ replies hosts (as_read b) clock (Some l) =
        sym (ap (replied hosts (as_read b) clock l) order
        ∙ ap (λ (s : Reply). record l { reply = Some s } ∷ []) (ap (λ (s : Stage). step_reply s.config s.book clock (brings l l.reply)) (stage_chosen kept_all b (receiver hosts l)) ∙ said_so b (receiver hosts l) clock (brings l l.reply) r e)) in
        sym (ap (λ (x : Simulation). x.messages) (order_replied hosts b n clock l sent order r e))
        ∙ (ap (λ ls. ls ++ record l { reply = Some r } ∷ []) (messages_kept (record b { flying = landed n b.flying }) (receiver hosts l) clock (brings l l.reply))
        ∙ ap (λ ls. b.messages ++ ls) said)

    by_outcome : (l : Message) (told : Option Reply) (x : StepOutcome) → message (as_read b) n ≡ Some l → l.reply ≡ told → outcome_at b (receiver hosts l) clock (brings l l.reply) ≡ x → (status : ℕ) → arrived_by x l told ≡ arrival.Replied status
        → (simulation_after hosts b (Does (Arrives n clock))).messages ≡ b.messages ++ replies hosts (as_read b) clock (Some l)
    by_outcome l None outcome.Crashed sent order e status a = absurd cc
    by_outcome l None outcome.Faulted sent order e status a = absurd cc
    by_outcome l None (outcome.Answered r) sent order e status a = message_sent l sent order r e
    by_outcome l (Some s) outcome.Crashed sent order e status a = absurd cc
    by_outcome l (Some s) outcome.Faulted sent order e status a = absurd cc
    by_outcome l (Some s) (outcome.Answered r) sent order e status a = absurd cc

    pub messages_replied : (m : Option Message) → message (as_read b) n ≡ m → (status : ℕ) → arrival_of hosts b clock m ≡ arrival.Replied status
        → (simulation_after hosts b (Does (Arrives n clock))).messages ≡ b.messages ++ replies hosts (as_read b) clock m
    messages_replied None sent status a = absurd cc
    messages_replied (Some l) sent status a = by_outcome l l.reply (outcome_at b (receiver hosts l) clock (brings l l.reply)) sent refl refl status a

    -- the messages then
    module _ (m : Option Message) (sent : message (as_read b) n ≡ m) (status : ℕ) (outcome_is : arrival.Replied status ≡ arrival_of hosts b clock m) (now : Simulation) (now_is : now ≡ simulation_after hosts b (Does (Arrives n clock)))
        (before after : List Message) (before_is : before ≡ b.messages) (after_is : after ≡ now.messages) where
      pub after_replied : after ≡ b.messages ++ replies hosts (as_read b) clock m
      after_replied = after_is ∙ (ap (λ (x : Simulation). x.messages) now_is ∙ messages_replied m sent status (sym outcome_is))

      pub longer : length before ≤ length after
      longer =
          let many : length after ≡ length b.messages + length (replies hosts (as_read b) clock m) = ap length after_replied ∙ length-append b.messages (replies hosts (as_read b) clock m) in
          let few : length before ≡ length b.messages = ap length before_is in
          omega (arith, many, few)

  -- ---- an answer that a fault took the place of
  hears : (n : ℕ) (one other : Action) → flies b n ≡ true → is_broken b n ≡ true → simulation_after hosts b one ≡ simulation_after hosts b (if flies b n then unless_broken b n one other else Does Rests)
  hears n one other flying broken =
      sym (ap (λ (t : Bool). simulation_after hosts b (if t then unless_broken b n one other else Does Rests)) flying
      ∙ ap (λ (t : Bool). simulation_after hosts b (if t then one else other)) broken)

  pub heard_so : (n : ℕ) (one other : Action) → flies b n ≡ true → is_broken b n ≡ true → (now : Simulation) → now ≡ simulation_after hosts b one → now ≡ simulation_after hosts b (if flies b n then unless_broken b n one other else Does Rests)
  heard_so n one other flying broken now is = is ∙ hears n one other flying broken
