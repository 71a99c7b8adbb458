-- A message that arrives.
use Rattle.std.proofs.Common.{◌≡◌, ◌≤◌, ◌<◌, ◌∙◌, ◌∷◌, [], ℕ, List, None, Option, Some, ap, length, length-set, refl, subst, sym}
use Rattle.ps_time.specs.Numbers.{greatest_moment}
use Rattle.host_model.specs.Conditions.{IsInput}
use Rattle.host_model.specs.Step.{step_reply}
use Rattle.host_model.specs.declared.input.Input.{Input}
use Rattle.host_model.specs.declared.reply.Reply.{Reply}
use Rattle.rehearsal_script.specs.declared.script.ScriptHost.{ScriptHost}
use Rattle.rehearsal_script.specs.declared.script.Stop.{Stop}
use Rattle.world_law.specs.Events.{brings}
use Rattle.world_law.specs.World.{Message, Stage}
use Rattle.api_peer.specs.Replied.{IsReplyTo}
use Rattle.api_peer.specs.Widths.{HasWidths}
use Rattle.rehearsal_model.specs.Moves.{Move.Arrives, receiver, reply_to}
use Rattle.rehearsal_model.specs.Reaching.{IsKnown}
use Rattle.rehearsal_model.specs.Simulations.{Action.Does, Simulation, as_read, outcome_at, config_of, kept_all, simulation_after, held_at, stop_for}
use Rattle.rehearsal_model.specs.Simulated.{fault_in}
use Rattle.rehearsal_model.specs.Seen.{landed, message}
use Rattle.rehearsal_model.specs.declared.outcome.StepOutcome.{StepOutcome}
use Rattle.rehearsal_model.specs.declared.outcome.StepOutcome.TheVariants as outcome
use Rattle.rehearsal_model.proofs.SimulationLemmas.{stage_chosen}
use Rattle.rehearsal_state.specs.Moved.{with_broken, with_either, with_messages, with_step}
use Rattle.rehearsal_state.specs.Ready.{IsReady}
use Rattle.rehearsal_state.proofs.MoveLemmas.{arrival_crashed, order_faulted, order_replied, reply_faulted, reply_heard, said_so}
use Rattle.rehearsal_lines.specs.Playing.{IsPlaying}

-- there is one message of a number, and it was sent
pub same_message : (b : Simulation) (n : ℕ) (l other : Message) → message (as_read b) n ≡ Some l → message (as_read b) n ≡ Some other → l ≡ other
same_message b n l other is also = let both : Some l ≡ Some other = sym is ∙ also in cc

-- ---- what is known where it comes
module _ (hosts : List ScriptHost) (b : Simulation) (n : ℕ) (l : Message) (playing : IsPlaying hosts b) (sent : message (as_read b) n ≡ Some l) where
  abbrev first : Simulation
  first = record b { flying = landed n b.flying }

  there : receiver hosts l < length b.held_hosts
  there = subst (λ k. receiver hosts l < k) (sym playing.places) (playing.receivers n l sent)

  module _ (place : ℕ) (place_is : place ≡ receiver hosts l) where
    pub within : place < length b.held_hosts
    within = subst (λ (p : ℕ). p < length b.held_hosts) (sym place_is) there

    pub known_there : (other : Message) → message (as_read b) n ≡ Some other → other.reply ≡ None → IsKnown (config_of b place) other
    known_there other also none =
        let same : l ≡ other = same_message b n l other sent also in
        subst (λ (p : ℕ). IsKnown (config_of b p) other) (sym (place_is ∙ ap (receiver hosts) same)) (playing.known n other also none)

    -- its host may take a step, once it has landed
    pub ready_there : (now : Simulation) → now ≡ first → (clock : ℕ) → clock ≤ greatest_moment → IsReady now place clock
    ready_there now now_is clock low =
        subst (λ (x : Simulation). IsReady x place clock) (sym now_is) (record { there = within; config = (playing.hosts_are place within).0; book = (playing.hosts_are place within).1; in_time = low })

    pub asks_there : (now : Simulation) → now ≡ first → (i : Input) → i ≡ brings l l.reply → IsInput (config_of now place) i
    asks_there now now_is i is =
        subst (λ (x : Simulation). IsInput (config_of x place) i) (sym now_is)
        (subst (λ (j : Input). IsInput (config_of b place) j) (sym is) (subst (λ (p : ℕ). IsInput (config_of b p) (brings l l.reply)) (sym place_is) (playing.asks n l sent)))

    -- what comes of its step
    module _ (now : Simulation) (now_is : now ≡ first) (clock : ℕ) (i : Input) (i_is : i ≡ brings l l.reply) (other : Message) (also : message (as_read b) n ≡ Some other) where
      pub outcome_so : outcome_at now place clock i ≡ outcome_at b (receiver hosts other) clock (brings other other.reply)
      outcome_so =
          ap (λ (x : Simulation). outcome_at x place clock i) now_is
          ∙ (ap (λ (p : ℕ). outcome_at b p clock i) place_is
          ∙ (ap (λ (j : Input). outcome_at b (receiver hosts l) clock j) i_is
          ∙ ap (λ (m : Message). outcome_at b (receiver hosts m) clock (brings m m.reply)) (same_message b n l other sent also)))

      pub step_so : with_step now place clock i ≡ with_step first (receiver hosts other) clock (brings other other.reply)
      step_so =
          ap (λ (x : Simulation). with_step x place clock i) now_is
          ∙ (ap (λ (p : ℕ). with_step first p clock i) place_is
          ∙ (ap (λ (j : Input). with_step first (receiver hosts l) clock j) i_is
          ∙ ap (λ (m : Message). with_step first (receiver hosts m) clock (brings m m.reply)) (same_message b n l other sent also)))

    -- a step of a host leaves as many hosts, and the messages
    pub within_now : (now : Simulation) (clock : ℕ) (i : Input) → now ≡ with_step first (receiver hosts l) clock i → place < length now.held_hosts
    within_now now clock i now_is = subst (λ k. place < k) (sym (ap (λ (x : Simulation). length x.held_hosts) now_is ∙ many (stop_for b (receiver hosts l) clock i))) within
      where
        many : (o : Option Stop) → length (with_either first (receiver hosts l) clock i (fault_in (held_at b (receiver hosts l)) clock i) o).held_hosts ≡ length b.held_hosts
        many None = length-set b.held_hosts (receiver hosts l) _
        many (Some stop) = length-set b.held_hosts (receiver hosts l) _

  pub messages_now : (now : Simulation) (clock : ℕ) (i : Input) → now ≡ with_step first (receiver hosts l) clock i → now.messages ≡ b.messages
  messages_now now clock i now_is = ap (λ (x : Simulation). x.messages) now_is ∙ by (stop_for b (receiver hosts l) clock i)
    where
      by : (o : Option Stop) → (with_either first (receiver hosts l) clock i (fault_in (held_at b (receiver hosts l)) clock i) o).messages ≡ b.messages
      by None = refl
      by (Some stop) = refl

  -- what was replied is a reply to the order
  pub replies_so : (clock : ℕ) → l.reply ≡ None → clock ≤ greatest_moment → (said : Reply) → outcome_at b (receiver hosts l) clock (brings l l.reply) ≡ outcome.Answered said → HasWidths said → IsReplyTo l.order.body said
  replies_so clock none low said e widths =
      let is : reply_to hosts (as_read b) clock l ≡ said =
      ap (λ (s : Stage). step_reply s.config s.book clock (brings l l.reply)) (stage_chosen kept_all b (receiver hosts l)) ∙ said_so b (receiver hosts l) clock (brings l l.reply) said e in
      subst (IsReplyTo l.order.body) is (playing.replies n l clock sent none low (subst HasWidths (sym is) widths))

-- ---- what its line does, once its host took a step
module _ (hosts : List ScriptHost) (b : Simulation) (n clock : ℕ) (l : Message) (sent : message (as_read b) n ≡ Some l) where
  abbrev step_outcome : StepOutcome
  step_outcome = outcome_at b (receiver hosts l) clock (brings l l.reply)

  abbrev after_step : Simulation
  after_step = with_step (record b { flying = landed n b.flying }) (receiver hosts l) clock (brings l l.reply)

  abbrev after_line : Simulation
  after_line = simulation_after hosts b (Does (Arrives n clock))

  module _ (now : Simulation) (now_is : now ≡ after_step) where
    pub left_crashed : step_outcome ≡ outcome.Crashed → now ≡ after_line
    left_crashed e = now_is ∙ arrival_crashed hosts b n clock l sent e

    module _ (order : l.reply ≡ None) where
      -- nobody is answered
      pub left_unanswered : step_outcome ≡ outcome.Faulted → (next : Simulation) → next ≡ with_broken now → next ≡ after_line
      left_unanswered e next next_is =
          let then_is : next ≡ with_broken after_step = next_is ∙ ap with_broken now_is in
          then_is ∙ order_faulted hosts b n clock l sent order e

      -- the reply is sent
      pub left_replied : (r : Reply) → step_outcome ≡ outcome.Answered r → (next : Simulation) → next ≡ with_messages now (record l { reply = Some r } ∷ []) → next ≡ after_line
      left_replied r e next next_is =
          let then_is : next ≡ with_messages after_step (record l { reply = Some r } ∷ []) = next_is ∙ ap (λ (x : Simulation). with_messages x (record l { reply = Some r } ∷ [])) now_is in
          then_is ∙ order_replied hosts b n clock l sent order r e

    module _ (told : Reply) (reply : l.reply ≡ Some told) where
      pub left_faulted : step_outcome ≡ outcome.Faulted → now ≡ after_line
      left_faulted e = now_is ∙ reply_faulted hosts b n clock l sent told reply e

      pub left_heard : (r : Reply) → step_outcome ≡ outcome.Answered r → now ≡ after_line
      left_heard r e = now_is ∙ reply_heard hosts b n clock l sent told reply r e
