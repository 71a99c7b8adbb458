-- Every step leaves a book whose results are compact texts so.
use Rattle.std.proofs.Common.{◌≤◌, List, None, Option, Some, arith, subst, unwrap_or, ℕ}
use Rattle.ps_time.specs.Numbers.{greatest_moment}
use Rattle.ps_time.specs.Span.{Range}
use Rattle.ps_time.specs.declared.key.RunKey.{RunKey}
use Rattle.plugin_core.specs.Bounds.{IsTest}
use Rattle.plugin_tool.specs.declared.run.Outcome.TheVariants.{Restarted}
use Rattle.plugin_tool.specs.declared.run.ToolView.{ToolView}
use Rattle.run_states.specs.declared.answer.Answer.{Answer}
use Rattle.run_states.specs.declared.answer.Answer.TheVariants.{Free, Accepted, Acknowledged, Result}
use Rattle.run_states.specs.declared.row.RunRow.{RunRow}
use Rattle.run_states.specs.declared.why.Denial.{Denial}
use Rattle.host_model.specs.Apply.{settled}
use Rattle.host_model.specs.Book.{Book, find_task, limits_in, moment_at}
use Rattle.host_model.specs.Conditions.{MayStep}
use Rattle.host_model.specs.Ending.{tool_view}
use Rattle.host_model.specs.Fits.{objection}
use Rattle.host_model.specs.Heard.{fact_of}
use Rattle.host_model.specs.Plan.{change_of_plan, own_answer, plan, plan_asked, planned_proposal, unless_objected, wanted_tools}
use Rattle.host_model.specs.Step.{outcome_of, step, step_book}
use Rattle.host_model.specs.Turn.{turn_changes}
use Rattle.host_model.specs.declared.change.Change.{Change}
use Rattle.host_model.specs.declared.config.Config.{Config}
use Rattle.host_model.specs.declared.input.Input.{Input}
use Rattle.host_model.specs.declared.input.Input.TheVariants as input
use Rattle.host_model.specs.declared.lead.Planned.{Planned}
use Rattle.host_model.specs.declared.lead.Planned.TheVariants.{At, NoSlot, NoTool}
use Rattle.host_model.proofs.Brings.{suits_along}
use Rattle.host_model.proofs.RowFacts.{lawful_at}
use Rattle.host_model.proofs.SettledBook.{book_settled}
use Rattle.host_model.proofs.StepAlong.{book_along, cancel_along, collect_along, confirm_along, drop_along, free_along, hear_along, limits_along, material_along, open_along, post_along, propose_along, tried_along, view_along}
use Rattle.host_model.proofs.StepCanApply.{step_can}
use Rattle.host_model.proofs.StepFollows.{input_brings}
use Rattle.host_model.proofs.TurnBrings.{no_ticks, of_text, ticks_by}
use Rattle.host_model.proofs.WalkLemmas.{AllAlong, turn_along}
use Rattle.host_model.proofs.Wishes.{ask_granted, cancel_granted, end_granted, merge_granted, plan_granted, purge_granted, restart_granted, start_granted}
use Rattle.api_peer.specs.Told.{AreTold}
use Rattle.api_peer.proofs.ToldTexts.{tool_told}
use Rattle.api_peer.proofs.ToldChanges.{BringsTold, KeepsTold, after_told}

-- ---- changes that bring no result
heard_told : (k : RunKey) (place : ℕ) (told : Answer) → BringsTold (fact_of k place told)
heard_told k place (Free answer) = tt
heard_told k place Accepted = tt
heard_told k place (Acknowledged what) = tt
heard_told k place (Result result) = tt

planned_told : (c : Config) (b : Book) (m : ℕ) (r : RunRow) (o : Option Range) → BringsTold (plan_asked c b m r o)
planned_told c b m r None = tt
planned_told c b m r (Some w) = made (plan m (wanted_tools (find_task b.tasks r.key.task)) r (own_answer c b m r w))
  where
    unless : (start : ℕ) (tool : List ℕ) (o : Option Denial) → BringsTold (unless_objected c b (planned_proposal r start tool) o)
    unless start tool None = tt
    unless start tool (Some d) = tt

    made : (v : Planned) → BringsTold (change_of_plan c b m r v)
    made (At start tool) = unless start tool (objection c.installed (limits_in c b) b.rows m (planned_proposal r start tool))
    made NoTool = tt
    made NoSlot = tt

-- ---- every step
module _ (c : Config) (m : ℕ) (within : m ≤ greatest_moment) (b : Book) where
  abbrev Keeps : Book → Change → Type 0
  Keeps = KeepsTold c.number m

  abbrev Along : List Change → Type 0
  Along cs = AllAlong Keeps m b cs

  turn_told : Along (turn_changes c b m)
  turn_told = turn_along Keeps m c
      (λ a r d at e now lawful.
      let g = end_granted c m a r d e in
      let test : IsTest r.test = (lawful_at c.number a lawful r.key r at).row.test in
      subst BringsTold g.is (tool_told r.test (tool_view c r g.started) g.outcome test (of_text r.test test) (ticks_by r.test (tool_view c r g.started) g.outcome m within g.done)))
      (λ a r d at e now lawful. let g = merge_granted c m a r d e in subst BringsTold g.is tt)
      (λ a r d at e now lawful. let g = start_granted m a r d e in subst BringsTold g.is tt)
      (λ a r d at e now lawful. let g = plan_granted c m a r d e in subst BringsTold g.1 (planned_told c a m r r.question))
      (λ a t d at e now lawful. let g = ask_granted c m a t d e in subst BringsTold g.is tt)
      (λ a r d at e now lawful. let g = purge_granted c m a r d e in subst BringsTold g.1 tt)
      b

  input_told : (i : Input) → Along (outcome_of c m b i).list
  input_told (input.Book class priority start len) = book_along Keeps m c b class priority start len (λ p is fits. ((λ now lawful. tt), ((λ now lawful. tt), tt)))
  input_told (input.Post task requester) = post_along Keeps m c b task requester (λ room now lawful. tt)
  input_told (input.Cancel serial requester) = cancel_along Keeps m c b serial requester (λ t found fresh now lawful. tt)
      (λ number a r d at e now lawful. let g = cancel_granted c.number number a r d e in subst BringsTold g.2 tt)
  input_told (input.View page) = view_along Keeps m c b page
  input_told (input.Free sender question) = free_along Keeps m c b sender question
  input_told (input.Propose sender proposal) = propose_along Keeps m c b sender proposal (λ lead at new now lawful. tt)
  input_told (input.Confirm sender key) = confirm_along Keeps m c b sender key (λ lead r at found fresh now lawful. tt)
  input_told (input.Drop sender key) = drop_along Keeps m c b sender key (λ r found booked fresh now lawful. tt)
  input_told (input.Collect sender key) = collect_along Keeps m c b sender key
  input_told (input.Material sender key text) = material_along Keeps m c b sender key (λ r found active now lawful. tt)
  input_told (input.Heard order said) = hear_along Keeps m c b order said (λ r o told found asked at is now lawful. heard_told r.key order.place told) (λ r o why found asked at is now lawful. tt)
  input_told (input.Tried key index good retry) = tried_along Keeps m c b key index good retry (λ r s a found state archive due now lawful. tt)
  input_told input.Turn = turn_told
  input_told input.Open = open_along Keeps m c b (λ first now lawful. tt)
      (λ a r d at e now lawful.
      let g = restart_granted c a r d e in
      let view : ToolView = tool_view c r (unwrap_or r.started 0) in
      let test : IsTest r.test = (lawful_at c.number a lawful r.key r at).row.test in
      subst BringsTold g.1 (tool_told r.test view Restarted test (of_text r.test test) (no_ticks r.test view)))
  input_told (input.Limits limits) = limits_along Keeps m c b limits (λ short room now lawful. tt)

pub step_told : (c : Config) (b : Book) (clock : ℕ) (i : Input) → MayStep c b clock i → AreTold b → AreTold (step_book c b clock i)
step_told c b clock i may told =
    let m : ℕ = moment_at b clock in
    let within : m ≤ greatest_moment = omega (arith, may.book.moment, may.moment) in
    let s : Book = settled m b in
    after_told c.number b m (step c b clock i).list (book_settled c.number b m (omega arith) within may.book)
    (suits_along c.number m (step c b clock i).list s (step_can c b clock i may) (input_brings c m s i may.config may.bounds))
    (input_told c m within s i) told
