-- Every step leaves an orderly book so.
use Rattle.std.specs.Prelude.{nat_le, option_and_then}
use Rattle.std.proofs.Common.{◌+◌, ◌≡◌, Bool, List, None, Option, Some, arith, cond, false, is_some, refl, subst, true, ℕ}
use Rattle.std.proofs.lemmas.List.Elements.{recursion_from_All}
use Rattle.ps_time.specs.Numbers.{horizon, plan_lead, retry_wait}
use Rattle.ps_time.specs.Span.{Range}
use Rattle.ps_time.specs.declared.key.RunKey.{RunKey}
use Rattle.schedule_rule.specs.Rule.{Schedule, next_of, window_of}
use Rattle.run_states.specs.TaskRows.{newest_row}
use Rattle.run_states.specs.declared.answer.Answer.{Answer}
use Rattle.run_states.specs.declared.answer.Answer.TheVariants.{Free, Accepted, Acknowledged, Result}
use Rattle.run_states.specs.declared.row.RunRow.{RunRow}
use Rattle.run_states.specs.declared.why.Closing.{Closing}
use Rattle.run_states.specs.declared.why.Denial.{Denial}
use Rattle.host_model.specs.Apply.{settled}
use Rattle.host_model.specs.Book.{Book, find_task, limits_in, moment_at}
use Rattle.host_model.specs.Fits.{objection}
use Rattle.host_model.specs.Heard.{fact_of}
use Rattle.host_model.specs.NextAttempt.{after_failure, asked_window, attempt_after, attempt_at, attempt_by, fresh_attempt, is_repeatable, next_attempt, repeated}
use Rattle.host_model.specs.Plan.{change_of_plan, own_answer, plan, plan_asked, planned_proposal, unless_objected, wanted_tools}
use Rattle.host_model.specs.Step.{outcome_of, step, step_book}
use Rattle.host_model.specs.Turn.{turn_changes}
use Rattle.host_model.specs.declared.change.Change.{Change}
use Rattle.host_model.specs.declared.config.Config.{Config}
use Rattle.host_model.specs.declared.input.Input.{Input}
use Rattle.host_model.specs.declared.input.Input.TheVariants as input
use Rattle.host_model.specs.declared.lead.Attempt.{Attempt}
use Rattle.host_model.specs.declared.lead.Planned.{Planned}
use Rattle.host_model.specs.declared.lead.Planned.TheVariants.{At, NoSlot, NoTool}
use Rattle.host_model.specs.declared.task_row.TaskRow.{TaskRow}
use Rattle.host_model.proofs.StepAlong.{book_along, cancel_along, collect_along, confirm_along, drop_along, free_along, hear_along, limits_along, material_along, open_along, post_along, propose_along, tried_along, view_along}
use Rattle.host_model.proofs.StepGrown.{task_of_all}
use Rattle.host_model.proofs.WalkLemmas.{AllAlong, turn_along}
use Rattle.host_model.proofs.Wishes.{ask_granted, cancel_granted, end_granted, given_if, merge_granted, plan_granted, purge_granted, restart_granted, start_granted}
use Rattle.api_peer.specs.Orderly.{IsAskedHere, IsOrderly, IsSized, IsWithinDay}
use Rattle.api_peer.proofs.OrderlyChanges.{BringsOrderly, KeepsOrderly, after_orderly}

-- ---- the window of an attempt is a day at most
attempt_day : (m number attempt : ℕ) (o : Option Range) (a : Attempt) → attempt_at m number attempt o ≡ Some a → IsWithinDay a.window
attempt_day m number attempt None a e = cc
attempt_day m number attempt (Some w) a e =
    let g = given_if (nat_le w.first (m + horizon)) (Some (record { number = number; attempt = attempt; window = asked_window m w })) a e in
    let same : record { number = number; attempt = attempt; window = asked_window m w } ≡ a = cc in
    let day : IsWithinDay (asked_window m w) = omega arith in
    subst (λ x. IsWithinDay x.window) same day

fresh_day : (m : ℕ) (rule : Schedule) (from : ℕ) (a : Attempt) → fresh_attempt m rule from ≡ Some a → IsWithinDay a.window
fresh_day m rule from a e = go (next_of rule from (m + plan_lead)) e
  where
    go : (o : Option ℕ) → option_and_then (λ number. attempt_at m number 0 (window_of rule number)) o ≡ Some a → IsWithinDay a.window
    go None e = cc
    go (Some number) e = attempt_day m number 0 (window_of rule number) a e

failure_day : (m : ℕ) (rule : Schedule) (k : RunKey) (c : Closing) (a : Attempt) → after_failure m rule k c ≡ Some a → IsWithinDay a.window
failure_day m rule k c a e = go (is_repeatable m rule k) e
  where
    go : (t : Bool) → cond t (repeated m rule k c) (fresh_attempt m rule (k.number + 1)) ≡ Some a → IsWithinDay a.window
    go true e = attempt_day m k.number (k.attempt + 1) (window_of rule k.number) a (given_if (nat_le (c.moment + retry_wait) m) (attempt_at m k.number (k.attempt + 1) (window_of rule k.number)) a e).1
    go false e = fresh_day m rule (k.number + 1) a e

after_day : (m : ℕ) (rule : Schedule) (k : RunKey) (a : Attempt) (confirmed : Option ℕ) (closed : Option Closing) → attempt_after m rule k confirmed closed ≡ Some a → IsWithinDay a.window
after_day m rule k a (Some s) closed e = fresh_day m rule (k.number + 1) a e
after_day m rule k a None None e = cc
after_day m rule k a None (Some c) e = failure_day m rule k c a e

next_day : (self : ℕ) (t : TaskRow) (rows : List RunRow) (m : ℕ) (a : Attempt) → next_attempt self rows m t ≡ Some a → IsWithinDay a.window
next_day self t rows m a e = go (is_some t.closed) e
  where
    by : (o : Option RunRow) → attempt_by m t.task.rule o ≡ Some a → IsWithinDay a.window
    by None e = fresh_day m t.task.rule 0 a e
    by (Some r) e = after_day m t.task.rule r.key a r.confirmed r.closed e

    go : (b : Bool) → cond b None (attempt_by m t.task.rule (newest_row self t.serial rows)) ≡ Some a → IsWithinDay a.window
    go true e = cc
    go false e = by (newest_row self t.serial rows) e

-- ---- changes that bring neither a task nor a question
heard_orderly : (name : List ℕ) (k : RunKey) (place : ℕ) (told : Answer) → BringsOrderly name (fact_of k place told)
heard_orderly name k place (Free answer) = tt
heard_orderly name k place Accepted = tt
heard_orderly name k place (Acknowledged what) = tt
heard_orderly name k place (Result result) = tt

planned_orderly : (c : Config) (b : Book) (m : ℕ) (r : RunRow) (o : Option Range) → BringsOrderly c.name (plan_asked c b m r o)
planned_orderly c b m r None = tt
planned_orderly c b m r (Some w) = made (plan m (wanted_tools (find_task b.tasks r.key.task)) r (own_answer c b m r w))
  where
    unless : (start : ℕ) (tool : List ℕ) (o : Option Denial) → BringsOrderly c.name (unless_objected c b (planned_proposal r start tool) o)
    unless start tool None = tt
    unless start tool (Some d) = tt

    made : (v : Planned) → BringsOrderly c.name (change_of_plan c b m r v)
    made (At start tool) = unless start tool (objection c.installed (limits_in c b) b.rows m (planned_proposal r start tool))
    made NoTool = tt
    made NoSlot = tt

-- ---- every step
module _ (c : Config) (m : ℕ) (b : Book) where
  abbrev Along : List Change → Type 0
  Along cs = AllAlong (KeepsOrderly c.name) m b cs

  turn_orderly : Along (turn_changes c b m)
  turn_orderly = turn_along (KeepsOrderly c.name) m c
      (λ a r d at e own. let g = end_granted c m a r d e in subst (BringsOrderly c.name) g.is tt)
      (λ a r d at e own. let g = merge_granted c m a r d e in subst (BringsOrderly c.name) g.is tt)
      (λ a r d at e own. let g = start_granted m a r d e in subst (BringsOrderly c.name) g.is tt)
      (λ a r d at e own. let g = plan_granted c m a r d e in subst (BringsOrderly c.name) g.1 (planned_orderly c a m r r.question))
      (λ a t d at e own.
      let g = ask_granted c m a t d e in
      let asker : IsAskedHere c.name t.asker = task_of_all (λ u. IsAskedHere c.name u.asker) t.serial t a.tasks (recursion_from_All (λ u. IsAskedHere c.name u.asker) a.tasks own.tasks) at in
      subst (BringsOrderly c.name) g.is (asker, next_day c.number t a.rows m g.attempt g.next))
      (λ a r d at e own. let g = purge_granted c m a r d e in subst (BringsOrderly c.name) g.1 tt)
      b

  input_orderly : (i : Input) → IsSized i → Along (outcome_of c m b i).list
  input_orderly (input.Book class priority start len) sized = book_along (KeepsOrderly c.name) m c b class priority start len (λ p is fits. ((λ own. tt), ((λ own. tt), tt)))
  input_orderly (input.Post task requester) sized = post_along (KeepsOrderly c.name) m c b task requester (λ room own. record { server = refl; short = sized })
  input_orderly (input.Cancel serial requester) sized = cancel_along (KeepsOrderly c.name) m c b serial requester (λ t found fresh own. tt)
      (λ number a r d at e own. let g = cancel_granted c.number number a r d e in subst (BringsOrderly c.name) g.2 tt)
  input_orderly (input.View page) sized = view_along (KeepsOrderly c.name) m c b page
  input_orderly (input.Free sender question) sized = free_along (KeepsOrderly c.name) m c b sender question
  input_orderly (input.Propose sender proposal) sized = propose_along (KeepsOrderly c.name) m c b sender proposal (λ lead at new own. tt)
  input_orderly (input.Confirm sender key) sized = confirm_along (KeepsOrderly c.name) m c b sender key (λ lead r at found fresh own. tt)
  input_orderly (input.Drop sender key) sized = drop_along (KeepsOrderly c.name) m c b sender key (λ r found booked fresh own. tt)
  input_orderly (input.Collect sender key) sized = collect_along (KeepsOrderly c.name) m c b sender key
  input_orderly (input.Material sender key text) sized = material_along (KeepsOrderly c.name) m c b sender key (λ r found active own. tt)
  input_orderly (input.Heard order said) sized = hear_along (KeepsOrderly c.name) m c b order said (λ r o told found asked at is own. heard_orderly c.name r.key order.place told) (λ r o why found asked at is own. tt)
  input_orderly (input.Tried key index good retry) sized = tried_along (KeepsOrderly c.name) m c b key index good retry (λ r s a found state archive due own. tt)
  input_orderly input.Turn sized = turn_orderly
  input_orderly input.Open sized = open_along (KeepsOrderly c.name) m c b (λ first own. tt) (λ a r d at e own. let g = restart_granted c a r d e in subst (BringsOrderly c.name) g.1 tt)
  input_orderly (input.Limits limits) sized = limits_along (KeepsOrderly c.name) m c b limits (λ short room own. tt)

pub step_orderly : (c : Config) (b : Book) (clock : ℕ) (i : Input) → IsSized i → IsOrderly c.name b → IsOrderly c.name (step_book c b clock i)
step_orderly c b clock i sized own =
    let m : ℕ = moment_at b clock in
    after_orderly c.name b m (step c b clock i).list own (input_orderly c m (settled m b) i sized)
