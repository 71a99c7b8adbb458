-- What the changes of a turn and of an opening bring is lawful.
use Rattle.std.specs.Prelude.{IfSome, nat_le, unwrap_or}
use Rattle.std.proofs.Common.{◌+◌, ◌∷◌, ◌≡◌, ◌≤◌, [], All, arith, Bool, cond, false, List, map, None, Option, refl, Some, subst, true, ℕ}
use Rattle.std.proofs.lemmas.Bool.Decides.{nat_tests}
use Rattle.std.proofs.lemmas.List.Elements.{All-cons, All-head, All-nil, All-tail, recursion_from_All}
use Rattle.ps_time.specs.Numbers.{greatest_moment}
use Rattle.ps_time.specs.Span.{Range}
use Rattle.ps_time.specs.declared.asker.Verdict.{Verdict}
use Rattle.ps_time.specs.declared.asker.Verdict.TheVariants.{AboveCeiling, Exhausted, Permitted, Stopped}
use Rattle.plugin_core.specs.Bounds.{IsTest}
use Rattle.plugin_tool.specs.ResultText.{TicksFit}
use Rattle.plugin_tool.specs.Run.{outcome_at}
use Rattle.plugin_tool.specs.declared.run.Outcome.{Outcome as ToolOutcome}
use Rattle.plugin_tool.specs.declared.run.Outcome.TheVariants.{Good, NotTaken, Restarted, TimedOut}
use Rattle.plugin_tool.specs.declared.run.ToolView.{ToolView}
use Rattle.plugin_core.specs.declared.test_spec.TestSpec.{TestSpec}
use Rattle.plugin_core.specs.declared.test_spec.TestSpec.TheVariants.{Idle, Idlebgm, Idleex, Idlemany, Simplestream}
use Rattle.archive_retry.specs.Merge.{IsTreeText}
use Rattle.run_states.specs.LawfulRow.{IsDenial, IsOther, IsResult, IsWindow}
use Rattle.run_states.specs.Life.{first_there}
use Rattle.run_states.specs.ResultBytes.{other_result, own_result}
use Rattle.run_states.specs.Rows.{find_row}
use Rattle.run_states.specs.declared.answer.FreeAnswer.{FreeAnswer}
use Rattle.run_states.specs.declared.answer.Other.{Other}
use Rattle.run_states.specs.declared.proposal.Proposal.{Proposal}
use Rattle.run_states.specs.declared.row.RunRow.{RunRow}
use Rattle.run_states.specs.declared.why.Denial.{Denial}
use Rattle.run_states.specs.declared.why.Denial.TheVariants.{NoTool as no_such_tool, Past}
use Rattle.host_model.specs.Book.{Book, find_task, limits_in}
use Rattle.host_model.specs.Conditions.{IsConfig}
use Rattle.host_model.specs.Ending.{end_run, restart_run, tool_view}
use Rattle.host_model.specs.Epochs.{open_host}
use Rattle.host_model.specs.Fits.{conflict_denial, has_tool, limits_denial, objection, unless, verdict_of}
use Rattle.host_model.specs.Lawful.{IsLawfulTask, Lawful}
use Rattle.host_model.specs.LawfulRow.{IsHostRow}
use Rattle.host_model.specs.Merging.{merge_run, merged_text, results_of}
use Rattle.host_model.specs.Plan.{change_of_plan, own_answer, plan, plan_asked, planned_proposal, unless_objected, wanted_tools}
use Rattle.host_model.specs.Turn.{turn_changes}
use Rattle.host_model.specs.declared.change.Change.{Change}
use Rattle.host_model.specs.declared.config.Config.{Config}
use Rattle.host_model.specs.declared.lead.Planned.{Planned}
use Rattle.host_model.specs.declared.lead.Planned.TheVariants.{At, NoSlot, NoTool}
use Rattle.host_model.proofs.AskedRuns.{asking_brings}
use Rattle.host_model.proofs.Brings.{Brings, BringsLawful}
use Rattle.host_model.proofs.PlanLemmas.{planned_inside}
use Rattle.host_model.proofs.PlannedRuns.{planning_brings}
use Rattle.host_model.proofs.ResultTexts.{IsOfText, merged_kept, result_kept}
use Rattle.host_model.proofs.RowFacts.{lawful_at, with_row}
use Rattle.host_model.proofs.StepAlong.{open_along}
use Rattle.host_model.proofs.StepGrown.{task_of_all}
use Rattle.host_model.proofs.TurnCan.{answered_open, IsOpen}
use Rattle.host_model.proofs.WalkLemmas.{AllAlong, turn_along}
use Rattle.host_model.proofs.Wishes.{end_granted, merge_granted, plan_granted, purge_granted, restart_granted, start_granted}

-- ---- what the lead itself objects is within bounds
first_denial : (o p : Option Denial) → IfSome o IsDenial → IfSome p IsDenial → IfSome (first_there o p) IsDenial
first_denial None p one other = other
first_denial (Some d) p one other = one

unless_denial : (t : Bool) (denial : Denial) → IsDenial denial → IfSome (unless t denial) IsDenial
unless_denial true denial is = tt
unless_denial false denial is = is

limits_within : (v : Verdict) → IfSome (limits_denial v) IsDenial
limits_within (Permitted index) = tt
limits_within (Stopped index) = tt
limits_within Exhausted = tt
limits_within (AboveCeiling ceiling) = tt

conflict_within : (o : Option RunRow) → IfSome (conflict_denial o) IsDenial
conflict_within None = tt
conflict_within (Some r) = tt

module _ (c : Config) (b : Book) (m : ℕ) where
  pub objection_within : (p : Proposal) → m ≤ greatest_moment → p.start ≤ greatest_moment → IfSome (objection c.installed (limits_in c b) b.rows m p) IsDenial
  objection_within p now start =
      first_denial (unless (has_tool c.installed p) (no_such_tool p.tool)) _ (unless_denial (has_tool c.installed p) (no_such_tool p.tool) tt)
      (first_denial (unless (nat_le m p.start) (Past m p.start)) _ (unless_denial (nat_le m p.start) (Past m p.start) (now, start))
      (first_denial (limits_denial (verdict_of (limits_in c b) p)) _ (limits_within (verdict_of (limits_in c b) p))
      (conflict_within _)))

  -- ---- a plan
  module _ (r : RunRow) (at : find_row b.rows r.key ≡ Some r) (now : m ≤ greatest_moment) (row : IsHostRow c.number b.tasks b.moment r) (fresh : IsOpen r) where
    at_start_brings : (start : ℕ) (tool : List ℕ) → start ≤ greatest_moment → (o : Option Denial) → objection c.installed (limits_in c b) b.rows m (planned_proposal r start tool) ≡ o → IfSome o IsDenial → Brings c.number m b (unless_objected c b (planned_proposal r start tool) o)
    at_start_brings start tool low None is denial = planning_brings c m b r start tool at row.row.reserves fresh.accepted low is
    at_start_brings start tool low (Some d) is denial = denial

    plan_brings : (own : FreeAnswer) (wanted : List (List ℕ)) (v : Planned) → plan m wanted r own ≡ v → Brings c.number m b (change_of_plan c b m r v)
    plan_brings own wanted (At start tool) is =
        let inside = planned_inside wanted r own m start tool is in
        let window : IsWindow inside.0 = subst (λ o. IfSome o IsWindow) inside.1 row.row.question in
        let low : start ≤ greatest_moment = omega (arith, inside.2.1, window.last) in
        at_start_brings start tool low (objection c.installed (limits_in c b) b.rows m (planned_proposal r start tool)) refl (objection_within (planned_proposal r start tool) now low)
    plan_brings own wanted NoTool is = tt
    plan_brings own wanted NoSlot is = tt

    pub asked_brings : (o : Option Range) → Brings c.number m b (plan_asked c b m r o)
    asked_brings None = tt
    asked_brings (Some w) = plan_brings (own_answer c b m r w) (wanted_tools (find_task b.tasks r.key.task)) _ refl

-- ---- an ending and a merging
-- a good outcome has its ticks within the greatest moment
pub ticks_by : (test : TestSpec) (view : ToolView) (outcome : ToolOutcome) (m : ℕ) → m ≤ greatest_moment → outcome_at test view m ≡ Some outcome → TicksFit test view outcome
ticks_by (Idle sleep) view outcome m now e = tt
ticks_by (Idleex sleep) view outcome m now e = tt
ticks_by (Idlemany sleep hosts) view outcome m now e = tt
ticks_by (Simplestream dest material dawdle timeout) view outcome m now e = tt
ticks_by (Idlebgm sleep i) view TimedOut m now e = tt
ticks_by (Idlebgm sleep i) view NotTaken m now e = tt
ticks_by (Idlebgm sleep i) view Restarted m now e = tt
ticks_by (Idlebgm sleep i) view Good m now e = go (nat_le (view.started + sleep.duration) m) refl e
  where
    go : (t : Bool) → nat_le (view.started + sleep.duration) m ≡ t → cond t (Some Good) None ≡ Some Good → view.started + sleep.duration ≤ greatest_moment
    go true over e = let past : view.started + sleep.duration ≤ m = grind (arith, nat_tests, over) in omega (arith, past, now)
    go false over e = cc

pub no_ticks : (test : TestSpec) (view : ToolView) → TicksFit test view Restarted
no_ticks (Idle sleep) view = tt
no_ticks (Idleex sleep) view = tt
no_ticks (Idlebgm sleep i) view = tt
no_ticks (Idlemany sleep hosts) view = tt
no_ticks (Simplestream dest material dawdle timeout) view = tt

-- the material of a test is UTF-8
pub of_text : (test : TestSpec) → IsTest test → IsOfText test
of_text (Idle sleep) is = tt
of_text (Idleex sleep) is = tt
of_text (Idlebgm sleep i) is = tt
of_text (Idlemany sleep hosts) is = tt
of_text (Simplestream dest material dawdle timeout) is = is.utf8

heard_results : (os : List Other) → All IsOther os → All IsResult (map other_result os)
heard_results [] all = All-nil IsResult
heard_results (o ∷ os) all = All-cons IsResult (other_result o) (map other_result os) (All-head IsOther o os all).heard (heard_results os (All-tail IsOther o os all))

module _ (c : Config) (m : ℕ) (b : Book) (lawful : Lawful c.number b) (r : RunRow) (at : find_row b.rows r.key ≡ Some r) where
  row : IsHostRow c.number b.tasks b.moment r
  row = lawful_at c.number b lawful r.key r at

  pub end_brings : (d : Change) → m ≤ greatest_moment → end_run c m b r ≡ Some d → Brings c.number m b d
  end_brings d now e =
      let g = end_granted c m b r d e in
      let view : ToolView = tool_view c r g.started in
      subst (Brings c.number m b) g.is (result_kept r.test view g.outcome row.row.test (of_text r.test row.row.test) (ticks_by r.test view g.outcome m now g.done))

  pub restart_brings : (d : Change) → restart_run c b r ≡ Some d → Brings c.number m b d
  restart_brings d e =
      let g = restart_granted c b r d e in
      let view : ToolView = tool_view c r (unwrap_or r.started 0) in
      subst (Brings c.number m b) g.1 (result_kept r.test view Restarted row.row.test (of_text r.test row.row.test) (no_ticks r.test view))

  pub merge_brings : (d : Change) → merge_run c m b r ≡ Some d → Brings c.number m b d
  merge_brings d e =
      let g = merge_granted c m b r d e in
      let lead : r.key.lead ≡ c.number = grind (arith, nat_tests, g.lead) in
      let results : All IsResult (results_of r) = All-cons IsResult (own_result r) (map other_result r.others) row.row.result (heard_results r.others row.row.others) in
      let text : IsTreeText (merged_text r) = merged_kept r.participants (results_of r) row.row.participants.named results in
      subst (Brings c.number m b) g.is (text, lead, with_row b r.key _ r at g.ended)

-- ---- a turn, and an opening
module _ (c : Config) (m : ℕ) (config : IsConfig c) where
  pub turn_brings : (b : Book) → AllAlong (BringsLawful c.number m) m b (turn_changes c b m)
  turn_brings b = turn_along (BringsLawful c.number m) m c
      (λ a r d at e now lawful. end_brings c m a lawful r at d (subst (λ n. n ≤ greatest_moment) now lawful.moment) e)
      (λ a r d at e now lawful. merge_brings c m a lawful r at d e)
      (λ a r d at e now lawful. let g = start_granted m a r d e in subst (Brings c.number m a) g.is tt)
      (λ a r d at e now lawful.
      let g = plan_granted c m a r d e in
      subst (Brings c.number m a) g.1 (asked_brings c a m r at (subst (λ n. n ≤ greatest_moment) now lawful.moment) (lawful_at c.number a lawful r.key r at) (answered_open c.number a r lawful at g.0) r.question))
      (λ a t d at e now lawful. asking_brings c m a t d config.name at (task_of_all (IsLawfulTask a.moment) t.serial t a.tasks (recursion_from_All (IsLawfulTask a.moment) a.tasks lawful.tasks) at).task.test e)
      (λ a r d at e now lawful. let g = purge_granted c m a r d e in subst (Brings c.number m a) g.1 tt)
      b

  pub open_brings : (b : Book) → AllAlong (BringsLawful c.number m) m b (open_host c b m).list
  open_brings b = open_along (BringsLawful c.number m) m c b (λ first now lawful. config.limits) (λ a r d at e now lawful. restart_brings c m a lawful r at d e)
