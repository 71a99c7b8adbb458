-- What a turn wishes for can be made, and leaves a book of the host.
use Rattle.std.specs.Cmp.Derive.{both_true}
use Rattle.std.proofs.Common.{◌≡◌, ℕ, true, not, List, Option, Some, None, is_some, refl, ap, subst, ◌∙◌}
use Rattle.ps_time.specs.Name.{is_name}
use Rattle.ps_time.specs.Span.{Range}
use Rattle.limit_apply.specs.Limits.{LimitsConfig as Limits}
use Rattle.run_states.specs.Rows.{find_row}
use Rattle.run_states.specs.declared.row.RunRow.{RunRow}
use Rattle.run_states.specs.declared.why.Cause.TheVariants.{Denied, NoSlot as no_slot, NoTool as no_tool}
use Rattle.run_states.specs.declared.why.Denial.{Denial}
use Rattle.run_states.specs.declared.why.Why.{Why}
use Rattle.run_states.specs.declared.why.Why.TheVariants.{Nonstart}
use Rattle.host_model.specs.Apply.{apply, epochs_after, tasks_after}
use Rattle.host_model.specs.Book.{Book, find_task, last_limits, limits_in}
use Rattle.host_model.specs.Ending.{end_run}
use Rattle.host_model.specs.Fits.{objection}
use Rattle.host_model.specs.Lawful.{IsLawfulTask, Lawful}
use Rattle.host_model.specs.MayFollow.{CanApply}
use Rattle.host_model.specs.Merging.{merge_run}
use Rattle.host_model.specs.NextAttempt.{ask}
use Rattle.host_model.specs.Plan.{change_of_plan, plan_asked, plan_run, planned_proposal, unless_objected}
use Rattle.host_model.specs.Purging.{purge_run}
use Rattle.host_model.specs.Starting.{start_run}
use Rattle.host_model.specs.declared.change.Change.{Change}
use Rattle.host_model.specs.declared.change.Change.TheVariants.{Closed, LimitsSet, Posted, TaskClosed}
use Rattle.host_model.specs.declared.config.Config.{Config}
use Rattle.host_model.specs.declared.lead.Planned.{Planned}
use Rattle.host_model.specs.declared.lead.Planned.TheVariants.{At, NoSlot, NoTool}
use Rattle.host_model.specs.declared.task_row.TaskRow.{TaskRow}
use Rattle.host_model.proofs.AskedRuns.{asking_brings}
use Rattle.host_model.proofs.Brings.{Brings, brings_suits}
use Rattle.host_model.proofs.LawfulBook.{apply_lawful}
use Rattle.host_model.proofs.NextKeys.{attempt_new}
use Rattle.host_model.proofs.RowFacts.{booked_row, lawful_at, may_close, with_row}
use Rattle.host_model.proofs.StepGrown.{task_of_all}
use Rattle.host_model.proofs.TurnBrings.{asked_brings, end_brings, merge_brings}
use Rattle.host_model.proofs.TurnCan.{IsOpen, answered_open}
use Rattle.host_model.proofs.Wishes.{ask_granted, end_granted, merge_granted, plan_granted, purge_granted, start_granted}
use Rattle.std.proofs.lemmas.List.Elements.{recursion_from_All}
use Rattle.host_draft.specs.Making.{IsReadOn}
use Rattle.host_turns.specs.Turns.{IsOfHost, wish_of}
use Rattle.host_turns.specs.declared.due.Due.{Due}
use Rattle.host_turns.specs.declared.due.Due.TheVariants.{End, Merge, Start, Plan}

-- ---- what the changes of a turn leave
same_epochs : (x : Change) (epochs : List Limits) → IsReadOn x → epochs_after x epochs ≡ epochs
same_epochs (LimitsSet l) epochs is = absurd is
same_epochs x epochs is = refl

same_tasks : (m : ℕ) (x : Change) (tasks : List TaskRow) → IsReadOn x → tasks_after m x tasks ≡ tasks
same_tasks m (Posted t) tasks is = absurd is
same_tasks m (TaskClosed serial) tasks is = absurd is
same_tasks m x tasks is = refl

-- the change can be applied, and what it brings is lawful
pub record Granted (c : Config) (b : Book) (x : Change) : Type 0 where
  pub kind : IsReadOn x
  pub can : CanApply b x
  pub brings : Brings c.number b.moment b x

module _ (c : Config) (in_force : Limits) (known : List TaskRow) (b : Book) (is : IsOfHost c in_force known b) where
  pub granted_lawful : (x : Change) → Granted c b x → Lawful c.number (apply b.moment x b)
  granted_lawful x g = apply_lawful c.number b.moment b x refl is.lawful (brings_suits c.number b.moment b x g.can g.brings)

  pub granted_next : (x : Change) → Granted c b x → IsOfHost c in_force known (apply b.moment x b)
  granted_next x g = record {
    lawful = granted_lawful x g;
    limits = ap (last_limits c.limits) (same_epochs x b.epochs g.kind) ∙ is.limits;
    tasks = same_tasks b.moment x b.tasks g.kind ∙ is.tasks;
  }

-- ---- of a row
module _ (c : Config) (b : Book) (lawful : Lawful c.number b) (r : RunRow) (at : find_row b.rows r.key ≡ Some r) where
  end_grants : (x : Change) → end_run c b.moment b r ≡ Some x → Granted c b x
  end_grants x e =
      let g = end_granted c b.moment b r x e in
      record { kind = subst IsReadOn g.is tt; can = subst (CanApply b) g.is (with_row b r.key _ r at g.active); brings = end_brings c b.moment b lawful r at x lawful.moment e }

  merge_grants : (x : Change) → merge_run c b.moment b r ≡ Some x → Granted c b x
  merge_grants x e =
      let g = merge_granted c b.moment b r x e in
      record { kind = subst IsReadOn g.is tt; can = subst (CanApply b) g.is (ap is_some at); brings = merge_brings c b.moment b lawful r at x e }

  start_grants : (x : Change) → start_run b.moment b r ≡ Some x → Granted c b x
  start_grants x e =
      let g = start_granted b.moment b r x e in
      let unclosed : r.closed ≡ None = (booked_row r g.booked).1 in
      let may = both_true (ap (λ o. not (is_some o)) unclosed) (both_true g.confirmed (ap (λ o. not (is_some o)) g.fresh)) in
      record { kind = subst IsReadOn g.is tt; can = subst (CanApply b) g.is (with_row b r.key _ r at may); brings = subst (Brings c.number b.moment b) g.is tt }

  pub purge_grants : (x : Change) → purge_run c b.moment b r ≡ Some x → Granted c b x
  purge_grants x e =
      let g = purge_granted c b.moment b r x e in
      record { kind = subst IsReadOn g.1 tt; can = subst (CanApply b) g.1 (ap is_some at); brings = subst (Brings c.number b.moment b) g.1 tt }

  -- ---- a plan
  abbrev IsFree : Change → Type 0
  IsFree x = IsReadOn x × CanApply b x

  module _ (fresh : IsOpen r) where
    closed_free : (why : Why) → CanApply b (Closed r.key why)
    closed_free why = with_row b r.key _ r at (may_close why r fresh.fresh fresh.unclosed)

    objected_free : (start : ℕ) (tool : List ℕ) (o : Option Denial) → IsFree (unless_objected c b (planned_proposal r start tool) o)
    objected_free start tool None = (tt, with_row b r.key _ r at (fresh.accepted, ap is_some fresh.unclosed))
    objected_free start tool (Some denial) = (tt, closed_free (Nonstart (Denied c.name denial)))

    planned_free : (v : Planned) → IsFree (change_of_plan c b b.moment r v)
    planned_free (At start tool) = objected_free start tool (objection c.installed (limits_in c b) b.rows b.moment (planned_proposal r start tool))
    planned_free NoTool = (tt, closed_free (Nonstart no_tool))
    planned_free NoSlot = (tt, closed_free (Nonstart no_slot))

    plan_free : (o : Option Range) → IsFree (plan_asked c b b.moment r o)
    plan_free None = (tt, closed_free (Nonstart no_slot))
    plan_free (Some w) = planned_free _

  plan_grants : (x : Change) → plan_run c b.moment b r ≡ Some x → Granted c b x
  plan_grants x e =
      let g = plan_granted c b.moment b r x e in
      let fresh : IsOpen r = answered_open c.number b r lawful at g.0 in
      let free = plan_free fresh r.question in
      record {
        kind = subst IsReadOn g.1 free.0;
        can = subst (CanApply b) g.1 free.1;
        brings = subst (Brings c.number b.moment b) g.1 (asked_brings c b b.moment r at lawful.moment (lawful_at c.number b lawful r.key r at) fresh r.question);
      }

  pub due_grants : (due : Due) (x : Change) → wish_of due c b.moment b r ≡ Some x → Granted c b x
  due_grants End x e = end_grants x e
  due_grants Merge x e = merge_grants x e
  due_grants Start x e = start_grants x e
  due_grants Plan x e = plan_grants x e

-- ---- of a task
module _ (c : Config) (b : Book) (lawful : Lawful c.number b) (name : is_name c.name ≡ true) where
  pub ask_grants : (t : TaskRow) (x : Change) → find_task b.tasks t.serial ≡ Some t → ask c b.moment b t ≡ Some x → Granted c b x
  ask_grants t x at e =
      let g = ask_granted c b.moment b t x e in
      record {
        kind = subst IsReadOn g.is tt;
        can = subst (CanApply b) g.is (attempt_new c.number t b.rows b.moment g.attempt lawful.ascending g.next);
        brings = asking_brings c b.moment b t x name at (task_of_all (IsLawfulTask b.moment) t.serial t b.tasks (recursion_from_All (IsLawfulTask b.moment) b.tasks lawful.tasks) at).task.test e;
      }
