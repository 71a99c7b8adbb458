-- The changes of a turn can be applied.
use Rattle.std.specs.Cmp.Derive.{both_true}
use Rattle.std.specs.Prelude.{IsNone}
use Rattle.std.proofs.Common.{◌≡◌, ℕ, true, not, List, Option, Some, None, is_some, subst, ap}
use Rattle.ps_time.specs.Span.{Range}
use Rattle.ps_time.proofs.PictureLemmas.{and_true}
use Rattle.run_states.specs.Rows.{find_row}
use Rattle.run_states.specs.declared.row.RunRow.{RunRow}
use Rattle.run_states.specs.declared.why.Cause.TheVariants.{Denied, NoSlot as no_slot, NoTool as no_tool}
use Rattle.run_states.specs.declared.why.Denial.{Denial}
use Rattle.run_states.specs.declared.why.Why.TheVariants.{Nonstart}
use Rattle.host_model.specs.Book.{Book, limits_in}
use Rattle.host_model.specs.Fits.{objection}
use Rattle.host_model.specs.Lawful.{Lawful}
use Rattle.host_model.specs.MayFollow.{CanApply}
use Rattle.host_model.specs.Plan.{change_of_plan, is_answered, plan_asked, planned_proposal, unless_objected}
use Rattle.host_model.specs.Turn.{turn_changes}
use Rattle.host_model.specs.declared.config.Config.{Config}
use Rattle.host_model.specs.declared.lead.Planned.{Planned}
use Rattle.host_model.specs.declared.lead.Planned.TheVariants.{At, NoTool, NoSlot}
use Rattle.host_model.proofs.NextKeys.{attempt_new}
use Rattle.host_model.proofs.RowFacts.{booked_row, lawful_at, may_close, unconfirmed, unstarted, with_row}
use Rattle.host_model.proofs.StepCan.{CanNow, is_false}
use Rattle.host_model.proofs.WalkLemmas.{AllAlong, turn_along}
use Rattle.host_model.proofs.Wishes.{ask_granted, end_granted, merge_granted, none_of, plan_granted, purge_granted, start_granted}

-- ---- a run that was asked about and answered is neither accepted nor closed, nor started
pub record IsOpen (r : RunRow) : Type 0 where
  pub accepted : IsNone r.accepted
  pub unclosed : r.closed ≡ None
  pub fresh : r.started ≡ None

pub answered_open : (self : ℕ) (b : Book) (r : RunRow) → Lawful self b → find_row b.rows r.key ≡ Some r → is_answered r ≡ true → IsOpen r
answered_open self b r lawful at answered =
    let asked = and_true (is_some r.asked) _ answered in
    let held = and_true (not (is_some r.accepted)) _ asked.1 in
    let unclosed = and_true (not (is_some r.closed)) _ held.1 in
    let life = (lawful_at self b lawful r.key r at).row.life in
    let unheld : IsNone r.accepted = is_false _ held.0 in
    record { accepted = unheld; unclosed = none_of r.closed unclosed.0; fresh = unstarted r life (unconfirmed r life unheld) }

module _ (c : Config) (b : Book) (m : ℕ) (r : RunRow) (at : find_row b.rows r.key ≡ Some r) (fresh : IsOpen r) where
  objected_can : (start : ℕ) (tool : List ℕ) (o : Option Denial) → CanApply b (unless_objected c b (planned_proposal r start tool) o)
  objected_can start tool None = with_row b r.key _ r at (fresh.accepted, ap is_some fresh.unclosed)
  objected_can start tool (Some denial) = with_row b r.key _ r at (may_close (Nonstart (Denied c.name denial)) r fresh.fresh fresh.unclosed)

  planned_can : (v : Planned) → CanApply b (change_of_plan c b m r v)
  planned_can (At start tool) = objected_can start tool (objection c.installed (limits_in c b) b.rows m (planned_proposal r start tool))
  planned_can NoTool = with_row b r.key _ r at (may_close (Nonstart no_tool) r fresh.fresh fresh.unclosed)
  planned_can NoSlot = with_row b r.key _ r at (may_close (Nonstart no_slot) r fresh.fresh fresh.unclosed)

  plan_can : (o : Option Range) → CanApply b (plan_asked c b m r o)
  plan_can None = with_row b r.key _ r at (may_close (Nonstart no_slot) r fresh.fresh fresh.unclosed)
  plan_can (Some w) = planned_can _

-- ---- the six wishes
pub turn_can : (c : Config) (m : ℕ) (b : Book) → AllAlong (CanNow c.number m) m b (turn_changes c b m)
turn_can c m b = turn_along (CanNow c.number m) m c
    (λ a r d at e now lawful. let g = end_granted c m a r d e in subst (CanApply a) g.is (with_row a r.key _ r at g.active))
    (λ a r d at e now lawful. let g = merge_granted c m a r d e in subst (CanApply a) g.is (ap is_some at))
    (λ a r d at e now lawful.
    let g = start_granted m a r d e in
    let unclosed : r.closed ≡ None = (booked_row r g.booked).1 in
    subst (CanApply a) g.is (with_row a r.key _ r at (both_true (ap (λ o. not (is_some o)) unclosed) (both_true g.confirmed (ap (λ o. not (is_some o)) g.fresh)))))
    (λ a r d at e now lawful. let g = plan_granted c m a r d e in subst (CanApply a) g.1 (plan_can c a m r at (answered_open c.number a r lawful at g.0) r.question))
    (λ a t d at e now lawful. let g = ask_granted c m a t d e in subst (CanApply a) g.is (attempt_new c.number t a.rows m g.attempt lawful.ascending g.next))
    (λ a r d at e now lawful. let g = purge_granted c m a r d e in subst (CanApply a) g.1 (ap is_some at))
    b
