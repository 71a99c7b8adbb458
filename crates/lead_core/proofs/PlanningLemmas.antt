-- What a decision reads of a book is what it reads of its parts.
use Rattle.std.specs.Prelude.{◌&&◌, IfOk, IfSome, Result, not, option_and_then}
use Rattle.std.proofs.Common.{◌≡◌, ℕ, Bool, true, false, cond, List, Option, Some, None, is_some, refl, sym, ap, ap₂, ◌∙◌, subst, arith}
use Rattle.std.proofs.lemmas.Result.{IfOk-weaker}
use Rattle.ps_time.specs.declared.key.RunKey.{RunKey}
use Rattle.ps_time.proofs.PictureLemmas.{and_true}
use Rattle.limit_apply.specs.Limits.{LimitsConfig as Limits}
use Rattle.run_states.specs.Life.{is_booked}
use Rattle.run_states.specs.Rows.{find_row}
use Rattle.run_states.specs.LawfulRow.{IsWindow}
use Rattle.run_states.specs.declared.answer.FreeAnswer.{FreeAnswer}
use Rattle.run_states.specs.declared.proposal.Proposal.{Proposal}
use Rattle.run_states.specs.declared.row.RunRow.{RunRow}
use Rattle.run_states.specs.declared.why.Denial.{Denial}
use Rattle.host_model.specs.Book.{Book, limits_in}
use Rattle.host_model.specs.Fits.{objection}
use Rattle.host_model.specs.Plan.{change_of_plan, is_answered, plan, plan_asked, plan_run, planned_proposal, unless_objected}
use Rattle.host_model.specs.declared.change.Change.{Change}
use Rattle.host_model.proofs.Placed.{find_row-own}
use Rattle.part_core.specs.Seen.{IsUnbooked}
use Rattle.host_model.specs.declared.config.Config.{Config}
use Rattle.host_model.specs.declared.lead.Planned.{Planned}
use Rattle.host_model.specs.declared.lead.Planned.TheVariants.{At, NoTool, NoSlot}
use Rattle.host_model.proofs.PlanLemmas.{planned_inside}
use Rattle.lead_core.specs.Books.{IsBookOf}
use Rattle.lead_core.specs.Planning.{IsInTime, unless_objected_at}

-- ---- the start
in_time : (wanted : List (List ℕ)) (r : RunRow) (own : FreeAnswer) (m : ℕ) (p : Planned) → plan m wanted r own ≡ p → IfSome r.question IsWindow → IsInTime p
in_time wanted r own m (At start tool) is low =
    let inside = planned_inside wanted r own m start tool is in
    let window : IsWindow inside.0 = subst (λ o. IfSome o IsWindow) inside.1 low in
    omega (arith, window.last, inside.2.1)
in_time wanted r own m NoTool is low = tt
in_time wanted r own m NoSlot is low = tt

-- the start of a plan is within bounds
pub planned_in_time : (wanted : List (List ℕ)) (r : RunRow) (own : FreeAnswer) (m : ℕ) → IfSome r.question IsWindow → IsInTime (plan m wanted r own)
planned_in_time wanted r own m low = in_time wanted r own m (plan m wanted r own) refl low

pub all_in_time : {E : Type 0} (result : Result Planned E) (wanted : List (List ℕ)) (r : RunRow) (own : FreeAnswer) (m : ℕ) → IfSome r.question IsWindow → IfOk result (λ p. p ≡ plan m wanted r own) → IfOk result IsInTime
all_in_time result wanted r own m low is = IfOk-weaker result (λ p. p ≡ plan m wanted r own) IsInTime (λ p e. subst IsInTime (sym e) (planned_in_time wanted r own m low)) is

-- ---- the row
not_and : (b x : Bool) → not b ≡ true → (b && x) ≡ false
not_and true x e = cc
not_and false x e = refl

-- a row that waits for its plan isn't booked
pub answered_unbooked : (rows : List RunRow) (k : RunKey) (r : RunRow) → find_row rows k ≡ Some r → is_answered r ≡ true → IsUnbooked r.key rows
answered_unbooked rows k r found answered =
    let unaccepted : not (is_some r.accepted) ≡ true = (and_true (not (is_some r.accepted)) _ (and_true (is_some r.asked) _ answered).1).0 in
    subst (λ o. IfSome o (λ x. is_booked x ≡ false)) (sym (find_row-own rows k r found)) (not_and (is_some r.accepted) (not (is_some r.closed)) unaccepted)

pub planned_at_key : (c : Config) (b : Book) (m : ℕ) (rows : List RunRow) (k : RunKey) (r : RunRow) (change : Change) → b.rows ≡ rows → find_row rows k ≡ Some r → is_answered r ≡ true →
    change ≡ plan_asked c b m r r.question → Some change ≡ option_and_then (plan_run c m b) (find_row b.rows k)
planned_at_key c b m rows k r change same found answered is =
    ap Some is
    ∙ (sym (ap (λ t. cond t (Some (plan_asked c b m r r.question)) None) answered)
    ∙ sym (ap (option_and_then (plan_run c m b)) (ap (λ rs. find_row rs k) same ∙ found)))

-- ---- the objection
module _ (c : Config) (rows : List RunRow) (limits : Limits) (epoch : ℕ) (b : Book) (is : IsBookOf c rows limits epoch b) (p : Proposal) where
  by_epoch : (o : Option Denial) → unless_objected_at c.name epoch p o ≡ unless_objected c b p o
  by_epoch None = ap (λ e. unless_objected_at c.name e p None) (sym is.epoch)
  by_epoch (Some denial) = refl

  pub objected_in : (m : ℕ) → unless_objected_at c.name epoch p (objection c.installed limits rows m p) ≡ unless_objected c b p (objection c.installed (limits_in c b) b.rows m p)
  objected_in m = by_epoch (objection c.installed limits rows m p) ∙ ap₂ (λ l rs. unless_objected c b p (objection c.installed l rs m p)) (sym is.limits) (sym is.rows)

-- so the change is that of the plan
pub accepted_in : {E : Type 0} (result : Result Change E) (c : Config) (rows : List RunRow) (limits : Limits) (epoch : ℕ) (b : Book) (m : ℕ) (r : RunRow) (start : ℕ) (tool : List ℕ) (planned : Planned) →
    IsBookOf c rows limits epoch b → planned ≡ At start tool →
    IfOk result (λ change. change ≡ unless_objected_at c.name epoch (planned_proposal r start tool) (objection c.installed limits rows m (planned_proposal r start tool))) →
    IfOk result (λ change. change ≡ change_of_plan c b m r planned)
accepted_in result c rows limits epoch b m r start tool planned is at made =
    let p : Proposal = planned_proposal r start tool in
    IfOk-weaker result (λ change. change ≡ unless_objected_at c.name epoch p (objection c.installed limits rows m p)) (λ change. change ≡ change_of_plan c b m r planned)
    (λ change e. e ∙ (objected_in c rows limits epoch b is p m ∙ ap (change_of_plan c b m r) (sym at))) made
