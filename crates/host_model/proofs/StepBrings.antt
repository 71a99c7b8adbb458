-- What the changes of single inputs bring is lawful.
use Rattle.std.proofs.Common.{◌≡◌, ℕ, Bool, true, false, cond, List, is_some, subst}
use Rattle.ps_time.specs.declared.key.RunKey.{RunKey}
use Rattle.ps_time.proofs.PictureLemmas.{and_true}
use Rattle.limit_apply.specs.Limits.{LimitsConfig as Limits}
use Rattle.limit_apply.specs.Read.{IsKept}
use Rattle.run_states.specs.LawfulRow.{IsDenial, IsWhy}
use Rattle.run_states.specs.declared.answer.Other.{Other}
use Rattle.run_states.specs.declared.row.RunRow.{RunRow}
use Rattle.run_states.specs.declared.why.Denial.{Denial}
use Rattle.run_states.specs.declared.why.Denial.TheVariants.{Closed as closed_there}
use Rattle.run_states.specs.declared.why.Why.{Why}
use Rattle.host_model.specs.Book.{Book}
use Rattle.host_model.specs.Collect.{hear_material}
use Rattle.host_model.specs.Conditions.{IsAnswer}
use Rattle.host_model.specs.Confirm.{confirm, drop_run}
use Rattle.host_model.specs.Epochs.{set_limits}
use Rattle.host_model.specs.Heard.{close_if, denies_question, fact_of, hear, meaning_of, move_of}
use Rattle.host_model.specs.Post.{cancel}
use Rattle.host_model.specs.declared.change.Change.{Change}
use Rattle.host_model.specs.declared.config.Config.{Config}
use Rattle.host_model.specs.declared.lead.LeadMove.TheVariants.{Close as close_move}
use Rattle.host_model.specs.declared.lead.Meaning.{Meaning}
use Rattle.host_model.specs.declared.order.Order.{Order}
use Rattle.host_model.specs.declared.order.OrderBody.{OrderBody}
use Rattle.host_model.specs.declared.order.OrderBody.TheVariants.{Free as free_order, Propose, Confirm, Cancel, Material, Result as result_order}
use Rattle.host_model.specs.declared.order.PeerAnswer.{PeerAnswer}
use Rattle.host_model.specs.declared.order.PeerAnswer.TheVariants.{Free, Accepted, Confirmed, Dropped, MaterialHeard, Result, Denied, Unknown}
use Rattle.host_model.proofs.Brings.{Brings, BringsLawful}
use Rattle.host_model.proofs.Placed.{find_row-own}
use Rattle.host_model.proofs.RowFacts.{with_row}
use Rattle.host_model.proofs.StepAlong.{cancel_along, confirm_along, drop_along, hear_along, limits_along, material_along}
use Rattle.host_model.proofs.StepCan.{told_keeps}
use Rattle.host_model.proofs.WalkLemmas.{AllAlong}
use Rattle.host_model.proofs.Wishes.{cancel_granted}
use Rattle.host_model.specs.declared.lead.Meaning.TheVariants as meaning

-- ---- what an answer means is within the bounds of the answer
abbrev IsMeant : ℕ → ℕ → Book → RunKey → ℕ → Meaning → Type 0
IsMeant self m b k place (meaning.Told told) = Brings self m b (fact_of k place told)
IsMeant self m b k place (meaning.Denied denial) = IsDenial denial
IsMeant self m b k place said = Unit {0}

module _ (self m : ℕ) (b : Book) (k : RunKey) (place : ℕ) where
  question_meant : (t : Bool) (denial : Denial) → IsDenial denial → IsMeant self m b k place (cond t (meaning.Denied denial) meaning.Nothing)
  question_meant true denial is = is
  question_meant false denial is = tt

  meant : (body : OrderBody) (said : PeerAnswer) → IsAnswer said → IsMeant self m b k place (meaning_of body said)
  meant (free_order q) (Free answer) is = is.bounds
  meant (free_order q) (Denied denial) is = question_meant (denies_question denial) denial is
  meant (Propose p) (Accepted n) is = tt
  meant (Propose p) (Denied denial) is = is
  meant Confirm (Confirmed n) is = tt
  meant Confirm Unknown is = tt
  meant Confirm (Denied (closed_there state)) is = tt
  meant Cancel Dropped is = tt
  meant (Material text) MaterialHeard is = tt
  meant result_order (Result text) is = is.bounds
  meant result_order (Denied (closed_there state)) is = tt
  meant body said is = tt

-- a reason for closing is within the bounds of the denial
pub closes_why : (t : Bool) (why is : Why) → close_if t is ≡ close_move why → is ≡ why
closes_why true why is e = cc
closes_why false why is e = cc

closes_lawful : (self m : ℕ) (b : Book) (r : RunRow) (place : ℕ) (o : Other) (said : Meaning) (why : Why) → IsMeant self m b r.key place said → move_of r place o said ≡ close_move why → IsWhy why
closes_lawful self m b r place o (meaning.Told told) why is e = absurd (told_keeps r place o told why e)
closes_lawful self m b r place o (meaning.Denied denial) why is e = subst IsWhy (closes_why _ why _ e) is
closes_lawful self m b r place o meaning.Lost why is e = subst IsWhy (closes_why _ why _ e) tt
closes_lawful self m b r place o meaning.Nothing why is e = cc

module _ (c : Config) (m : ℕ) (b : Book) where
  abbrev P : Book → Change → Type 0
  P = BringsLawful c.number m

  -- ---- a participant
  pub confirm_brings : (sender : ℕ) (k : RunKey) → AllAlong P m b (confirm c b m sender k).list
  confirm_brings sender k = confirm_along P m c b sender k (λ lead r at found unclosed now lawful. tt)

  pub drop_brings : (sender : ℕ) (k : RunKey) → AllAlong P m b (drop_run c b sender k).list
  drop_brings sender k = drop_along P m c b sender k (λ r found booked fresh now lawful. tt)

  pub material_brings : (sender : ℕ) (k : RunKey) → AllAlong P m b (hear_material c b sender k).list
  material_brings sender k = material_along P m c b sender k (λ r found active now lawful. with_row b r.key _ r (find_row-own b.rows k r found) (and_true (is_some r.started) _ active).0)

  -- ---- a lead
  pub hear_brings : (order : Order) (said : PeerAnswer) → IsAnswer said → AllAlong P m b (hear b order said).list
  hear_brings order said is = hear_along P m c b order said
      (λ r o told found asked at means now lawful. subst (IsMeant c.number m b r.key order.place) means (meant c.number m b r.key order.place order.body said is))
      (λ r o why found asked at closes now lawful. closes_lawful c.number m b r order.place o (meaning_of order.body said) why (meant c.number m b r.key order.place order.body said is) closes)

  -- ---- an operator
  pub limits_brings : (l : Limits) → IsKept l → AllAlong P m b (set_limits b l).list
  limits_brings l is = limits_along P m c b l (λ short room now lawful. is)

  -- ---- a client
  pub cancel_brings : (serial : ℕ) (requester : List ℕ) → AllAlong P m b (cancel c b m serial requester).list
  cancel_brings serial requester = cancel_along P m c b serial requester (λ t found fresh now lawful. tt)
      (λ number a r d at e now lawful. let g = cancel_granted c.number number a r d e in subst (Brings c.number m a) g.2 tt)
