-- What a step replies to an order is a reply to that order, within the bounds within which it is heard.
use Rattle.std.specs.Prelude.{IfSome, nat_le, nat_lt}
use Rattle.std.proofs.Common.{◌∷◌, ◌≡◌, ◌≤◌, [], Bool, List, None, Option, Some, arith, cond, false, is_some, length, not, refl, subst, true, ℕ}
use Rattle.std.proofs.lemmas.Bool.Decides.{nat_tests}
use Rattle.ps_time.specs.Numbers.{most_kept_bytes, most_result_bytes, most_rows}
use Rattle.ps_time.specs.declared.asker.Verdict.{Verdict}
use Rattle.ps_time.specs.declared.asker.Verdict.TheVariants.{Permitted, Stopped, Exhausted, AboveCeiling}
use Rattle.ps_time.specs.declared.key.RunKey.{RunKey}
use Rattle.plugin_core.specs.Participants.{is_named, participants}
use Rattle.run_states.specs.Content.{kept_proposal, same_content}
use Rattle.run_states.specs.LawfulRow.{IsDenial}
use Rattle.run_states.specs.Life.{closed_state, first_there, is_active}
use Rattle.run_states.specs.Rows.{find_row}
use Rattle.run_states.specs.declared.answer.FreeAnswer.{FreeAnswer}
use Rattle.run_states.specs.declared.proposal.Proposal.{Proposal}
use Rattle.run_states.specs.declared.proposal.Question.{Question}
use Rattle.run_states.specs.declared.row.Ending.{Ending}
use Rattle.run_states.specs.declared.row.RunRow.{RunRow}
use Rattle.run_states.specs.declared.why.Closing.{Closing}
use Rattle.run_states.specs.declared.why.Denial.{Denial}
use Rattle.run_states.specs.declared.why.Denial.TheVariants as denial
use Rattle.run_states.specs.declared.why.What.TheVariants.{Results, Runs}
use Rattle.host_model.specs.Apply.{settled}
use Rattle.host_model.specs.Book.{Book, limits_in, moment_at}
use Rattle.host_model.specs.Collect.{collect, hear_material, heard_material, material_at, result_reply, told_result}
use Rattle.host_model.specs.Conditions.{IsAnswer, IsFreeHeard, MayStep}
use Rattle.host_model.specs.Confirm.{confirm, confirm_changes, confirm_reply, confirm_standing, drop_changes, drop_run, part_reply}
use Rattle.host_model.specs.Fits.{conflict_denial, denial_of, full_denial, has_tool, limits_denial, objection, place_of, unless, verdict_of}
use Rattle.host_model.specs.FreeStarts.{free, free_answer, free_here}
use Rattle.host_model.specs.Propose.{answered, decide, decided_at, decided_known, decided_new, decided_outcome, for_lead, lead_name, propose}
use Rattle.host_model.specs.Step.{step_reply}
use Rattle.host_model.specs.declared.change.Change.TheVariants.{MaterialHeard as material_change}
use Rattle.host_model.specs.declared.config.Config.{Config}
use Rattle.host_model.specs.declared.order.OrderBody.{OrderBody}
use Rattle.host_model.specs.declared.order.OrderBody.TheVariants as order
use Rattle.host_model.specs.declared.part.Decision.{Decision}
use Rattle.host_model.specs.declared.part.Decision.TheVariants.{New, Known, Denied as denied_decision}
use Rattle.host_model.specs.declared.part.PartReply.TheVariants.{Dropped as dropped_here}
use Rattle.host_model.specs.declared.reply.Outcome.{Outcome}
use Rattle.host_model.specs.declared.reply.Reply.{Reply}
use Rattle.host_model.specs.declared.reply.Reply.TheVariants as reply
use Rattle.host_model.proofs.RowLemmas.{found_of_all}
use Rattle.world_law.specs.Laws.{SaysDiffers}
use Rattle.world_law.specs.World.{heard_as, input_of}
use Rattle.world_law.proofs.Messages.{answer_in}
use Rattle.api_peer.specs.Replied.{IsCancelReply, IsConfirmReply, IsDenialTold, IsFreeReply, IsFreeTold, IsMaterialReply, IsProposeReply, IsReplyTo, IsResultReply, IsResultTold, IsVerdictTold}
use Rattle.api_peer.specs.Told.{AreTold, IsTold}
use Rattle.api_peer.specs.Widths.{HasDenialWidths, HasVerdictWidth, HasWidths}
use Rattle.api_peer.proofs.FewTools.{few_tools}
use Rattle.api_peer.proofs.ToldChanges.{settled_told}

-- what is known of a reply besides its kind
record IsGood (said : Reply) : Type 0 where
  answer : IsAnswer (heard_as said)
  widths : HasWidths said

abbrev Replies : (Reply → Type 0) → Reply → Type 0
Replies P said = IsGood said → P said

-- no proposal that was sent differs
abbrev Proposes : List ℕ → Reply → Type 0
Proposes lead said = IsGood said → (SaysDiffers said → ⊥) → IsProposeReply lead said

-- ---- free starts
free_told : (a : FreeAnswer) → IsFreeHeard a → IsFreeTold a
free_told a is =
    let few : nat_le (length a.tools) 4 ≡ true = grind (arith, nat_tests, few_tools a.tools is.bounds.tools is.different) in
    record {
      tools = rw (few, is.bounds.tools, is.different) refl;
      first = is.bounds.first;
      second = is.bounds.second;
      few_first = is.few_first;
      few_second = is.few_second;
    }

-- ---- denials
-- what is permitted is never denied
abbrev Objects : Denial → Type 0
Objects (denial.Limits (Permitted i)) = ⊥
Objects _ = Unit {0}

verdict_told : (v : Verdict) → HasVerdictWidth v → Objects (denial.Limits v) → IsVerdictTold v
verdict_told (Permitted i) width objects = objects
verdict_told (Stopped i) width objects = width
verdict_told Exhausted width objects = tt
verdict_told (AboveCeiling z) width objects = width

denial_told : (lead : List ℕ) (d : Denial) → IsDenial d → (SaysDiffers (reply.Denied d) → ⊥) → HasDenialWidths d → Objects d → IsDenialTold lead d
denial_told lead (denial.Limits v) is alike widths objects = verdict_told v widths objects
denial_told lead (denial.Past m start) is alike widths objects = is
denial_told lead (denial.Conflict k) is alike widths objects = widths
denial_told lead (denial.Full what count) is alike widths objects = widths
denial_told lead (denial.Differs kept sent) is alike widths objects = absurd (alike tt)
denial_told lead (denial.Closed s) is alike widths objects = tt
denial_told lead denial.NotParticipant is alike widths objects = tt
denial_told lead (denial.NoTool tool) is alike widths objects = tt

first_in : (o p : Option Denial) → IfSome o Objects → IfSome p Objects → IfSome (first_there o p) Objects
first_in None p one other = other
first_in (Some d) p one other = one

unless_in : (t : Bool) (d : Denial) → Objects d → IfSome (unless t d) Objects
unless_in true d is = tt
unless_in false d is = is

limits_in_force : (v : Verdict) → IfSome (limits_denial v) Objects
limits_in_force (Permitted i) = tt
limits_in_force (Stopped i) = tt
limits_in_force Exhausted = tt
limits_in_force (AboveCeiling z) = tt

conflict_in : (o : Option RunRow) → IfSome (conflict_denial o) Objects
conflict_in None = tt
conflict_in (Some r) = tt

-- ---- by the lead
by_lead : (P : Reply → Type 0) (o : Option (List ℕ)) (next : List ℕ → Outcome) → P reply.NotLead → ((lead : List ℕ) → P (next lead).reply) → P (for_lead o next).reply
by_lead P None next none each = none
by_lead P (Some lead) next none each = each lead

module _ (c : Config) (b : Book) (m : ℕ) where
  free_replied : (sender : ℕ) (q : Question) → Replies IsFreeReply (free c b m sender q).reply
  free_replied sender q = by_lead (Replies IsFreeReply) (lead_name c sender q.key) (free_here c b m q) (λ good. tt) (λ lead. go (is_named c.name (participants q.test lead)))
    where
      go : (t : Bool) → Replies IsFreeReply (cond t (answered (reply.Free (free_answer c.installed b.rows m q))) (answered (reply.Denied denial.NotParticipant))).reply
      go true = λ good. free_told (free_answer c.installed b.rows m q) good.answer
      go false = λ good. tt

  -- ---- a proposal
  objected : (lead : List ℕ) (p : Proposal) → IfSome (denial_of (place_of c b lead) b.rows m p) Objects
  objected lead p =
      first_in (unless (is_named c.name (participants p.test lead)) denial.NotParticipant) _ (unless_in (is_named c.name (participants p.test lead)) denial.NotParticipant tt)
      (first_in (objection c.installed (limits_in c b) b.rows m p) (full_denial b.rows (place_of c b lead).bytes)
      (first_in (unless (has_tool c.installed p) (denial.NoTool p.tool)) _ (unless_in (has_tool c.installed p) (denial.NoTool p.tool) tt)
      (first_in (unless (nat_le m p.start) (denial.Past m p.start)) _ (unless_in (nat_le m p.start) (denial.Past m p.start) tt)
      (first_in (limits_denial (verdict_of (limits_in c b) p)) _ (limits_in_force (verdict_of (limits_in c b) p)) (conflict_in _))))
      (first_in (unless (nat_lt (length b.rows) most_rows) (denial.Full Runs (length b.rows))) _ (unless_in (nat_lt (length b.rows) most_rows) (denial.Full Runs (length b.rows)) tt)
      (unless_in (nat_lt (place_of c b lead).bytes most_kept_bytes) (denial.Full Results (place_of c b lead).bytes) tt)))

  denied_so : (lead : List ℕ) (p : Proposal) (o : Option RunRow) (d : Denial) → decided_at (place_of c b lead) b.rows m p o ≡ denied_decision d → Objects d
  denied_so lead p None d e = go (denial_of (place_of c b lead) b.rows m p) (objected lead p) e
    where
      go : (x : Option Denial) → IfSome x Objects → decided_new x ≡ denied_decision d → Objects d
      go None is f = cc
      go (Some y) is f = let same : y ≡ d = cc in subst Objects same is
  denied_so lead p (Some r) d e = go (same_content r p (participants p.test lead)) e
    where
      known : (x : Option Closing) → decided_known r x ≡ denied_decision d → Objects d
      known None f = cc
      known (Some y) f = let same : denial.Closed (closed_state y.why) ≡ d = cc in subst Objects same tt

      go : (t : Bool) → cond t (decided_known r r.closed) (denied_decision (denial.Differs (kept_proposal r) p)) ≡ denied_decision d → Objects d
      go true f = known r.closed f
      go false f = let same : denial.Differs (kept_proposal r) p ≡ d = cc in subst Objects same tt

  propose_replied : (sender : ℕ) (p : Proposal) → Proposes p.asker.server (propose c b m sender p).reply
  propose_replied sender p =
      by_lead (Proposes p.asker.server) (lead_name c sender p.key) (λ lead. decided_outcome b m lead p (decide (place_of c b lead) b.rows m p)) (λ good alike. tt)
      (λ lead. go lead (decide (place_of c b lead) b.rows m p) refl)
    where
      go : (lead : List ℕ) (d : Decision) → decide (place_of c b lead) b.rows m p ≡ d → Proposes p.asker.server (decided_outcome b m lead p d).reply
      go lead New e = λ good alike. good.answer
      go lead (Known n) e = λ good alike. good.answer
      go lead (denied_decision d) e = λ good alike. denial_told p.asker.server d good.answer alike good.widths (denied_so lead p (find_row b.rows p.key) d e)

  -- ---- of a run that was proposed
  confirm_replied : (sender : ℕ) (k : RunKey) → Replies IsConfirmReply (confirm c b m sender k).reply
  confirm_replied sender k =
      by_lead (Replies IsConfirmReply) (lead_name c sender k) (λ lead. record { reply = part_reply (confirm_reply m (find_row b.rows k)); list = confirm_changes (find_row b.rows k) }) (λ good. tt)
      (λ lead. row (find_row b.rows k))
    where
      standing : (r : RunRow) (o : Option Closing) → Replies IsConfirmReply (part_reply (confirm_standing m r o))
      standing r (Some y) = λ good. tt
      standing r None = λ good. good.answer

      row : (o : Option RunRow) → Replies IsConfirmReply (part_reply (confirm_reply m o))
      row None = λ good. tt
      row (Some r) = standing r r.closed

  drop_replied : (sender : ℕ) (k : RunKey) → Replies IsCancelReply (drop_run c b sender k).reply
  drop_replied sender k =
      by_lead (Replies IsCancelReply) (lead_name c sender k) (λ lead. record { reply = part_reply dropped_here; list = drop_changes (find_row b.rows k) }) (λ good. tt) (λ lead good. tt)

  material_replied : (sender : ℕ) (k : RunKey) → Replies IsMaterialReply (hear_material c b sender k).reply
  material_replied sender k = by_lead (Replies IsMaterialReply) (lead_name c sender k) (λ lead. material_at (find_row b.rows k)) (λ good. tt) (λ lead. row (find_row b.rows k))
    where
      heard : (r : RunRow) (o : Option Closing) → Replies IsMaterialReply (heard_material r o).reply
      heard r (Some y) = λ good. tt
      heard r None = go (is_active r) (is_some r.material)
        where
          go : (t u : Bool) → Replies IsMaterialReply (cond (not t) (answered reply.NotRunning) (cond u (answered reply.MaterialHeard) (record { reply = reply.MaterialHeard; list = material_change r.key ∷ [] }))).reply
          go false u = λ good. tt
          go true true = λ good. tt
          go true false = λ good. tt

      row : (o : Option RunRow) → Replies IsMaterialReply (material_at o).reply
      row None = λ good. tt
      row (Some r) = heard r r.closed

  -- ---- a result
  collect_replied : ((k : RunKey) (r : RunRow) → find_row b.rows k ≡ Some r → IsTold r) → (sender : ℕ) (k : RunKey) → Replies IsResultReply (collect c b m sender k).reply
  collect_replied told sender k = by_lead (Replies IsResultReply) (lead_name c sender k) (λ lead. answered (result_reply m (find_row b.rows k))) (λ good. tt) (λ lead. row (find_row b.rows k) refl)
    where
      ended : (r : RunRow) (o : Option Closing) (x : Option Ending) → IfSome x (λ e. IsResultTold e.body) → Replies IsResultReply (told_result m r o x)
      ended r (Some y) x is = λ good. tt
      ended r None (Some x) is = λ good. is
      ended r None None is = λ good. tt

      row : (o : Option RunRow) → find_row b.rows k ≡ o → Replies IsResultReply (result_reply m o)
      row None e = λ good. tt
      row (Some r) e = ended r r.closed r.ended (told k r e)

-- ---- every order
pub replied : (c : Config) (b : Book) (clock sender : ℕ) (k : RunKey) (body : OrderBody) → MayStep c b clock (input_of sender k body) → AreTold b
    → ((p : Proposal) → body ≡ order.Propose p → SaysDiffers (step_reply c b clock (input_of sender k body)) → ⊥)
    → HasWidths (step_reply c b clock (input_of sender k body)) → IsReplyTo body (step_reply c b clock (input_of sender k body))
replied c b clock sender k body may told alike widths = go body alike (record { answer = answer_in c b clock sender k body may short; widths = widths })
  where
    told_at : (j : RunKey) (r : RunRow) → find_row (settled (moment_at b clock) b).rows j ≡ Some r → IsTold r
    told_at j r at = found_of_all IsTold j r (settled (moment_at b clock) b).rows (settled_told (moment_at b clock) b.rows told) at

    short : (j : RunKey) (r : RunRow) (x : Ending) → find_row (settled (moment_at b clock) b).rows j ≡ Some r → r.ended ≡ Some x → length x.body ≤ most_result_bytes
    short j r x at e = let is : IsResultTold x.body = subst (λ o. IfSome o (λ y. IsResultTold y.body)) e (told_at j r at) in is.short

    go : (x : OrderBody) → ((p : Proposal) → x ≡ order.Propose p → SaysDiffers (step_reply c b clock (input_of sender k x)) → ⊥) → IsGood (step_reply c b clock (input_of sender k x)) → IsReplyTo x (step_reply c b clock (input_of sender k x))
    go (order.Free q) alike = free_replied c (settled (moment_at b clock) b) (moment_at b clock) sender q
    go (order.Propose p) alike = λ good. propose_replied c (settled (moment_at b clock) b) (moment_at b clock) sender p good (alike p refl)
    go order.Confirm alike = confirm_replied c (settled (moment_at b clock) b) (moment_at b clock) sender k
    go order.Cancel alike = drop_replied c (settled (moment_at b clock) b) (moment_at b clock) sender k
    go (order.Material text) alike = material_replied c (settled (moment_at b clock) b) (moment_at b clock) sender k
    go order.Result alike = collect_replied c (settled (moment_at b clock) b) (moment_at b clock) told_at sender k
