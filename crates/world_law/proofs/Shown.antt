-- What a reply binds a host to, its book after the step shows.
use Rattle.std.specs.Prelude.{◌||◌}
use Rattle.std.proofs.Common.{◌≡◌, ℕ, Bool, true, false, cond, IsSome, List, [], ◌∷◌, Option, Some, None, is_some, option_map, unwrap_or, refl, sym, ap, ◌∙◌, subst, arith}
use Rattle.ps_time.specs.Span.{Span, span_of}
use Rattle.ps_time.specs.declared.key.RunKey.{RunKey}
use Rattle.plugin_core.specs.Participants.{participants}
use Rattle.plugin_core.specs.TestSpec.{test_length}
use Rattle.run_states.specs.Content.{kept_proposal, same_content, start_of_span}
use Rattle.run_states.specs.LawfulRow.{IsLawfulRow, Reserves}
use Rattle.run_states.specs.Life.{confirm_row, first_there, settled_row, settled_rows}
use Rattle.run_states.specs.Rows.{find_row}
use Rattle.run_states.specs.declared.proposal.Proposal.{Proposal}
use Rattle.run_states.specs.declared.why.Closing.{Closing}
use Rattle.run_states.specs.declared.row.Ending.{Ending}
use Rattle.run_states.specs.declared.row.RunRow.{RunRow}
use Rattle.run_states.specs.declared.why.Denial.{Denial}
use Rattle.run_states.proofs.ContentLemmas.{content_is}
use Rattle.host_model.specs.Apply.{apply, book_after, settled}
use Rattle.host_model.specs.Book.{Book, latest_epoch, moment_at}
use Rattle.host_model.specs.Collect.{collect, result_reply, told_result}
use Rattle.host_model.specs.Conditions.{IsConfig, MayStep}
use Rattle.host_model.specs.Confirm.{confirm, confirm_changes, confirm_reply, confirm_standing, part_reply}
use Rattle.host_model.specs.Fits.{Place, denial_of, place_of}
use Rattle.host_model.specs.Lawful.{Lawful}
use Rattle.host_model.specs.Propose.{answered, decide, decided_at, decided_known, decided_new, decided_outcome, for_lead, lead_name, propose}
use Rattle.host_model.specs.Step.{step_book, step_reply}
use Rattle.host_model.specs.NewRow.{accepted_row}
use Rattle.host_model.specs.declared.change.Change.TheVariants.{Confirmed}
use Rattle.host_model.specs.declared.config.Config.{Config}
use Rattle.host_model.specs.declared.order.OrderBody.{OrderBody}
use Rattle.host_model.specs.declared.part.Decision.{Decision}
use Rattle.host_model.specs.declared.part.Decision.TheVariants.{New, Known, Denied}
use Rattle.host_model.specs.declared.reply.Outcome.{Outcome}
use Rattle.host_model.specs.declared.order.OrderBody.TheVariants as order
use Rattle.host_model.proofs.Clashes.{found_map}
use Rattle.host_model.proofs.GrownLemmas.{settled_evolves}
use Rattle.host_model.proofs.Keyed.{key_same}
use Rattle.host_model.proofs.Placed.{find_row-key}
use Rattle.host_model.proofs.RowFacts.{accepted_there, lawful_at}
use Rattle.host_model.proofs.SettledBook.{book_settled}
use Rattle.host_model.proofs.Standing.{changed_key, changed_row, find_row-map}
use Rattle.host_model.proofs.StepCan.{other_lead}
use Rattle.world_law.specs.Laws.{BoundReply, HasResult, Holds, Shows}
use Rattle.world_law.specs.World.{input_of}
use Rattle.world_law.proofs.Carries.{Alike, settled_alike}
use Rattle.world_law.proofs.NewRows.{accepted_now}

-- ---- contents
-- an accepted row has the content that it keeps
pub holds_of : (m : ℕ) (r : RunRow) (p : Proposal) → IsLawfulRow m r → IsSome r.accepted → kept_proposal r ≡ p → Holds p r
holds_of m r p lawful accepted content = go r.accepted r.tool r.interval refl refl refl lawful.reserves accepted
  where
    go : (a : Option ℕ) (t : Option (List ℕ)) (s : Option Span) → r.accepted ≡ a → r.tool ≡ t → r.interval ≡ s → Reserves r.test a t s → IsSome a → Holds p r
    go (Some a) (Some t) (Some s) f g h has some = record {
      key = ap (λ q. q.key) content;
      test = ap (λ q. q.test) content;
      tool = g ∙ ap Some (ap (λ o. unwrap_or o []) (sym g) ∙ ap (λ q. q.tool) content);
      interval = h ∙ ap Some (has.2 ∙ ap (λ n. span_of n (test_length r.test)) (ap start_of_span (sym h) ∙ ap (λ q. q.start) content) ∙ ap (λ x. span_of p.start (test_length x)) (ap (λ q. q.test) content));
      priority = ap (λ q. q.priority) content;
      asker = ap (λ q. q.asker) content;
      accepted = ap is_some f;
    }
    go None t s f g h has some = cc
    go (Some a) None None f g h has some = absurd has
    go (Some a) None (Some s) f g h has some = absurd has
    go (Some a) (Some t) None f g h has some = absurd has

-- and keeps the content that it has
pub kept_of : (p : Proposal) (r : RunRow) → Holds p r → kept_proposal r ≡ p
kept_of p r h = same (kept_proposal r) p h.key h.test (ap (λ o. unwrap_or o []) h.tool) (ap start_of_span h.interval) h.priority h.asker
  where
    same : (p q : Proposal) → p.key ≡ q.key → p.test ≡ q.test → p.tool ≡ q.tool → p.start ≡ q.start → p.priority ≡ q.priority → p.asker ≡ q.asker → p ≡ q
    same p q a b c d e f =
        ap (λ x. record { key = x; test = p.test; tool = p.tool; start = p.start; priority = p.priority; asker = p.asker }) a
        ∙ ap (λ x. record { key = q.key; test = x; tool = p.tool; start = p.start; priority = p.priority; asker = p.asker }) b
        ∙ ap (λ x. record { key = q.key; test = q.test; tool = x; start = p.start; priority = p.priority; asker = p.asker }) c
        ∙ ap (λ x. record { key = q.key; test = q.test; tool = q.tool; start = x; priority = p.priority; asker = p.asker }) d
        ∙ ap (λ x. record { key = q.key; test = q.test; tool = q.tool; start = q.start; priority = x; asker = p.asker }) e
        ∙ ap (λ x. record { key = q.key; test = q.test; tool = q.tool; start = q.start; priority = q.priority; asker = x }) f

-- one row has one content
pub holds_one : (p q : Proposal) (r : RunRow) → Holds p r → Holds q r → p ≡ q
holds_one p q r f g = sym (kept_of p r f) ∙ kept_of q r g

-- ---- rows that differ in their closing alone
pub holds_alike : (p : Proposal) (q r : RunRow) → Alike q r → Holds p r → Holds p q
holds_alike p q r like h = record {
  key = sym like.key ∙ h.key;
  test = sym like.test ∙ h.test;
  tool = sym like.tool ∙ h.tool;
  interval = sym like.interval ∙ h.interval;
  priority = sym like.priority ∙ h.priority;
  asker = sym like.asker ∙ h.asker;
  accepted = subst (λ o. IsSome o) like.accepted h.accepted;
}

-- and the other way
pub holds_on : (p : Proposal) (q r : RunRow) → Alike q r → Holds p q → Holds p r
holds_on p q r like h = record {
  key = like.key ∙ h.key;
  test = like.test ∙ h.test;
  tool = like.tool ∙ h.tool;
  interval = like.interval ∙ h.interval;
  priority = like.priority ∙ h.priority;
  asker = like.asker ∙ h.asker;
  accepted = subst (λ o. IsSome o) (sym like.accepted) h.accepted;
}

-- what a settled book shows that no closing tells, the book showed before
pub unsettled : (P : RunRow → Type 0) → ((q r : RunRow) → Alike q r → P r → P q) → (m : ℕ) (rows : List RunRow) (k : RunKey) → Shows (find_row (settled_rows m rows)) k P → Shows (find_row rows) k P
unsettled P back m rows k (r, e, has) =
    let x = found_map (settled_row m) (λ r. (settled_evolves m r).key) rows k r e in
    (x.0, x.1, back x.0 (settled_row m x.0) (settled_alike m x.0) (subst P (sym x.2) has))

-- ---- a proposal
pub new_none : (place : Place) (rows : List RunRow) (m : ℕ) (p : Proposal) → decide place rows m p ≡ New → find_row rows p.key ≡ None
new_none place rows m p new = go (find_row rows p.key) new
  where
    known : (r : RunRow) (o : Option Closing) → decided_known r o ≡ New → ⊥
    known r None e = cc
    known r (Some c) e = cc

    same : (t : Bool) (r : RunRow) (d : Denial) → cond t (decided_known r r.closed) (Denied d) ≡ New → ⊥
    same true r d e = known r r.closed e
    same false r d e = cc

    go : (o : Option RunRow) → decided_at place rows m p o ≡ New → o ≡ None
    go None e = refl
    go (Some r) e = absurd (same _ r _ e)

-- what was known stands
pub known_row : (place : Place) (rows : List RunRow) (m : ℕ) (p : Proposal) (n : ℕ) → decide place rows m p ≡ Known n → (r : RunRow) × (find_row rows p.key ≡ Some r) × (kept_proposal r ≡ p) × (unwrap_or r.accepted 0 ≡ n)
known_row place rows m p n known = go (find_row rows p.key) refl known
  where
    fresh : (o : Option Denial) → decided_new o ≡ Known n → ⊥
    fresh None e = cc
    fresh (Some d) e = cc

    standing : (r : RunRow) (o : Option Closing) → decided_known r o ≡ Known n → unwrap_or r.accepted 0 ≡ n
    standing r None e = cc
    standing r (Some c) e = cc

    same : (r : RunRow) (t : Bool) (d : Denial) → same_content r p (participants p.test place.lead) ≡ t → cond t (decided_known r r.closed) (Denied d) ≡ Known n → (kept_proposal r ≡ p) × (unwrap_or r.accepted 0 ≡ n)
    same r true d f e = ((content_is r p (participants p.test place.lead) f).0, standing r r.closed e)
    same r false d f e = cc

    go : (o : Option RunRow) → find_row rows p.key ≡ o → decided_at place rows m p o ≡ Known n → (r : RunRow) × (find_row rows p.key ≡ Some r) × (kept_proposal r ≡ p) × (unwrap_or r.accepted 0 ≡ n)
    go None f e = absurd (fresh (denial_of place rows m p) e)
    go (Some r) f e = let x = same r _ _ refl e in (r, f, x.0, x.1)

accepted_is : (o : Option ℕ) (n : ℕ) → IsSome o → unwrap_or o 0 ≡ n → o ≡ Some n
accepted_is None n some e = cc
accepted_is (Some a) n some e = ap Some e

-- of the host with this configuration, its book b, settled at m
module _ (c : Config) (config : IsConfig c) (b : Book) (m : ℕ) (lawful : Lawful c.number (settled m b)) (k : RunKey) where
  abbrev s : Book
  s = settled m b

  abbrev after : Outcome → Book
  after o = book_after b (record { moment = m; list = o.list })

  decided_shown : (lead : List ℕ) (p : Proposal) → (p.key.lead ≡ c.number → ⊥) → (d : Decision) → decide (place_of c s lead) s.rows m p ≡ d →
      BoundReply (find_row (after (decided_outcome s m lead p d)).rows) k (order.Propose p) (decided_outcome s m lead p d).reply
  decided_shown lead p apart New e =
      let hosts : List (List ℕ) = participants p.test lead in
      (accepted_row m p hosts, accepted_now m s p hosts (latest_epoch s) (new_none (place_of c s lead) s.rows m p e), (record { key = refl; test = refl; tool = refl; interval = refl; priority = refl; asker = refl; accepted = refl }, refl))
  decided_shown lead p apart (Known n) e =
      let x = known_row (place_of c s lead) s.rows m p n e in
      let row = lawful_at c.number s lawful p.key x.0 x.1 in
      let accepted = accepted_there c.number s.tasks s.moment x.0 row (λ own. apart (ap (λ j. j.lead) (sym (find_row-key s.rows p.key x.0 x.1)) ∙ own)) in
      unsettled (λ r. Holds p r × (r.accepted ≡ Some n)) (λ q r like h. (holds_alike p q r like h.0, sym like.accepted ∙ h.1)) m b.rows p.key
      (x.0, x.1, (holds_of s.moment x.0 p row.row accepted x.2, accepted_is x.0.accepted n accepted x.3))
  decided_shown lead p apart (Denied d) e = tt

  propose_shown : (sender : ℕ) (p : Proposal) → BoundReply (find_row (after (propose c s m sender p)).rows) k (order.Propose p) (propose c s m sender p).reply
  propose_shown sender p = go (lead_name c sender p.key) refl
    where
      go : (o : Option (List ℕ)) → lead_name c sender p.key ≡ o → let out = for_lead o (λ lead. decided_outcome s m lead p (decide (place_of c s lead) s.rows m p)) in BoundReply (find_row (after out).rows) k (order.Propose p) out.reply
      go None e = tt
      go (Some lead) e = decided_shown lead p (other_lead c sender p.key lead config e) _ refl

  -- ---- a confirmation
  confirmed_shown : (r : RunRow) → find_row s.rows k ≡ Some r → (o : Option Closing) → r.closed ≡ o → (x : Option ℕ) → r.confirmed ≡ x →
      BoundReply (find_row (book_after b (record { moment = m; list = cond (is_some o || is_some x) [] (Confirmed r.key ∷ []) })).rows) k order.Confirm (part_reply (confirm_standing m r o))
  confirmed_shown r at (Some c) closed x e = tt
  confirmed_shown r at None closed (Some n) e =
      unsettled (λ q. q.confirmed ≡ Some (unwrap_or r.confirmed m)) (λ p q like h. sym like.confirmed ∙ h) m b.rows k (r, at, e ∙ ap Some (sym (ap (λ y. unwrap_or y m) e)))
  confirmed_shown r at None closed None e =
      let key : r.key ≡ k = find_row-key s.rows k r at in
      let f : RunRow → RunRow = changed_row m s.tasks (Confirmed r.key) s.rows in
      let there : find_row (apply m (Confirmed r.key) s).rows k ≡ Some (f r) = find_row-map f (changed_key m s.tasks (Confirmed r.key) s.rows) s.rows k ∙ ap (option_map f) at in
      let same : f r ≡ confirm_row m r = ap (λ t. cond t (confirm_row m r) r) (key_same r.key) in
      let value : (confirm_row m r).confirmed ≡ Some (unwrap_or r.confirmed m) = ap (λ y. first_there y (Some m)) e ∙ ap Some (sym (ap (λ y. unwrap_or y m) e)) in
      (f r, there, subst (λ q. q.confirmed ≡ Some (unwrap_or r.confirmed m)) (sym same) value)

  confirm_shown : (sender : ℕ) → BoundReply (find_row (after (confirm c s m sender k)).rows) k order.Confirm (confirm c s m sender k).reply
  confirm_shown sender = go (lead_name c sender k)
    where
      row : (o : Option RunRow) → find_row s.rows k ≡ o → BoundReply (find_row (book_after b (record { moment = m; list = confirm_changes o })).rows) k order.Confirm (part_reply (confirm_reply m o))
      row None e = tt
      row (Some r) e = confirmed_shown r e r.closed refl r.confirmed refl

      go : (o : Option (List ℕ)) → let out = for_lead o (λ lead. record { reply = part_reply (confirm_reply m (find_row s.rows k)); list = confirm_changes (find_row s.rows k) }) in BoundReply (find_row (after out).rows) k order.Confirm out.reply
      go None = tt
      go (Some lead) = row (find_row s.rows k) refl

  -- ---- a result
  result_shown : (sender : ℕ) → BoundReply (find_row (after (collect c s m sender k)).rows) k order.Result (collect c s m sender k).reply
  result_shown sender = go (lead_name c sender k)
    where
      ended : (r : RunRow) → find_row s.rows k ≡ Some r → (o : Option Closing) (x : Option Ending) → r.ended ≡ x → BoundReply (find_row b.rows) k order.Result (told_result m r o x)
      ended r at (Some c) x e = tt
      ended r at None (Some x) e = unsettled (HasResult x.body) (λ p q like h. (h.0, sym like.ended ∙ h.1, h.2)) m b.rows k (r, at, (x, e, refl))
      ended r at None None e = tt

      row : (o : Option RunRow) → find_row s.rows k ≡ o → BoundReply (find_row b.rows) k order.Result (result_reply m o)
      row None e = tt
      row (Some r) e = ended r e r.closed r.ended refl

      go : (o : Option (List ℕ)) → let out = for_lead o (λ lead. answered (result_reply m (find_row s.rows k))) in BoundReply (find_row (after out).rows) k order.Result out.reply
      go None = tt
      go (Some lead) = row (find_row s.rows k) refl

-- what a reply to an order binds to, the book after the step shows
pub step_shown : (c : Config) (b : Book) (clock sender : ℕ) (k : RunKey) (body : OrderBody) → MayStep c b clock (input_of sender k body) → BoundReply (find_row (step_book c b clock (input_of sender k body)).rows) k body (step_reply c b clock (input_of sender k body))
step_shown c b clock sender k body may = go body may
  where
    within : (i : _) → MayStep c b clock i → Lawful c.number (settled (moment_at b clock) b)
    within i may = book_settled c.number b (moment_at b clock) (omega arith) (omega (arith, may.book.moment, may.moment)) may.book

    go : (x : OrderBody) → MayStep c b clock (input_of sender k x) → BoundReply (find_row (step_book c b clock (input_of sender k x)).rows) k x (step_reply c b clock (input_of sender k x))
    go (order.Propose p) may = propose_shown c may.config b (moment_at b clock) (within _ may) k sender p
    go order.Confirm may = confirm_shown c may.config b (moment_at b clock) (within _ may) k sender
    go order.Result may = result_shown c may.config b (moment_at b clock) (within _ may) k sender
    go (order.Free q) may = tt
    go order.Cancel may = tt
    go (order.Material text) may = tt
