-- What the guards of each input's step say of its changes.
use Rattle.std.specs.List.{AllByRecursion}
use Rattle.std.specs.Prelude.{◌==◌, All, IsNone}
use Rattle.std.proofs.Common.{◌≡◌, ◌≤◌, inl, inr, ◌+◌, ℕ, ℤ, Bool, true, false, cond, IsTrue, List, [], ◌∷◌, Option, Some, None, is_some, option_map, slice_get, unwrap_or, refl, sym, ap, ◌∙◌, subst, arith}
use Rattle.std.proofs.lemmas.Bool.Decides.{nat_tests}
use Rattle.std.proofs.lemmas.List.Elements.{recursion_from_All}
use Rattle.std.specs.declared.cmp.Ordering.TheVariants.{Less, Equal}
use Rattle.ps_time.specs.Key.{key_cmp}
use Rattle.ps_time.specs.Span.{Range}
use Rattle.ps_time.proofs.KeyLemmas.{key_cmp_same}
use Rattle.ps_time.specs.declared.class.Class.{Class}
use Rattle.ps_time.specs.declared.key.RunKey.{RunKey}
use Rattle.plugin_core.specs.Participants.{participants}
use Rattle.plugin_tool.specs.declared.run.Outcome.TheVariants.{Restarted}
use Rattle.plugin_tool.proofs.LengthLemmas.{result_short}
use Rattle.run_states.specs.Purging.{is_purgeable}
use Rattle.run_states.specs.Rows.{find_row}
use Rattle.run_states.specs.TaskRows.{greatest_number}
use Rattle.run_states.specs.declared.answer.Answer.{Answer}
use Rattle.run_states.specs.declared.proposal.Proposal.{Proposal}
use Rattle.run_states.specs.declared.row.RunRow.{RunRow}
use Rattle.run_states.specs.declared.why.Denial.{Denial}
use Rattle.host_model.specs.Apply.{apply}
use Rattle.host_model.specs.Book.{Book, find_task, latest_epoch}
use Rattle.host_model.specs.Booking.{booking_key}
use Rattle.host_model.specs.Conditions.{IsConfig}
use Rattle.host_model.specs.Fits.{place_of}
use Rattle.host_model.specs.Fitting.{IsAcceptance, MayAccept}
use Rattle.host_model.specs.Ending.{tool_view}
use Rattle.host_model.specs.FreeTier.{IsIn}
use Rattle.host_model.specs.Granting.{AcceptsGranted}
use Rattle.host_model.specs.Heard.{denies_question, fact_of, meaning_of}
use Rattle.host_model.specs.Lawful.{IsLawfulTask, Lawful}
use Rattle.task_spec.specs.ReadTask.{leads}
use Rattle.host_model.specs.LawfulRow.{HasLead}
use Rattle.host_model.specs.MayFollow.{CanApply, CanApplyAll}
use Rattle.host_model.specs.NewRow.{accepted_row}
use Rattle.host_model.specs.NextAttempt.{asked_change, next_attempt}
use Rattle.host_model.specs.Plan.{change_of_plan, own_answer, plan_asked, planned_proposal, unless_objected, wanted_tools}
use Rattle.host_model.specs.Propose.{decide, find_peer, lead_name}
use Rattle.host_model.specs.Step.{outcome_of}
use Rattle.host_model.specs.declared.change.Change.{Change}
use Rattle.host_model.specs.declared.change.Change.TheVariants.{Accepted, Confirmed}
use Rattle.host_model.specs.declared.config.Config.{Config}
use Rattle.host_model.specs.declared.config.Peer.{Peer}
use Rattle.host_model.specs.declared.input.Input.{Input}
use Rattle.host_model.specs.declared.lead.Attempt.{Attempt}
use Rattle.host_model.specs.declared.lead.Meaning.TheVariants as meaning
use Rattle.host_model.specs.declared.lead.Planned.{Planned as Plan}
use Rattle.host_model.specs.declared.lead.Planned.TheVariants.{At, NoTool, NoSlot}
use Rattle.host_model.specs.declared.order.Order.{Order}
use Rattle.host_model.specs.declared.order.OrderBody.{OrderBody}
use Rattle.host_model.specs.declared.order.PeerAnswer.{PeerAnswer}
use Rattle.host_model.specs.declared.part.Decision.TheVariants.{New}
use Rattle.host_model.specs.declared.task_row.TaskRow.{TaskRow}
use Rattle.host_model.specs.declared.input.Input.TheVariants as input
use Rattle.host_model.specs.declared.order.OrderBody.TheVariants as order
use Rattle.host_model.specs.declared.order.PeerAnswer.TheVariants as said
use Rattle.run_states.specs.declared.answer.Answer.TheVariants as answer
use Rattle.run_states.specs.declared.why.Denial.TheVariants as denial
use Rattle.host_model.proofs.AllowedLemmas.{attempt_allowed}
use Rattle.host_model.proofs.FitLemmas.{accepts_exactly}
use Rattle.host_model.proofs.Placed.{find_row-key}
use Rattle.host_model.proofs.PlanLemmas.{planned_inside}
use Rattle.host_model.proofs.RowFacts.{lawful_at, with_row}
use Rattle.host_model.proofs.StepAlong.{book_along, cancel_along, collect_along, confirm_along, drop_along, free_along, hear_along, limits_along, material_along, open_along, post_along, propose_along, tried_along, view_along}
use Rattle.host_model.proofs.StepCan.{other_lead}
use Rattle.host_model.proofs.StepGrants.{step_granted}
use Rattle.host_model.proofs.WalkLemmas.{AllAlong, turn_along}
use Rattle.host_model.proofs.Wishes.{ask_granted, cancel_granted, end_granted, given_if, mapped, merge_granted, plan_granted, purge_granted, restart_granted, start_granted}
use Rattle.world_law.proofs.Allowed.{AllFlagged, Allows, Fresh, OwnTasks}
use Rattle.world_law.proofs.Owned.{booked_first, leads_first, own_after, task_of_all}
use Rattle.world_law.proofs.FreshKeys.{attempt_fresh, booking_fresh}
use Rattle.world_law.proofs.NewRows.{accepted_now}
use Rattle.world_law.proofs.RowChanges.{alone_flags}
use Rattle.world_law.proofs.Walked.{Guarded}

-- ---- the lead of a key
peer_is : (names : ℕ → List ℕ) (peers : List Peer) (number : ℕ) (p : Peer) → AllByRecursion (λ p. p.name ≡ names p.number) peers → find_peer peers number ≡ Some p → p.name ≡ names number
peer_is names [] number p all e = cc
peer_is names (q ∷ qs) number p all e = go (q.number == number) refl e (peer_is names qs number p all.1)
  where
    go : (b : Bool) → (q.number == number) ≡ b → cond b (Some q) (find_peer qs number) ≡ Some p → (find_peer qs number ≡ Some p → p.name ≡ names number) → p.name ≡ names number
    go true f g later =
        let same : q ≡ p = cc in
        let at : q.number ≡ number = grind (arith, nat_tests, f) in
        ap (λ x. x.name) (sym same) ∙ all.0 ∙ ap names at
    go false f g later = later g

-- who leads and sends has the name that the world gives it
pub lead_named : (names : ℕ → List ℕ) (c : Config) → All (λ p. p.name ≡ names p.number) c.peers → (sender : ℕ) (k : RunKey) (lead : List ℕ) → lead_name c sender k ≡ Some lead → (k.lead ≡ sender) × (lead ≡ names sender)
lead_named names c peers sender k lead e =
    let g = given_if (k.lead == sender) (option_map (λ p. p.name) (find_peer c.peers sender)) lead e in
    let x = mapped (λ p. p.name) (find_peer c.peers sender) lead g.1 in
    (grind (arith, nat_tests, g.0), sym x.2 ∙ peer_is names c.peers sender x.0 (recursion_from_All (λ (p : Peer). p.name ≡ names p.number) c.peers peers) x.1)

-- ---- rows
none_is : (o : Option RunRow) → IsNone o → o ≡ None
none_is None e = refl
none_is (Some r) e = cc

-- a row of this lead that it never asked about has no other participant
led_alone : (self : ℕ) (tasks : List TaskRow) (r : RunRow) → HasLead self tasks r None → r.key.lead ≡ self → AllFlagged r
led_alone self tasks r lead own = alone_flags r (lead own).1

-- ---- an acceptance that is heard
means_accepted : (body : OrderBody) (heard : PeerAnswer) → meaning_of body heard ≡ meaning.Told answer.Accepted → (m : ℕ) × (p : Proposal) × (heard ≡ said.Accepted m) × (body ≡ order.Propose p)
means_accepted (order.Propose p) (said.Accepted m) e = (m, p, refl, refl)
means_accepted (order.Free q) (said.Denied d) e = go (denies_question d) e
  where
    go : (b : Bool) → cond b (meaning.Denied d) meaning.Nothing ≡ meaning.Told answer.Accepted → (m : ℕ) × (p : Proposal) × (said.Denied d ≡ said.Accepted m) × (order.Free q ≡ order.Propose p)
    go true f = cc
    go false f = cc
means_accepted (order.Free q) (said.Free free) e = cc
means_accepted order.Confirm (said.Confirmed m) e = cc
means_accepted order.Confirm said.Unknown e = cc
means_accepted order.Confirm (said.Denied (denial.Closed state)) e = cc
means_accepted order.Cancel said.Dropped e = cc
means_accepted (order.Material text) said.MaterialHeard e = cc
means_accepted order.Result (said.Result text) e = cc
means_accepted order.Result (said.Denied (denial.Closed state)) e = cc
means_accepted body heard e = cc

-- ---- each input, of a settled book, with its changes at the books that the earlier ones left
module _ (names : ℕ → List ℕ) (c : Config) (config : IsConfig c) (named : c.name ≡ names c.number) (peers : All (λ p. p.name ≡ names p.number) c.peers) (m : ℕ) (b : Book) (i : Input) where
  -- where the change can be made and the book is lawful
  abbrev P : Book → Change → Type 0
  P a ch = CanApply a ch → Lawful c.number a → OwnTasks c.name a.tasks → Allows names c.number m i a ch

  book_allows : (class : Class) (priority : ℤ) (start len : ℕ) → AllAlong P m b (outcome_of c m b (input.Book class priority start len)).list
  book_allows class priority start len = book_along P m c b class priority start len (λ p is fits.
      let key : p.key ≡ booking_key c.number (greatest_number c.number 0 b.rows + 1) = ap (λ q. q.key) is in
      let lead : p.key.lead ≡ c.number = ap (λ k. k.lead) key in
      let task : p.key.task ≡ 0 = ap (λ k. k.task) key in
      let hosts : List (List ℕ) = participants p.test c.name in (
        (λ can lawful own. (ap (λ n. participants p.test n) (named ∙ ap names (sym lead)), inl (lead, task, subst (λ k. Fresh b.rows k) (sym key) (booking_fresh c.number b.rows), ap (λ t. slice_get (participants t c.name) 0) (ap (λ q. q.test) is) ∙ booked_first class len c.name ∙ ap Some (named ∙ ap names (sym lead)), ap (λ q. q.asker.server) is ∙ named ∙ ap names (sym lead)))),
        ((λ can lawful own. booked p hosts lead (fresh p key) lawful), tt),
      ))
    where
      fresh : (p : Proposal) → p.key ≡ booking_key c.number (greatest_number c.number 0 b.rows + 1) → find_row b.rows p.key ≡ None
      fresh p key = go (find_row b.rows p.key) refl
        where
          same : (k : RunKey) → key_cmp k k ≡ Less → ⊥
          same k e = let equal : key_cmp k k ≡ Equal = key_cmp_same k in cc

          go : (o : Option RunRow) → find_row b.rows p.key ≡ o → o ≡ None
          go None e = refl
          go (Some r) e = absurd (same p.key (subst (λ k. Fresh b.rows k) (sym key) (booking_fresh c.number b.rows) p.key r e refl refl))

      booked : (p : Proposal) (hosts : List (List ℕ)) → p.key.lead ≡ c.number → find_row b.rows p.key ≡ None → Lawful c.number (apply m (Accepted p hosts (latest_epoch b)) b) →
          Allows names c.number m i (apply m (Accepted p hosts (latest_epoch b)) b) (Confirmed p.key)
      booked p hosts lead none lawful =
          let after : Book = apply m (Accepted p hosts (latest_epoch b)) b in
          let at : find_row after.rows p.key ≡ Some (accepted_row m p hosts) = accepted_now m b p hosts (latest_epoch b) none in
          let row = lawful_at c.number after lawful p.key (accepted_row m p hosts) at in
          inr (lead, with_row after p.key AllFlagged (accepted_row m p hosts) at (led_alone c.number after.tasks (accepted_row m p hosts) row.lead lead))

  propose_allows : (sender : ℕ) (p : Proposal) → i ≡ input.Propose sender p → AllAlong P m b (outcome_of c m b (input.Propose sender p)).list
  propose_allows sender p is = propose_along P m c b sender p (λ lead at new can lawful own.
      let x = lead_named names c peers sender p.key lead at in
      let name : lead ≡ names p.key.lead = x.1 ∙ ap names (sym x.0) in
      (ap (λ n. participants p.test n) name, inr (is ∙ ap (λ n. input.Propose n p) (sym x.0), other_lead c sender p.key lead config at, soon lead new can lawful)))
    where
      soon : (lead : List ℕ) → decide (place_of c b lead) b.rows m p ≡ New → IsNone (find_row b.rows p.key) → Lawful c.number b → m ≤ p.start
      soon lead new none lawful = go ((accepts_exactly (place_of c b lead) b.rows m p lawful.ascending).0 (subst IsAcceptance (sym new) tt))
        where
          go : MayAccept (place_of c b lead) b.rows m p → m ≤ p.start
          go (inl stands) = let found = stands.found in let gone : find_row b.rows p.key ≡ None = none_is (find_row b.rows p.key) none in cc
          go (inr x) = x.1.to_come

  confirm_allows : (sender : ℕ) (k : RunKey) → i ≡ input.Confirm sender k → AllAlong P m b (outcome_of c m b (input.Confirm sender k)).list
  confirm_allows sender k is = confirm_along P m c b sender k (λ lead r at found unclosed can lawful own.
      let key : r.key ≡ k = find_row-key b.rows k r found in
      let x = lead_named names c peers sender k lead at in
      let same : i ≡ input.Confirm k.lead k = is ∙ ap (λ n. input.Confirm n k) (sym x.0) in
      inl (subst (λ j. i ≡ input.Confirm j.lead j) (sym key) same))

  hear_allows : (o : Order) (heard : PeerAnswer) → i ≡ input.Heard o heard → AllAlong P m b (outcome_of c m b (input.Heard o heard)).list
  hear_allows o heard is = hear_along P m c b o heard (λ r x told found asked at means can lawful own. fact r told found asked means lawful) (λ r x why found asked at moves can lawful own. tt)
    where
      own : (r : RunRow) → IsTrue (is_some r.asked) → HasLead c.number b.tasks r r.asked → r.key.lead ≡ c.number
      own r asked lead = go r.asked asked lead
        where
          go : (a : Option ℕ) → is_some a ≡ true → HasLead c.number b.tasks r a → r.key.lead ≡ c.number
          go None e l = cc
          go (Some n) e l = l.0

      fact : (r : RunRow) (told : Answer) → find_row b.rows o.key ≡ Some r → is_some r.asked ≡ true → meaning_of o.body heard ≡ meaning.Told told → Lawful c.number b → Allows names c.number m i b (fact_of r.key o.place told)
      fact r (answer.Free free) found asked means lawful = tt
      fact r (answer.Acknowledged what) found asked means lawful = tt
      fact r (answer.Result result) found asked means lawful = tt
      fact r answer.Accepted found asked means lawful =
          let x = means_accepted o.body heard means in
          (own r asked (lawful_at c.number b lawful o.key r found).lead, (o, x.0, x.1, is ∙ ap (λ a. input.Heard o a) x.2, sym (find_row-key b.rows o.key r found), refl, x.3))

  -- ---- a turn
  objected : (a : Book) (r : RunRow) (start : ℕ) (tool : List ℕ) (o : Option Denial) → find_row a.rows r.key ≡ Some r → (w : Range) × (r.question ≡ Some w) × IsIn w start → Allows names c.number m i a (unless_objected c a (planned_proposal r start tool) o)
  objected a r start tool None at inside = with_row a r.key _ r at inside
  objected a r start tool (Some d) at inside = tt

  of_plan : (a : Book) (r : RunRow) → find_row a.rows r.key ≡ Some r → (v : Plan) → ((start : ℕ) (tool : List ℕ) → v ≡ At start tool → (w : Range) × (r.question ≡ Some w) × IsIn w start) → Allows names c.number m i a (change_of_plan c a m r v)
  of_plan a r at (At start tool) inside = objected a r start tool _ at (inside start tool refl)
  of_plan a r at NoTool inside = tt
  of_plan a r at NoSlot inside = tt

  asked_plan : (a : Book) (r : RunRow) → find_row a.rows r.key ≡ Some r → (o : Option Range) → Allows names c.number m i a (plan_asked c a m r o)
  asked_plan a r at None = tt
  asked_plan a r at (Some w) = of_plan a r at _ (λ start tool e. let x = planned_inside (wanted_tools (find_task a.tasks r.key.task)) r (own_answer c a m r w) m start tool e in (x.0, x.1, x.2))

  turn_allows : AllAlong P m b (outcome_of c m b input.Turn).list
  turn_allows = turn_along P m c
      (λ a r ch at e can lawful own. let g = end_granted c m a r ch e in subst (λ x. Allows names c.number m i a x) g.is (result_short r.test (tool_view c r g.started) g.outcome (lawful_at c.number a lawful r.key r at).row.test))
      (λ a r ch at e can lawful own. let g = merge_granted c m a r ch e in subst (λ x. Allows names c.number m i a x) g.is tt)
      (λ a r ch at e can lawful own. let g = start_granted m a r ch e in subst (λ x. Allows names c.number m i a x) g.is tt)
      (λ a r ch at e can lawful own. let g = plan_granted c m a r ch e in subst (λ x. Allows names c.number m i a x) g.1 (asked_plan a r at r.question))
      (λ a t ch at e can lawful own. let g = ask_granted c m a t ch e in subst (λ x. Allows names c.number m i a x) g.is (asks a t g.attempt at g.next lawful (own t.serial t at)))
      (λ a r ch at e can lawful own. let g = purge_granted c m a r ch e in subst (λ x. Allows names c.number m i a x) g.1 (with_row a r.key (λ s. IsTrue (is_purgeable c.number m a.rows s)) r at g.0))
      b
    where
      asks : (a : Book) (t : TaskRow) (x : Attempt) → find_task a.tasks t.serial ≡ Some t → next_attempt c.number a.rows m t ≡ Some x → Lawful c.number a → t.asker.server ≡ c.name → Allows names c.number m i a (asked_change c t x)
      asks a t x at next lawful own = (
        ap (λ n. participants t.task.test n) named,
        refl,
        attempt_fresh c.number t a.rows m x lawful.ascending next,
        leads_first t.task.test c.name (subst (λ n. leads n t.task.test ≡ true) own (task_of_all (IsLawfulTask a.moment) t.serial t a.tasks (recursion_from_All (IsLawfulTask a.moment) a.tasks lawful.tasks) at).task.lead) ∙ ap Some named,
        (t, at, attempt_allowed c.number t a.rows m x next),
        own ∙ named,
      )

  pub input_allows : AllAlong P m b (outcome_of c m b i).list
  input_allows = go i refl
    where
      go : (j : Input) → i ≡ j → AllAlong P m b (outcome_of c m b j).list
      go (input.Book class priority start len) is = book_allows class priority start len
      go (input.Post task requester) is = post_along P m c b task requester (λ room can lawful own. named)
      go (input.Cancel serial requester) is =
          cancel_along P m c b serial requester (λ t found fresh can lawful own. tt) (λ number a r ch at e can lawful own. let g = cancel_granted c.number number a r ch e in subst (λ x. Allows names c.number m i a x) g.2 tt)
      go (input.View page) is = view_along P m c b page
      go (input.Free sender question) is = free_along P m c b sender question
      go (input.Propose sender proposal) is = propose_allows sender proposal is
      go (input.Confirm sender key) is = confirm_allows sender key is
      go (input.Drop sender key) is = drop_along P m c b sender key (λ r found booked fresh can lawful own. tt)
      go (input.Collect sender key) is = collect_along P m c b sender key
      go (input.Material sender key text) is = material_along P m c b sender key (λ r found active can lawful own. tt)
      go (input.Heard o heard) is = hear_allows o heard is
      go (input.Tried key index good retry) is = tried_along P m c b key index good retry (λ r s a found state archive due can lawful own. tt)
      go input.Turn is = turn_allows
      go input.Open is = open_along P m c b (λ first can lawful own. tt) (λ a r ch at e can lawful own. let g = restart_granted c a r ch e in subst (λ x. Allows names c.number m i a x) g.1 (result_short r.test (tool_view c r (unwrap_or r.started 0)) Restarted (lawful_at c.number a lawful r.key r at).row.test))
      go (input.Limits limits) is = limits_along P m c b limits (λ short room can lawful own. tt)

  -- ---- all together
  can_along : (cs : List Change) (a : Book) → Lawful c.number a → OwnTasks c.name a.tasks → CanApplyAll c.number m cs a → AllAlong P m a cs → AllAlong (AcceptsGranted c) m a cs → AllAlong (Guarded names c.number m i c) m a cs
  can_along [] a lawful own can allows grants = tt
  can_along (ch ∷ cs) a lawful own can allows grants =
      let allowed = allows.0 can.0 lawful own in
      ((can.0, lawful, allowed, grants.0), can_along cs (apply m ch a) can.1 (subst (λ n. OwnTasks n (apply m ch a).tasks) (sym named) (own_after names c.number m i ch a (subst (λ n. OwnTasks n a.tasks) named own) allowed)) can.2 allows.1 grants.1)

  pub input_guarded : Lawful c.number b → OwnTasks c.name b.tasks → CanApplyAll c.number m (outcome_of c m b i).list b → AllAlong (Guarded names c.number m i c) m b (outcome_of c m b i).list
  input_guarded lawful own can = can_along (outcome_of c m b i).list b lawful own can input_allows (step_granted c m b lawful.ascending i)
