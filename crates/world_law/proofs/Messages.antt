-- What a message brings is within bounds: hosts write no other.
use Rattle.std.specs.Cmp.Derive.{both_true}
use Rattle.std.specs.List.{AllByRecursion, list_all, list_any}
use Rattle.std.specs.Prelude.{All, IfSome, bytes_eq, filter, nat_le, nat_lt}
use Rattle.std.proofs.Common.{◌≡◌, ◌≤◌, ◌||◌, ℕ, Bool, true, false, cond, not, List, [], ◌∷◌, length, Option, Some, None, is_some, option_map, unwrap_or, refl, sym, ap, ◌∙◌, subst, arith}
use Rattle.std.proofs.lemmas.Bool.Decides.{nat_tests}
use Rattle.std.proofs.lemmas.List.Elements.{All-from_recursion}
use Rattle.ps_time.specs.Numbers.{greatest_moment, most_kept_bytes, most_result_bytes, most_rows}
use Rattle.ps_time.specs.Span.{Range, Span}
use Rattle.ps_time.specs.Starts.{is_within, lies_in}
use Rattle.ps_time.specs.declared.key.RunKey.{RunKey}
use Rattle.ps_time.proofs.PictureLemmas.{and_true}
use Rattle.plugin_core.specs.Bounds.{IsTest}
use Rattle.plugin_core.specs.Kind.{test_kind}
use Rattle.plugin_core.specs.Participants.{is_named, participants}
use Rattle.plugin_core.specs.ReadTest.{all_differ}
use Rattle.plugin_core.specs.TestSpec.{test_class, test_length}
use Rattle.plugin_core.specs.declared.test_spec.TestSpec.{TestSpec}
use Rattle.plugin_tool.specs.Choice.{is_tool_for, tool_of_text}
use Rattle.run_states.specs.Content.{kept_proposal, same_content, start_of_span}
use Rattle.run_states.specs.LawfulRow.{IsDenial, IsProposal, IsResultText, IsUpTo, IsWindow, Reserves}
use Rattle.run_states.specs.Life.{closed_state, first_there, is_active}
use Rattle.run_states.specs.ResultBytes.{result_bytes}
use Rattle.run_states.specs.Rows.{find_row}
use Rattle.run_states.specs.declared.proposal.Proposal.{Proposal}
use Rattle.run_states.specs.declared.proposal.Question.{Question}
use Rattle.run_states.specs.declared.row.Ending.{Ending}
use Rattle.run_states.specs.declared.row.RunRow.{RunRow}
use Rattle.run_states.specs.declared.why.Closing.{Closing}
use Rattle.run_states.specs.declared.why.Denial.{Denial}
use Rattle.run_states.specs.declared.why.Denial.TheVariants as denial
use Rattle.run_states.specs.declared.why.What.TheVariants.{Results, Runs}
use Rattle.host_model.specs.Apply.{settled}
use Rattle.host_model.specs.Book.{Book, limits_in, moment_at}
use Rattle.host_model.specs.Collect.{collect, hear_material, heard_material, material_at, result_reply, told_result}
use Rattle.host_model.specs.Conditions.{IsAnswer, IsConfig, IsFreeHeard, IsInput, MayStep}
use Rattle.host_model.specs.Confirm.{confirm, confirm_changes, confirm_reply, confirm_standing, drop_changes, drop_run, part_reply}
use Rattle.host_model.specs.Fits.{denial_of, full_denial, objection, place_of, unless, wanted_span}
use Rattle.host_model.specs.FreeStarts.{free, free_answer, free_here}
use Rattle.host_model.specs.FreeTier.{AreApart, IsFreeStart, IsFreeableStart, IsTier}
use Rattle.host_model.specs.Lawful.{Lawful}
use Rattle.host_model.specs.LawfulRow.{IsHostRow}
use Rattle.host_model.specs.Propose.{answered, decide, decided_at, decided_known, decided_new, decided_outcome, for_lead, lead_name, propose}
use Rattle.host_model.specs.Step.{step_reply}
use Rattle.host_model.specs.declared.change.Change.TheVariants.{MaterialHeard as material_change}
use Rattle.host_model.specs.declared.config.Config.{Config}
use Rattle.host_model.specs.declared.order.OrderBody.{OrderBody}
use Rattle.host_model.specs.declared.order.OrderBody.TheVariants as order
use Rattle.host_model.specs.declared.part.Decision.{Decision}
use Rattle.host_model.specs.declared.part.Decision.TheVariants.{New, Known, Denied}
use Rattle.host_model.specs.declared.part.PartReply.TheVariants.{Dropped as dropped_here}
use Rattle.host_model.specs.declared.reply.Outcome.{Outcome}
use Rattle.host_model.specs.declared.reply.Reply.TheVariants.{Denied as denied_reply, Free as free_reply, MaterialHeard, NotRunning}
use Rattle.host_model.proofs.RowFacts.{lawful_at}
use Rattle.host_model.proofs.SettledBook.{book_settled}
use Rattle.host_model.proofs.TierLemmas.{free_tiers_are}
use Rattle.host_model.proofs.TurnBrings.{objection_within}
use Rattle.world_law.specs.Events.{Right}
use Rattle.world_law.specs.Laws.{BoundOrder}
use Rattle.world_law.specs.World.{World, heard_as, input_of, row_at}
use Rattle.world_law.proofs.Guards.{lead_named}
use Rattle.world_law.proofs.Invariant.{Inv}
use Rattle.world_law.proofs.Shown.{known_row}

-- ---- lists
either_false : (a b : Bool) → (a || b) ≡ false → (a ≡ false) × (b ≡ false)
either_false true b e = cc
either_false false b e = (refl, e)

or_right : (a b : Bool) → b ≡ true → (a || b) ≡ true
or_right true b e = refl
or_right false b e = e

or_left : (a b : Bool) → a ≡ true → (a || b) ≡ true
or_left true b e = refl
or_left false b e = cc

not_is : (b : Bool) → not b ≡ true → b ≡ false
not_is true e = cc
not_is false e = refl

-- what no element passes, none of those that a test leaves passes
any_filter : {X : Type 0} (t p : X → Bool) (xs : List X) → list_any t xs ≡ false → list_any t (filter p xs) ≡ false
any_filter t p [] e = e
any_filter t p (x ∷ xs) e = go (p x) (any_filter t p xs (either_false (t x) (list_any t xs) e).1)
  where
    go : (b : Bool) → list_any t (filter p xs) ≡ false → list_any t (cond b (x ∷ filter p xs) (filter p xs)) ≡ false
    go true rest = ap (λ y. y || list_any t (filter p xs)) (either_false (t x) (list_any t xs) e).0 ∙ rest
    go false rest = rest

all_filter : {X : Type 0} (t p : X → Bool) (xs : List X) → list_all t xs ≡ true → list_all t (filter p xs) ≡ true
all_filter t p [] e = e
all_filter t p (x ∷ xs) e = go (p x) (all_filter t p xs (and_true (t x) (list_all t xs) e).1)
  where
    go : (b : Bool) → list_all t (filter p xs) ≡ true → list_all t (cond b (x ∷ filter p xs) (filter p xs)) ≡ true
    go true rest = both_true (and_true (t x) (list_all t xs) e).0 rest
    go false rest = rest

differ_filter : (p : List ℕ → Bool) (xs : List (List ℕ)) → all_differ xs ≡ true → all_differ (filter p xs) ≡ true
differ_filter p [] e = e
differ_filter p (x ∷ xs) e = go (p x) (differ_filter p xs (and_true (not (is_named x xs)) (all_differ xs) e).1)
  where
    go : (b : Bool) → all_differ (filter p xs) ≡ true → all_differ (cond b (x ∷ filter p xs) (filter p xs)) ≡ true
    go true rest = both_true (ap not (any_filter (λ other. bytes_eq other x) p xs (not_is (is_named x xs) (and_true (not (is_named x xs)) (all_differ xs) e).0))) rest
    go false rest = rest

-- ---- windows
-- each window of a tier lies in the window that was asked about
tier_windows : (P : ℕ → Type 0) (w : Range) (tier : List Range) → IsTier P w tier → w.last ≤ greatest_moment → All IsWindow tier
tier_windows P w tier is low = All-from_recursion IsWindow tier (each tier is.apart (λ s e. let x = (is.sound s e).0.1 in omega (arith, x, low)))
  where
    each : (ws : List Range) → AreApart ws → ((s : ℕ) → lies_in ws s ≡ true → s ≤ greatest_moment) → AllByRecursion IsWindow ws
    each [] apart f = tt
    each (x ∷ ws) apart f =
        let order : x.first ≤ x.last = apart.0 in
        let first : nat_le x.first x.last ≡ true = grind (arith, nat_tests, order) in
        let last : nat_le x.last x.last ≡ true = grind (arith, nat_tests) in
        (record { ordered = order; last = f x.last (or_left (is_within x x.last) (lies_in ws x.last) (both_true first last)) }, each ws apart.2 (λ s e. f s (or_right (is_within x s) (lies_in ws s) e)))

-- ---- rows
-- a moment that may be there, or another one
upto : (n : ℕ) → n ≤ greatest_moment → (o : Option ℕ) → IsUpTo n o → (d : ℕ) → d ≤ greatest_moment → unwrap_or o d ≤ greatest_moment
upto n low None is d other = other
upto n low (Some x) is d other = omega (arith, is, low)

pub kept_start : (test : TestSpec) (a : Option ℕ) (t : Option (List ℕ)) (i : Option Span) → Reserves test a t i → start_of_span i ≤ greatest_moment
kept_start test None None None has = omega arith
kept_start test (Some a) (Some t) (Some x) has = has.1
kept_start test None None (Some x) has = absurd has
kept_start test None (Some t) i has = absurd has
kept_start test (Some a) None i has = absurd has
kept_start test (Some a) (Some t) None has = absurd has

-- ---- denials
first_in : (o p : Option Denial) → IfSome o IsDenial → IfSome p IsDenial → IfSome (first_there o p) IsDenial
first_in None p one other = other
first_in (Some d) p one other = one

unless_in : (t : Bool) (d : Denial) → IsDenial d → IfSome (unless t d) IsDenial
unless_in true d is = tt
unless_in false d is = is

-- ---- why a host denies a proposal, of its settled book
module _ (c : Config) (b : Book) (m : ℕ) (within : m ≤ greatest_moment) (lawful : Lawful c.number (settled m b)) where
  abbrev now : Book
  now = settled m b

  pub objected_in : (lead : List ℕ) (p : Proposal) → p.start ≤ greatest_moment → IfSome (denial_of (place_of c now lead) now.rows m p) IsDenial
  objected_in lead p low =
      first_in (unless (is_named c.name (participants p.test lead)) denial.NotParticipant) _ (unless_in (is_named c.name (participants p.test lead)) denial.NotParticipant tt)
      (first_in (objection c.installed (limits_in c now) now.rows m p) (full_denial now.rows (place_of c now lead).bytes) (objection_within c now m p within low)
      (first_in (unless (nat_lt (length now.rows) most_rows) (denial.Full Runs (length now.rows))) (unless (nat_lt (result_bytes now.rows) most_kept_bytes) (denial.Full Results (result_bytes now.rows)))
      (unless_in (nat_lt (length now.rows) most_rows) (denial.Full Runs (length now.rows)) tt) (unless_in (nat_lt (result_bytes now.rows) most_kept_bytes) (denial.Full Results (result_bytes now.rows)) tt)))

  module _ (lead : List ℕ) (p : Proposal) (sent : IsProposal p) where
    pub denied_in : (o : Option RunRow) → find_row now.rows p.key ≡ o → (d : Denial) → decided_at (place_of c now lead) now.rows m p o ≡ Denied d → IsDenial d
    denied_in None at d e = go (denial_of (place_of c now lead) now.rows m p) (objected_in lead p sent.start) e
      where
        go : (x : Option Denial) → IfSome x IsDenial → decided_new x ≡ Denied d → IsDenial d
        go None is f = cc
        go (Some y) is f = let same : y ≡ d = cc in subst IsDenial same is
    denied_in (Some r) at d e = go (same_content r p (participants p.test lead)) e
      where
        row : IsHostRow c.number now.tasks now.moment r
        row = lawful_at c.number now lawful p.key r at

        kept : IsProposal (kept_proposal r)
        kept = record { test = row.row.test; start = kept_start r.test r.accepted r.tool r.interval row.row.reserves }

        known : (x : Option Closing) → decided_known r x ≡ Denied d → IsDenial d
        known None f = cc
        known (Some y) f = let same : denial.Closed (closed_state y.why) ≡ d = cc in subst IsDenial same tt

        go : (t : Bool) → cond t (decided_known r r.closed) (Denied (denial.Differs (kept_proposal r) p)) ≡ Denied d → IsDenial d
        go true f = known r.closed f
        go false f = let same : denial.Differs (kept_proposal r) p ≡ d = cc in subst IsDenial same (kept, sent)

-- ---- what a host answers to an order, of its settled book
module _ (c : Config) (config : IsConfig c) (b : Book) (m : ℕ) (within : m ≤ greatest_moment) (lawful : Lawful c.number (settled m b))
    (short : (k : RunKey) (r : RunRow) (x : Ending) → find_row (settled m b).rows k ≡ Some r → r.ended ≡ Some x → length x.body ≤ most_result_bytes) (k : RunKey) where
  abbrev s : Book
  s = settled m b

  lead_in : (o : Option (List ℕ)) (next : List ℕ → Outcome) → ((lead : List ℕ) → IsAnswer (heard_as (next lead).reply)) → IsAnswer (heard_as (for_lead o next).reply)
  lead_in None next each = tt
  lead_in (Some lead) next each = each lead

  -- ---- a question
  free_in : (q : Question) → IsWindow q.window → IsFreeHeard (free_answer c.installed s.rows m q)
  free_in q window =
      let tiers = free_tiers_are (test_class q.test) (test_length q.test) q.priority m s.rows lawful.ascending q.window in
      record {
        bounds = record {
          tools = all_filter (λ name. is_some (tool_of_text name)) (is_tool_for (test_kind q.test)) c.installed config.tools;
          first = tier_windows (IsFreeStart s.rows (test_class q.test) (test_length q.test)) q.window (free_answer c.installed s.rows m q).tiers.first tiers.0 window.last;
          second = tier_windows (IsFreeableStart s.rows m (test_class q.test) (test_length q.test) q.priority) q.window (free_answer c.installed s.rows m q).tiers.second tiers.1 window.last;
        };
        different = differ_filter (is_tool_for (test_kind q.test)) c.installed config.different;
        few_first = tiers.0.few;
        few_second = tiers.1.few;
      }

  question_in : (sender : ℕ) (q : Question) → IsWindow q.window → IsAnswer (heard_as (free c s m sender q).reply)
  question_in sender q window = lead_in (lead_name c sender q.key) (free_here c s m q) (λ lead. go (is_named c.name (participants q.test lead)))
    where
      go : (t : Bool) → IsAnswer (heard_as (cond t (answered (free_reply (free_answer c.installed s.rows m q))) (answered (denied_reply denial.NotParticipant))).reply)
      go true = free_in q window
      go false = tt

  -- ---- a proposal
  module _ (lead : List ℕ) (p : Proposal) (sent : IsProposal p) where
    decided_in : (d : Decision) → decide (place_of c s lead) s.rows m p ≡ d → IsAnswer (heard_as (decided_outcome s m lead p d).reply)
    decided_in New e = within
    decided_in (Known n) e =
        let x = known_row (place_of c s lead) s.rows m p n e in
        let row = lawful_at c.number s lawful p.key x.0 x.1 in
        subst (λ y. y ≤ greatest_moment) x.3 (upto m within x.0.accepted row.row.moments.accepted 0 (omega arith))
    decided_in (Denied d) e = denied_in c b m within lawful lead p sent (find_row s.rows p.key) refl d e

  propose_in : (sender : ℕ) (p : Proposal) → IsProposal p → IsAnswer (heard_as (propose c s m sender p).reply)
  propose_in sender p sent = lead_in (lead_name c sender p.key) (λ lead. decided_outcome s m lead p (decide (place_of c s lead) s.rows m p)) (λ lead. decided_in lead p sent (decide (place_of c s lead) s.rows m p) refl)

  -- ---- a confirmation, a cancellation, material
  confirm_in : (sender : ℕ) → IsAnswer (heard_as (confirm c s m sender k).reply)
  confirm_in sender = lead_in (lead_name c sender k) (λ lead. record { reply = part_reply (confirm_reply m (find_row s.rows k)); list = confirm_changes (find_row s.rows k) }) (λ lead. row (find_row s.rows k) refl)
    where
      standing : (r : RunRow) → IsUpTo m r.confirmed → (o : Option Closing) → IsAnswer (heard_as (part_reply (confirm_standing m r o)))
      standing r is (Some y) = tt
      standing r is None = upto m within r.confirmed is m within

      row : (o : Option RunRow) → find_row s.rows k ≡ o → IsAnswer (heard_as (part_reply (confirm_reply m o)))
      row None e = tt
      row (Some r) e = standing r (lawful_at c.number s lawful k r e).row.moments.confirmed r.closed

  drop_in : (sender : ℕ) → IsAnswer (heard_as (drop_run c s sender k).reply)
  drop_in sender = lead_in (lead_name c sender k) (λ lead. record { reply = part_reply dropped_here; list = drop_changes (find_row s.rows k) }) (λ lead. tt)

  material_in : (sender : ℕ) → IsAnswer (heard_as (hear_material c s sender k).reply)
  material_in sender = lead_in (lead_name c sender k) (λ lead. material_at (find_row s.rows k)) (λ lead. row (find_row s.rows k))
    where
      heard : (r : RunRow) (o : Option Closing) → IsAnswer (heard_as (heard_material r o).reply)
      heard r (Some y) = tt
      heard r None = go (is_active r) (is_some r.material)
        where
          go : (t u : Bool) → IsAnswer (heard_as (cond (not t) (answered NotRunning) (cond u (answered MaterialHeard) (record { reply = MaterialHeard; list = material_change r.key ∷ [] }))).reply)
          go false u = tt
          go true true = tt
          go true false = tt

      row : (o : Option RunRow) → IsAnswer (heard_as (material_at o).reply)
      row None = tt
      row (Some r) = heard r r.closed

  -- ---- a result
  collect_in : (sender : ℕ) → IsAnswer (heard_as (collect c s m sender k).reply)
  collect_in sender = lead_in (lead_name c sender k) (λ lead. answered (result_reply m (find_row s.rows k))) (λ lead. row (find_row s.rows k) refl)
    where
      told : (r : RunRow) → find_row s.rows k ≡ Some r → (o : Option Closing) (x : Option Ending) → r.ended ≡ x → IfSome (option_map (λ e. e.body) x) IsResultText → IsAnswer (heard_as (told_result m r o x))
      told r at (Some y) x e is = tt
      told r at None (Some x) e is = record { bounds = is; short = short k r x at e }
      told r at None None e is = tt

      row : (o : Option RunRow) → find_row s.rows k ≡ o → IsAnswer (heard_as (result_reply m o))
      row None e = tt
      row (Some r) e = told r e r.closed r.ended refl (lawful_at c.number s lawful k r e).row.result

-- a reply to an order, of a host whose results are short, is an answer
pub answer_in : (c : Config) (b : Book) (clock sender : ℕ) (k : RunKey) (body : OrderBody) → MayStep c b clock (input_of sender k body) →
    ((j : RunKey) (r : RunRow) (x : Ending) → find_row (settled (moment_at b clock) b).rows j ≡ Some r → r.ended ≡ Some x → length x.body ≤ most_result_bytes) → IsAnswer (heard_as (step_reply c b clock (input_of sender k body)))
answer_in c b clock sender k body may short = go body may
  where
    low : (i : _) → MayStep c b clock i → moment_at b clock ≤ greatest_moment
    low i may = omega (arith, may.book.moment, may.moment)

    lawful : (i : _) → MayStep c b clock i → Lawful c.number (settled (moment_at b clock) b)
    lawful i may = book_settled c.number b (moment_at b clock) (omega arith) (low i may) may.book

    go : (x : OrderBody) → MayStep c b clock (input_of sender k x) → IsAnswer (heard_as (step_reply c b clock (input_of sender k x)))
    go (order.Propose p) may = propose_in c may.config b (moment_at b clock) (low _ may) (lawful _ may) short k sender p (record { test = may.bounds.0; start = may.bounds.1 })
    go order.Confirm may = confirm_in c may.config b (moment_at b clock) (low _ may) (lawful _ may) short k sender
    go order.Cancel may = drop_in c may.config b (moment_at b clock) (low _ may) (lawful _ may) short k sender
    go order.Result may = collect_in c may.config b (moment_at b clock) (low _ may) (lawful _ may) short k sender
    go (order.Free q) may = question_in c may.config b (moment_at b clock) (low _ may) (lawful _ may) short k sender q may.bounds.1
    go (order.Material text) may = material_in c may.config b (moment_at b clock) (low _ may) (lawful _ may) short k sender

-- ---- an order that was sent is within bounds where it arrives
module _ (w : World) (inv : Inv w) where
  proposed_start : (p : Proposal) (test : TestSpec) (a : Option ℕ) (t : Option (List ℕ)) (i : Option Span) → i ≡ Some (wanted_span p) → Reserves test a t i → p.start ≤ greatest_moment
  proposed_start p test (Some a) (Some t) (Some x) e has = let same : x ≡ wanted_span p = cc in subst (λ y. y.start ≤ greatest_moment) same has.1
  proposed_start p test None None None e has = cc
  proposed_start p test None None (Some x) e has = absurd has
  proposed_start p test None (Some t) i e has = absurd has
  proposed_start p test (Some a) None i e has = absurd has
  proposed_start p test (Some a) (Some t) None e has = absurd has

  pub order_in : (h : ℕ) (k : RunKey) (body : OrderBody) → BoundOrder (row_at w h) k body → (c : Config) (g : ℕ) → Right w.names g c → IsInput c (input_of h k body)
  order_in h k (order.Free q) (r, e, asks) c g right =
      let ok = inv.rows h q.key r e in
      let row = lawful_at h ok.kept.0 ok.kept.1 q.key r ok.kept.2 in
      (subst IsTest asks.test row.row.test, window r.question asks.window row.row.question)
    where
      window : (o : Option Range) → o ≡ Some q.window → IfSome o IsWindow → IsWindow q.window
      window None f is = cc
      window (Some x) f is = let same : x ≡ q.window = cc in subst IsWindow same is
  order_in h k (order.Propose p) (r, e, held) c g right =
      let ok = inv.rows h p.key r e in
      let row = lawful_at h ok.kept.0 ok.kept.1 p.key r ok.kept.2 in
      (subst IsTest held.test row.row.test, proposed_start p r.test r.accepted r.tool r.interval held.interval row.row.reserves, server (lead_name c h p.key) refl)
    where
      server : (o : Option (List ℕ)) → lead_name c h p.key ≡ o → IfSome o (λ lead. p.asker.server ≡ lead)
      server None f = tt
      server (Some lead) f =
          let x = lead_named w.names c right.peers h p.key lead f in
          ap (λ a. a.server) (sym held.asker) ∙ (inv.rows h p.key r e).server x.0 ∙ sym x.1
  order_in h k order.Confirm shows c g right = tt
  order_in h k order.Cancel shows c g right = tt
  order_in h k (order.Material text) shows c g right = tt
  order_in h k order.Result shows c g right = tt
