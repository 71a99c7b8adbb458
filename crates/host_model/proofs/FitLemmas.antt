-- The step denies nothing exactly where the run fits, and accepts exactly what it may accept.
use Rattle.std.specs.Bool.{Decides}
use Rattle.std.specs.List.{Contains, list_all}
use Rattle.std.specs.Ordering.{is_eq}
use Rattle.std.proofs.Common.{◌≡◌, ◌≢◌, ◌<◌, ◌≤◌, ◌↔◌, inl, inr, ◌&&◌, ◌||◌, ℕ, Bool, true, false, cond, not, is_none, length, List, [], ◌∷◌, filter, find, IsTrue, Option, Some, None, refl, sym, ap, subst, ◌∙◌}
use Rattle.std.proofs.lemmas.Bool.Decides.{Decides-and, Decides-at, Decides-like, Decides-ltb}
use Rattle.ps_time.specs.Key.{key_cmp}
use Rattle.ps_time.specs.Numbers.{most_kept_bytes, most_rows}
use Rattle.ps_time.specs.declared.asker.Verdict.{Verdict}
use Rattle.ps_time.specs.declared.asker.Verdict.TheVariants.{Permitted, Stopped, Exhausted, AboveCeiling}
use Rattle.ps_time.specs.declared.key.RunKey.{RunKey}
use Rattle.plugin_tool.specs.Choice.{is_tool_for}
use Rattle.plugin_core.specs.Kind.{test_kind}
use Rattle.plugin_core.specs.Participants.{is_named, participants}
use Rattle.plugin_core.specs.TestSpec.{test_class}
use Rattle.run_states.specs.Conflict.{blocks, in_conflict}
use Rattle.run_states.specs.Content.{kept_proposal, same_content}
use Rattle.run_states.specs.Life.{first_there}
use Rattle.run_states.specs.Preemption.{firm_conflict, yields}
use Rattle.run_states.specs.Rows.{IsAscendingRows, find_row}
use Rattle.run_states.specs.declared.proposal.Proposal.{Proposal}
use Rattle.run_states.specs.declared.row.RunRow.{RunRow}
use Rattle.run_states.specs.declared.why.Closing.{Closing}
use Rattle.run_states.specs.declared.why.Denial.{Denial}
use Rattle.run_states.specs.declared.why.Denial.TheVariants.{Differs}
use Rattle.run_states.proofs.ContentLemmas.{content_is, content_same}
use Rattle.host_model.specs.Fits.{Place, conflict_denial, denial_of, fits, full_denial, has_tool, limits_denial, objection, unless, verdict_of, wanted_span}
use Rattle.host_model.specs.Fitting.{Fits, IsAcceptance, IsWayFree, MayAccept}
use Rattle.host_model.specs.Granting.{IsGranted}
use Rattle.host_model.specs.Propose.{decide, decided_at, decided_known, decided_new}
use Rattle.host_model.specs.declared.part.Decision.TheVariants.{Denied}
use Rattle.host_model.proofs.Deciding.{itself, leb_decided, named_decided}
use Rattle.host_model.proofs.Keyed.{key_is, key_of}
use Rattle.host_model.proofs.Placed.{find_row-key}
use Rattle.host_model.proofs.RowTests.{GivesWay, rows_decided, way_decided}

-- ---- reasons one after another
none_first : {A : Type 0} (o p : Option A) → is_none (first_there o p) ≡ (is_none o && is_none p)
none_first None p = refl
none_first (Some a) p = refl

none_unless : (b : Bool) (d : Denial) → is_none (unless b d) ≡ b
none_unless true d = refl
none_unless false d = refl

none_conflict : (o : Option RunRow) → is_none (conflict_denial o) ≡ is_none o
none_conflict None = refl
none_conflict (Some r) = refl

is_none_of : {A : Type 0} (o : Option A) → Decides (is_none o) (o ≡ None)
is_none_of None = ((λ e. refl), (λ e. refl))
is_none_of (Some a) = ((λ e. cc), (λ e. cc))

-- ---- the limits
granted_is : (v : Verdict) → Decides (is_none (limits_denial v)) ((index : ℕ) × (v ≡ Permitted index))
granted_is (Permitted index) = ((λ e. (index, refl)), (λ x. refl))
granted_is (Stopped index) = ((λ e. cc), (λ x. let is = x.1 in cc))
granted_is Exhausted = ((λ e. cc), (λ x. let is = x.1 in cc))
granted_is (AboveCeiling ceiling) = ((λ e. cc), (λ x. let is = x.1 in cc))

-- ---- the rows in conflict
module _ (p : Proposal) (m : ℕ) where
  -- it is the run's own, or gives way
  abbrev passes : RunRow → Bool
  passes r = is_eq (key_cmp r.key p.key) || (not (blocks (test_class p.test) (wanted_span p) r) || yields p.priority m r)

  abbrev Passes : RunRow → Type 0
  Passes r = r.key ≢ p.key → GivesWay (test_class p.test) (wanted_span p) p.priority m r

  passes_at : (r : RunRow) (same : Bool) → is_eq (key_cmp r.key p.key) ≡ same → Decides (same || (not (blocks (test_class p.test) (wanted_span p) r) || yields p.priority m r)) (Passes r)
  passes_at r true e = ((λ t apart. absurd (apart (key_is r.key p.key e))), (λ f. refl))
  passes_at r false e =
      let way = way_decided (test_class p.test) (wanted_span p) p.priority m r in
      ((λ t apart. way.0 t), (λ f. way.1 (f (λ same. let is = key_of r.key p.key same in cc))))

  passes_decided : (r : RunRow) → Decides (passes r) (Passes r)
  passes_decided r = passes_at r (is_eq (key_cmp r.key p.key)) refl

  -- none that is in conflict stays
  firm_one : (own against way : Bool) (r : RunRow) (o : Option RunRow) (rest : Bool) → is_none o ≡ rest → (xs : List RunRow) → find (λ x. not (yields p.priority m x)) xs ≡ o → yields p.priority m r ≡ way →
      is_none (find (λ x. not (yields p.priority m x)) (cond (not own && against) (r ∷ xs) xs)) ≡ ((own || (not against || way)) && rest)
  firm_one true against way r o rest is xs e f = ap is_none e ∙ is
  firm_one false false way r o rest is xs e f = ap is_none e ∙ is
  firm_one false true true r o rest is xs e f = rw (f, e) is
  firm_one false true false r o rest is xs e f = rw f refl

  none_firm : (rows : List RunRow) → is_none (firm_conflict p.key (test_class p.test) (wanted_span p) p.priority m rows) ≡ list_all passes rows
  none_firm [] = refl
  none_firm (r ∷ rs) =
      firm_one (is_eq (key_cmp r.key p.key)) (blocks (test_class p.test) (wanted_span p) r) (yields p.priority m r) r
      (firm_conflict p.key (test_class p.test) (wanted_span p) p.priority m rs) (list_all passes rs) (none_firm rs)
      (filter (in_conflict p.key (test_class p.test) (wanted_span p)) rs) refl refl

  to_way_free : (rows : List RunRow) → ((k : RunKey) (r : RunRow) → find_row rows k ≡ Some r → Passes r) → IsWayFree rows m p
  to_way_free rows all k r i apart e against = all k r e (λ same. apart (sym (find_row-key rows k r e) ∙ same)) i against

  of_way_free : (rows : List RunRow) → IsWayFree rows m p → (k : RunKey) (r : RunRow) → find_row rows k ≡ Some r → Passes r
  of_way_free rows free k r e apart i against = free k r i (λ same. apart (find_row-key rows k r e ∙ same)) e against

  way_free_decided : (rows : List RunRow) → IsAscendingRows rows → Decides (is_none (conflict_denial (firm_conflict p.key (test_class p.test) (wanted_span p) p.priority m rows))) (IsWayFree rows m p)
  way_free_decided rows up =
      Decides-at _ (list_all passes rows) (none_conflict (firm_conflict p.key (test_class p.test) (wanted_span p) p.priority m rows) ∙ none_firm rows)
      (Decides-like (list_all passes rows) (to_way_free rows) (of_way_free rows) (rows_decided passes Passes passes_decided rows up))

-- ---- nothing is held against it
unless_decided : {P : Type 0} (b : Bool) (d : Denial) → Decides b P → Decides (is_none (unless b d)) P
unless_decided b d decides = Decides-at _ b (none_unless b d) decides

first_decided : {P Q A : Type 0} (o p : Option A) → Decides (is_none o) P → Decides (is_none p) Q → Decides (is_none (first_there o p)) (P × Q)
first_decided o p left right = Decides-at _ (is_none o && is_none p) (none_first o p) (Decides-and (is_none o) (is_none p) left right)

module _ (place : Place) (rows : List RunRow) (m : ℕ) (p : Proposal) (up : IsAscendingRows rows) where
  abbrev HasTool : Type 0
  HasTool = Contains place.installed p.tool × IsTrue (is_tool_for (test_kind p.test) p.tool)

  abbrev Granted : Type 0
  Granted = IsGranted place.limits p.asker p.test (wanted_span p) p.priority

  tool_decided : Decides (has_tool place.installed p) HasTool
  tool_decided = Decides-and (is_named p.tool place.installed) (is_tool_for (test_kind p.test) p.tool) (named_decided p.tool place.installed) (itself _)

  objection_decided : Decides (is_none (objection place.installed place.limits rows m p)) (HasTool × ((m ≤ p.start) × (Granted × IsWayFree rows m p)))
  objection_decided =
      first_decided _ _ (unless_decided _ _ tool_decided) (
      first_decided _ _ (unless_decided _ _ (leb_decided m p.start)) (
      first_decided _ _ (granted_is (verdict_of place.limits p)) (way_free_decided p m rows up)))

  -- limits grant a run against which nothing is held
  pub unobjected_granted : objection place.installed place.limits rows m p ≡ None → IsGranted place.limits p.asker p.test (wanted_span p) p.priority
  unobjected_granted none = let parts = objection_decided.0 ((is_none_of (objection place.installed place.limits rows m p)).1 none) in parts.1.1.0

  full_decided : Decides (is_none (full_denial rows place.bytes)) ((length rows < most_rows) × (place.bytes < most_kept_bytes))
  full_decided = first_decided _ _ (unless_decided _ _ (Decides-ltb (length rows) most_rows)) (unless_decided _ _ (Decides-ltb place.bytes most_kept_bytes))

  abbrev Parts : Type 0
  Parts = Contains (participants p.test place.lead) place.name × ((HasTool × ((m ≤ p.start) × (Granted × IsWayFree rows m p))) × ((length rows < most_rows) × (place.bytes < most_kept_bytes)))

  parts_decided : Decides (fits place rows m p) Parts
  parts_decided = first_decided _ _ (unless_decided _ _ (named_decided place.name (participants p.test place.lead))) (first_decided _ _ objection_decided full_decided)

  to_fits : Parts → Fits place rows m p
  to_fits x = record {
    participant = x.0;
    installed = x.1.0.0.0;
    suited = x.1.0.0.1;
    to_come = x.1.0.1.0;
    granted = x.1.0.1.1.0;
    way = x.1.0.1.1.1;
    place_left = x.1.1.0;
    bytes_left = x.1.1.1;
  }

  of_fits : Fits place rows m p → Parts
  of_fits f = (f.participant, (((f.installed, f.suited), (f.to_come, (f.granted, f.way))), (f.place_left, f.bytes_left)))

  fits_decided : Decides (fits place rows m p) (Fits place rows m p)
  fits_decided = Decides-like (fits place rows m p) to_fits of_fits parts_decided

  -- the step denies nothing exactly where the run fits
  pub fits_exactly : (denial_of place rows m p ≡ None) ↔ Fits place rows m p
  fits_exactly =
      ((λ none. fits_decided.0 ((is_none_of (denial_of place rows m p)).1 none)), (λ fit. (is_none_of (denial_of place rows m p)).0 (fits_decided.1 fit)))

  -- ---- and what it accepts
  abbrev names : List (List ℕ)
  names = participants p.test place.lead

  known_is : (r : RunRow) (closed : Option Closing) → IsAcceptance (decided_known r closed) ↔ (closed ≡ None)
  known_is r None = ((λ x. refl), (λ e. tt))
  known_is r (Some c) = ((λ x. absurd x), (λ e. cc))

  new_is : (o : Option Denial) → IsAcceptance (decided_new o) ↔ (o ≡ None)
  new_is None = ((λ x. refl), (λ e. tt))
  new_is (Some d) = ((λ x. absurd x), (λ e. cc))

  to_accept : (o : Option RunRow) → find_row rows p.key ≡ o → IsAcceptance (decided_at place rows m p o) → MayAccept place rows m p
  to_accept None e accepted = inr (e, fits_exactly.0 ((new_is (denial_of place rows m p)).0 accepted))
  to_accept (Some r) e accepted = go (same_content r p names) refl accepted
    where
      go : (b : Bool) → same_content r p names ≡ b → IsAcceptance (cond b (decided_known r r.closed) (Denied (Differs (kept_proposal r) p))) → MayAccept place rows m p
      go true f x = let c = content_is r p names f in inl (record { row = r; found = e; unclosed = (known_is r r.closed).0 x; content = c.0; participants = c.1 })
      go false f x = absurd x

  known_accepted : (r s : RunRow) → s ≡ r → s.closed ≡ None → kept_proposal s ≡ p → s.participants ≡ names → IsAcceptance (decided_at place rows m p (Some r))
  known_accepted r s same unclosed content participants = subst (λ x. IsAcceptance (decided_at place rows m p (Some x))) same (go (same_content s p names) (content_same s p names content participants))
    where
      go : (b : Bool) → b ≡ true → IsAcceptance (cond b (decided_known s s.closed) (Denied (Differs (kept_proposal s) p)))
      go true f = (known_is s s.closed).1 unclosed
      go false f = cc

  of_accept : (o : Option RunRow) → find_row rows p.key ≡ o → MayAccept place rows m p → IsAcceptance (decided_at place rows m p o)
  of_accept None e (inl s) = let never : None ≡ Some s.row = sym e ∙ s.found in cc
  of_accept None e (inr x) = (new_is (denial_of place rows m p)).1 (fits_exactly.1 x.1)
  of_accept (Some r) e (inl s) = let found : Some s.row ≡ Some r = sym s.found ∙ e in let same : s.row ≡ r = cc in known_accepted r s.row same s.unclosed s.content s.participants
  of_accept (Some r) e (inr x) = let never : Some r ≡ None = sym e ∙ x.0 in cc

  -- a proposal is accepted exactly where its row stands unclosed with its content, or no row has its key and it fits
  pub accepts_exactly : IsAcceptance (decide place rows m p) ↔ MayAccept place rows m p
  accepts_exactly = ((λ x. to_accept (find_row rows p.key) refl x), (λ may. of_accept (find_row rows p.key) refl may))
