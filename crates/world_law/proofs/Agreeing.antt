-- The laws of what hosts know of each other.
use Rattle.std.specs.Prelude.{◌==◌, IfSome, IsNone, length, nat_le, nat_lt}
use Rattle.std.proofs.Common.{◌≡◌, ◌≢◌, ◌≤◌, inl, inr, ℕ, Bool, true, false, cond, IsSome, List, Option, Some, None, option_map, slice_get, refl, sym, ap, ◌∙◌, subst, arith}
use Rattle.std.proofs.lemmas.Bool.Decides.{nat_tests}
use Rattle.ps_time.specs.declared.key.RunKey.{RunKey}
use Rattle.plugin_core.specs.Participants.{participants}
use Rattle.run_states.specs.Content.{kept_proposal, same_content}
use Rattle.run_states.specs.LawfulRow.{Needs}
use Rattle.run_states.specs.Life.{first_there, settled_row}
use Rattle.run_states.specs.Rows.{find_row}
use Rattle.run_states.specs.declared.proposal.Proposal.{Proposal}
use Rattle.run_states.specs.declared.row.RunRow.{RunRow}
use Rattle.run_states.specs.declared.why.Closing.{Closing}
use Rattle.run_states.specs.declared.why.Denial.{Denial}
use Rattle.run_states.specs.declared.why.Denial.TheVariants.{Differs, Full, NoTool, NotParticipant, Past}
use Rattle.run_states.specs.declared.why.What.TheVariants.{Results, Runs}
use Rattle.run_states.specs.Preemption.{firm_conflict}
use Rattle.plugin_core.specs.Participants.{is_named}
use Rattle.plugin_core.specs.TestSpec.{test_class}
use Rattle.ps_time.specs.Numbers.{most_kept_bytes, most_rows}
use Rattle.run_states.proofs.ContentLemmas.{content_same}
use Rattle.host_model.specs.Apply.{book_after, settled}
use Rattle.host_model.specs.Book.{Book, moment_at}
use Rattle.host_model.specs.Fits.{Place, conflict_denial, denial_of, full_denial, has_tool, limits_denial, objection, place_of, unless, verdict_of, wanted_span}
use Rattle.host_model.specs.Fitting.{IsAcceptance, MayAccept}
use Rattle.host_model.specs.FreeTier.{IsIn}
use Rattle.host_model.specs.Propose.{decide, decided_at, decided_known, decided_new, decided_outcome, for_lead, lead_name}
use Rattle.host_model.specs.declared.config.Config.{Config}
use Rattle.host_model.specs.declared.part.Decision.{Decision}
use Rattle.host_model.specs.declared.part.Decision.TheVariants.{New, Known, Denied}
use Rattle.host_model.specs.declared.reply.Reply.{Reply}
use Rattle.host_model.specs.declared.reply.Reply.TheVariants as reply
use Rattle.ps_time.specs.declared.asker.Verdict.{Verdict}
use Rattle.ps_time.specs.declared.asker.Verdict.TheVariants.{Permitted}
use Rattle.host_model.proofs.FitLemmas.{accepts_exactly}
use Rattle.host_model.proofs.RowFacts.{lawful_at}
use Rattle.host_model.proofs.SettledRows.{settled_up}
use Rattle.host_model.proofs.StepCan.{other_lead}
use Rattle.world_law.specs.Events.{Event, MayRun, Right, run}
use Rattle.world_law.specs.Laws.{AcceptedWithin, Agrees, AllAccepted, AllBacked, BackedBy, BoundOrder, Has, Holds, Once, ProposedOnce, Safe, SafeRow, SafeStarts, SameContent, SaysDiffers, Scheduled}
use Rattle.world_law.specs.World.{Message, World, row_at, start}
use Rattle.world_law.proofs.Allowed.{StartsIn}
use Rattle.world_law.proofs.Carries.{Alike, settled_alike, settled_find}
use Rattle.world_law.proofs.FitAnswers.{fit_law}
use Rattle.world_law.proofs.Guards.{lead_named}
use Rattle.world_law.proofs.Invariant.{Inv, Timed}
use Rattle.world_law.proofs.Keeping.{always_inv}
use Rattle.world_law.proofs.KeptAnswers.{kept_law}
use Rattle.world_law.proofs.Lawfulness.{StepsFollow, lawful_now, right_now}
use Rattle.world_law.proofs.Pushed.{first_set}
use Rattle.world_law.proofs.Shown.{holds_on, holds_one, kept_of, new_none}
use Rattle.world_law.proofs.Worlds.{booked_law}

-- ---- each message is backed
backed_of : (w : World) → Inv w → AllBacked w
backed_of w inv j l e = go l.reply refl
  where
    go : (o : Option Reply) → l.reply ≡ o → BackedBy w l o
    go None f = (inv.messages j l e).bound
    go (Some said) f = (inv.messages j l e).replied said f

-- ---- rows of one key agree
module _ (w : World) (inv : Inv w) (k : RunKey) where
  -- rows with one content have the same participants
  same_rows : (g h : ℕ) (l r : RunRow) → row_at w g k ≡ Some l → row_at w h k ≡ Some r → (p : Proposal) → Holds p l → Holds p r → SameContent l r
  same_rows g h l r le re p f x = record {
    key = x.key ∙ sym f.key;
    test = x.test ∙ sym f.test;
    tool = x.tool ∙ sym f.tool;
    interval = x.interval ∙ sym f.interval;
    priority = x.priority ∙ sym f.priority;
    participants = (inv.rows h k r re).participants ∙ ap (λ t. participants t (w.names k.lead)) (x.test ∙ sym f.test) ∙ sym (inv.rows g k l le).participants;
    asker = x.asker ∙ sym f.asker;
  }

  agrees : (h : ℕ) (r : RunRow) → row_at w h k ≡ Some r → Agrees w h k r
  agrees h r e =
      let ok = inv.rows h k r e in
      record {
        foreign = λ other. (let x = ok.foreign other in (x.2.0, x.2.1, (x.2.2.accepted, same_rows k.lead h x.2.0 r x.2.1 e x.0 x.2.2 x.1)));
        heard = λ i o f g. ok.heard i (o, f, g);
        confirmed = ok.confirmed;
        whole = ok.whole;
      }

  -- ---- runs that were started
  -- each accepted row of the key has the content of the lead's
  one_content : (p : Proposal) → Has w k.lead k (Holds p) → (q : ℕ) (a : RunRow) → row_at w q k ≡ Some a → IsSome a.accepted → Holds p a
  one_content p (l, le, lh) q a e acc = go (k.lead == q) refl
    where
      foreign : (c : Proposal) × Holds c a × Has w k.lead k (Holds c) → Holds p a
      foreign (c, ch, (z, ze, zh)) =
          let same : z ≡ l = cc in
          let content : c ≡ p = holds_one c p l (subst (Holds c) same zh) lh in
          subst (λ x. Holds x a) content ch

      go : (b : Bool) → (k.lead == q) ≡ b → Holds p a
      go true f =
          let host : k.lead ≡ q = grind (arith, nat_tests, f) in
          let at : row_at w q k ≡ Some l = subst (λ n. row_at w n k ≡ Some l) host le in
          let same : l ≡ a = cc in
          subst (Holds p) same lh
      go false f = foreign ((inv.rows q k a e).foreign (λ host. (let x : (k.lead == q) ≡ true = grind (arith, nat_tests, host) in cc)))

  content_of : (h : ℕ) (r : RunRow) → row_at w h k ≡ Some r → IsSome r.accepted → (p : Proposal) × Holds p r × Has w k.lead k (Holds p)
  content_of h r e acc = go (k.lead == h) refl
    where
      go : (b : Bool) → (k.lead == h) ≡ b → (p : Proposal) × Holds p r × Has w k.lead k (Holds p)
      go true f =
          let host : k.lead ≡ h = grind (arith, nat_tests, f) in
          let x = (inv.rows h k r e).within acc in
          (x.0, x.1, (r, subst (λ n. row_at w n k ≡ Some r) (sym host) e, x.1))
      go false f = (inv.rows h k r e).foreign (λ host. (let x : (k.lead == h) ≡ true = grind (arith, nat_tests, host) in cc))

  accepted_by : (p : Proposal) (h : ℕ) (r : RunRow) → row_at w h k ≡ Some r → Holds p r → Has w k.lead k (Holds p) → Has w k.lead k (λ l. IsSome l.confirmed) → (i : ℕ) (name : List ℕ) → slice_get r.participants i ≡ Some name →
      (q : ℕ) × (name ≡ w.names q) × AcceptedWithin w q k r
  accepted_by p h r e rh (l, le, lh) (c, ce, con) i name at =
      let same : c ≡ l = cc (ce, le) in
      let hosts : l.participants ≡ r.participants = sym (same_rows k.lead h l r le e p lh rh).participants in
      let y = (inv.rows k.lead k l le).whole refl (subst (λ x. IsSome x.confirmed) same con) i name (ap (λ xs. slice_get xs i) hosts ∙ at) in
      (y.0, y.1, within y.0 y.2)
    where
      within : (q : ℕ) → Has w q k (λ a. IsSome a.accepted) → AcceptedWithin w q k r
      within q (a, ae, acc) =
          let x = (inv.rows q k a ae).within acc in
          let mine : Holds p a = one_content p (l, le, lh) q a ae acc in
          let content : x.0 ≡ p = holds_one x.0 p a x.1 mine in
          let held : Holds p x.2.0.row = subst (λ z. Holds z x.2.0.row) content x.2.2 in
          let hosts : x.2.0.row.participants ≡ r.participants = x.2.3 ∙ (same_rows h q r a e ae p rh mine).participants in (
            x.2.0,
            x.2.1,
            record {
              key = held.key ∙ sym rh.key;
              test = held.test ∙ sym rh.test;
              tool = held.tool ∙ sym rh.tool;
              interval = held.interval ∙ sym rh.interval;
              priority = held.priority ∙ sym rh.priority;
              participants = hosts;
              asker = held.asker ∙ sym rh.asker;
            },
            x.2.4,
          )

  -- the lead's row starts as its task allows
  scheduled : (p : Proposal) → Has w k.lead k (Holds p) → Scheduled w k p.start
  scheduled p (l, le, lh) = go ((inv.rows k.lead k l le).timed lh.accepted)
    where
      inside : StartsIn l → Scheduled w k p.start
      inside (x, i, que, at, low) =
          let span : i ≡ wanted_span p = cc (lh.interval) in
          let t = (inv.rows k.lead k l le).question x que in
          inr (t.0.task, (t.0, t.1, refl), t.2 p.start (subst (λ s. IsIn x s.start) span low))

      go : Timed k.lead k l → Scheduled w k p.start
      go (inl n) = absurd (n refl)
      go (inr (inl z)) = inl z
      go (inr (inr z)) = inside z

  safe_row : (h : ℕ) (r : RunRow) → row_at w h k ≡ Some r → IsSome r.started → SafeRow w k r
  safe_row h r e started =
      let ok = inv.rows h k r e in
      let row = lawful_at h ok.kept.0 ok.kept.1 k r ok.kept.2 in
      let con : IsSome r.confirmed = confirmed_of r.started started row.row.life.started in
      let acc : IsSome r.accepted = needs r.confirmed r.accepted con row.row.life.confirmed in
      let x = content_of h r e acc in
      record {
        lead = (x.2.0, x.2.1, same_rows k.lead h x.2.0 r x.2.1 e x.0 x.2.2 x.1);
        interval = wanted_span x.0;
        at = x.1.interval;
        scheduled = scheduled x.0 x.2;
        participants = λ i name at. accepted_by x.0 h r e x.1 x.2 (ok.confirmed con) i name at;
      }
    where
      confirmed_of : (o : Option ℕ) → IsSome o → IfSome o (λ m. IsSome r.confirmed × IsNone r.closed) → IsSome r.confirmed
      confirmed_of None e h = cc
      confirmed_of (Some n) e h = h.0

      needs : (o a : Option ℕ) → IsSome o → Needs o a → IsSome a
      needs None a e n = cc
      needs (Some x) a e n = n

none_some : (o : Option RunRow) (r : RunRow) → o ≡ None → o ≡ Some r → ⊥
none_some o r e f = cc

-- ---- what speaks against a run that is new
-- is never that it differs from its row
abbrev IsOtherDenial : Option Denial → Type 0
IsOtherDenial o = IfSome o (λ d. SaysDiffers (reply.Denied d) → ⊥)

first_other : (o q : Option Denial) → IsOtherDenial o → IsOtherDenial q → IsOtherDenial (first_there o q)
first_other None q f g = g
first_other (Some d) q f g = f

unless_other : (b : Bool) (d : Denial) → (SaysDiffers (reply.Denied d) → ⊥) → IsOtherDenial (unless b d)
unless_other true d f = tt
unless_other false d f = f

limits_other : (v : Verdict) → IsOtherDenial (limits_denial v)
limits_other (Permitted index) = tt
limits_other v = λ f. f

conflict_other : (o : Option RunRow) → IsOtherDenial (conflict_denial o)
conflict_other None = tt
conflict_other (Some r) = λ f. f

denial_other : (place : Place) (rows : List RunRow) (m : ℕ) (p : Proposal) → IsOtherDenial (denial_of place rows m p)
denial_other place rows m p =
    let part : Bool = is_named place.name (participants p.test place.lead) in
    let tool : Bool = has_tool place.installed p in
    let late : Bool = nat_le m p.start in
    let verdict : Verdict = verdict_of place.limits p in
    let firm : Option RunRow = firm_conflict p.key (test_class p.test) (wanted_span p) p.priority m rows in
    let runs : Bool = nat_lt (length rows) most_rows in
    let bytes : Bool = nat_lt place.bytes most_kept_bytes in
    let behind_late = first_other (limits_denial verdict) (conflict_denial firm) (limits_other verdict) (conflict_other firm) in
    let behind_tool = first_other (unless late (Past m p.start)) (first_there (limits_denial verdict) (conflict_denial firm)) (unless_other late (Past m p.start) (λ f. f)) behind_late in
    let against = first_other (unless tool (NoTool p.tool)) (first_there (unless late (Past m p.start)) (first_there (limits_denial verdict) (conflict_denial firm))) (unless_other tool (NoTool p.tool) (λ f. f)) behind_tool in
    let full = first_other (unless runs (Full Runs (length rows))) (unless bytes (Full Results place.bytes)) (unless_other runs (Full Runs (length rows)) (λ f. f)) (unless_other bytes (Full Results place.bytes) (λ f. f)) in
    first_other (unless part NotParticipant) (first_there (objection place.installed place.limits rows m p) (full_denial rows place.bytes)) (unless_other part NotParticipant (λ f. f))
    (first_other (objection place.installed place.limits rows m p) (full_denial rows place.bytes) against full)

never_differs : (place : Place) (rows : List RunRow) (m : ℕ) (p : Proposal) (d : Denial) → denial_of place rows m p ≡ Some d → SaysDiffers (reply.Denied d) → ⊥
never_differs place rows m p d e f = (subst IsOtherDenial e (denial_other place rows m p)) f

-- ---- once
module _ (follow : StepsFollow) (w : World) (inv : Inv w) (l : Message) (p : Proposal) (bound : Has w l.asker p.key (Holds p)) (clock : ℕ) where
  abbrev h : ℕ
  h = l.asked

  abbrev b : Book
  b = (w.hosts l.asked).now.book

  abbrev c : Config
  c = (w.hosts l.asked).now.config

  abbrev m : ℕ
  m = moment_at b clock

  abbrev s : Book
  s = settled m b

  right : Right w.names h c
  right = right_now follow w inv.orderly h

  -- a row of the key that another host leads has the content of the proposal
  foreign_holds : (r : RunRow) → p.key.lead ≢ h → l.asker ≡ p.key.lead → row_at w h p.key ≡ Some r → Holds p r
  foreign_holds r other sender e = go bound ((inv.rows h p.key r e).foreign other)
    where
      go : Has w l.asker p.key (Holds p) → (x : Proposal) × Holds x r × Has w p.key.lead p.key (Holds x) → Holds p r
      go (x, xe, xh) (q, qh, (y, ye, yh)) =
          let at : row_at w p.key.lead p.key ≡ Some x = subst (λ z. row_at w z p.key ≡ Some x) sender xe in
          let same : y ≡ x = cc (at, ye) in
          subst (λ z. Holds z r) (holds_one q p x (subst (Holds q) same yh) xh) qh

  module _ (lead : List ℕ) (named : lead_name c l.asker p.key ≡ Some lead) where
    sender : l.asker ≡ p.key.lead
    sender = sym (lead_named w.names c right.peers l.asker p.key lead named).0

    other : p.key.lead ≢ h
    other own = other_lead c l.asker p.key lead right.config named (own ∙ sym right.number)

    present : (r : RunRow) → find_row b.rows p.key ≡ Some r → row_at w h p.key ≡ Some r
    present r e = first_set (find_row b.rows p.key) _ r e

    -- what was accepted isn't new
    not_new : Has w h p.key (λ r. IsSome r.accepted) → decide (place_of c s lead) s.rows m p ≡ New → ⊥
    not_new (r, e, acc) new = go (find_row b.rows p.key) refl ((accepts_exactly (place_of c s lead) s.rows m p (settled_up m b.rows (lawful_now follow w inv.orderly h).ascending)).0 (subst IsAcceptance (sym new) tt))
      where
        none_new : find_row s.rows p.key ≡ None
        none_new = new_none (place_of c s lead) s.rows m p new

        go : (o : Option RunRow) → find_row b.rows p.key ≡ o → MayAccept (place_of c s lead) s.rows m p → ⊥
        go o f (inl stands) = none_some (find_row s.rows p.key) stands.row none_new stands.found
        go (Some q) f (inr x) = none_some (find_row s.rows p.key) (settled_row m q) none_new (settled_find m b.rows p.key ∙ ap (option_map (settled_row m)) f)
        go None f (inr x) =
            let past = (inv.dead h p.key r e f).past (wanted_span p) (foreign_holds r other sender e).interval in
            let soon = x.1.to_come in
            let late : b.moment ≤ m = omega arith in
            absurd (omega (arith, past, soon, late))

    -- nor does its row differ
    known_alike : (o : Option RunRow) → find_row s.rows p.key ≡ o → SaysDiffers (decided_outcome s m lead p (decided_at (place_of c s lead) s.rows m p o)).reply → ⊥
    known_alike None e f = none (denial_of (place_of c s lead) s.rows m p) refl f
      where
        none : (d : Option Denial) → denial_of (place_of c s lead) s.rows m p ≡ d → SaysDiffers (decided_outcome s m lead p (decided_new d)).reply → ⊥
        none None g f = f
        none (Some d) g f = never_differs (place_of c s lead) s.rows m p d g f
    known_alike (Some r) e f = go (find_row b.rows p.key) refl
      where
        closed : (r : RunRow) (o : Option Closing) → SaysDiffers (decided_outcome s m lead p (decided_known r o)).reply → ⊥
        closed r None f = f
        closed r (Some x) f = f

        known : (r : RunRow) (o : Option Closing) → same_content r p (participants p.test lead) ≡ true → SaysDiffers (decided_outcome s m lead p (cond (same_content r p (participants p.test lead)) (decided_known r r.closed) (Denied (Differs (kept_proposal r) p)))).reply → ⊥
        known r o same f = closed r r.closed (subst (λ t. SaysDiffers (decided_outcome s m lead p (cond t (decided_known r r.closed) (Denied (Differs (kept_proposal r) p)))).reply) same f)

        go : (o : Option RunRow) → find_row b.rows p.key ≡ o → ⊥
        go None g = none_some (find_row s.rows p.key) r (settled_find m b.rows p.key ∙ ap (option_map (settled_row m)) g) e
        go (Some q) g =
            let at : find_row s.rows p.key ≡ Some (settled_row m q) = settled_find m b.rows p.key ∙ ap (option_map (settled_row m)) g in
            let same : settled_row m q ≡ r = cc (at, e) in
            let like : Alike q r = subst (λ x. Alike q x) same (settled_alike m q) in
            let held : Holds p q = foreign_holds q other sender (present q g) in
            let hosts : r.participants ≡ participants p.test lead = like.participants ∙ (inv.rows h p.key q (present q g)).participants ∙ ap (λ t. participants t (w.names p.key.lead)) held.test ∙ ap (λ n. participants p.test n) (ap w.names (sym sender) ∙ sym (lead_named w.names c right.peers l.asker p.key lead named).1) in
            let content : kept_proposal r ≡ p = kept_of p r (holds_on p q r like held) in
            known r r.closed (content_same r p (participants p.test lead) content hosts) f

  once_here : ProposedOnce w l p clock
  once_here = record { still = λ a. go (lead_name c l.asker p.key) refl a; alike = λ f. alike (lead_name c l.asker p.key) refl f }
    where
      quiet : (lead : List ℕ) (d : Decision) → (d ≡ New → ⊥) → book_after b (record { moment = m; list = (decided_outcome s m lead p d).list }) ≡ b
      quiet lead New n = absurd (n refl)
      quiet lead (Known x) n = refl
      quiet lead (Denied x) n = refl

      go : (o : Option (List ℕ)) → lead_name c l.asker p.key ≡ o → Has w h p.key (λ r. IsSome r.accepted) → book_after b (record { moment = m; list = (for_lead o (λ lead. decided_outcome s m lead p (decide (place_of c s lead) s.rows m p))).list }) ≡ b
      go None e a = refl
      go (Some lead) e a = quiet lead (decide (place_of c s lead) s.rows m p) (not_new lead e a)

      alike : (o : Option (List ℕ)) → lead_name c l.asker p.key ≡ o → SaysDiffers (for_lead o (λ lead. decided_outcome s m lead p (decide (place_of c s lead) s.rows m p))).reply → ⊥
      alike None e f = f
      alike (Some lead) e f = known_alike lead e (find_row s.rows p.key) refl f

once_of : StepsFollow → (w : World) → Inv w → Once w
once_of follow w inv j l e p body clock = once_here follow w inv l p (subst (λ x. BoundOrder (row_at w l.asker) l.order.key x) body (inv.messages j l e).bound) clock

-- ---- the laws
module _ (follow : StepsFollow) (names : ℕ → List ℕ) (configs : ℕ → Config) (known : (h : ℕ) → Right names h (configs h)) (es : List Event) (may : MayRun (start names configs) es) where
  inv_here : Inv (run es (start names configs))
  inv_here = always_inv follow names configs known es may

  pub backed_law : AllBacked (run es (start names configs))
  backed_law = backed_of (run es (start names configs)) inv_here

  pub accepted_law : AllAccepted (run es (start names configs))
  accepted_law h k r e = agrees (run es (start names configs)) inv_here k h r e

  pub once_law : Once (run es (start names configs))
  once_law = once_of follow (run es (start names configs)) inv_here

  pub starts_law : SafeStarts (run es (start names configs))
  starts_law h k r e started = safe_row (run es (start names configs)) inv_here k h r (first_set (find_row ((run es (start names configs)).hosts h).now.book.rows k) _ r e) started

  pub safe_law : Safe (run es (start names configs))
  safe_law = record { booked = booked_law names configs es; started = starts_law; kept = kept_law follow names configs known es may; fit = fit_law names configs es }
