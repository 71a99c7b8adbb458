-- One change that purges nothing: what became of the row of each key, where the step's guards allow it.
use Rattle.std.proofs.Common.{◌≡◌, ◌≤◌, ◌⊎◌, ◌==◌, ◌&&◌, inl, inr, ◌+◌, ℕ, zero, suc, Bool, true, false, cond, IsNone, IsSome, IsTrue, MatchOption, List, [], ◌∷◌, length, map, Option, Some, None, is_some, option_map, slice_get, refl, sym, ap, ◌∙◌, subst, arith}
use Rattle.std.proofs.lemmas.Bool.Decides.{nat_tests}
use Rattle.ps_time.specs.Key.{key_cmp}
use Rattle.ps_time.specs.Numbers.{most_result_bytes}
use Rattle.ps_time.specs.Span.{Range, Span, span_of}
use Rattle.ps_time.specs.declared.key.RunKey.{RunKey}
use Rattle.ps_time.proofs.PictureLemmas.{and_true}
use Rattle.run_states.specs.Effect.{accept_row, change_other, confirmed_if, is_alone, is_complete, with_acceptance, with_free, with_result, with_told}
use Rattle.run_states.specs.Life.{first_there, is_booked}
use Rattle.run_states.specs.LawfulRow.{HasOrigin, Reserves}
use Rattle.run_states.specs.Life.{confirm_row, end_row}
use Rattle.run_states.specs.declared.answer.Other.{Other}
use Rattle.plugin_core.specs.TestSpec.{test_length}
use Rattle.host_model.specs.LawfulRow.{HasLead, IsHostRow}
use Rattle.host_model.specs.FreeTier.{IsIn}
use Rattle.host_model.specs.NewRow.{all_unheard, unheard}
use Rattle.host_model.specs.declared.task_row.TaskRow.{TaskRow}
use Rattle.run_states.specs.Preemption.{give_way, planned_span}
use Rattle.run_states.specs.Rows.{find_row}
use Rattle.ps_time.specs.declared.asker.Asker.{Asker}
use Rattle.run_states.specs.declared.proposal.Proposal.{Proposal}
use Rattle.run_states.specs.declared.proposal.Question.{Question}
use Rattle.run_states.specs.declared.row.Ending.{Ending}
use Rattle.run_states.specs.declared.row.RunRow.{RunRow}
use Rattle.run_states.proofs.EffectLemmas.{change_length}
use Rattle.ps_time.specs.Sorted.{find_key, insert_key}
use Rattle.host_model.specs.Apply.{apply, new_pair, purged_key, put_new, put_pair, without_pair, without_row}
use Rattle.host_model.specs.Book.{Book, epoch_of, find_pair, find_task, latest_epoch}
use Rattle.host_model.specs.Effect.{change_key, effect, has_key}
use Rattle.host_model.specs.Fits.{wanted_span}
use Rattle.host_model.specs.Granting.{AcceptsGranted, IsGrantedUnder, limits_of_epoch}
use Rattle.host_model.specs.Grown.{Remains}
use Rattle.host_model.specs.Lawful.{Lawful}
use Rattle.host_model.specs.MayFollow.{CanApply, WithRow}
use Rattle.host_model.specs.NewRow.{accepted_row, asked_row, new_row}
use Rattle.host_model.specs.Preemption.{incoming}
use Rattle.host_model.specs.declared.change.Change.{Change}
use Rattle.host_model.specs.declared.change.Change.TheVariants.{Posted, TaskClosed, Accepted, Asked, Planned, Confirmed, Ended, FreeHeard, AcceptHeard, Told as told_there, ResultHeard, LimitsSet, Purged}
use Rattle.host_model.specs.declared.config.Config.{Config}
use Rattle.host_model.specs.declared.input.Input.{Input}
use Rattle.host_model.proofs.AcceptedKeys.{none_accepted}
use Rattle.host_model.proofs.KeyedLists.{keys_has, own_key}
use Rattle.host_model.proofs.Placed.{find_row-key, put_from, put_keeps}
use Rattle.host_model.proofs.RowFacts.{lawful_at}
use Rattle.host_model.proofs.Standing.{changed_key, changed_row, find_row-map}
use Rattle.host_model.proofs.Keyed
use Rattle.world_law.proofs.Allowed.{AcceptCause, AllFlagged, Allows, AskedIn, BornCause, ConfirmCause, HasFlag, HeardAccepted, TimedCause, Was}
use Rattle.world_law.proofs.Carries.{Alike, Carries, changed_carries, way_alike}
use Rattle.world_law.proofs.Moves.{Moved, moved_alike}
use Rattle.world_law.proofs.RowChanges.{alone_flags, complete_flags, flag_comes, flag_stays, free_same, result_same, told_same}

-- it purges no row
abbrev pub IsStaying : Change → Type 0
IsStaying (Purged k) = ⊥
IsStaying c = Unit {0}

-- it accepts no run and asks about none
abbrev pub IsIdle : Change → Type 0
IsIdle (Accepted p hosts epoch) = ⊥
IsIdle (Asked q hosts asker) = ⊥
IsIdle (Planned k start tool epoch) = ⊥
IsIdle c = Unit {0}

-- tasks and epochs stay as they are
abbrev pub IsSteady : Change → Type 0
IsSteady (Posted t) = ⊥
IsSteady (TaskClosed serial) = ⊥
IsSteady (LimitsSet l) = ⊥
IsSteady c = Unit {0}

-- ---- limits of an epoch
limits_same : (c : Config) (a d : Book) (n : ℕ) → a.epochs ≡ d.epochs → limits_of_epoch c a n ≡ limits_of_epoch c d n
limits_same c a d zero e = refl
limits_same c a d (suc n) e = ap (λ es. slice_get es n) e

granted_same : (c : Config) (a d : Book) (asker : _) (test : _) (s : Span) (priority : _) → a.epochs ≡ d.epochs → IsGrantedUnder c a (latest_epoch a) asker test s priority → IsGrantedUnder c d (latest_epoch d) asker test s priority
granted_same c a d asker test s priority e x =
    (x.0, sym (limits_same c a d (latest_epoch d) e) ∙ ap (λ n. limits_of_epoch c a n) (ap length (sym e)) ∙ x.1, x.2)

-- ---- pairs
-- a run that isn't accepted has no pair
no_pair : (self : ℕ) (a : Book) (k : RunKey) → Lawful self a → ((r : RunRow) → find_row a.rows k ≡ Some r → is_some r.accepted ≡ false) → find_pair a.pairs k ≡ None
no_pair self a k lawful none =
    let has_none = none_accepted k a.rows lawful.ascending none in
    let same = keys_has (λ p. p.0) a.pairs k in
    go (find_pair a.pairs k) (same ∙ ap (λ ks. is_some (find_key key_cmp own_key ks k)) lawful.pairs.keys ∙ has_none)
  where
    go : (o : Option (RunKey × ℕ)) → is_some o ≡ false → o ≡ None
    go None e = refl
    go (Some p) e = cc

-- it gets one
pair_comes : (k : RunKey) (epoch : ℕ) (pairs : List (RunKey × ℕ)) → find_pair pairs k ≡ None → option_map (λ p. p.1) (find_pair (put_pair (Some (k, epoch)) pairs) k) ≡ Some epoch
pair_comes k epoch pairs none = go (find_pair pairs k) refl none
  where
    go : (o : Option (RunKey × ℕ)) → find_pair pairs k ≡ o → o ≡ None → option_map (λ p. p.1) (find_pair (cond (is_some o) pairs (insert_key key_cmp (λ p. p.0) pairs (k, epoch))) k) ≡ Some epoch
    go None e f = ap (option_map (λ p. p.1)) (Keyed.at-put (λ p. p.0) (k, epoch) pairs k e ∙ ap (λ t. cond t (Some (k, epoch)) (find_pair pairs k)) (Keyed.key_same k))
    go (Some p) e f = cc

-- what was there stays
pairs_stay : (o : Option (RunKey × ℕ)) (pairs : List (RunKey × ℕ)) (k : RunKey) → Remains (option_map (λ p. p.1) (find_pair pairs k)) (option_map (λ p. p.1) (find_pair (put_pair o pairs) k))
pairs_stay None pairs k n e = e
pairs_stay (Some q) pairs k n e = go (find_pair pairs k) refl n e
  where
    go : (o : Option (RunKey × ℕ)) → find_pair pairs k ≡ o → Remains (option_map (λ p. p.1) o) (option_map (λ p. p.1) (find_pair (put_pair (Some q) pairs) k))
    go None f n e = cc
    go (Some p) f n e = ap (option_map (λ p. p.1)) (Keyed.put_keeps (λ p. p.0) q pairs k p f) ∙ e

-- ---- what a fact about another participant leaves
module _ (f : Other → Other) where
  other_accepted : (place : ℕ) (r : RunRow) → (change_other f place r).accepted ≡ r.accepted
  other_accepted zero r = refl
  other_accepted (suc j) r = refl

  other_confirmed : (place : ℕ) (r : RunRow) → (change_other f place r).confirmed ≡ r.confirmed
  other_confirmed zero r = refl
  other_confirmed (suc j) r = refl

  other_question : (place : ℕ) (r : RunRow) → (change_other f place r).question ≡ r.question
  other_question zero r = refl
  other_question (suc j) r = refl

  other_ended : (place : ℕ) (r : RunRow) → (change_other f place r).ended ≡ r.ended
  other_ended zero r = refl
  other_ended (suc j) r = refl

  other_participants : (place : ℕ) (r : RunRow) → (change_other f place r).participants ≡ r.participants
  other_participants zero r = refl
  other_participants (suc j) r = refl

  other_count : (place : ℕ) (r : RunRow) → length (change_other f place r).others ≡ length r.others
  other_count zero r = refl
  other_count (suc j) r = change_length f j r.others

-- all flagged, also where only the closing differs
like_flags : (q w : RunRow) → Alike q w → AllFlagged q → AllFlagged w
like_flags q w like f j name e =
    let x = f j name (ap (λ xs. slice_get xs (suc j)) (sym like.participants) ∙ e) in
    (x.0, ap (λ xs. slice_get xs j) like.others ∙ x.1, x.2)

-- what is known of all others of a row that this host leads: one of each, or there are none
counted : (self : ℕ) (tasks : List TaskRow) (n : ℕ) (q : RunRow) → IsHostRow self tasks n q → q.key.lead ≡ self → (length q.others + 1 ≡ length q.participants) ⊎ (length q.participants ≡ 1)
counted self tasks n q row own = go q.asked row.row.origin row.lead
  where
    go : (o : Option ℕ) → HasOrigin q o → HasLead self tasks q o → (length q.others + 1 ≡ length q.participants) ⊎ (length q.participants ≡ 1)
    go (Some asked) origin lead = inl origin.1
    go None origin lead = inr (lead own).1

-- a row with a question is one that this host leads
questioned : (self : ℕ) (tasks : List TaskRow) (n : ℕ) (q : RunRow) (w : Range) → IsHostRow self tasks n q → q.question ≡ Some w → q.key.lead ≡ self
questioned self tasks n q w row e = go q.asked row.row.origin row.lead
  where
    go : (o : Option ℕ) → HasOrigin q o → HasLead self tasks q o → q.key.lead ≡ self
    go (Some asked) origin lead = lead.0
    go None origin lead = let none : is_some q.question ≡ false = origin.1 in let some : is_some q.question ≡ true = ap is_some e in cc

-- what isn't accepted has no interval
unreserved : (self : ℕ) (tasks : List TaskRow) (n : ℕ) (q : RunRow) → IsHostRow self tasks n q → is_some q.accepted ≡ false → q.interval ≡ None
unreserved self tasks n q row none = go q.accepted q.tool q.interval none row.row.reserves
  where
    go : (x : Option ℕ) (t : Option (List ℕ)) (s : Option Span) → is_some x ≡ false → Reserves q.test x t s → s ≡ None
    go (Some x) t s e has = cc
    go None None None e has = refl
    go None (Some t) s e has = absurd has
    go None None (Some s) e has = absurd has

-- what holds of the row of a key holds of the row that is found with it
pub with_found : (a : Book) (k : RunKey) (P : RunRow → Type 0) (q : RunRow) → WithRow a k P → find_row a.rows k ≡ Some q → P q
with_found a k P q there at = subst (λ o. MatchOption o ⊥ P) at there

-- of a host with this number in a world with these names, at m, for an input; the book at the end is d
module _ (names : ℕ → List ℕ) (self m : ℕ) (i : Input) (c : Config) (d : Book) where
  -- what is new in a row that was there
  record Facets (k : RunKey) (q r : RunRow) (e : Option ℕ) : Type 0 where
    accepted : IsSome r.accepted → IsSome q.accepted ⊎ (AcceptCause c d r × (e ≡ Some (latest_epoch d)))
    confirmed : IsSome r.confirmed → IsSome q.confirmed ⊎ ConfirmCause names self m i k r
    flag : (j : ℕ) → HasFlag j r → HasFlag j q ⊎ ((k.lead ≡ self) × HeardAccepted i k (suc j))
    question : r.question ≡ q.question
    short : (x : Ending) → r.ended ≡ Some x → (q.ended ≡ Some x) ⊎ (length x.body ≤ most_result_bytes)
    timed : IsSome r.accepted → IsSome q.accepted ⊎ TimedCause names self m i k r

  quiet : (k : RunKey) (q r : RunRow) (e : Option ℕ) → r.accepted ≡ q.accepted → r.confirmed ≡ q.confirmed → r.others ≡ q.others → r.question ≡ q.question → r.ended ≡ q.ended → Facets k q r e
  quiet k q r e acc con oth que end = record {
    accepted = λ x. inl (subst (λ o. IsSome o) acc x);
    confirmed = λ x. inl (subst (λ o. IsSome o) con x);
    flag = λ j x. inl (x.0, ap (λ xs. slice_get xs j) (sym oth) ∙ x.1, x.2);
    question = que;
    short = λ x h. inl (sym end ∙ h);
    timed = λ x. inl (subst (λ o. IsSome o) acc x);
  }

  of_facets : (a : Book) (k : RunKey) (q r : RunRow) (e : Option ℕ) → find_row a.rows k ≡ Some q → Carries q r → Remains (epoch_of a k) e → Facets k q r e → Moved names self m i c d a k (Some r) e
  of_facets a k q r e at on epoch f = record {
    grown = λ x g. let same : q ≡ x = cc in (r, refl, subst (λ y. Carries y r) same on);
    epoch = epoch;
    born = λ x none g. let never : None ≡ Some q = sym none ∙ at in cc;
    accepted = λ x g. subst (λ y. IsSome y.accepted → Was (find_row a.rows k) (λ z. IsSome z.accepted) ⊎ (AcceptCause c d y × (e ≡ Some (latest_epoch d)))) (is x g) (λ z. elim (f.accepted z) [ inl y ↦ inl (q, at, y) | inr y ↦ inr y ]);
    confirmed = λ x g. subst (λ y. IsSome y.confirmed → Was (find_row a.rows k) (λ z. IsSome z.confirmed) ⊎ ConfirmCause names self m i k y) (is x g) (λ z. elim (f.confirmed z) [ inl y ↦ inl (q, at, y) | inr y ↦ inr y ]);
    flag = λ x j g. subst (λ y. HasFlag j y → Was (find_row a.rows k) (HasFlag j) ⊎ ((k.lead ≡ self) × HeardAccepted i k (suc j))) (is x g) (λ z. elim (f.flag j z) [ inl y ↦ inl (q, at, y) | inr y ↦ inr y ]);
    question = λ x w g h. inl (q, at, sym f.question ∙ subst (λ y. y.question ≡ Some w) (sym (is x g)) h);
    short = λ x y g. subst (λ z. z.ended ≡ Some y → Was (find_row a.rows k) (λ v. v.ended ≡ Some y) ⊎ (length y.body ≤ most_result_bytes)) (is x g) (λ z. elim (f.short y z) [ inl v ↦ inl (q, at, v) | inr v ↦ inr v ]);
    timed = λ x g. subst (λ y. IsSome y.accepted → Was (find_row a.rows k) (λ z. IsSome z.accepted) ⊎ TimedCause names self m i k y) (is x g) (λ z. elim (f.timed z) [ inl y ↦ inl (q, at, y) | inr y ↦ inr y ]);
  }
    where
      is : (x : RunRow) → Some r ≡ Some x → r ≡ x
      is x g = cc

  -- ---- the effect of each change on the row of its key, which was q and may be closed by now
  module _ (a : Book) (lawful : Lawful self a) (k : RunKey) (q w : RunRow) (at : find_row a.rows k ≡ Some q) (like : Alike q w) (e : Option ℕ) where
    row_is : IsHostRow self a.tasks a.moment q
    row_is = lawful_at self a lawful k q at

    key_is_k : q.key ≡ k
    key_is_k = find_row-key a.rows k q at

    like_quiet : (r : RunRow) → r.accepted ≡ w.accepted → r.confirmed ≡ w.confirmed → r.others ≡ w.others → r.question ≡ w.question → r.ended ≡ w.ended → Facets k q r e
    like_quiet r acc con oth que end = quiet k q r e (acc ∙ like.accepted) (con ∙ like.confirmed) (oth ∙ like.others) (que ∙ like.question) (end ∙ like.ended)

    flag_back : (j : ℕ) → HasFlag j w → HasFlag j q
    flag_back j x = (x.0, ap (λ xs. slice_get xs j) (sym like.others) ∙ x.1, x.2)

    -- a fact about another participant that is no acceptance
    other_facets : (f : Other → Other) → ((o : Other) → (f o).accepted ≡ o.accepted) → (place : ℕ) → Facets k q (change_other f place w) e
    other_facets f same place = record {
      accepted = λ x. inl (subst (λ o. IsSome o) (other_accepted f place w ∙ like.accepted) x);
      confirmed = λ x. inl (subst (λ o. IsSome o) (other_confirmed f place w ∙ like.confirmed) x);
      flag = λ j x. inl (flag_back j (flag_stays f same place w j x));
      question = other_question f place w ∙ like.question;
      short = λ x h. inl (sym (other_ended f place w ∙ like.ended) ∙ h);
      timed = λ x. inl (subst (λ o. IsSome o) (other_accepted f place w ∙ like.accepted) x);
    }

    -- a confirmation
    confirm_facets : ConfirmCause names self m i k q → Facets k q (confirm_row m w) e
    confirm_facets cause = record {
      accepted = λ x. inl (subst (λ o. IsSome o) like.accepted x);
      confirmed = λ x. inr (elim cause [ inl f ↦ inl f | inr f ↦ inr (f.0, like_flags q w like f.1) ]);
      flag = λ j x. inl (flag_back j x);
      question = like.question;
      short = λ x h. inl (sym like.ended ∙ h);
      timed = λ x. inl (subst (λ o. IsSome o) like.accepted x);
    }

    -- an end
    end_facets : (x : Ending) → length x.body ≤ most_result_bytes → Facets k q (end_row x w) e
    end_facets x bound = record {
      accepted = λ y. inl (subst (λ o. IsSome o) like.accepted y);
      confirmed = λ y. inl (subst (λ o. IsSome o) like.confirmed y);
      flag = λ j y. inl (flag_back j y);
      question = like.question;
      short = λ y. ends w.ended refl y;
      timed = λ y. inl (subst (λ o. IsSome o) like.accepted y);
    }
      where
        ends : (o : Option Ending) → w.ended ≡ o → (y : Ending) → first_there o (Some x) ≡ Some y → (q.ended ≡ Some y) ⊎ (length y.body ≤ most_result_bytes)
        ends None f y h = let same : x ≡ y = cc in inr (subst (λ z. length z.body ≤ most_result_bytes) same bound)
        ends (Some z) f y h = inl (sym like.ended ∙ f ∙ h)

    -- an acceptance that was heard
    module _ (place : ℕ) (own : k.lead ≡ self) (heard : HeardAccepted i k place) where
      abbrev told : RunRow
      told = change_other with_acceptance place w

      told_flags : is_complete told ≡ true → AllFlagged told
      told_flags all = elim (counted self a.tasks a.moment q row_is (ap (λ j. j.lead) key_is_k ∙ own)) [
        | inl count ↦ complete_flags told (ap (λ n. n + 1) (other_count with_acceptance place w ∙ ap length like.others) ∙ count ∙ ap length (sym (other_participants with_acceptance place w ∙ like.participants))) all
        | inr one ↦ alone_flags told (ap length (other_participants with_acceptance place w ∙ like.participants) ∙ one)
      ]

      heard_facets : (b : Bool) → (is_booked told && is_complete told) ≡ b → Facets k q (confirmed_if b m told) e
      heard_facets false is = record {
        accepted = λ x. inl (subst (λ o. IsSome o) (other_accepted with_acceptance place w ∙ like.accepted) x);
        confirmed = λ x. inl (subst (λ o. IsSome o) (other_confirmed with_acceptance place w ∙ like.confirmed) x);
        flag = λ j x. flags j x;
        question = other_question with_acceptance place w ∙ like.question;
        short = λ x h. inl (sym (other_ended with_acceptance place w ∙ like.ended) ∙ h);
        timed = λ x. inl (subst (λ o. IsSome o) (other_accepted with_acceptance place w ∙ like.accepted) x);
      }
        where
          flags : (j : ℕ) → HasFlag j told → HasFlag j q ⊎ ((k.lead ≡ self) × HeardAccepted i k (suc j))
          flags j x = elim (flag_comes place w j x) [ inl y ↦ inl (flag_back j y) | inr y ↦ inr (own, subst (λ n. HeardAccepted i k n) y heard) ]
      heard_facets true is = record {
        accepted = λ x. inl (subst (λ o. IsSome o) (other_accepted with_acceptance place w ∙ like.accepted) x);
        confirmed = λ x. inr (inr (own, flagged));
        flag = λ j x. flags j x;
        question = other_question with_acceptance place w ∙ like.question;
        short = λ x h. inl (sym (other_ended with_acceptance place w ∙ like.ended) ∙ h);
        timed = λ x. inl (subst (λ o. IsSome o) (other_accepted with_acceptance place w ∙ like.accepted) x);
      }
        where
          flagged : AllFlagged (confirm_row m told)
          flagged = λ j name f. told_flags (and_true (is_booked told) _ is).1 j name f

          flags : (j : ℕ) → HasFlag j told → HasFlag j q ⊎ ((k.lead ≡ self) × HeardAccepted i k (suc j))
          flags j x = elim (flag_comes place w j x) [ inl y ↦ inl (flag_back j y) | inr y ↦ inr (own, subst (λ n. HeardAccepted i k n) y heard) ]

    -- a run that is planned
    module _ (start : ℕ) (tool : List ℕ) (none : is_some q.accepted ≡ false) (ask : Range) (asked : q.question ≡ Some ask) (inside : IsIn ask start)
        (grant : IsGrantedUnder c d (latest_epoch d) q.asker q.test (planned_span start q) q.priority) (named : e ≡ Some (latest_epoch d)) where
      abbrev made : RunRow
      made = accept_row m (planned_span start w) tool w

      span_same : planned_span start w ≡ planned_span start q
      span_same = ap (λ t. span_of start (test_length t)) like.test

      at_span : made.interval ≡ Some (planned_span start q)
      at_span = ap (λ o. first_there o (Some (planned_span start w))) (like.interval ∙ unreserved self a.tasks a.moment q row_is none) ∙ ap Some span_same

      cause : (r : RunRow) → r.interval ≡ made.interval → r.asker ≡ w.asker → r.test ≡ w.test → r.priority ≡ w.priority → AcceptCause c d r
      cause r same asker test priority = (
        planned_span start q,
        same ∙ at_span,
        subst (λ x. IsGrantedUnder c d (latest_epoch d) x r.test (planned_span start q) r.priority) (sym (asker ∙ like.asker))
            (subst (λ x. IsGrantedUnder c d (latest_epoch d) q.asker x (planned_span start q) r.priority) (sym (test ∙ like.test))
            (subst (λ x. IsGrantedUnder c d (latest_epoch d) q.asker q.test (planned_span start q) x) (sym (priority ∙ like.priority)) grant)),
      )

      planned_facets : (b : Bool) → (is_booked made && is_alone made) ≡ b → Facets k q (confirmed_if b m made) e
      planned_facets false is = record {
        accepted = λ x. inr (cause made refl refl refl refl, named);
        confirmed = λ x. inl (subst (λ o. IsSome o) like.confirmed x);
        flag = λ j x. inl (flag_back j x);
        question = like.question;
        short = λ x h. inl (sym like.ended ∙ h);
        timed = λ x. inr (inr (inr (ask, planned_span start q, like.question ∙ asked, at_span, inside)));
      }
      planned_facets true is = record {
        accepted = λ x. inr (cause (confirm_row m made) refl refl refl refl, named);
        confirmed = λ x. inr (inr (own, alone_flags (confirm_row m made) one));
        flag = λ j x. inl (flag_back j x);
        question = like.question;
        short = λ x h. inl (sym like.ended ∙ h);
        timed = λ x. inr (inr (inr (ask, planned_span start q, like.question ∙ asked, at_span, inside)));
      }
        where
          own : k.lead ≡ self
          own = ap (λ j. j.lead) (sym key_is_k) ∙ questioned self a.tasks a.moment q ask row_is asked

          one : length w.participants ≡ 1
          one = let t : (length w.participants == 1) ≡ true = (and_true (is_booked made) _ is).1 in grind (arith, nat_tests)

  -- each change, where the row of its key is q, that is w by now, and the run's epoch is e afterwards
  effect_facets : (a : Book) (ch : Change) → Lawful self a → CanApply a ch → Allows names self m i a ch → AcceptsGranted c a ch → IsIdle ch ⊎ ((a.epochs ≡ d.epochs) × (a.tasks ≡ d.tasks)) →
      (k : RunKey) (q w : RunRow) → find_row a.rows k ≡ Some q → Alike q w → change_key ch ≡ Some k → (e : Option ℕ) → e ≡ option_map (λ p. p.1) (find_pair (put_pair (new_pair ch) a.pairs) k) → Facets k q (effect m a.tasks ch w) e
  effect_facets a (Planned k start tool epoch) lawful can allows granted steady key q w at like own e pairs = plan steady
    where
      is : k ≡ key
      is = cc

      here : find_row a.rows k ≡ Some q
      here = subst (λ j. find_row a.rows j ≡ Some q) (sym is) at

      none : is_some q.accepted ≡ false
      none = (with_found a k (λ r. IsNone r.accepted × IsNone r.closed) q can here).0

      ask : (x : Range) × (q.question ≡ Some x) × IsIn x start
      ask = with_found a k _ q allows here

      grant : a.epochs ≡ d.epochs → IsGrantedUnder c d (latest_epoch d) q.asker q.test (planned_span start q) q.priority
      grant same =
          let r = granted.1.row in
          let row : r ≡ q = cc (granted.1.found, here) in
          let g : IsGrantedUnder c a (latest_epoch a) r.asker r.test (planned_span start r) r.priority = subst (λ n. IsGrantedUnder c a n r.asker r.test (planned_span start r) r.priority) granted.0 granted.1.granted in
          granted_same c a d q.asker q.test (planned_span start q) q.priority same (subst (λ x. IsGrantedUnder c a (latest_epoch a) x.asker x.test (planned_span start x) x.priority) row g)

      named : a.epochs ≡ d.epochs → e ≡ Some (latest_epoch d)
      named same =
          let comes = pair_comes k epoch a.pairs (no_pair self a k lawful (λ r f. let row : q ≡ r = cc (here, f) in subst (λ x. is_some x.accepted ≡ false) row none)) in
          pairs ∙ subst (λ j. option_map (λ p. p.1) (find_pair (put_pair (Some (k, epoch)) a.pairs) j) ≡ Some epoch) is comes ∙ ap Some (granted.0 ∙ ap length same)

      plan : ⊥ ⊎ ((a.epochs ≡ d.epochs) × (a.tasks ≡ d.tasks)) → Facets key q (effect m a.tasks (Planned k start tool epoch) w) e
      plan (inl never) = absurd never
      plan (inr same) = planned_facets a lawful key q w at like e start tool none ask.0 ask.1 ask.2 (grant same.0) (named same.0) _ refl
  effect_facets a (Confirmed k) lawful can allows granted steady key q w at like own e pairs =
      let is : k ≡ key = cc in
      let here : find_row a.rows k ≡ Some q = subst (λ j. find_row a.rows j ≡ Some q) (sym is) at in
      confirm_facets a lawful key q w at like e (subst (λ j. ConfirmCause names self m i j q) is (elim allows [ inl f ↦ inl f | inr f ↦ inr (f.0, with_found a k AllFlagged q f.1 here) ]))
  effect_facets a (AcceptHeard k place) lawful can allows granted steady key q w at like own e pairs =
      let is : k ≡ key = cc in
      heard_facets a lawful key q w at like e place (ap (λ j. j.lead) (sym is) ∙ allows.0) (subst (λ j. HeardAccepted i j place) is allows.1) _ refl
  effect_facets a (Ended k good body) lawful can allows granted steady key q w at like own e pairs = end_facets a lawful key q w at like e (record { moment = m; good = good; body = body }) allows
  effect_facets a (FreeHeard k place answer) lawful can allows granted steady key q w at like own e pairs = other_facets a lawful key q w at like e (with_free answer) (free_same answer) place
  effect_facets a (told_there k place told) lawful can allows granted steady key q w at like own e pairs = other_facets a lawful key q w at like e (with_told told) (told_same told) place
  effect_facets a (ResultHeard k place result) lawful can allows granted steady key q w at like own e pairs = other_facets a lawful key q w at like e (with_result result) (result_same result) place
  effect_facets a ch lawful can allows granted steady key q w at like own e pairs = like_quiet a lawful key q w at like e (effect m a.tasks ch w) refl refl refl refl refl

  -- ---- the row that a change adds
  no_row : (n : RunRow) → None ≡ Some n → ⊥
  no_row n e = cc

  some_row : (n : RunRow) → Some n ≡ None → ⊥
  some_row n e = cc

  new_accepted : (a : Book) (p : Proposal) (hosts : List (List ℕ)) (epoch : ℕ) → Lawful self a → Allows names self m i a (Accepted p hosts epoch) → AcceptsGranted c a (Accepted p hosts epoch) → (a.epochs ≡ d.epochs) × (a.tasks ≡ d.tasks) →
      (k : RunKey) (n : RunRow) → Some (accepted_row m p hosts) ≡ Some n → n.key ≡ k → find_row a.rows k ≡ None → (e : Option ℕ) → Remains (epoch_of a k) e → e ≡ option_map (λ p. p.1) (find_pair (put_pair (Some (p.key, epoch)) a.pairs) k) → Moved names self m i c d a k (Some n) e
  new_accepted a p hosts epoch lawful allows granted same k n new key none e kept pairs =
      let row : accepted_row m p hosts ≡ n = cc in
      subst (λ x. Moved names self m i c d a k (Some x) e) row (record {
        grown = λ x f. let never : None ≡ Some x = sym none ∙ f in cc;
        epoch = kept;
        born = λ x f g. subst (λ y. BornCause names self m i a.rows k y) (is x g) birth;
        accepted = λ x f g. inr (subst (λ y. AcceptCause c d y) (is x f) cause, named);
        confirmed = λ x f g. let b : IsSome (accepted_row m p hosts).confirmed = subst (λ y. IsSome y.confirmed) (sym (is x f)) g in cc;
        flag = λ x j f g. let b : HasFlag j (accepted_row m p hosts) = subst (HasFlag j) (sym (is x f)) g in absurd (no_flag j b);
        short = λ x y f g. let b : (accepted_row m p hosts).ended ≡ Some y = subst (λ z. z.ended ≡ Some y) (sym (is x f)) g in cc;
        question = λ x v f g. let b : (accepted_row m p hosts).question ≡ Some v = subst (λ y. y.question ≡ Some v) (sym (is x f)) g in cc;
        timed = λ x f g. inr (elim allows.1 [ inl y ↦ inr (inl (ap (λ j. j.task) (sym at) ∙ y.1)) | inr y ↦ inl (λ own. y.1 (ap (λ j. j.lead) at ∙ own)) ]);
      })
    where
      at : p.key ≡ k
      at = cc

      is : (x : RunRow) → Some (accepted_row m p hosts) ≡ Some x → accepted_row m p hosts ≡ x
      is x f = cc

      no_flag : (j : ℕ) → HasFlag j (accepted_row m p hosts) → ⊥
      no_flag zero x = let y = x.1 in cc
      no_flag (suc j) x = let y = x.1 in cc

      birth : BornCause names self m i a.rows k (accepted_row m p hosts)
      birth = subst (λ j. BornCause names self m i a.rows j (accepted_row m p hosts)) at (
        allows.0,
        elim allows.1 [
          | inl y ↦ inl (y.0, y.2, y.3, y.4)
          | inr y ↦ inr (p, y.0, record { key = refl; test = refl; tool = refl; interval = refl; priority = refl; asker = refl; accepted = refl }, y.1, y.2)
        ],
      )

      cause : AcceptCause c d (accepted_row m p hosts)
      cause = (wanted_span p, refl, granted_same c a d p.asker p.test (wanted_span p) p.priority same.0 (subst (λ x. IsGrantedUnder c a x p.asker p.test (wanted_span p) p.priority) granted.0 granted.1))

      named : e ≡ Some (latest_epoch d)
      named =
          let comes = pair_comes p.key epoch a.pairs (no_pair self a p.key lawful (λ r f. let never : None ≡ Some r = sym none ∙ subst (λ j. find_row a.rows j ≡ Some r) at f in cc)) in
          pairs ∙ subst (λ j. option_map (λ x. x.1) (find_pair (put_pair (Some (p.key, epoch)) a.pairs) j) ≡ Some epoch) at comes ∙ ap Some (granted.0 ∙ ap length same.0)

  new_asked : (a : Book) (v : Question) (hosts : List (List ℕ)) (asker : Asker) → Allows names self m i a (Asked v hosts asker) → (a.epochs ≡ d.epochs) × (a.tasks ≡ d.tasks) →
      (k : RunKey) (n : RunRow) → Some (asked_row m v hosts asker) ≡ Some n → n.key ≡ k → find_row a.rows k ≡ None → (e : Option ℕ) → Remains (epoch_of a k) e → Moved names self m i c d a k (Some n) e
  new_asked a v hosts asker allows same k n new key none e kept =
      let row : asked_row m v hosts asker ≡ n = cc in
      subst (λ x. Moved names self m i c d a k (Some x) e) row (record {
        grown = λ x f. let never : None ≡ Some x = sym none ∙ f in cc;
        epoch = kept;
        born = λ x f g. subst (λ y. BornCause names self m i a.rows k y) (is x g) (subst (λ j. BornCause names self m i a.rows j (asked_row m v hosts asker)) at (allows.0, inl (allows.1, allows.2, allows.3, allows.5)));
        accepted = λ x f g. let b : IsSome (asked_row m v hosts asker).accepted = subst (λ y. IsSome y.accepted) (sym (is x f)) g in cc;
        confirmed = λ x f g. let b : IsSome (asked_row m v hosts asker).confirmed = subst (λ y. IsSome y.confirmed) (sym (is x f)) g in cc;
        flag = λ x j f g. let b : HasFlag j (asked_row m v hosts asker) = subst (HasFlag j) (sym (is x f)) g in absurd (no_flag hosts j b);
        short = λ x y f g. let b : (asked_row m v hosts asker).ended ≡ Some y = subst (λ z. z.ended ≡ Some y) (sym (is x f)) g in cc;
        question = λ x u f g. let b : (asked_row m v hosts asker).question ≡ Some u = subst (λ y. y.question ≡ Some u) (sym (is x f)) g in let w : v.window ≡ u = cc in inr (subst (λ y. AskedIn d k y) w asks);
        timed = λ x f g. let b : IsSome (asked_row m v hosts asker).accepted = subst (λ y. IsSome y.accepted) (sym (is x f)) g in cc;
      })
    where
      at : v.key ≡ k
      at = cc

      is : (x : RunRow) → Some (asked_row m v hosts asker) ≡ Some x → asked_row m v hosts asker ≡ x
      is x f = cc

      asks : AskedIn d k v.window
      asks = subst (λ j. AskedIn d j v.window) at (allows.4.0, ap (λ ts. find_task ts v.key.task) (sym same.1) ∙ allows.4.1, allows.4.2)

      unflagged : (xs : List (List ℕ)) (j : ℕ) (o : Other) → slice_get (map (λ name. unheard) xs) j ≡ Some o → IsTrue o.accepted → ⊥
      unflagged [] j o f g = cc
      unflagged (x ∷ xs) zero o f g = let u : unheard ≡ o = cc in let b : IsTrue unheard.accepted = subst (λ y. IsTrue y.accepted) (sym u) g in cc
      unflagged (x ∷ xs) (suc j) o f g = unflagged xs j o f g

      no_flag : (hosts : List (List ℕ)) (j : ℕ) → (o : Other) × (slice_get (all_unheard hosts) j ≡ Some o) × IsTrue o.accepted → ⊥
      no_flag [] j x = let y = x.1 in cc
      no_flag (lead ∷ others) j x = unflagged others j x.0 x.1 x.2

  new_moved : (a : Book) (ch : Change) → Lawful self a → Allows names self m i a ch → AcceptsGranted c a ch → IsIdle ch ⊎ ((a.epochs ≡ d.epochs) × (a.tasks ≡ d.tasks)) →
      (k : RunKey) (n : RunRow) → new_row m ch ≡ Some n → n.key ≡ k → find_row a.rows k ≡ None → (e : Option ℕ) → Remains (epoch_of a k) e → e ≡ option_map (λ p. p.1) (find_pair (put_pair (new_pair ch) a.pairs) k) → Moved names self m i c d a k (Some n) e
  new_moved a (Accepted p hosts epoch) lawful allows granted (inr same) k n new key none e kept pairs = new_accepted a p hosts epoch lawful allows granted same k n new key none e kept pairs
  new_moved a (Asked v hosts asker) lawful allows granted (inr same) k n new key none e kept pairs = new_asked a v hosts asker allows same k n new key none e kept
  new_moved a (Accepted p hosts epoch) lawful allows granted (inl never) k n new key none e kept pairs = absurd never
  new_moved a (Asked v hosts asker) lawful allows granted (inl never) k n new key none e kept pairs = absurd never
  new_moved a ch lawful allows granted steady k n new key none e kept pairs = absurd (no_row n new)

  -- ---- the change
  no_key : (b : Bool) (k : RunKey) (ch : Change) → has_key k (change_key ch) ≡ b → b ≡ true → change_key ch ≡ Some k
  no_key b k ch f g = go (change_key ch) (f ∙ g)
    where
      go : (o : Option RunKey) → has_key k o ≡ true → o ≡ Some k
      go None h = cc
      go (Some j) h = ap Some (sym (Keyed.key_is k j h))

  -- no row comes
  idle_moved : (a : Book) (k : RunKey) (e : Option ℕ) → find_row a.rows k ≡ None → Remains (epoch_of a k) e → (o : Option RunRow) → o ≡ None → Moved names self m i c d a k o e
  idle_moved a k e none kept (Some r) f = absurd (some_row r f)
  idle_moved a k e none kept None f = record {
    grown = λ x g. absurd (no_row x (sym none ∙ g));
    epoch = kept;
    born = λ x g h. absurd (no_row x h);
    accepted = λ x g h. absurd (no_row x g);
    confirmed = λ x g h. absurd (no_row x g);
    flag = λ x j g h. absurd (no_row x g);
    question = λ x v g h. absurd (no_row x g);
    short = λ x y g h. absurd (no_row x g);
    timed = λ x g h. absurd (no_row x g);
  }

  module _ (a : Book) (ch : Change) (stays : IsStaying ch) (lawful : Lawful self a) (can : CanApply a ch) (allows : Allows names self m i a ch) (granted : AcceptsGranted c a ch)
      (steady : IsIdle ch ⊎ ((a.epochs ≡ d.epochs) × (a.tasks ≡ d.tasks))) (k : RunKey) where
    abbrev f : RunRow → RunRow
    f = changed_row m a.tasks ch a.rows

    none_goes : (x : Change) → IsStaying x → purged_key x ≡ None
    none_goes (Purged j) s = absurd s
    none_goes x s = refl

    epoch_is : epoch_of (apply m ch a) k ≡ option_map (λ p. p.1) (find_pair (put_pair (new_pair ch) a.pairs) k)
    epoch_is = ap (λ o. option_map (λ p. p.1) (find_pair (without_pair o (put_pair (new_pair ch) a.pairs)) k)) (none_goes ch stays)

    epoch_kept : Remains (epoch_of a k) (epoch_of (apply m ch a) k)
    epoch_kept n g = epoch_is ∙ pairs_stay (new_pair ch) a.pairs k n g

    rows_are : find_row (apply m ch a).rows k ≡ find_row (put_new (new_row m ch) (map f a.rows)) k
    rows_are = ap (λ o. find_row (without_row o (put_new (new_row m ch) (map f a.rows))) k) (none_goes ch stays)

    mapped : find_row (map f a.rows) k ≡ option_map f (find_row a.rows k)
    mapped = find_row-map f (changed_key m a.tasks ch a.rows) a.rows k

    there : (q : RunRow) → find_row a.rows k ≡ Some q → Moved names self m i c d a k (Some (f q)) (epoch_of (apply m ch a) k)
    there q at = go (has_key w.key (change_key ch)) refl
      where
        w : RunRow
        w = give_way m (incoming a.rows ch) q

        like : Alike q w
        like = way_alike m (incoming a.rows ch) q

        key : w.key ≡ k
        key = like.key ∙ find_row-key a.rows k q at

        carried : Carries q (f q)
        carried = changed_carries m a.tasks ch a.rows q

        go : (b : Bool) → has_key w.key (change_key ch) ≡ b → Moved names self m i c d a k (Some (f q)) (epoch_of (apply m ch a) k)
        go false e =
            let same : f q ≡ w = ap (λ b. cond b (effect m a.tasks ch w) w) e in
            subst (λ x. Moved names self m i c d a k (Some x) (epoch_of (apply m ch a) k)) (sym same) (moved_alike names self m i c d a k q w (epoch_of (apply m ch a) k) at like (subst (λ x. Carries q x) same carried) epoch_kept)
        go true e =
            let same : f q ≡ effect m a.tasks ch w = ap (λ b. cond b (effect m a.tasks ch w) w) e in
            let own : change_key ch ≡ Some k = no_key true k ch (subst (λ j. has_key j (change_key ch) ≡ true) key e) refl in
            subst (λ x. Moved names self m i c d a k (Some x) (epoch_of (apply m ch a) k)) (sym same) (of_facets a k q (effect m a.tasks ch w) (epoch_of (apply m ch a) k) at (subst (λ x. Carries q x) same carried) epoch_kept
            (effect_facets a ch lawful can allows granted steady k q w at like own (epoch_of (apply m ch a) k) epoch_is))

    gone : find_row a.rows k ≡ None → find_row (map f a.rows) k ≡ None
    gone none = mapped ∙ ap (option_map f) none

    put_row_moved : (n : RunRow) → new_row m ch ≡ Some n → find_row a.rows k ≡ None → (e : Option ℕ) → Remains (epoch_of a k) e → e ≡ option_map (λ p. p.1) (find_pair (put_pair (new_pair ch) a.pairs) k) →
        (rows : List RunRow) → find_row rows k ≡ None → (o : Option RunRow) → find_row (put_new (Some n) rows) k ≡ o → Moved names self m i c d a k o e
    put_row_moved n new none e kept pairs rows away None g = idle_moved a k e none kept None refl
    put_row_moved n new none e kept pairs rows away (Some r) g = elim (put_from n rows k r g) [
      | inl h ↦ absurd (no_row r (sym away ∙ h))
      | inr h ↦ subst (λ x. Moved names self m i c d a k (Some x) e) h.1 (new_moved a ch lawful allows granted steady k n new h.0 none e kept pairs)
    ]

    new_by : (o : Option RunRow) → new_row m ch ≡ o → find_row a.rows k ≡ None → (e : Option ℕ) → Remains (epoch_of a k) e → e ≡ option_map (λ p. p.1) (find_pair (put_pair (new_pair ch) a.pairs) k) →
        (rows : List RunRow) → find_row rows k ≡ None → Moved names self m i c d a k (find_row (put_new o rows) k) e
    new_by None g none e kept pairs rows away = idle_moved a k e none kept (find_row rows k) away
    new_by (Some n) g none e kept pairs rows away = put_row_moved n g none e kept pairs rows away (find_row (put_new (Some n) rows) k) refl

    new : find_row a.rows k ≡ None → Moved names self m i c d a k (find_row (put_new (new_row m ch) (map f a.rows)) k) (epoch_of (apply m ch a) k)
    new none = new_by (new_row m ch) refl none (epoch_of (apply m ch a) k) epoch_kept epoch_is (map f a.rows) (gone none)

    -- what became of the row of the key
    pub change_moved : Moved names self m i c d a k (find_row (apply m ch a).rows k) (epoch_of (apply m ch a) k)
    change_moved = subst (λ o. Moved names self m i c d a k o (epoch_of (apply m ch a) k)) (sym rows_are) (go (find_row a.rows k) refl)
      where
        go : (o : Option RunRow) → find_row a.rows k ≡ o → Moved names self m i c d a k (find_row (put_new (new_row m ch) (map f a.rows)) k) (epoch_of (apply m ch a) k)
        go None e = new e
        go (Some q) e =
            let at : find_row (put_new (new_row m ch) (map f a.rows)) k ≡ Some (f q) = put_keeps (new_row m ch) (map f a.rows) k (f q) (mapped ∙ ap (option_map f) e) in
            subst (λ o. Moved names self m i c d a k o (epoch_of (apply m ch a) k)) (sym at) (there q e)
