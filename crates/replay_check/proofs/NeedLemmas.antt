-- What a change brings has to be lawful, where it can be applied to a lawful book and leaves a lawful one.
use Rattle.std.specs.Ordering.{is_eq, match_ordering}
use Rattle.std.specs.declared.cmp.Ordering.TheVariants.{Less, Equal, Greater}
use Rattle.std.specs.Prelude.{IfSome, IsNone, IsSome, IsTrue, MatchOption}
use Rattle.std.proofs.Common.{◌≡◌, ◌≤◌, ◌<◌, ◌∙◌, ◌&&◌, ℕ, zero, suc, Bool, true, false, cond, not, List, [], ◌∷◌, All, length, length-append, map, slice_get, Option, Some, None, is_some, option_and_then, option_map, refl, subst, sym, ap, arith}
use Rattle.std.proofs.lemmas.Bool.{and_parts}
use Rattle.std.proofs.lemmas.List.{length-map}
use Rattle.std.proofs.lemmas.List.Elements.{All-head, All-tail}
use Rattle.ps_time.specs.Key.{key_cmp}
use Rattle.ps_time.specs.Numbers.{most_rows}
use Rattle.ps_time.specs.Sorted.{insert_key}
use Rattle.ps_time.specs.Span.{Span}
use Rattle.ps_time.specs.declared.asker.Asker.{Asker}
use Rattle.ps_time.specs.declared.key.RunKey.{RunKey}
use Rattle.plugin_core.specs.declared.test_spec.TestSpec.{TestSpec}
use Rattle.archive_retry.specs.Merge.{IsResult, IsResultText}
use Rattle.archive_retry.specs.declared.state.ArchiveState.{ArchiveState}
use Rattle.limit_apply.specs.Read.{IsKept}
use Rattle.run_states.specs.Conflict.{blocks, in_conflict}
use Rattle.run_states.specs.Effect.{accept_row, change_at, change_other, confirmed_if, is_alone, with_free, with_result}
use Rattle.run_states.specs.LawfulRow.{HasArchives, IsDueInTime, IsFreeAnswer, IsLawfulRow, IsOther, IsWhy, Reserves}
use Rattle.run_states.specs.Life.{close_row, first_there, is_booked, may_take}
use Rattle.run_states.specs.Preemption.{give_way, planned_run, planned_span}
use Rattle.run_states.specs.Rows.{find_row}
use Rattle.run_states.specs.declared.answer.FreeAnswer.{FreeAnswer}
use Rattle.run_states.specs.declared.answer.Other.{Other}
use Rattle.run_states.specs.declared.life.LifeStep.TheVariants.{Close, End}
use Rattle.run_states.specs.declared.proposal.Proposal.{Proposal}
use Rattle.run_states.specs.declared.proposal.Question.{Question}
use Rattle.run_states.specs.declared.row.Ending.{Ending}
use Rattle.run_states.specs.declared.row.RunRow.{RunRow}
use Rattle.run_states.specs.declared.why.Closing.{Closing}
use Rattle.run_states.specs.declared.why.Why.{Why}
use Rattle.run_states.specs.declared.why.Why.TheVariants.{Preempted}
use Rattle.host_model.specs.Apply.{apply, put_new, put_pair}
use Rattle.host_model.specs.Book.{Book, find_pair}
use Rattle.host_model.specs.Effect.{archives_of, effect, own_effect}
use Rattle.host_model.specs.Heard.{other_at}
use Rattle.host_model.specs.Lawful.{IsLawfulTask, Lawful}
use Rattle.host_model.specs.LawfulRow.{HasStates, IsHostRow}
use Rattle.host_model.specs.MayFollow.{CanApply, IsNewKey, WithRow}
use Rattle.host_model.specs.NewRow.{accepted_row, asked_row, new_row}
use Rattle.host_model.specs.Preemption.{incoming}
use Rattle.host_model.specs.declared.change.Change.{Change}
use Rattle.host_model.specs.declared.change.Change.TheVariants.{Posted, Accepted, Asked, Planned, Closed, Ended, FreeHeard, MaterialHeard, ResultHeard, Merged, Tried, LimitsSet}
use Rattle.host_model.proofs.AcceptedKeys.{is_accepted, none_accepted}
use Rattle.host_model.proofs.Brings.{Brings, IsWayUnstarted}
use Rattle.host_model.proofs.Keyed.{key_of, key_same}
use Rattle.host_model.proofs.KeyedLists.{has, keys_has, length-put}
use Rattle.host_model.proofs.NewRows.{CanAccept, CanAsk}
use Rattle.host_model.proofs.Placed.{find_row-key}
use Rattle.host_model.proofs.RowLemmas.{found_of_all}
use Rattle.replay_check.proofs.AfterLemmas.{changed, host_after, host_came, last_of, none_is, put_is, way_free}
use Rattle.replay_check.specs.Suits.{IsFirstMerge, Suits, WithOther}

-- ---- lists
-- an item that was put among others
among : {X : Type 0} (key : X → RunKey) (P : X → Type 0) (xs : List X) (x : X) → All P (insert_key key_cmp key xs x) → P x
among key P [] x all = All-head P x [] all
among key P (y ∷ ys) x all =
    let cases = elim (key_cmp (key y) (key x)) as (λ o. All P (match_ordering o (y ∷ insert_key key_cmp key ys x) (y ∷ insert_key key_cmp key ys x) (x ∷ y ∷ ys)) → P x) [
      | Less ↦ λ rest. among key P ys x (All-tail P y (insert_key key_cmp key ys x) rest)
      | Equal ↦ λ rest. among key P ys x (All-tail P y (insert_key key_cmp key ys x) rest)
      | Greater ↦ λ rest. All-head P x (y ∷ ys) rest
    ] in
    cases all

-- an item in its place
placed : {A : Type 0} (P : A → Type 0) (f : A → A) (i : ℕ) (xs : List A) (x : A) → slice_get xs i ≡ Some x → All P (change_at f i xs) → P (f x)
placed P f i [] x at all = absurd cc
placed P f zero (y ∷ ys) x at all = let is : y ≡ x = cc in subst (λ z. P (f z)) is (All-head P (f y) ys all)
placed P f (suc i) (y ∷ ys) x at all = placed P f i ys x at (All-tail P y (change_at f i ys) all)

change_there : {A : Type 0} (f : A → A) (i : ℕ) (xs : List A) (x : A) → slice_get xs i ≡ Some x → slice_get (change_at f i xs) i ≡ Some (f x)
change_there f i [] x at = absurd cc
change_there f zero (y ∷ ys) x at = let is : y ≡ x = cc in ap (λ z. Some (f z)) is
change_there f (suc i) (y ∷ ys) x at = change_there f i ys x at

-- ---- what is set first
not_some : {A : Type 0} (o : Option A) → not (is_some o) ≡ true → o ≡ None
not_some None no_one = refl
not_some (Some a) no_one = cc

not_true : (t : Bool) → not t ≡ true → t ≡ false
not_true false is = refl
not_true true is = cc

closing_why : (c : Closing) (o : Option Closing) → o ≡ None → IfSome (first_there o (Some c)) (λ x. IsWhy x.why) → IsWhy c.why
closing_why c None none is = is
closing_why c (Some x) none is = cc

ending_text : (e : Ending) (o : Option Ending) → o ≡ None → IfSome (option_map (λ (x : Ending). x.body) (first_there o (Some e))) IsResultText → IsResultText e.body
ending_text e None none is = is
ending_text e (Some x) none is = cc

first_free : (answer : FreeAnswer) (o : Option FreeAnswer) → IfSome (first_there o (Some answer)) IsFreeAnswer → IsNone o → IsFreeAnswer answer
first_free answer None is none = is
first_free answer (Some x) is none = cc

first_heard : (result : Option (List ℕ)) (o : Option (Option (List ℕ))) → IsResult (option_and_then (λ told. told) (first_there o (Some result))) → IsNone o → IsResult result
first_heard result None is none = is
first_heard result (Some x) is none = cc

first_needs : (m : ℕ) (o started : Option ℕ) → IfSome (first_there o (Some m)) (λ a. IsSome started) → IsSome started
first_needs m None started needs = needs
first_needs m (Some x) started needs = needs

-- what is known of another participant after an answer of its
one_other : (f : Other → Other) (P : Other → Type 0) → ((o : Other) → IsOther (f o) → P o) → (place : ℕ) (r : RunRow) → IsSome (other_at r place) → All IsOther (change_other f place r).others → MatchOption (other_at r place) ⊥ P
one_other f P says zero r there all = cc
one_other f P says (suc i) r there all = go (slice_get r.others i) refl there
  where
    go : (o : Option Other) → slice_get r.others i ≡ o → IsSome o → MatchOption o ⊥ P
    go None at none = cc
    go (Some o) at some = says o (placed IsOther f i r.others o at all)

-- what isn't accepted reserves nothing
pub unaccepted : (test : TestSpec) (tool : Option (List ℕ)) (interval : Option Span) → Reserves test None tool interval → (tool ≡ None) × (interval ≡ None)
unaccepted test None None reserves = (refl, refl)
unaccepted test (Some tool) interval reserves = absurd reserves
unaccepted test None (Some i) reserves = absurd reserves

reserves_first : (test : TestSpec) (accepted : Option ℕ) (tool : Option (List ℕ)) (interval : Option Span) (m : ℕ) (name : List ℕ) (span : Span) → accepted ≡ None → tool ≡ None → interval ≡ None →
    Reserves test (first_there accepted (Some m)) (first_there tool (Some name)) (first_there interval (Some span)) → Reserves test (Some m) (Some name) (Some span)
reserves_first test None None None m name span no_moment no_tool no_span reserves = reserves
reserves_first test (Some x) tool interval m name span no_moment no_tool no_span reserves = cc
reserves_first test None (Some x) interval m name span no_moment no_tool no_span reserves = cc
reserves_first test None None (Some x) m name span no_moment no_tool no_span reserves = cc

confirmed_reserves : {n : ℕ} (t : Bool) (m : ℕ) (r : RunRow) → IsLawfulRow n (confirmed_if t m r) → Reserves r.test r.accepted r.tool r.interval
confirmed_reserves true m r row = row.reserves
confirmed_reserves false m r row = row.reserves

module _ (self : ℕ) (b : Book) (lawful : Lawful self b) where
  abbrev m : ℕ
  m = b.moment

  -- what is so of the row that is found
  each_row : (k : RunKey) (P Q : RunRow → Type 0) → WithRow b k P → ((r : RunRow) → find_row b.rows k ≡ Some r → P r → Q r) → WithRow b k Q
  each_row k P Q there each = go (find_row b.rows k) refl there
    where
      go : (o : Option RunRow) → find_row b.rows k ≡ o → MatchOption o ⊥ P → MatchOption o ⊥ Q
      go None at none = none
      go (Some r) at here = each r at here

  -- ---- a row that comes
  module _ (c : Change) (r : RunRow) (comes : new_row m c ≡ Some r) (new : IsNewKey b r.key) where
    abbrev rows_with : List RunRow
    rows_with = put_new (new_row m c) (map (changed self m m b.tasks b.tasks c b.rows) b.rows)

    came : All (IsHostRow self b.tasks m) rows_with → IsHostRow self b.tasks m r
    came all = host_came self m m b.tasks b.tasks c b.rows r comes new all

    has_room : length rows_with ≤ most_rows → length b.rows < most_rows
    has_room few =
        let mapped : List RunRow = map (changed self m m b.tasks b.tasks c b.rows) b.rows in
        let more : length rows_with ≡ suc (length mapped) = ap length (put_is self m m b.tasks b.tasks c b.rows r comes new) ∙ length-put (λ x. x.key) mapped r in
        omega (arith, more, length-map b.rows (changed self m m b.tasks b.tasks c b.rows), few)

  -- ---- the pair of a run that is accepted
  no_pair : (k : RunKey) → ((r : RunRow) → find_row b.rows k ≡ Some r → is_accepted r ≡ false) → is_some (find_pair b.pairs k) ≡ false
  no_pair k none = keys_has (λ p. p.0) b.pairs k ∙ (ap (λ ks. has ks k) lawful.pairs.keys ∙ none_accepted k b.rows lawful.ascending none)

  known : (k : RunKey) (epoch : ℕ) → ((r : RunRow) → find_row b.rows k ≡ Some r → is_accepted r ≡ false) → All (λ p. p.1 ≤ length b.epochs) (put_pair (Some (k, epoch)) b.pairs) → epoch ≤ length b.epochs
  known k epoch none all =
      among (λ p. p.0) (λ p. p.1 ≤ length b.epochs) b.pairs (k, epoch)
      (subst (λ t. All (λ p. p.1 ≤ length b.epochs) (cond t b.pairs (insert_key key_cmp (λ q. q.0) b.pairs (k, epoch)))) (no_pair k none) all)

  none_there : (k : RunKey) → IsNewKey b k → (r : RunRow) → find_row b.rows k ≡ Some r → is_accepted r ≡ false
  none_there k new r at = absurd (let gone : is_some (find_row b.rows k) ≡ true = ap is_some at in cc)

  -- ---- a proposal
  module _ (p : Proposal) (hosts : List (List ℕ)) (epoch : ℕ) (new : IsNewKey b p.key) (after : Lawful self (apply m (Accepted p hosts epoch) b)) where
    accepts : CanAccept self p hosts
    accepts =
        let host = came (Accepted p hosts epoch) (accepted_row m p hosts) refl new after.rows in
        record {
          proposal = record { test = host.row.test; start = host.row.reserves.1 };
          tool = host.row.reserves.0;
          participants = host.row.participants;
          lead = host.lead;
        }

    accept_way : IsWayUnstarted b.rows (Accepted p hosts epoch)
    accept_way r at against = way_free self m m b.tasks b.tasks (Accepted p hosts epoch) b.rows _ refl r at against (same (is_eq (key_cmp r.key p.key))) after.rows
      where
        closed : RunRow
        closed = close_row (record { moment = m; why = Preempted p.key }) r

        same : (t : Bool) → cond t closed closed ≡ closed
        same true = refl
        same false = refl

    accept_brings : Brings self m b (Accepted p hosts epoch)
    accept_brings = (
      accepts,
      has_room (Accepted p hosts epoch) (accepted_row m p hosts) refl new after.few_rows,
      record { known = known p.key epoch (none_there p.key new) after.pairs.known; way = accept_way },
    )

  -- ---- a question
  module _ (q : Question) (hosts : List (List ℕ)) (asker : Asker) (new : IsNewKey b q.key) (after : Lawful self (apply m (Asked q hosts asker) b)) where
    asks : CanAsk self b.tasks q hosts
    asks =
        let host = came (Asked q hosts asker) (asked_row m q hosts asker) refl new after.rows in
        record { test = host.row.test; window = host.row.question; participants = host.row.participants; lead = host.lead.0; task = host.lead.1 }

    ask_brings : Brings self m b (Asked q hosts asker)
    ask_brings = (asks, has_room (Asked q hosts asker) (asked_row m q hosts asker) refl new after.few_rows)

  -- ---- the row of a change's key
  module _ (c : Change) (k : RunKey) (r : RunRow) (at : find_row b.rows k ≡ Some r) where
    own : is_eq (key_cmp r.key k) ≡ true
    own = key_of r.key k (find_row-key b.rows k r at)

    -- as it is after a change by which nothing gives way
    own_host : changed self m m b.tasks b.tasks c b.rows r ≡ cond (is_eq (key_cmp r.key k)) (effect m b.tasks c r) r → All (IsHostRow self b.tasks m) (put_new (new_row m c) (map (changed self m m b.tasks b.tasks c b.rows) b.rows)) → IsHostRow self b.tasks m (effect m b.tasks c r)
    own_host plain all = subst (IsHostRow self b.tasks m) (plain ∙ ap (λ t. cond t (effect m b.tasks c r) r) own) (host_after self m m b.tasks b.tasks c b.rows k r at all)

  closed_why : (k : RunKey) (why : Why) → CanApply b (Closed k why) → Lawful self (apply m (Closed k why) b) → IsWhy why
  closed_why k why can after = go (find_row b.rows k) refl can
    where
      go : (o : Option RunRow) → find_row b.rows k ≡ o → MatchOption o ⊥ (λ r. IsTrue (may_take (Close why) r)) → IsWhy why
      go None at none = absurd none
      go (Some r) at may = closing_why (record { moment = m; why = why }) r.closed (not_some r.closed (and_parts (not (is_some r.closed)) (not (is_some r.started)) may).0) (own_host (Closed k why) k r at refl after.rows).row.closed

  ended_text : (k : RunKey) (good : Bool) (body : List ℕ) → CanApply b (Ended k good body) → Lawful self (apply m (Ended k good body) b) → IsResultText body
  ended_text k good body can after = go (find_row b.rows k) refl can
    where
      go : (o : Option RunRow) → find_row b.rows k ≡ o → MatchOption o ⊥ (λ r. IsTrue (may_take (End good body) r)) → IsResultText body
      go None at none = absurd none
      go (Some r) at may = ending_text (record { moment = m; good = good; body = body }) r.ended (not_some r.ended (and_parts (is_some r.started) (not (is_some r.ended)) may).1) (own_host (Ended k good body) k r at refl after.rows).row.result

  free_answer : (k : RunKey) (place : ℕ) (answer : FreeAnswer) → CanApply b (FreeHeard k place answer) → Lawful self (apply m (FreeHeard k place answer) b) → WithOther b k place (λ o. IsNone o.free → IsFreeAnswer answer)
  free_answer k place answer can after =
      each_row k (λ r. IsSome (other_at r place)) (λ r. MatchOption (other_at r place) ⊥ (λ o. IsNone o.free → IsFreeAnswer answer)) can (λ r at there.
      one_other (with_free answer) (λ o. IsNone o.free → IsFreeAnswer answer) (λ o is. first_free answer o.free is.free) place r there (own_host (FreeHeard k place answer) k r at refl after.rows).row.others)

  heard_result : (k : RunKey) (place : ℕ) (result : Option (List ℕ)) → CanApply b (ResultHeard k place result) → Lawful self (apply m (ResultHeard k place result) b) → WithOther b k place (λ o. IsNone o.heard → IsResult result)
  heard_result k place result can after =
      each_row k (λ r. IsSome (other_at r place)) (λ r. MatchOption (other_at r place) ⊥ (λ o. IsNone o.heard → IsResult result)) can (λ r at there.
      one_other (with_result result) (λ o. IsNone o.heard → IsResult result) (λ o is. first_heard result o.heard is.heard) place r there (own_host (ResultHeard k place result) k r at refl after.rows).row.others)

  material_came : (k : RunKey) → CanApply b (MaterialHeard k) → Lawful self (apply m (MaterialHeard k) b) → WithRow b k (λ r. IsSome r.started)
  material_came k can after = go (find_row b.rows k) refl can
    where
      go : (o : Option RunRow) → find_row b.rows k ≡ o → IsSome o → MatchOption o ⊥ (λ r. IsSome r.started)
      go None at none = cc
      go (Some r) at some = first_needs m r.material r.started (own_host (MaterialHeard k) k r at refl after.rows).row.life.material

  merged_first : (k : RunKey) (body : List ℕ) → CanApply b (Merged k body) → Lawful self (apply m (Merged k body) b) → WithRow b k (IsFirstMerge self k body)
  merged_first k body can after = go (find_row b.rows k) refl can
    where
      go : (o : Option RunRow) → find_row b.rows k ≡ o → IsSome o → MatchOption o ⊥ (IsFirstMerge self k body)
      go None at none = cc
      go (Some r) at some = λ first_time.
          let host : IsHostRow self b.tasks m (effect m b.tasks (Merged k body) r) = own_host (Merged k body) k r at refl after.rows in
          let merged : first_there r.merged (Some body) ≡ Some body = ap (λ o. first_there o (Some body)) (none_is r.merged first_time) in
          let kept = subst (HasArchives (effect m b.tasks (Merged k body) r)) merged host.row.merged in
          let led = subst (HasStates self (archives_of b.tasks r.key) (effect m b.tasks (Merged k body) r)) merged host.merged in
          (kept.0, ap (λ j. j.lead) (sym (find_row-key b.rows k r at)) ∙ led.0, kept.1)

  tried_brings : (k : RunKey) (index : ℕ) (state : ArchiveState) → CanApply b (Tried k index state) → Lawful self (apply m (Tried k index state) b) → Brings self m b (Tried k index state)
  tried_brings k index state can after = go (find_row b.rows k) refl can
    where
      at_row : (r : RunRow) (o : Option ArchiveState) → find_row b.rows k ≡ Some r → slice_get r.archives index ≡ o → IsSome o → Brings self m b (Tried k index state)
      at_row r None at there none = cc
      at_row r (Some x) at there some =
          let host : IsHostRow self b.tasks m (effect m b.tasks (Tried k index state) r) = own_host (Tried k index state) k r at refl after.rows in (
            placed IsDueInTime (λ before. state) index r.archives x there host.row.archives,
            λ a e. host.archives index a state (subst (λ j. slice_get (archives_of b.tasks j) index ≡ Some a) (sym (find_row-key b.rows k r at)) e) (change_there (λ before. state) index r.archives x there),
          )

      go : (o : Option RunRow) → find_row b.rows k ≡ o → MatchOption o ⊥ (λ r. IsSome (slice_get r.archives index)) → Brings self m b (Tried k index state)
      go None at none = absurd none
      go (Some r) at there = at_row r (slice_get r.archives index) at refl there

  -- ---- a run that is planned
  module _ (k : RunKey) (start : ℕ) (tool : List ℕ) (epoch : ℕ) (q : RunRow) (at : find_row b.rows k ≡ Some q) (can : IsNone q.accepted × IsNone q.closed) (after : Lawful self (apply m (Planned k start tool epoch) b)) where
    abbrev c : Change
    c = Planned k start tool epoch

    comes : incoming b.rows c ≡ Some (planned_run start q)
    comes = ap (option_map (planned_run start)) at

    abbrev closed : RunRow → RunRow
    closed r = close_row (record { moment = m; why = Preempted q.key }) r

    no_own : in_conflict q.key (planned_run start q).class (planned_run start q).interval q ≡ false
    no_own = ap (λ t. not t && blocks (planned_run start q).class (planned_run start q).interval q) (key_same q.key)

    plain : changed self m m b.tasks b.tasks c b.rows q ≡ effect m b.tasks c q
    plain =
        ap (λ o. own_effect m b.tasks c (give_way m o q)) comes
        ∙ (ap (λ t. own_effect m b.tasks c (cond t (closed q) q)) no_own ∙ ap (λ t. cond t (effect m b.tasks c q) q) (own c k q at))

    planned_host : IsHostRow self b.tasks m (effect m b.tasks c q)
    planned_host = subst (IsHostRow self b.tasks m) plain (host_after self m m b.tasks b.tasks c b.rows k q at after.rows)

    was : IsHostRow self b.tasks m q
    was = found_of_all (IsHostRow self b.tasks m) k q b.rows lawful.rows at

    empty : (q.tool ≡ None) × (q.interval ≡ None)
    empty = unaccepted q.test q.tool q.interval (subst (λ o. Reserves q.test o q.tool q.interval) (none_is q.accepted can.0) was.row.reserves)

    planned_reserves : Reserves q.test (Some m) (Some tool) (Some (planned_span start q))
    planned_reserves =
        let accepted : RunRow = accept_row m (planned_span start q) tool q in
        reserves_first q.test q.accepted q.tool q.interval m tool (planned_span start q) (none_is q.accepted can.0) empty.0 empty.1
        (confirmed_reserves (is_booked accepted && is_alone accepted) m accepted planned_host.row)

    plan_known : epoch ≤ length b.epochs
    plan_known = known k epoch (λ r found. let is : q ≡ r = cc in subst (λ x. is_accepted x ≡ false) is can.0) after.pairs.known

    apart : (r : RunRow) → in_conflict q.key (planned_run start q).class (planned_run start q).interval r ≡ true → is_eq (key_cmp r.key k) ≡ false
    apart r against = subst (λ j. is_eq (key_cmp r.key j) ≡ false) (find_row-key b.rows k q at) (not_true (is_eq (key_cmp r.key q.key)) (and_parts (not (is_eq (key_cmp r.key q.key))) (blocks (planned_run start q).class (planned_run start q).interval r) against).0)

    plan_way : IsWayUnstarted b.rows c
    plan_way r found = subst (λ o. IfSome o (λ i. in_conflict i.key i.class i.interval r ≡ true → IsNone r.started)) (sym comes) (λ against.
        way_free self m m b.tasks b.tasks c b.rows (planned_run start q) comes r found against (ap (λ t. cond t (effect m b.tasks c (closed r)) (closed r)) (apart r against)) after.rows)

    plan_brings : Brings self m b c
    plan_brings = (planned_reserves.0, planned_reserves.1, record { known = plan_known; way = plan_way })

  planned_brings : (k : RunKey) (start : ℕ) (tool : List ℕ) (epoch : ℕ) → CanApply b (Planned k start tool epoch) → Lawful self (apply m (Planned k start tool epoch) b) → Brings self m b (Planned k start tool epoch)
  planned_brings k start tool epoch can after = go (find_row b.rows k) refl can
    where
      go : (o : Option RunRow) → find_row b.rows k ≡ o → MatchOption o ⊥ (λ r. IsNone r.accepted × IsNone r.closed) → Brings self m b (Planned k start tool epoch)
      go None at none = absurd none
      go (Some q) at free = plan_brings k start tool epoch q at free after

  -- ---- any change
  pub needs : (c : Change) → CanApply b c → Lawful self (apply m c b) → Suits self b c
  needs (Posted t) can after = (last_of (IsLawfulTask m) b.tasks t after.tasks, omega (arith, length-append b.tasks (t ∷ []), after.few_tasks))
  needs (Accepted p hosts epoch) can after = accept_brings p hosts epoch can after
  needs (Asked q hosts asker) can after = ask_brings q hosts asker can after
  needs (Planned k start tool epoch) can after = planned_brings k start tool epoch can after
  needs (Closed k why) can after = closed_why k why can after
  needs (Ended k good body) can after = ended_text k good body can after
  needs (FreeHeard k place answer) can after = free_answer k place answer can after
  needs (MaterialHeard k) can after = material_came k can after
  needs (ResultHeard k place result) can after = heard_result k place result can after
  needs (Merged k body) can after = merged_first k body can after
  needs (Tried k index state) can after = tried_brings k index state can after
  needs (LimitsSet l) can after = last_of IsKept b.epochs l after.epochs
  needs c can after = tt
