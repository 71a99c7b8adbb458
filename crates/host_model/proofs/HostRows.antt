-- Each change leaves the rows of a lawful book lawful.
use Rattle.std.specs.Prelude.{IfSome, IsNone, IsSome, IsTrue}
use Rattle.std.proofs.Common.{◌≡◌, ◌≤◌, ℕ, zero, suc, Bool, true, false, cond, ◌&&◌, List, [], ◌∷◌, All, length, Option, Some, None, slice_get, refl, ap, sym, subst, ◌∙◌, arith}
use Rattle.std.proofs.lemmas.List.Elements.{All-cons, All-nil}
use Rattle.ps_time.specs.Numbers.{greatest_moment}
use Rattle.plugin_tool.specs.Choice.{tool_of_text}
use Rattle.archive_retry.specs.Bounds.{IsStateOf}
use Rattle.archive_retry.specs.Retry.{due_from}
use Rattle.archive_retry.specs.Merge.{IsResult, IsResultText, IsTreeText}
use Rattle.archive_retry.specs.declared.state.ArchiveState.{ArchiveState}
use Rattle.run_states.specs.Conflict.{in_conflict}
use Rattle.run_states.specs.Effect.{accept_row, change_at, change_other, confirmed_if, is_alone, is_complete, material_row, merge_row, or_else, tried_row, with_acceptance, with_free, with_result, with_told}
use Rattle.run_states.specs.LawfulRow.{HasArchives, IsDueInTime, IsFreeAnswer, IsLawfulRow, IsWhy}
use Rattle.run_states.specs.Life.{close_row, confirm_row, end_row, first_there, is_booked, may_take, start_row}
use Rattle.run_states.specs.Preemption.{Incoming, give_way, planned_span}
use Rattle.run_states.specs.declared.answer.Answer.TheVariants.{Free, Accepted as accepts, Acknowledged, Result}
use Rattle.run_states.specs.declared.answer.Other.{Other}
use Rattle.run_states.specs.declared.life.LifeStep.TheVariants.{Confirm, Start, End, Close}
use Rattle.run_states.specs.declared.row.RunRow.{RunRow}
use Rattle.run_states.specs.declared.why.Why.TheVariants.{Preempted}
use Rattle.run_states.proofs.LawfulLemmas.{closed_lawful, fact_lawful, step_lawful}
use Rattle.task_spec.specs.declared.task.Archive.{Archive}
use Rattle.host_model.specs.Book.{find_task}
use Rattle.host_model.specs.Effect.{archives_of, change_key, effect, has_key, own_effect, states_due}
use Rattle.host_model.specs.LawfulRow.{HasLead, HasStates, IsHostRow}
use Rattle.host_model.specs.declared.change.Change.{Change}
use Rattle.host_model.specs.declared.change.Change.TheVariants.{Planned, Confirmed, Closed, Started, Ended, FreeHeard, AcceptHeard, Told as told_there, MaterialHeard, ResultHeard, Merged, Tried}
use Rattle.host_model.specs.declared.task_row.TaskRow.{TaskRow}
use Rattle.host_model.proofs.Keyed.{key_is}
use Rattle.run_states.specs.declared.fact.Fact.TheVariants as fact

-- ---- what the row of a change's key has, and what the change brings, so that the row is lawful after it
abbrev pub Suits : ℕ → List TaskRow → Change → RunRow → Type 0
Suits self tasks (Planned k start tool epoch) r = IsNone r.accepted × IsNone r.closed × IsSome (tool_of_text tool) × (start ≤ greatest_moment)
Suits self tasks (Confirmed k) r = IsTrue (may_take Confirm r)
Suits self tasks (Closed k why) r = IsTrue (may_take (Close why) r) × IsWhy why
Suits self tasks (Started k) r = IsTrue (may_take Start r)
Suits self tasks (Ended k good body) r = IsTrue (may_take (End good body) r) × IsResultText body
Suits self tasks (FreeHeard k place answer) r = IsFreeAnswer answer
Suits self tasks (MaterialHeard k) r = IsSome r.started
Suits self tasks (ResultHeard k place result) r = IsResult result
Suits self tasks (Merged k body) r = IsTreeText body × IsSome r.ended × (r.key.lead ≡ self)
Suits self tasks (Tried k index state) r = IsDueInTime state × ((a : Archive) → slice_get (archives_of tasks r.key) index ≡ Some a → IsStateOf a.policy state)
Suits self tasks c r = Unit {0}

-- ---- the row alone
due_in_time : (m : ℕ) (archives : List Archive) → m ≤ greatest_moment → All IsDueInTime (states_due m archives)
due_in_time m [] within = All-nil IsDueInTime
due_in_time m (a ∷ rest) within = All-cons IsDueInTime (due_from m) (states_due m rest) (omega (arith, within)) (due_in_time m rest within)

effect_row : (self : ℕ) (tasks : List TaskRow) (m : ℕ) (c : Change) (r : RunRow) → m ≤ greatest_moment → IsLawfulRow m r → Suits self tasks c r → IsLawfulRow m (effect m tasks c r)
effect_row self tasks m (Planned k start tool epoch) r within row suits = fact_lawful (fact.Planned tool (planned_span start r)) m r tt (suits.0, suits.1, suits.2, suits.3, refl) row
effect_row self tasks m (Confirmed k) r within row suits = step_lawful Confirm m r (record { may = suits; result = tt; why = tt }) row
effect_row self tasks m (Closed k why) r within row suits = step_lawful (Close why) m r (record { may = suits.0; result = tt; why = suits.1 }) row
effect_row self tasks m (Started k) r within row suits = step_lawful Start m r (record { may = suits; result = tt; why = tt }) row
effect_row self tasks m (Ended k good body) r within row suits = step_lawful (End good body) m r (record { may = suits.0; result = suits.1; why = tt }) row
effect_row self tasks m (FreeHeard k place answer) r within row suits = fact_lawful (fact.Answered place (Free answer)) m r tt suits row
effect_row self tasks m (AcceptHeard k place) r within row suits = fact_lawful (fact.Answered place accepts) m r tt tt row
effect_row self tasks m (told_there k place told) r within row suits = fact_lawful (fact.Answered place (Acknowledged told)) m r tt tt row
effect_row self tasks m (MaterialHeard k) r within row suits = fact_lawful fact.MaterialHeard m r tt suits row
effect_row self tasks m (ResultHeard k place result) r within row suits = fact_lawful (fact.Answered place (Result result)) m r suits tt row
effect_row self tasks m (Merged k body) r within row suits = fact_lawful (fact.Merged body (states_due m (archives_of tasks k))) m r suits.0 (suits.1, due_in_time m (archives_of tasks k) within) row
effect_row self tasks m (Tried k index state) r within row suits = fact_lawful (fact.Tried index state) m r tt suits.0 row
effect_row self tasks m c r within row suits = row

-- ---- its lead and its task
-- nothing changed of what lead and task speak of
pub record SameLead (r s : RunRow) : Type 0 where
  pub key : s.key ≡ r.key
  pub asked : s.asked ≡ r.asked
  pub participants : s.participants ≡ r.participants
  pub merged : s.merged ≡ r.merged
  pub archives : s.archives ≡ r.archives

pub same_lead : (r : RunRow) → SameLead r r
same_lead r = record { key = refl; asked = refl; participants = refl; merged = refl; archives = refl }

confirmed_same : (b : Bool) (m : ℕ) (r s : RunRow) → SameLead r s → SameLead r (confirmed_if b m s)
confirmed_same true m r s same = record { key = same.key; asked = same.asked; participants = same.participants; merged = same.merged; archives = same.archives }
confirmed_same false m r s same = same

other_same : (f : Other → Other) (place : ℕ) (r : RunRow) → SameLead r (change_other f place r)
other_same f zero r = same_lead r
other_same f (suc i) r = record { key = refl; asked = refl; participants = refl; merged = refl; archives = refl }

module _ (self : ℕ) (tasks : List TaskRow) (r s : RunRow) (same : SameLead r s) where
  lead_same : (o : Option ℕ) → HasLead self tasks r o → HasLead self tasks s o
  lead_same None has = λ led. let own = has (ap (λ k. k.lead) (sym same.key) ∙ led) in (ap (λ k. k.task) same.key ∙ own.0, ap length same.participants ∙ own.1)
  lead_same (Some asked) has = (ap (λ k. k.lead) same.key ∙ has.0, subst (λ k. IsSome (find_task tasks k.task)) (sym same.key) has.1)

  states_same : (archives : List Archive) (o : Option (List ℕ)) → HasStates self archives r o → HasStates self archives s o
  states_same archives None has = tt
  states_same archives (Some text) has = (ap (λ k. k.lead) same.key ∙ has.0, ap length same.archives ∙ has.1)

  pub host_same : (m : ℕ) → IsHostRow self tasks m r → IsLawfulRow m s → IsHostRow self tasks m s
  host_same m row alone = record {
    row = alone;
    lead = subst (λ o. HasLead self tasks s o) (sym same.asked) (lead_same r.asked row.lead);
    merged = subst (λ o. HasStates self (archives_of tasks s.key) s o) (sym same.merged) (states_same (archives_of tasks s.key) r.merged (subst (λ k. HasStates self (archives_of tasks k) r r.merged) (sym same.key) row.merged));
    archives = λ i a state at e. row.archives i a state (subst (λ k. slice_get (archives_of tasks k) i ≡ Some a) same.key at) (subst (λ ss. slice_get ss i ≡ Some state) same.archives e);
  }

-- ---- merging and an attempt at an archive
length_due : (m : ℕ) (archives : List Archive) → length (states_due m archives) ≡ length archives
length_due m [] = refl
length_due m (a ∷ rest) = ap suc (length_due m rest)

length_or_else : (n : ℕ) (xs ys : List ArchiveState) → length xs ≡ n → length ys ≡ n → length (or_else xs ys) ≡ n
length_or_else n [] ys e f = f
length_or_else n (x ∷ xs) ys e f = e

due_state : (m : ℕ) → m ≤ greatest_moment → (archives : List Archive) (i : ℕ) (a : Archive) (s : ArchiveState) → slice_get (states_due m archives) i ≡ Some s → IsStateOf a.policy s
due_state m within [] i a s e = cc
due_state m within (x ∷ xs) zero a s e = let is : due_from m ≡ s = cc in subst (IsStateOf a.policy) is (omega (arith, within), omega arith)
due_state m within (x ∷ xs) (suc i) a s e = due_state m within xs i a s e

module _ (archives : List Archive) where
  -- each state is one of its archive
  abbrev pub AreStates : List ArchiveState → Type 0
  AreStates ss = (i : ℕ) (a : Archive) (s : ArchiveState) → slice_get archives i ≡ Some a → slice_get ss i ≡ Some s → IsStateOf a.policy s

  merged_states : (m : ℕ) (ss : List ArchiveState) → m ≤ greatest_moment → AreStates ss → AreStates (or_else ss (states_due m archives))
  merged_states m [] within was i a s at e = due_state m within archives i a s e
  merged_states m (x ∷ xs) within was i a s at e = was i a s at e

tried_states : (state : ArchiveState) (index : ℕ) (archives : List Archive) (ss : List ArchiveState) → ((a : Archive) → slice_get archives index ≡ Some a → IsStateOf a.policy state) → AreStates archives ss →
    AreStates archives (change_at (λ before. state) index ss)
tried_states state index archives [] new was i a s at e = cc
tried_states state index [] (x ∷ xs) new was i a s at e = cc
tried_states state zero (y ∷ ys) (x ∷ xs) new was zero a s at e = let is : state ≡ s = cc in subst (IsStateOf a.policy) is (new a at)
tried_states state zero (y ∷ ys) (x ∷ xs) new was (suc i) a s at e = was (suc i) a s at e
tried_states state (suc index) (y ∷ ys) (x ∷ xs) new was zero a s at e = was zero a s at e
tried_states state (suc index) (y ∷ ys) (x ∷ xs) new was (suc i) a s at e = tried_states state index ys xs new (λ j. was (suc j)) i a s at e

length-change_at : {A : Type 0} (f : A → A) (i : ℕ) (xs : List A) → length (change_at f i xs) ≡ length xs
length-change_at f i [] = refl
length-change_at f zero (x ∷ xs) = refl
length-change_at f (suc i) (x ∷ xs) = ap suc (length-change_at f i xs)

tried_merged : (self : ℕ) (archives : List Archive) (index : ℕ) (state : ArchiveState) (r : RunRow) (o : Option (List ℕ)) → HasStates self archives r o → HasStates self archives (tried_row index state r) o
tried_merged self archives index state r None was = tt
tried_merged self archives index state r (Some text) was = (was.0, length-change_at (λ before. state) index r.archives ∙ was.1)

no_archives : (r : RunRow) (o : Option (List ℕ)) → HasArchives r o → o ≡ None → r.archives ≡ []
no_archives r None has e = has
no_archives r (Some text) has e = cc

merged_merged : (self m : ℕ) (archives : List Archive) (body : List ℕ) (r : RunRow) (o : Option (List ℕ)) → HasStates self archives r o → (o ≡ None → r.archives ≡ []) → r.key.lead ≡ self →
    HasStates self archives (merge_row (states_due m archives) body r) (first_there o (Some body))
merged_merged self m archives body r None was empty led = (led, ap (λ xs. length (or_else xs (states_due m archives))) (empty refl) ∙ length_due m archives)
merged_merged self m archives body r (Some text) was empty led = (was.0, length_or_else (length archives) r.archives (states_due m archives) was.1 (length_due m archives))

-- ---- a row of this host
module _ (self : ℕ) (tasks : List TaskRow) (m : ℕ) where
  merged_host : (r : RunRow) (body : List ℕ) → m ≤ greatest_moment → IsHostRow self tasks m r → r.key.lead ≡ self → IsLawfulRow m (merge_row (states_due m (archives_of tasks r.key)) body r) →
      IsHostRow self tasks m (merge_row (states_due m (archives_of tasks r.key)) body r)
  merged_host r body within row led alone = record {
    row = alone;
    lead = row.lead;
    merged = merged_merged self m (archives_of tasks r.key) body r r.merged row.merged (no_archives r r.merged row.row.merged) led;
    archives = merged_states (archives_of tasks r.key) m r.archives within row.archives;
  }

  tried_host : (r : RunRow) (index : ℕ) (state : ArchiveState) → IsHostRow self tasks m r → ((a : Archive) → slice_get (archives_of tasks r.key) index ≡ Some a → IsStateOf a.policy state) → IsLawfulRow m (tried_row index state r) →
      IsHostRow self tasks m (tried_row index state r)
  tried_host r index state row new alone = record {
    row = alone;
    lead = row.lead;
    merged = tried_merged self (archives_of tasks r.key) index state r r.merged row.merged;
    archives = tried_states state index (archives_of tasks r.key) r.archives new row.archives;
  }

  -- the row of a change's key
  effect_host : (c : Change) (r : RunRow) → m ≤ greatest_moment → has_key r.key (change_key c) ≡ true → IsHostRow self tasks m r → Suits self tasks c r → IsHostRow self tasks m (effect m tasks c r)
  effect_host (Planned k start tool epoch) r within own row suits =
      let accepted : RunRow = accept_row m (planned_span start r) tool r in
      host_same self tasks r (effect m tasks (Planned k start tool epoch) r) (confirmed_same (is_booked accepted && is_alone accepted) m r accepted (record { key = refl; asked = refl; participants = refl; merged = refl; archives = refl })) m row
      (effect_row self tasks m (Planned k start tool epoch) r within row.row suits)
  effect_host (Confirmed k) r within own row suits =
      host_same self tasks r (confirm_row m r) (record { key = refl; asked = refl; participants = refl; merged = refl; archives = refl }) m row (effect_row self tasks m (Confirmed k) r within row.row suits)
  effect_host (Closed k why) r within own row suits =
      host_same self tasks r (close_row (record { moment = m; why = why }) r) (record { key = refl; asked = refl; participants = refl; merged = refl; archives = refl }) m row (effect_row self tasks m (Closed k why) r within row.row suits)
  effect_host (Started k) r within own row suits =
      host_same self tasks r (start_row m r) (record { key = refl; asked = refl; participants = refl; merged = refl; archives = refl }) m row (effect_row self tasks m (Started k) r within row.row suits)
  effect_host (Ended k good body) r within own row suits =
      host_same self tasks r (end_row (record { moment = m; good = good; body = body }) r) (record { key = refl; asked = refl; participants = refl; merged = refl; archives = refl }) m row
      (effect_row self tasks m (Ended k good body) r within row.row suits)
  effect_host (FreeHeard k place answer) r within own row suits =
      host_same self tasks r (effect m tasks (FreeHeard k place answer) r) (other_same (with_free answer) place r) m row (effect_row self tasks m (FreeHeard k place answer) r within row.row suits)
  effect_host (AcceptHeard k place) r within own row suits =
      let heard : RunRow = change_other with_acceptance place r in
      host_same self tasks r (effect m tasks (AcceptHeard k place) r) (confirmed_same (is_booked heard && is_complete heard) m r heard (other_same with_acceptance place r)) m row (effect_row self tasks m (AcceptHeard k place) r within row.row suits)
  effect_host (told_there k place told) r within own row suits =
      host_same self tasks r (effect m tasks (told_there k place told) r) (other_same (with_told told) place r) m row (effect_row self tasks m (told_there k place told) r within row.row suits)
  effect_host (MaterialHeard k) r within own row suits =
      host_same self tasks r (material_row m r) (record { key = refl; asked = refl; participants = refl; merged = refl; archives = refl }) m row (effect_row self tasks m (MaterialHeard k) r within row.row suits)
  effect_host (ResultHeard k place result) r within own row suits =
      host_same self tasks r (effect m tasks (ResultHeard k place result) r) (other_same (with_result result) place r) m row (effect_row self tasks m (ResultHeard k place result) r within row.row suits)
  effect_host (Merged k body) r within own row suits =
      let is : r.key ≡ k = key_is r.key k own in
      let alone : IsLawfulRow m (merge_row (states_due m (archives_of tasks k)) body r) = effect_row self tasks m (Merged k body) r within row.row suits in
      subst (λ j. IsHostRow self tasks m (merge_row (states_due m (archives_of tasks j)) body r)) is
      (merged_host r body within row suits.2 (subst (λ j. IsLawfulRow m (merge_row (states_due m (archives_of tasks j)) body r)) (sym is) alone))
  effect_host (Tried k index state) r within own row suits = tried_host r index state row suits.1 (effect_row self tasks m (Tried k index state) r within row.row suits)
  effect_host c r within own row suits = row

  pub own_host : (c : Change) (r : RunRow) → m ≤ greatest_moment → IsHostRow self tasks m r → (has_key r.key (change_key c) ≡ true → Suits self tasks c r) → IsHostRow self tasks m (own_effect m tasks c r)
  own_host c r within row suits = go (has_key r.key (change_key c)) refl
    where
      go : (b : Bool) → has_key r.key (change_key c) ≡ b → IsHostRow self tasks m (cond b (effect m tasks c r) r)
      go true own = effect_host c r within own row (suits own)
      go false own = row

  -- what gives way isn't started
  pub way_host : (o : Option Incoming) (r : RunRow) → IsHostRow self tasks m r → IfSome o (λ i. in_conflict i.key i.class i.interval r ≡ true → IsNone r.started) → IsHostRow self tasks m (give_way m o r)
  way_host None r row yields = row
  way_host (Some i) r row yields = go (in_conflict i.key i.class i.interval r) refl
    where
      go : (b : Bool) → in_conflict i.key i.class i.interval r ≡ b → IsHostRow self tasks m (cond b (close_row (record { moment = m; why = Preempted i.key }) r) r)
      go true here =
          host_same self tasks r (close_row (record { moment = m; why = Preempted i.key }) r) (record { key = refl; asked = refl; participants = refl; merged = refl; archives = refl }) m row
          (closed_lawful m r row.row (record { moment = m; why = Preempted i.key }) (omega arith) tt (yields here))
      go false here = row
