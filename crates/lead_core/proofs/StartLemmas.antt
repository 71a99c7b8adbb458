-- What an attempt asks about is allowed; the start that is planned is the least one.
use Rattle.std.specs.Bool.{Decides}
use Rattle.std.specs.List.{find, list_all, range_with_len}
use Rattle.std.specs.Option.{option_or}
use Rattle.std.specs.Prelude.{All, IsTrue, nat_le, nat_lt, option_and_then, option_map}
use Rattle.std.proofs.Common.{◌≡◌, ◌+◌, ◌-◌, ◌<◌, ◌≤◌, ℕ, zero, suc, Bool, true, false, cond, max, map, List, ◌∷◌, Option, Some, None, is_some, inl, inr, refl, sym, subst, arith}
use Rattle.std.proofs.lemmas.Bool.{cases_lt, ltb-true}
use Rattle.std.proofs.lemmas.Bool.Decides.{Decides-by_and}
use Rattle.std.proofs.lemmas.List.Folds.{list_all-map}
use Rattle.ps_time.specs.Numbers.{horizon, most_attempts, plan_lead, retry_wait}
use Rattle.ps_time.specs.Span.{Range}
use Rattle.ps_time.specs.Starts.{least_start, lies_in}
use Rattle.ps_time.specs.declared.key.RunKey.{RunKey}
use Rattle.ps_time.specs.declared.tiers.Tiers.{Tiers}
use Rattle.ps_time.proofs.PictureLemmas.{and_true}
use Rattle.plugin_tool.specs.Choice.{chosen}
use Rattle.plugin_tool.specs.declared.tool.Tool.{Tool}
use Rattle.schedule_rule.specs.Rule.{Schedule, next_of, window_of}
use Rattle.run_states.specs.TaskRows.{newest_row}
use Rattle.run_states.specs.declared.answer.FreeAnswer.{FreeAnswer}
use Rattle.run_states.specs.declared.row.RunRow.{RunRow}
use Rattle.run_states.specs.declared.why.Closing.{Closing}
use Rattle.slot_search.specs.CommonStart.{choice_of, earliest, in_all_first, in_all_second}
use Rattle.slot_search.specs.declared.search.Choice.{Choice}
use Rattle.host_model.specs.NextAttempt.{asked_window, attempt_after, attempt_at, attempt_by, fresh_attempt, is_repeatable, next_attempt, repeated}
use Rattle.host_model.specs.Plan.{answers_of, common_start, startable_window, plan, planned_at, planned_with}
use Rattle.host_model.specs.declared.lead.Attempt.{Attempt}
use Rattle.host_model.specs.declared.lead.Planned.TheVariants.{At}
use Rattle.host_model.specs.declared.task_row.TaskRow.{TaskRow}
use Rattle.host_model.proofs.AllowedLemmas.{attempt_allowed}
use Rattle.host_model.proofs.Wishes.{given_if}
use Rattle.lead_core.specs.Starts.{IsBestStart, IsFreeForAll, IsFreeableForAll, IsLeastStart, IsPlannedStart, IsScheduled, MayStartAt}

-- ---- attempts
-- where its starts lie, and which attempt it is
record IsNear (m : ℕ) (a : Attempt) : Type 0 where
  ahead : m + plan_lead ≤ a.window.first
  soon : a.window.last ≤ m + horizon
  few : a.attempt < most_attempts

attempt_near : (rule : Schedule) (m number attempt : ℕ) (a : Attempt) → attempt < most_attempts → attempt_at m number attempt (window_of rule number) ≡ Some a → IsNear m a
attempt_near rule m number attempt a few e = go (window_of rule number) refl e
  where
    go : (o : Option Range) → window_of rule number ≡ o → attempt_at m number attempt o ≡ Some a → IsNear m a
    go None is e = cc
    go (Some w) is e =
        let g = given_if (nat_le w.first (m + horizon)) (Some (record { number = number; attempt = attempt; window = asked_window m w })) a e in
        let same : record { number = number; attempt = attempt; window = asked_window m w } ≡ a = cc in
        subst (IsNear m) same (record {
          ahead = omega arith;
          soon = omega arith;
          few = few;
        })

fresh_near : (rule : Schedule) (m from : ℕ) (a : Attempt) → fresh_attempt m rule from ≡ Some a → IsNear m a
fresh_near rule m from a e = go (next_of rule from (m + plan_lead)) e
  where
    go : (o : Option ℕ) → option_and_then (λ number. attempt_at m number 0 (window_of rule number)) o ≡ Some a → IsNear m a
    go None e = cc
    go (Some number) e = attempt_near rule m number 0 a (omega arith) e

after_near : (rule : Schedule) (m : ℕ) (k : RunKey) (a : Attempt) (confirmed : Option ℕ) (closed : Option Closing) → attempt_after m rule k confirmed closed ≡ Some a → IsNear m a
after_near rule m k a (Some s) closed e = fresh_near rule m (k.number + 1) a e
after_near rule m k a None None e = cc
after_near rule m k a None (Some c) e = go (is_repeatable m rule k) refl e
  where
    go : (t : Bool) → is_repeatable m rule k ≡ t → cond t (repeated m rule k c) (fresh_attempt m rule (k.number + 1)) ≡ Some a → IsNear m a
    go true is e =
        let again : nat_lt (k.attempt + 1) most_attempts ≡ true = (and_true (nat_lt (k.attempt + 1) most_attempts) _ is).0 in
        attempt_near rule m k.number (k.attempt + 1) a (ltb-true (k.attempt + 1) most_attempts again) (given_if (nat_le (c.moment + retry_wait) m) (attempt_at m k.number (k.attempt + 1) (window_of rule k.number)) a e).1
    go false is e = fresh_near rule m (k.number + 1) a e

-- the question of a task's next attempt lies in a window of its schedule
pub next_scheduled : (self : ℕ) (t : TaskRow) (rows : List RunRow) (m : ℕ) (a : Attempt) → next_attempt self rows m t ≡ Some a → IsScheduled t.task.rule m a
next_scheduled self t rows m a e =
    let near : IsNear m a = go (is_some t.closed) e in
    record { allowed = attempt_allowed self t rows m a e; ahead = near.ahead; soon = near.soon; few = near.few }
  where
    by : (o : Option RunRow) → attempt_by m t.task.rule o ≡ Some a → IsNear m a
    by None e = fresh_near t.task.rule m 0 a e
    by (Some r) e = after_near t.task.rule m r.key a r.confirmed r.closed e

    go : (b : Bool) → cond b None (attempt_by m t.task.rule (newest_row self t.serial rows)) ≡ Some a → IsNear m a
    go true e = cc
    go false e = by (newest_row self t.serial rows) e

-- ---- the least start
-- what is found among moments in a row is one of them and passes, and none before it does
find_least : (test : ℕ → Bool) (n a s : ℕ) → find test (range_with_len a n) ≡ Some s → ((a ≤ s) × (s < a + n)) × (test s ≡ true) × ((x : ℕ) → a ≤ x → x < s → test x ≡ false)
find_least test zero a s e = cc
find_least test (suc n) a s e = go (test a) refl e (find_least test n (a + 1) s)
  where
    go : (b : Bool) → test a ≡ b → cond b (Some a) (find test (range_with_len (a + 1) n)) ≡ Some s
        → (find test (range_with_len (a + 1) n) ≡ Some s → ((a + 1 ≤ s) × (s < a + 1 + n)) × (test s ≡ true) × ((x : ℕ) → a + 1 ≤ x → x < s → test x ≡ false))
        → ((a ≤ s) × (s < a + suc n)) × (test s ≡ true) × ((x : ℕ) → a ≤ x → x < s → test x ≡ false)
    go true is e later =
        let same : a ≡ s = cc in
        ((omega (arith, same), omega (arith, same)), subst (λ x. test x ≡ true) same is, λ x le lt. absurd (omega (arith, same, le, lt)))
    go false is e later =
        let more = later e in (
          (omega (arith, more.0.0), omega (arith, more.0.1)),
          more.1,
          λ x le lt. elim (cases_lt a x) [
            | inl above ↦ more.2 x (omega (arith, above)) lt
            | inr at ↦ let same : a ≡ x = omega (arith, le, at) in subst (λ y. test y ≡ false) same is
          ],
        )

find_none : (test : ℕ → Bool) (n a : ℕ) → find test (range_with_len a n) ≡ None → (x : ℕ) → a ≤ x → x < a + n → test x ≡ false
find_none test zero a e x le lt = absurd (omega (arith, le, lt))
find_none test (suc n) a e x le lt = go (test a) refl e (find_none test n (a + 1))
  where
    go : (b : Bool) → test a ≡ b → cond b (Some a) (find test (range_with_len (a + 1) n)) ≡ None → (find test (range_with_len (a + 1) n) ≡ None → (y : ℕ) → a + 1 ≤ y → y < a + 1 + n → test y ≡ false) → test x ≡ false
    go true is e later = cc
    go false is e later = elim (cases_lt a x) [ inl above ↦ later e x (omega (arith, above)) (omega (arith, lt)) | inr at ↦ let same : a ≡ x = omega (arith, le, at) in subst (λ y. test y ≡ false) same is ]

-- ---- for all
module _ (answers : List FreeAnswer) (s : ℕ) where
  all_first : Decides (in_all_first (map (λ a. a.tiers) answers) s) (IsFreeForAll answers s)
  all_first = decided_map (λ tiers. lies_in tiers.first s) (λ a. IsTrue (lies_in a.tiers.first s)) (λ a. ((λ e. e), (λ e. e)))
    where
      decided_map : (test : Tiers → Bool) (P : FreeAnswer → Type 0) → ((a : FreeAnswer) → Decides (test a.tiers) (P a)) → Decides (list_all test (map (λ a. a.tiers) answers)) (All P answers)
      decided_map test P each = subst (λ b. Decides b (All P answers)) (sym (list_all-map test (λ a. a.tiers) answers)) (Decides-by_and (λ a. test a.tiers) P (list_all (λ a. test a.tiers)) each refl (λ _ _. refl) answers)

  all_second : Decides (in_all_second (map (λ a. a.tiers) answers) s) (IsFreeableForAll answers s)
  all_second = decided_map (λ tiers. lies_in tiers.second s) (λ a. IsTrue (lies_in a.tiers.second s)) (λ a. ((λ e. e), (λ e. e)))
    where
      decided_map : (test : Tiers → Bool) (P : FreeAnswer → Type 0) → ((a : FreeAnswer) → Decides (test a.tiers) (P a)) → Decides (list_all test (map (λ a. a.tiers) answers)) (All P answers)
      decided_map test P each = subst (λ b. Decides b (All P answers)) (sym (list_all-map test (λ a. a.tiers) answers)) (Decides-by_and (λ a. test a.tiers) P (list_all (λ a. test a.tiers)) each refl (λ _ _. refl) answers)

-- ---- the plan
module _ (m : ℕ) (w : Range) where
  module _ (test : ℕ → Bool) (P : ℕ → Type 0) (each : (s : ℕ) → Decides (test s) (P s)) where
    least_is : (s : ℕ) → least_start test (startable_window m w) ≡ Some s → IsLeastStart m w P s
    least_is s e =
        let found = find_least test (w.last + 1 - max w.first (m + plan_lead)) (max w.first (m + plan_lead)) s e in
        record {
          may = ((omega (arith, found.0.0), omega (arith, found.0.0, found.0.1)), omega (arith, found.0.0));
          holds = (each s).0 found.1;
          least = λ x may holds. elim (cases_lt x s) [
            | inl below ↦ let off : test x ≡ false = found.2 x (omega (arith, may.0.0, may.1)) below in let on : test x ≡ true = (each x).1 holds in absurd (cc (off, on))
            | inr above ↦ above
          ];
        }

    none_is : least_start test (startable_window m w) ≡ None → (s : ℕ) → MayStartAt m w s → P s → ⊥
    none_is e s may holds =
        let off : test s ≡ false = find_none test (w.last + 1 - max w.first (m + plan_lead)) (max w.first (m + plan_lead)) e s (omega (arith, may.0.0, may.1)) (omega (arith, may.0.0, may.0.1, may.1)) in
        let on : test s ≡ true = (each s).1 holds in
        cc (off, on)

  module _ (answers : List FreeAnswer) (start : ℕ) where
    abbrev lists : List Tiers
    lists = map (λ a. a.tiers) answers

    second_is : (c : Choice) (o : Option ℕ) → least_start (in_all_second lists) (startable_window m w) ≡ o → option_map (choice_of true) o ≡ Some c → c.start ≡ start → IsLeastStart m w (IsFreeableForAll answers) start
    second_is c None is e at = cc
    second_is c (Some s) is e at = let same : s ≡ start = cc in subst (IsLeastStart m w (IsFreeableForAll answers)) same (least_is (in_all_second lists) (IsFreeableForAll answers) (all_second answers) s is)

    best_is : (c : Choice) → earliest (startable_window m w) lists ≡ Some c → c.start ≡ start → IsBestStart m w answers start
    best_is c e at = go (least_start (in_all_first lists) (startable_window m w)) refl e
      where
        go : (o : Option ℕ) → least_start (in_all_first lists) (startable_window m w) ≡ o → option_or (option_map (choice_of false) o) (option_map (choice_of true) (least_start (in_all_second lists) (startable_window m w))) ≡ Some c → IsBestStart m w answers start
        go (Some s) is e = let same : s ≡ start = cc in inl (subst (IsLeastStart m w (IsFreeForAll answers)) same (least_is (in_all_first lists) (IsFreeForAll answers) (all_first answers) s is))
        go None is e = inr (none_is (in_all_first lists) (IsFreeForAll answers) (all_first answers) is, second_is c (least_start (in_all_second lists) (startable_window m w)) refl e at)

module _ (wanted : List (List ℕ)) (r : RunRow) (own : FreeAnswer) (m start : ℕ) (tool : List ℕ) where
  at_start : (o : Option Choice) (t : Tool) → planned_at o t ≡ At start tool → (c : Choice) × (o ≡ Some c) × (c.start ≡ start)
  at_start None t e = cc
  at_start (Some c) t e = let same : c.start ≡ start = cc in (c, refl, same)

  found_start : (o : Option Range) → r.question ≡ o → (c : Choice) → common_start m o (own ∷ answers_of r) ≡ Some c → c.start ≡ start → IsPlannedStart m r own start
  found_start None is c e at = cc
  found_start (Some w) is c e at = record { window = w; asked = is; best = best_is m w (own ∷ answers_of r) start c e at }

  with_tool : (o : Option Tool) → planned_with m r.question (own ∷ answers_of r) o ≡ At start tool → IsPlannedStart m r own start
  with_tool None e = cc
  with_tool (Some t) e = let x = at_start (common_start m r.question (own ∷ answers_of r)) t e in found_start r.question refl x.0 x.1 x.2

  -- the planned start is the best one
  pub planned_best : plan m wanted r own ≡ At start tool → IsPlannedStart m r own start
  planned_best e = with_tool (chosen (map (λ a. a.tools) (own ∷ answers_of r)) wanted) e
