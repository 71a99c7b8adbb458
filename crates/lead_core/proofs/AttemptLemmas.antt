-- Numbers beyond those of the code, and windows that end before a moment.
use Rattle.std.specs.List.{find, range_with_len}
use Rattle.std.specs.Option.{option_or}
use Rattle.std.specs.Prelude.{◌&&◌, nat_le, option_and_then, option_map}
use Rattle.std.proofs.Common.{◌≡◌, ◌+◌, ◌-◌, ◌<◌, ◌≤◌, ℕ, Bool, true, false, cond, min, List, Some, None, refl, sym, ap, ap₂, ◌∙◌, arith}
use Rattle.std.proofs.lemmas.Bool.{and_parts}
use Rattle.std.proofs.lemmas.Bool.Decides.{nat_tests}
use Rattle.ps_time.specs.Numbers.{greatest_moment, plan_lead}
use Rattle.ps_time.specs.Span.{Range}
use Rattle.ps_time.specs.Starts.{least_start}
use Rattle.ps_time.specs.declared.tiers.Tiers.{Tiers}
use Rattle.schedule_rule.specs.Rule.{HoldsNowhere, IsRule, Schedule, has_number, last_start, latest_start, next_of, nominal_start, numbers_of, reaches_from, window_of, window_reaches}
use Rattle.schedule_rule.proofs.FirstLemmas.{found}
use Rattle.schedule_rule.proofs.JumpLemmas.{number_below}
use Rattle.host_model.specs.NextAttempt.{attempt_at, fresh_attempt}
use Rattle.slot_search.specs.CommonStart.{choice_of, earliest, in_all_first, in_all_second}

-- ---- numbers
module _ (rule : Schedule) (reach : ℕ) (bounds : IsRule rule) where
  -- a number with a window isn't above the greatest moment
  window_low : (k : ℕ) (t : Bool) → (has_number rule k && nat_le (nominal_start rule k) (min (latest_start rule k) (last_start rule))) ≡ t →
      window_reaches (cond t (Some (record { first = nominal_start rule k; last = min (latest_start rule k) (last_start rule) })) None) reach ≡ true → k ≤ greatest_moment
  window_low k true is reaches =
      let parts = and_parts (has_number rule k) _ is in
      let starts : nominal_start rule k ≤ min (latest_start rule k) (last_start rule) = grind (arith, nat_tests, parts.1) in
      number_below rule k bounds parts.0 (omega (arith, starts))
  window_low k false is reaches = cc

  none_reaches : (from : ℕ) → greatest_moment < from → HoldsNowhere (reaches_from rule from reach)
  none_reaches from high k = go (window_reaches (window_of rule k) reach) refl
    where
      below : (b : Bool) → (b ≡ true → k ≤ greatest_moment) → (nat_le from k && b) ≡ false
      below false low = elim (nat_le from k) as (λ t. (t && false) ≡ false) [ true ↦ refl | false ↦ refl ]
      below true low = let small : k ≤ greatest_moment = low refl in let under : nat_le from k ≡ false = grind (arith, nat_tests) in ap (λ t. t && true) under

      go : (b : Bool) → window_reaches (window_of rule k) reach ≡ b → (nat_le from k && window_reaches (window_of rule k) reach) ≡ false
      go b is = ap (λ t. nat_le from k && t) is ∙ below b (λ on. window_low k _ refl (is ∙ on))

  -- there is none from here on
  pub none_above : (from : ℕ) → greatest_moment < from → next_of rule from reach ≡ None
  none_above from high = sym (found (reaches_from rule from reach) (numbers_of rule) None tt tt (λ none. none_reaches from high))

  -- nor an attempt
  pub no_later : (m from : ℕ) → reach ≡ m + plan_lead → greatest_moment < from → None ≡ fresh_attempt m rule from
  no_later m from at high =
      sym (ap (option_and_then (λ number. attempt_at m number 0 (window_of rule number))) (ap (next_of rule from) (sym at) ∙ none_above from high))

-- ---- starts
-- a window that ends before its first start has none
no_start : (test : ℕ → Bool) (w : Range) → w.last < w.first → least_start test w ≡ None
no_start test w past = let empty : w.last + 1 - w.first ≡ 0 = omega arith in ap (λ n. find test (range_with_len w.first n)) empty

pub none_earliest : (w : Range) (lists : List Tiers) → w.last < w.first → earliest w lists ≡ None
none_earliest w lists past = ap₂ (λ a b. option_or (option_map (choice_of false) a) (option_map (choice_of true) b)) (no_start (in_all_first lists) w past) (no_start (in_all_second lists) w past)
