-- Why a jump by division finds the next number.
use Rattle.std.proofs.Common.{◌≡◌, ℕ, ◌+◌, ◌*◌, ◌/◌, ◌%◌, ◌^◌, ◌≤◌, ◌<◌, ◌&&◌, ◌||◌, ◌==◌, ◌↔◌, Bool, true, false, min, max, Option, Some, None, unwrap_or, is_some, nat_le, IsSome, IsNone, IfSome, sym, refl, inl, inr, arith}
use Rattle.std.specs.Bool.{then_some}
use Rattle.std.specs.Option.{ForSome}
use Rattle.std.proofs.lemmas.Bool.{cases_lt, and_parts, leb-true}
use Rattle.std.proofs.lemmas.Bool.Decides.{nat_tests}
use Rattle.std.proofs.lemmas.Grind.{div_ceil_times}
use Rattle.std.proofs.lemmas.Nat.{mul-le}
use Rattle.schedule_rule.proofs.FirstLemmas.{found}
use Rattle.ps_time.specs.Numbers.{greatest_moment, greatest_length}
use Rattle.schedule_rule.specs.Rule.{Schedule, IsRule, has_number, nominal_start, latest_start, last_start, window_of, window_reaches, reaches_from, next_of, numbers_of, IsLeast, HoldsNowhere}

-- a number below a quotient that is rounded up
pub short : (a r j : ℕ) → 0 < r → j < a / r + min 1 (a % r) → j * r < a
short a r j positive below =
    let bounds = div_ceil_times a r positive in
    let next : (j + 1) * r ≤ (a / r + min 1 (a % r)) * r = mul-le (j + 1) r _ r (omega arith) (omega arith) in
    omega (arith, next, bounds.1)

nominal_ascends : (rule : Schedule) (j k : ℕ) → j ≤ k → nominal_start rule j ≤ nominal_start rule k
nominal_ascends rule j k order = omega (arith, mul-le j (unwrap_or rule.repeat 0) k (unwrap_or rule.repeat 0) order (omega arith))

both_fail : (x y : Bool) → y ≡ false → (x && y) ≡ false
both_fail true y off = off
both_fail false y off = refl

-- a number whose nominal start is out of bounds
too_late : (rule : Schedule) (j reach : ℕ) → greatest_moment < nominal_start rule j → window_reaches (window_of rule j) reach ≡ false
too_late rule j reach late = grind (arith, nat_tests)

-- a number whose slip ends too early
not_before : (rule : Schedule) (j reach : ℕ) → latest_start rule j < reach → window_reaches (window_of rule j) reach ≡ false
not_before rule j reach early = grind (arith, nat_tests)

-- where each number that starts in time ends too early
pub none_in_time : (rule : Schedule) (from reach : ℕ) → ((j : ℕ) → nominal_start rule j ≤ greatest_moment → latest_start rule j < reach) → HoldsNowhere (reaches_from rule from reach)
none_in_time rule from reach early m = both_fail (nat_le from m) _ (elim (cases_lt greatest_moment (nominal_start rule m)) [
  | inl late ↦ too_late rule m reach late
  | inr in_time ↦ not_before rule m reach (early m in_time)
])

-- a later number reaches no more than this one, whose slip lasts long enough
after : (anchor slip : ℕ) (repeat until max_runs : Option ℕ) (n j reach : ℕ) → let rule : Schedule = record { anchor = anchor; slip = slip; repeat = repeat; until = until; max_runs = max_runs } in n ≤ j → nominal_start rule n ≤ nominal_start rule j → (IsSome repeat → reach ≤ latest_start rule n) → window_reaches (window_of rule n) reach ≡ false → window_reaches (window_of rule j) reach ≡ false
after anchor slip None until None n j reach order ascends lasts not_here = grind (arith, nat_tests)
after anchor slip None until (Some runs) n j reach order ascends lasts not_here = grind (arith, nat_tests)
after anchor slip (Some r) until None n j reach order ascends lasts not_here = grind (arith, nat_tests)
after anchor slip (Some r) until (Some runs) n j reach order ascends lasts not_here = grind (arith, nat_tests)

-- no number at or after from reaches, where the first that could doesn't
none_reaches : (rule : Schedule) (from first reach : ℕ) → ((j : ℕ) → j < first → latest_start rule j < reach) → (IsSome rule.repeat → reach ≤ latest_start rule first) → window_reaches (window_of rule (max from first)) reach ≡ false → HoldsNowhere (reaches_from rule from reach)
none_reaches rule from first reach early lasts not_here m =
    elim (cases_lt m from) [
      | inl below ↦ grind (arith, nat_tests)
      | inr from_on ↦ both_fail (nat_le from m) _ (elim (cases_lt m first) [
        | inl below ↦ not_before rule m reach (early m below)
        | inr above ↦ let ascends = nominal_ascends rule first (max from first) (omega arith) in after rule.anchor rule.slip rule.repeat rule.until rule.max_runs (max from first) m reach (omega arith) (nominal_ascends rule (max from first) m (omega arith)) (λ some. omega (arith, lasts some, ascends)) not_here
      ])
    ]

-- the first that could is the least that reaches, where it does
least_reaches : (rule : Schedule) (from first reach : ℕ) → ((j : ℕ) → j < first → latest_start rule j < reach) → window_reaches (window_of rule (max from first)) reach ≡ true → IsLeast (reaches_from rule from reach) (max from first)
least_reaches rule from first reach early here = record {
  holds = grind (arith, nat_tests);
  least = λ m reaches. let parts = and_parts (nat_le from m) _ reaches in
      let from_on : from ≤ m = leb-true from m parts.0 in
      elim (cases_lt m first) [
        | inl below ↦ let away = not_before rule m reach (early m below) in absurd (cc (away, parts.1))
        | inr order ↦ omega arith
      ];
}

-- a number that reaches is one of those that there are
number_within : (anchor slip : ℕ) (repeat until max_runs : Option ℕ) (from n reach : ℕ) → let rule : Schedule = record { anchor = anchor; slip = slip; repeat = repeat; until = until; max_runs = max_runs } in n < 2 ^ 32 → reaches_from rule from reach n ≡ true → n < numbers_of rule
number_within anchor slip None until None from n reach small here = grind (arith, nat_tests)
number_within anchor slip None until (Some runs) from n reach small here = grind (arith, nat_tests)
number_within anchor slip (Some r) until None from n reach small here = small
number_within anchor slip (Some r) until (Some runs) from n reach small here = grind (arith, nat_tests)

-- what is said of the next number
pub record IsNext (rule : Schedule) (from reach : ℕ) (r : Option ℕ) : Type 0 where
  pub value : r ≡ next_of rule from reach
  pub least : IfSome r (IsLeast (reaches_from rule from reach))
  pub none : IsNone r ↔ HoldsNowhere (reaches_from rule from reach)

-- the greater of from and the first number whose slip lasts long enough is the next, if its window reaches
jumped : (rule : Schedule) (from first reach : ℕ) (b : Bool) → ((j : ℕ) → j < first → latest_start rule j < reach) → (IsSome rule.repeat → reach ≤ latest_start rule first) → max from first < 2 ^ 32 → window_reaches (window_of rule (max from first)) reach ≡ b → IsNext rule from reach (then_some b (max from first))
jumped rule from first reach true early lasts small is =
    let least = least_reaches rule from first reach early is in
    record {
      value = found (reaches_from rule from reach) (numbers_of rule) (Some (max from first)) (number_within rule.anchor rule.slip rule.repeat rule.until rule.max_runs from (max from first) reach small least.holds) least (λ no m. cc);
      least = least;
      none = ((λ no m. cc), (λ nowhere. cc (least.holds, nowhere (max from first))));
    }
jumped rule from first reach false early lasts small is =
    let nowhere = none_reaches rule from first reach early lasts is in
    record {
      value = found (reaches_from rule from reach) (numbers_of rule) None tt tt (λ no. nowhere);
      least = tt;
      none = ((λ no. nowhere), (λ nowhere. refl));
    }

pub next_is : (rule : Schedule) (from first reach n : ℕ) (b : Bool) (r : Option ℕ) → ((j : ℕ) → j < first → latest_start rule j < reach) → (IsSome rule.repeat → reach ≤ latest_start rule first) → n < 2 ^ 32 → n ≡ max from first → b ≡ window_reaches (window_of rule n) reach → r ≡ then_some b n → IsNext rule from reach r
next_is rule from first reach n b r early lasts small greater answer is =
    rw (is, greater) (jumped rule from first reach b early lasts (rw (← greater) small) (rw (← greater) (sym answer)))

-- a repeat is at least a second, so no number that starts in time is above the greatest moment
repeated : (anchor k : ℕ) (repeat : Option ℕ) → ForSome repeat (λ r. (1 ≤ r) × (r ≤ greatest_length)) → (k == 0 || is_some repeat) ≡ true → anchor + k * unwrap_or repeat 0 ≤ greatest_moment → k ≤ greatest_moment
repeated anchor k None seconds exists in_time = grind (arith, nat_tests)
repeated anchor k (Some r) seconds exists in_time = let step : k * 1 ≤ k * r = mul-le k 1 k r (omega arith) (seconds r refl).0 in omega (arith, step)

pub number_below : (rule : Schedule) (k : ℕ) → IsRule rule → has_number rule k ≡ true → nominal_start rule k ≤ last_start rule → k ≤ greatest_moment
number_below rule k bounds exists in_time = repeated rule.anchor k rule.repeat bounds.repeat (and_parts _ _ exists).0 (omega arith)

-- what is said of a number holds of an answer that gives it
pub if_given : (b : Bool) (n most : ℕ) (r : Option ℕ) → r ≡ then_some b n → (b ≡ true → n ≤ most) → IfSome r (λ k. k ≤ most)
if_given true n most r is small = rw is (small refl)
if_given false n most r is small = rw is tt
