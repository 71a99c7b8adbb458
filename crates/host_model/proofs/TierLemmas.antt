-- A tier has the first 128 maximal windows of the starts that pass, and of rows those that are free.
use Rattle.std.specs.Bool.{Decides}
use Rattle.std.specs.List.{AllByRecursion, range_with_len}
use Rattle.std.proofs.Common.{◌≡◌, ◌≢◌, ◌⊎◌, inl, inr, ℕ, ℤ, zero, suc, ◌+◌, ◌-◌, ◌<◌, ◌≤◌, ◌||◌, List, [], ◌∷◌, filter, take, length, Bool, true, false, not, cond, eqb, nat_le, refl, sym, ap, ◌∙◌, arith}
use Rattle.std.proofs.lemmas.Bool.{and_from, and_parts, eqb-true, eqb-false, le-leb, leb-true, or_cases, or_left, or_right, cases_lt}
use Rattle.std.proofs.lemmas.Bool.Decides.{Decides-like, Decides-not}
use Rattle.std.proofs.lemmas.List.Elements.{All-from_recursion, recursion_from_All}
use Rattle.ps_time.specs.Numbers.{most_intervals}
use Rattle.ps_time.specs.Span.{Range, Span, span_of}
use Rattle.ps_time.specs.Starts.{gathered, is_within, join_start, lies_in, starts_in, tier_of}
use Rattle.ps_time.specs.declared.class.Class.{Class}
use Rattle.run_states.specs.Conflict.{blocks}
use Rattle.run_states.specs.Preemption.{yields}
use Rattle.run_states.specs.Rows.{IsAscendingRows}
use Rattle.run_states.specs.declared.row.RunRow.{RunRow}
use Rattle.host_model.specs.Conflicting.{Conflicts}
use Rattle.host_model.specs.FreeStarts.{free_tiers, is_free, is_freeable}
use Rattle.host_model.specs.FreeTier.{AreApart, BeginAfter, IsFreeStart, IsFreeableStart, IsIn, IsTier, AreMaximal}
use Rattle.host_model.proofs.RowTests.{GivesWay, blocks_decided, rows_decided, way_decided}

-- ---- one window
in_window : (w : Range) (s : ℕ) → is_within w s ≡ true → IsIn w s
in_window w s e = let both = and_parts (nat_le w.first s) (nat_le s w.last) e in (leb-true w.first s both.0, leb-true s w.last both.1)

window_has : (w : Range) (s : ℕ) → IsIn w s → is_within w s ≡ true
window_has w s x = and_from (nat_le w.first s) (nat_le s w.last) (le-leb w.first s x.0) (le-leb s w.last x.1)

-- ---- a start before windows that are apart
abbrev span : ℕ → ℕ → Range
span first last = record { first = first; last = last }

module _ (c : ℕ) where
  begin_joined : (d : ℕ) (ws : List Range) → d < c → BeginAfter d (join_start c ws)
  begin_joined d [] before = before
  begin_joined d (w ∷ ws) before = elim (eqb w.first (c + 1)) as (λ b. BeginAfter d (cond b (span c w.last ∷ ws) (span c c ∷ w ∷ ws))) [ true ↦ before | false ↦ before ]

  apart_joined : (ws : List Range) → AreApart ws → BeginAfter c ws → AreApart (join_start c ws)
  apart_joined [] apart after = (omega arith, tt, tt)
  apart_joined (w ∷ ws) apart after = go (eqb w.first (c + 1)) refl
    where
      go : (b : Bool) → eqb w.first (c + 1) ≡ b → AreApart (cond b (span c w.last ∷ ws) (span c c ∷ w ∷ ws))
      go true e = let next = eqb-true w.first (c + 1) e in (omega (arith, next, apart.0), apart.1, apart.2)
      go false e =
          let other = eqb-false w.first (c + 1) e in
          let behind : c + 1 < w.first = elim (cases_lt (c + 1) w.first) [ inl below ↦ below | inr above ↦ absurd (other (omega (arith, above, after))) ] in
          (omega arith, behind, apart)

  joined_from : (s : ℕ) (ws : List Range) → lies_in (join_start c ws) s ≡ true → (s ≡ c) ⊎ (lies_in ws s ≡ true)
  joined_from s [] e = elim (or_cases (is_within (span c c) s) false e) [ inl here ↦ (let x = in_window (span c c) s here in inl (omega (arith, x.0, x.1))) | inr later ↦ inr later ]
  joined_from s (w ∷ ws) e = go (eqb w.first (c + 1)) refl e
    where
      own : (s : ℕ) → IsIn (span c w.last) s → w.first ≡ c + 1 → (s ≡ c) ⊎ (lies_in (w ∷ ws) s ≡ true)
      own s x next = elim (cases_lt c s) [
        | inl above ↦ inr (or_left (is_within w s) (lies_in ws s) (window_has w s (omega (arith, above, next), x.1)))
        | inr same ↦ inl (omega (arith, same, x.0))
      ]

      go : (b : Bool) → eqb w.first (c + 1) ≡ b → lies_in (cond b (span c w.last ∷ ws) (span c c ∷ w ∷ ws)) s ≡ true → (s ≡ c) ⊎ (lies_in (w ∷ ws) s ≡ true)
      go true f g = elim (or_cases (is_within (span c w.last) s) (lies_in ws s) g) [
        | inl here ↦ own s (in_window (span c w.last) s here) (eqb-true w.first (c + 1) f)
        | inr later ↦ inr (or_right (is_within w s) (lies_in ws s) later)
      ]
      go false f g = elim (or_cases (is_within (span c c) s) (lies_in (w ∷ ws) s) g) [
        | inl here ↦ (let x = in_window (span c c) s here in inl (omega (arith, x.0, x.1)))
        | inr later ↦ inr later
      ]

  joined_here : (ws : List Range) → AreApart ws → lies_in (join_start c ws) c ≡ true
  joined_here [] apart = or_left (is_within (span c c) c) false (window_has (span c c) c (omega arith, omega arith))
  joined_here (w ∷ ws) apart = go (eqb w.first (c + 1)) refl
    where
      go : (b : Bool) → eqb w.first (c + 1) ≡ b → lies_in (cond b (span c w.last ∷ ws) (span c c ∷ w ∷ ws)) c ≡ true
      go true e = let next = eqb-true w.first (c + 1) e in or_left (is_within (span c w.last) c) (lies_in ws c) (window_has (span c w.last) c (omega arith, omega (arith, next, apart.0)))
      go false e = or_left (is_within (span c c) c) (lies_in (w ∷ ws) c) (window_has (span c c) c (omega arith, omega arith))

  joined_there : (s : ℕ) (ws : List Range) → lies_in ws s ≡ true → lies_in (join_start c ws) s ≡ true
  joined_there s [] e = cc
  joined_there s (w ∷ ws) e = go (eqb w.first (c + 1)) refl
    where
      go : (b : Bool) → eqb w.first (c + 1) ≡ b → lies_in (cond b (span c w.last ∷ ws) (span c c ∷ w ∷ ws)) s ≡ true
      go true f = elim (or_cases (is_within w s) (lies_in ws s) e) [
        | inl here ↦ (let x = in_window w s here in let next = eqb-true w.first (c + 1) f in or_left (is_within (span c w.last) s) (lies_in ws s) (window_has (span c w.last) s (omega (arith, next, x.0), x.1)))
        | inr later ↦ or_right (is_within (span c w.last) s) (lies_in ws s) later
      ]
      go false f = or_right (is_within (span c c) s) (lies_in (w ∷ ws) s) e

-- ---- all windows
-- the windows of the n starts from a on that pass
pub record Gathered (test : ℕ → Bool) (a n : ℕ) (ws : List Range) : Type 0 where
  pub begin : (d : ℕ) → d < a → BeginAfter d ws
  pub apart : AreApart ws
  pub sound : (s : ℕ) → lies_in ws s ≡ true → (a ≤ s) × (s < a + n) × (test s ≡ true)
  pub whole : (s : ℕ) → a ≤ s → s < a + n → test s ≡ true → lies_in ws s ≡ true

module _ (test : ℕ → Bool) where
  abbrev pub windows : ℕ → ℕ → List Range
  windows a n = gathered (filter test (range_with_len a n))

  one_more : (a n : ℕ) (b : Bool) → test a ≡ b → Gathered test (a + 1) n (windows (a + 1) n) → Gathered test a (suc n) (gathered (cond b (a ∷ filter test (range_with_len (a + 1) n)) (filter test (range_with_len (a + 1) n))))
  one_more a n true is g = record {
    begin = λ d before. begin_joined a d (windows (a + 1) n) before;
    apart = apart_joined a (windows (a + 1) n) g.apart (g.begin a (omega arith));
    sound = λ s e. elim (joined_from a s (windows (a + 1) n) e) [
      | inl same ↦ (omega (arith, same), omega (arith, same), ap test same ∙ is)
      | inr later ↦ (let x = g.sound s later in (omega (arith, x.0), omega (arith, x.1), x.2))
    ];
    whole = λ s from to passes. elim (cases_lt a s) [
      | inl above ↦ joined_there a s (windows (a + 1) n) (g.whole s (omega (arith, above)) (omega (arith, to)) passes)
      | inr below ↦ (let same : a ≡ s = omega (arith, below, from) in ap (lies_in (join_start a (windows (a + 1) n))) (sym same) ∙ joined_here a (windows (a + 1) n) g.apart)
    ];
  }
  one_more a n false is g = record {
    begin = λ d before. g.begin d (omega (arith, before));
    apart = g.apart;
    sound = λ s e. let x = g.sound s e in (omega (arith, x.0), omega (arith, x.1), x.2);
    whole = λ s from to passes. elim (cases_lt a s) [
      | inl above ↦ g.whole s (omega (arith, above)) (omega (arith, to)) passes
      | inr below ↦ (let same : s ≡ a = omega (arith, below, from) in let fails : true ≡ false = sym passes ∙ ap test same ∙ is in cc)
    ];
  }

  pub gathered_is : (n a : ℕ) → Gathered test a n (windows a n)
  gathered_is zero a = record { begin = λ d before. tt; apart = tt; sound = λ s e. cc; whole = λ s from to passes. absurd (omega (arith, from, to)) }
  gathered_is (suc n) a = one_more a n (test a) refl (gathered_is n (a + 1))

-- ---- the first windows
begin_taken : (n d : ℕ) (ws : List Range) → BeginAfter d ws → BeginAfter d (take n ws)
begin_taken zero d ws after = tt
begin_taken (suc n) d [] after = tt
begin_taken (suc n) d (w ∷ ws) after = after

apart_taken : (n : ℕ) (ws : List Range) → AreApart ws → AreApart (take n ws)
apart_taken zero ws apart = tt
apart_taken (suc n) [] apart = tt
apart_taken (suc n) (w ∷ ws) apart = (apart.0, begin_taken n (w.last + 1) ws apart.1, apart_taken n ws apart.2)

few_taken : (n : ℕ) (ws : List Range) → length (take n ws) ≤ n
few_taken zero ws = omega arith
few_taken (suc n) [] = omega arith
few_taken (suc n) (w ∷ ws) = let rest = few_taken n ws in omega (arith, rest)

taken_from : (n s : ℕ) (ws : List Range) → lies_in (take n ws) s ≡ true → lies_in ws s ≡ true
taken_from zero s ws e = cc
taken_from (suc n) s [] e = cc
taken_from (suc n) s (w ∷ ws) e = elim (or_cases (is_within w s) (lies_in (take n ws) s) e) [
  | inl here ↦ or_left (is_within w s) (lies_in ws s) here
  | inr later ↦ or_right (is_within w s) (lies_in ws s) (taken_from n s ws later)
]

-- what lies in windows lies behind what they begin after
behind : (d s : ℕ) (ws : List Range) → AreApart ws → BeginAfter d ws → lies_in ws s ≡ true → d < s
behind d s [] apart after e = cc
behind d s (w ∷ ws) apart after e = elim (or_cases (is_within w s) (lies_in ws s) e) [
  | inl here ↦ (let x = in_window w s here in omega (arith, after, x.0))
  | inr later ↦ (let next = behind (w.last + 1) s ws apart.2 apart.1 later in omega (arith, next, after, apart.0))
]

taken_or_behind : (n s : ℕ) (ws : List Range) → AreApart ws → lies_in ws s ≡ true → (lies_in (take n ws) s ≡ true) ⊎ ((length (take n ws) ≡ n) × AllByRecursion (λ w. w.last + 1 < s) (take n ws))
taken_or_behind zero s ws apart e = inr (refl, tt)
taken_or_behind (suc n) s [] apart e = cc
taken_or_behind (suc n) s (w ∷ ws) apart e = elim (or_cases (is_within w s) (lies_in ws s) e) [
  | inl here ↦ inl (or_left (is_within w s) (lies_in (take n ws) s) here)
  | inr later ↦ elim (taken_or_behind n s ws apart.2 later) [
    | inl taken ↦ inl (or_right (is_within w s) (lies_in (take n ws) s) taken)
    | inr past ↦ inr (ap suc past.0, (behind (w.last + 1) s ws apart.2 apart.1 later, past.1))
  ]
]

-- ---- a tier
module _ (test : ℕ → Bool) (P : ℕ → Type 0) (each : (s : ℕ) → Decides (test s) (P s)) (w : Range) where
  abbrev all_windows : List Range
  all_windows = gathered (filter test (starts_in w))

  all_is : Gathered test w.first (w.last + 1 - w.first) all_windows
  all_is = gathered_is test (w.last + 1 - w.first) w.first

  pub tier_is : IsTier P w (tier_of test w)
  tier_is = record {
    sound = λ s e. let x = all_is.sound s (taken_from most_intervals s all_windows e) in ((x.0, omega (arith, x.0, x.1)), (each s).0 x.2);
    whole = λ s inside holds.
        let there = all_is.whole s inside.0 (omega (arith, inside.0, inside.1)) ((each s).1 holds) in
        elim (taken_or_behind most_intervals s all_windows all_is.apart there) [
          | inl taken ↦ inl taken
          | inr past ↦ inr (past.0, All-from_recursion (λ x. x.last + 1 < s) (take most_intervals all_windows) past.1)
        ];
    apart = apart_taken most_intervals all_windows all_is.apart;
    few = few_taken most_intervals all_windows;
  }

-- windows that end before a start, with a moment between, don't touch it
none_touched : (s : ℕ) (ws : List Range) → AreApart ws → AllByRecursion (λ x. x.last + 1 < s) ws → AllByRecursion (λ x. (s ≢ x.last + 1) × (s + 1 ≢ x.first)) ws
none_touched s [] apart ends = tt
none_touched s (w ∷ ws) apart ends = (((λ same. omega (arith, same, ends.0)), (λ same. omega (arith, same, ends.0, apart.0))), none_touched s ws apart.2 ends.1)

-- the windows of a tier are maximal
pub tier_maximal : (P : ℕ → Type 0) (w : Range) (tier : List Range) → IsTier P w tier → AreMaximal P w tier
tier_maximal P w tier is s inside holds outside = elim (is.whole s inside holds) [
  | inl there ↦ (let never : true ≡ false = sym there ∙ outside in cc)
  | inr past ↦ All-from_recursion (λ x. (s ≢ x.last + 1) × (s + 1 ≢ x.first)) tier (none_touched s tier is.apart (recursion_from_All (λ x. x.last + 1 < s) tier past.1))
]

-- ---- free starts
module _ (class : Class) (len : ℕ) (priority : ℤ) (m : ℕ) (rows : List RunRow) (up : IsAscendingRows rows) where
  abbrev Clear : ℕ → RunRow → Type 0
  Clear s r = (i : Span) → Conflicts class (span_of s len) r i → ⊥

  clear_decided : (s : ℕ) (r : RunRow) → Decides (not (blocks class (span_of s len) r)) (Clear s r)
  clear_decided s r = Decides-like (not (blocks class (span_of s len) r)) (λ none i f. none (i, f)) (λ clear x. clear x.0 x.1) (Decides-not (blocks class (span_of s len) r) (blocks_decided class (span_of s len) r))

  pub free_decided : (s : ℕ) → Decides (is_free rows class len s) (IsFreeStart rows class len s)
  free_decided s = Decides-like (is_free rows class len s) (λ all k r i e f. all k r e i f) (λ free k r e i f. free k r i e f) (rows_decided (λ r. not (blocks class (span_of s len) r)) (Clear s) (clear_decided s) rows up)

  pub freeable_decided : (s : ℕ) → Decides (is_freeable rows m class len priority s) (IsFreeableStart rows m class len priority s)
  freeable_decided s =
      Decides-like (is_freeable rows m class len priority s) (λ all k r i e f. all k r e i f) (λ free k r e i f. free k r i e f)
      (rows_decided (λ r. not (blocks class (span_of s len) r) || yields priority m r) (GivesWay class (span_of s len) priority m) (way_decided class (span_of s len) priority m) rows up)

  -- what a host answers that is asked when it is free
  pub free_tiers_are : (w : Range) → IsTier (IsFreeStart rows class len) w (free_tiers rows m class len priority w).first × IsTier (IsFreeableStart rows m class len priority) w (free_tiers rows m class len priority w).second
  free_tiers_are w =
      (tier_is (is_free rows class len) (IsFreeStart rows class len) free_decided w, tier_is (is_freeable rows m class len priority) (IsFreeableStart rows m class len priority) freeable_decided w)
