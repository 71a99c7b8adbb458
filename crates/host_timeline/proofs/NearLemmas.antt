-- The bookings that the sweep looks at decide which starts of the window are free, whatever their order.
use Rattle.std.proofs.Common.{◌≡◌, ◌∙◌, ℕ, ℤ, suc, ◌+◌, ◌<◌, ◌≤◌, List, [], ◌∷◌, length, get_or, Bool, true, false, cond, not, ◌&&◌, ◌||◌, ltb, leb, eqb, take, ◌++◌, ◌-◌, Option, refl, sym, ap, ap₂, subst, arith}
use Rattle.std.specs.List.{filter, list_all, sum_by, AllByRecursion}
use Rattle.std.specs.List.Sorted.{IsPermutation, IsNonDecreasingBy}
use Rattle.std.proofs.lemmas.Bool.Decides.{nat_tests}
use Rattle.std.proofs.lemmas.List.Folds.{sum_by-zero, list_all-append}
use Rattle.std.proofs.lemmas.List.Sorted.{sum_by-IsPermutation}
use Rattle.ps_time.specs.Class.{conflicting_classes}
use Rattle.ps_time.specs.Numbers.{most_intervals}
use Rattle.ps_time.specs.Span.{Range, overlap, span_of}
use Rattle.ps_time.specs.Starts.{tier_of}
use Rattle.ps_time.specs.declared.class.Class.{Class}
use Rattle.host_timeline.specs.declared.booking.Booking.{Booking}
use Rattle.host_timeline.specs.Booking.{conflicts_with, can_preempt}
use Rattle.host_timeline.specs.Free.{is_free, is_freeable}
use Rattle.host_timeline.specs.Lane.{is_beside, starts_by, Decide}
use Rattle.host_timeline.specs.Sweep.{barred_from, is_near, is_clear, IsSwept}
use Rattle.host_timeline.proofs.GatherLemmas.{same_windows}
use Rattle.host_timeline.proofs.Tests.{both_true}

module _ {X : Type 0} where
  -- a test of all that another lets through is a test of all
  pub all_filter : (p q r : X → Bool) → ((x : X) → cond (p x) (q x) true ≡ r x) → (xs : List X) → list_all q (filter p xs) ≡ list_all r xs
  all_filter p q r same [] = refl
  all_filter p q r same (x ∷ xs) =
      let rest = all_filter p q r same xs in
      let cases = elim (p x) as (λ b. cond b (q x) true ≡ r x → list_all q (cond b (x ∷ filter p xs) (filter p xs)) ≡ (r x && list_all r xs)) [
        | true ↦ λ is. rw (is, rest) refl
        | false ↦ λ is. rw (← is, rest) refl
      ] in
      cases (same x)

  all_same : (q r : X → Bool) → ((x : X) → q x ≡ r x) → (xs : List X) → list_all q xs ≡ list_all r xs
  all_same q r same [] = refl
  all_same q r same (x ∷ xs) = rw (same x, all_same q r same xs) refl

  -- the order of a list doesn't matter
  pub all_moved : (q : X → Bool) (xs ys : List X) → IsPermutation xs ys → list_all q ys ≡ list_all q xs
  all_moved q xs ys moved =
      let fails : X → ℕ = λ x. cond (q x) 0 1 in
      let test : (x : X) → eqb (fails x) 0 ≡ q x = λ x. elim (q x) as (λ b. eqb (cond b 0 1) 0 ≡ b) [ true ↦ refl | false ↦ refl ] in
      let left : list_all q ys ≡ eqb (sum_by fails ys) 0 = sym (sum_by-zero fails ys ∙ all_same (λ x. eqb (fails x) 0) q test ys) in
      let right : eqb (sum_by fails xs) 0 ≡ list_all q xs = sum_by-zero fails xs ∙ all_same (λ x. eqb (fails x) 0) q test xs in
      left ∙ ap (λ n. eqb n 0) (sum_by-IsPermutation fails xs ys moved) ∙ right

  pub all_split : (q : X → Bool) (x : X) (xs : List X) → list_all q (x ∷ xs) ≡ true → (q x ≡ true) × (list_all q xs ≡ true)
  all_split q x xs is = both_true (q x) (list_all q xs) is

  all_true : (xs : List X) → list_all (λ x. true) xs ≡ true
  all_true [] = refl
  all_true (x ∷ xs) = all_true xs

  always : (p q : X → Bool) → ((x : X) → cond (p x) (q x) true ≡ true) → (xs : List X) → list_all q (filter p xs) ≡ true
  always p q same xs = all_filter p q (λ x. true) same xs ∙ all_true xs

-- no test of all tells two lists apart
abbrev pub AllAlike : List Booking → List Booking → Type 0
AllAlike xs ys = (q : Booking → Bool) → list_all q ys ≡ list_all q xs

-- ---- the order of the sweep
abbrev bars : ℕ → Booking → Bool
bars len b = ltb (barred_from len b) b.interval.end

rises : (first : ℕ) (bs : List Booking) → ((i : ℕ) (d : Booking) → i < length bs → first ≤ (get_or bs i d).interval.start) → AllByRecursion (λ d. first ≤ d.interval.start) bs
rises first [] all = tt
rises first (b ∷ bs) all = (all 0 b (omega arith), rises first bs (λ i d lt. all (suc i) d (omega arith)))

pub swept_of : (len : ℕ) (bs : List Booking) → list_all (bars len) bs ≡ true → IsNonDecreasingBy (λ b. b.interval.start) bs → IsSwept len bs
swept_of len [] bar up = tt
swept_of len (b ∷ bs) bar up =
    let parts = all_split (bars len) b bs bar in
    let here : barred_from len b < b.interval.end = let is = parts.0 in grind (arith, nat_tests) in
    (here, rises b.interval.start bs (λ i d lt. up 0 (suc i) d (omega arith) (omega arith)), swept_of len bs parts.1 (λ i j d le lt. up (suc i) (suc j) d (omega arith) (omega arith)))

-- ---- what is near decides
module _ (class : Class) (len : ℕ) (w : Range) where
  either : (x : Bool) → cond x true true ≡ true
  either true = refl
  either false = refl

  near_bars : (b : Booking) → cond (is_near class len w b) (bars len b) true ≡ true
  near_bars b =
      elim (conflicting_classes class b.class) as (λ c. cond (c && (bars len b && (leb (barred_from len b) w.last && ltb w.first b.interval.end))) (bars len b) true ≡ true) [
        | true ↦ elim (bars len b) as (λ x. cond (x && (leb (barred_from len b) w.last && ltb w.first b.interval.end)) x true ≡ true) [
          | true ↦ either (leb (barred_from len b) w.last && ltb w.first b.interval.end)
          | false ↦ refl
        ]
        | false ↦ refl
      ]

  pub near_swept : (bs near : List Booking) → IsPermutation (filter (is_near class len w) bs) near → IsNonDecreasingBy (λ b. b.interval.start) near → IsSwept len near
  near_swept bs near moved up = swept_of len near (all_moved (bars len) (filter (is_near class len w) bs) near moved ∙ always (is_near class len w) (bars len) near_bars bs) up

  -- at a start of the window
  module _ (s : ℕ) (after : w.first ≤ s) (before : s < w.last + 1) where
    -- what isn't near doesn't overlap
    far : (b : Booking) → (bars len b && (leb (barred_from len b) w.last && ltb w.first b.interval.end)) ≡ false → overlap (span_of s len) b.interval ≡ false
    far b is = grind (arith, nat_tests)

    near_decides : (free : Booking → Bool) (b : Booking) → cond (is_near class len w b) (not (overlap (span_of s len) b.interval) || free b) true ≡ (not (conflicts_with class (span_of s len) b) || free b)
    near_decides free b =
        let rest = bars len b && (leb (barred_from len b) w.last && ltb w.first b.interval.end) in
        let over = overlap (span_of s len) b.interval in
        let cases = elim rest as (λ x. (x ≡ false → over ≡ false) → cond x (not over || free b) true ≡ (not over || free b)) [
          | true ↦ λ f. refl
          | false ↦ λ f. rw (f refl) refl
        ] in
        elim (conflicting_classes class b.class) as (λ c. cond (c && rest) (not over || free b) true ≡ (not (c && over) || free b)) [
          | true ↦ cases (far b)
          | false ↦ refl
        ]

    no_more : (x : Bool) → (x || false) ≡ x
    no_more true = refl
    no_more false = refl

    clear_is_free : (bs near : List Booking) → AllAlike (filter (is_near class len w) bs) near → is_clear len near s ≡ is_free class len bs s
    clear_is_free bs near alike =
        alike (λ b. not (overlap (span_of s len) b.interval))
        ∙ all_filter (is_near class len w) (λ b. not (overlap (span_of s len) b.interval)) (λ b. not (conflicts_with class (span_of s len) b)) (λ b. ap (λ x. cond (is_near class len w b) x true) (sym (no_more (not (overlap (span_of s len) b.interval)))) ∙ near_decides (λ b. false) b ∙ no_more (not (conflicts_with class (span_of s len) b))) bs

    or_as_cond : (p q : Bool) → cond (not p) q true ≡ (q || p)
    or_as_cond true true = refl
    or_as_cond true false = refl
    or_as_cond false true = refl
    or_as_cond false false = refl

    module _ (priority : ℤ) (m : ℕ) where
      spared : (b : Booking) → cond (not (can_preempt priority m b)) (not (overlap (span_of s len) b.interval)) true ≡ (not (overlap (span_of s len) b.interval) || can_preempt priority m b)
      spared b = or_as_cond (can_preempt priority m b) (not (overlap (span_of s len) b.interval))

      clear_is_freeable : (bs near : List Booking) → AllAlike (filter (is_near class len w) bs) near → is_clear len (filter (λ b. not (can_preempt priority m b)) near) s ≡ is_freeable class len priority m bs s
      clear_is_freeable bs near alike =
          all_filter (λ b. not (can_preempt priority m b)) (λ b. not (overlap (span_of s len) b.interval)) (λ b. not (overlap (span_of s len) b.interval) || can_preempt priority m b) spared near
          ∙ alike (λ b. not (overlap (span_of s len) b.interval) || can_preempt priority m b)
          ∙ all_filter (is_near class len w) (λ b. not (overlap (span_of s len) b.interval) || can_preempt priority m b) (λ b. not (conflicts_with class (span_of s len) b) || can_preempt priority m b) (near_decides (can_preempt priority m)) bs

  -- so the tiers are those over the near ones
  pub first_tier : (bs near : List Booking) → AllAlike (filter (is_near class len w) bs) near → tier_of (is_clear len near) w ≡ tier_of (is_free class len bs) w
  first_tier bs near alike = ap (take most_intervals) (same_windows (is_clear len near) (is_free class len bs) (w.last + 1) w.first (λ s le lt. clear_is_free s le lt bs near alike))

  pub second_tier : (priority : ℤ) (m : ℕ) (bs near : List Booking) → AllAlike (filter (is_near class len w) bs) near → tier_of (is_clear len (filter (λ b. not (can_preempt priority m b)) near)) w ≡ tier_of (is_freeable class len priority m bs) w
  second_tier priority m bs near alike =
      ap (take most_intervals) (same_windows (is_clear len (filter (λ b. not (can_preempt priority m b)) near)) (is_freeable class len priority m bs) (w.last + 1) w.first (λ s le lt. clear_is_freeable s le lt priority m bs near alike))

-- ---- the lists that a run looks at have all that is near
module _ (class : Class) (len : ℕ) (w : Range) (until : Option ℕ) (reaches : (start : ℕ) → leb (start + 1 - len) w.last ≡ true → starts_by until start ≡ true) where
  near_true : (classes bar last first : Bool) → (classes && (bar && (last && first))) ≡ true → (classes ≡ true) × (last ≡ true) × (first ≡ true)
  near_true true true true true is = (refl, refl, refl)
  near_true true true true false is = cc
  near_true true true false first is = cc
  near_true true false last first is = cc
  near_true false bar last first is = cc

  near_beside : (b : Booking) → is_beside class w.first until b ≡ false → is_near class len w b ≡ false
  near_beside b outside =
      let cases = elim (is_near class len w b) as (λ x. is_near class len w b ≡ x → x ≡ false) [
        | true ↦ λ is.
            let parts = near_true (conflicting_classes class b.class) (bars len b) (leb (barred_from len b) w.last) (ltb w.first b.interval.end) is in
            let inside : is_beside class w.first until b ≡ true = rw (parts.0, parts.2, reaches b.interval.start parts.1) refl in
            cc (inside, outside)
        | false ↦ λ is. refl
      ] in
      cases refl

  kept_or : (p q : Bool) → cond p q true ≡ (not p || q)
  kept_or true q = refl
  kept_or false q = refl

  pub near_alike : (bs some others near : List Booking) → Decide class w.first until bs some others → IsPermutation (filter (is_near class len w) some ++ filter (is_near class len w) others) near → AllAlike (filter (is_near class len w) bs) near
  near_alike bs some others near decide moved = λ q.
      let test : Booking → Bool = λ b. not (is_near class len w b) || q b in
      let filtered : (xs : List Booking) → list_all q (filter (is_near class len w) xs) ≡ list_all test xs = all_filter (is_near class len w) q test (λ b. kept_or (is_near class len w b) (q b)) in
      all_moved q (filter (is_near class len w) some ++ filter (is_near class len w) others) near moved
      ∙ list_all-append q (filter (is_near class len w) some) (filter (is_near class len w) others)
      ∙ ap₂ (λ x y. x && y) (filtered some) (filtered others)
      ∙ decide test (λ b outside. rw (near_beside b outside) refl)
      ∙ sym (filtered bs)

filter_append : (p : Booking → Bool) (xs ys : List Booking) → filter p xs ++ filter p ys ≡ filter p (xs ++ ys)
filter_append p [] ys = refl
filter_append p (x ∷ xs) ys = elim (p x) as (λ b. cond b (x ∷ filter p xs) (filter p xs) ++ filter p ys ≡ cond b (x ∷ filter p (xs ++ ys)) (filter p (xs ++ ys))) [ true ↦ ap (λ l. x ∷ l) (filter_append p xs ys) | false ↦ filter_append p xs ys ]

pub both_swept : (class : Class) (len : ℕ) (w : Range) (some others near : List Booking) → IsPermutation (filter (is_near class len w) some ++ filter (is_near class len w) others) near → IsNonDecreasingBy (λ b. b.interval.start) near → IsSwept len near
both_swept class len w some others near moved up = near_swept class len w (some ++ others) near (subst (λ l. IsPermutation l near) (filter_append (is_near class len w) some others) moved) up

-- the sweep over some of them
all_kept : (P : Booking → Type 0) (p : Booking → Bool) (bs : List Booking) → AllByRecursion P bs → AllByRecursion P (filter p bs)
all_kept P p [] all = tt
all_kept P p (b ∷ bs) all = elim (p b) as (λ x. AllByRecursion P (cond x (b ∷ filter p bs) (filter p bs))) [ true ↦ (all.0, all_kept P p bs all.1) | false ↦ all_kept P p bs all.1 ]

pub swept_filter : (len : ℕ) (p : Booking → Bool) (bs : List Booking) → IsSwept len bs → IsSwept len (filter p bs)
swept_filter len p [] swept = tt
swept_filter len p (b ∷ bs) swept =
    elim (p b) as (λ x. IsSwept len (cond x (b ∷ filter p bs) (filter p bs))) [
      | true ↦ (swept.0, all_kept (λ d. b.interval.start ≤ d.interval.start) p bs swept.1, swept_filter len p bs swept.2)
      | false ↦ swept_filter len p bs swept.2
    ]
