-- The sweep gives exactly the maximal windows of free starts.
use Rattle.std.proofs.Common.{◌≡◌, ◌∙◌, ℕ, zero, suc, ◌+◌, ◌-◌, ◌<◌, ◌≤◌, List, [], ◌∷◌, ◌++◌, true, false, ltb, leb, get_or, drop, drop-cons, inl, inr, refl, sym, ap, arith, max, min, take, length, Option, Some, None}
use Rattle.std.specs.List.{AllByRecursion}
use Rattle.std.specs.Option.{option_to_list}
use Rattle.std.proofs.lemmas.Bool.{cases_lt}
use Rattle.std.proofs.lemmas.List.{drop_all, take_all, take-append-le, length-append, append_assoc, append-nil}
use Rattle.ps_time.specs.Numbers.{most_intervals}
use Rattle.std.proofs.lemmas.Bool.Decides.{nat_tests}
use Rattle.ps_time.specs.Span.{Range, overlap, span_of}
use Rattle.host_timeline.specs.declared.booking.Booking.{Booking}
use Rattle.host_timeline.specs.Sweep.{barred_from, is_clear, IsSwept, window_before, window_to, gaps, with_window}
use Rattle.host_timeline.proofs.GatherLemmas.{windows_from, range, nothing, skip, run, same_windows}

module _ (len : ℕ) where
  -- a run overlaps a booking exactly from the first barred start on, before its end
  overlaps_at : (b : Booking) (s : ℕ) → barred_from len b ≤ s → s < b.interval.end → overlap (span_of s len) b.interval ≡ true
  overlaps_at b s above below = grind (arith, nat_tests)

  apart_below : (b : Booking) (s : ℕ) → s < barred_from len b → overlap (span_of s len) b.interval ≡ false
  apart_below b s below = grind (arith, nat_tests)

  apart_above : (b : Booking) (s : ℕ) → b.interval.end ≤ s → overlap (span_of s len) b.interval ≡ false
  apart_above b s above = grind (arith, nat_tests)

  -- before all that is barred nothing is overlapped
  clear_below : (s first : ℕ) (bs : List Booking) → AllByRecursion (λ d. first ≤ d.interval.start) bs → s < first + 1 - len → is_clear len bs s ≡ true
  clear_below s first [] all below = refl
  clear_below s first (b ∷ bs) all below = rw (apart_below b s (omega (arith, all.0)), clear_below s first bs all.1 below) refl

  module _ (last : ℕ) (b : Booking) (bs : List Booking) (swept : IsSwept len (b ∷ bs)) where
    barred : (s : ℕ) → barred_from len b ≤ s → s < b.interval.end → is_clear len (b ∷ bs) s ≡ false
    barred s above below = rw (overlaps_at b s above below) refl

    behind : (s : ℕ) → b.interval.end ≤ s → is_clear len (b ∷ bs) s ≡ is_clear len bs s
    behind s above = rw (apart_above b s above) refl

    before : (s : ℕ) → s < barred_from len b → is_clear len (b ∷ bs) s ≡ true
    before s below = rw (apart_below b s below) (clear_below s b.interval.start bs swept.1 below)

    -- from the first barred start on the others decide, behind this one's end
    go_behind : (from : ℕ) → barred_from len b ≤ from → windows_from (is_clear len (b ∷ bs)) (last + 1) from ≡ windows_from (is_clear len bs) (last + 1) (max from b.interval.end)
    go_behind from above =
        skip (is_clear len (b ∷ bs)) (last + 1) from (max from b.interval.end) (omega arith) (λ s le lt. barred s (omega arith) (omega arith))
        ∙ same_windows (is_clear len (b ∷ bs)) (is_clear len bs) (last + 1) (max from b.interval.end) (λ s le lt. behind s (omega arith))

    -- the window before the first barred start
    first_window : (from : ℕ) → from < barred_from len b → from ≤ last → windows_from (is_clear len (b ∷ bs)) (last + 1) from ≡ range from (min (barred_from len b - 1) last) ∷ windows_from (is_clear len bs) (last + 1) (max from b.interval.end)
    first_window from low within = elim (cases_lt (barred_from len b) (last + 1)) [
      | inl inside ↦
          let is : barred_from len b - 1 ≡ min (barred_from len b - 1) last = omega arith in
          let to : max (barred_from len b) b.interval.end ≡ max from b.interval.end = omega (arith, swept.0) in
          run (is_clear len (b ∷ bs)) (last + 1) from (barred_from len b) low (omega arith) (λ s le lt. before s lt) (λ more. barred (barred_from len b) (omega arith) swept.0)
          ∙ ap (λ m. range from m ∷ windows_from (is_clear len (b ∷ bs)) (last + 1) (barred_from len b)) is
          ∙ ap (λ ws. range from (min (barred_from len b - 1) last) ∷ ws) (go_behind (barred_from len b) (omega arith) ∙ ap (windows_from (is_clear len bs) (last + 1)) to)
      | inr outside ↦
          let is : last + 1 - 1 ≡ min (barred_from len b - 1) last = omega arith in
          run (is_clear len (b ∷ bs)) (last + 1) from (last + 1) (omega arith) (omega arith) (λ s le lt. before s (omega arith)) (λ more. absurd (omega arith))
          ∙ ap (λ m. range from m ∷ windows_from (is_clear len (b ∷ bs)) (last + 1) (last + 1)) is
          ∙ ap (λ ws. range from (min (barred_from len b - 1) last) ∷ ws) (nothing (is_clear len (b ∷ bs)) (last + 1) (last + 1) (omega arith) ∙ sym (nothing (is_clear len bs) (last + 1) (max from b.interval.end) (omega (arith, swept.0))))
    ]

    -- the windows before this one's end, and those behind it
    step : (from : ℕ) → windows_from (is_clear len (b ∷ bs)) (last + 1) from ≡ option_to_list (window_before from (barred_from len b) last) ++ windows_from (is_clear len bs) (last + 1) (max from b.interval.end)
    step from =
        elim (cases_lt from (barred_from len b)) [
          | inl low ↦ elim (cases_lt last from) [
            | inl past ↦ let no : leb from last ≡ false = grind (arith, nat_tests) in let yes : ltb from (barred_from len b) ≡ true = grind (arith, nat_tests) in
                rw (no, yes) (nothing (is_clear len (b ∷ bs)) (last + 1) from (omega arith) ∙ sym (nothing (is_clear len bs) (last + 1) (max from b.interval.end) (omega arith)))
            | inr within ↦ let in_window : leb from last ≡ true = grind (arith, nat_tests) in let yes : ltb from (barred_from len b) ≡ true = grind (arith, nat_tests) in
                rw (in_window, yes) (first_window from low within)
          ]
          | inr high ↦ let no : ltb from (barred_from len b) ≡ false = grind (arith, nat_tests) in rw no (go_behind from high)
        ]

  rest_free : (last from : ℕ) → windows_from (is_clear len []) (last + 1) from ≡ option_to_list (window_to from last)
  rest_free last from = elim (cases_lt last from) [
    | inl past ↦ let no : leb from last ≡ false = grind (arith, nat_tests) in rw no (nothing (is_clear len []) (last + 1) from (omega arith))
    | inr within ↦
        let in_window : leb from last ≡ true = grind (arith, nat_tests) in
        let is : last + 1 - 1 ≡ last = omega arith in
        rw in_window (run (is_clear len []) (last + 1) from (last + 1) (omega arith) (omega arith) (λ s le lt. refl) (λ more. absurd (omega arith)) ∙ ap (λ m. range from m ∷ windows_from (is_clear len []) (last + 1) (last + 1)) is ∙ ap (λ ws. range from last ∷ ws) (nothing (is_clear len []) (last + 1) (last + 1) (omega arith)))
  ]

  pub swept_windows : (last : ℕ) (bs : List Booking) → IsSwept len bs → (from : ℕ) → windows_from (is_clear len bs) (last + 1) from ≡ gaps len last bs from
  swept_windows last [] swept from = rest_free last from
  swept_windows last (b ∷ bs) swept from = step last b bs swept from ∙ ap (λ ws. option_to_list (window_before from (barred_from len b) last) ++ ws) (swept_windows last bs swept.2 (max from b.interval.end))

-- ---- as many windows as a tier has
module _ {X : Type 0} where
  take_take_append : (n : ℕ) (xs ys : List X) → take n (take n xs ++ ys) ≡ take n (xs ++ ys)
  take_take_append zero xs ys = refl
  take_take_append (suc n) [] ys = refl
  take_take_append (suc n) (x ∷ xs) ys = ap (λ l. x ∷ l) (take_take_append n xs ys)

pub more_windows : (ws : List Range) (o : Option Range) (rest : List Range) → take most_intervals (with_window ws o ++ rest) ≡ take most_intervals (ws ++ (option_to_list o ++ rest))
more_windows ws o rest = take_take_append most_intervals (ws ++ option_to_list o) rest ∙ ap (take most_intervals) (append_assoc ws (option_to_list o) rest)

pub window_put : (ws : List Range) (w : Range) → length ws < most_intervals → ws ++ w ∷ [] ≡ with_window ws (Some w)
window_put ws w place = sym (take_all most_intervals (ws ++ w ∷ []) (simp length-append (omega arith)))

pub window_left : (ws : List Range) (o : Option Range) → length ws ≡ most_intervals → ws ≡ with_window ws o
window_left ws o full = sym (take-append-le most_intervals ws (option_to_list o) (omega arith) ∙ take_all most_intervals ws (omega arith))

pub no_window : (ws : List Range) → length ws ≤ most_intervals → ws ≡ with_window ws None
no_window ws fits = sym (ap (take most_intervals) (append-nil ws) ∙ take_all most_intervals ws fits)

-- one turn of the sweep
pub sweep_on : (len last : ℕ) (items : List Booking) (i : ℕ) (b : Booking) (from : ℕ) (ws : List Range) → i < length items → b ≡ get_or items i b →
    take most_intervals (ws ++ gaps len last (drop i items) from) ≡ take most_intervals (with_window ws (window_before from (barred_from len b) last) ++ gaps len last (drop (i + 1) items) (max from b.interval.end))
sweep_on len last items i b from ws within is =
    let one : suc i ≡ i + 1 = omega arith in
    let next : drop (suc i) items ≡ drop (i + 1) items = ap (λ n. drop n items) one in
    let here : drop i items ≡ b ∷ drop (i + 1) items = drop-cons items i b within ∙ ap (λ x. x ∷ drop (suc i) items) (sym is) ∙ ap (λ l. b ∷ l) next in
    ap (λ l. take most_intervals (ws ++ gaps len last l from)) here ∙ sym (more_windows ws (window_before from (barred_from len b) last) (gaps len last (drop (i + 1) items) (max from b.interval.end)))

-- and its end
pub sweep_end : (len last : ℕ) (items : List Booking) (i : ℕ) (from : ℕ) (ws : List Range) → length items ≤ i → take most_intervals (ws ++ gaps len last (drop i items) from) ≡ with_window ws (window_to from last)
sweep_end len last items i from ws over = ap (λ l. take most_intervals (ws ++ gaps len last l from)) (drop_all i items over)
