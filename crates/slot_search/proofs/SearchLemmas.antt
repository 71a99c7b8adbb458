-- A pass goes on to no start past the least common one, and stays where it is there.
use Rattle.std.specs.Option.{option_and_then}
use Rattle.std.proofs.Common.{leb, ltb, get_or, drop, length, subst, ◌≡◌, ◌∙◌, ℕ, zero, suc, ◌+◌, ◌-◌, ◌<◌, ◌≤◌, List, [], ◌∷◌, Bool, true, false, cond, ◌&&◌, ◌||◌, Option, Some, None, inl, inr, refl, sym, ap, arith, max, min}
use Rattle.std.specs.List.{find, range_with_len}
use Rattle.std.specs.List.Sorted.{IsPartitionPoint}
use Rattle.std.proofs.lemmas.List.{drop_all, get_or-drop, length-drop}
use Rattle.std.proofs.lemmas.Bool.{cases_lt}
use Rattle.std.proofs.lemmas.Bool.Decides.{nat_tests}
use Rattle.ps_time.specs.Span.{Range}
use Rattle.ps_time.specs.Starts.{is_within, lies_in}
use Rattle.ps_time.specs.declared.tiers.Tiers.{Tiers}
use Rattle.slot_search.specs.Search.{windows_of, in_all, lesser, start_in, next_in, next_in_all, IsInOrder}

-- the least start from this one on that passes; None where none passes
abbrev pub IsNext : (ℕ → Bool) → ℕ → Option ℕ → Type 0
IsNext test from None = (s : ℕ) → from ≤ s → test s ≡ false
IsNext test from (Some t) = (from ≤ t) × (test t ≡ true) × ((s : ℕ) → from ≤ s → s < t → test s ≡ false)

-- no start before this one passes; it is the first one where that passes; None where none passes
abbrev pub IsOnTheWay : (ℕ → Bool) → ℕ → Option ℕ → Type 0
IsOnTheWay test from None = (s : ℕ) → from ≤ s → test s ≡ false
IsOnTheWay test from (Some t) = (from ≤ t) × (t ≡ from → test from ≡ true) × ((s : ℕ) → from ≤ s → s < t → test s ≡ false)

pub lesser_assoc : (a b c : Option ℕ) → lesser (lesser a b) c ≡ lesser a (lesser b c)
lesser_assoc None b c = refl
lesser_assoc (Some a) None c = refl
lesser_assoc (Some a) (Some b) None = refl
lesser_assoc (Some a) (Some b) (Some c) = ap Some (omega arith)

-- ---- one list
window_next : (w : Range) (from : ℕ) → IsNext (is_within w) from (start_in w from)
window_next w from =
    elim (leb (max w.first from) w.last) as (λ b. leb (max w.first from) w.last ≡ b → IsNext (is_within w) from (cond b (Some (max w.first from)) None)) [
      | true ↦ λ is. (omega arith, grind (arith, nat_tests), λ s le lt. grind (arith, nat_tests))
      | false ↦ λ is. λ s le. grind (arith, nat_tests)
    ] refl

or_right : (x y : Bool) → y ≡ true → (x || y) ≡ true
or_right true y is = refl
or_right false y is = is

module _ (p q : ℕ → Bool) (from : ℕ) where
  either_next : (a b : Option ℕ) → IsNext p from a → IsNext q from b → IsNext (λ s. p s || q s) from (lesser a b)
  either_next None None left right = λ s le. rw (left s le) (right s le)
  either_next None (Some b) left right = (right.0, or_right (p b) (q b) right.1, λ s le lt. rw (left s le) (right.2 s le lt))
  either_next (Some a) None left right = (left.0, rw (left.1) refl, λ s le lt. rw (left.2 s le lt) (right s le))
  either_next (Some a) (Some b) left right =
      let least : (s : ℕ) → from ≤ s → s < min a b → (p s || q s) ≡ false = λ s le lt. rw (left.2 s le (omega arith)) (right.2 s le (omega arith)) in
      elim (cases_lt a b) [
        | inl below ↦ let is : min a b ≡ a = omega arith in (omega arith, rw (is, left.1) refl, least)
        | inr above ↦ let is : min a b ≡ b = omega arith in (omega arith, rw is (or_right (p b) (q b) right.1), least)
      ]

pub next_is : (ws : List Range) (from : ℕ) → IsNext (lies_in ws) from (next_in ws from)
next_is [] from = λ s le. refl
next_is (w ∷ ws) from = either_next (is_within w) (lies_in ws) from (start_in w from) (next_in ws from) (window_next w from) (next_is ws from)

-- ---- windows in order
-- those that end before the moment are passed over
next_behind : (ws : List Range) (from i : ℕ) → ((k : ℕ) (d : Range) → k < i → k < length ws → ltb (get_or ws k d).last from ≡ true) → next_in ws from ≡ next_in (drop i ws) from
next_behind [] from zero over = refl
next_behind [] from (suc i) over = refl
next_behind (w ∷ ws) from zero over = refl
next_behind (w ∷ ws) from (suc i) over =
    let here : ltb w.last from ≡ true = over 0 w (omega arith) (omega arith) in
    let no : leb (max w.first from) w.last ≡ false = grind (arith, nat_tests) in
    rw no (next_behind ws from i (λ k d lt within. over (suc k) d (omega arith) (omega arith)))

-- those that begin later have no lesser start
least_after : (ws : List Range) (low from : ℕ) → ((k : ℕ) (d : Range) → k < length ws → low ≤ (get_or ws k d).first) → lesser (Some (max low from)) (next_in ws from) ≡ Some (max low from)
least_after [] low from above = refl
least_after (w ∷ ws) low from above =
    let first = above 0 w (omega arith) in
    let rest = least_after ws low from (λ k d within. above (suc k) d (omega arith)) in
    let here : lesser (Some (max low from)) (start_in w from) ≡ Some (max low from) = elim (leb (max w.first from) w.last) as (λ b. lesser (Some (max low from)) (cond b (Some (max w.first from)) None) ≡ Some (max low from)) [
      | true ↦ let is : min (max low from) (max w.first from) ≡ max low from = omega (arith, first) in ap Some is
      | false ↦ refl
    ] in
    sym (lesser_assoc (Some (max low from)) (start_in w from) (next_in ws from)) ∙ ap (λ o. lesser o (next_in ws from)) here ∙ rest

drop_one : (ws : List Range) (i : ℕ) (d : Range) → i < length ws → drop i ws ≡ get_or ws i d ∷ drop (suc i) ws
drop_one [] i d within = absurd (omega arith)
drop_one (w ∷ ws) zero d within = refl
drop_one (w ∷ ws) (suc i) d within = drop_one ws i d (omega arith)

module _ (ws : List Range) (from i : ℕ) (up : IsInOrder ws) (parted : IsPartitionPoint (λ w. ltb w.last from ≡ true) (λ w. ltb w.last from ≡ false) ws i) where
  pub next_at : (d : Range) → i < length ws → (get_or ws i d).first ≤ (get_or ws i d).last → next_in ws from ≡ Some (max (get_or ws i d).first from)
  next_at d within some =
      let w = get_or ws i d in
      let here : ltb w.last from ≡ false = parted.1 i d (omega arith) within in
      let yes : leb (max w.first from) w.last ≡ true = grind (arith, nat_tests) in
      let start : start_in w from ≡ Some (max w.first from) = rw yes refl in
      next_behind ws from i (λ k e lt inside. parted.0 k e (omega arith) lt)
      ∙ ap (λ l. next_in l from) (drop_one ws i d within)
      ∙ ap (λ o. lesser o (next_in (drop (suc i) ws) from)) start
      ∙ least_after (drop (suc i) ws) w.first from (λ k e inside.
      let bound : suc i + k < length ws = omega (arith, inside, length-drop (suc i) ws) in
      let at : get_or (drop (suc i) ws) k e ≡ get_or ws (suc i + k) e = get_or-drop (suc i) ws k e in
      let same : get_or ws i d ≡ get_or ws i e = any_default ws i d e within in
      let later : (get_or ws i e).first ≤ (get_or ws (suc i + k) e).first = up.firsts i (suc i + k) e (omega arith) bound in
      rw (at, same) later) where
        any_default : (ws : List Range) (i : ℕ) (d e : Range) → i < length ws → get_or ws i d ≡ get_or ws i e
        any_default [] i d e within = absurd (omega arith)
        any_default (w ∷ ws) zero d e within = refl
        any_default (w ∷ ws) (suc i) d e within = any_default ws i d e (omega arith)

  pub next_nowhere : length ws ≤ i → next_in ws from ≡ None
  next_nowhere over = next_behind ws from i (λ k d lt inside. parted.0 k d (omega arith) lt) ∙ ap (λ l. next_in l from) (drop_all i ws over)

-- ---- several lists, one after another
false_left : (x y : Bool) → x ≡ false → (x && y) ≡ false
false_left x y is = rw is refl

false_right : (x y : Bool) → y ≡ false → (x && y) ≡ false
false_right true y is = is
false_right false y is = refl

both : (x y : Bool) → x ≡ true → y ≡ true → (x && y) ≡ true
both x y left right = rw (left, right) refl

-- a start is before the one to which the first list sends, or from it on
module _ (p q : ℕ → Bool) (from u : ℕ) (here : IsNext p from (Some u)) where
  and_way : (r : Option ℕ) → IsOnTheWay q u r → IsOnTheWay (λ s. p s && q s) from r
  and_way None later = λ s le. elim (cases_lt s u) [ inl below ↦ false_left (p s) (q s) (here.2 s le below) | inr above ↦ false_right (p s) (q s) (later s above) ]
  and_way (Some t) later =
      let order : from ≤ t = omega (arith, here.0, later.0) in
      let same : t ≡ from → (p from && q from) ≡ true = λ is.
      let at : u ≡ from = omega (arith, here.0, later.0) in
      let first : p from ≡ true = rw at at here.1 in
      let second : q u ≡ true = later.1 (is ∙ sym at) in
      both (p from) (q from) first (rw at at second) in
      (order, same, λ s le lt. elim (cases_lt s u) [ inl below ↦ false_left (p s) (q s) (here.2 s le below) | inr above ↦ false_right (p s) (q s) (later.2 s above lt) ])

pub on_the_way : (second : Bool) (lists : List Tiers) (from : ℕ) → IsOnTheWay (in_all second lists) from (next_in_all second lists from)
on_the_way second [] from = (omega arith, λ is. refl, λ s le lt. absurd (omega arith))
on_the_way second (tiers ∷ lists) from =
    let p = lies_in (windows_of second tiers) in
    let q = in_all second lists in
    let cases = elim (next_in (windows_of second tiers) from) as (λ u. IsNext p from u → IsOnTheWay (λ s. p s && q s) from (option_and_then (λ s. next_in_all second lists s) u)) [
      | None ↦ λ none. λ s le. false_left (p s) (q s) (none s le)
      | Some u ↦ λ here. and_way p q from u here (next_in_all second lists u) (on_the_way second lists u)
    ] in
    cases (next_is (windows_of second tiers) from)

-- ---- the least start of a window
module _ (test : ℕ → Bool) where
  -- what fails is passed over
  past : (k a e : ℕ) → ((s : ℕ) → a ≤ s → s < a + k → test s ≡ false) → find test (range_with_len a (e - a)) ≡ find test (range_with_len (a + k) (e - (a + k)))
  past zero a e none = ap (λ b. find test (range_with_len b (e - b))) (omega arith)
  past (suc k) a e none =
      let here : test a ≡ false = none a (omega arith) (omega arith) in
      let rest : find test (range_with_len (a + 1) (e - (a + 1))) ≡ find test (range_with_len (a + 1 + k) (e - (a + 1 + k))) = past k (a + 1) e (λ s le lt. none s (omega arith) (omega arith)) in
      let same : find test (range_with_len (a + 1 + k) (e - (a + 1 + k))) ≡ find test (range_with_len (a + suc k) (e - (a + suc k))) = ap (λ b. find test (range_with_len b (e - b))) (omega arith) in
      elim (cases_lt a e) [
        | inl more ↦ let is : e - a ≡ suc (e - (a + 1)) = omega arith in rw (is, here) (rest ∙ same)
        | inr done ↦ let left : e - a ≡ 0 = omega arith in let right : e - (a + suc k) ≡ 0 = omega arith in rw (left, right) refl
      ]

  -- no start before b passes
  pub go_on : (a b e : ℕ) → a ≤ b → ((s : ℕ) → a ≤ s → s < b → test s ≡ false) → find test (range_with_len a (e - a)) ≡ find test (range_with_len b (e - b))
  go_on a b e order none =
      let to : a + (b - a) ≡ b = omega arith in
      past (b - a) a e (λ s le lt. none s le (omega arith)) ∙ ap (λ b. find test (range_with_len b (e - b))) to

  -- none passes
  pub nowhere : (a e : ℕ) → ((s : ℕ) → a ≤ s → test s ≡ false) → find test (range_with_len a (e - a)) ≡ None
  nowhere a e none =
      let over : e - max a e ≡ 0 = omega arith in
      go_on a (max a e) e (omega arith) (λ s le lt. none s le) ∙ ap (λ n. find test (range_with_len (max a e) n)) over

  -- the first one passes
  pub at_once : (a e : ℕ) → a < e → test a ≡ true → find test (range_with_len a (e - a)) ≡ Some a
  at_once a e more here = let is : e - a ≡ suc (e - (a + 1)) = omega arith in rw (is, here) refl

-- ---- a pass of the search
module _ (second : Bool) (lists : List Tiers) (from e : ℕ) where
  abbrev left_from : ℕ → Option ℕ
  left_from a = find (in_all second lists) (range_with_len a (e - a))

  pub pass_none : next_in_all second lists from ≡ None → left_from from ≡ None
  pass_none is = nowhere (in_all second lists) from e (subst (IsOnTheWay (in_all second lists) from) is (on_the_way second lists from))

  pub pass_here : next_in_all second lists from ≡ Some from → from < e → left_from from ≡ Some from
  pass_here is more =
      let way : IsOnTheWay (in_all second lists) from (Some from) = subst (IsOnTheWay (in_all second lists) from) is (on_the_way second lists from) in
      at_once (in_all second lists) from e more (way.1 refl)

  pub pass_order : (t : ℕ) → next_in_all second lists from ≡ Some t → from ≤ t
  pass_order t is =
      let way : IsOnTheWay (in_all second lists) from (Some t) = subst (IsOnTheWay (in_all second lists) from) is (on_the_way second lists from) in way.0

  pub pass_on : (t : ℕ) → next_in_all second lists from ≡ Some t → left_from from ≡ left_from t
  pass_on t is =
      let way : IsOnTheWay (in_all second lists) from (Some t) = subst (IsOnTheWay (in_all second lists) from) is (on_the_way second lists from) in
      go_on (in_all second lists) from t e way.0 way.2
