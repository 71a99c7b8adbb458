-- Ranges that are apart: what they cover as an interval comes or goes, and what a search finds in them.
use Rattle.std.proofs.Common.{◌≡◌, ◌∙◌, ◌<◌, ◌≤◌, ◌+◌, ◌-◌, ℕ, zero, suc, List, [], ◌∷◌, ◌++◌, length, get_or, set, take, drop, Bool, true, false, cond, not, ltb, max, min, Option, Some, None, ◌&&◌, ◌||◌, inl, inr, add-one, refl, sym, ap, ap₂, subst, arith}
use Rattle.std.specs.List.{AllByRecursion, insert, remove, remove_range}
use Rattle.std.specs.List.Sorted.{IsNonDecreasingBy, IsPartitionPoint}
use Rattle.std.specs.Option.{option_to_list}
use Rattle.std.proofs.lemmas.Bool.{cases_lt}
use Rattle.std.proofs.lemmas.Bool.Decides.{nat_tests}
use Rattle.std.proofs.lemmas.List.{append_assoc, drop-set-lt, get_or-drop, length-drop, set_split, take_more_set}
use Rattle.ps_time.specs.Span.{Span}
use Rattle.host_timeline.specs.Busy.{begin_at, covers, has_second, hull, pieces, span_between, with_range, without_range, IsApart, IsCovered}

-- ---- order
above_at : (e : ℕ) (rs : List Span) → AllByRecursion (λ r. e < r.start) rs → (i : ℕ) (d : Span) → i < length rs → e < (get_or rs i d).start
above_at e [] all i d within = absurd (omega arith)
above_at e (r ∷ rs) all zero d within = all.0
above_at e (r ∷ rs) all (suc i) d within = above_at e rs all.1 i d (omega arith)

pub some_at : (rs : List Span) → IsApart rs → (i : ℕ) (d : Span) → i < length rs → (get_or rs i d).start < (get_or rs i d).end
some_at [] up i d within = absurd (omega arith)
some_at (r ∷ rs) up zero d within = up.0
some_at (r ∷ rs) up (suc i) d within = some_at rs up.2 i d (omega arith)

pub apart_at : (rs : List Span) → IsApart rs → (i j : ℕ) (d : Span) → i < j → j < length rs → (get_or rs i d).end < (get_or rs j d).start
apart_at [] up i j d lt within = absurd (omega arith)
apart_at (r ∷ rs) up zero zero d lt within = absurd (omega arith)
apart_at (r ∷ rs) up zero (suc j) d lt within = above_at r.end rs up.1 j d (omega arith)
apart_at (r ∷ rs) up (suc i) zero d lt within = absurd (omega arith)
apart_at (r ∷ rs) up (suc i) (suc j) d lt within = apart_at rs up.2 i j d (omega arith) (omega arith)

pub ends_rise : (rs : List Span) → IsApart rs → IsNonDecreasingBy (λ r. r.end) rs
ends_rise rs up = λ i j d le within. elim (cases_lt i j) [
  | inl lt ↦ omega (arith, apart_at rs up i j d lt within, some_at rs up j d within)
  | inr ge ↦ let is : i ≡ j = omega arith in rw is (omega arith)
]

pub starts_rise : (rs : List Span) → IsApart rs → IsNonDecreasingBy (λ r. r.start) rs
starts_rise rs up = λ i j d le within. elim (cases_lt i j) [
  | inl lt ↦ omega (arith, apart_at rs up i j d lt within, some_at rs up i d (omega arith))
  | inr ge ↦ let is : i ≡ j = omega arith in rw is (omega arith)
]

above_less : (e f : ℕ) (rs : List Span) → e ≤ f → AllByRecursion (λ r. f < r.start) rs → AllByRecursion (λ r. e < r.start) rs
above_less e f [] le all = tt
above_less e f (r ∷ rs) le all = (omega (arith, all.0), above_less e f rs le all.1)

-- ---- an interval comes
module _ (e : ℕ) where
  above_with : (rs : List Span) (s : Span) → AllByRecursion (λ r. e < r.start) rs → e < s.start → AllByRecursion (λ r. e < r.start) (with_range rs s)
  above_with [] s all low = (low, tt)
  above_with (r ∷ rs) s all low =
      let rest = above_with rs s all.1 low in
      let joined = above_with rs (hull r s) all.1 (omega (arith, all.0)) in
      elim (ltb r.end s.start) as (λ x. AllByRecursion (λ d. e < d.start) (cond x (r ∷ with_range rs s) (cond (ltb s.end r.start) (s ∷ r ∷ rs) (with_range rs (hull r s))))) [
        | true ↦ (all.0, rest)
        | false ↦ elim (ltb s.end r.start) as (λ x. AllByRecursion (λ d. e < d.start) (cond x (s ∷ r ∷ rs) (with_range rs (hull r s)))) [
          | true ↦ (low, all)
          | false ↦ joined
        ]
      ]

pub apart_with : (rs : List Span) (s : Span) → IsApart rs → s.start < s.end → IsApart (with_range rs s)
apart_with [] s up some = (some, tt, tt)
apart_with (r ∷ rs) s up some =
    let rest = apart_with rs s up.2 some in
    let joined = apart_with rs (hull r s) up.2 (omega (arith, up.0)) in
    let first : ltb r.end s.start ≡ true → IsApart (r ∷ with_range rs s) = λ is. (up.0, above_with r.end rs s up.1 (grind (arith, nat_tests)), rest) in
    let second : ltb s.end r.start ≡ true → IsApart (s ∷ r ∷ rs) = λ is.
    let low : s.end < r.start = grind (arith, nat_tests) in
    (some, (low, above_less s.end r.end rs (omega (arith, up.0)) up.1), up) in
    let cases = elim (ltb r.end s.start) as (λ x. ltb r.end s.start ≡ x → IsApart (cond x (r ∷ with_range rs s) (cond (ltb s.end r.start) (s ∷ r ∷ rs) (with_range rs (hull r s))))) [
      | true ↦ λ is. first is
      | false ↦ λ is. (elim (ltb s.end r.start) as (λ x. ltb s.end r.start ≡ x → IsApart (cond x (s ∷ r ∷ rs) (with_range rs (hull r s)))) [
        | true ↦ λ low. second low
        | false ↦ λ low. joined
      ]) refl
    ] in
    cases refl

or_swap : (x y z : Bool) → (x || (y || z)) ≡ ((y || z) || x)
or_swap true true z = refl
or_swap true false true = refl
or_swap true false false = refl
or_swap false true z = refl
or_swap false false true = refl
or_swap false false false = refl

pub or_assoc : (x y z : Bool) → (x || (y || z)) ≡ ((x || y) || z)
or_assoc true y z = refl
or_assoc false y z = refl

or_move : (x y z : Bool) → (x || (y || z)) ≡ ((y || x) || z)
or_move true true z = refl
or_move true false z = refl
or_move false true z = refl
or_move false false z = refl

-- where two intervals overlap or touch, their hull has what they have
in_hull : (r s : Span) (t : ℕ) → r.start < r.end → s.start < s.end → ltb r.end s.start ≡ false → ltb s.end r.start ≡ false → has_second (hull r s) t ≡ (has_second r t || has_second s t)
in_hull r s t some other near touch = grind (arith, nat_tests)

pub covers_with : (rs : List Span) (s : Span) (t : ℕ) → IsApart rs → s.start < s.end → covers (with_range rs s) t ≡ (covers rs t || has_second s t)
covers_with [] s t up some = elim (has_second s t) as (λ x. (x || false) ≡ x) [ true ↦ refl | false ↦ refl ]
covers_with (r ∷ rs) s t up some =
    let rest = covers_with rs s t up.2 some in
    let joined = covers_with rs (hull r s) t up.2 (omega (arith, up.0)) in
    let cases = elim (ltb r.end s.start) as (λ x. ltb r.end s.start ≡ x → covers (cond x (r ∷ with_range rs s) (cond (ltb s.end r.start) (s ∷ r ∷ rs) (with_range rs (hull r s)))) t ≡ ((has_second r t || covers rs t) || has_second s t)) [
      | true ↦ λ is. ap (λ x. has_second r t || x) rest ∙ or_assoc (has_second r t) (covers rs t) (has_second s t)
      | false ↦ λ is. (elim (ltb s.end r.start) as (λ x. ltb s.end r.start ≡ x → covers (cond x (s ∷ r ∷ rs) (with_range rs (hull r s))) t ≡ ((has_second r t || covers rs t) || has_second s t)) [
        | true ↦ λ low. or_swap (has_second s t) (has_second r t) (covers rs t)
        | false ↦ λ low. joined ∙ ap (λ x. covers rs t || x) (in_hull r s t up.0 some is low) ∙ or_move (covers rs t) (has_second r t) (has_second s t)
      ]) refl
    ] in
    cases refl

both : (x y : Bool) → x ≡ true → y ≡ true → (x && y) ≡ true
both x y one other = rw (one, other) refl

split : (x y : Bool) → (x && y) ≡ true → (x ≡ true) × (y ≡ true)
split true y is = (refl, is)
split false y is = cc

module _ (begins : ℕ → Bool) where
  least_begins : (a b : ℕ) → begins a ≡ true → begins b ≡ true → begins (min a b) ≡ true
  least_begins a b one other = elim (cases_lt a b) [
    | inl lt ↦ let is : min a b ≡ a = omega arith in rw is one
    | inr ge ↦ let is : min a b ≡ b = omega arith in rw is other
  ]

  pub begin_with : (rs : List Span) (s : Span) → begin_at begins rs ≡ true → begins s.start ≡ true → begin_at begins (with_range rs s) ≡ true
  begin_with [] s all here = both (begins s.start) true here refl
  begin_with (r ∷ rs) s all here =
      let parts = split (begins r.start) (begin_at begins rs) all in
      elim (ltb r.end s.start) as (λ x. begin_at begins (cond x (r ∷ with_range rs s) (cond (ltb s.end r.start) (s ∷ r ∷ rs) (with_range rs (hull r s)))) ≡ true) [
        | true ↦ both (begins r.start) (begin_at begins (with_range rs s)) parts.0 (begin_with rs s parts.1 here)
        | false ↦ elim (ltb s.end r.start) as (λ x. begin_at begins (cond x (s ∷ r ∷ rs) (with_range rs (hull r s))) ≡ true) [
          | true ↦ both (begins s.start) (begin_at begins (r ∷ rs)) here all
          | false ↦ begin_with rs (hull r s) parts.1 (least_begins r.start s.start parts.0 here)
        ]
      ]

-- ---- where it goes
with_behind : (s : Span) (rs : List Span) (i : ℕ) → ((k : ℕ) (d : Span) → k < i → k < length rs → ltb (get_or rs k d).end s.start ≡ true) → with_range rs s ≡ take i rs ++ with_range (drop i rs) s
with_behind s [] zero before = refl
with_behind s [] (suc i) before = refl
with_behind s (r ∷ rs) zero before = refl
with_behind s (r ∷ rs) (suc i) before =
    let here : ltb r.end s.start ≡ true = before 0 r (omega arith) (omega arith) in
    let rest = with_behind s rs i (λ k d lt within. before (suc k) d (omega arith) (omega arith)) in
    rw here (ap (λ l. r ∷ l) rest)

-- it stands before all
with_before : (s : Span) (rs : List Span) (d : Span) → s.start < s.end → IsApart rs → (0 < length rs → s.end < (get_or rs 0 d).start) → with_range rs s ≡ s ∷ rs
with_before s [] d some up behind = refl
with_before s (r ∷ rs) d some up behind =
    let low : s.end < r.start = behind (omega arith) in
    let no : ltb r.end s.start ≡ false = let order = up.0 in grind (arith, nat_tests) in
    let yes : ltb s.end r.start ≡ true = grind (arith, nat_tests) in
    rw (no, yes) refl

-- it is joined with all of the first ranges, up to k
pub with_joined : (rs : List Span) (k : ℕ) (s d : Span) → s.start < s.end → IsApart rs → k < length rs
    → ((i : ℕ) → i ≤ k → ltb (get_or rs i d).end s.start ≡ false)
    → ((i : ℕ) → i ≤ k → ltb s.end (get_or rs i d).start ≡ false)
    → ((i : ℕ) → k < i → i < length rs → s.end < (get_or rs i d).start)
    → with_range rs s ≡ record { start = min (get_or rs 0 d).start s.start; end = max (get_or rs k d).end s.end } ∷ drop (suc k) rs
with_joined [] k s d some up within near touch behind = absurd (omega arith)
with_joined (r ∷ rs) zero s d some up within near touch behind =
    rw (near 0 (omega arith), touch 0 (omega arith)) (with_before (hull r s) rs d (omega (arith, up.0)) up.2 (λ more.
    let one : s.end < (get_or rs 0 d).start = behind 1 (omega arith) (omega arith) in
    let other : r.end < (get_or rs 0 d).start = above_at r.end rs up.1 0 d more in
    omega (arith, one, other)))
with_joined (r ∷ []) (suc k) s d some up within near touch behind = absurd (omega arith)
with_joined (r ∷ q ∷ rs) (suc k) s d some up within near touch behind =
    let more : k < length (q ∷ rs) = omega arith in
    let rest = with_joined (q ∷ rs) k (hull r s) d (omega (arith, up.0)) up.2 more
    (λ i le. let is = near (suc i) (omega arith) in grind (arith, nat_tests))
    (λ i le. let is = touch (suc i) (omega arith) in grind (arith, nat_tests))
    (λ i lt in_list. let one = behind (suc i) (omega arith) (omega arith) in let other = above_at r.end (q ∷ rs) up.1 i d in_list in omega (arith, one, other)) in
    let last : r.end < (get_or (q ∷ rs) k d).end = omega (arith, above_at r.end (q ∷ rs) up.1 k d more, some_at (q ∷ rs) up.2 k d more) in
    let start : min q.start (min r.start s.start) ≡ min r.start s.start = omega (arith, up.0, up.1.0) in
    let end : max (get_or (q ∷ rs) k d).end (max r.end s.end) ≡ max (get_or (q ∷ rs) k d).end s.end = omega (arith, last) in
    rw (near 0 (omega arith), touch 0 (omega arith)) (rest ∙ ap₂ (λ a b. (record { start = a; end = b }) ∷ drop (suc k) (q ∷ rs)) start end)

-- ---- an interval goes
-- nothing is covered below all
uncovered_below : (e t : ℕ) (rs : List Span) → AllByRecursion (λ r. e < r.start) rs → t ≤ e → covers rs t ≡ false
uncovered_below e t [] all low = refl
uncovered_below e t (r ∷ rs) all low =
    let above : e < r.start = all.0 in
    let no : has_second r t ≡ false = grind (arith, nat_tests) in
    rw no (uncovered_below e t rs all.1 low)

-- what covers a second begins above all that ends by it
covered_above : (e t : ℕ) (rs : List Span) → AllByRecursion (λ r. e < r.start) rs → covers rs t ≡ true → e < t
covered_above e t rs all is = elim (cases_lt e t) [
  | inl lt ↦ lt
  | inr ge ↦ let no = uncovered_below e t rs all ge in cc (no, is)
]

has_after : (r : Span) (t : ℕ) → r.end ≤ t → has_second r t ≡ false
has_after r t after = grind (arith, nat_tests)

or_false : (x y : Bool) → x ≡ false → (x || y) ≡ y
or_false x y is = rw is refl

false_or : (x y : Bool) → y ≡ false → (x || y) ≡ x
false_or true y is = refl
false_or false y is = is

-- the first range that ends behind the start has all of the interval
module _ (r : Span) (rs : List Span) (s : Span) (up : IsApart (r ∷ rs)) (some : s.start < s.end) (inside : IsCovered (r ∷ rs) s) (behind : s.start < r.end) where
  begins_before : r.start ≤ s.start
  begins_before =
      let none : covers rs s.start ≡ false = uncovered_below r.end s.start rs up.1 (omega arith) in
      let here : has_second r s.start ≡ true = sym (false_or (has_second r s.start) (covers rs s.start) none) ∙ inside s.start (omega arith) some in
      grind (arith, nat_tests)

  ends_behind : s.end ≤ r.end
  ends_behind = elim (cases_lt r.end s.end) [
    | inl lt ↦
        let none : covers rs r.end ≡ false = uncovered_below r.end r.end rs up.1 (omega arith) in
        let over : has_second r r.end ≡ false = has_after r r.end (omega arith) in
        let no : covers (r ∷ rs) r.end ≡ false = or_false (has_second r r.end) (covers rs r.end) over ∙ none in
        let yes = inside r.end (omega arith) lt in
        cc (no, yes)
    | inr ge ↦ ge
  ]

-- it lies behind a range
behind_covered : (r : Span) (rs : List Span) (s : Span) → r.end ≤ s.start → IsCovered (r ∷ rs) s → IsCovered rs s
behind_covered r rs s over inside = λ t low high. sym (or_false (has_second r t) (covers rs t) (has_after r t (omega arith))) ∙ inside t low high

-- what is left of a range
pieces_cover : (r s : Span) (t : ℕ) → r.start ≤ s.start → s.start < s.end → s.end ≤ r.end → covers (pieces r s) t ≡ (has_second r t && not (has_second s t))
pieces_cover r s t before some behind =
    elim (ltb r.start s.start) as (λ x. ltb r.start s.start ≡ x → covers (option_to_list (cond x (Some (record { start = r.start; end = s.start })) None) ++ option_to_list (span_between s.end r.end)) t ≡ (has_second r t && not (has_second s t))) [
      | true ↦ λ one. (elim (ltb s.end r.end) as (λ y. ltb s.end r.end ≡ y → covers ((record { start = r.start; end = s.start }) ∷ option_to_list (cond y (Some (record { start = s.end; end = r.end })) None)) t ≡ (has_second r t && not (has_second s t))) [
        | true ↦ λ other. grind (arith, nat_tests)
        | false ↦ λ other. grind (arith, nat_tests)
      ]) refl
      | false ↦ λ one. (elim (ltb s.end r.end) as (λ y. ltb s.end r.end ≡ y → covers (option_to_list (cond y (Some (record { start = s.end; end = r.end })) None)) t ≡ (has_second r t && not (has_second s t))) [
        | true ↦ λ other. grind (arith, nat_tests)
        | false ↦ λ other. grind (arith, nat_tests)
      ]) refl
    ] refl

and_or : (x y z : Bool) → (x && z) ≡ x → ((x || y) && z) ≡ (x || (y && z))
and_or true y z is = is
and_or false y z is = refl

or_and : (x y z : Bool) → (y && z) ≡ y → ((x || y) && z) ≡ ((x && z) || y)
or_and x true true is = or_end x where
  or_end : (x : Bool) → ((x || true) && true) ≡ ((x && true) || true)
  or_end true = refl
  or_end false = refl
or_and x true false is = cc
or_and true false z is = elim z as (λ z. z ≡ (z || false)) [ true ↦ refl | false ↦ refl ]
or_and false false z is = refl

implied : (x z : Bool) → (x ≡ true → z ≡ true) → (x && z) ≡ x
implied true z f = f refl
implied false z f = refl

covers_append : (xs ys : List Span) (t : ℕ) → covers (xs ++ ys) t ≡ (covers xs t || covers ys t)
covers_append [] ys t = refl
covers_append (x ∷ xs) ys t = ap (λ b. has_second x t || b) (covers_append xs ys t) ∙ or_assoc (has_second x t) (covers xs t) (covers ys t)

pub covers_without : (rs : List Span) (s : Span) (t : ℕ) → IsApart rs → s.start < s.end → IsCovered rs s → covers (without_range rs s) t ≡ (covers rs t && not (has_second s t))
covers_without [] s t up some inside = refl
covers_without (r ∷ rs) s t up some inside =
    let cases = elim (ltb s.start r.end) as (λ x. ltb s.start r.end ≡ x → covers (cond x (pieces r s ++ rs) (r ∷ without_range rs s)) t ≡ ((has_second r t || covers rs t) && not (has_second s t))) [
      | true ↦ λ is.
          let low : s.start < r.end = grind (arith, nat_tests) in
          let before = begins_before r rs s up some inside low in
          let behind = ends_behind r rs s up some inside low in
          let over : covers rs t ≡ true → not (has_second s t) ≡ true = λ there. let above = covered_above r.end t rs up.1 there in grind (arith, nat_tests) in
          covers_append (pieces r s) rs t ∙ ap (λ x. x || covers rs t) (pieces_cover r s t before some behind) ∙ sym (or_and (has_second r t) (covers rs t) (not (has_second s t)) (implied (covers rs t) (not (has_second s t)) over))
      | false ↦ λ is.
          let low : r.end ≤ s.start = grind (arith, nat_tests) in
          let rest = covers_without rs s t up.2 some (behind_covered r rs s low inside) in
          let over : has_second r t ≡ true → not (has_second s t) ≡ true = λ there. grind (arith, nat_tests) in
          ap (λ x. has_second r t || x) rest ∙ sym (and_or (has_second r t) (covers rs t) (not (has_second s t)) (implied (has_second r t) (not (has_second s t)) over))
    ] in
    cases refl

-- what is left of a range is above what the range is above
module _ (e : ℕ) (s : Span) (low : e < s.end) where
  above_pieces : (r : Span) (rs : List Span) → e < r.start → AllByRecursion (λ d. e < d.start) rs → AllByRecursion (λ d. e < d.start) (pieces r s ++ rs)
  above_pieces r rs here all =
      elim (ltb r.start s.start) as (λ x. AllByRecursion (λ d. e < d.start) ((option_to_list (cond x (Some (record { start = r.start; end = s.start })) None) ++ option_to_list (span_between s.end r.end)) ++ rs)) [
        | true ↦ elim (ltb s.end r.end) as (λ y. AllByRecursion (λ d. e < d.start) ((record { start = r.start; end = s.start }) ∷ (option_to_list (cond y (Some (record { start = s.end; end = r.end })) None) ++ rs))) [ true ↦ (here, (low, all)) | false ↦ (here, all) ]
        | false ↦ elim (ltb s.end r.end) as (λ y. AllByRecursion (λ d. e < d.start) (option_to_list (cond y (Some (record { start = s.end; end = r.end })) None) ++ rs)) [ true ↦ (low, all) | false ↦ all ]
      ]

  above_without : (rs : List Span) → AllByRecursion (λ d. e < d.start) rs → AllByRecursion (λ d. e < d.start) (without_range rs s)
  above_without [] all = tt
  above_without (r ∷ rs) all =
      elim (ltb s.start r.end) as (λ x. AllByRecursion (λ d. e < d.start) (cond x (pieces r s ++ rs) (r ∷ without_range rs s))) [
        | true ↦ above_pieces r rs all.0 all.1
        | false ↦ (all.0, above_without rs all.1)
      ]

apart_pieces : (r : Span) (rs : List Span) (s : Span) → s.start < s.end → s.start < r.end → IsApart (r ∷ rs) → IsApart (pieces r s ++ rs)
apart_pieces r rs s some low up =
    let left : AllByRecursion (λ d. s.start < d.start) rs = above_less s.start r.end rs (omega arith) up.1 in
    (elim (ltb r.start s.start) as (λ x. ltb r.start s.start ≡ x → IsApart ((option_to_list (cond x (Some (record { start = r.start; end = s.start })) None) ++ option_to_list (span_between s.end r.end)) ++ rs)) [
      | true ↦ λ one.
          let first : r.start < s.start = grind (arith, nat_tests) in
          (elim (ltb s.end r.end) as (λ y. ltb s.end r.end ≡ y → IsApart ((record { start = r.start; end = s.start }) ∷ (option_to_list (cond y (Some (record { start = s.end; end = r.end })) None) ++ rs))) [
            | true ↦ λ other. let second : s.end < r.end = grind (arith, nat_tests) in (first, (some, left), (second, up.1, up.2))
            | false ↦ λ other. (first, left, up.2)
          ]) refl
      | false ↦ λ one. (elim (ltb s.end r.end) as (λ y. ltb s.end r.end ≡ y → IsApart (option_to_list (cond y (Some (record { start = s.end; end = r.end })) None) ++ rs)) [
        | true ↦ λ other. let second : s.end < r.end = grind (arith, nat_tests) in (second, up.1, up.2)
        | false ↦ λ other. up.2
      ]) refl
    ]) refl

pub apart_without : (rs : List Span) (s : Span) → IsApart rs → s.start < s.end → IsApart (without_range rs s)
apart_without [] s up some = tt
apart_without (r ∷ rs) s up some =
    let cases = elim (ltb s.start r.end) as (λ x. ltb s.start r.end ≡ x → IsApart (cond x (pieces r s ++ rs) (r ∷ without_range rs s))) [
      | true ↦ λ is. let low : s.start < r.end = grind (arith, nat_tests) in apart_pieces r rs s some low up
      | false ↦ λ is. let low : r.end < s.end = grind (arith, nat_tests) in (up.0, above_without r.end s low rs up.1, apart_without rs s up.2 some)
    ] in
    cases refl

-- ---- where it goes
pub without_behind : (s : Span) (rs : List Span) (i : ℕ) → ((k : ℕ) (d : Span) → k < i → k < length rs → ltb s.start (get_or rs k d).end ≡ false) → without_range rs s ≡ take i rs ++ without_range (drop i rs) s
without_behind s [] zero before = refl
without_behind s [] (suc i) before = refl
without_behind s (r ∷ rs) zero before = refl
without_behind s (r ∷ rs) (suc i) before =
    let here : ltb s.start r.end ≡ false = before 0 r (omega arith) (omega arith) in
    let rest = without_behind s rs i (λ k d lt within. before (suc k) d (omega arith) (omega arith)) in
    rw here (ap (λ l. r ∷ l) rest)

none_covers : (t : ℕ) (rs : List Span) → ((k : ℕ) (d : Span) → k < length rs → ltb t (get_or rs k d).end ≡ false) → covers rs t ≡ false
none_covers t [] over = refl
none_covers t (r ∷ rs) over =
    let here = over 0 r (omega arith) in
    let no : has_second r t ≡ false = grind (arith, nat_tests) in
    rw no (none_covers t rs (λ k d within. over (suc k) d (omega arith)))

-- ---- what searches find
apart_drop : (i : ℕ) (rs : List Span) → IsApart rs → IsApart (drop i rs)
apart_drop zero rs up = up
apart_drop (suc i) [] up = tt
apart_drop (suc i) (r ∷ rs) up = apart_drop i rs up.2

drop_drop : (i k : ℕ) (rs : List Span) → drop (suc k) (drop i rs) ≡ drop (i + suc k) rs
drop_drop zero k rs = let is : suc k ≡ zero + suc k = omega arith in ap (λ n. drop n rs) is
drop_drop (suc i) k [] = let is : suc (i + suc k) ≡ suc i + suc k = omega arith in ap (λ n. drop {A = Span} n []) is
drop_drop (suc i) k (r ∷ rs) = let is : suc (i + suc k) ≡ suc i + suc k = omega arith in drop_drop i k rs ∙ ap (λ n. drop n (r ∷ rs)) is

drop_one : (rs : List Span) (i : ℕ) (d : Span) → i < length rs → drop i rs ≡ get_or rs i d ∷ drop (suc i) rs
drop_one [] i d within = absurd (omega arith)
drop_one (r ∷ rs) zero d within = refl
drop_one (r ∷ rs) (suc i) d within = drop_one rs i d (omega arith)

any_default : (rs : List Span) (i : ℕ) (d e : Span) → i < length rs → get_or rs i d ≡ get_or rs i e
any_default [] i d e within = absurd (omega arith)
any_default (r ∷ rs) zero d e within = refl
any_default (r ∷ rs) (suc i) d e within = any_default rs i d e (omega arith)

-- as many of the ranges end before the interval, and as many start by its end
module _ (rs : List Span) (s : Span) (first end : ℕ) (some : s.start < s.end) (up : IsApart rs)
    (early : IsPartitionPoint (λ r. ltb r.end s.start ≡ true) (λ r. ltb r.end s.start ≡ false) rs first)
    (late : IsPartitionPoint (λ r. ltb s.end r.start ≡ false) (λ r. ltb s.end r.start ≡ true) rs end) where
  pub put_between : end ≤ first → first ≤ length rs → with_range rs s ≡ take first rs ++ s ∷ drop first rs
  put_between none within =
      with_behind s rs first (λ k d lt inside. early.0 k d (omega arith) lt)
      ∙ ap (λ l. take first rs ++ l) (with_before s (drop first rs) s some (apart_drop first rs up) (λ more.
      let inside : first < length rs = omega (arith, length-drop first rs) in
      let at : get_or (drop first rs) 0 s ≡ get_or rs (first + 0) s = get_or-drop first rs 0 s in
      let behind : ltb s.end (get_or rs (first + 0) s).start ≡ true = late.1 (first + 0) s (omega arith) (omega arith) in
      let after : s.end < (get_or rs (first + 0) s).start = grind (arith, nat_tests) in
      rw at after))

  pub put_over : (d e : Span) → first < end → end ≤ length rs → with_range rs s ≡ take first rs ++ record { start = min (get_or rs first d).start s.start; end = max (get_or rs (end - 1) e).end s.end } ∷ drop end rs
  put_over d e more within =
      let k = end - 1 - first in
      let at : (i : ℕ) → get_or (drop first rs) i d ≡ get_or rs (first + i) d = λ i. get_or-drop first rs i d in
      let length_is : length (drop first rs) + first ≡ length rs = omega (arith, length-drop first rs, more, within) in
      let joined = with_joined (drop first rs) k s d some (apart_drop first rs up) (omega (arith, length_is, more, within))
      (λ i le. ap (λ (r : Span). ltb r.end s.start) (at i) ∙ early.1 (first + i) d (omega arith) (omega (arith, le, more, within)))
      (λ i le. ap (λ (r : Span). ltb s.end r.start) (at i) ∙ late.0 (first + i) d (omega arith) (omega (arith, le, more)))
      (λ i lt inside.
      let behind : ltb s.end (get_or rs (first + i) d).start ≡ true = late.1 (first + i) d (omega (arith, lt, more)) (omega (arith, inside, length_is)) in
      let after : s.end < (get_or rs (first + i) d).start = grind (arith, nat_tests) in
      rw (at i) after) in
      let one : first + 0 ≡ first = omega arith in
      let start : get_or (drop first rs) 0 d ≡ get_or rs first d = at 0 ∙ ap (λ n. get_or rs n d) one in
      let to : first + k ≡ end - 1 = omega (arith, more) in
      let last : get_or (drop first rs) k d ≡ get_or rs (end - 1) e = at k ∙ ap (λ n. get_or rs n d) to ∙ any_default rs (end - 1) d e (omega (arith, more, within)) in
      let over : first + suc k ≡ end = omega (arith, more) in
      let rest : drop (suc k) (drop first rs) ≡ drop end rs = drop_drop first k rs ∙ ap (λ n. drop n rs) over in
      with_behind s rs first (λ j f lt inside. early.0 j f (omega arith) lt)
      ∙ ap (λ l. take first rs ++ l) (joined ∙ ap (λ l. (record { start = min (get_or (drop first rs) 0 d).start s.start; end = max (get_or (drop first rs) k d).end s.end }) ∷ l) rest
      ∙ ap₂ (λ (a b : Span). (record { start = min a.start s.start; end = max b.end s.end }) ∷ drop end rs) start last)

-- the gap behind a joined range is closed
pub closed : (rs : List Span) (m : Span) (first end : ℕ) → first < end → end ≤ length rs → remove_range (set rs first m) (first + 1) end ≡ take first rs ++ m ∷ drop end rs
closed rs m first end more within =
    ap₂ (λ a b. a ++ b) (take_more_set rs first m (omega (arith, more, within))) (drop-set-lt end rs first m more)
    ∙ append_assoc (take first rs) (m ∷ []) (drop end rs)

-- where some are out, the next one goes too
pub removed_one : (rs : List Span) (i j : ℕ) → i ≤ j → j < length rs → remove (remove_range rs i j) i ≡ remove_range rs i (j + 1)
removed_one rs i j le within = rw (add-one j) (go rs i j le within)
  where
    go : (rs : List Span) (i j : ℕ) → i ≤ j → j < length rs → remove (remove_range rs i j) i ≡ remove_range rs i (suc j)
    go [] i j le within = absurd (omega (arith, within))
    go (r ∷ rs) zero zero le within = refl
    go (r ∷ rs) zero (suc j) le within = go rs zero j (omega arith) (omega (arith, within))
    go (r ∷ rs) (suc i) zero le within = absurd (omega (arith, le))
    go (r ∷ rs) (suc i) (suc j) le within = ap (λ l. r ∷ l) (go rs i j (omega (arith, le)) (omega (arith, within)))

-- the range in which an interval lies
module _ (rs : List Span) (s : Span) (i : ℕ)
    (parted : IsPartitionPoint (λ r. ltb s.start r.end ≡ false) (λ r. ltb s.start r.end ≡ true) rs i) where
  pub found_within : s.start < s.end → IsCovered rs s → i < length rs
  found_within some inside = elim (cases_lt i (length rs)) [
    | inl lt ↦ lt
    | inr ge ↦
        let none : covers rs s.start ≡ false = none_covers s.start rs (λ k d within. parted.0 k d (omega arith) (omega arith)) in
        let yes = inside s.start (omega arith) some in
        cc (none, yes)
  ]

  pub cut_at : (d : Span) → i < length rs → without_range rs s ≡ take i rs ++ (pieces (get_or rs i d) s ++ drop (i + 1) rs)
  cut_at d within =
      let here : ltb s.start (get_or rs i d).end ≡ true = parted.1 i d (omega arith) within in
      let now : without_range (get_or rs i d ∷ drop (suc i) rs) s ≡ pieces (get_or rs i d) s ++ drop (suc i) rs = rw here refl in
      let next : suc i ≡ i + 1 = omega arith in
      without_behind s rs i (λ k e lt inside. parted.0 k e (omega arith) lt)
      ∙ ap (λ l. take i rs ++ l) (ap (λ l. without_range l s) (drop_one rs i d within) ∙ now ∙ ap (λ n. pieces (get_or rs i d) s ++ drop n rs) next)

pub cut_to : (rs : List Span) (i : ℕ) (s r q : Span) (a b : Option Span) → without_range rs s ≡ take i rs ++ (pieces q s ++ drop (i + 1) rs) → r ≡ q → span_between r.start s.start ≡ a → span_between s.end r.end ≡ b → without_range rs s ≡ take i rs ++ ((option_to_list a ++ option_to_list b) ++ drop (i + 1) rs)
cut_to rs i s r q a b cut same before behind =
    cut ∙ ap (λ (p : Span). take i rs ++ (pieces p s ++ drop (i + 1) rs)) (sym same) ∙ ap₂ (λ x y. take i rs ++ ((option_to_list x ++ option_to_list y) ++ drop (i + 1) rs)) before behind

-- the same for the ranges and the interval as they are seen
pub cut_found : (rs l : List Span) (i : ℕ) (s seen r d : Span) (a b : Option Span) → l ≡ rs → s ≡ seen → without_range l seen ≡ take i l ++ (pieces (get_or l i d) seen ++ drop (i + 1) l) → r ≡ get_or rs i d → span_between r.start s.start ≡ a → span_between s.end r.end ≡ b → without_range rs seen ≡ take i rs ++ ((option_to_list a ++ option_to_list b) ++ drop (i + 1) rs)
cut_found rs l i s seen r d a b same view cut is before behind =
    let there : without_range rs seen ≡ take i rs ++ (pieces (get_or rs i d) seen ++ drop (i + 1) rs) = subst (λ x. without_range x seen ≡ take i x ++ (pieces (get_or x i d) seen ++ drop (i + 1) x)) same cut in
    let here : without_range rs s ≡ take i rs ++ (pieces (get_or rs i d) s ++ drop (i + 1) rs) = subst (λ (x : Span). without_range rs x ≡ take i rs ++ (pieces (get_or rs i d) x ++ drop (i + 1) rs)) (sym view) there in
    ap (without_range rs) (sym view) ∙ cut_to rs i s r (get_or rs i d) a b here is before behind

pub apart_seen : (rs now : List Span) (s seen : Span) → rs ≡ now → s ≡ seen → IsApart rs → s.start < s.end → IsApart (without_range now seen)
apart_seen rs now s seen same view up some = apart_without now seen (subst IsApart same up) (subst (λ (x : Span). x.start < x.end) view some)

-- two pieces in the place of one
pub two_for_one : (rs : List Span) (i : ℕ) (a b : Span) → i < length rs → insert (set rs i a) (i + 1) b ≡ take i rs ++ a ∷ b ∷ drop (i + 1) rs
two_for_one rs i a b within =
    let rest : drop (i + 1) (set rs i a) ≡ drop (i + 1) rs = drop-set-lt (i + 1) rs i a (omega arith) in
    ap₂ (λ x y. x ++ b ∷ y) (take_more_set rs i a within) rest ∙ append_assoc (take i rs) (a ∷ []) (b ∷ drop (i + 1) rs)

pub one_for_one : (rs : List Span) (i : ℕ) (a : Span) → i < length rs → set rs i a ≡ take i rs ++ a ∷ drop (i + 1) rs
one_for_one rs i a within = let next : suc i ≡ i + 1 = omega arith in set_split rs i a within ∙ ap (λ n. take i rs ++ a ∷ drop n rs) next

pub none_for_one : (rs : List Span) (i : ℕ) → remove rs i ≡ take i rs ++ drop (i + 1) rs
none_for_one rs i = let next : suc i ≡ i + 1 = omega arith in ap (λ n. take i rs ++ drop n rs) next

-- ---- where the ranges begin

-- ---- how far back it reaches
pub covered_nowhere : (rs : List Span) (d : Span) (t : ℕ) → ((i : ℕ) → i < length rs → has_second (get_or rs i d) t ≡ false) → covers rs t ≡ false
covered_nowhere [] d t none = refl
covered_nowhere (r ∷ rs) d t none = rw (none 0 (omega arith)) (covered_nowhere rs d t (λ i within. none (suc i) (omega arith)))

module _ (rs : List Span) (from i : ℕ) (d : Span) (up : IsApart rs) (within : i < length rs)
    (parted : IsPartitionPoint (λ r. ltb from r.end ≡ false) (λ r. ltb from r.end ≡ true) rs i) where
  -- what lies before the range's start, and isn't before all that ends by the moment, is uncovered just before the range
  bare_before : (t : ℕ) → t + 1 ≡ (get_or rs i d).start → covers rs t ≡ false
  bare_before t next = covered_nowhere rs d t (λ k inside. elim (cases_lt k i) [
    | inl lt ↦ let before = apart_at rs up k i d lt within in grind (arith, nat_tests)
    | inr ge ↦ elim (cases_lt i k) [
      | inl lt ↦ let behind = apart_at rs up i k d lt inside in let some = some_at rs up i d within in grind (arith, nat_tests)
      | inr le ↦ let is : i ≡ k = omega arith in let no : has_second (get_or rs i d) t ≡ false = grind (arith, nat_tests) in subst (λ n. has_second (get_or rs n d) t ≡ false) is no
    ]
  ])

  -- a second from the moment on, before the range's start, is uncovered
  bare_between : (t : ℕ) → from ≤ t → t < (get_or rs i d).start → covers rs t ≡ false
  bare_between t high low = covered_nowhere rs d t (λ k inside. elim (cases_lt k i) [
    | inl lt ↦ let over = parted.0 k d (omega arith) lt in grind (arith, nat_tests)
    | inr ge ↦ elim (cases_lt i k) [
      | inl lt ↦ let behind = apart_at rs up i k d lt inside in let some = some_at rs up i d within in grind (arith, nat_tests)
      | inr le ↦ let is : i ≡ k = omega arith in let no : has_second (get_or rs i d) t ≡ false = grind (arith, nat_tests) in subst (λ n. has_second (get_or rs n d) t ≡ false) is no
    ]
  ])

  pub reached : (s : Span) → s.start < s.end → IsCovered rs s → from < s.end → (get_or rs i d).start ≤ s.start
  reached s some inside behind = elim (cases_lt s.start (get_or rs i d).start) [
    | inl low ↦ elim (cases_lt from (get_or rs i d).start) [
      | inl over ↦
          let none = bare_between (max from s.start) (omega arith) (omega (arith, over, low)) in
          let yes = inside (max from s.start) (omega arith) (omega (arith, some, behind)) in
          cc (none, yes)
      | inr le ↦
          let none = bare_before ((get_or rs i d).start - 1) (omega (arith, low)) in
          let yes = inside ((get_or rs i d).start - 1) (omega (arith, low)) (omega (arith, low, le, behind)) in
          cc (none, yes)
    ]
    | inr high ↦ high
  ]

-- all end by the moment, so nothing is covered that takes time behind it
pub reached_none : (rs : List Span) (from last : ℕ) (s : Span) → ((k : ℕ) (d : Span) → k < length rs → ltb from (get_or rs k d).end ≡ false) → s.start < s.end → IsCovered rs s → from < s.end → last ≤ s.start
reached_none rs from last s over some inside behind =
    let none = none_covers (max from s.start) rs (λ k d within. let end = over k d within in grind (arith, nat_tests)) in
    let yes = inside (max from s.start) (omega arith) (omega (arith, some, behind)) in
    cc (none, yes)
