-- What bookings take, as ranges: after one comes or goes, and how many ranges there can be.
use Rattle.std.proofs.Common.{◌≡◌, ◌∙◌, ◌<◌, ◌≤◌, ◌+◌, ◌-◌, ℕ, zero, suc, List, [], ◌∷◌, length, get_or, map, Bool, true, false, cond, not, leb, ltb, eqb, ◌&&◌, ◌||◌, Some, inl, inr, refl, sym, ap, ap₂, subst, arith}
use Rattle.std.specs.List.{AllByRecursion, list_all, list_any}
use Rattle.std.specs.Ordering.{is_eq}
use Rattle.std.proofs.lemmas.Bool.{cases_lt}
use Rattle.std.proofs.lemmas.Bool.Decides.{nat_tests}
use Rattle.std.proofs.lemmas.List.Folds.{list_any_at}
use Rattle.ps_time.specs.Class.{conflicting_classes}
use Rattle.ps_time.specs.Span.{Span}
use Rattle.ps_time.specs.Key.{key_cmp}
use Rattle.ps_time.specs.declared.class.Class.{Class}
use Rattle.ps_time.specs.declared.class.Class.TheVariants.{BackgroundMulti, Background, Normal, Exclusive}
use Rattle.ps_time.specs.declared.key.RunKey.{RunKey}
use Rattle.host_timeline.specs.declared.booking.Booking.{Booking}
use Rattle.host_timeline.specs.Booking.{conflicts_with}
use Rattle.host_timeline.specs.Busy.{Busy, Ranges, begin_at, conflicts_begin_at, covers, has_second, is_busy, range_places, takes_beside, takes_second, without_range, AreBusy, IsApart, IsBusy, IsCovered, LeavesPlace}
use Rattle.host_timeline.specs.Lane.{Lanes, reaches, same_class, Decide, HoldLanes, Reach}
use Rattle.host_timeline.specs.Timeline.{started_booking, with_started}
use Rattle.host_timeline.proofs.BesideLemmas.{all_lane}
use Rattle.host_timeline.proofs.RangeLemmas.{apart_at, apart_without, covered_nowhere, covers_without, or_assoc, some_at}
use Rattle.host_timeline.proofs.Tests.{and_true, both_true}

-- ---- how many ranges there can be
abbrev pub one_of : List ℕ → ℕ → Bool
one_of values x = list_any (λ v. eqb v x) values

abbrev count_from : ℕ → List ℕ → ℕ
count_from low [] = 0
count_from low (v ∷ vs) = (cond (leb low v) 1 0) + count_from low vs

count_bound : (low : ℕ) (vs : List ℕ) → count_from low vs ≤ length vs
count_bound low [] = omega arith
count_bound low (v ∷ vs) =
    let rest = count_bound low vs in
    elim (leb low v) as (λ x. (cond x 1 0) + count_from low vs ≤ length (v ∷ vs)) [ true ↦ omega (arith, rest) | false ↦ omega (arith, rest) ]

count_less : (low high : ℕ) (vs : List ℕ) → low ≤ high → count_from high vs ≤ count_from low vs
count_less low high [] le = omega arith
count_less low high (v ∷ vs) le =
    let rest = count_less low high vs le in
    let cases = elim (leb high v) as (λ x. leb high v ≡ x → (cond x 1 0) + count_from high vs ≤ (cond (leb low v) 1 0) + count_from low vs) [
      | true ↦ λ is. let yes : leb low v ≡ true = grind (arith, nat_tests) in rw yes (omega (arith, rest))
      | false ↦ λ is. omega (arith, rest)
    ] in
    cases refl

count_more : (x : ℕ) (vs : List ℕ) → one_of vs x ≡ true → count_from (x + 1) vs + 1 ≤ count_from x vs
count_more x [] there = cc
count_more x (v ∷ vs) there =
    let less = count_less x (x + 1) vs (omega arith) in
    let cases = elim (eqb v x) as (λ t. eqb v x ≡ t → (t || one_of vs x) ≡ true → (cond (leb (x + 1) v) 1 0) + count_from (x + 1) vs + 1 ≤ (cond (leb x v) 1 0) + count_from x vs) [
      | true ↦ λ is there.
          let yes : leb x v ≡ true = grind (arith, nat_tests) in
          let no : leb (x + 1) v ≡ false = grind (arith, nat_tests) in
          rw (yes, no) (omega (arith, less))
      | false ↦ λ is there.
          let rest = count_more x vs there in
          (elim (leb (x + 1) v) as (λ t. leb (x + 1) v ≡ t → (cond t 1 0) + count_from (x + 1) vs + 1 ≤ (cond (leb x v) 1 0) + count_from x vs) [
            | true ↦ λ up. let yes : leb x v ≡ true = grind (arith, nat_tests) in rw yes (omega (arith, rest))
            | false ↦ λ up. omega (arith, rest)
          ]) refl
    ] in
    cases refl there

begins_above : (e low : ℕ) (rs : List Span) → low ≤ e + 1 → AllByRecursion (λ r. e < r.start) rs → AllByRecursion (λ r. low ≤ r.start) rs
begins_above e low [] le all = tt
begins_above e low (r ∷ rs) le all = (omega (arith, all.0), begins_above e low rs le all.1)

few_from : (vs : List ℕ) (rs : List Span) (low : ℕ) → IsApart rs → AllByRecursion (λ r. low ≤ r.start) rs → begin_at (one_of vs) rs ≡ true → length rs ≤ count_from low vs
few_from vs [] low up above begin = omega arith
few_from vs (r ∷ rs) low up above begin =
    let parts = both_true (one_of vs r.start) (begin_at (one_of vs) rs) begin in
    let rest = few_from vs rs (r.start + 1) up.2 (begins_above r.end (r.start + 1) rs (omega (arith, up.0)) up.1) parts.1 in
    let more = count_more r.start vs parts.0 in
    let less = count_less low r.start vs above.0 in
    omega (arith, rest, more, less)

above_all : (rs : List Span) → AllByRecursion (λ r. 0 ≤ r.start) rs
above_all [] = tt
above_all (r ∷ rs) = (omega arith, above_all rs)

-- no more than the values at which they begin
few : (vs : List ℕ) (rs : List Span) → IsApart rs → begin_at (one_of vs) rs ≡ true → length rs ≤ length vs
few vs rs up begin = omega (arith, few_from vs rs 0 up (above_all rs) begin, count_bound 0 vs)

leave_place : (vs : List ℕ) (places : ℕ) → length vs < places → LeavesPlace (one_of vs) places
leave_place vs places less = λ rs up begin. omega (arith, less, few vs rs up begin)

-- ---- where ranges begin
covers_here : (rs : List Span) (i : ℕ) (d : Span) (t : ℕ) → i < length rs → has_second (get_or rs i d) t ≡ true → covers rs t ≡ true
covers_here [] i d t within has = absurd (omega arith)
covers_here (r ∷ rs) zero d t within has = rw has refl
covers_here (r ∷ rs) (suc i) d t within has =
    let rest = covers_here rs i d t (omega arith) has in
    elim (has_second r t) as (λ x. (x || covers rs t) ≡ true) [ true ↦ refl | false ↦ rest ]

all_from : {X : Type 0} (q : X → Bool) (xs : List X) → ((i : ℕ) (d : X) → i < length xs → q (get_or xs i d) ≡ true) → list_all q xs ≡ true
all_from q [] each = refl
all_from q (x ∷ xs) each = rw (each 0 x (omega arith)) (all_from q xs (λ i d within. each (suc i) d (omega arith)))

-- a range begins at a second that is covered, behind one that isn't
pub begins_of : (rs : List Span) (q : ℕ → Bool) → IsApart rs → ((x : ℕ) → covers rs x ≡ true → ((y : ℕ) → y + 1 ≡ x → covers rs y ≡ false) → q x ≡ true) → begin_at q rs ≡ true
begins_of rs q up each =
    all_from (λ r. q r.start) rs (λ i d within.
    let some = some_at rs up i d within in
    let has : has_second (get_or rs i d) (get_or rs i d).start ≡ true = grind (arith, nat_tests) in
    each (get_or rs i d).start (covers_here rs i d (get_or rs i d).start within has) (λ y next.
    covered_nowhere rs d y (λ k inside. elim (cases_lt k i) [
      | inl lt ↦ let before = apart_at rs up k i d lt within in grind (arith, nat_tests)
      | inr ge ↦ elim (cases_lt i k) [
        | inl lt ↦ let behind = apart_at rs up i k d lt inside in grind (arith, nat_tests)
        | inr le ↦ let is : i ≡ k = omega arith in let no : has_second (get_or rs i d) y ≡ false = grind (arith, nat_tests) in subst (λ n. has_second (get_or rs n d) y ≡ false) is no
      ]
    ])))

abbrev pub starts_of : List Booking → List ℕ
starts_of bookings = map (λ b. b.interval.start) bookings

length_starts : (bs : List Booking) → length (starts_of bs) ≡ length bs
length_starts [] = refl
length_starts (b ∷ bs) = let rest = length_starts bs in omega (arith, rest)

or_right : (x y : Bool) → y ≡ true → (x || y) ≡ true
or_right true y is = refl
or_right false y is = is

or_left : (x y : Bool) → x ≡ true → (x || y) ≡ true
or_left x y is = rw is refl

-- where a second is taken, a booking starts there, or the second before it is taken too
start_or_before : (G : Type 0) (class : Class) (bs : List Booking) (x : ℕ) → is_busy class bs x ≡ true → (one_of (starts_of bs) x ≡ true → G) → ((y : ℕ) → y + 1 ≡ x → is_busy class bs y ≡ true → G) → G
start_or_before G class [] x busy at before = absurd cc
start_or_before G class (b ∷ bs) x busy at before =
    let cases = elim (takes_second class x b) as (λ t. takes_second class x b ≡ t → (t || is_busy class bs x) ≡ true → G) [
      | true ↦ λ is there.
          let parts = both_true (conflicting_classes class b.class) (has_second b.interval x) is in
          elim (cases_lt b.interval.start x) [
            | inl lt ↦
                let has : has_second b.interval (x - 1) ≡ true = let inside = parts.1 in grind (arith, nat_tests) in
                let takes : takes_second class (x - 1) b ≡ true = rw (parts.0, has) refl in
                before (x - 1) (omega (arith, lt)) (or_left (takes_second class (x - 1) b) (is_busy class bs (x - 1)) takes)
            | inr ge ↦
                let here : eqb b.interval.start x ≡ true = let inside = parts.1 in grind (arith, nat_tests) in
                at (or_left (eqb b.interval.start x) (one_of (starts_of bs) x) here)
          ]
      | false ↦ λ is there. start_or_before G class bs x there (λ one. at (or_right (eqb b.interval.start x) (one_of (starts_of bs) x) one)) (λ y next more. before y next (or_right (takes_second class y b) (is_busy class bs y) more))
    ] in
    cases refl busy

-- ---- a booking comes
busy_begins : (class : Class) (bs : List Booking) (rs : List Span) → IsBusy class bs rs → begin_at (one_of (starts_of bs)) rs ≡ true
busy_begins class bs rs busy =
    begins_of rs (one_of (starts_of bs)) busy.apart (λ x here before.
    start_or_before (one_of (starts_of bs) x ≡ true) class bs x (sym (busy.covered x) ∙ here) (λ one. one) (λ y next more.
    let no = sym (busy.covered y) ∙ before y next in
    cc (no, more)))

pub busy_room : (class : Class) (bs : List Booking) (ranges : Ranges) → IsBusy class bs ranges.list → length bs < range_places ranges → 0 < ranges.room
busy_room class bs ranges busy less = omega (arith, less, few (starts_of bs) ranges.list busy.apart (busy_begins class bs ranges.list busy), length_starts bs)

or_comm : (x y : Bool) → (x || y) ≡ (y || x)
or_comm true true = refl
or_comm true false = refl
or_comm false true = refl
or_comm false false = refl

pub covered_more : (class : Class) (b : Booking) (bs : List Booking) (rs more : List Span) → conflicting_classes class b.class ≡ true → ((t : ℕ) → covers more t ≡ (covers rs t || has_second b.interval t)) → IsApart more → IsBusy class bs rs → IsBusy class (b ∷ bs) more
covered_more class b bs rs more conflict covered apart busy = record {
  covered = λ t.
      let takes : takes_second class t b ≡ has_second b.interval t = rw conflict refl in
      covered t ∙ or_comm (covers rs t) (has_second b.interval t) ∙ ap₂ (λ x y. x || y) (sym takes) (busy.covered t);
  apart = apart;
}

pub covered_same : (class : Class) (b : Booking) (bs : List Booking) (rs : List Span) → conflicting_classes class b.class ≡ false → IsBusy class bs rs → IsBusy class (b ∷ bs) rs
covered_same class b bs rs apart busy = record {
  covered = λ t.
      let takes : takes_second class t b ≡ false = rw apart refl in
      busy.covered t ∙ ap (λ x. x || is_busy class bs t) (sym takes);
  apart = busy.apart;
}

-- ---- a booking goes
pub uncovered_same : (class : Class) (b : Booking) (bs : List Booking) (rs : List Span) → conflicting_classes class b.class ≡ false → IsBusy class (b ∷ bs) rs → IsBusy class bs rs
uncovered_same class b bs rs apart busy = record {
  covered = λ t.
      let takes : takes_second class t b ≡ false = rw apart refl in
      busy.covered t ∙ ap (λ x. x || is_busy class bs t) takes;
  apart = busy.apart;
}

all_both : (p : Booking → Bool) (xs ys bs : List Booking) → (list_all p xs && list_all p ys) ≡ list_all p bs → list_all p bs ≡ true → (list_all p xs ≡ true) × (list_all p ys ≡ true)
all_both p xs ys bs same all = both_true (list_all p xs) (list_all p ys) (same ∙ all)

any_as_all : (p : Booking → Bool) (bs : List Booking) → list_any p bs ≡ not (list_all (λ b. not (p b)) bs)
any_as_all p [] = refl
any_as_all p (b ∷ bs) = elim (p b) as (λ x. (x || list_any p bs) ≡ not (not x && list_all (λ b. not (p b)) bs)) [ true ↦ refl | false ↦ any_as_all p bs ]

not_both : (x y : Bool) → (not x || not y) ≡ not (x && y)
not_both true y = refl
not_both false y = refl

any_alike : (p q : Booking → Bool) → ((b : Booking) → p b ≡ q b) → (bs : List Booking) → list_any p bs ≡ list_any q bs
any_alike p q same [] = refl
any_alike p q same (b ∷ bs) = ap₂ (λ x y. x || y) (same b) (any_alike p q same bs)

any_less : (p q : Booking → Bool) → ((b : Booking) → p b ≡ true → q b ≡ true) → (bs : List Booking) → (list_any q bs || list_any p bs) ≡ list_any q bs
any_less p q implies [] = refl
any_less p q implies (b ∷ bs) =
    let rest = any_less p q implies bs in
    let cases = elim (q b) as (λ x. (p b ≡ true → x ≡ true) → ((x || list_any q bs) || (p b || list_any p bs)) ≡ (x || list_any q bs)) [
      | true ↦ λ f. refl
      | false ↦ λ f. (elim (p b) as (λ y. (y ≡ true → false ≡ true) → (list_any q bs || (y || list_any p bs)) ≡ list_any q bs) [ true ↦ λ g. let no = g refl in cc | false ↦ λ g. rest ]) f
    ] in
    cases (implies b)

starts_here : (bs : List Booking) (i : ℕ) (d : Booking) → i < length bs → one_of (starts_of bs) (get_or bs i d).interval.start ≡ true
starts_here [] i d within = absurd (omega arith)
starts_here (b ∷ bs) zero d within = let is : eqb b.interval.start b.interval.start ≡ true = grind (arith, nat_tests) in or_left (eqb b.interval.start b.interval.start) (one_of (starts_of bs) b.interval.start) is
starts_here (b ∷ bs) (suc i) d within = or_right (eqb b.interval.start (get_or bs i d).interval.start) (one_of (starts_of bs) (get_or bs i d).interval.start) (starts_here bs i d (omega arith))

-- at a second of the interval, what takes it is in conflict
module _ (class : Class) (s : Span) (t : ℕ) (d : Booking) where
  overlaps_there : has_second s t ≡ true → ((ltb s.start d.interval.end && ltb d.interval.start s.end) && has_second d.interval t) ≡ has_second d.interval t
  overlaps_there here = grind (arith, nat_tests)

  beside_takes : has_second s t ≡ true → takes_beside class s t d ≡ takes_second class t d
  beside_takes here = elim (conflicting_classes class d.class) as (λ c. ((c && (ltb s.start d.interval.end && ltb d.interval.start s.end)) && has_second d.interval t) ≡ (c && has_second d.interval t)) [
    | true ↦ overlaps_there here
    | false ↦ refl
  ]

  takes_more : takes_beside class s t d ≡ true → takes_second class t d ≡ true
  takes_more is =
      let parts = both_true (conflicts_with class s d) (has_second d.interval t) is in
      let classes = both_true (conflicting_classes class d.class) (ltb s.start d.interval.end && ltb d.interval.start s.end) parts.0 in
      rw (classes.0, parts.1) refl

module _ (class : Class) (b : Booking) (bs : List Booking) (rs : List Span) (some : b.interval.start < b.interval.end) (conflict : conflicting_classes class b.class ≡ true) (busy : IsBusy class (b ∷ bs) rs) where
  -- all of it is covered
  pub is_covered : IsCovered rs b.interval
  is_covered = λ t low high.
      let has : has_second b.interval t ≡ true = grind (arith, nat_tests) in
      let takes : takes_second class t b ≡ true = rw (conflict, has) refl in
      busy.covered t ∙ or_left (takes_second class t b) (is_busy class bs t) takes

  abbrev cut_list : List Span
  cut_list = without_range rs b.interval

  -- at the end of what went, or where one starts that stays
  abbrev pub places_to_begin : List ℕ
  places_to_begin = b.interval.end ∷ starts_of bs

  cut_covers : (t : ℕ) → covers cut_list t ≡ ((takes_second class t b || is_busy class bs t) && not (has_second b.interval t))
  cut_covers t = covers_without rs b.interval t busy.apart some is_covered ∙ ap (λ x. x && not (has_second b.interval t)) (busy.covered t)

  stays_busy : (t : ℕ) → ((takes_second class t b || is_busy class bs t) && not (has_second b.interval t)) ≡ true → (is_busy class bs t ≡ true) × (has_second b.interval t ≡ false)
  stays_busy t is =
      let takes : takes_second class t b ≡ has_second b.interval t = rw conflict refl in
      let cases = elim (has_second b.interval t) as (λ h. ((h || is_busy class bs t) && not h) ≡ true → (is_busy class bs t ≡ true) × (h ≡ false)) [
        | true ↦ λ e. cc
        | false ↦ λ e. ((both_true (is_busy class bs t) true e).0, refl)
      ] in
      cases (ap (λ x. (x || is_busy class bs t) && not (has_second b.interval t)) (sym takes) ∙ is)

  pub cut_begins : begin_at (one_of places_to_begin) cut_list ≡ true
  cut_begins =
      begins_of cut_list (one_of places_to_begin) (apart_without rs b.interval busy.apart some) (λ x here before.
      let now = stays_busy x (sym (cut_covers x) ∙ here) in
      start_or_before (one_of places_to_begin x ≡ true) class bs x now.0 (λ one. or_right (eqb b.interval.end x) (one_of (starts_of bs) x) one) (λ y next more.
      let free = sym (cut_covers y) ∙ before y next in
      let cases = elim (has_second b.interval y) as (λ h. has_second b.interval y ≡ h → ((takes_second class y b || is_busy class bs y) && not h) ≡ false → one_of places_to_begin x ≡ true) [
        | true ↦ λ is e. let out = now.1 in let at : eqb b.interval.end x ≡ true = grind (arith, nat_tests) in or_left (eqb b.interval.end x) (one_of (starts_of bs) x) at
        | false ↦ λ is e.
            let yes : ((takes_second class y b || is_busy class bs y) && true) ≡ true = rw (or_right (takes_second class y b) (is_busy class bs y) more) refl in
            cc (yes, e)
      ] in
      cases refl free))

  pub cut_room : (places : ℕ) → length bs + 1 < places → LeavesPlace (one_of places_to_begin) places
  cut_room places less = leave_place places_to_begin places (omega (arith, less, length_starts bs))

  -- the lists that a run looks at have what stays beside it
  module _ (xs ys : List Booking) (decide : Decide class b.interval.start (Some b.interval.end) bs xs ys) where
    pub both_begin : (conflicts_begin_at (one_of places_to_begin) class b.interval xs ≡ true) × (conflicts_begin_at (one_of places_to_begin) class b.interval ys ≡ true)
    both_begin =
        let test : Booking → Bool = λ d. not (conflicts_with class b.interval d) || one_of places_to_begin d.interval.start in
        let each : list_all test bs ≡ true = all_from test bs (λ i d within. or_right (not (conflicts_with class b.interval (get_or bs i d))) (one_of places_to_begin (get_or bs i d).interval.start) (or_right (eqb b.interval.end (get_or bs i d).interval.start) (one_of (starts_of bs) (get_or bs i d).interval.start) (starts_here bs i d within))) in
        all_both test xs ys bs (decide test (λ d off. let no : conflicts_with class b.interval d ≡ false = off in rw no refl)) each

    both_take : (t : ℕ) → (list_any (takes_beside class b.interval t) xs || list_any (takes_beside class b.interval t) ys) ≡ list_any (takes_beside class b.interval t) bs
    both_take t =
        let p : Booking → Bool = takes_beside class b.interval t in
        ap₂ (λ x y. x || y) (any_as_all p xs) (any_as_all p ys)
        ∙ not_both (list_all (λ d. not (p d)) xs) (list_all (λ d. not (p d)) ys)
        ∙ ap not (decide (λ d. not (p d)) (λ d off. let no : conflicts_with class b.interval d ≡ false = off in rw no refl))
        ∙ sym (any_as_all p bs)

    left_over : (t : ℕ) → (((takes_second class t b || is_busy class bs t) && not (has_second b.interval t)) || list_any (takes_beside class b.interval t) bs) ≡ is_busy class bs t
    left_over t =
        let p : Booking → Bool = takes_beside class b.interval t in
        let takes : takes_second class t b ≡ has_second b.interval t = rw conflict refl in
        let cases = elim (has_second b.interval t) as (λ h. has_second b.interval t ≡ h → (((h || is_busy class bs t) && not h) || list_any p bs) ≡ is_busy class bs t) [
          | true ↦ λ is. any_alike p (takes_second class t) (λ d. beside_takes class b.interval t d is) bs
          | false ↦ λ is. ap (λ x. x || list_any p bs) (and_true (is_busy class bs t)) ∙ any_less p (takes_second class t) (λ d. takes_more class b.interval t d) bs
        ] in
        ap (λ x. ((x || is_busy class bs t) && not (has_second b.interval t)) || list_any p bs) takes ∙ cases refl

    pub uncovered : (t : ℕ) → ((covers cut_list t || list_any (takes_beside class b.interval t) xs) || list_any (takes_beside class b.interval t) ys) ≡ is_busy class bs t
    uncovered t =
        sym (or_assoc (covers cut_list t) (list_any (takes_beside class b.interval t) xs) (list_any (takes_beside class b.interval t) ys))
        ∙ ap (λ x. covers cut_list t || x) (both_take t)
        ∙ ap (λ x. x || list_any (takes_beside class b.interval t) bs) (cut_covers t)
        ∙ left_over t

-- ---- a pass over bookings
module _ (class : Class) (s : Span) (bs : List Booking) (b : Booking) (rest : List Booking) (here : bs ≡ b ∷ rest) (t : ℕ) where
  pub take_one : conflicts_with class s b ≡ true → (x : Bool) → (x || list_any (takes_beside class s t) bs) ≡ ((x || has_second b.interval t) || list_any (takes_beside class s t) rest)
  take_one conflicts x =
      let takes : takes_beside class s t b ≡ has_second b.interval t = rw conflicts refl in
      ap (λ y. x || y) (ap (list_any (takes_beside class s t)) here ∙ ap (λ y. y || list_any (takes_beside class s t) rest) takes) ∙ or_assoc x (has_second b.interval t) (list_any (takes_beside class s t) rest)

-- the ranges before and after
module _ (begins : ℕ → Bool) (class : Class) (s : Span) (bs : List Booking) (b : Booking) (rest : List Booking) (here : bs ≡ b ∷ rest) (coming : conflicts_begin_at begins class s bs ≡ true) where
  both_coming : record { first : (not (conflicts_with class s b) || begins b.interval.start) ≡ true; rest : conflicts_begin_at begins class s rest ≡ true }
  both_coming =
      let both = both_true (not (conflicts_with class s b) || begins b.interval.start) (conflicts_begin_at begins class s rest) (ap (conflicts_begin_at begins class s) (sym here) ∙ coming) in
      record { first = both.0; rest = both.1 }

  pub rest_coming : conflicts_begin_at begins class s rest ≡ true
  rest_coming = both_coming.rest

  pub begins_coming : conflicts_with class s b ≡ true → begins b.interval.start ≡ true
  begins_coming conflicts = let first = both_coming.first in rw conflicts at first

-- nothing is taken for a class that conflicts with none
pub never_busy : (class : Class) (bs : List Booking) (t : ℕ) → ((k : Class) → conflicting_classes class k ≡ false) → is_busy class bs t ≡ false
never_busy class [] t none = refl
never_busy class (b ∷ bs) t none = rw (none b.class) (never_busy class bs t none)

-- ---- both classes
pub busy_alike : (xs ys : List Booking) (places : ℕ) (busy : Busy) → ((p : Booking → Bool) → list_any p xs ≡ list_any p ys) → AreBusy xs places busy → AreBusy ys places busy
busy_alike xs ys places busy same are = record {
  normal = record { covered = λ t. are.normal.covered t ∙ same (takes_second Normal t); apart = are.normal.apart };
  exclusive = record { covered = λ t. are.exclusive.covered t ∙ same (takes_second Exclusive t); apart = are.exclusive.apart };
  normal_places = are.normal_places;
  exclusive_places = are.exclusive_places;
}

started_takes : (class : Class) (t : ℕ) (b : Booking) (x : Bool) → takes_second class t (cond x (started_booking b) b) ≡ takes_second class t b
started_takes class t b true = refl
started_takes class t b false = refl

started_busy : (class : Class) (bs : List Booking) (k : RunKey) (t : ℕ) → is_busy class bs t ≡ is_busy class (with_started bs k) t
started_busy class [] k t = refl
started_busy class (b ∷ bs) k t = ap₂ (λ x y. x || y) (sym (started_takes class t b (is_eq (key_cmp b.key k)))) (started_busy class bs k t)

pub busy_started : (bs : List Booking) (k : RunKey) (places : ℕ) (busy : Busy) → AreBusy bs places busy → AreBusy (with_started bs k) places busy
busy_started bs k places busy are = record {
  normal = record { covered = λ t. are.normal.covered t ∙ started_busy Normal bs k t; apart = are.normal.apart };
  exclusive = record { covered = λ t. are.exclusive.covered t ∙ started_busy Exclusive bs k t; apart = are.exclusive.apart };
  normal_places = are.normal_places;
  exclusive_places = are.exclusive_places;
}

-- ---- how far back bookings reach
-- what a booking takes is covered
taken_covered : (class : Class) (bs : List Booking) (rs : List Span) (i : ℕ) (d : Booking) → IsBusy class bs rs → i < length bs → conflicting_classes class (get_or bs i d).class ≡ true → IsCovered rs (get_or bs i d).interval
taken_covered class bs rs i d busy within conflict = λ t low high.
    let has : has_second (get_or bs i d).interval t ≡ true = grind (arith, nat_tests) in
    let takes : takes_second class t (get_or bs i d) ≡ true = rw (conflict, has) refl in
    busy.covered t ∙ list_any_at (takes_second class t) bs i d within takes

class_as : (k c : Class) → same_class k c ≡ true → k ≡ c
class_as BackgroundMulti BackgroundMulti is = refl
class_as Background Background is = refl
class_as Normal Normal is = refl
class_as Exclusive Exclusive is = refl
class_as _ _ is = cc

module _ (class : Class) (earliest from : ℕ) (bs : List Booking) (lanes : Lanes) (hold : HoldLanes bs lanes) where
  reach_lane : ((i : ℕ) (d : Booking) → i < length bs → conflicting_classes class (get_or bs i d).class ≡ true → (get_or bs i d).interval.start < (get_or bs i d).interval.end → from < (get_or bs i d).interval.end → earliest ≤ (get_or bs i d).interval.start) → Reach class earliest from lanes
  reach_lane each = λ k conflict.
      all_lane bs lanes hold k (reaches earliest from)
      ∙ all_from (λ b. not (same_class k b.class) || reaches earliest from b) bs (λ i d within.
      let b : Booking = get_or bs i d in
      let cases = elim (same_class k b.class) as (λ x. same_class k b.class ≡ x → (not x || reaches earliest from b) ≡ true) [
        | true ↦ λ is.
            let conflicts : conflicting_classes class b.class ≡ true = subst (λ c. conflicting_classes class c ≡ true) (class_as k b.class is) conflict in
            elim (cases_lt b.interval.start b.interval.end) [
              | inl some ↦ elim (cases_lt from b.interval.end) [
                | inl behind ↦ let after : earliest ≤ b.interval.start = each i d within conflicts some behind in grind (arith, nat_tests)
                | inr by ↦ grind (arith, nat_tests)
              ]
              | inr none ↦ grind (arith, nat_tests)
            ]
        | false ↦ λ is. refl
      ] in
      cases refl)

  pub busy_reach : (rs : List Span) → IsBusy class bs rs → ((s : Span) → s.start < s.end → IsCovered rs s → from < s.end → earliest ≤ s.start) → Reach class earliest from lanes
  busy_reach rs busy reached = reach_lane (λ i d within conflict some behind. reached (get_or bs i d).interval some (taken_covered class bs rs i d busy within conflict) behind)

  -- also those that stay, where another takes part
  pub busy_reach_beside : (x : Booking) (rs : List Span) → IsBusy class (x ∷ bs) rs → ((s : Span) → s.start < s.end → IsCovered rs s → from < s.end → earliest ≤ s.start) → Reach class earliest from lanes
  busy_reach_beside x rs busy reached = reach_lane (λ i d within conflict some behind. reached (get_or bs i d).interval some (taken_covered class (x ∷ bs) rs (suc i) d busy (omega (arith, within)) conflict) behind)

  pub no_reach : ((k : Class) → conflicting_classes class k ≡ false) → Reach class earliest from lanes
  no_reach none = λ k conflict. let no = none k in cc (no, conflict)
