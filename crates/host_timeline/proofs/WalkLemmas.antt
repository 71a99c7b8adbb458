-- A walk over the bookings in conflict with a run, from key to key, and what is left where they go.
use Rattle.std.proofs.Common.{◌≡◌, ◌∙◌, ◌<◌, ◌≤◌, ℕ, ℤ, List, [], ◌∷◌, length, Bool, true, false, cond, not, ◌&&◌, ◌||◌, Option, Some, None, refl, sym, ap, subst, arith}
use Rattle.std.specs.List.{filter, list_all, AllByRecursion}
use Rattle.std.specs.Option.{IfNone}
use Rattle.std.specs.Ordering.{is_eq, ordering_reverse}
use Rattle.std.specs.declared.cmp.Ordering.TheVariants.{Less, Equal, Greater}
use Rattle.ps_time.specs.Key.{key_cmp}
use Rattle.ps_time.specs.Span.{Span}
use Rattle.ps_time.specs.declared.class.Class.{Class}
use Rattle.ps_time.specs.declared.key.RunKey.{RunKey}
use Rattle.ps_time.proofs.KeyLemmas.{key_cmp_same, key_cmp_total, same_key}
use Rattle.host_timeline.specs.declared.booking.Booking.{Booking}
use Rattle.host_timeline.specs.Booking.{can_preempt, conflicting, conflicting_after, conflicts_with, firm, is_after, key_and, keys_of, least_key, without_conflicts}
use Rattle.host_timeline.specs.Lane.{Decide}
use Rattle.host_timeline.specs.Timeline.{find_booking, without_booking, IsAscendingBookings}
use Rattle.host_timeline.proofs.HoldLemmas.{IsOnly}
use Rattle.host_timeline.proofs.Least.{all_implies, below_far, least_of, least_passing, least_says, not_this, Says}
use Rattle.host_timeline.proofs.Tests.{and_false, both_true}

-- all after a booking have other keys than it
later_none : (b : Booking) (k : RunKey) (bs : List Booking) → key_cmp b.key k ≡ Equal → AllByRecursion (λ d. key_cmp b.key d.key ≡ Less) bs → list_all (λ d. not (is_eq (key_cmp d.key k))) bs ≡ true
later_none b k [] same below = refl
later_none b k (d ∷ ds) same below =
    let above : key_cmp d.key k ≡ Greater = subst (λ j. key_cmp d.key j ≡ Greater) (same_key b.key k same) (key_cmp_total.antisymm d.key b.key ∙ ap ordering_reverse below.0) in
    rw above (later_none b k ds same below.1)

or_yes : (x : Bool) → (x || true) ≡ true
or_yes true = refl
or_yes false = refl

module _ (p : Booking → Bool) (k : RunKey) where
  found_later : (b : Booking) (bs : List Booking) → is_eq (key_cmp b.key k) ≡ false → (x : Booking) × (find_booking bs k ≡ Some x) × (p x ≡ true) → (x : Booking) × (find_booking (b ∷ bs) k ≡ Some x) × (p x ≡ true)
  found_later b bs is rest = (rest.0, rw is rest.1, rest.2)

  -- where one passes that has the key, the key finds it
  pub found_one : (bs : List Booking) → IsAscendingBookings bs → list_all (not_this p k) bs ≡ false → (x : Booking) × (find_booking bs k ≡ Some x) × (p x ≡ true)
  found_one [] up there = cc
  found_one (b ∷ bs) up there =
      let other : is_eq (key_cmp b.key k) ≡ false → (x : Booking) × (find_booking (b ∷ bs) k ≡ Some x) × (p x ≡ true) = λ is.
      let passed : not_this p k b ≡ true = rw is (or_yes (not (p b))) in
      found_later b bs is (found_one bs up.1 (sym (ap (λ x. x && list_all (not_this p k) bs) passed) ∙ there)) in
      let cases = elim (key_cmp b.key k) as (λ c. key_cmp b.key k ≡ c → (x : Booking) × (find_booking (b ∷ bs) k ≡ Some x) × (p x ≡ true)) [
        | Less ↦ λ is. other (ap is_eq is)
        | Greater ↦ λ is. other (ap is_eq is)
        | Equal ↦ λ is.
            let passes : p b ≡ true = elim (p b) as (λ x. p b ≡ x → x ≡ true) [
              | true ↦ λ e. refl
              | false ↦ λ e.
                  let here : not_this p k b ≡ true = rw e refl in
                  let later : list_all (not_this p k) bs ≡ true = all_implies p (λ d. not (is_eq (key_cmp d.key k))) (not_this p k) (λ d off. rw off (or_yes (not (p d)))) bs (later_none b k bs is up.0) in
                  let all : list_all (not_this p k) (b ∷ bs) ≡ true = rw here later in
                  cc (all, there)
            ] refl in
            let finds : find_booking (b ∷ bs) k ≡ Some b = ap (λ c. cond (is_eq c) (Some b) (find_booking bs k)) is in
            (b, finds, passes)
      ] in
      cases refl

  -- its key is below no key before it
  pub above_first : (j : RunKey) (bs : List Booking) → AllByRecursion (λ d. key_cmp j d.key ≡ Less) bs → list_all (not_this p k) bs ≡ false → key_cmp j k ≡ Less
  above_first j [] below there = cc
  above_first j (d ∷ ds) below there =
      let other : is_eq (key_cmp d.key k) ≡ false → key_cmp j k ≡ Less = λ is.
      let passed : not_this p k d ≡ true = rw is (or_yes (not (p d))) in
      above_first j ds below.1 (sym (ap (λ x. x && list_all (not_this p k) ds) passed) ∙ there) in
      let cases = elim (key_cmp d.key k) as (λ c. key_cmp d.key k ≡ c → key_cmp j k ≡ Less) [
        | Less ↦ λ is. other (ap is_eq is)
        | Greater ↦ λ is. other (ap is_eq is)
        | Equal ↦ λ is. subst (λ i. key_cmp j i ≡ Less) (same_key d.key k is) below.0
      ] in
      cases refl

  pub least_there : (bs : List Booking) → least_of p bs ≡ Some k → list_all (not_this p k) bs ≡ false
  least_there bs is = let says : Says p bs (Some k) = subst (Says p bs) is (least_says p bs) in says.1

pub none_passes : (p : Booking → Bool) (bs : List Booking) → least_of p bs ≡ None → filter p bs ≡ []
none_passes p [] none = refl
none_passes p (b ∷ bs) none =
    let cases = elim (p b) as (λ x. least_key (keys_of (cond x (b ∷ filter p bs) (filter p bs))) ≡ None → cond x (b ∷ filter p bs) (filter p bs) ≡ []) [
      | true ↦ λ e. cc
      | false ↦ λ e. none_passes p bs e
    ] in
    cases none

-- ---- the walk
module _ (class : Class) (s : Span) (after : Option RunKey) where
  abbrev passes : Option RunKey → Booking → Bool
  passes low b = is_after low b.key && conflicts_with class s b

  after_later : (j k : RunKey) → is_after after j ≡ true → key_cmp j k ≡ Less → is_after after k ≡ true
  after_later j k first less = later after first where
    later : (low : Option RunKey) → is_after low j ≡ true → is_after low k ≡ true
    later None first = refl
    later (Some low) first = below_far low j k first (rw less refl)

  same_rest : (b : Booking) (bs : List Booking) → is_after after b.key ≡ true → AllByRecursion (λ d. key_cmp b.key d.key ≡ Less) bs → filter (passes after) bs ≡ filter (passes (Some b.key)) bs
  same_rest b [] first below = refl
  same_rest b (d ∷ ds) first below =
      rw (after_later b.key d.key first below.0, below.0, same_rest b ds first below.1) refl

  -- from the least key on, the others are those above it
  pub next_key : (bs : List Booking) (k : RunKey) → IsAscendingBookings bs → least_of (passes after) bs ≡ Some k → keys_of (conflicting_after class s after bs) ≡ k ∷ keys_of (conflicting_after class s (Some k) bs)
  next_key [] k up least = cc
  next_key (b ∷ bs) k up least =
      let cases = elim (passes after b) as (λ x. passes after b ≡ x → keys_of (cond x (b ∷ filter (passes after) bs) (filter (passes after) bs)) ≡ k ∷ keys_of (filter (passes (Some k)) (b ∷ bs))) [
        | true ↦ λ is.
            let first : least_of (passes after) (b ∷ bs) ≡ Some b.key = least_passing (passes after) (b ∷ bs) b (filter (passes after) bs) up (rw is refl) in
            let same : b.key ≡ k = cc (first, least) in
            let own : filter (passes (Some b.key)) (b ∷ bs) ≡ filter (passes (Some b.key)) bs = rw (key_cmp_same b.key) refl in
            subst (λ j. b.key ∷ keys_of (filter (passes after) bs) ≡ j ∷ keys_of (filter (passes (Some j)) (b ∷ bs))) same
            (ap (λ l. b.key ∷ keys_of l) (same_rest b bs (both_true (is_after after b.key) (conflicts_with class s b) is).0 up.0 ∙ sym own))
        | false ↦ λ is.
            let left : least_of (passes after) bs ≡ Some k = sym (ap (λ x. least_key (keys_of (cond x (b ∷ filter (passes after) bs) (filter (passes after) bs)))) is) ∙ least in
            let less : key_cmp b.key k ≡ Less = above_first (passes after) k b.key bs up.0 (least_there (passes after) k bs left) in
            let greater : key_cmp k b.key ≡ Greater = key_cmp_total.antisymm k b.key ∙ ap ordering_reverse less in
            let off : filter (passes (Some k)) (b ∷ bs) ≡ filter (passes (Some k)) bs = rw greater refl in
            next_key bs k up.1 left ∙ ap (λ l. k ∷ keys_of l) (sym off)
      ] in
      cases refl

  pub walk_on : (bs : List Booking) (r : Option RunKey) → IsAscendingBookings bs → r ≡ least_of (passes after) bs → keys_of (conflicting_after class s after bs) ≡ key_and r (λ k. keys_of (conflicting_after class s (Some k) bs))
  walk_on bs None up is = ap keys_of (none_passes (passes after) bs (sym is))
  walk_on bs (Some k) up is = next_key bs k up (sym is)

-- ---- one after another is taken out
module _ (class : Class) (s : Span) where
  abbrev stays : Booking → Bool
  stays b = not (conflicts_with class s b)

  -- one that conflicts leaves those that don't
  pub left_alike : (bs : List Booking) (k : RunKey) (x : Booking) → IsOnly k x bs → conflicts_with class s x ≡ true → without_conflicts class s (without_booking bs k) ≡ without_conflicts class s bs
  left_alike [] k x alone conflicts = refl
  left_alike (b ∷ bs) k x alone conflicts =
      let rest = left_alike bs k x alone.1 conflicts in
      let cases = elim (is_eq (key_cmp b.key k)) as (λ t. (t ≡ true → b ≡ x) → filter stays (cond (not t) (b ∷ without_booking bs k) (without_booking bs k)) ≡ filter stays (b ∷ bs)) [
        | true ↦ λ f.
            let gone : conflicts_with class s b ≡ true = subst (λ (d : Booking). conflicts_with class s d ≡ true) (sym (f refl)) conflicts in
            rest ∙ rw gone refl
        | false ↦ λ f. elim (stays b) as (λ t. cond t (b ∷ filter stays (without_booking bs k)) (filter stays (without_booking bs k)) ≡ cond t (b ∷ filter stays bs) (filter stays bs)) [ true ↦ ap (λ l. b ∷ l) rest | false ↦ rest ]
      ] in
      cases alone.0

  pub all_stay : (bs : List Booking) → conflicting class s bs ≡ [] → without_conflicts class s bs ≡ bs
  all_stay [] none = refl
  all_stay (b ∷ bs) none =
      let cases = elim (conflicts_with class s b) as (λ t. cond t (b ∷ conflicting class s bs) (conflicting class s bs) ≡ [] → cond (not t) (b ∷ without_conflicts class s bs) (without_conflicts class s bs) ≡ b ∷ bs) [
        | true ↦ λ e. cc
        | false ↦ λ e. ap (λ l. b ∷ l) (all_stay bs e)
      ] in
      cases none

all_apart : (class : Class) (s : Span) (bs : List Booking) → list_all (λ b. not (conflicts_with class s b)) bs ≡ true → conflicting class s bs ≡ []
all_apart class s [] all = refl
all_apart class s (b ∷ bs) all =
    let parts = both_true (not (conflicts_with class s b)) (list_all (λ b. not (conflicts_with class s b)) bs) all in
    let cases = elim (conflicts_with class s b) as (λ x. not x ≡ true → cond x (b ∷ conflicting class s bs) (conflicting class s bs) ≡ []) [
      | true ↦ λ e. cc
      | false ↦ λ e. all_apart class s bs parts.1
    ] in
    cases parts.0

-- where neither list has one in conflict, the bookings have none
pub none_in_conflict : (class : Class) (s : Span) (bs xs ys : List Booking) (r : Option RunKey) → Decide class s.start (Some s.end) bs xs ys → list_all (λ b. not (conflicts_with class s b)) xs ≡ true → IfNone r (list_all (λ b. not (conflicts_with class s b)) ys ≡ true) → IfNone r (conflicting class s bs ≡ [])
none_in_conflict class s bs xs ys (Some k) decide one other = tt
none_in_conflict class s bs xs ys None decide one other =
    let all : (list_all (λ b. not (conflicts_with class s b)) xs && list_all (λ b. not (conflicts_with class s b)) ys) ≡ true = rw (one, other) refl in
    all_apart class s bs (sym (decide (λ b. not (conflicts_with class s b)) (λ b off. let no : conflicts_with class s b ≡ false = off in rw no refl)) ∙ all)

-- where nothing is beside
pub none_beside : (class : Class) (s : Span) (bs : List Booking) → Decide class s.start (Some s.end) bs [] [] → conflicting class s bs ≡ []
none_beside class s bs decide = none_in_conflict class s bs [] [] None decide refl refl

-- none above another then either
pub none_after : (class : Class) (s : Span) (after : Option RunKey) (bs : List Booking) → conflicting class s bs ≡ [] → conflicting_after class s after bs ≡ []
none_after class s after [] none = refl
none_after class s after (b ∷ bs) none =
    let cases = elim (conflicts_with class s b) as (λ t. cond t (b ∷ conflicting class s bs) (conflicting class s bs) ≡ [] → cond (is_after after b.key && t) (b ∷ conflicting_after class s after bs) (conflicting_after class s after bs) ≡ []) [
      | true ↦ λ e. cc
      | false ↦ λ e. rw (and_false (is_after after b.key)) (none_after class s after bs e)
    ] in
    cases none

-- where nothing is in conflict with a run, nothing stands in its way
pub none_firm : (class : Class) (s : Span) (priority : ℤ) (moment : ℕ) (bs : List Booking) → conflicting class s bs ≡ [] → firm class s priority moment bs ≡ []
none_firm class s priority moment [] none = refl
none_firm class s priority moment (b ∷ bs) none =
    let cases = elim (conflicts_with class s b) as (λ t. cond t (b ∷ conflicting class s bs) (conflicting class s bs) ≡ [] → cond (t && not (can_preempt priority moment b)) (b ∷ firm class s priority moment bs) (firm class s priority moment bs) ≡ []) [
      | true ↦ λ e. cc
      | false ↦ λ e. none_firm class s priority moment bs e
    ] in
    cases none

filter_short : (p : Booking → Bool) (bs : List Booking) → length (filter p bs) ≤ length bs
filter_short p [] = omega arith
filter_short p (b ∷ bs) = elim (p b) as (λ t. length (cond t (b ∷ filter p bs) (filter p bs)) ≤ length (b ∷ bs)) [ true ↦ omega (arith, filter_short p bs) | false ↦ omega (arith, filter_short p bs) ]

pub fewer : (bs : List Booking) (k : RunKey) (x : Booking) → find_booking bs k ≡ Some x → length (without_booking bs k) < length bs
fewer [] k x found = cc
fewer (b ∷ bs) k x found =
    let cases = elim (is_eq (key_cmp b.key k)) as (λ t. cond t (Some b) (find_booking bs k) ≡ Some x → length (cond (not t) (b ∷ without_booking bs k) (without_booking bs k)) < length (b ∷ bs)) [
      | true ↦ λ e. omega (arith, filter_short (λ d. not (is_eq (key_cmp d.key k))) bs)
      | false ↦ λ e. let rest = fewer bs k x e in omega (arith, rest)
    ] in
    cases found
