-- No two bookings conflict, also after one goes, comes or is started.
use Rattle.std.proofs.Common.{◌≡◌, ◌∙◌, ◌&&◌, List, [], ◌∷◌, Bool, true, false, cond, nat_lt, map, refl, ap₂}
use Rattle.std.proofs.Math.Bool.{and_comm}
use Rattle.std.specs.List.{filter}
use Rattle.std.specs.Ordering.{match_ordering, is_eq}
use Rattle.std.specs.declared.cmp.Ordering.TheVariants.{Less, Equal, Greater}
use Rattle.ps_time.specs.declared.class.Class.{Class}
use Rattle.ps_time.specs.declared.class.Class.TheVariants.{BackgroundMulti, Background, Normal, Exclusive}
use Rattle.ps_time.specs.declared.key.RunKey.{RunKey}
use Rattle.ps_time.specs.Class.{conflicting_classes}
use Rattle.ps_time.specs.Key.{key_cmp}
use Rattle.ps_time.specs.Span.{Span}
use Rattle.host_timeline.specs.declared.booking.Booking.{Booking}
use Rattle.host_timeline.specs.Booking.{conflicts_with, conflicting}
use Rattle.host_timeline.specs.Timeline.{with_booking, with_started, started_booking, IsConflictFree}

module _ {X : Type 0} (q : X → Bool) where
  -- where a test lets none through, it lets neither the first through nor one of the others
  pub none_split : (x : X) (xs : List X) → filter q (x ∷ xs) ≡ [] → (q x ≡ false) × (filter q xs ≡ [])
  none_split x xs none =
      let cases = elim (q x) as (λ b. cond b (x ∷ filter q xs) (filter q xs) ≡ [] → (b ≡ false) × (filter q xs ≡ [])) [
        | true ↦ λ e. cc
        | false ↦ λ e. (refl, e)
      ] in
      cases none

  pub none_join : (x : X) (xs : List X) → q x ≡ false → filter q xs ≡ [] → filter q (x ∷ xs) ≡ []
  none_join x xs here none = rw here none

  pub none_filter : (p : X → Bool) (xs : List X) → filter q xs ≡ [] → filter q (filter p xs) ≡ []
  none_filter p [] none = refl
  none_filter p (x ∷ xs) none =
      let parts = none_split x xs none in
      elim (p x) as (λ b. filter q (cond b (x ∷ filter p xs) (filter p xs)) ≡ []) [
        | true ↦ none_join x (filter p xs) parts.0 (none_filter p xs parts.1)
        | false ↦ none_filter p xs parts.1
      ]

  pub none_map : (f : X → X) (same : (x : X) → q (f x) ≡ q x) (xs : List X) → filter q xs ≡ [] → filter q (map f xs) ≡ []
  none_map f same [] none = refl
  none_map f same (x ∷ xs) none =
      let parts = none_split x xs none in
      none_join (f x) (map f xs) (same x ∙ parts.0) (none_map f same xs parts.1)

classes_same : (a b : Class) → conflicting_classes a b ≡ conflicting_classes b a
classes_same BackgroundMulti BackgroundMulti = refl
classes_same Background Background = refl
classes_same Normal Normal = refl
classes_same Exclusive Exclusive = refl
classes_same _ _ = refl

-- to conflict is mutual
conflict_same : (a b : Booking) → conflicts_with a.class a.interval b ≡ conflicts_with b.class b.interval a
conflict_same a b = ap₂ (λ x y. x && y) (classes_same a.class b.class) (and_comm (nat_lt a.interval.start b.interval.end) (nat_lt b.interval.start a.interval.end))

pub free_filter : (p : Booking → Bool) (bs : List Booking) → IsConflictFree bs → IsConflictFree (filter p bs)
free_filter p [] free = tt
free_filter p (b ∷ bs) free =
    elim (p b) as (λ x. IsConflictFree (cond x (b ∷ filter p bs) (filter p bs))) [
      | true ↦ (none_filter (conflicts_with b.class b.interval) p bs free.0, free_filter p bs free.1)
      | false ↦ free_filter p bs free.1
    ]

none_insert : (q : Booking → Bool) (bs : List Booking) (y : Booking) → filter q bs ≡ [] → q y ≡ false → filter q (with_booking bs y) ≡ []
none_insert q [] y none here = none_join q y [] here refl
none_insert q (b ∷ bs) y none here =
    let parts = none_split q b bs none in
    let rest = with_booking bs y in
    let later = none_join q b rest parts.0 (none_insert q bs y parts.1 here) in
    elim (key_cmp b.key y.key) as (λ c. filter q (match_ordering c (b ∷ rest) (b ∷ rest) (y ∷ b ∷ bs)) ≡ []) [
      | Less ↦ later
      | Equal ↦ later
      | Greater ↦ none_join q y (b ∷ bs) here none
    ]

pub free_insert : (bs : List Booking) (y : Booking) → IsConflictFree bs → conflicting y.class y.interval bs ≡ [] → IsConflictFree (with_booking bs y)
free_insert [] y free none = (refl, tt)
free_insert (b ∷ bs) y free none =
    let parts = none_split (conflicts_with y.class y.interval) b bs none in
    let rest = with_booking bs y in
    let later : IsConflictFree (b ∷ rest) = (none_insert (conflicts_with b.class b.interval) bs y free.0 (conflict_same b y ∙ parts.0), free_insert bs y free.1 parts.1) in
    elim (key_cmp b.key y.key) as (λ c. IsConflictFree (match_ordering c (b ∷ rest) (b ∷ rest) (y ∷ b ∷ bs))) [
      | Less ↦ later
      | Equal ↦ later
      | Greater ↦ (none, free)
    ]

-- a started booking keeps its class and interval
pub free_start : (bs : List Booking) (k : RunKey) → IsConflictFree bs → IsConflictFree (with_started bs k)
free_start [] k free = tt
free_start (b ∷ bs) k free =
    let same_test : (c : Class) (i : Span) (d : Booking) → conflicts_with c i (cond (is_eq (key_cmp d.key k)) (started_booking d) d) ≡ conflicts_with c i d =
    λ c i d. elim (is_eq (key_cmp d.key k)) as (λ x. conflicts_with c i (cond x (started_booking d) d) ≡ conflicts_with c i d) [ true ↦ refl | false ↦ refl ] in
    let rest = with_started bs k in
    let none : conflicting b.class b.interval rest ≡ [] = none_map (conflicts_with b.class b.interval) (λ d. cond (is_eq (key_cmp d.key k)) (started_booking d) d) (same_test b.class b.interval) bs free.0 in
    (elim (is_eq (key_cmp b.key k)) as (λ x. conflicting (cond x (started_booking b) b).class (cond x (started_booking b) b).interval rest ≡ []) [ true ↦ none | false ↦ none ], free_start bs k free.1)
