-- The lanes hold the bookings, also after one goes, comes or is started.
use Rattle.std.proofs.Common.{◌≡◌, ◌∙◌, ◌<◌, ◌≤◌, ◌+◌, ℕ, List, [], ◌∷◌, length, Bool, true, false, cond, not, ◌&&◌, Some, None, refl, sym, ap, subst, arith}
use Rattle.std.specs.List.{AllByRecursion}
use Rattle.std.specs.Ordering.{is_eq, nat_cmp, ordering_reverse, ordering_then}
use Rattle.std.specs.declared.cmp.Ordering.TheVariants.{Less, Equal, Greater}
use Rattle.std.proofs.lemmas.Bool.Decides.{nat_tests}
use Rattle.ps_time.specs.Key.{key_cmp}
use Rattle.ps_time.specs.declared.class.Class.{Class}
use Rattle.ps_time.specs.declared.class.Class.TheVariants.{BackgroundMulti, Background, Normal, Exclusive}
use Rattle.ps_time.specs.declared.key.RunKey.{RunKey}
use Rattle.ps_time.proofs.KeyLemmas.{key_cmp_total, same_key}
use Rattle.host_timeline.specs.declared.booking.Booking.{Booking}
use Rattle.host_timeline.specs.declared.lane.Place.{Place}
use Rattle.host_timeline.specs.Lane.{Lane, Lanes, lane_of, same_class, how_many, place_cmp, place_of, places_of, find_place, with_place, without_place, with_started_place, HoldLanes, HavePlaces, IsEdited}
use Rattle.host_timeline.specs.Timeline.{find_booking, with_booking, without_booking, with_started, started_booking, IsAscendingBookings}
use Rattle.host_timeline.proofs.Tests.{and_false}
use Rattle.host_timeline.proofs.CountLemmas.{count_filter, count_map, count_insert, count_all, count_same, count_less, found_none, none_found}

-- ---- a booking that a key finds is the only one that has it
module _ (k : RunKey) (x : Booking) where
  abbrev pub IsOnly : List Booking → Type 0
  IsOnly bs = AllByRecursion (λ b. is_eq (key_cmp b.key k) ≡ true → b ≡ x) bs

  later_differs : (b : Booking) (bs : List Booking) → key_cmp b.key k ≡ Equal → AllByRecursion (λ d. key_cmp b.key d.key ≡ Less) bs → IsOnly bs
  later_differs b [] same below = tt
  later_differs b (d ∷ ds) same below =
      let above : key_cmp d.key k ≡ Greater = subst (λ j. key_cmp d.key j ≡ Greater) (same_key b.key k same) (key_cmp_total.antisymm d.key b.key ∙ ap ordering_reverse below.0) in
      let no : is_eq (key_cmp d.key k) ≡ false = rw above refl in
      (λ is. cc (is, no), later_differs b ds same below.1)

  pub only : (bs : List Booking) → IsAscendingBookings bs → find_booking bs k ≡ Some x → IsOnly bs
  only [] up found = tt
  only (b ∷ bs) up found =
      let cases = elim (key_cmp b.key k) as (λ c. key_cmp b.key k ≡ c → cond (is_eq c) (Some b) (find_booking bs k) ≡ Some x → (is_eq c ≡ true → b ≡ x) × IsOnly bs) [
        | Less ↦ λ is e. (λ t. cc, only bs up.1 e)
        | Equal ↦ λ is e. (λ t. cc, later_differs b bs is up.0)
        | Greater ↦ λ is e. (λ t. cc, only bs up.1 e)
      ] in
      cases refl found

-- ---- a place is a start and a key
place_eq : (p q : Place) → is_eq (place_cmp p q) ≡ (is_eq (nat_cmp p.start q.start) && is_eq (key_cmp p.key q.key))
place_eq p q = elim (nat_cmp p.start q.start) as (λ c. is_eq (ordering_then c (key_cmp p.key q.key)) ≡ (is_eq c && is_eq (key_cmp p.key q.key))) [ Less ↦ refl | Equal ↦ refl | Greater ↦ refl ]

start_same : (n : ℕ) → is_eq (nat_cmp n n) ≡ true
start_same n = grind (arith, nat_tests)

and_implied : (s t : Bool) → (t ≡ true → s ≡ true) → (s && t) ≡ t
and_implied s true f = rw (f refl) refl
and_implied s false f = and_false s

-- where one booking alone has the key, it alone has its place
place_as_key : (k : RunKey) (x b : Booking) → x.key ≡ k → (is_eq (key_cmp b.key k) ≡ true → b ≡ x) → is_eq (place_cmp (place_of b) (place_of x)) ≡ is_eq (key_cmp b.key k)
place_as_key k x b key alone =
    let start = is_eq (nat_cmp b.interval.start x.interval.start) in
    place_eq (place_of b) (place_of x) ∙ ap (λ j. start && is_eq (key_cmp b.key j)) key
    ∙ and_implied start (is_eq (key_cmp b.key k)) (λ is. subst (λ (d : Booking). is_eq (nat_cmp d.interval.start x.interval.start) ≡ true) (sym (alone is)) (start_same x.interval.start))

all_more : (P Q : Booking → Type 0) → ((b : Booking) → P b → Q b) → (bs : List Booking) → AllByRecursion P bs → AllByRecursion Q bs
all_more P Q f [] all = tt
all_more P Q f (b ∷ bs) all = (f b all.0, all_more P Q f bs all.1)

-- ---- counts of what is left
left_same : (s p t q : Bool) → p ≡ t → (s && (not p && q)) ≡ (not t && (s && q))
left_same s p true q same = rw same (and_false s)
left_same s p false q same = rw same refl

left_other : (s t q : Bool) → (t ≡ true → s ≡ false) → (s && q) ≡ (not t && (s && q))
left_other s true q f = rw (f refl) refl
left_other s false q f = refl

module _ (bs : List Booking) (old new : Lanes) (hold : HoldLanes bs old) where
  -- ---- after one has come
  pub hold_insert : (y : Booking) → IsEdited (λ l. with_place l y) y.class old new → HoldLanes (with_booking bs y) new
  hold_insert y edited = λ c q.
      let list = (lane_of c old).list in
      let passes : Booking → Bool = λ b. same_class c b.class && q b in
      let cases : how_many q (cond (same_class c y.class) (with_place list y) list) ≡ (cond (same_class c y.class && q y) 1 0) + how_many passes bs =
      elim (same_class c y.class) as (λ s. how_many q (cond s (with_place list y) list) ≡ (cond (s && q y) 1 0) + how_many passes bs) [
        | true ↦ count_insert q place_cmp place_of list y ∙ ap (λ n. (cond (q y) 1 0) + n) (hold c q)
        | false ↦ hold c q ∙ omega arith
      ] in
      ap (how_many q) (edited.list c) ∙ cases ∙ sym (count_insert passes key_cmp (λ b. b.key) bs y)

  module _ (k : RunKey) (x : Booking) (key : x.key ≡ k) (alone : IsOnly k x bs) where
    -- ---- after one has gone
    pub hold_remove : IsEdited (λ l. without_place l (place_of x)) x.class old new → HoldLanes (without_booking bs k) new
    hold_remove edited = λ c q.
        let list = (lane_of c old).list in
        let passes : Booking → Bool = λ b. same_class c b.class && q b in
        let kept : Booking → Bool = λ b. not (is_eq (key_cmp b.key k)) && passes b in
        let off : Booking → Bool = λ b. not (is_eq (place_cmp (place_of b) (place_of x))) in
        let cases = elim (same_class c x.class) as (λ s. same_class c x.class ≡ s → how_many q (cond s (without_place list (place_of x)) list) ≡ how_many kept bs) [
          | true ↦ λ is. count_filter q off list ∙ hold c (λ b. off b && q b)
              ∙ count_same (λ b. same_class c b.class && (off b && q b)) kept bs (all_more (λ b. is_eq (key_cmp b.key k) ≡ true → b ≡ x) _ (λ b one. left_same (same_class c b.class) _ (is_eq (key_cmp b.key k)) (q b) (place_as_key k x b key one)) bs alone)
          | false ↦ λ is. hold c q
              ∙ count_same passes kept bs (all_more (λ b. is_eq (key_cmp b.key k) ≡ true → b ≡ x) _ (λ b one. left_other (same_class c b.class) (is_eq (key_cmp b.key k)) (q b) (λ t. subst (λ (d : Booking). same_class c d.class ≡ false) (sym (one t)) is)) bs alone)
        ] in
        ap (how_many q) (edited.list c) ∙ cases refl ∙ sym (count_filter passes (λ b. not (is_eq (key_cmp b.key k))) bs)

    -- ---- after one was started
    started_same : (c : Class) (q : Booking → Bool) (b : Booking) (p t : Bool) → p ≡ t → (same_class c b.class && q (cond p (started_booking b) b)) ≡ (same_class c (cond t (started_booking b) b).class && q (cond t (started_booking b) b))
    started_same c q b p true same = rw same refl
    started_same c q b p false same = rw same refl

    started_other : (c : Class) (q : Booking → Bool) (b : Booking) (t : Bool) → (t ≡ true → same_class c b.class ≡ false) → (same_class c b.class && q b) ≡ (same_class c (cond t (started_booking b) b).class && q (cond t (started_booking b) b))
    started_other c q b true f = rw (f refl) refl
    started_other c q b false f = refl

    pub hold_start : IsEdited (λ l. with_started_place l (place_of x)) x.class old new → HoldLanes (with_started bs k) new
    hold_start edited = λ c q.
        let list = (lane_of c old).list in
        let passes : Booking → Bool = λ b. same_class c b.class && q b in
        let to : Booking → Booking = λ b. cond (is_eq (key_cmp b.key k)) (started_booking b) b in
        let at : Booking → Booking = λ b. cond (is_eq (place_cmp (place_of b) (place_of x))) (started_booking b) b in
        let cases = elim (same_class c x.class) as (λ s. same_class c x.class ≡ s → how_many q (cond s (with_started_place list (place_of x)) list) ≡ how_many (λ b. passes (to b)) bs) [
          | true ↦ λ is. count_map q at list ∙ hold c (λ b. q (at b))
              ∙ count_same (λ b. same_class c b.class && q (at b)) (λ b. passes (to b)) bs (all_more (λ b. is_eq (key_cmp b.key k) ≡ true → b ≡ x) _ (λ b one. started_same c q b _ (is_eq (key_cmp b.key k)) (place_as_key k x b key one)) bs alone)
          | false ↦ λ is. hold c q
              ∙ count_same passes (λ b. passes (to b)) bs (all_more (λ b. is_eq (key_cmp b.key k) ≡ true → b ≡ x) _ (λ b one. started_other c q b (is_eq (key_cmp b.key k)) (λ t. subst (λ (d : Booking). same_class c d.class ≡ false) (sym (one t)) is)) bs alone)
        ] in
        ap (how_many q) (edited.list c) ∙ cases refl ∙ sym (count_map passes to bs)

pub have_edited : (places : ℕ) (edit : List Booking → List Booking) (class : Class) (old new : Lanes) → HavePlaces places old → IsEdited edit class old new → HavePlaces places new
have_edited places edit class old new have edited = λ c. subst (λ n. places ≤ n) (sym (edited.places c)) (have c)

-- ---- there is place for one more
module _ (bs : List Booking) (lanes : Lanes) (hold : HoldLanes bs lanes) where
  lane_fits : (c : Class) → length (lane_of c lanes).list ≤ length bs
  lane_fits c =
      let less = count_less (λ b. same_class c b.class && true) (λ b. true) (λ b is. refl) bs in
      omega (arith, count_all (lane_of c lanes).list, hold c (λ b. true), less, count_all bs)

  pub lane_room : (places : ℕ) (c : Class) → HavePlaces places lanes → length bs < places → 0 < (lane_of c lanes).room
  lane_room places c have more = omega (arith, lane_fits c, have c)

  last_of_three : (s a t : Bool) → (s && (a && t)) ≡ true → t ≡ true
  last_of_three true true t is = is
  last_of_three true false t is = cc
  last_of_three false a t is = cc

  pub lane_new : (b : Booking) → find_booking bs b.key ≡ None → find_place (lane_of b.class lanes).list (place_of b) ≡ None
  lane_new b none =
      let has : Booking → Bool = λ d. is_eq (place_cmp (place_of d) (place_of b)) in
      let key : Booking → Bool = λ d. is_eq (key_cmp d.key b.key) in
      let less : how_many (λ d. same_class b.class d.class && has d) bs ≤ how_many key bs = count_less (λ d. same_class b.class d.class && has d) key (λ d is. last_of_three (same_class b.class d.class) (is_eq (nat_cmp d.interval.start b.interval.start)) (key d) (ap (λ x. same_class b.class d.class && x) (sym (place_eq (place_of d) (place_of b))) ∙ is)) bs in
      let zero : how_many key bs ≡ 0 = found_none key_cmp (λ d. d.key) b.key bs none in
      none_found place_cmp place_of (place_of b) (lane_of b.class lanes).list (omega (arith, hold b.class has, less, zero))

-- ---- an edit of one lane
module _ (edit : List Booking → List Booking) (old : Lanes) (lane : Lane) where
  pub edited_multi : lane.list ≡ edit old.background_multi.list → places_of lane ≡ places_of old.background_multi → IsEdited edit BackgroundMulti old (record old { background_multi = lane })
  edited_multi list places = record {
    list = λ c. elim c as (λ c. (lane_of c (record old { background_multi = lane })).list ≡ cond (same_class c BackgroundMulti) (edit (lane_of c old).list) (lane_of c old).list) [ BackgroundMulti ↦ list | Background ↦ refl | Normal ↦ refl | Exclusive ↦ refl ];
    places = λ c. elim c as (λ c. places_of (lane_of c (record old { background_multi = lane })) ≡ places_of (lane_of c old)) [ BackgroundMulti ↦ places | Background ↦ refl | Normal ↦ refl | Exclusive ↦ refl ];
  }

  pub edited_background : lane.list ≡ edit old.background.list → places_of lane ≡ places_of old.background → IsEdited edit Background old (record old { background = lane })
  edited_background list places = record {
    list = λ c. elim c as (λ c. (lane_of c (record old { background = lane })).list ≡ cond (same_class c Background) (edit (lane_of c old).list) (lane_of c old).list) [ BackgroundMulti ↦ refl | Background ↦ list | Normal ↦ refl | Exclusive ↦ refl ];
    places = λ c. elim c as (λ c. places_of (lane_of c (record old { background = lane })) ≡ places_of (lane_of c old)) [ BackgroundMulti ↦ refl | Background ↦ places | Normal ↦ refl | Exclusive ↦ refl ];
  }

  pub edited_normal : lane.list ≡ edit old.normal.list → places_of lane ≡ places_of old.normal → IsEdited edit Normal old (record old { normal = lane })
  edited_normal list places = record {
    list = λ c. elim c as (λ c. (lane_of c (record old { normal = lane })).list ≡ cond (same_class c Normal) (edit (lane_of c old).list) (lane_of c old).list) [ BackgroundMulti ↦ refl | Background ↦ refl | Normal ↦ list | Exclusive ↦ refl ];
    places = λ c. elim c as (λ c. places_of (lane_of c (record old { normal = lane })) ≡ places_of (lane_of c old)) [ BackgroundMulti ↦ refl | Background ↦ refl | Normal ↦ places | Exclusive ↦ refl ];
  }

  pub edited_exclusive : lane.list ≡ edit old.exclusive.list → places_of lane ≡ places_of old.exclusive → IsEdited edit Exclusive old (record old { exclusive = lane })
  edited_exclusive list places = record {
    list = λ c. elim c as (λ c. (lane_of c (record old { exclusive = lane })).list ≡ cond (same_class c Exclusive) (edit (lane_of c old).list) (lane_of c old).list) [ BackgroundMulti ↦ refl | Background ↦ refl | Normal ↦ refl | Exclusive ↦ list ];
    places = λ c. elim c as (λ c. places_of (lane_of c (record old { exclusive = lane })) ≡ places_of (lane_of c old)) [ BackgroundMulti ↦ refl | Background ↦ refl | Normal ↦ refl | Exclusive ↦ places ];
  }

pub edited_as : (edit : List Booking → List Booking) (class k : Class) (now old new : Lanes) → class ≡ k → old ≡ now → IsEdited edit k old new → IsEdited edit class now new
edited_as edit class k now old new is seen edited = subst (λ c. IsEdited edit c now new) (sym is) (subst (λ o. IsEdited edit k o new) seen edited)
