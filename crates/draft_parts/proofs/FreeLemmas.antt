-- What rows reserve that lie over those of a book: gathered, they are what the rows of now reserve.
use Rattle.std.specs.Prelude.{find, IfSome}
use Rattle.std.specs.List.{AllByRecursion, list_all, range_with_len}
use Rattle.std.specs.Option.{is_none}
use Rattle.std.specs.Ordering.{int_cmp, is_eq, is_lt, match_ordering}
use Rattle.std.specs.declared.cmp.Ordering.{Ordering}
use Rattle.std.specs.declared.cmp.Ordering.TheVariants.{Less, Equal, Greater}
use Rattle.std.proofs.Common.{◌≡◌, ◌≢◌, ◌≤◌, ◌<◌, ◌-◌, ℕ, zero, suc, ℤ, Bool, true, false, cond, not, ◌&&◌, ◌||◌, ◌++◌, ◌+◌, nat_lt, arith, List, [], ◌∷◌, filter, Option, Some, None, is_some, option_map, unwrap_or, refl, ap, ap₂, sym, subst, take, ◌∙◌}
use Rattle.std.proofs.lemmas.Bool.Decides.{nat_tests}
use Rattle.ps_time.specs.Class.{clash, conflicting_classes}
use Rattle.ps_time.specs.Key.{key_cmp}
use Rattle.ps_time.specs.Numbers.{most_intervals, on_deck}
use Rattle.ps_time.specs.Span.{Range, Span, overlap, span_of}
use Rattle.ps_time.specs.Starts.{gathered as gathered_starts, tier_of}
use Rattle.ps_time.specs.declared.class.Class.{Class}
use Rattle.ps_time.specs.declared.key.RunKey.{RunKey}
use Rattle.plugin_core.specs.TestSpec.{test_class}
use Rattle.run_states.specs.declared.row.RunRow.{RunRow}
use Rattle.run_states.specs.Conflict.{blocks, clashes}
use Rattle.run_states.specs.Life.{first_there, is_booked}
use Rattle.run_states.specs.Preemption.{starts_after, yields}
use Rattle.run_states.specs.Rows.{find_row, IsAscendingRows}
use Rattle.host_timeline.specs.Booking.{can_preempt, conflicting, conflicts_with, firm_from_of}
use Rattle.host_timeline.specs.Free.{free_tiers as free_among, is_free, is_freeable}
use Rattle.host_timeline.specs.Timeline.{find_booking, with_booking}
use Rattle.host_timeline.specs.declared.booking.Booking.{Booking}
use Rattle.part_core.specs.Reservations.{booking_of, bookings_of, reserved, with_some}
use Rattle.host_model.specs.FreeStarts.{free_tiers, is_free as is_free_row, is_freeable as is_freeable_row}
use Rattle.host_model.specs.Lawful.{NoClash}
use Rattle.host_model.proofs.Keyed.{key_is, key_of}
use Rattle.host_rows.proofs.RowLemmas.{each_found}
use Rattle.draft_parts.specs.Overlay.{Takes, bare_bookings, booked, gathered, hides, is_near, named, near_bookings, near_gathered, over, reach_of}
use Rattle.draft_parts.proofs.PickLemmas.{earlier, find_over, is_less, less_order}

-- ---- tests of all
all_joined : {X : Type 0} (q : X → Bool) (xs ys : List X) → list_all q (xs ++ ys) ≡ (list_all q xs && list_all q ys)
all_joined q [] ys = refl
all_joined q (x ∷ xs) ys = ap (λ b. q x && b) (all_joined q xs ys) ∙ grouped (q x) (list_all q xs) (list_all q ys)
  where
    grouped : (a b c : Bool) → (a && (b && c)) ≡ ((a && b) && c)
    grouped true b c = refl
    grouped false b c = refl

module _ (q : Booking → Bool) where
  turned : (a b c : Bool) → (a && (b && c)) ≡ (b && (a && c))
  turned true b c = refl
  turned false true c = refl
  turned false false c = refl

  all_put : (ts : List Booking) (b : Booking) → list_all q (with_booking ts b) ≡ (q b && list_all q ts)
  all_put [] b = refl
  all_put (t ∷ ts) b = go (key_cmp t.key b.key) (ap (λ x. q t && x) (all_put ts b) ∙ turned (q t) (q b) (list_all q ts))
    where
      go : (c : Ordering) → (q t && list_all q (with_booking ts b)) ≡ (q b && (q t && list_all q ts))
          → list_all q (match_ordering c (t ∷ with_booking ts b) (t ∷ with_booking ts b) (b ∷ t ∷ ts)) ≡ (q b && (q t && list_all q ts))
      go Less later = later
      go Equal later = later
      go Greater later = refl

  -- taking in changes only the order
  all_booked : (bs ts : List Booking) → list_all q (booked bs ts) ≡ (list_all q bs && list_all q ts)
  all_booked [] ts = refl
  all_booked (b ∷ bs) ts = all_booked bs (with_booking ts b) ∙ (ap (λ x. list_all q bs && x) (all_put ts b) ∙ swapped (list_all q bs) (q b) (list_all q ts))
    where
      swapped : (a b c : Bool) → (a && (b && c)) ≡ ((b && a) && c)
      swapped true true c = refl
      swapped true false c = refl
      swapped false true c = refl
      swapped false false c = refl

  -- what the row reserves passes, if there is such
  abbrev holds_in : Option Booking → Bool
  holds_in None = true
  holds_in (Some b) = q b

  abbrev holds : RunRow → Bool
  holds r = holds_in (booking_of r)

  some_all : (o : Option Booking) (bs : List Booking) → list_all q (with_some o bs) ≡ (holds_in o && list_all q bs)
  some_all None bs = refl
  some_all (Some b) bs = refl

  rows_all : (rows : List RunRow) → list_all q (bookings_of rows) ≡ list_all holds rows
  rows_all [] = refl
  rows_all (r ∷ rs) = some_all (booking_of r) (bookings_of rs) ∙ ap (λ x. holds r && x) (rows_all rs)

-- ---- a reservation has the key of its row
abbrev HasKey : RunKey → Option Booking → Type 0
HasKey k None = Unit {0}
HasKey k (Some b) = b.key ≡ k

reserved_key : (r : RunRow) (b : Bool) (o : Option Span) → HasKey r.key (cond b (reserved r o) None)
reserved_key r false o = tt
reserved_key r true None = tt
reserved_key r true (Some s) = refl

own_key : (r : RunRow) → HasKey r.key (booking_of r)
own_key r = reserved_key r (is_booked r) r.interval

-- ---- what a row reserves
record Reserves (r : RunRow) (b : Booking) : Type 0 where
  pub booked : is_booked r ≡ true
  pub interval : r.interval ≡ Some b.interval
  pub class : b.class ≡ test_class r.test

reserves : (r : RunRow) (b : Booking) → booking_of r ≡ Some b → Reserves r b
reserves r b e = go (is_booked r) r.interval refl refl e
  where
    go : (t : Bool) (o : Option Span) → is_booked r ≡ t → r.interval ≡ o → cond t (reserved r o) None ≡ Some b → Reserves r b
    go false o f g is = cc
    go true None f g is = cc
    go true (Some s) f g is = record { booked = f; interval = g ∙ ap Some (interval_is s is); class = class_is s is }
      where
        interval_is : (s : Span) → reserved r (Some s) ≡ Some b → s ≡ b.interval
        interval_is s is = ap (λ o. unwrap_or (option_map (λ (x : Booking). x.interval) o) s) is

        class_is : (s : Span) → reserved r (Some s) ≡ Some b → b.class ≡ test_class r.test
        class_is s is = sym (ap (λ o. unwrap_or (option_map (λ (x : Booking). x.class) o) (test_class r.test)) is)

-- ---- rows that lie over others
module _ (now touched : List RunRow) (gone : List RunKey) (book : List RunRow) (up : IsAscendingRows now) (above_up : IsAscendingRows touched) (below_up : IsAscendingRows book)
    (found : (k : RunKey) → find_row now k ≡ over touched gone book k) where
  module _ (p : RunRow → Bool) where
    abbrev fails : RunRow → Bool
    fails r = not (p r)

    abbrev bare_fails : RunRow → Bool
    bare_fails r = not (p r) && not (hides touched gone r.key)

    all_none : (rows : List RunRow) → list_all p rows ≡ is_none (find fails rows)
    all_none [] = refl
    all_none (r ∷ rs) = go (p r) (all_none rs)
      where
        go : (b : Bool) → list_all p rs ≡ is_none (find fails rs) → (b && list_all p rs) ≡ is_none (cond (not b) (Some r) (find fails rs))
        go true later = later
        go false later = refl

    none_bare : (rows : List RunRow) → is_none (find bare_fails rows) ≡ list_all (λ r. hides touched gone r.key || p r) rows
    none_bare [] = refl
    none_bare (r ∷ rs) = go (p r) (hides touched gone r.key) (none_bare rs)
      where
        go : (b h : Bool) → is_none (find bare_fails rs) ≡ list_all (λ x. hides touched gone x.key || p x) rs → is_none (cond (not b && not h) (Some r) (find bare_fails rs)) ≡ ((h || b) && list_all (λ x. hides touched gone x.key || p x) rs)
        go true true later = later
        go true false later = later
        go false true later = later
        go false false later = refl

    none_earlier : (x y : Option RunRow) → is_none (earlier is_less less_order x y) ≡ (is_none x && is_none y)
    none_earlier None y = refl
    none_earlier (Some r) None = refl
    none_earlier (Some r) (Some s) = elim (is_less s.key r.key) as (λ c. is_none (cond c (Some s) (Some r)) ≡ false) [ true ↦ refl | false ↦ refl ]

    all_over : list_all p now ≡ (list_all p touched && list_all (λ r. hides touched gone r.key || p r) book)
    all_over =
        all_none now
        ∙ (ap is_none (find_over now touched gone book up above_up below_up found fails)
        ∙ (none_earlier (find fails touched) (find bare_fails book)
        ∙ ap₂ (λ a b. a && b) (sym (all_none touched)) (none_bare book)))

  -- what is gathered
  abbrev gathered_now : List Booking
  gathered_now = gathered touched gone (bookings_of book)

  module _ (q : Booking → Bool) where
    bare_one : (r : RunRow) (o : Option Booking) (bs : List Booking) → HasKey r.key o → list_all q (bare_bookings touched gone (with_some o bs)) ≡ ((hides touched gone r.key || holds_in q o) && list_all q (bare_bookings touched gone bs))
    bare_one r None bs has = go (hides touched gone r.key)
      where
        go : (h : Bool) → list_all q (bare_bookings touched gone bs) ≡ ((h || true) && list_all q (bare_bookings touched gone bs))
        go true = refl
        go false = refl
    bare_one r (Some b) bs has = ap (λ k. list_all q (cond (not (hides touched gone k)) (b ∷ bare_bookings touched gone bs) (bare_bookings touched gone bs))) has ∙ go (hides touched gone r.key)
      where
        go : (h : Bool) → list_all q (cond (not h) (b ∷ bare_bookings touched gone bs) (bare_bookings touched gone bs)) ≡ ((h || q b) && list_all q (bare_bookings touched gone bs))
        go true = refl
        go false = refl

    bare_all : (rows : List RunRow) → list_all q (bare_bookings touched gone (bookings_of rows)) ≡ list_all (λ r. hides touched gone r.key || holds q r) rows
    bare_all [] = refl
    bare_all (r ∷ rs) = bare_one r (booking_of r) (bookings_of rs) (own_key r) ∙ ap (λ x. (hides touched gone r.key || holds q r) && x) (bare_all rs)

    and_turned : (a b : Bool) → (a && b) ≡ (b && a)
    and_turned true true = refl
    and_turned true false = refl
    and_turned false true = refl
    and_turned false false = refl

    and_true : (a : Bool) → (a && true) ≡ a
    and_true true = refl
    and_true false = refl

    -- what all that is gathered passes, all that is reserved now passes
    all_gathered : list_all q (booked gathered_now []) ≡ list_all q (bookings_of now)
    all_gathered =
        all_booked q gathered_now []
        ∙ (and_true (list_all q gathered_now)
        ∙ (all_joined q (bare_bookings touched gone (bookings_of book)) (bookings_of touched)
        ∙ (ap₂ (λ a b. a && b) (bare_all book) (rows_all q touched)
        ∙ (and_turned (list_all (λ r. hides touched gone r.key || holds q r) book) (list_all (holds q) touched)
        ∙ (sym (all_over (holds q)) ∙ sym (rows_all q now))))))

  -- ---- the tests of starts
  firm_is : (m start : ℕ) (started : Bool) → nat_lt m (firm_from_of start started) ≡ (not started && nat_lt (m + on_deck) start)
  firm_is m start true = grind (arith, nat_tests)
  firm_is m start false = grind (arith, nat_tests)

  free_row : (class : Class) (i : Span) (r : RunRow) (booked : Bool) (o : Option Span) → holds_in (λ b. not (conflicts_with class i b)) (cond booked (reserved r o) None) ≡ not (booked && clashes class i (test_class r.test) o)
  free_row class i r false o = refl
  free_row class i r true None = refl
  free_row class i r true (Some s) = refl

  way_row : (class : Class) (i : Span) (priority : ℤ) (m : ℕ) (r : RunRow) (booked : Bool) (o : Option Span) → r.interval ≡ o
      → holds_in (λ b. not (conflicts_with class i b) || can_preempt priority m b) (cond booked (reserved r o) None) ≡ (not (booked && clashes class i (test_class r.test) o) || yields priority m r)
  way_row class i priority m r false o at = refl
  way_row class i priority m r true None at = refl
  way_row class i priority m r true (Some s) at =
      ap (λ b. not (clash class i (test_class r.test) s) || (is_lt (int_cmp r.priority priority) && b)) (firm_is m s.start (is_some r.started) ∙ sym (ap (λ o. not (is_some r.started) && starts_after (m + on_deck) o) at))

  all_alike : (f g : RunRow → Bool) → ((r : RunRow) → f r ≡ g r) → (rows : List RunRow) → list_all f rows ≡ list_all g rows
  all_alike f g same [] = refl
  all_alike f g same (r ∷ rs) = ap₂ (λ a b. a && b) (same r) (all_alike f g same rs)

  free_at : (class : Class) (len s : ℕ) → list_all (λ b. not (conflicts_with class (span_of s len) b)) (booked gathered_now []) ≡ is_free_row now class len s
  free_at class len s =
      all_gathered (λ b. not (conflicts_with class (span_of s len) b))
      ∙ (rows_all (λ b. not (conflicts_with class (span_of s len) b)) now
      ∙ all_alike (holds (λ b. not (conflicts_with class (span_of s len) b))) (λ r. not (blocks class (span_of s len) r)) (λ r. free_row class (span_of s len) r (is_booked r) r.interval) now)

  freeable_at : (class : Class) (len : ℕ) (priority : ℤ) (m s : ℕ) → list_all (λ b. not (conflicts_with class (span_of s len) b) || can_preempt priority m b) (booked gathered_now []) ≡ is_freeable_row now m class len priority s
  freeable_at class len priority m s =
      all_gathered (λ b. not (conflicts_with class (span_of s len) b) || can_preempt priority m b)
      ∙ (rows_all (λ b. not (conflicts_with class (span_of s len) b) || can_preempt priority m b) now
      ∙ all_alike (holds (λ b. not (conflicts_with class (span_of s len) b) || can_preempt priority m b)) (λ r. not (blocks class (span_of s len) r) || yields priority m r) (λ r. way_row class (span_of s len) priority m r (is_booked r) r.interval refl) now)

  -- ---- each can be taken in
  -- a row of now reserves this
  abbrev Current : Booking → Type 0
  Current b = (r : RunRow) × (find_row now b.key ≡ Some r) × (booking_of r ≡ Some b)

  -- two with different keys don't conflict
  apart_now : NoClash now → (b c : Booking) → Current b → Current c → b.key ≢ c.key → conflicts_with b.class b.interval c ≡ false
  apart_now none b c x y other =
      let u : Reserves x.0 b = reserves x.0 b x.2 in
      let v : Reserves y.0 c = reserves y.0 c y.2 in
      ap₂ (λ s t. clash s b.interval t c.interval) u.class v.class ∙ none b.key c.key x.0 y.0 b.interval c.interval other x.1 y.1 u.booked v.booked u.interval v.interval

  abbrev Other : Booking → Booking → Type 0
  Other b c = is_eq (key_cmp c.key b.key) ≡ false

  other_key : (b c : Booking) → Other b c → b.key ≢ c.key
  other_key b c e same = let never : true ≡ false = sym (key_of c.key b.key (sym same)) ∙ e in cc

  none_conflicts : NoClash now → (b : Booking) (ts : List Booking) → Current b → AllByRecursion Current ts → AllByRecursion (Other b) ts → conflicting b.class b.interval ts ≡ []
  none_conflicts none b [] here all others = refl
  none_conflicts none b (t ∷ ts) here all others =
      ap₂ (λ x l. cond x (t ∷ l) l) (apart_now none b t here all.0 (other_key b t others.0)) (none_conflicts none b ts here all.1 others.1)

  none_found : (b : Booking) (ts : List Booking) → AllByRecursion (Other b) ts → find_booking ts b.key ≡ None
  none_found b [] others = refl
  none_found b (t ∷ ts) others = ap₂ (λ x o. cond x (Some t) o) others.0 (none_found b ts others.1)

  put_all : (P : Booking → Type 0) (b : Booking) (ts : List Booking) → P b → AllByRecursion P ts → AllByRecursion P (with_booking ts b)
  put_all P b [] here all = (here, tt)
  put_all P b (t ∷ ts) here all = go (key_cmp t.key b.key) (put_all P b ts here all.1)
    where
      go : (c : Ordering) → AllByRecursion P (with_booking ts b) → AllByRecursion P (match_ordering c (t ∷ with_booking ts b) (t ∷ with_booking ts b) (b ∷ t ∷ ts))
      go Less later = (all.0, later)
      go Equal later = (all.0, later)
      go Greater later = (here, all)

  -- each has another key than those after it
  abbrev AreOthers : List Booking → Type 0
  AreOthers [] = Unit {0}
  AreOthers (b ∷ bs) = AllByRecursion (λ c. Other c b) bs × AreOthers bs

  put_others : (b : Booking) (bs ts : List Booking) → AllByRecursion (λ c. Other c b) bs → AllByRecursion (λ c. AllByRecursion (Other c) ts) bs → AllByRecursion (λ c. AllByRecursion (Other c) (with_booking ts b)) bs
  put_others b [] ts here all = tt
  put_others b (c ∷ cs) ts here all = (put_all (Other c) b ts here.0 all.0, put_others b cs ts here.1 all.1)

  takes : NoClash now → (bs ts : List Booking) → AllByRecursion Current bs → AllByRecursion Current ts → AreOthers bs → AllByRecursion (λ c. AllByRecursion (Other c) ts) bs → Takes bs ts
  takes none [] ts all taken others apart = tt
  takes none (b ∷ bs) ts all taken others apart = (
    none_found b ts apart.0,
    none_conflicts none b ts all.0 taken apart.0,
    takes none bs (with_booking ts b) all.1 (put_all Current b ts all.0 taken) others.1 (put_others b bs ts others.0 apart.1),
  )

  -- ---- what is gathered is reserved now
  some_current : (r : RunRow) (o : Option Booking) (bs : List Booking) → booking_of r ≡ o → HasKey r.key o → find_row now r.key ≡ Some r → AllByRecursion Current bs → AllByRecursion Current (with_some o bs)
  some_current r None bs e has at all = all
  some_current r (Some b) bs e has at all = ((r, ap (find_row now) has ∙ at, e), all)

  touched_current : (rows : List RunRow) → AllByRecursion (λ r. find_row touched r.key ≡ Some r) rows → AllByRecursion Current (bookings_of rows)
  touched_current [] at = tt
  touched_current (r ∷ rs) at = some_current r (booking_of r) (bookings_of rs) refl (own_key r) (found r.key ∙ ap (λ o. first_there o (cond (named r.key gone) None (find_row book r.key))) at.0) (touched_current rs at.1)

  bare_found : (r : RunRow) → find_row book r.key ≡ Some r → hides touched gone r.key ≡ false → find_row now r.key ≡ Some r
  bare_found r at bare = go (find_row touched r.key) (named r.key gone) refl refl bare
    where
      go : (o : Option RunRow) (g : Bool) → find_row touched r.key ≡ o → named r.key gone ≡ g → (is_some o || g) ≡ false → find_row now r.key ≡ Some r
      go (Some x) g e f h = cc
      go None true e f h = cc
      go None false e f h = found r.key ∙ (ap₂ (λ o t. first_there o (cond t None (find_row book r.key))) e f ∙ at)

  bare_current : (rows : List RunRow) → AllByRecursion (λ r. find_row book r.key ≡ Some r) rows → AllByRecursion Current (bare_bookings touched gone (bookings_of rows))
  bare_current [] at = tt
  bare_current (r ∷ rs) at = go (booking_of r) refl (own_key r) (bare_current rs at.1)
    where
      go : (o : Option Booking) → booking_of r ≡ o → HasKey r.key o → AllByRecursion Current (bare_bookings touched gone (bookings_of rs)) → AllByRecursion Current (bare_bookings touched gone (with_some o (bookings_of rs)))
      go None e has later = later
      go (Some b) e has later = one (hides touched gone b.key) refl
        where
          one : (h : Bool) → hides touched gone b.key ≡ h → AllByRecursion Current (cond (not h) (b ∷ bare_bookings touched gone (bookings_of rs)) (bare_bookings touched gone (bookings_of rs)))
          one true f = later
          one false f = ((r, ap (find_row now) has ∙ bare_found r at.0 (sym (ap (hides touched gone) has) ∙ f), e), later)

  both_all : (P : Booking → Type 0) (xs ys : List Booking) → AllByRecursion P xs → AllByRecursion P ys → AllByRecursion P (xs ++ ys)
  both_all P [] ys f g = g
  both_all P (x ∷ xs) ys f g = (f.0, both_all P xs ys f.1 g)

  -- ---- keys are different
  less_other : (k : RunKey) (rows : List RunRow) → AllByRecursion (λ y. key_cmp k y.key ≡ Less) rows → AllByRecursion (λ c. is_eq (key_cmp k c.key) ≡ false) (bookings_of rows)
  less_other k [] low = tt
  less_other k (r ∷ rs) low = go (booking_of r) (own_key r) (less_other k rs low.1)
    where
      go : (o : Option Booking) → HasKey r.key o → AllByRecursion (λ c. is_eq (key_cmp k c.key) ≡ false) (bookings_of rs) → AllByRecursion (λ c. is_eq (key_cmp k c.key) ≡ false) (with_some o (bookings_of rs))
      go None has later = later
      go (Some b) has later = (ap (λ j. is_eq (key_cmp k j)) has ∙ ap is_eq low.0, later)

  rows_others : (rows : List RunRow) → IsAscendingRows rows → AreOthers (bookings_of rows)
  rows_others [] u = tt
  rows_others (r ∷ rs) u = go (booking_of r) (own_key r) (less_other r.key rs u.0) (rows_others rs u.1)
    where
      go : (o : Option Booking) → HasKey r.key o → AllByRecursion (λ c. is_eq (key_cmp r.key c.key) ≡ false) (bookings_of rs) → AreOthers (bookings_of rs) → AreOthers (with_some o (bookings_of rs))
      go None has above later = later
      go (Some b) has above later = (subst (λ k. AllByRecursion (λ c. is_eq (key_cmp k c.key) ≡ false) (bookings_of rs)) (sym has) above, later)

  filter_all : (P : Booking → Type 0) (f : Booking → Bool) (xs : List Booking) → AllByRecursion P xs → AllByRecursion P (filter f xs)
  filter_all P f [] all = tt
  filter_all P f (x ∷ xs) all = elim (f x) as (λ b. AllByRecursion P (cond b (x ∷ filter f xs) (filter f xs))) [
    | true ↦ (all.0, filter_all P f xs all.1)
    | false ↦ filter_all P f xs all.1
  ]

  filter_others : (f : Booking → Bool) (xs : List Booking) → AreOthers xs → AreOthers (filter f xs)
  filter_others f [] all = tt
  filter_others f (x ∷ xs) all = elim (f x) as (λ b. AreOthers (cond b (x ∷ filter f xs) (filter f xs))) [
    | true ↦ (filter_all (λ c. Other c x) f xs all.0, filter_others f xs all.1)
    | false ↦ filter_others f xs all.1
  ]

  joined_others : (xs ys : List Booking) → AreOthers xs → AreOthers ys → AllByRecursion (λ x. AllByRecursion (λ c. Other c x) ys) xs → AreOthers (xs ++ ys)
  joined_others [] ys f g apart = g
  joined_others (x ∷ xs) ys f g apart = (both_all (λ c. Other c x) xs ys f.0 apart.0, joined_others xs ys f.1 g apart.1)

  -- what isn't hidden has another key than what is touched
  open_other : (k : RunKey) → hides touched gone k ≡ false → (rows : List RunRow) → AllByRecursion (λ r. find_row touched r.key ≡ Some r) rows → AllByRecursion (λ c. is_eq (key_cmp k c.key) ≡ false) (bookings_of rows)
  open_other k bare [] at = tt
  open_other k bare (r ∷ rs) at = go (booking_of r) (own_key r) (open_other k bare rs at.1)
    where
      other : is_eq (key_cmp k r.key) ≡ false
      other = one (is_eq (key_cmp k r.key)) refl
        where
          one : (b : Bool) → is_eq (key_cmp k r.key) ≡ b → b ≡ false
          one false e = refl
          one true e =
              let there : find_row touched k ≡ Some r = subst (λ j. find_row touched j ≡ Some r) (sym (key_is k r.key e)) at.0 in
              sym (ap (λ o. is_some o || named k gone) there) ∙ bare

      go : (o : Option Booking) → HasKey r.key o → AllByRecursion (λ c. is_eq (key_cmp k c.key) ≡ false) (bookings_of rs) → AllByRecursion (λ c. is_eq (key_cmp k c.key) ≡ false) (with_some o (bookings_of rs))
      go None has later = later
      go (Some b) has later = (ap (λ j. is_eq (key_cmp k j)) has ∙ other, later)

  cross : (xs : List Booking) → AllByRecursion (λ x. AllByRecursion (λ c. Other c x) (bookings_of touched)) (bare_bookings touched gone xs)
  cross [] = tt
  cross (x ∷ xs) = go (hides touched gone x.key) refl (cross xs)
    where
      go : (h : Bool) → hides touched gone x.key ≡ h → AllByRecursion (λ y. AllByRecursion (λ c. Other c y) (bookings_of touched)) (bare_bookings touched gone xs)
          → AllByRecursion (λ y. AllByRecursion (λ c. Other c y) (bookings_of touched)) (cond (not h) (x ∷ bare_bookings touched gone xs) (bare_bookings touched gone xs))
      go true e later = later
      go false e later = (open_other x.key e touched (each_found touched above_up), later)

  none_apart : (bs : List Booking) → AllByRecursion (λ c. AllByRecursion (Other c) []) bs
  none_apart [] = tt
  none_apart (b ∷ bs) = (tt, none_apart bs)

  -- ---- what is near decides
  near_yes : (a : Bool) → (a && true) ≡ a
  near_yes true = refl
  near_yes false = refl

  near_no : (a : Bool) → (a && false) ≡ false
  near_no true = refl
  near_no false = refl

  near_twice : (g n : Booking → Bool) (xs : List Booking) → filter (λ b. n b && g b) xs ≡ filter n (filter g xs)
  near_twice g n [] = refl
  near_twice g n (x ∷ xs) = elim (g x) as (λ b. cond (n x && b) (x ∷ filter (λ y. n y && g y) xs) (filter (λ y. n y && g y) xs) ≡ filter n (cond b (x ∷ filter g xs) (filter g xs))) [
    | true ↦ ap₂ (λ t l. cond t (x ∷ l) l) (near_yes (n x)) (near_twice g n xs)
    | false ↦ ap (λ t. cond t (x ∷ filter (λ y. n y && g y) xs) (filter (λ y. n y && g y) xs)) (near_no (n x)) ∙ near_twice g n xs
  ]

  near_all : (q g n : Booking → Bool) → ((b : Booking) → n b ≡ false → q b ≡ true) → (xs : List Booking) → list_all q (filter (λ b. n b && g b) xs) ≡ list_all q (filter g xs)
  near_all q g n far [] = refl
  near_all q g n far (x ∷ xs) = go (g x) (n x) refl (near_all q g n far xs)
    where
      go : (a b : Bool) → n x ≡ b → list_all q (filter (λ y. n y && g y) xs) ≡ list_all q (filter g xs) → list_all q (cond (b && a) (x ∷ filter (λ y. n y && g y) xs) (filter (λ y. n y && g y) xs)) ≡ list_all q (cond a (x ∷ filter g xs) (filter g xs))
      go false true e later = later
      go false false e later = later
      go true true e later = ap (λ c. q x && c) later
      go true false e later = later ∙ sym (ap (λ c. c && list_all q (filter g xs)) (far x e))

  module _ (class : Class) (reach : Option Span) where
    abbrev near_now : List Booking
    near_now = near_gathered class reach touched gone (bookings_of book)

    abbrev bare : Booking → Bool
    bare b = not (hides touched gone b.key)

    near_is : near_bookings class reach touched gone (bookings_of book) ≡ filter (is_near class reach) (bare_bookings touched gone (bookings_of book))
    near_is = near_twice bare (is_near class reach) (bookings_of book)

    -- it can be taken in
    pub takes_near : NoClash now → (list : List Booking) → list ≡ near_now → Takes list []
    takes_near none list is =
        let all : List Booking = bare_bookings touched gone (bookings_of book) in
        let near : List Booking = filter (is_near class reach) all in
        let own : near_now ≡ near ++ bookings_of touched = ap (λ l. l ++ bookings_of touched) near_is in
        let current = both_all Current near (bookings_of touched) (filter_all Current (is_near class reach) all (bare_current book (each_found book below_up))) (touched_current touched (each_found touched above_up)) in
        let others = joined_others near (bookings_of touched) (filter_others (is_near class reach) all (filter_others bare (bookings_of book) (rows_others book below_up))) (rows_others touched above_up)
        (filter_all (λ x. AllByRecursion (λ c. Other c x) (bookings_of touched)) (is_near class reach) all (cross (bookings_of book))) in
        subst (λ l. Takes l []) (sym (is ∙ own)) (takes none (near ++ bookings_of touched) [] current tt others (none_apart (near ++ bookings_of touched)))

    -- what lets all through that isn't near is decided by it
    near_decides : (q : Booking → Bool) → ((b : Booking) → is_near class reach b ≡ false → q b ≡ true) → list_all q (booked near_now []) ≡ list_all q (bookings_of now)
    near_decides q far =
        all_booked q near_now []
        ∙ (and_true q (list_all q near_now)
        ∙ (all_joined q (near_bookings class reach touched gone (bookings_of book)) (bookings_of touched)
        ∙ (ap (λ a. a && list_all q (bookings_of touched)) (near_all q bare (is_near class reach) far (bookings_of book))
        ∙ (sym (all_joined q (bare_bookings touched gone (bookings_of book)) (bookings_of touched))
        ∙ (sym (and_true q (list_all q gathered_now))
        ∙ (sym (all_booked q gathered_now []) ∙ all_gathered q))))))

  -- ---- the starts that are free beside it
  in_reach : (s len first last start end : ℕ) → first ≤ s → s < last + 1 → (nat_lt first end && nat_lt start (last + len + 1)) ≡ false → (nat_lt s end && nat_lt start (s + len)) ≡ false
  in_reach s len first last start end low high far = grind (arith, nat_tests)

  no_clash_far : (a b c : Bool) → (a && b) ≡ false → (b ≡ false → c ≡ false) → (a && c) ≡ false
  no_clash_far true b c e far = far e
  no_clash_far false b c e far = refl

  far_away : (class : Class) (len : ℕ) (w : Range) (reach : Option Span) → IfSome reach (λ i. i ≡ reach_of len w) → (s : ℕ) → w.first ≤ s → s < w.last + 1 → (b : Booking) → is_near class reach b ≡ false → conflicts_with class (span_of s len) b ≡ false
  far_away class len w None is s low high b far = cc
  far_away class len w (Some i) is s low high b far =
      no_clash_far (conflicting_classes class b.class) (overlap (reach_of len w) b.interval) (overlap (span_of s len) b.interval) (ap (λ j. conflicts_with class j b) (sym is) ∙ far)
      (in_reach s len w.first w.last b.interval.start b.interval.end low high)

  starts_alike : (f g : ℕ → Bool) (n a : ℕ) → ((s : ℕ) → a ≤ s → s < a + n → f s ≡ g s) → filter f (range_with_len a n) ≡ filter g (range_with_len a n)
  starts_alike f g zero a same = refl
  starts_alike f g (suc n) a same =
      let rest = starts_alike f g n (a + 1) (λ s le lt. same s (omega arith) (omega arith)) in
      ap₂ (λ b l. cond b (a ∷ l) l) (same a (omega arith) (omega arith)) rest

  tier_within : (f g : ℕ → Bool) (w : Range) → ((s : ℕ) → w.first ≤ s → s < w.last + 1 → f s ≡ g s) → tier_of f w ≡ tier_of g w
  tier_within f g w same = ap (λ starts. take most_intervals (gathered_starts starts)) (starts_alike f g (w.last + 1 - w.first) w.first (λ s le lt. same s le (omega arith)))

  pub tiers_near : (class : Class) (reach : Option Span) (len : ℕ) (priority : ℤ) (w : Range) (m : ℕ) → IfSome reach (λ i. i ≡ reach_of len w) → (list : List Booking) → list ≡ booked (near_gathered class reach touched gone (bookings_of book)) []
      → free_among class len priority w m list ≡ free_tiers now m class len priority w
  tiers_near class reach len priority w m covers list is =
      ap (free_among class len priority w m) is
      ∙ ap₂ (λ a b. record { first = a; second = b })
      (tier_within (is_free class len (booked (near_now class reach) [])) (is_free_row now class len) w (λ s low high.
      near_decides class reach (λ b. not (conflicts_with class (span_of s len) b)) (λ b far. ap not (far_away class len w reach covers s low high b far))
      ∙ (sym (all_gathered (λ b. not (conflicts_with class (span_of s len) b))) ∙ free_at class len s)))
      (tier_within (is_freeable class len priority m (booked (near_now class reach) [])) (is_freeable_row now m class len priority) w (λ s low high.
      near_decides class reach (λ b. not (conflicts_with class (span_of s len) b) || can_preempt priority m b) (λ b far. ap (λ t. not t || can_preempt priority m b) (far_away class len w reach covers s low high b far))
      ∙ (sym (all_gathered (λ b. not (conflicts_with class (span_of s len) b) || can_preempt priority m b)) ∙ freeable_at class len priority m s)))
