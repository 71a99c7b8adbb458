-- The reservations of rows, as rows settle, give way, come, change and go.
use Rattle.std.proofs.Common.{◌≡◌, ℕ, ◌&&◌, ◌||◌, All, Bool, true, false, cond, List, [], ◌∷◌, Option, Some, None, option_map, not, is_some, IfSome, refl, ap, ap₂, sym, subst, ◌∙◌}
use Rattle.std.proofs.Math.Bool.{and-false}
use Rattle.std.proofs.lemmas.List.Elements.{recursion_from_All}
use Rattle.std.specs.List.{filter, AllByRecursion}
use Rattle.std.specs.Ordering.{is_eq, match_ordering, ordering_reverse}
use Rattle.std.specs.declared.cmp.Ordering.{Ordering}
use Rattle.std.specs.declared.cmp.Ordering.TheVariants.{Less, Equal, Greater}
use Rattle.ps_time.specs.Class.{clash}
use Rattle.ps_time.specs.Key.{key_cmp}
use Rattle.ps_time.specs.Span.{Span}
use Rattle.ps_time.specs.declared.class.Class.{Class}
use Rattle.ps_time.specs.declared.key.RunKey.{RunKey}
use Rattle.ps_time.proofs.KeyLemmas.{key_cmp_total, key_cmp_same}
use Rattle.ps_time.proofs.SortedLemmas.{ascending-without, insert_front, below_all}
use Rattle.plugin_core.specs.TestSpec.{test_class}
use Rattle.run_states.specs.declared.row.RunRow.{RunRow}
use Rattle.run_states.specs.declared.why.Closing.{Closing}
use Rattle.run_states.specs.declared.why.Why.TheVariants.{Preempted}
use Rattle.run_states.specs.Conflict.{clashes, preempted_rows}
use Rattle.run_states.specs.Life.{first_there, is_booked, close_row, closed_by, lapse_of, settled_row, settled_rows, start_row}
use Rattle.run_states.specs.Rows.{find_row, lift_row, put_row, change_row, IsAscendingRows}
use Rattle.run_states.proofs.Place.{key_is, put_back}
use Rattle.host_timeline.specs.declared.booking.Booking.{Booking}
use Rattle.host_timeline.specs.Booking.{conflicts_with, conflicting, firm_from_of, without_conflicts}
use Rattle.host_timeline.specs.Timeline.{find_booking, started_booking, with_booking, with_started, without_booking}
use Rattle.part_core.specs.Reservations.{reserved, booking_of, with_some, bookings_of}
use Rattle.part_core.specs.Seen.{IsUnbooked}
use Rattle.host_rows.specs.Closing.{closed_each}
use Rattle.host_rows.specs.Deadlines.{is_among, IsDue}
use Rattle.host_book.specs.Reservations.{freed_row, freed_rows, lapses, lapses_at, released, without_lapsed}
use Rattle.host_rows.proofs.RowLemmas.{above_other, change_found, change_none, each_found}

-- ---- one row and its reservation ----
abbrev HasKey : RunKey → Option Booking → Type 0
HasKey k None = Unit {0}
HasKey k (Some b) = b.key ≡ k

reserved_has_key : (r : RunRow) (b : Bool) (o : Option Span) → HasKey r.key (cond b (reserved r o) None)
reserved_has_key r false o = tt
reserved_has_key r true None = tt
reserved_has_key r true (Some s) = refl

-- a reservation has the key of its row
booking_has_key : (r : RunRow) → HasKey r.key (booking_of r)
booking_has_key r = reserved_has_key r (is_booked r) r.interval

closed_now : (c : Closing) (o : Option Closing) → is_some (first_there o (Some c)) ≡ true
closed_now c None = refl
closed_now c (Some d) = refl

-- a row that is closed is booked no more
closed_not_booked : (c : Closing) (r : RunRow) → is_booked (close_row c r) ≡ false
closed_not_booked c r =
    ap (λ x. is_some r.accepted && not x) (closed_now c r.closed) ∙ elim (is_some r.accepted) as (λ x. (x && false) ≡ false) [ true ↦ refl | false ↦ refl ]

closed_is_gone : (c : Closing) (r : RunRow) → booking_of (close_row c r) ≡ None
closed_is_gone c r = ap (λ x. cond x (reserved (close_row c r) r.interval) None) (closed_not_booked c r)

unbooked_is_gone : (r : RunRow) → is_booked r ≡ false → booking_of r ≡ None
unbooked_is_gone r none = ap (λ b. cond b (reserved r r.interval) None) none

-- ---- no booked row has the key ----
abbrev IsApart : RunKey → List RunRow → Type 0
IsApart key rows = AllByRecursion (λ y. is_eq (key_cmp y.key key) ≡ true → is_booked y ≡ false) rows

above_apart : (key : RunKey) (rows : List RunRow) → AllByRecursion (λ y. is_eq (key_cmp y.key key) ≡ false) rows → IsApart key rows
above_apart key [] above = tt
above_apart key (x ∷ xs) above = ((λ e. let never : true ≡ false = sym e ∙ above.0 in cc), above_apart key xs above.1)

all_apart : (key : RunKey) (rows : List RunRow) → IsAscendingRows rows → IsUnbooked key rows → IsApart key rows
all_apart key [] up unbooked = tt
all_apart key (r ∷ rs) up unbooked = go (is_eq (key_cmp r.key key)) refl unbooked (all_apart key rs up.1)
  where
    go : (b : Bool) → is_eq (key_cmp r.key key) ≡ b → IfSome (cond b (Some r) (find_row rs key)) (λ x. is_booked x ≡ false) → (IsUnbooked key rs → IsApart key rs)
        → (is_eq (key_cmp r.key key) ≡ true → is_booked r ≡ false) × IsApart key rs
    go true same here later = ((λ e. here), above_apart key rs (subst (λ j. AllByRecursion (λ y. is_eq (key_cmp y.key j) ≡ false) rs) (key_is r.key key same) (above_other r.key rs up.0)))
    go false other here later = ((λ e. let never : true ≡ false = sym e ∙ other in cc), later here)

-- so the rows that give way to its run are those that block it
module _ (m : ℕ) (key : RunKey) (class : Class) (s : Span) where
  freed_one : (r : RunRow) (same booked : Bool) → (same ≡ true → booked ≡ false) → (not same && (booked && clashes class s (test_class r.test) r.interval)) ≡ (booked && clashes class s (test_class r.test) r.interval)
  freed_one r true true apart = let never : true ≡ false = apart refl in cc
  freed_one r true false apart = refl
  freed_one r false booked apart = refl

  preempted_apart : (rows : List RunRow) → IsApart key rows → preempted_rows m key class s rows ≡ freed_rows m key class s rows
  preempted_apart [] apart = refl
  preempted_apart (r ∷ rs) apart =
      ap₂ (λ b l. cond b (close_row (record { moment = m; why = Preempted key }) r) r ∷ l) (freed_one r (is_eq (key_cmp r.key key)) (is_booked r) apart.0) (preempted_apart rs apart.1)

-- ---- giving way ----
module _ (m : ℕ) (key : RunKey) (class : Class) (s : Span) where
  abbrev gone : Option Booking → Option Booking
  gone None = None
  gone (Some b) = cond (conflicts_with class s b) None (Some b)

  abbrev closing : Closing
  closing = record { moment = m; why = Preempted key }

  freed_booking : (r : RunRow) → booking_of (freed_row m key class s r) ≡ gone (booking_of r)
  freed_booking r = go (is_booked r) r.interval refl refl
    where
      own : (b : Bool) (o : Option Span) → is_booked r ≡ b → r.interval ≡ o → booking_of r ≡ cond b (reserved r o) None
      own b o booked at = ap₂ (λ x y. cond x (reserved r y) None) booked at

      go : (b : Bool) (o : Option Span) → is_booked r ≡ b → r.interval ≡ o
          → booking_of (cond (b && clashes class s (test_class r.test) o) (close_row closing r) r) ≡ gone (cond b (reserved r o) None)
      go false o booked at = own false o booked at
      go true None booked at = own true None booked at
      go true (Some t) booked at =
          elim (clash class s (test_class r.test) t) as (λ x. booking_of (cond x (close_row closing r) r) ≡ cond x None (reserved r (Some t))) [
            | true ↦ closed_is_gone closing r
            | false ↦ own true (Some t) booked at
          ]

  gone_filtered : (o : Option Booking) (bs : List Booking) → with_some (gone o) (without_conflicts class s bs) ≡ without_conflicts class s (with_some o bs)
  gone_filtered None bs = refl
  gone_filtered (Some b) bs =
      let rest = without_conflicts class s bs in
      elim (conflicts_with class s b) as (λ x. with_some (cond x None (Some b)) rest ≡ cond (not x) (b ∷ rest) rest) [ true ↦ refl | false ↦ refl ]

  bookings_freed : (rows : List RunRow) → bookings_of (freed_rows m key class s rows) ≡ without_conflicts class s (bookings_of rows)
  bookings_freed [] = refl
  bookings_freed (r ∷ rs) = ap₂ with_some (freed_booking r) (bookings_freed rs) ∙ gone_filtered (booking_of r) (bookings_of rs)

pub bookings_preempted : (m : ℕ) (key : RunKey) (class : Class) (s : Span) (rows : List RunRow) → IsAscendingRows rows → IsUnbooked key rows → bookings_of (preempted_rows m key class s rows) ≡ without_conflicts class s (bookings_of rows)
bookings_preempted m key class s rows up none = ap bookings_of (preempted_apart m key class s rows (all_apart key rows up none)) ∙ bookings_freed m key class s rows

-- what is left has no conflict
pub conflicts_gone : (class : Class) (s : Span) (bs : List Booking) → conflicting class s (without_conflicts class s bs) ≡ []
conflicts_gone class s [] = refl
conflicts_gone class s (b ∷ bs) = go (conflicts_with class s b) refl (conflicts_gone class s bs)
  where
    go : (x : Bool) → conflicts_with class s b ≡ x → conflicting class s (without_conflicts class s bs) ≡ []
        → conflicting class s (cond (not x) (b ∷ without_conflicts class s bs) (without_conflicts class s bs)) ≡ []
    go true is later = later
    go false is later = ap (λ x. cond x (b ∷ conflicting class s (without_conflicts class s bs)) (conflicting class s (without_conflicts class s bs))) is ∙ later

-- ---- a row that reserves nothing ----
find_other : (key k : RunKey) (o : Option Booking) (bs : List Booking) → HasKey key o → is_eq (key_cmp key k) ≡ false → find_booking (with_some o bs) k ≡ find_booking bs k
find_other key k None bs has other = refl
find_other key k (Some b) bs has other = ap (λ x. cond x (Some b) (find_booking bs k)) (ap (λ j. is_eq (key_cmp j k)) has ∙ other)

find_apart : (rows : List RunRow) (k : RunKey) → IsApart k rows → find_booking (bookings_of rows) k ≡ None
find_apart [] k apart = refl
find_apart (r ∷ rs) k apart = go (is_eq (key_cmp r.key k)) refl apart.0 (find_apart rs k apart.1)
  where
    go : (x : Bool) → is_eq (key_cmp r.key k) ≡ x → (x ≡ true → is_booked r ≡ false) → find_booking (bookings_of rs) k ≡ None
        → find_booking (with_some (booking_of r) (bookings_of rs)) k ≡ None
    go true is none later = ap (λ o. find_booking (with_some o (bookings_of rs)) k) (unbooked_is_gone r (none refl)) ∙ later
    go false is none later = find_other r.key k (booking_of r) (bookings_of rs) (booking_has_key r) is ∙ later

-- a key without a booked row has no reservation
pub find_booking_none : (rows : List RunRow) (k : RunKey) → IsAscendingRows rows → IsUnbooked k rows → find_booking (bookings_of rows) k ≡ None
find_booking_none rows k up none = find_apart rows k (all_apart k rows up none)

-- ---- a new row ----
all_with_some : (P : RunKey → Type 0) (key : RunKey) (o : Option Booking) (bs : List Booking) → HasKey key o → P key → AllByRecursion (λ b. P b.key) bs → AllByRecursion (λ b. P b.key) (with_some o bs)
all_with_some P key None bs has here all = all
all_with_some P key (Some b) bs has here all = (subst P (sym has) here, all)

-- what holds of the keys of rows holds of those of their reservations
all_bookings : (P : RunKey → Type 0) (rows : List RunRow) → AllByRecursion (λ r. P r.key) rows → AllByRecursion (λ b. P b.key) (bookings_of rows)
all_bookings P [] all = tt
all_bookings P (r ∷ rs) all = all_with_some P r.key (booking_of r) (bookings_of rs) (booking_has_key r) all.0 (all_bookings P rs all.1)

-- a row that reserves nothing comes
pub bookings_idle : (r : RunRow) → booking_of r ≡ None → (rows : List RunRow) → bookings_of (put_row rows r) ≡ bookings_of rows
bookings_idle r is [] = ap (λ o. with_some o []) is
bookings_idle r is (x ∷ xs) = go (key_cmp x.key r.key) (bookings_idle r is xs)
  where
    go : (c : Ordering) → bookings_of (put_row xs r) ≡ bookings_of xs → bookings_of (match_ordering c (x ∷ put_row xs r) (x ∷ put_row xs r) (r ∷ x ∷ xs)) ≡ bookings_of (x ∷ xs)
    go Less later = ap (with_some (booking_of x)) later
    go Equal later = ap (with_some (booking_of x)) later
    go Greater later = ap (λ o. with_some o (bookings_of (x ∷ xs))) is

module _ (r : RunRow) (b : Booking) (is : booking_of r ≡ Some b) (same : b.key ≡ r.key) where
  insert_after : (key : RunKey) (o : Option Booking) (bs : List Booking) → HasKey key o → match_ordering (key_cmp key r.key) true true false ≡ true
      → with_some o (with_booking bs b) ≡ with_booking (with_some o bs) b
  insert_after key None bs has low = refl
  insert_after key (Some y) bs has low = go (key_cmp y.key b.key) (ap₂ (λ i j. match_ordering (key_cmp i j) true true false) has same ∙ low)
    where
      go : (c : Ordering) → match_ordering c true true false ≡ true → y ∷ with_booking bs b ≡ match_ordering c (y ∷ with_booking bs b) (y ∷ with_booking bs b) (b ∷ y ∷ bs)
      go Less low = refl
      go Equal low = refl
      go Greater low = cc

  -- a booked row that comes reserves what it says
  pub bookings_put : (rows : List RunRow) → IsAscendingRows rows → bookings_of (put_row rows r) ≡ with_booking (bookings_of rows) b
  bookings_put [] up = ap (λ o. with_some o []) is
  bookings_put (x ∷ xs) up = go (key_cmp x.key r.key) refl (bookings_put xs up.1)
    where
      behind : match_ordering (key_cmp x.key r.key) true true false ≡ true → bookings_of (put_row xs r) ≡ with_booking (bookings_of xs) b
          → with_some (booking_of x) (bookings_of (put_row xs r)) ≡ with_booking (with_some (booking_of x) (bookings_of xs)) b
      behind low later = ap (with_some (booking_of x)) later ∙ insert_after x.key (booking_of x) (bookings_of xs) (booking_has_key x) low

      go : (c : Ordering) → key_cmp x.key r.key ≡ c → bookings_of (put_row xs r) ≡ with_booking (bookings_of xs) b
          → bookings_of (match_ordering c (x ∷ put_row xs r) (x ∷ put_row xs r) (r ∷ x ∷ xs)) ≡ with_booking (bookings_of (x ∷ xs)) b
      go Less order later = behind (ap (λ c. match_ordering c true true false) order) later
      go Equal order later = behind (ap (λ c. match_ordering c true true false) order) later
      go Greater order later =
          let below : key_cmp r.key x.key ≡ Less = key_cmp_total.antisymm r.key x.key ∙ ap ordering_reverse order in
          let above = all_bookings (λ k. key_cmp r.key k ≡ Less) (x ∷ xs) (below, below_all key_cmp_total (λ y. y.key) xs r.key x.key below up.0) in
          let front = insert_front key_cmp_total (λ y. y.key) (bookings_of (x ∷ xs)) b (subst (λ k. AllByRecursion (λ y. key_cmp k y.key ≡ Less) (bookings_of (x ∷ xs))) (sym same) above) in
          ap (λ o. with_some o (bookings_of (x ∷ xs))) is ∙ sym front

-- ---- a row that goes, closes, starts, or changes otherwise ----
module _ (k : RunKey) where
  without_one : (key : RunKey) (o : Option Booking) (bs : List Booking) → HasKey key o → without_booking (with_some o bs) k ≡ cond (not (is_eq (key_cmp key k))) (with_some o (without_booking bs k)) (without_booking bs k)
  without_one key None bs has = elim (is_eq (key_cmp key k)) as (λ b. without_booking bs k ≡ cond (not b) (without_booking bs k) (without_booking bs k)) [ true ↦ refl | false ↦ refl ]
  without_one key (Some b) bs has = ap (λ j. cond (not (is_eq (key_cmp j k))) (b ∷ without_booking bs k) (without_booking bs k)) has

  pub bookings_lifted : (rows : List RunRow) → bookings_of (lift_row rows k) ≡ without_booking (bookings_of rows) k
  bookings_lifted [] = refl
  bookings_lifted (r ∷ rs) =
      elim (is_eq (key_cmp r.key k)) as (λ b. bookings_of (cond (not b) (r ∷ lift_row rs k) (lift_row rs k)) ≡ cond (not b) (with_some (booking_of r) (without_booking (bookings_of rs) k)) (without_booking (bookings_of rs) k)) [
        | true ↦ bookings_lifted rs
        | false ↦ ap (with_some (booking_of r)) (bookings_lifted rs)
      ] ∙ sym (without_one r.key (booking_of r) (bookings_of rs) (booking_has_key r))

  pub bookings_closed : (c : Closing) (rows : List RunRow) → bookings_of (change_row (close_row c) rows k) ≡ without_booking (bookings_of rows) k
  bookings_closed c [] = refl
  bookings_closed c (r ∷ rs) =
      elim (is_eq (key_cmp r.key k)) as (λ b. with_some (booking_of (cond b (close_row c r) r)) (bookings_of (change_row (close_row c) rs k)) ≡ cond (not b) (with_some (booking_of r) (without_booking (bookings_of rs) k)) (without_booking (bookings_of rs) k)) [
        | true ↦ ap (λ o. with_some o (bookings_of (change_row (close_row c) rs k))) (closed_is_gone c r) ∙ bookings_closed c rs
        | false ↦ ap (with_some (booking_of r)) (bookings_closed c rs)
      ] ∙ sym (without_one r.key (booking_of r) (bookings_of rs) (booking_has_key r))

  started_one : (key : RunKey) (o : Option Booking) (bs : List Booking) → HasKey key o → with_started (with_some o bs) k ≡ with_some (cond (is_eq (key_cmp key k)) (option_map started_booking o) o) (with_started bs k)
  started_one key None bs has = elim (is_eq (key_cmp key k)) as (λ b. with_started bs k ≡ with_some (cond b None None) (with_started bs k)) [ true ↦ refl | false ↦ refl ]
  started_one key (Some x) bs has =
      ap (λ j. cond (is_eq (key_cmp j k)) (started_booking x) x ∷ with_started bs k) has
      ∙ elim (is_eq (key_cmp key k)) as (λ b. cond b (started_booking x) x ∷ with_started bs k ≡ with_some (cond b (Some (started_booking x)) (Some x)) (with_started bs k)) [ true ↦ refl | false ↦ refl ]

  started_now : (m : ℕ) (o : Option ℕ) → is_some (first_there o (Some m)) ≡ true
  started_now m None = refl
  started_now m (Some n) = refl

  start_booking : (m : ℕ) (r : RunRow) → booking_of (start_row m r) ≡ option_map started_booking (booking_of r)
  start_booking m r = go (is_booked r) r.interval
    where
      go : (b : Bool) (o : Option Span) → cond b (reserved (start_row m r) o) None ≡ option_map started_booking (cond b (reserved r o) None)
      go false o = refl
      go true None = refl
      go true (Some s) = ap (λ x. Some (record { key = r.key; class = test_class r.test; interval = s; priority = r.priority; firm_from = firm_from_of s.start x })) (started_now m r.started)

  pub bookings_started : (m : ℕ) (rows : List RunRow) → bookings_of (change_row (start_row m) rows k) ≡ with_started (bookings_of rows) k
  bookings_started m [] = refl
  bookings_started m (r ∷ rs) =
      elim (is_eq (key_cmp r.key k)) as (λ b. with_some (booking_of (cond b (start_row m r) r)) (bookings_of (change_row (start_row m) rs k)) ≡ with_some (cond b (option_map started_booking (booking_of r)) (booking_of r)) (with_started (bookings_of rs) k)) [
        | true ↦ ap₂ with_some (start_booking m r) (bookings_started m rs)
        | false ↦ ap (with_some (booking_of r)) (bookings_started m rs)
      ] ∙ sym (started_one r.key (booking_of r) (bookings_of rs) (booking_has_key r))

  -- a change that leaves what the row reserves
  module _ (f : RunRow → RunRow) (same : (r : RunRow) → booking_of (f r) ≡ booking_of r) where
    pub bookings_same : (rows : List RunRow) → bookings_of (change_row f rows k) ≡ bookings_of rows
    bookings_same [] = refl
    bookings_same (r ∷ rs) =
        ap₂ with_some (elim (is_eq (key_cmp r.key k)) as (λ b. booking_of (cond b (f r) r) ≡ booking_of r) [ true ↦ same r | false ↦ refl ]) (bookings_same rs)

-- ---- a row that begins to reserve ----
without_apart : (k : RunKey) (rows : List RunRow) → IsApart k rows → without_booking (bookings_of rows) k ≡ bookings_of rows
without_apart k [] apart = refl
without_apart k (r ∷ rs) apart = without_one k r.key (booking_of r) (bookings_of rs) (booking_has_key r) ∙ go (is_eq (key_cmp r.key k)) apart.0 (without_apart k rs apart.1)
  where
    go : (b : Bool) → (b ≡ true → is_booked r ≡ false) → without_booking (bookings_of rs) k ≡ bookings_of rs
        → cond (not b) (with_some (booking_of r) (without_booking (bookings_of rs) k)) (without_booking (bookings_of rs) k) ≡ with_some (booking_of r) (bookings_of rs)
    go true none later = later ∙ sym (ap (λ o. with_some o (bookings_of rs)) (unbooked_is_gone r (none refl)))
    go false none later = ap (with_some (booking_of r)) later

-- the row of the key, that wasn't booked, is
pub bookings_planned : (f : RunRow → RunRow) (k : RunKey) (r : RunRow) (b : Booking) (rows : List RunRow) → IsAscendingRows rows → find_row rows k ≡ Some r → is_booked r ≡ false → (f r).key ≡ k
    → booking_of (f r) ≡ Some b → b.key ≡ k → bookings_of (change_row f rows k) ≡ with_booking (bookings_of rows) b
bookings_planned f k r b rows up at none key is own =
    ap bookings_of (change_found f k r rows up at ∙ sym (put_back rows k r (f r) up at key))
    ∙ bookings_put (f r) b is (own ∙ sym key) (lift_row rows k) (ascending-without key_cmp_total (λ x. x.key) rows k up)
    ∙ ap (λ l. with_booking l b) (bookings_lifted k rows ∙ without_apart k rows (all_apart k rows up (subst (λ o. IfSome o (λ x. is_booked x ≡ false)) (sym at) none)))

-- ---- settling ----
-- two keys are the same whichever comes first
either_way : (a b : RunKey) → is_eq (key_cmp a b) ≡ is_eq (key_cmp b a)
either_way a b = ap is_eq (key_cmp_total.antisymm a b) ∙ turned (key_cmp b a)
  where
    turned : (c : Ordering) → is_eq (ordering_reverse c) ≡ is_eq c
    turned Less = refl
    turned Equal = refl
    turned Greater = refl

filter_alike : (p q : Booking → Bool) → ((b : Booking) → p b ≡ q b) → (bs : List Booking) → filter p bs ≡ filter q bs
filter_alike p q alike [] = refl
filter_alike p q alike (b ∷ bs) = ap₂ (λ t l. cond t (b ∷ l) l) (alike b) (filter_alike p q alike bs)

filter_twice : (p q r : Booking → Bool) → ((b : Booking) → cond (q b) (p b) false ≡ r b) → (bs : List Booking) → filter p (filter q bs) ≡ filter r bs
filter_twice p q r both [] = refl
filter_twice p q r both (b ∷ bs) =
    elim (q b) as (λ t. filter p (cond t (b ∷ filter q bs) (filter q bs)) ≡ cond (cond t (p b) false) (b ∷ filter p (filter q bs)) (filter p (filter q bs))) [ true ↦ refl | false ↦ refl ]
    ∙ ap₂ (λ t l. cond t (b ∷ l) l) (both b) (filter_twice p q r both bs)

module _ (m : ℕ) where
  closed_booking : (r : RunRow) (o : Option Closing) → booking_of (closed_by o r) ≡ cond (is_some o) None (booking_of r)
  closed_booking r None = refl
  closed_booking r (Some c) = closed_is_gone c r

  settled_booking : (r : RunRow) → booking_of (settled_row m r) ≡ cond (lapses m r) None (booking_of r)
  settled_booking r = closed_booking r (lapse_of m r)

  -- where the rows lapse that are due, and only their reservations go
  module _ (rows : List RunRow) where
    abbrev stays : List RunKey → Booking → Bool
    stays ks b = not (is_among b.key ks && lapses_at m (find_row rows b.key))

    one_less : (k : RunKey) (ks : List RunKey) (b : Booking) → lapses_at m (find_row rows k) ≡ true → cond (not (is_eq (key_cmp b.key k))) (stays ks b) false ≡ stays (k ∷ ks) b
    one_less k ks b lapsed = go (is_eq (key_cmp b.key k)) refl
      where
        go : (t : Bool) → is_eq (key_cmp b.key k) ≡ t → cond (not t) (stays ks b) false ≡ stays (k ∷ ks) b
        go true is = sym (ap₂ (λ x y. not ((x || is_among b.key ks) && y)) (either_way k b.key ∙ is) (ap (λ j. lapses_at m (find_row rows j)) (key_is b.key k is) ∙ lapsed))
        go false is = sym (ap (λ x. not ((x || is_among b.key ks) && lapses_at m (find_row rows b.key))) (either_way k b.key ∙ is))

    none_less : (k : RunKey) (ks : List RunKey) (b : Booking) → lapses_at m (find_row rows k) ≡ false → stays ks b ≡ stays (k ∷ ks) b
    none_less k ks b stands = go (is_eq (key_cmp b.key k)) refl
      where
        go : (t : Bool) → is_eq (key_cmp b.key k) ≡ t → stays ks b ≡ stays (k ∷ ks) b
        go true is =
            let off : lapses_at m (find_row rows b.key) ≡ false = ap (λ j. lapses_at m (find_row rows j)) (key_is b.key k is) ∙ stands in
            ap (λ y. not (is_among b.key ks && y)) off ∙ (ap not (and-false (is_among b.key ks)) ∙ sym (ap (λ y. not (is_among b.key (k ∷ ks) && y)) off ∙ ap not (and-false (is_among b.key (k ∷ ks)))))
        go false is = sym (ap (λ x. not ((x || is_among b.key ks) && lapses_at m (find_row rows b.key))) (either_way k b.key ∙ is))

    released_filter : (ks : List RunKey) (bs : List Booking) → released m rows ks bs ≡ filter (stays ks) bs
    released_filter [] bs = sym (filter_all bs)
      where
        filter_all : (bs : List Booking) → filter (stays []) bs ≡ bs
        filter_all [] = refl
        filter_all (b ∷ bs) = ap (λ l. b ∷ l) (filter_all bs)
    released_filter (k ∷ ks) bs = released_filter ks (without_lapsed m rows k bs) ∙ go (lapses_at m (find_row rows k)) refl
      where
        go : (t : Bool) → lapses_at m (find_row rows k) ≡ t → filter (stays ks) (cond t (without_booking bs k) bs) ≡ filter (stays (k ∷ ks)) bs
        go true is = filter_twice (stays ks) (λ b. not (is_eq (key_cmp b.key k))) (stays (k ∷ ks)) (λ b. one_less k ks b is) bs
        go false is = filter_alike (stays ks) (stays (k ∷ ks)) (λ b. none_less k ks b is) bs

    module _ (ks : List RunKey) where
      settled_one : (r : RunRow) → find_row rows r.key ≡ Some r → IsDue m ks r → (o : Option Booking) → HasKey r.key o → (bs : List Booking) → filter (stays ks) (with_some o bs) ≡ with_some (cond (lapses m r) None o) (filter (stays ks) bs)
      settled_one r at due None has bs = elim (lapses m r) as (λ t. filter (stays ks) bs ≡ with_some (cond t None None) (filter (stays ks) bs)) [ true ↦ refl | false ↦ refl ]
      settled_one r at due (Some b) has bs =
          ap (λ t. cond t (b ∷ filter (stays ks) bs) (filter (stays ks) bs)) (own ∙ by_lapse (lapses m r) refl)
          ∙ elim (lapses m r) as (λ t. cond (not t) (b ∷ filter (stays ks) bs) (filter (stays ks) bs) ≡ with_some (cond t None (Some b)) (filter (stays ks) bs)) [ true ↦ refl | false ↦ refl ]
        where
          own : stays ks b ≡ not (is_among r.key ks && lapses m r)
          own = ap₂ (λ x y. not (x && y)) (ap (λ j. is_among j ks) has) (ap (λ j. lapses_at m (find_row rows j)) has ∙ ap (lapses_at m) at)

          by_lapse : (t : Bool) → lapses m r ≡ t → not (is_among r.key ks && lapses m r) ≡ not (lapses m r)
          by_lapse true is = ap (λ x. not (x && lapses m r)) (due is)
          by_lapse false is = ap (λ y. not (is_among r.key ks && y)) is ∙ (ap not (and-false (is_among r.key ks)) ∙ sym (ap not is))

      all_settled : (xs : List RunRow) → AllByRecursion (λ x. find_row rows x.key ≡ Some x) xs → AllByRecursion (IsDue m ks) xs → filter (stays ks) (bookings_of xs) ≡ bookings_of (settled_rows m xs)
      all_settled [] at due = refl
      all_settled (x ∷ xs) at due =
          settled_one x at.0 due.0 (booking_of x) (booking_has_key x) (bookings_of xs)
          ∙ (ap (with_some (cond (lapses m x) None (booking_of x))) (all_settled xs at.1 due.1) ∙ ap (λ o. with_some o (bookings_of (settled_rows m xs))) (sym (settled_booking x)))

  -- without what lapses the reservations are those of the settled rows
  pub bookings_settled : (rows : List RunRow) (ks : List RunKey) → All (IsDue m ks) rows → IsAscendingRows rows → released m rows ks (bookings_of rows) ≡ bookings_of (settled_rows m rows)
  bookings_settled rows ks due up = released_filter rows ks (bookings_of rows) ∙ all_settled rows ks rows (each_found rows up) (recursion_from_All (IsDue m ks) rows due)

below_is_other : (k j : RunKey) (rs : List RunRow) → j ≡ k → AllByRecursion (λ y. key_cmp k y.key ≡ Less) rs → AllByRecursion (λ y. is_eq (key_cmp j y.key) ≡ false) rs
below_is_other k j [] same all = tt
below_is_other k j (r ∷ rs) same all = (ap (λ i. is_eq (key_cmp i r.key)) same ∙ ap is_eq all.0, below_is_other k j rs same all.1)

-- ---- closing by the reservations ----
module _ (m : ℕ) (key : RunKey) (class : Class) (s : Span) where
  abbrev close_one : RunRow → RunRow
  close_one = close_row (closing m key class s)

  change_past : (k : RunKey) (r : RunRow) (rs : List RunRow) → is_eq (key_cmp r.key k) ≡ false → change_row close_one (r ∷ rs) k ≡ r ∷ change_row close_one rs k
  change_past k r rs other = ap (λ x. cond x (close_one r) r ∷ change_row close_one rs k) other

  -- a row of another key stays where others close
  closed_past : (r : RunRow) (bs : List Booking) (rs : List RunRow) → AllByRecursion (λ b. is_eq (key_cmp r.key b.key) ≡ false) bs → closed_each m key class s bs (r ∷ rs) ≡ r ∷ closed_each m key class s bs rs
  closed_past r [] rs all = refl
  closed_past r (b ∷ bs) rs all =
      elim (conflicts_with class s b) as (λ x. closed_each m key class s bs (cond x (change_row close_one (r ∷ rs) b.key) (r ∷ rs)) ≡ r ∷ closed_each m key class s bs (cond x (change_row close_one rs b.key) rs)) [
        | true ↦ ap (closed_each m key class s bs) (change_past b.key r rs all.0) ∙ closed_past r bs (change_row close_one rs b.key) all.1
        | false ↦ closed_past r bs rs all.1
      ]

  own_closed : (r : RunRow) (rs : List RunRow) → AllByRecursion (λ y. key_cmp r.key y.key ≡ Less) rs → change_row close_one (r ∷ rs) r.key ≡ close_one r ∷ rs
  own_closed r rs above =
      ap (λ c. cond (is_eq c) (close_one r) r ∷ change_row close_one rs r.key) (key_cmp_same r.key)
      ∙ ap (λ l. close_one r ∷ l) (change_none close_one r.key rs (above_other r.key rs above))

  -- closing the rows of the reservations in conflict closes the rows in conflict
  closed_freed : (rows : List RunRow) → IsAscendingRows rows → closed_each m key class s (bookings_of rows) rows ≡ freed_rows m key class s rows
  closed_freed [] up = refl
  closed_freed (r ∷ rs) up =
      go (is_booked r) r.interval (closed_freed rs up.1) (all_bookings (λ k. is_eq (key_cmp r.key k) ≡ false) rs (below_is_other r.key r.key rs refl up.0))
    where
      go : (b : Bool) (o : Option Span) → closed_each m key class s (bookings_of rs) rs ≡ freed_rows m key class s rs → AllByRecursion (λ y. is_eq (key_cmp r.key y.key) ≡ false) (bookings_of rs)
          → closed_each m key class s (with_some (cond b (reserved r o) None) (bookings_of rs)) (r ∷ rs) ≡ cond (b && clashes class s (test_class r.test) o) (close_one r) r ∷ freed_rows m key class s rs
      go false o later others = closed_past r (bookings_of rs) rs others ∙ ap (λ l. r ∷ l) later
      go true None later others = closed_past r (bookings_of rs) rs others ∙ ap (λ l. r ∷ l) later
      go true (Some t) later others =
          elim (clash class s (test_class r.test) t) as (λ x. closed_each m key class s (bookings_of rs) (cond x (change_row close_one (r ∷ rs) r.key) (r ∷ rs)) ≡ cond x (close_one r) r ∷ freed_rows m key class s rs) [
            | true ↦ ap (closed_each m key class s (bookings_of rs)) (own_closed r rs up.0) ∙ (closed_past (close_one r) (bookings_of rs) rs others ∙ ap (λ l. close_one r ∷ l) later)
            | false ↦ closed_past r (bookings_of rs) rs others ∙ ap (λ l. r ∷ l) later
          ]

pub closed_preempted : (m : ℕ) (key : RunKey) (class : Class) (s : Span) (rows : List RunRow) → IsAscendingRows rows → IsUnbooked key rows → closed_each m key class s (bookings_of rows) rows ≡ preempted_rows m key class s rows
closed_preempted m key class s rows up none = closed_freed m key class s rows up ∙ sym (preempted_apart m key class s rows (all_apart key rows up none))
