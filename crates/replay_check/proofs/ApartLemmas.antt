-- Booked rows are apart exactly where what they reserve is.
use Rattle.std.specs.Prelude.{◌↔◌, IfSome}
use Rattle.std.proofs.Common.{◌≡◌, ◌<◌, ◌≤◌, ◌∙◌, ◌&&◌, ◌++◌, ℕ, suc, length, get_or, take, drop, is_some, Bool, true, false, cond, nat_lt, List, [], ◌∷◌, Option, Some, None, refl, sym, subst, ap, ap₂}
use Rattle.std.proofs.Math.Bool.{and_comm}
use Rattle.std.proofs.lemmas.List.{take_all}
use Rattle.std.specs.Ordering.{is_eq}
use Rattle.ps_time.specs.Class.{clash, conflicting_classes}
use Rattle.ps_time.specs.Key.{key_cmp}
use Rattle.ps_time.specs.Span.{Span}
use Rattle.ps_time.specs.declared.class.Class.{Class}
use Rattle.ps_time.specs.declared.class.Class.TheVariants.{BackgroundMulti, Background, Normal, Exclusive}
use Rattle.ps_time.specs.declared.key.RunKey.{RunKey}
use Rattle.plugin_core.specs.TestSpec.{test_class}
use Rattle.run_states.specs.Life.{is_booked}
use Rattle.run_states.specs.Rows.{IsAscendingRows, find_row}
use Rattle.run_states.specs.declared.row.RunRow.{RunRow}
use Rattle.host_timeline.proofs.Free.{none_split}
use Rattle.host_timeline.specs.Booking.{conflicting, conflicts_with, key_and, keys_of}
use Rattle.host_timeline.specs.Timeline.{IsConflictFree, find_booking}
use Rattle.host_timeline.specs.declared.booking.Booking.{Booking}
use Rattle.part_core.specs.Reservations.{booking_of, bookings_of, reserved, with_some}
use Rattle.host_model.proofs.Keyed.{key_is}
use Rattle.host_model.specs.Lawful.{NoClash}
use Rattle.host_book.proofs.IndexLemmas.{find_booking_none}
use Rattle.host_book.proofs.RestoreLemmas.{parted}
use Rattle.host_rows.proofs.LastLemmas.{front_up, none_last}
use Rattle.replay_check.specs.NewKey.{HasNewKey}

classes_same : (a b : Class) → conflicting_classes a b ≡ conflicting_classes b a
classes_same BackgroundMulti BackgroundMulti = refl
classes_same Background Background = refl
classes_same Normal Normal = refl
classes_same Exclusive Exclusive = refl
classes_same _ _ = refl

clash_same : (a : Class) (s : Span) (b : Class) (t : Span) → clash a s b t ≡ clash b t a s
clash_same a s b t = ap₂ (λ x y. x && y) (classes_same a b) (and_comm (nat_lt s.start t.end) (nat_lt t.start s.end))

-- what is booked reserves its interval
books : (r : RunRow) (i : Span) → is_booked r ≡ true → r.interval ≡ Some i → booking_of r ≡ reserved r (Some i)
books r i booked at = ap₂ (λ b o. cond b (reserved r o) None) booked at

-- ---- what conflicts with none of the reservations conflicts with none of the rows
module _ (class : Class) (i : Span) where
  rest_free : (o : Option Booking) (bs : List Booking) → conflicting class i (with_some o bs) ≡ [] → conflicting class i bs ≡ []
  rest_free None bs none = none
  rest_free (Some b) bs none = (none_split (conflicts_with class i) b bs none).1

  none_clash : (rows : List RunRow) → conflicting class i (bookings_of rows) ≡ [] → (k : RunKey) (s : RunRow) (l : Span) → find_row rows k ≡ Some s → is_booked s ≡ true → s.interval ≡ Some l → clash class i (test_class s.test) l ≡ false
  none_clash [] none k s l e booked at = absurd cc
  none_clash (x ∷ xs) none k s l e booked at = by (is_eq (key_cmp x.key k)) (λ f. none_clash xs (rest_free (booking_of x) (bookings_of xs) none) k s l f booked at) e
    where
      here : x ≡ s → clash class i (test_class s.test) l ≡ false
      here is =
          let own : booking_of x ≡ reserved s (Some l) = ap booking_of is ∙ books s l booked at in
          (none_split (conflicts_with class i) _ (bookings_of xs) (subst (λ o. conflicting class i (with_some o (bookings_of xs)) ≡ []) own none)).0

      by : (b : Bool) → (find_row xs k ≡ Some s → clash class i (test_class s.test) l ≡ false) → cond b (Some x) (find_row xs k) ≡ Some s → clash class i (test_class s.test) l ≡ false
      by true later e = let is : x ≡ s = cc in here is
      by false later e = later e

-- ---- so where no reservations conflict, no rows do
free_rest : (o : Option Booking) (bs : List Booking) → IsConflictFree (with_some o bs) → IsConflictFree bs
free_rest None bs free = free
free_rest (Some b) bs free = free.1

-- the first row, and another behind it
module _ (x : RunRow) (xs : List RunRow) (free : IsConflictFree (bookings_of (x ∷ xs))) where
  first_apart : (r : RunRow) (k : RunKey) (s : RunRow) (a b : Span) → x ≡ r → find_row xs k ≡ Some s → is_booked r ≡ true → r.interval ≡ Some a → is_booked s ≡ true → s.interval ≡ Some b → clash (test_class r.test) a (test_class s.test) b ≡ false
  first_apart r k s a b is f booked at other there =
      let own : booking_of x ≡ reserved r (Some a) = ap booking_of is ∙ books r a booked at in
      none_clash (test_class r.test) a xs (subst (λ o. IsConflictFree (with_some o (bookings_of xs))) own free).0 k s b f other there

pub free_apart : (rows : List RunRow) → IsConflictFree (bookings_of rows) → NoClash rows
free_apart [] free j k r s a b apart e f booked other at there = absurd cc
free_apart (x ∷ xs) free j k r s a b apart e f booked other at there =
    by (is_eq (key_cmp x.key j)) (is_eq (key_cmp x.key k)) refl refl (λ g h. free_apart xs (free_rest (booking_of x) (bookings_of xs) free) j k r s a b apart g h booked other at there) e f
  where
    by : (p q : Bool) → is_eq (key_cmp x.key j) ≡ p → is_eq (key_cmp x.key k) ≡ q → (find_row xs j ≡ Some r → find_row xs k ≡ Some s → clash (test_class r.test) a (test_class s.test) b ≡ false) → cond p (Some x) (find_row xs j) ≡ Some r → cond q (Some x) (find_row xs k) ≡ Some s → clash (test_class r.test) a (test_class s.test) b ≡ false
    by true true m n later e f = absurd (apart (sym (key_is x.key j m) ∙ key_is x.key k n))
    by true false m n later e f = let is : x ≡ r = cc in first_apart x xs free r k s a b is f booked at other there
    by false true m n later e f = let is : x ≡ s = cc in clash_same (test_class r.test) a (test_class s.test) b ∙ first_apart x xs free s j r b a is e other there booked at
    by false false m n later e f = later e f

-- ---- no conflict is found where there is none
none_kept : (o : Option RunKey) (rest : RunKey → List RunKey) (bs : List Booking) → keys_of bs ≡ key_and o rest → (is_some o ≡ false) ↔ (bs ≡ [])
none_kept None rest [] e = ((λ none. refl), (λ empty. refl))
none_kept None rest (b ∷ bs) e = absurd cc
none_kept (Some k) rest [] e = absurd cc
none_kept (Some k) rest (b ∷ bs) e = ((λ none. cc), (λ empty. cc))

pub none_found : (found : Bool) (o : Option RunKey) (rest : RunKey → List RunKey) (bs : List Booking) → found ≡ is_some o → keys_of bs ≡ key_and o rest → (found ≡ false) ↔ (bs ≡ [])
none_found found o rest bs is e = subst (λ t. (t ≡ false) ↔ (bs ≡ [])) (sym is) (none_kept o rest bs e)

-- ---- the key of the next row is new
module _ (rows : List RunRow) (i : ℕ) (r : RunRow) (within : i < length rows) (is : r ≡ get_or rows i r) (up : IsAscendingRows rows) where
  in_order : IsAscendingRows (take i rows ++ r ∷ drop (suc i) rows)
  in_order = subst IsAscendingRows (parted rows i r within is) up

  no_booking : find_booking (bookings_of (take i rows)) r.key ≡ None
  no_booking =
      find_booking_none (take i rows) r.key (front_up r (drop (suc i) rows) (take i rows) in_order)
      (subst (λ o. IfSome o (λ x. is_booked x ≡ false)) (sym (none_last r (drop (suc i) rows) (take i rows) in_order)) tt)

  pub new_next : HasNewKey (booking_of r) (bookings_of (take i rows))
  new_next = go (is_booked r) r.interval
    where
      go : (b : Bool) (o : Option Span) → HasNewKey (cond b (reserved r o) None) (bookings_of (take i rows))
      go false o = tt
      go true None = tt
      go true (Some s) = no_booking

-- ---- all rows are booked
pub all_apart : (rows : List RunRow) (i : ℕ) (bs : List Booking) → length rows ≤ i → bs ≡ bookings_of (take i rows) → IsConflictFree bs → NoClash rows
all_apart rows i bs end are free = free_apart rows (subst IsConflictFree (are ∙ ap bookings_of (take_all i rows end)) free)
