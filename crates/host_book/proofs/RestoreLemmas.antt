-- Rows, and what they reserve, as one more comes behind those that are there.
use Rattle.std.proofs.Common.{◌≡◌, ◌≢◌, ℕ, ◌<◌, ◌&&◌, Bool, true, false, cond, List, [], ◌∷◌, ◌++◌, map, filter, Option, Some, None, IfSome, suc, length, get_or, take, drop, drop-cons, take-suc, is_some, refl, ap, ap₂, sym, subst, ◌∙◌}
use Rattle.std.proofs.lemmas.List.{take-append-drop}
use Rattle.std.specs.List.{AllByRecursion}
use Rattle.std.specs.declared.cmp.Ordering.TheVariants.{Less}
use Rattle.ps_time.specs.Key.{key_cmp}
use Rattle.ps_time.specs.Sorted.{IsAscending}
use Rattle.ps_time.specs.Span.{Span}
use Rattle.ps_time.specs.declared.class.Class.{Class}
use Rattle.ps_time.specs.declared.key.RunKey.{RunKey}
use Rattle.ps_time.proofs.KeyLemmas.{key_cmp_same, key_cmp_total}
use Rattle.ps_time.proofs.SortedLemmas.{ascending-filter}
use Rattle.plugin_core.specs.TestSpec.{test_class}
use Rattle.run_states.specs.Conflict.{blocks, clashes}
use Rattle.run_states.specs.Life.{is_booked}
use Rattle.run_states.specs.Rows.{find_row, put_row, IsAscendingRows}
use Rattle.run_states.specs.declared.row.RunRow.{RunRow}
use Rattle.host_timeline.specs.Booking.{conflicting, firm_from_of}
use Rattle.host_timeline.specs.declared.booking.Booking.{Booking}
use Rattle.part_core.specs.Reservations.{booking_of, bookings_of, reserved, with_some}
use Rattle.part_core.specs.Seen.{IsUnbooked}
use Rattle.host_model.specs.Book.{Book}
use Rattle.host_model.specs.Lawful.{Lawful, NoClash}
use Rattle.host_model.proofs.Clashes.{Free, free_from}
use Rattle.host_book.specs.Pairs.{IsAscendingPairs}
use Rattle.host_book.specs.Restore.{with_found, IsFree}
use Rattle.host_book.proofs.IndexLemmas.{bookings_idle, bookings_put, find_booking_none}
use Rattle.host_rows.proofs.LastLemmas.{at_seam, before_seam, front_up, none_last, put_last}
use Rattle.host_rows.proofs.RowLemmas.{each_found}

-- ---- one more row behind others
module _ (r : RunRow) (rest : List RunRow) where
  -- ---- what it reserves
  abbrev HasKey : Option Booking → Type 0
  HasKey None = Unit {0}
  HasKey (Some b) = b.key ≡ r.key

  keyed : (booked : Bool) (o : Option Span) → HasKey (cond booked (reserved r o) None)
  keyed false o = tt
  keyed true None = tt
  keyed true (Some s) = refl

  has_key : (b : Booking) → booking_of r ≡ Some b → b.key ≡ r.key
  has_key b is = subst HasKey is (keyed (is_booked r) r.interval)

  pub book_last : (xs : List RunRow) → IsAscendingRows (xs ++ r ∷ rest) → with_found (booking_of r) (bookings_of xs) ≡ bookings_of (xs ++ r ∷ [])
  book_last xs up = go (booking_of r) refl ∙ ap bookings_of (put_last r rest xs up)
    where
      go : (o : Option Booking) → booking_of r ≡ o → with_found o (bookings_of xs) ≡ bookings_of (put_row xs r)
      go None is = sym (bookings_idle r is xs)
      go (Some b) is = sym (bookings_put r b is (has_key b is) xs (front_up r rest xs up))

  -- ---- and has no conflict with what those before it reserve
  unbooked_none : (rows : List RunRow) (k : RunKey) → find_row rows k ≡ None → IsUnbooked k rows
  unbooked_none rows k none = subst (λ o. IfSome o (λ x. is_booked x ≡ false)) (sym none) tt

  abbrev made : RunRow → Span → Booking
  made x s = record { key = x.key; class = test_class x.test; interval = s; priority = x.priority; firm_from = firm_from_of s.start (is_some x.started) }

  module _ (class : Class) (i : Span) where
    skipped : (x : RunRow) (booked : Bool) (o : Option Span) (bs : List Booking) → is_booked x ≡ booked → x.interval ≡ o → blocks class i x ≡ false → conflicting class i (with_some (cond booked (reserved x o) None) bs) ≡ conflicting class i bs
    skipped x false o bs e f free = refl
    skipped x true None bs e f free = refl
    skipped x true (Some s) bs e f free = ap (λ t. cond t (made x s ∷ conflicting class i bs) (conflicting class i bs)) (ap₂ (λ b o. b && clashes class i (test_class x.test) o) (sym e) (sym f) ∙ free)

    none_blocks : (xs : List RunRow) → AllByRecursion (λ x. blocks class i x ≡ false) xs → conflicting class i (bookings_of xs) ≡ []
    none_blocks [] all = refl
    none_blocks (x ∷ xs) all = skipped x (is_booked x) x.interval (bookings_of xs) refl refl all.0 ∙ none_blocks xs all.1

  others : (xs : List RunRow) → IsAscendingRows (xs ++ r ∷ rest) → AllByRecursion (λ x. key_cmp x.key r.key ≡ Less) xs
  others [] up = tt
  others (x ∷ xs) up = (at_seam r rest (λ y. key_cmp x.key y.key ≡ Less) xs up.0, others xs up.1)

  below_apart : (x : RunRow) → key_cmp x.key r.key ≡ Less → r.key ≢ x.key
  below_apart x low same = let never : key_cmp x.key x.key ≡ Less = subst (λ k. key_cmp x.key k ≡ Less) same low in let at = key_cmp_same x.key in cc

  module _ (rows : List RunRow) (free : Free rows) (found : find_row rows r.key ≡ Some r) (booked : is_booked r ≡ true) (i : Span) (at : r.interval ≡ Some i) where
    none_block : (xs : List RunRow) → AllByRecursion (λ x. key_cmp x.key r.key ≡ Less) xs → AllByRecursion (λ x. find_row rows x.key ≡ Some x) xs → AllByRecursion (λ x. blocks (test_class r.test) i x ≡ false) xs
    none_block [] low all = tt
    none_block (x ∷ xs) low all = (free r.key x.key r x i (below_apart x low.0) found all.0 booked at, none_block xs low.1 all.1)

  pub free_last : (xs : List RunRow) → IsAscendingRows (xs ++ r ∷ rest) → NoClash (xs ++ r ∷ rest) → IsFree (booking_of r) (bookings_of xs)
  free_last xs up apart = go (is_booked r) r.interval refl refl
    where
      rows : List RunRow
      rows = xs ++ r ∷ rest

      found : AllByRecursion (λ x. find_row rows x.key ≡ Some x) rows
      found = each_found rows up

      go : (b : Bool) (o : Option Span) → is_booked r ≡ b → r.interval ≡ o → IsFree (cond b (reserved r o) None) (bookings_of xs)
      go false o booked at = tt
      go true None booked at = tt
      go true (Some i) booked at = (
        find_booking_none xs r.key (front_up r rest xs up) (unbooked_none xs r.key (none_last r rest xs up)),
        none_blocks (test_class r.test) i xs (none_block rows (free_from rows apart) (at_seam r rest (λ x. find_row rows x.key ≡ Some x) xs found) booked i at xs (others xs up) (before_seam r rest (λ x. find_row rows x.key ≡ Some x) xs found)),
      )

-- ---- the rows of a slice, as far as a loop has come
pub parted : (rows : List RunRow) (i : ℕ) (r : RunRow) → i < length rows → r ≡ get_or rows i r → rows ≡ take i rows ++ r ∷ drop (suc i) rows
parted rows i r within is = sym (take-append-drop i rows) ∙ ap (λ l. take i rows ++ l) (drop-cons rows i r within ∙ ap (λ x. x ∷ drop (suc i) rows) (sym is))

pub one_more : (rows : List RunRow) (i : ℕ) (r : RunRow) → i < length rows → r ≡ get_or rows i r → take (suc i) rows ≡ take i rows ++ r ∷ []
one_more rows i r within is = take-suc rows i r within ∙ ap (λ x. take i rows ++ x ∷ []) (sym is)

module _ (rows : List RunRow) (i : ℕ) (r : RunRow) (within : i < length rows) (is : r ≡ get_or rows i r) (up : IsAscendingRows rows) where
  pub free_next : NoClash rows → IsFree (booking_of r) (bookings_of (take i rows))
  free_next apart = free_last r (drop (suc i) rows) (take i rows) (subst IsAscendingRows (parted rows i r within is) up) (subst NoClash (parted rows i r within is) apart)

  pub book_next : with_found (booking_of r) (bookings_of (take i rows)) ≡ bookings_of (take (suc i) rows)
  book_next = book_last r (drop (suc i) rows) (take i rows) (subst IsAscendingRows (parted rows i r within is) up) ∙ ap bookings_of (sym (one_more rows i r within is))

-- ---- the pairs of a lawful book ascend
all_keys : {X : Type 0} (key : X → RunKey) (P : RunKey → Type 0) (xs : List X) → AllByRecursion (λ x. P (key x)) xs → AllByRecursion P (map key xs)
all_keys key P [] all = tt
all_keys key P (x ∷ xs) all = (all.0, all_keys key P xs all.1)

all_items : {X : Type 0} (key : X → RunKey) (P : RunKey → Type 0) (xs : List X) → AllByRecursion P (map key xs) → AllByRecursion (λ x. P (key x)) xs
all_items key P [] all = tt
all_items key P (x ∷ xs) all = (all.0, all_items key P xs all.1)

keys_up : {X : Type 0} (key : X → RunKey) (xs : List X) → IsAscending key_cmp key xs → IsAscending key_cmp (λ k. k) (map key xs)
keys_up key [] up = tt
keys_up key (x ∷ xs) up = (all_keys key (λ k. key_cmp (key x) k ≡ Less) xs up.0, keys_up key xs up.1)

items_up : {X : Type 0} (key : X → RunKey) (xs : List X) → IsAscending key_cmp (λ k. k) (map key xs) → IsAscending key_cmp key xs
items_up key [] up = tt
items_up key (x ∷ xs) up = (all_items key (λ k. key_cmp (key x) k ≡ Less) xs up.0, items_up key xs up.1)

pub pairs_up : (self : ℕ) (b : Book) → Lawful self b → IsAscendingPairs b.pairs
pairs_up self b lawful =
    items_up (λ p. p.0) b.pairs (subst (IsAscending key_cmp (λ k. k)) (sym lawful.pairs.keys)
    (keys_up (λ r. r.key) (filter (λ r. is_some r.accepted) b.rows) (ascending-filter key_cmp_total (λ r. r.key) (λ r. is_some r.accepted) b.rows lawful.ascending)))
