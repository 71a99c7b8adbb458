-- What gives way to a run is told by the keys of what is in conflict with it.
use Rattle.std.specs.Ordering.{is_eq}
use Rattle.std.specs.Prelude.{◌↔◌, IfSome, IsNone}
use Rattle.std.specs.List.{AllByRecursion}
use Rattle.std.proofs.Common.{◌≡◌, ◌∙◌, ◌&&◌, Bool, true, false, cond, not, List, [], ◌∷◌, All, filter, is_some, Option, Some, None, refl, subst, sym, ap}
use Rattle.std.proofs.lemmas.Bool.{and_parts}
use Rattle.std.proofs.lemmas.List.Elements.{All-cons, All-from_recursion, All-head, All-tail, recursion_from_All}
use Rattle.plugin_core.specs.TestSpec.{test_class}
use Rattle.ps_time.specs.Class.{clash}
use Rattle.ps_time.specs.Key.{key_cmp}
use Rattle.ps_time.specs.Span.{Span}
use Rattle.ps_time.specs.declared.class.Class.{Class}
use Rattle.ps_time.specs.declared.key.RunKey.{RunKey}
use Rattle.run_states.specs.Conflict.{blocks, clashes, in_conflict}
use Rattle.run_states.specs.Life.{is_booked}
use Rattle.run_states.specs.Rows.{IsAscendingRows, find_row}
use Rattle.run_states.specs.declared.row.RunRow.{RunRow}
use Rattle.host_timeline.specs.Booking.{conflicting_after, conflicts_with, firm_from_of, keys_of}
use Rattle.host_timeline.specs.declared.booking.Booking.{Booking}
use Rattle.part_core.specs.Reservations.{bookings_of, reserved, with_some}
use Rattle.part_core.specs.Seen.{IsUnbooked}
use Rattle.host_model.specs.Book.{keys_of_rows}
use Rattle.host_model.proofs.Keyed.{key_is}
use Rattle.host_model.proofs.RowLemmas.{all_of_found, found_of_all}
use Rattle.replay_check.specs.Way.{IsFreeWay, IsWaiting}

module _ (class : Class) (i : Span) (rows : List RunRow) (up : IsAscendingRows rows) where
  -- what a row adds to the keys in conflict
  one_at : (x : RunRow) (bs : List Booking) (booked : Bool) (o : Option Span) →
      keys_of (filter (conflicts_with class i) (with_some (cond booked (reserved x o) None) bs)) ≡ cond (booked && clashes class i (test_class x.test) o) (x.key ∷ keys_of (filter (conflicts_with class i) bs)) (keys_of (filter (conflicts_with class i) bs))
  one_at x bs false o = refl
  one_at x bs true None = refl
  one_at x bs true (Some s) =
      let later = filter (conflicts_with class i) bs in
      let b : Booking = record { key = x.key; class = test_class x.test; interval = s; priority = x.priority; firm_from = firm_from_of s.start (is_some x.started) } in
      elim (clash class i (test_class x.test) s) as (λ t. keys_of (cond t (b ∷ later) later) ≡ cond t (x.key ∷ keys_of later) (keys_of later)) [ true ↦ refl | false ↦ refl ]

  first_key : (x : RunRow) (xs : List RunRow) → keys_of_rows (filter (blocks class i) (x ∷ xs)) ≡ cond (blocks class i x) (x.key ∷ keys_of_rows (filter (blocks class i) xs)) (keys_of_rows (filter (blocks class i) xs))
  first_key x xs =
      let later = filter (blocks class i) xs in
      elim (blocks class i x) as (λ t. keys_of_rows (cond t (x ∷ later) later) ≡ cond t (x.key ∷ keys_of_rows later) (keys_of_rows later)) [ true ↦ refl | false ↦ refl ]

  -- the keys in conflict are those of the rows that block
  same_keys : (xs : List RunRow) → keys_of (filter (conflicts_with class i) (bookings_of xs)) ≡ keys_of_rows (filter (blocks class i) xs)
  same_keys [] = refl
  same_keys (x ∷ xs) =
      one_at x (bookings_of xs) (is_booked x) x.interval
      ∙ (ap (λ ks. cond (blocks class i x) (x.key ∷ ks) ks) (same_keys xs) ∙ sym (first_key x xs))

  keys_are : keys_of (conflicting_after class i None (bookings_of rows)) ≡ keys_of_rows (filter (blocks class i) rows)
  keys_are = same_keys rows

  abbrev Waits : RunRow → Type 0
  Waits r = blocks class i r ≡ true → IsNone r.started

  -- of rows that are found
  keys_wait : (xs : List RunRow) → AllByRecursion (λ x. find_row rows x.key ≡ Some x) xs → AllByRecursion (IsWaiting rows) (keys_of_rows (filter (blocks class i) xs)) → AllByRecursion Waits xs
  keys_wait [] found all = tt
  keys_wait (x ∷ xs) found all = by (blocks class i x) refl all (keys_wait xs found.1)
    where
      by : (b : Bool) → blocks class i x ≡ b → AllByRecursion (IsWaiting rows) (keys_of_rows (cond b (x ∷ filter (blocks class i) xs) (filter (blocks class i) xs))) → (AllByRecursion (IsWaiting rows) (keys_of_rows (filter (blocks class i) xs)) → AllByRecursion Waits xs) → Waits x × AllByRecursion Waits xs
      by true is rest later = ((λ blocked. subst (λ o. IfSome o (λ r. IsNone r.started)) found.0 rest.0), later rest.1)
      by false is rest later = ((λ blocked. let never : true ≡ false = sym blocked ∙ is in cc), later rest)

  wait_keys : (xs : List RunRow) → AllByRecursion (λ x. find_row rows x.key ≡ Some x) xs → AllByRecursion Waits xs → AllByRecursion (IsWaiting rows) (keys_of_rows (filter (blocks class i) xs))
  wait_keys [] found all = tt
  wait_keys (x ∷ xs) found all = by (blocks class i x) refl (wait_keys xs found.1 all.1)
    where
      by : (b : Bool) → blocks class i x ≡ b → AllByRecursion (IsWaiting rows) (keys_of_rows (filter (blocks class i) xs)) → AllByRecursion (IsWaiting rows) (keys_of_rows (cond b (x ∷ filter (blocks class i) xs) (filter (blocks class i) xs)))
      by true is later = (subst (λ o. IfSome o (λ r. IsNone r.started)) (sym found.0) (all.0 is), later)
      by false is later = later

  found : AllByRecursion (λ x. find_row rows x.key ≡ Some x) rows
  found = recursion_from_All (λ x. find_row rows x.key ≡ Some x) rows (all_of_found (λ x. find_row rows x.key ≡ Some x) rows up (λ r at. at))

  pub way_decided : All (IsWaiting rows) (keys_of (conflicting_after class i None (bookings_of rows))) ↔ IsFreeWay class i rows
  way_decided = (
    λ all r at.
        found_of_all Waits r.key r rows (All-from_recursion Waits rows (keys_wait rows found (recursion_from_All (IsWaiting rows) (keys_of_rows (filter (blocks class i) rows)) (subst (All (IsWaiting rows)) keys_are all)))) at,
    λ free.
        subst (All (IsWaiting rows)) (sym keys_are)
        (All-from_recursion (IsWaiting rows) (keys_of_rows (filter (blocks class i) rows)) (wait_keys rows found (recursion_from_All Waits rows (all_of_found Waits rows up free)))),
  )

  -- where no booked row has the run's key, its own row isn't in the way
  module _ (key : RunKey) (unbooked : IsUnbooked key rows) where
    own_free : (r : RunRow) → find_row rows r.key ≡ Some r → blocks class i r ≡ true → in_conflict key class i r ≡ true
    own_free r at blocked = by (is_eq (key_cmp r.key key)) refl
      where
        by : (b : Bool) → is_eq (key_cmp r.key key) ≡ b → (not b && blocks class i r) ≡ true
        by false other = blocked
        by true own =
            let here : find_row rows key ≡ Some r = subst (λ j. find_row rows j ≡ Some r) (key_is r.key key own) at in
            let none : is_booked r ≡ false = subst (λ o. IfSome o (λ x. is_booked x ≡ false)) here unbooked in
            let booked : is_booked r ≡ true = (and_parts (is_booked r) _ blocked).0 in
            let never : true ≡ false = sym booked ∙ none in
            cc

    pub way_apart : IsFreeWay class i rows ↔ ((r : RunRow) → find_row rows r.key ≡ Some r → in_conflict key class i r ≡ true → IsNone r.started)
    way_apart = (
      λ free r at against. free r at (and_parts (not (is_eq (key_cmp r.key key))) (blocks class i r) against).1,
      λ way r at blocked. way r at (own_free r at blocked),
    )

-- ---- a walk from key to key
module _ (P : RunKey → Type 0) (ks all later : List RunKey) (k : RunKey) (next : ks ≡ k ∷ later) (so_far : All P ks ↔ All P all) where
  pub walk_on : P k → (All P later ↔ All P all)
  walk_on here = (
    λ rest. so_far.0 (subst (All P) (sym next) (All-cons P k later here rest)),
    λ every. All-tail P k later (subst (All P) next (so_far.1 every)),
  )

  pub stopped : All P all → P k
  stopped every = All-head P k later (subst (All P) next (so_far.1 every))
