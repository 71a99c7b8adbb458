-- Rows that give way to a run which is accepted, where they lie over those of a book.
use Rattle.std.specs.Prelude.{IfSome}
use Rattle.std.specs.List.{AllByRecursion}
use Rattle.std.specs.Ordering.{is_eq}
use Rattle.std.proofs.Common.{◌≡◌, ◌+◌, ℕ, Bool, true, false, cond, not, ◌&&◌, ◌||◌, List, [], ◌∷◌, filter, Option, Some, None, option_map, refl, ap, ap₂, sym, subst, ◌∙◌}
use Rattle.ps_time.specs.Key.{key_cmp}
use Rattle.ps_time.specs.Span.{Span}
use Rattle.ps_time.specs.declared.class.Class.{Class}
use Rattle.ps_time.specs.declared.key.RunKey.{RunKey}
use Rattle.plugin_core.specs.TestSpec.{test_class}
use Rattle.run_states.specs.Conflict.{blocks, clashes, in_conflict, preempted_row, preempted_rows}
use Rattle.run_states.specs.Life.{close_row, first_there, is_booked}
use Rattle.run_states.specs.Preemption.{conflicts}
use Rattle.run_states.specs.ResultBytes.{result_bytes, row_bytes}
use Rattle.run_states.specs.Rows.{find_row, IsAscendingRows}
use Rattle.run_states.specs.declared.row.RunRow.{RunRow}
use Rattle.run_states.specs.declared.why.Why.TheVariants.{Preempted}
use Rattle.run_states.proofs.Place.{key_is, preempted_key}
use Rattle.host_timeline.specs.Booking.{conflicting, conflicts_with, keys_of}
use Rattle.host_rows.specs.Closing.{closed_keys}
use Rattle.host_rows.proofs.ClosingLemmas.{closed_each_keys}
use Rattle.host_rows.proofs.RowLemmas.{bytes_cons, each_found}
use Rattle.part_core.specs.Reservations.{bookings_of}
use Rattle.part_core.specs.Seen.{IsUnbooked}
use Rattle.host_model.specs.Apply.{put_new}
use Rattle.host_model.specs.Book.{keys_of_rows}
use Rattle.host_model.proofs.Standing.{find_row-map}
use Rattle.host_book.proofs.IndexLemmas.{closed_preempted}
use Rattle.draft_parts.specs.Overlay.{below, named, over}
use Rattle.draft_parts.specs.Way.{touched_each}
use Rattle.host_draft.proofs.MakeLemmas.{found_there}
use Rattle.draft_parts.proofs.OverLemmas.{below_own, found_touched, named_passing, new_at}
use Rattle.draft_parts.proofs.PickLemmas.{against, kept_keys}

-- ---- copies of rows ----
module _ (gone : List RunKey) (book : List RunRow) where
  -- copies change nothing of what is found
  pub each_same : (ks : List RunKey) (ts : List RunRow) (j : RunKey) → over (touched_each gone book ks ts) gone book j ≡ over ts gone book j
  each_same [] ts j = refl
  each_same (k ∷ ks) ts j = each_same ks (put_new (below gone book k) ts) j ∙ found_touched (below gone book) (below_own gone book) ts k j

  -- what is found lies over the book
  abbrev IsAbove : List RunRow → RunKey → Type 0
  IsAbove ts j = find_row ts j ≡ over ts gone book j

  none_below : (o u : Option RunRow) → o ≡ first_there o u → o ≡ None → u ≡ None
  none_below None u e f = sym e
  none_below (Some r) u e f = cc

  -- and still does once another is copied
  still_above : (ts : List RunRow) (k j : RunKey) → IsAbove ts j → IsAbove (put_new (below gone book k) ts) j
  still_above ts k j above = go (find_row ts j) refl
    where
      under : Option RunRow
      under = below gone book j

      go : (o : Option RunRow) → find_row ts j ≡ o → IsAbove (put_new (below gone book k) ts) j
      go (Some r) at =
          let there : find_row (put_new (below gone book k) ts) j ≡ Some r = new_at (below gone book) (below_own gone book) ts k j ∙ ap (λ o. first_there o (cond (is_eq (key_cmp k j)) (below gone book k) None)) at in
          there ∙ ap (λ o. first_there o (below gone book j)) (sym there)
      go None at =
          let none : below gone book j ≡ None = none_below (find_row ts j) (below gone book j) above at in
          sym (ap (first_there (find_row (put_new (below gone book k) ts) j)) none ∙ right (find_row (put_new (below gone book k) ts) j))
        where
          right : (o : Option RunRow) → first_there o None ≡ o
          right None = refl
          right (Some r) = refl

  still_each : (ks : List RunKey) (ts : List RunRow) (j : RunKey) → IsAbove ts j → IsAbove (touched_each gone book ks ts) j
  still_each [] ts j above = above
  still_each (k ∷ ks) ts j above = still_each ks (put_new (below gone book k) ts) j (still_above ts k j above)

  -- a copy lies over the book
  own_above : (ts : List RunRow) (k : RunKey) → IsAbove (put_new (below gone book k) ts) k
  own_above ts k = found_there ts gone book k ∙ sym (found_touched (below gone book) (below_own gone book) ts k k)

  pub each_above : (ks : List RunKey) (ts : List RunRow) (j : RunKey) → named j ks ≡ true → IsAbove (touched_each gone book ks ts) j
  each_above [] ts j is = cc
  each_above (k ∷ ks) ts j is = go (is_eq (key_cmp k j)) refl is (each_above ks (put_new (below gone book k) ts) j)
    where
      go : (b : Bool) → is_eq (key_cmp k j) ≡ b → (b || named j ks) ≡ true → (named j ks ≡ true → IsAbove (touched_each gone book ks (put_new (below gone book k) ts)) j) → IsAbove (touched_each gone book (k ∷ ks) ts) j
      go true same is later = still_each ks (put_new (below gone book k) ts) j (subst (IsAbove (put_new (below gone book k) ts)) (key_is k j same) (own_above ts k))
      go false same is later = later is

  -- ---- the copies of a run's own row and of those in conflict with it
  module _ (ks : List RunKey) (k : RunKey) (ts : List RunRow) where
    pub way_same : (j : RunKey) → over (put_new (below gone book k) (touched_each gone book ks ts)) gone book j ≡ over ts gone book j
    way_same j = found_touched (below gone book) (below_own gone book) (touched_each gone book ks ts) k j ∙ each_same ks ts j

    pub way_own : find_row (put_new (below gone book k) (touched_each gone book ks ts)) k ≡ over ts gone book k
    way_own = found_there (touched_each gone book ks ts) gone book k ∙ each_same ks ts k

    -- a row that has no copy isn't among them
    pub way_left : (j : RunKey) (r : RunRow) → find_row (put_new (below gone book k) (touched_each gone book ks ts)) j ≡ None → below gone book j ≡ Some r → named j ks ≡ false
    way_left j r none under = go (named j ks) refl
      where
        go : (b : Bool) → named j ks ≡ b → b ≡ false
        go false is = refl
        go true is =
            let above : IsAbove (put_new (below gone book k) (touched_each gone book ks ts)) j = still_above (touched_each gone book ks ts) k j (each_above ks ts j is) in
            let gone_too : below gone book j ≡ None = none_below (find_row (put_new (below gone book k) (touched_each gone book ks ts)) j) (below gone book j) above none in
            cc

-- ---- which rows are in conflict ----
module _ (m : ℕ) (key : RunKey) (class : Class) (i : Span) where
  -- a row that stands apart stays as it is
  apart : (r : RunRow) → blocks class i r ≡ false → preempted_row m key class i r ≡ r
  apart r free = ap (λ b. cond (not (is_eq (key_cmp r.key key)) && b) (close_row (record { moment = m; why = Preempted key }) r) r) free ∙ off (not (is_eq (key_cmp r.key key)))
    where
      off : (t : Bool) → cond (t && false) (close_row (record { moment = m; why = Preempted key }) r) r ≡ r
      off true = refl
      off false = refl

  -- without a reservation in conflict a row stands apart
  pub left_apart : (book : List RunRow) (gone : List RunKey) (j : RunKey) (r : RunRow) → below gone book j ≡ Some r → named j (keys_of (conflicting class i (bookings_of book))) ≡ false → preempted_row m key class i r ≡ r
  left_apart book gone j r under free = apart r (go (blocks class i r) refl)
    where
      in_book : (b : Bool) → cond b None (find_row book j) ≡ Some r → find_row book j ≡ Some r
      in_book true is = cc
      in_book false is = is

      go : (b : Bool) → blocks class i r ≡ b → b ≡ false
      go false is = refl
      go true is =
          let passes = named_passing (blocks class i) book j r (in_book (named j gone) under) is in
          let listed : named j (keys_of (conflicting class i (bookings_of book))) ≡ true = ap (named j) (kept_keys (blocks class i) (conflicts_with class i) (λ x. against class i x) book) ∙ passes in
          cc

  -- ---- rows that give way, over those of a book
  preempted_over : (a u : Option RunRow) → ((r : RunRow) → a ≡ None → u ≡ Some r → preempted_row m key class i r ≡ r) → option_map (preempted_row m key class i) (first_there a u) ≡ first_there (option_map (preempted_row m key class i) a) u
  preempted_over (Some r) u left = refl
  preempted_over None None left = refl
  preempted_over None (Some r) left = ap Some (left r refl refl)

  pub found_way : (now ts : List RunRow) (gone : List RunKey) (book : List RunRow) → ((j : RunKey) → find_row now j ≡ over ts gone book j)
      → ((j : RunKey) (r : RunRow) → find_row ts j ≡ None → below gone book j ≡ Some r → preempted_row m key class i r ≡ r)
      → (j : RunKey) → find_row (preempted_rows m key class i now) j ≡ over (preempted_rows m key class i ts) gone book j
  found_way now ts gone book found left j =
      find_row-map (preempted_row m key class i) (preempted_key m key class i) now j
      ∙ (ap (option_map (preempted_row m key class i)) (found j)
      ∙ (preempted_over (find_row ts j) (below gone book j) (left j)
      ∙ ap (λ o. first_there o (below gone book j)) (sym (find_row-map (preempted_row m key class i) (preempted_key m key class i) ts j))))

  -- ---- closing the keys of the rows in conflict is giving way
  module _ (rows : List RunRow) (up : IsAscendingRows rows) (unbooked : IsUnbooked key rows) where
    same_test : (r : RunRow) → find_row rows r.key ≡ Some r → in_conflict key class i r ≡ blocks class i r
    same_test r at = go (is_eq (key_cmp r.key key)) refl
      where
        go : (b : Bool) → is_eq (key_cmp r.key key) ≡ b → (not b && blocks class i r) ≡ blocks class i r
        go false is = refl
        go true is =
            let own : find_row rows key ≡ Some r = subst (λ k. find_row rows k ≡ Some r) (key_is r.key key is) at in
            let off : is_booked r ≡ false = subst (λ o. IfSome o (λ x. is_booked x ≡ false)) own unbooked in
            sym (ap (λ b. b && clashes class i (test_class r.test) r.interval) off)

    same_filter : (xs : List RunRow) → AllByRecursion (λ x. find_row rows x.key ≡ Some x) xs → filter (in_conflict key class i) xs ≡ filter (blocks class i) xs
    same_filter [] all = refl
    same_filter (x ∷ xs) all = ap₂ (λ b l. cond b (x ∷ l) l) (same_test x all.0) (same_filter xs all.1)

    pub closed_way : closed_keys m key (keys_of_rows (conflicts key class i rows)) rows ≡ preempted_rows m key class i rows
    closed_way =
        ap (λ l. closed_keys m key (keys_of_rows l) rows) (same_filter rows (each_found rows up))
        ∙ (ap (λ ks. closed_keys m key ks rows) (sym (kept_keys (blocks class i) (conflicts_with class i) (λ x. against class i x) rows))
        ∙ (sym (closed_each_keys m key class i (bookings_of rows) rows)
        ∙ closed_preempted m key class i rows up unbooked))

  -- results stay
  bytes_one : (b : Bool) (r : RunRow) → row_bytes (cond b (close_row (record { moment = m; why = Preempted key }) r) r) ≡ row_bytes r
  bytes_one true r = refl
  bytes_one false r = refl

  pub bytes_way : (rows : List RunRow) → result_bytes (preempted_rows m key class i rows) ≡ result_bytes rows
  bytes_way [] = refl
  bytes_way (r ∷ rs) =
      bytes_cons (preempted_row m key class i r) (preempted_rows m key class i rs)
      ∙ (ap₂ (λ x y. x + y) (bytes_one (in_conflict key class i r) r) (bytes_way rs)
      ∙ sym (bytes_cons r rs))
