-- What is read of a draft is what its rows say.
use Rattle.std.specs.Prelude.{IfSome, find}
use Rattle.std.specs.List.{last_or}
use Rattle.std.proofs.Common.{◌≡◌, ◌&&◌, ℕ, ℤ, not, List, [], filter, Option, Some, None, option_map, refl, ap, sym, ◌∙◌}
use Rattle.ps_time.specs.Span.{Range, Span}
use Rattle.ps_time.specs.declared.class.Class.{Class}
use Rattle.ps_time.specs.declared.key.RunKey.{RunKey}
use Rattle.run_states.specs.Life.{HasMoments}
use Rattle.run_states.specs.Rows.{find_row, IsAscendingRows}
use Rattle.run_states.specs.TaskRows.{is_of_task, newest_row, rows_of_task}
use Rattle.run_states.specs.declared.row.RunRow.{RunRow}
use Rattle.host_timeline.specs.Booking.{conflicting_after, keys_of, lesser_of}
use Rattle.host_timeline.specs.Free.{free_tiers as free_among}
use Rattle.host_timeline.specs.declared.booking.Booking.{Booking}
use Rattle.part_core.specs.Reservations.{bookings_of}
use Rattle.host_model.specs.Book.{Book}
use Rattle.host_model.specs.FreeStarts.{free_tiers}
use Rattle.host_model.specs.Lawful.{Lawful}
use Rattle.host_model.proofs.RowLemmas.{found_of_all}
use Rattle.host_book.proofs.MomentLemmas.{book_moments}
use Rattle.host_draft.specs.Draft.{IsDraft}
use Rattle.draft_parts.specs.Overlay.{Takes, booked, hides, later, meets, meets_below, near_gathered, reach_of}
use Rattle.draft_parts.specs.declared.overlay.Sought.{Sought}
use Rattle.draft_parts.proofs.FilterLemmas.{filter_twice}
use Rattle.draft_parts.proofs.FreeLemmas.{takes_near, tiers_near}
use Rattle.draft_parts.proofs.PickLemmas.{earlier, greater_order, is_greater, last_over, sought_over}

-- the later row is the one that comes first among descending keys
later_is : (a b : Option RunRow) → earlier is_greater greater_order a b ≡ later a b
later_is None b = refl
later_is (Some a) None = refl
later_is (Some a) (Some b) = refl

-- the row of each key has its moments in bounds
pub moments_now : (number : ℕ) (b : Book) → Lawful number b → (k : RunKey) → IfSome (find_row b.rows k) HasMoments
moments_now number b lawful k = go (find_row b.rows k) refl
  where
    go : (o : Option RunRow) → find_row b.rows k ≡ o → IfSome o HasMoments
    go None e = tt
    go (Some r) e = found_of_all HasMoments k r b.rows (book_moments number b lawful) e

module _ (number m : ℕ) (began now : Book) (touched : List RunRow) (gone : List RunKey) (epoch count bytes left : ℕ) (sound : IsDraft number m began now touched gone epoch count bytes left)
    (up : IsAscendingRows touched) (lawful : Lawful number began) where
  pub read_sought : (s : Sought) (bookings : List Booking) → bookings ≡ bookings_of began.rows
      → lesser_of (option_map (λ r. r.key) (find (meets m s) touched)) (find (meets_below m s touched gone began.rows) (keys_of (conflicting_after s.class s.interval s.after bookings)))
      ≡ option_map (λ r. r.key) (find (meets now.moment s) now.rows)
  read_sought s bookings index =
      ap (λ l. lesser_of (option_map (λ r. r.key) (find (meets m s) touched)) (find (meets_below m s touched gone began.rows) (keys_of (conflicting_after s.class s.interval s.after l)))) index
      ∙ (sym (sought_over now.rows touched gone began.rows sound.lawful.ascending up lawful.ascending sound.found m s)
      ∙ ap (λ n. option_map (λ (r : RunRow). r.key) (find (meets n s) now.rows)) (sym sound.at))

  pub read_newest : (lead serial : ℕ) → later (newest_row lead serial touched) (last_or None (filter (λ r. not (hides touched gone r.key)) (rows_of_task lead serial began.rows))) ≡ newest_row lead serial now.rows
  read_newest lead serial =
      ap (λ l. later (newest_row lead serial touched) (last_or None l)) (filter_twice (is_of_task lead serial) (λ (r : RunRow). not (hides touched gone r.key)) began.rows)
      ∙ (sym (later_is (newest_row lead serial touched) (last_or None (filter (λ r. is_of_task lead serial r && not (hides touched gone r.key)) began.rows)))
      ∙ sym (last_over now.rows touched gone began.rows sound.lawful.ascending up lawful.ascending sound.found (is_of_task lead serial)))

  -- what is gathered can be taken in
  pub read_takes : (class : Class) (reach : Option Span) (bookings list : List Booking) → bookings ≡ bookings_of began.rows → list ≡ near_gathered class reach touched gone bookings → Takes list []
  read_takes class reach bookings list index is =
      takes_near now.rows touched gone began.rows sound.lawful.ascending up lawful.ascending sound.found class reach sound.lawful.no_clash list (is ∙ ap (near_gathered class reach touched gone) index)

  pub read_tiers : (class : Class) (reach : Option Span) (len : ℕ) (priority : ℤ) (w : Range) → IfSome reach (λ i. i ≡ reach_of len w)
      → (bookings list made : List Booking) → bookings ≡ bookings_of began.rows → list ≡ near_gathered class reach touched gone bookings → made ≡ booked list []
      → free_among class len priority w m made ≡ free_tiers now.rows now.moment class len priority w
  read_tiers class reach len priority w covers bookings list made index is made_is =
      tiers_near now.rows touched gone began.rows sound.lawful.ascending up lawful.ascending sound.found class reach len priority w m covers made (made_is ∙ ap (λ l. booked l []) (is ∙ ap (near_gathered class reach touched gone) index))
      ∙ ap (λ n. free_tiers now.rows n class len priority w) (sym sound.at)
