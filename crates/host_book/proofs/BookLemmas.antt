-- A sound book after each change.
use Rattle.std.proofs.Common.{All, ◌≡◌, ℕ, zero, suc, ◌-◌, ◌≤◌, Bool, true, false, cond, ◌&&◌, List, [], ◌∷◌, map, Some, None, unwrap_or, slice_get, length, refl, ap, ap₂, sym, ◌∙◌}
use Rattle.std.specs.List.{last_or}
use Rattle.std.specs.Ordering.{is_eq}
use Rattle.ps_time.specs.Key.{key_cmp}
use Rattle.ps_time.specs.Numbers.{greatest_moment}
use Rattle.ps_time.specs.declared.key.RunKey.{RunKey}
use Rattle.limit_apply.specs.Limits.{LimitsConfig as Limits}
use Rattle.run_states.specs.Effect.{change_other, confirmed_complete, confirmed_if, is_acceptance, is_complete, noted_row, with_answer}
use Rattle.run_states.specs.Life.{is_booked, close_row, confirm_row, end_row, start_row}
use Rattle.run_states.specs.Rows.{change_row, lift_row}
use Rattle.run_states.specs.declared.answer.Other.{Other}
use Rattle.run_states.specs.declared.fact.Fact.{Fact}
use Rattle.run_states.specs.declared.fact.Fact.TheVariants.{Planned, Answered, MaterialHeard, Merged, Tried}
use Rattle.run_states.specs.declared.row.Ending.{Ending}
use Rattle.run_states.specs.declared.row.RunRow.{RunRow}
use Rattle.run_states.specs.declared.why.Closing.{Closing}
use Rattle.run_states.proofs.TaskLemmas.{last_get}
use Rattle.host_timeline.specs.declared.booking.Booking.{Booking}
use Rattle.host_timeline.specs.Timeline.{with_started, without_booking}
use Rattle.part_core.specs.Reservations.{booking_of, bookings_of}
use Rattle.host_model.specs.Apply.{apply, settled}
use Rattle.host_model.specs.Book.{Book, last_limits}
use Rattle.host_model.specs.Lawful.{Lawful}
use Rattle.host_model.specs.declared.change.Change.TheVariants.{LimitsSet, Posted, Purged, TaskClosed}
use Rattle.host_model.specs.declared.task_row.TaskRow.{TaskRow}
use Rattle.host_model.proofs.SettledBook.{book_settled}
use Rattle.host_book.specs.Host.{IsSound, with_rows}
use Rattle.host_rows.specs.Deadlines.{IsDue}
use Rattle.host_rows.specs.Ledger.{IsNoPlan}
use Rattle.host_book.specs.Reservations.{released}
use Rattle.host_book.proofs.IndexLemmas.{bookings_closed, bookings_lifted, bookings_same, bookings_settled, bookings_started}

-- ---- what facts leave of a reservation
other_booking : (f : Other → Other) (place : ℕ) (r : RunRow) → booking_of (change_other f place r) ≡ booking_of r
other_booking f zero r = refl
other_booking f (suc i) r = refl

confirmed_booking : (test : Bool) (m : ℕ) (r : RunRow) → booking_of (confirmed_if test m r) ≡ booking_of r
confirmed_booking true m r = refl
confirmed_booking false m r = refl

answered_booking : (test : Bool) (m : ℕ) (r : RunRow) → booking_of (cond test (confirmed_complete m r) r) ≡ booking_of r
answered_booking true m r = confirmed_booking (is_booked r && is_complete r) m r
answered_booking false m r = refl

noted_booking : (fact : Fact) → IsNoPlan fact → (m : ℕ) (r : RunRow) → booking_of (noted_row fact m r) ≡ booking_of r
noted_booking (Planned tool s) plain m r = absurd plain
noted_booking (Answered place answer) plain m r = let heard = change_other (with_answer answer) place r in answered_booking (is_acceptance answer) m heard ∙ other_booking (with_answer answer) place r
noted_booking MaterialHeard plain m r = refl
noted_booking (Merged body states) plain m r = refl
noted_booking (Tried index state) plain m r = refl

-- ---- a book with other rows
module _ (number : ℕ) (b : Book) (bs : List Booking) (sound : IsSound number b bs) (k : RunKey) where
  -- a change that leaves what the row reserves
  same_sound : (f : RunRow → RunRow) → ((r : RunRow) → booking_of (f r) ≡ booking_of r) → Lawful number (with_rows (change_row f b.rows k) b) → IsSound number (with_rows (change_row f b.rows k) b) bs
  same_sound f same lawful = record { lawful = lawful; index = sound.index ∙ sym (bookings_same k f same b.rows) }

  pub confirmed_sound : (m : ℕ) → Lawful number (with_rows (change_row (confirm_row m) b.rows k) b) → IsSound number (with_rows (change_row (confirm_row m) b.rows k) b) bs
  confirmed_sound m lawful = same_sound (confirm_row m) (λ r. refl) lawful

  pub ended_sound : (e : Ending) → Lawful number (with_rows (change_row (end_row e) b.rows k) b) → IsSound number (with_rows (change_row (end_row e) b.rows k) b) bs
  ended_sound e lawful = same_sound (end_row e) (λ r. refl) lawful

  pub noted_sound : (fact : Fact) → IsNoPlan fact → (m : ℕ) → Lawful number (with_rows (change_row (noted_row fact m) b.rows k) b) → IsSound number (with_rows (change_row (noted_row fact m) b.rows k) b) bs
  noted_sound fact plain m lawful = same_sound (noted_row fact m) (noted_booking fact plain m) lawful

  pub started_sound : (m : ℕ) → Lawful number (with_rows (change_row (start_row m) b.rows k) b) → IsSound number (with_rows (change_row (start_row m) b.rows k) b) (with_started bs k)
  started_sound m lawful = record { lawful = lawful; index = ap (λ l. with_started l k) sound.index ∙ sym (bookings_started k m b.rows) }

  pub closed_sound : (c : Closing) → Lawful number (with_rows (change_row (close_row c) b.rows k) b) → IsSound number (with_rows (change_row (close_row c) b.rows k) b) (without_booking bs k)
  closed_sound c lawful = record { lawful = lawful; index = ap (λ l. without_booking l k) sound.index ∙ sym (bookings_closed k c b.rows) }

-- ---- a book that settles
module _ (number : ℕ) (b : Book) (bs : List Booking) (sound : IsSound number b bs) (m : ℕ) (later : b.moment ≤ m) (within : m ≤ greatest_moment) where
  pub settled_sound : (ks : List RunKey) → All (IsDue m ks) b.rows → IsSound number (settled m b) (released m b.rows ks bs)
  settled_sound ks due = record { lawful = book_settled number b m later within sound.lawful; index = ap (released m b.rows ks) sound.index ∙ bookings_settled m b.rows ks due sound.lawful.ascending }

-- ---- changes that leave each row
either_same : (t : Bool) (r : RunRow) → cond t r r ≡ r
either_same true r = refl
either_same false r = refl

pub left_rows : (rows : List RunRow) → map (λ r. r) rows ≡ rows
left_rows [] = refl
left_rows (r ∷ rs) = ap (λ l. r ∷ l) (left_rows rs)

pub same_rows : (k : RunKey) (f : RunRow → RunRow) (rows : List RunRow) → map (λ r. cond (is_eq (key_cmp (f r).key k)) (f r) (f r)) rows ≡ map f rows
same_rows k f [] = refl
same_rows k f (r ∷ rs) = ap₂ (λ x l. x ∷ l) (either_same (is_eq (key_cmp (f r).key k)) (f r)) (same_rows k f rs)

-- a row goes
pub purged_rows : (k : RunKey) (rows : List RunRow) → lift_row (map (λ r. cond (is_eq (key_cmp r.key k)) r r) rows) k ≡ lift_row rows k
purged_rows k rows = ap (λ l. lift_row l k) (same_rows k (λ r. r) rows ∙ left_rows rows)

module _ (number : ℕ) (b : Book) (bs : List Booking) (sound : IsSound number b bs) where
  pub purged_sound : (k : RunKey) → Lawful number (apply b.moment (Purged k) b) → IsSound number (apply b.moment (Purged k) b) (without_booking bs k)
  purged_sound k lawful = record { lawful = lawful; index = ap (λ l. without_booking l k) sound.index ∙ (sym (bookings_lifted k b.rows) ∙ ap bookings_of (sym (purged_rows k b.rows))) }

  pub posted_sound : (t : TaskRow) → Lawful number (apply b.moment (Posted t) b) → IsSound number (apply b.moment (Posted t) b) bs
  posted_sound t lawful = record { lawful = lawful; index = sound.index ∙ ap bookings_of (sym (left_rows b.rows)) }

  pub task_closed_sound : (serial : ℕ) → Lawful number (apply b.moment (TaskClosed serial) b) → IsSound number (apply b.moment (TaskClosed serial) b) bs
  task_closed_sound serial lawful = record { lawful = lawful; index = sound.index ∙ ap bookings_of (sym (left_rows b.rows)) }

  pub limits_sound : (l : Limits) → Lawful number (apply b.moment (LimitsSet l) b) → IsSound number (apply b.moment (LimitsSet l) b) bs
  limits_sound l lawful = record { lawful = lawful; index = sound.index ∙ ap bookings_of (sym (left_rows b.rows)) }

-- ---- the limits in force
last_after : (y : Limits) (ys : List Limits) → last_or (Some y) ys ≡ Some (last_limits y ys)
last_after y [] = refl
last_after y (z ∷ zs) = last_after z zs

last_there : (l x : Limits) (xs : List Limits) → last_or None xs ≡ Some x → x ≡ last_limits l xs
last_there l x [] is = cc
last_there l x (y ∷ ys) is = some_same x (last_limits y ys) (sym is ∙ last_after y ys)
  where
    some_same : (a b : Limits) → Some a ≡ Some b → a ≡ b
    some_same a b e = ap (λ o. unwrap_or o a) e

-- the last of them are in force
pub last_in_force : (l x : Limits) (xs : List Limits) → slice_get xs (length xs - 1) ≡ Some x → x ≡ last_limits l xs
last_in_force l x xs is = last_there l x xs (sym (last_get xs) ∙ is)
