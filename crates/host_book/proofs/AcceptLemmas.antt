-- A book after a run is accepted, asked about or planned.
use Rattle.std.specs.Prelude.{IsNone, MatchOption}
use Rattle.std.proofs.Common.{◌≡◌, ℕ, ◌≤◌, Bool, true, false, not, cond, ◌&&◌, List, [], ◌∷◌, map, sum, Option, Some, None, is_some, option_map, unwrap_or, IfSome, All, refl, ap, ap₂, sym, subst, ◌∙◌, arith}
use Rattle.ps_time.specs.Numbers.{greatest_length, greatest_moment}
use Rattle.ps_time.specs.Span.{Span, span_of}
use Rattle.ps_time.specs.declared.asker.Asker.{Asker}
use Rattle.ps_time.specs.declared.key.RunKey.{RunKey}
use Rattle.plugin_core.specs.TestSpec.{test_class, test_length}
use Rattle.run_states.specs.Conflict.{blocks, preempted_row, preempted_rows}
use Rattle.run_states.specs.Effect.{accept_row, confirmed_if, is_alone, noted_row}
use Rattle.run_states.specs.LawfulRow.{IsLawfulRow, Reserves}
use Rattle.run_states.specs.Life.{close_row, first_there, is_booked, HasMoments}
use Rattle.run_states.specs.Preemption.{give_way, planned_run, planned_span}
use Rattle.run_states.specs.ResultBytes.{bytes_in, other_result, row_bytes}
use Rattle.run_states.specs.Rows.{change_row, find_row, put_row, IsAscendingRows}
use Rattle.run_states.specs.declared.fact.Fact.{Fact}
use Rattle.run_states.specs.declared.fact.Fact.TheVariants.{Planned as PlannedFact}
use Rattle.run_states.specs.declared.proposal.Proposal.{Proposal}
use Rattle.run_states.specs.declared.proposal.Question.{Question}
use Rattle.run_states.specs.declared.row.RunRow.{RunRow}
use Rattle.run_states.specs.declared.why.Why.TheVariants.{Preempted}
use Rattle.run_states.proofs.Place.{ascending_preempted, noted_key, preempted_key}
use Rattle.host_timeline.specs.declared.booking.Booking.{Booking}
use Rattle.host_timeline.specs.Booking.{conflicting, firm_from_of, without_conflicts}
use Rattle.host_timeline.specs.Timeline.{find_booking, with_booking}
use Rattle.part_core.specs.Reservations.{booking_of, bookings_of, reserved}
use Rattle.part_core.specs.Seen.{IsUnbooked}
use Rattle.host_model.specs.Apply.{apply, put_new, rows_after}
use Rattle.host_model.specs.Book.{Book, find_pair}
use Rattle.host_model.specs.Effect.{effect, own_effect}
use Rattle.host_model.specs.Lawful.{Lawful}
use Rattle.host_model.specs.LawfulRow.{IsHostRow}
use Rattle.host_model.specs.MayFollow.{CanApply}
use Rattle.host_model.specs.NewRow.{accepted_row, all_unheard, asked_row, unheard}
use Rattle.host_model.specs.declared.change.Change.TheVariants.{Accepted, Asked, Planned}
use Rattle.host_model.proofs.AcceptedKeys.{is_accepted, none_accepted}
use Rattle.host_model.proofs.Keyed.{at-put, key_same}
use Rattle.host_model.proofs.KeyedLists.{has, keys_has}
use Rattle.host_model.proofs.Placed.{find_row-key}
use Rattle.host_model.proofs.RowFacts.{unconfirmed, unstarted}
use Rattle.host_model.proofs.RowLemmas.{found_of_all}
use Rattle.host_model.proofs.Standing.{find_row-map}
use Rattle.host_book.specs.Host.{IsSound}
use Rattle.host_book.specs.Pairs.{with_pair}
use Rattle.host_rows.specs.Closing.{closed_each}
use Rattle.host_rows.proofs.RowLemmas.{change_found}
use Rattle.host_book.specs.Reservations.{planned_reservation, reservation_of}
use Rattle.host_book.proofs.BookLemmas.{same_rows, left_rows}
use Rattle.host_book.proofs.BringLemmas.{found_changed, none_of}
use Rattle.host_book.proofs.IndexLemmas.{closed_preempted, bookings_idle, bookings_planned, bookings_preempted, bookings_put, conflicts_gone, find_booking_none}
use Rattle.host_book.proofs.MomentLemmas.{book_moments, lawful_moments, test_lasts, test_short}

-- a run that isn't accepted has no pair
pub pair_none : (self : ℕ) (b : Book) (k : RunKey) → Lawful self b → ((r : RunRow) → find_row b.rows k ≡ Some r → is_accepted r ≡ false) → find_pair b.pairs k ≡ None
pair_none self b k lawful none = none_of (find_pair b.pairs k) (keys_has (λ p. p.0) b.pairs k ∙ (ap (λ ks. has ks k) lawful.pairs.keys ∙ none_accepted k b.rows lawful.ascending none))

new_none : (rows : List RunRow) (k : RunKey) → IsNone (find_row rows k) → find_row rows k ≡ None
new_none rows k new = none_of (find_row rows k) new

unbooked_none : (rows : List RunRow) (k : RunKey) → find_row rows k ≡ None → IsUnbooked k rows
unbooked_none rows k none = subst (λ o. IfSome o (λ r. is_booked r ≡ false)) (sym none) tt

-- ---- a run that is accepted
module _ (self : ℕ) (b : Book) (bs : List Booking) (sound : IsSound self b bs) (p : Proposal) (names : List (List ℕ)) (epoch : ℕ) (new : CanApply b (Accepted p names epoch)) (after : Lawful self (apply b.moment (Accepted p names epoch) b)) where
  abbrev span : Span
  span = span_of p.start (test_length p.test)

  abbrev way : List RunRow
  way = preempted_rows b.moment p.key (test_class p.test) span b.rows

  abbrev row : RunRow
  row = accepted_row b.moment p names

  none : find_row b.rows p.key ≡ None
  none = new_none b.rows p.key new

  way_none : find_row way p.key ≡ None
  way_none = find_row-map (preempted_row b.moment p.key (test_class p.test) span) (preempted_key b.moment p.key (test_class p.test) span) b.rows p.key ∙ ap (option_map (preempted_row b.moment p.key (test_class p.test) span)) none

  way_up : IsAscendingRows way
  way_up = ascending_preempted b.moment p.key (test_class p.test) span b.rows sound.lawful.ascending

  pub accepted_rows : rows_after b.moment b.tasks (Accepted p names epoch) b.rows ≡ put_row way row
  accepted_rows =
      ap (λ l. put_new (Some row) l) (same_rows p.key (preempted_row b.moment p.key (test_class p.test) span) b.rows)
      ∙ ap (λ o. cond (is_some o) way (put_row way row)) way_none

  row_found : find_row (rows_after b.moment b.tasks (Accepted p names epoch) b.rows) p.key ≡ Some row
  row_found = ap (λ l. find_row l p.key) accepted_rows ∙ (at-put (λ r. r.key) row way p.key way_none ∙ ap (λ t. cond t (Some row) (find_row way p.key)) (key_same p.key))

  row_host : IsHostRow self b.tasks b.moment row
  row_host = found_of_all (IsHostRow self b.tasks b.moment) p.key row (rows_after b.moment b.tasks (Accepted p names epoch) b.rows) after.rows row_found

  pub accepted_start : p.start ≤ greatest_moment
  accepted_start = row_host.row.reserves.1

  pub accepted_length : (1 ≤ test_length p.test) × (test_length p.test ≤ greatest_length)
  accepted_length = (test_lasts p.test row_host.row.test, test_short p.test row_host.row.test)

  pub accepted_moments : HasMoments row
  accepted_moments = lawful_moments b.moment row sound.lawful.moment row_host.row

  pub accepted_pair : find_pair b.pairs p.key ≡ None
  accepted_pair = pair_none self b p.key sound.lawful (λ r at. cc)

  -- ---- what is reserved
  abbrev left : List Booking
  left = without_conflicts (test_class p.test) span bs

  left_is : left ≡ bookings_of way
  left_is = ap (without_conflicts (test_class p.test) span) sound.index ∙ sym (bookings_preempted b.moment p.key (test_class p.test) span b.rows sound.lawful.ascending (unbooked_none b.rows p.key none))

  pub left_none : find_booking left p.key ≡ None
  left_none = ap (λ l. find_booking l p.key) left_is ∙ find_booking_none way p.key way_up (unbooked_none way p.key way_none)

  pub left_free : conflicting (test_class p.test) span left ≡ []
  left_free = conflicts_gone (test_class p.test) span bs

  pub way_new : find_row way p.key ≡ None
  way_new = way_none

  pub accepted_sound : IsSound self (apply b.moment (Accepted p names epoch) b) (with_booking left (reservation_of p))
  accepted_sound = record { lawful = after; index = ap (λ l. with_booking l (reservation_of p)) left_is ∙ (sym (bookings_put row (reservation_of p) refl refl way way_up) ∙ ap bookings_of (sym accepted_rows)) }

  -- ---- the same of values that are equal to these
  pub accepted_book : (pairs : List (RunKey × ℕ)) (rows : List RunRow) → pairs ≡ with_pair b.pairs (p.key, epoch) → rows ≡ put_row way row → record b { pairs = pairs; rows = rows } ≡ apply b.moment (Accepted p names epoch) b
  accepted_book pairs rows pairs_are rows_are =
      ap₂ (λ x y. record b { pairs = x; rows = y })
      (pairs_are ∙ sym (ap (λ o. cond (is_some o) b.pairs (with_pair b.pairs (p.key, epoch))) accepted_pair))
      (rows_are ∙ sym accepted_rows)

  module _ (run : Booking) (is : run ≡ reservation_of p) where
    pub accept_way : closed_each b.moment run.key run.class run.interval bs b.rows ≡ way
    accept_way =
        ap (λ (x : Booking). closed_each b.moment x.key x.class x.interval bs b.rows) is
        ∙ (ap (λ l. closed_each b.moment p.key (test_class p.test) span l b.rows) sound.index
        ∙ closed_preempted b.moment p.key (test_class p.test) span b.rows sound.lawful.ascending (unbooked_none b.rows p.key none))

    module _ (gone : List Booking) (gone_is : gone ≡ without_conflicts run.class run.interval bs) where
      gone_left : gone ≡ left
      gone_left = gone_is ∙ ap (λ (x : Booking). without_conflicts x.class x.interval bs) is

      pub accept_key : find_booking gone run.key ≡ None
      accept_key = ap (λ (x : Booking). find_booking gone x.key) is ∙ (ap (λ l. find_booking l p.key) gone_left ∙ left_none)

      pub accept_free : conflicting run.class run.interval gone ≡ []
      accept_free = ap (λ (x : Booking). conflicting x.class x.interval gone) is ∙ (ap (conflicting (test_class p.test) span) gone_left ∙ left_free)

      pub accept_sound : (pairs : List (RunKey × ℕ)) (rows : List RunRow) (bookings : List Booking) → pairs ≡ with_pair b.pairs (p.key, epoch) → rows ≡ put_row way row → bookings ≡ with_booking gone run → IsSound self (record b { pairs = pairs; rows = rows }) bookings
      accept_sound pairs rows bookings pairs_are rows_are bookings_are =
          subst (λ l. IsSound self (record b { pairs = pairs; rows = rows }) l) (sym (bookings_are ∙ ap₂ with_booking gone_left is))
          (subst (λ x. IsSound self x (with_booking left (reservation_of p))) (sym (accepted_book pairs rows pairs_are rows_are)) accepted_sound)

-- ---- a run that is asked about
none_heard : (names : List (List ℕ)) → sum (map (λ o. bytes_in (other_result o)) (map (λ name. unheard) names)) ≡ 0
none_heard [] = refl
none_heard (x ∷ xs) = none_heard xs

all_none_heard : (names : List (List ℕ)) → sum (map (λ o. bytes_in (other_result o)) (all_unheard names)) ≡ 0
all_none_heard [] = refl
all_none_heard (lead ∷ others) = none_heard others

pub asked_bytes : (m : ℕ) (q : Question) (names : List (List ℕ)) (asker : Asker) → row_bytes (asked_row m q names asker) ≡ 0
asked_bytes m q names asker = let heard = all_none_heard names in omega (arith, heard)

module _ (self : ℕ) (b : Book) (bs : List Booking) (sound : IsSound self b bs) (q : Question) (names : List (List ℕ)) (asker : Asker) (new : CanApply b (Asked q names asker)) (after : Lawful self (apply b.moment (Asked q names asker) b)) where
  pub asked_new : find_row b.rows q.key ≡ None
  asked_new = new_none b.rows q.key new

  pub asked_rows : rows_after b.moment b.tasks (Asked q names asker) b.rows ≡ put_row b.rows (asked_row b.moment q names asker)
  asked_rows =
      ap (λ l. put_new (Some (asked_row b.moment q names asker)) l) (same_rows q.key (λ r. r) b.rows ∙ left_rows b.rows)
      ∙ ap (λ o. cond (is_some o) b.rows (put_row b.rows (asked_row b.moment q names asker))) asked_new

  asked_found : find_row (rows_after b.moment b.tasks (Asked q names asker) b.rows) q.key ≡ Some (asked_row b.moment q names asker)
  asked_found = ap (λ l. find_row l q.key) asked_rows ∙ (at-put (λ r. r.key) (asked_row b.moment q names asker) b.rows q.key asked_new ∙ ap (λ t. cond t (Some (asked_row b.moment q names asker)) (find_row b.rows q.key)) (key_same q.key))

  pub asked_moments : HasMoments (asked_row b.moment q names asker)
  asked_moments = lawful_moments b.moment (asked_row b.moment q names asker) sound.lawful.moment (found_of_all (IsHostRow self b.tasks b.moment) q.key (asked_row b.moment q names asker) (rows_after b.moment b.tasks (Asked q names asker) b.rows) after.rows asked_found).row

  pub asked_sound : IsSound self (apply b.moment (Asked q names asker) b) bs
  asked_sound = record { lawful = after; index = sound.index ∙ (sym (bookings_idle (asked_row b.moment q names asker) refl b.rows) ∙ ap bookings_of (sym asked_rows)) }

-- ---- a run that is planned
confirmed_reserves : (t : Bool) (m n : ℕ) (r : RunRow) → IsLawfulRow n (confirmed_if t m r) → Reserves r.test r.accepted r.tool r.interval
confirmed_reserves true m n r lawful = lawful.reserves
confirmed_reserves false m n r lawful = lawful.reserves

planned_reserves : (m : ℕ) (s : Span) (tool : List ℕ) (r : RunRow) (a : Option ℕ) (t : Option (List ℕ)) (i : Option Span) → is_some a ≡ false → Reserves r.test a t i → Reserves r.test (first_there a (Some m)) (first_there t (Some tool)) (first_there i (Some s)) → s.start ≤ greatest_moment
planned_reserves m s tool r None None None none has now = now.1
planned_reserves m s tool r None None (Some x) none has now = absurd has
planned_reserves m s tool r None (Some x) i none has now = absurd has
planned_reserves m s tool r (Some a) t i none has now = cc

no_interval : (r : RunRow) (a : Option ℕ) (t : Option (List ℕ)) (i : Option Span) → is_some a ≡ false → Reserves r.test a t i → i ≡ None
no_interval r None None None none has = refl
no_interval r None None (Some x) none has = absurd has
no_interval r None (Some x) i none has = absurd has
no_interval r (Some a) t i none has = cc

confirmed_booking : (t : Bool) (m : ℕ) (r : RunRow) → booking_of (confirmed_if t m r) ≡ booking_of r
confirmed_booking true m r = refl
confirmed_booking false m r = refl

planned_booking : (m start : ℕ) (tool : List ℕ) (r : RunRow) → r.accepted ≡ None → r.closed ≡ None → r.interval ≡ None → r.started ≡ None → booking_of (accept_row m (planned_span start r) tool r) ≡ Some (planned_reservation start r)
planned_booking m start tool r accepted closed interval started =
    ap₂ (λ a c. cond (is_some (first_there a (Some m)) && not (is_some c)) (reserved (accept_row m (planned_span start r) tool r) (first_there r.interval (Some (planned_span start r)))) None) accepted closed
    ∙ (ap (λ i. reserved (accept_row m (planned_span start r) tool r) (first_there i (Some (planned_span start r)))) interval
    ∙ ap (λ s. Some (record { key = r.key; class = test_class r.test; interval = planned_span start r; priority = r.priority; firm_from = firm_from_of start (is_some s) })) started)

map_twice : (f g : RunRow → RunRow) (rows : List RunRow) → map (λ x. f (g x)) rows ≡ map f (map g rows)
map_twice f g [] = refl
map_twice f g (r ∷ rs) = ap (λ l. f (g r) ∷ l) (map_twice f g rs)

-- two changes that agree on the row of the key
same_change : (f g : RunRow → RunRow) (k : RunKey) (r : RunRow) (rows : List RunRow) → IsAscendingRows rows → find_row rows k ≡ Some r → f r ≡ g r → change_row f rows k ≡ change_row g rows k
same_change f g k r rows up at same = change_found f k r rows up at ∙ (ap (λ x. change_row (λ before. x) rows k) same ∙ sym (change_found g k r rows up at))

module _ (self : ℕ) (b : Book) (bs : List Booking) (sound : IsSound self b bs) (k : RunKey) (start : ℕ) (tool : List ℕ) (epoch : ℕ) (can : CanApply b (Planned k start tool epoch)) (after : Lawful self (apply b.moment (Planned k start tool epoch) b)) (r : RunRow) (at : find_row b.rows k ≡ Some r) where
  abbrev planned : Span
  planned = planned_span start r

  abbrev fact : Fact
  fact = PlannedFact tool planned

  abbrev passed : List RunRow
  passed = preempted_rows b.moment r.key (test_class r.test) planned b.rows

  own_key : r.key ≡ k
  own_key = find_row-key b.rows k r at

  may : IsNone r.accepted × IsNone r.closed
  may = subst (λ o. MatchOption o ⊥ (λ x. IsNone x.accepted × IsNone x.closed)) at can

  before : IsHostRow self b.tasks b.moment r
  before = found_of_all (IsHostRow self b.tasks b.moment) k r b.rows sound.lawful.rows at

  interval_none : r.interval ≡ None
  interval_none = no_interval r r.accepted r.tool r.interval may.0 before.row.reserves

  started_none : r.started ≡ None
  started_none = unstarted r before.row.life (unconfirmed r before.row.life may.0)

  unbooked : is_booked r ≡ false
  unbooked = ap (λ x. x && not (is_some r.closed)) may.0

  own_passed : preempted_row b.moment r.key (test_class r.test) planned r ≡ r
  own_passed = ap (λ t. cond (not t && blocks (test_class r.test) planned r) (close_row (record { moment = b.moment; why = Preempted r.key }) r) r) (key_same r.key)

  found_passed : find_row passed k ≡ Some r
  found_passed = find_row-map (preempted_row b.moment r.key (test_class r.test) planned) (preempted_key b.moment r.key (test_class r.test) planned) b.rows k ∙ (ap (option_map (preempted_row b.moment r.key (test_class r.test) planned)) at ∙ ap Some own_passed)

  passed_up : IsAscendingRows passed
  passed_up = ascending_preempted b.moment r.key (test_class r.test) planned b.rows sound.lawful.ascending

  pub planned_rows : rows_after b.moment b.tasks (Planned k start tool epoch) b.rows ≡ change_row (noted_row fact b.moment) passed k
  planned_rows =
      ap (λ o. map (λ x. own_effect b.moment b.tasks (Planned k start tool epoch) (give_way b.moment (option_map (planned_run start) o) x)) b.rows) at
      ∙ (ap (λ i. map (λ x. own_effect b.moment b.tasks (Planned k start tool epoch) (preempted_row b.moment r.key (test_class r.test) (unwrap_or i planned) x)) b.rows) interval_none
      ∙ (map_twice (own_effect b.moment b.tasks (Planned k start tool epoch)) (preempted_row b.moment r.key (test_class r.test) planned) b.rows
      ∙ same_change (effect b.moment b.tasks (Planned k start tool epoch)) (noted_row fact b.moment) k r passed passed_up found_passed refl))

  now_found : find_row (rows_after b.moment b.tasks (Planned k start tool epoch) b.rows) k ≡ Some (noted_row fact b.moment r)
  now_found = ap (λ l. find_row l k) planned_rows ∙ found_changed (noted_row fact b.moment) (noted_key fact b.moment) passed k r found_passed

  now_host : IsHostRow self b.tasks b.moment (noted_row fact b.moment r)
  now_host = found_of_all (IsHostRow self b.tasks b.moment) k (noted_row fact b.moment r) (rows_after b.moment b.tasks (Planned k start tool epoch) b.rows) after.rows now_found

  pub planned_start : start ≤ greatest_moment
  planned_start =
      let accepted : RunRow = accept_row b.moment planned tool r in
      planned_reserves b.moment planned tool r r.accepted r.tool r.interval may.0 before.row.reserves (confirmed_reserves (is_booked accepted && is_alone accepted) b.moment b.moment accepted now_host.row)

  pub planned_length : (1 ≤ test_length r.test) × (test_length r.test ≤ greatest_length)
  planned_length = (test_lasts r.test before.row.test, test_short r.test before.row.test)

  pub planned_pair : find_pair b.pairs k ≡ None
  planned_pair = pair_none self b k sound.lawful (λ x found. let same : r ≡ x = cc in subst (λ y. is_accepted y ≡ false) same may.0)

  -- ---- what is reserved
  abbrev others : List Booking
  others = without_conflicts (test_class r.test) planned bs

  apart : IsUnbooked r.key b.rows
  apart = subst (λ j. IsUnbooked j b.rows) (sym own_key) (subst (λ o. IfSome o (λ x. is_booked x ≡ false)) (sym at) unbooked)

  pub planned_apart : IsUnbooked r.key b.rows
  planned_apart = apart

  others_are : others ≡ bookings_of passed
  others_are = ap (without_conflicts (test_class r.test) planned) sound.index ∙ sym (bookings_preempted b.moment r.key (test_class r.test) planned b.rows sound.lawful.ascending apart)

  pub others_none : find_booking others r.key ≡ None
  others_none = ap (λ l. find_booking l r.key) others_are ∙ find_booking_none passed r.key passed_up (subst (λ j. IsUnbooked j passed) (sym own_key) (subst (λ o. IfSome o (λ x. is_booked x ≡ false)) (sym found_passed) unbooked))

  pub others_free : conflicting (test_class r.test) planned others ≡ []
  others_free = conflicts_gone (test_class r.test) planned bs

  now_booking : booking_of (noted_row fact b.moment r) ≡ Some (planned_reservation start r)
  now_booking =
      let accepted : RunRow = accept_row b.moment planned tool r in
      confirmed_booking (is_booked accepted && is_alone accepted) b.moment accepted
      ∙ planned_booking b.moment start tool r (none_of r.accepted may.0) (none_of r.closed may.1) interval_none started_none

  pub planned_sound : IsSound self (apply b.moment (Planned k start tool epoch) b) (with_booking others (planned_reservation start r))
  planned_sound = record {
    lawful = after;
    index =
        ap (λ l. with_booking l (planned_reservation start r)) others_are
        ∙ (sym (bookings_planned (noted_row fact b.moment) k r (planned_reservation start r) passed passed_up found_passed unbooked (noted_key fact b.moment r ∙ own_key) now_booking own_key)
        ∙ ap bookings_of (sym planned_rows));
  }

  -- ---- the same of values that are equal to these
  pub planned_book : (pairs : List (RunKey × ℕ)) (rows : List RunRow) → pairs ≡ with_pair b.pairs (k, epoch) → rows ≡ change_row (noted_row fact b.moment) passed k → record b { pairs = pairs; rows = rows } ≡ apply b.moment (Planned k start tool epoch) b
  planned_book pairs rows pairs_are rows_are =
      ap₂ (λ x y. record b { pairs = x; rows = y })
      (pairs_are ∙ sym (ap (λ o. cond (is_some o) b.pairs (with_pair b.pairs (k, epoch))) planned_pair))
      (rows_are ∙ sym planned_rows)

  pub planned_moments : All HasMoments (change_row (noted_row fact b.moment) passed k)
  planned_moments = subst (All HasMoments) planned_rows (book_moments self (apply b.moment (Planned k start tool epoch) b) after)

  module _ (run : Booking) (is : run ≡ planned_reservation start r) where
    pub plan_way : closed_each b.moment run.key run.class run.interval bs b.rows ≡ passed
    plan_way =
        ap (λ (x : Booking). closed_each b.moment x.key x.class x.interval bs b.rows) is
        ∙ (ap (λ l. closed_each b.moment r.key (test_class r.test) planned l b.rows) sound.index
        ∙ closed_preempted b.moment r.key (test_class r.test) planned b.rows sound.lawful.ascending apart)

    pub plan_fact : PlannedFact tool run.interval ≡ fact
    plan_fact = ap (λ (x : Booking). PlannedFact tool x.interval) is

    module _ (gone : List Booking) (gone_is : gone ≡ without_conflicts run.class run.interval bs) where
      gone_others : gone ≡ others
      gone_others = gone_is ∙ ap (λ (x : Booking). without_conflicts x.class x.interval bs) is

      pub plan_key : find_booking gone run.key ≡ None
      plan_key = ap (λ (x : Booking). find_booking gone x.key) is ∙ (ap (λ l. find_booking l r.key) gone_others ∙ others_none)

      pub plan_free : conflicting run.class run.interval gone ≡ []
      plan_free = ap (λ (x : Booking). conflicting x.class x.interval gone) is ∙ (ap (conflicting (test_class r.test) planned) gone_others ∙ others_free)

      pub plan_sound : (pairs : List (RunKey × ℕ)) (rows : List RunRow) (bookings : List Booking) → pairs ≡ with_pair b.pairs (k, epoch) → rows ≡ change_row (noted_row fact b.moment) passed k → bookings ≡ with_booking gone run → IsSound self (record b { pairs = pairs; rows = rows }) bookings
      plan_sound pairs rows bookings pairs_are rows_are bookings_are =
          subst (λ l. IsSound self (record b { pairs = pairs; rows = rows }) l) (sym (bookings_are ∙ ap₂ with_booking gone_others is))
          (subst (λ x. IsSound self x (with_booking others (planned_reservation start r))) (sym (planned_book pairs rows pairs_are rows_are)) planned_sound)
