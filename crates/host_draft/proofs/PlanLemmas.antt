-- What a draft keeps of its parts as a run is planned.
use Rattle.std.specs.Prelude.{IfSome, MatchOption}
use Rattle.std.proofs.Common.{◌≡◌, ◌-◌, ◌++◌, ◌∷◌, ℕ, true, false, cond, List, [], Option, Some, None, is_some, option_map, length, refl, ap, sym, subst, ◌∙◌, arith}
use Rattle.std.proofs.lemmas.List.{length-map}
use Rattle.ps_time.specs.declared.key.RunKey.{RunKey}
use Rattle.limit_apply.specs.Limits.{LimitsConfig as Limits}
use Rattle.run_states.specs.Conflict.{preempted_row, preempted_rows}
use Rattle.run_states.specs.Effect.{noted_row}
use Rattle.run_states.specs.Life.{is_booked}
use Rattle.run_states.specs.Preemption.{conflicts}
use Rattle.run_states.specs.ResultBytes.{result_bytes}
use Rattle.run_states.specs.Rows.{change_row, find_row, put_row, IsAscendingRows}
use Rattle.run_states.specs.declared.fact.Fact.TheVariants.{Planned as PlannedFact}
use Rattle.run_states.specs.declared.row.RunRow.{RunRow}
use Rattle.run_states.proofs.Place.{noted_key, preempted_key}
use Rattle.host_timeline.specs.Booking.{conflicting, keys_of}
use Rattle.host_timeline.specs.declared.booking.Booking.{Booking}
use Rattle.host_rows.specs.Closing.{closed_keys}
use Rattle.host_rows.proofs.LiveLemmas.{length_changed}
use Rattle.part_core.specs.Reservations.{bookings_of}
use Rattle.part_core.specs.Seen.{IsUnbooked}
use Rattle.host_model.specs.Apply.{apply, put_new}
use Rattle.host_model.specs.Book.{Book, keys_of_rows}
use Rattle.host_model.specs.declared.change.Change.{Change}
use Rattle.host_model.specs.declared.change.Change.TheVariants.{Planned}
use Rattle.host_model.proofs.Standing.{find_row-map}
use Rattle.host_draft.specs.Draft.{IsDraft, Seen, book_now}
use Rattle.host_draft.specs.Making.{IsAdmitted}
use Rattle.draft_parts.specs.Overlay.{below, named, over}
use Rattle.draft_parts.specs.Way.{planned_way, touched_each, IsPlannedWay}
use Rattle.draft_parts.specs.declared.giving_way.Incoming.{Incoming}
use Rattle.host_draft.proofs.DraftLemmas.{bytes_kept, shown}
use Rattle.host_draft.proofs.KindLemmas.{plan_apart, plan_bytes, plan_rows}
use Rattle.host_draft.proofs.MakeLemmas.{can, kept, spoken}
use Rattle.draft_parts.proofs.OverLemmas.{below_own, found_marked}
use Rattle.host_draft.proofs.WayLemmas.{bytes_way, closed_way, found_way, left_apart, way_left, way_own, way_same}

-- a row that is there isn't put
put_there : (rows : List RunRow) (k : RunKey) (o : Option RunRow) → ((x : RunRow) → o ≡ Some x → x.key ≡ k) → is_some (find_row rows k) ≡ true → put_new o rows ≡ rows
put_there rows k None own there = refl
put_there rows k (Some x) own there = ap (λ b. cond b rows (put_row rows x)) (ap (λ j. is_some (find_row rows j)) (own x refl) ∙ there)

module _ (number m : ℕ) (limits : Limits) (b : Book) (cs : List Change) (ts : List RunRow) (gone : List RunKey) (epoch count bytes places left : ℕ)
    (sound : IsDraft number m b (book_now m cs b) ts gone epoch count bytes left) (s : Seen) (seen : shown number limits (book_now m cs b) cs places left ≡ s)
    (size : ℕ) (run : Incoming) (start : ℕ) (tool : List ℕ) (e : ℕ) (due : IsAdmitted size (Planned run.key start tool e) s)
    (r : RunRow) (found : find_row (book_now m cs b).rows run.key ≡ Some r) (is : run ≡ planned_way start r) where
  -- its rows
  now_rows : (apply m (Planned run.key start tool e) (book_now m cs b)).rows ≡ change_row (noted_row (PlannedFact tool run.interval) m) (preempted_rows m run.key run.class run.interval (book_now m cs b).rows) run.key
  now_rows =
      plan_rows number m (book_now m cs b) sound.at sound.lawful run.key start tool e (can number m limits b cs ts gone epoch count bytes places left sound s seen size (Planned run.key start tool e) due) (spoken number m limits b cs ts gone epoch count bytes places left sound s seen size (Planned run.key start tool e) due) r found
      ∙ ap (λ (x : Incoming). change_row (noted_row (PlannedFact tool x.interval) m) (preempted_rows m x.key x.class x.interval (book_now m cs b).rows) run.key) (sym is)

  apart : IsUnbooked run.key (book_now m cs b).rows
  apart =
      subst (λ (x : Incoming). IsUnbooked x.key (book_now m cs b).rows) (sym is)
      (plan_apart number m (book_now m cs b) sound.at sound.lawful run.key start tool e (can number m limits b cs ts gone epoch count bytes places left sound s seen size (Planned run.key start tool e) due) (spoken number m limits b cs ts gone epoch count bytes places left sound s seen size (Planned run.key start tool e) due) r found)

  -- the copies
  module _ (copies : List RunRow) (bookings : List Booking) (index : bookings ≡ bookings_of b.rows) (up : IsAscendingRows copies)
      (made : copies ≡ put_new (below gone b.rows run.key) (touched_each gone b.rows (keys_of (conflicting run.class run.interval bookings)) ts)) where
    own : find_row copies run.key ≡ find_row (book_now m cs b).rows run.key
    own = ap (λ l. find_row l run.key) made ∙ (way_own gone b.rows (keys_of (conflicting run.class run.interval bookings)) run.key ts ∙ sym (sound.found run.key))

    pub copies_apart : IsUnbooked run.key copies
    copies_apart = subst (λ o. IfSome o (λ x. is_booked x ≡ false)) (sym own) apart

    way_found : (j : RunKey) → find_row (preempted_rows m run.key run.class run.interval (book_now m cs b).rows) j ≡ over (preempted_rows m run.key run.class run.interval copies) gone b.rows j
    way_found =
        found_way m run.key run.class run.interval (book_now m cs b).rows copies gone b.rows
        (λ j. sound.found j ∙ (sym (way_same gone b.rows (keys_of (conflicting run.class run.interval bookings)) run.key ts j) ∙ ap (λ l. over l gone b.rows j) (sym made)))
        (λ j x none under. left_apart m run.key run.class run.interval b.rows gone j x under
        (ap (λ bs. named j (keys_of (conflicting run.class run.interval bs))) (sym index)
        ∙ way_left gone b.rows (keys_of (conflicting run.class run.interval bookings)) run.key ts j x (ap (λ l. find_row l j) (sym made) ∙ none) under))

    there : is_some (find_row (preempted_rows m run.key run.class run.interval copies) run.key) ≡ true
    there =
        ap is_some (find_row-map (preempted_row m run.key run.class run.interval) (preempted_key m run.key run.class run.interval) copies run.key
        ∙ ap (option_map (preempted_row m run.key run.class run.interval)) (own ∙ found))

    pub planned_kept : (later : List Change) (over_it : List RunRow) (l : ℕ) → later ≡ cs ++ Planned run.key start tool e ∷ []
        → over_it ≡ change_row (noted_row (PlannedFact tool run.interval) m) (closed_keys m run.key (keys_of_rows (conflicts run.key run.class run.interval copies)) copies) run.key
        → l ≡ left - size → IsDraft number m b (book_now m later b) over_it gone epoch count bytes l
    planned_kept later over_it l next over_is less =
        let f : RunRow → RunRow = noted_row (PlannedFact tool run.interval) m in
        let way : List RunRow = preempted_rows m run.key run.class run.interval (book_now m cs b).rows in
        let passed : List RunRow = preempted_rows m run.key run.class run.interval copies in
        kept number m limits b cs ts gone epoch count bytes places left sound s seen size (Planned run.key start tool e) due later over_it gone count bytes l next refl refl
        (λ j. ap (λ x. find_row x j) now_rows
        ∙ (found_marked (below gone b.rows) (below_own gone b.rows) f (noted_key (PlannedFact tool run.interval) m) way passed run.key way_found j
        ∙ (ap (λ x. over (change_row f x run.key) gone b.rows j) (put_there passed run.key (below gone b.rows run.key) (below_own gone b.rows run.key) there)
        ∙ ap (λ x. over x gone b.rows j) (sym (over_is ∙ ap (λ x. change_row f x run.key) (closed_way m run.key run.class run.interval copies up copies_apart))))))
        (let all = ap length now_rows in let many = length_changed f way run.key in let same = length-map (book_now m cs b).rows (preempted_row m run.key run.class run.interval) in omega (arith, all, many, same, sound.count))
        (sound.bytes ∙ sym (ap result_bytes now_rows ∙ (bytes_kept f (plan_bytes tool run.interval m) way run.key ∙ bytes_way m run.key run.class run.interval (book_now m cs b).rows)))
        (omega arith)
        less

-- the run of a row that is found
pub way_is : (rows : List RunRow) (k : RunKey) (r : RunRow) (start : ℕ) (run : Incoming) → find_row rows k ≡ Some r → run.key ≡ k → run ≡ planned_way start r → IsPlannedWay start run rows
way_is rows k r start run found own is = subst (λ o. MatchOption o ⊥ (λ x. run ≡ planned_way start x)) (sym (ap (find_row rows) own ∙ found)) is

module _ (number m : ℕ) (limits : Limits) (b : Book) (cs : List Change) (ts : List RunRow) (gone : List RunKey) (epoch count bytes places left : ℕ)
    (sound : IsDraft number m b (book_now m cs b) ts gone epoch count bytes left) (s : Seen) (seen : shown number limits (book_now m cs b) cs places left ≡ s)
    (size : ℕ) (run : Incoming) (start : ℕ) (tool : List ℕ) (e : ℕ) (due : IsAdmitted size (Planned run.key start tool e) s) (way : IsPlannedWay start run s.draft.book.rows) where
  pub plan_kept : (copies : List RunRow) (bookings : List Booking) → bookings ≡ bookings_of b.rows → IsAscendingRows copies
      → copies ≡ put_new (below gone b.rows run.key) (touched_each gone b.rows (keys_of (conflicting run.class run.interval bookings)) ts)
      → (later : List Change) (over_it : List RunRow) (l : ℕ) → later ≡ cs ++ Planned run.key start tool e ∷ []
      → over_it ≡ change_row (noted_row (PlannedFact tool run.interval) m) (closed_keys m run.key (keys_of_rows (conflicts run.key run.class run.interval copies)) copies) run.key
      → l ≡ left - size → IsDraft number m b (book_now m later b) over_it gone epoch count bytes l
  plan_kept copies bookings index up made later over_it l next over_is less =
      go (find_row (book_now m cs b).rows run.key) refl (subst (λ (x : Seen). IsPlannedWay start run x.draft.book.rows) (sym seen) way)
    where
      go : (o : Option RunRow) → find_row (book_now m cs b).rows run.key ≡ o → MatchOption o ⊥ (λ r. run ≡ planned_way start r) → IsDraft number m b (book_now m later b) over_it gone epoch count bytes l
      go None found is = absurd is
      go (Some r) found is = planned_kept number m limits b cs ts gone epoch count bytes places left sound s seen size run start tool e due r found is copies bookings index up made later over_it l next over_is less
