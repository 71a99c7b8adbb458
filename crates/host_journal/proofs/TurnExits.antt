-- What holds at each exit of a snapshot, from what its calls ensure.
use Rattle.std.proofs.Common.{◌≡◌, ◌⊎◌, inl, inr, ℕ, ◌+◌, ◌<◌, ◌^◌, Bool, true, false, not, List, [], ◌∷◌, ◌++◌, length, take, refl, sym, ◌∙◌, ap, subst, arith, length-append}
use Rattle.std.specs.Prelude.{Option}
use Rattle.std.specs.Int.{w32, w64, to_be_bytes}
use Rattle.ps_disks.specs.Disk.{written, Torn, Follows, Only, LeavesOnly}
use Rattle.ps_disks.specs.declared.disk.DiskCall.{DiskCall}
use Rattle.ps_disks.specs.declared.disk.DiskCall.TheVariants.{Write, Cut, Sync}
use Rattle.host_journal.specs.Calls.{PartAfter, KeepsHead}
use Rattle.host_journal.specs.Moments.{Shows, LiesBeside}
use Rattle.host_journal.specs.Pair.{gates_at}
use Rattle.host_journal.specs.State.{State, is_ready, stored, snapshot_of, close_calls as closing_calls, fill_calls, snapshot_calls, image_bytes, closing, EachImage, IsClosed, IsSound}
use Rattle.host_journal.specs.Told.{TellsAll, MakesAll, TellsFirst, TellsBoth}
use Rattle.host_journal.specs.declared.pending.Pending.{Pending}
use Rattle.host_journal.specs.declared.pending.Pending.TheVariants.{Nothing, Unopened, Snapshot}
use Rattle.host_journal.proofs.CallLemmas.{tells_on}
use Rattle.host_journal.proofs.HeadLemmas.{aside_below}
use Rattle.host_journal.proofs.RecordLemmas.{Exit}
use Rattle.host_journal.proofs.StateLemmas.{Ready, ready}
use Rattle.host_journal.proofs.TakenLemmas.{Fixed, fixed_sound}
use Rattle.host_journal.proofs.ToldLemmas.{told_part, told_rest}
use Rattle.host_journal.proofs.TurnLemmas.{Below, Holds, Either, close_images, close_moments, closed, rest_images, rest_moments, image_put, gate_images, holds_either, gate_moments, gate_opened, kept_since, kept_since_below, kept_adds, kept_adds_below, turned_adds, kept_stored, turned_each, turned_fixed, turned_counts, turned_durable, sound_closing, sound_closed, sound_held}

-- the place of the gate byte behind an image
image_end : (generation : ℕ) (image piece : List ℕ) (start : ℕ) → piece ≡ image_bytes generation image → start ≡ 8 + length piece → start ≡ gates_at image
image_end generation image piece start is starts =
    let number = to_be_bytes w64 generation in
    let size = to_be_bytes w32 (length image) in
    let eight : length number ≡ 8 = refl in
    let four : length size ≡ 4 = refl in
    omega (arith, starts, ap length is, length-append number (size ++ (image ++ 0 ∷ [])), length-append size (image ++ 0 ∷ []), length-append image (0 ∷ []), eight, four)

module _ {D : Type 0} (seen : D → List ℕ) (may_leave : D → List ℕ → Type 0) (moment : D → ℕ) (left_since : D → ℕ → List ℕ → Type 0)
    (reads_now : (disk : D) → may_leave disk (seen disk)) (only_now : (disk : D) (c : List ℕ) → left_since disk (moment disk) c → may_leave disk c)
    (s old : State D) (is : s ≡ old) (ready_now : is_ready old.pending ≡ true) (sound : IsSound seen may_leave s) (image : List ℕ) (room : ℕ) where
  was_ready : Ready seen may_leave s
  was_ready = ready seen may_leave moment left_since reads_now only_now s (ap (λ (o : State D). is_ready o.pending) is ∙ ready_now) sound

  abbrev Leaves : State D → Type 0
  Leaves now = Exit seen may_leave moment left_since old now (λ pair. (pair ≡ stored seen old) ⊎ (pair ≡ snapshot_of image old)) (λ second d. LiesBeside (stored seen old) second d ⊎ Shows (snapshot_of image old) second d)

  abbrev kept_with : D → Bool → Pending → State D
  kept_with other shut pending = record { counting = s.counting; other = other; second = s.second; generation = s.generation; start = s.start; end = s.end; shut = shut; pending = pending; room = room }

  module _ (shut : D) (moments : LeavesOnly moment left_since s.other shut (PartAfter (Torn 8 (length {A = ℕ} (closing s.shut))) (may_leave s.other)))
      (images : Follows (Torn 8 (length {A = ℕ} (closing s.shut))) (may_leave s.other) (may_leave shut)) where
    shut_moments : LeavesOnly moment left_since s.other shut (Below seen may_leave moment left_since reads_now only_now s was_ready image)
    shut_moments = close_moments seen may_leave moment left_since reads_now only_now s was_ready image shut moments

    -- The head gate byte wasn't closed for sure.
    pub closing_exit : Leaves (kept_with shut s.shut Unopened)
    closing_exit =
        let now = close_images seen may_leave moment left_since reads_now only_now s was_ready image shut images in
        record {
          sound = sound_closing seen may_leave moment left_since reads_now only_now s was_ready image shut room now;
          now = kept_stored seen may_leave moment left_since reads_now only_now s was_ready image old is shut s.shut Unopened room
              (inl (aside_below s.second s.generation s.shut (seen shut) (now (seen shut) (reads_now shut))));
          since = kept_since_below seen may_leave moment left_since reads_now only_now s was_ready image old is shut s.shut Unopened room shut_moments;
          adds = kept_adds_below seen may_leave moment left_since reads_now only_now s was_ready image old is shut s.shut Unopened room shut_moments;
        }

    module _ (wrote : seen shut ≡ written 8 (closing s.shut) (seen s.other)) (only : Only (seen shut) (may_leave shut)) (piece : List ℕ) (is_piece : piece ≡ image_bytes (s.generation + 1) image)
        (put : D) (put_follows : Follows KeepsHead (may_leave shut) (may_leave put)) (put_part : LeavesOnly moment left_since shut put (PartAfter KeepsHead (may_leave shut))) where
      is_shut : IsClosed (seen shut)
      is_shut = closed seen may_leave moment left_since reads_now only_now s was_ready image shut wrote

      put_moments : LeavesOnly moment left_since s.other put (Below seen may_leave moment left_since reads_now only_now s was_ready image)
      put_moments = rest_moments seen may_leave moment left_since reads_now only_now s was_ready image shut is_shut only shut_moments put put_part

      -- The image wasn't written for sure.
      pub putting_exit : Leaves (kept_with put true Unopened)
      putting_exit =
          let now = rest_images seen may_leave moment left_since reads_now only_now s was_ready image shut is_shut only shut_moments put put_follows in
          record {
            sound = sound_closed seen may_leave moment left_since reads_now only_now s was_ready image put room now;
            now = kept_stored seen may_leave moment left_since reads_now only_now s was_ready image old is put true Unopened room (inl (inl (now (seen put) (reads_now put))));
            since = kept_since_below seen may_leave moment left_since reads_now only_now s was_ready image old is put true Unopened room put_moments;
            adds = kept_adds_below seen may_leave moment left_since reads_now only_now s was_ready image old is put true Unopened room put_moments;
          }

      module _ (fits : s.generation + 1 < 2 ^ 64) (small : length image < 2 ^ 32) (put_wrote : seen put ≡ written 9 piece (take 9 (seen shut))) (put_only : Only (seen put) (may_leave put))
          (start : ℕ) (starts : start ≡ 8 + length piece) (new : D) (new_follows : Follows (Torn 8 1) (may_leave put) (may_leave new)) (new_part : LeavesOnly moment left_since put new (PartAfter (Torn 8 1) (may_leave put))) where
        is_put : Holds seen may_leave moment left_since reads_now only_now s was_ready image (seen put)
        is_put =
            image_put seen may_leave moment left_since reads_now only_now s was_ready image shut is_shut only shut_moments put fits small
            (put_wrote ∙ ap (λ (l : List ℕ). written 9 l (take 9 (seen shut))) is_piece)

        is_start : start ≡ gates_at image
        is_start = image_end (s.generation + 1) image piece start is_piece starts

        new_moments : LeavesOnly moment left_since s.other new (Either seen may_leave moment left_since reads_now only_now s was_ready image)
        new_moments = gate_moments seen may_leave moment left_since reads_now only_now s was_ready image put is_put put_only put_moments new new_part

        -- The head gate byte wasn't opened for sure.
        pub opening_exit : Leaves (kept_with new true (Snapshot start))
        opening_exit =
            let now = gate_images seen may_leave moment left_since reads_now only_now s was_ready image put is_put put_only put_moments new new_follows in
            record {
              sound = sound_held seen may_leave moment left_since reads_now only_now s was_ready image new start room is_start now;
              now = kept_stored seen may_leave moment left_since reads_now only_now s was_ready image old is new true (Snapshot start) room
                  (holds_either seen may_leave moment left_since reads_now only_now s was_ready image put is_put put_only put_moments new (seen new) (now (seen new) (reads_now new)));
              since = kept_since seen may_leave moment left_since reads_now only_now s was_ready image old is new true (Snapshot start) room new_moments;
              adds = kept_adds seen may_leave moment left_since reads_now only_now s was_ready image old is new true (Snapshot start) room new_moments;
            }

        module _ (new_wrote : seen new ≡ written 8 (1 ∷ []) (seen put)) (new_only : Only (seen new) (may_leave new)) (x y : D) (is_new : x ≡ new) (is_counting : y ≡ s.counting) where
          abbrev turned_now : State D
          turned_now = record { counting = x; other = y; second = not s.second; generation = s.generation + 1; start = start; end = start; shut = false; pending = Nothing; room = room }

          new_fixed : Fixed seen may_leave turned_now (image ∷ [])
          new_fixed =
              turned_fixed seen may_leave moment left_since reads_now only_now s was_ready image old is new x y is_new is_counting start is_start room
              (gate_opened seen may_leave moment left_since reads_now only_now s was_ready image put is_put put_only put_moments new new_wrote) new_only

          pub done_counts : stored seen turned_now ≡ snapshot_of image old
          done_counts = turned_counts seen may_leave moment left_since reads_now only_now s was_ready image old is new x y is_new is_counting start is_start room new_fixed

          pub done_durable : EachImage may_leave turned_now (λ pair. pair ≡ snapshot_of image old)
          done_durable = turned_durable seen may_leave moment left_since reads_now only_now s was_ready image old is new x y is_new is_counting start is_start room new_fixed

          pub done_exit : Leaves turned_now
          done_exit = record {
            sound = fixed_sound seen may_leave turned_now (image ∷ []) new_fixed refl;
            now = inr done_counts;
            since = turned_each seen may_leave moment left_since reads_now only_now s was_ready image old is new x y is_new is_counting start is_start room new_moments;
            adds = turned_adds seen may_leave moment left_since reads_now only_now s was_ready image old is new x y is_new is_counting start is_start room new_moments;
          }

-- The calls of a snapshot.
module _ {D : Type 0} (told : D → Option (List DiskCall)) (faults : D → ℕ) (calls_advance : D → D → Type 0) (calls_advance_refl : (disk : D) → calls_advance disk disk) (calls_advance_trans : (a b c : D) → calls_advance a b → calls_advance b c → calls_advance a c)
    (s old : State D) (is : s ≡ old) (image piece : List ℕ) (is_piece : piece ≡ image_bytes (s.generation + 1) image) where
  abbrev close_calls : List DiskCall
  close_calls = Write 8 (closing s.shut) ∷ Sync ∷ []

  abbrev put_calls : List ℕ → List DiskCall
  put_calls bytes = Cut 9 ∷ Write 9 bytes ∷ Sync ∷ []

  abbrev open_calls : List DiskCall
  open_calls = Write 8 (1 ∷ []) ∷ Sync ∷ []

  abbrev all_calls : State D → List DiskCall
  all_calls o = snapshot_calls o.shut (o.generation + 1) image

  abbrev first_calls : State D → List DiskCall
  first_calls o = closing_calls o.shut

  abbrev rest_calls : State D → List DiskCall
  rest_calls o = fill_calls (o.generation + 1) image

  first_of : (new : D) → TellsFirst told faults calls_advance s.other new (close_calls ++ (put_calls piece ++ open_calls)) → TellsFirst told faults calls_advance old.other new (all_calls old)
  first_of new first =
      subst (λ (o : State D). TellsFirst told faults calls_advance o.other new (all_calls o)) is
      (subst (λ (l : List ℕ). TellsFirst told faults calls_advance s.other new (close_calls ++ (put_calls l ++ open_calls))) is_piece first)

  -- where the image was being written, and where the gate byte was being opened
  rest_putting : (shut new : D) → TellsFirst told faults calls_advance shut new (put_calls piece) → TellsFirst told faults calls_advance shut new (put_calls piece ++ open_calls)
  rest_putting shut new first = told_part told faults calls_advance calls_advance_refl calls_advance_trans shut new (put_calls piece) open_calls first

  rest_opening : (shut put new : D) → MakesAll told faults calls_advance shut put (put_calls piece) → TellsFirst told faults calls_advance put new open_calls → TellsFirst told faults calls_advance shut new (put_calls piece ++ open_calls)
  rest_opening shut put new more first = told_rest told faults calls_advance calls_advance_refl calls_advance_trans shut put new (put_calls piece) open_calls more first

  behind_close : (shut new : D) → MakesAll told faults calls_advance s.other shut close_calls → TellsFirst told faults calls_advance shut new (put_calls piece ++ open_calls) → TellsFirst told faults calls_advance old.other new (all_calls old)
  behind_close shut new all rest = first_of new (told_rest told faults calls_advance calls_advance_refl calls_advance_trans s.other shut new close_calls (put_calls piece ++ open_calls) all rest)

  pub told_closing : (new : D) → TellsFirst told faults calls_advance s.other new close_calls → TellsFirst told faults calls_advance old.other new (all_calls old)
  told_closing new first = first_of new (told_part told faults calls_advance calls_advance_refl calls_advance_trans s.other new close_calls (put_calls piece ++ open_calls) first)

  pub told_putting : (shut new : D) → MakesAll told faults calls_advance s.other shut close_calls → TellsFirst told faults calls_advance shut new (put_calls piece) → TellsFirst told faults calls_advance old.other new (all_calls old)
  told_putting shut new all first = behind_close shut new all (rest_putting shut new first)

  pub told_opening : (shut put new : D) → MakesAll told faults calls_advance s.other shut close_calls → MakesAll told faults calls_advance shut put (put_calls piece) → TellsFirst told faults calls_advance put new open_calls
      → TellsFirst told faults calls_advance old.other new (all_calls old)
  told_opening shut put new all more first = behind_close shut new all (rest_opening shut put new more first)

  -- after the first two calls
  rest_of : (shut new : D) → MakesAll told faults calls_advance s.other shut close_calls → TellsFirst told faults calls_advance shut new (put_calls piece ++ open_calls) → TellsBoth told faults calls_advance old.other new (first_calls old) (rest_calls old)
  rest_of shut new all first =
      subst (λ (o : State D). TellsBoth told faults calls_advance o.other new (first_calls o) (rest_calls o)) is
      (record { mid = shut; before = all; first = subst (λ (l : List ℕ). TellsFirst told faults calls_advance shut new (put_calls l ++ open_calls)) is_piece first })

  pub shut_closing : (new : D) → TellsFirst told faults calls_advance s.other new close_calls → TellsFirst told faults calls_advance old.other new (first_calls old)
  shut_closing new first = subst (λ (o : State D). TellsFirst told faults calls_advance o.other new (first_calls o)) is first

  pub shut_putting : (shut new : D) → MakesAll told faults calls_advance s.other shut close_calls → TellsFirst told faults calls_advance shut new (put_calls piece) → TellsBoth told faults calls_advance old.other new (first_calls old) (rest_calls old)
  shut_putting shut new all first = rest_of shut new all (rest_putting shut new first)

  pub shut_opening : (shut put new : D) → MakesAll told faults calls_advance s.other shut close_calls → MakesAll told faults calls_advance shut put (put_calls piece) → TellsFirst told faults calls_advance put new open_calls
      → TellsBoth told faults calls_advance old.other new (first_calls old) (rest_calls old)
  shut_opening shut put new all more first = rest_of shut new all (rest_opening shut put new more first)

  pub told_done : (shut put new x : D) → TellsAll (told s.other) (told shut) close_calls → TellsAll (told shut) (told put) (put_calls piece) → TellsAll (told put) (told new) open_calls → x ≡ new
      → TellsAll (told old.other) (told x) (all_calls old)
  told_done shut put new x all more last is_new =
      let rest = tells_on (told shut) (told put) (told new) (put_calls piece) open_calls more last in
      let whole = tells_on (told s.other) (told shut) (told new) close_calls (put_calls piece ++ open_calls) all rest in
      subst (λ (o : State D). TellsAll (told o.other) (told x) (all_calls o)) is
      (subst (λ (l : List ℕ). TellsAll (told s.other) (told x) (close_calls ++ (put_calls l ++ open_calls))) is_piece
      (subst (λ (d : D). TellsAll (told s.other) (told d) (close_calls ++ (put_calls piece ++ open_calls))) (sym is_new) whole))
