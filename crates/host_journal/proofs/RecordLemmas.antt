-- What holds at each exit of a call that adds a record, or cuts what lies behind the last.
use Rattle.std.proofs.Common.{◌≡◌, ◌≢◌, ◌⊎◌, inl, inr, ℕ, ◌+◌, ◌≤◌, Bool, true, false, List, [], ◌∷◌, ◌++◌, length, Result, refl, sym, ◌∙◌, ap, subst, arith, length-append}
use Rattle.std.specs.Int.{w32, to_be_bytes}
use Rattle.ps_disks.specs.Disk.{written, Torn, Shortened, Follows, Only, LeavesOnly}
use Rattle.host_journal.specs.Calls.{PartAfter}
use Rattle.host_journal.specs.Moments.{Shows, Adds}
use Rattle.host_journal.specs.State.{State, is_ready, stored, with_record, has_record, which, EachImage, EachSince, IsWhole, IsSound}
use Rattle.host_journal.specs.declared.pending.Pending.{Pending}
use Rattle.host_journal.specs.declared.pending.Pending.TheVariants.{Nothing, Unopened, Record}
use Rattle.host_journal.specs.declared.reading.Counted.{Counted}
use Rattle.host_journal.specs.declared.reading.DiskPlace.{DiskPlace}
use Rattle.host_journal.proofs.AddsLemmas.{leaves_adds, adds_counting, adds_of, since_now}
use Rattle.host_journal.proofs.AppendLemmas.{whole_torn, whole_cut}
use Rattle.host_journal.proofs.CallLemmas.{leaves_more}
use Rattle.host_journal.proofs.FormatLemmas.{eq_true, ne_false}
use Rattle.host_journal.proofs.PairLemmas.{counts_as}
use Rattle.host_journal.proofs.StateLemmas.{Ready, ready, stored_is, is_shows, has_shows, Has, Either, Staged, staged, gate_images, staged_is_either, gate_moments, gate_opened, each_since, is_or_has, now_has, each_has, each_since_same, now_same, each_same, sound_unopened, sound_record, sound_nothing}

-- another disk counts in its place
abbrev pub moved : {D : Type 0} → State D → D → ℕ → Pending → ℕ → State D
moved s counting end pending room = record { counting = counting; other = s.other; second = s.second; generation = s.generation; start = s.start; end = end; shut = s.shut; pending = pending; room = room }

-- A record stands where the last gate byte does.
which_is : (payload : List ℕ) (second : Bool) (generation start end next : ℕ) (list : List (List ℕ)) (old pair : Result Counted DiskPlace) → old ≡ counts_as second generation start end list
    → next ≡ end + 5 + length payload → (pair ≡ old) ⊎ (pair ≡ with_record payload old) → pair ≡ which payload (has_record (Record next) pair) old
which_is payload second generation start end next list old pair is_old is_next (inl same) =
    let less : end ≢ next = λ at_once. absurd (omega (arith, at_once, is_next)) in
    let no : has_record (Record next) pair ≡ false = ap (has_record (Record next)) (same ∙ is_old) ∙ ne_false end next less in
    same ∙ sym (ap (λ (t : Bool). which payload t old) no)
which_is payload second generation start end next list old pair is_old is_next (inr more) =
    let yes : has_record (Record next) pair ≡ true = ap (has_record (Record next)) (more ∙ ap (with_record payload) is_old) ∙ eq_true (end + 5 + length payload) next (sym is_next) in
    more ∙ sym (ap (λ (t : Bool). which payload t old) yes)

-- the invariant, what a read gives, every image of every moment, and what of them is new
pub record Exit {D : Type 0} (seen : D → List ℕ) (may_leave : D → List ℕ → Type 0) (moment : D → ℕ) (left_since : D → ℕ → List ℕ → Type 0) (old new : State D) (P : Result Counted DiskPlace → Type 0)
    (Q : Bool → List ℕ → Type 0) : Type 0 where
  pub sound : IsSound seen may_leave new
  pub now : P (stored seen new)
  pub since : EachSince moment left_since old new P
  pub adds : Adds moment left_since old new Q

pub exit_left : {D : Type 0} (seen : D → List ℕ) (may_leave : D → List ℕ → Type 0) (moment : D → ℕ) (left_since : D → ℕ → List ℕ → Type 0) (counts_now : (disk : D) (t : ℕ) (c : List ℕ) → t ≤ moment disk → may_leave disk c → left_since disk t c)
    (old new : State D) (P : Result Counted DiskPlace → Type 0) (Q : Bool → List ℕ → Type 0) → Exit seen may_leave moment left_since old new P Q → EachImage may_leave new P
exit_left seen may_leave moment left_since counts_now old new P Q exit = since_now moment left_since may_leave counts_now old new Q P exit.adds exit.since

module _ {D : Type 0} (seen : D → List ℕ) (may_leave : D → List ℕ → Type 0) (moment : D → ℕ) (left_since : D → ℕ → List ℕ → Type 0)
    (reads_now : (disk : D) → may_leave disk (seen disk)) (only_now : (disk : D) (c : List ℕ) → left_since disk (moment disk) c → may_leave disk c)
    (s old : State D) (is : s ≡ old) (ready_now : is_ready old.pending ≡ true) (sound : IsSound seen may_leave s) (new : D) (room : ℕ) where
  was_ready : Ready seen may_leave s
  was_ready = ready seen may_leave moment left_since reads_now only_now s (ap (λ (o : State D). is_ready o.pending) is ∙ ready_now) sound

  abbrev Whole : List ℕ → Type 0
  Whole c = IsWhole s.generation s.start s.end was_ready.list c

  abbrev Same : State D → Result Counted DiskPlace → Type 0
  Same o pair = pair ≡ stored seen o

  -- A cut.
  cut_whole : (c d : List ℕ) → may_leave s.counting c → Shortened (s.end + 1) c d → Whole d
  cut_whole c d now cut = whole_cut s.generation s.start s.end was_ready.list c d (was_ready.counting c now) cut

  cut_images : Follows (Shortened (s.end + 1)) (may_leave s.counting) (may_leave new) → (d : List ℕ) → may_leave new d → Whole d
  cut_images follows d now = let from = follows d now in cut_whole from.0 d from.1 from.2

  cut_now : Shortened (s.end + 1) (seen s.counting) (seen new) → Whole (seen new)
  cut_now part = cut_whole (seen s.counting) (seen new) (reads_now s.counting) part

  cut_since : (end : ℕ) (pending : Pending) → LeavesOnly moment left_since s.counting new (PartAfter (Shortened (s.end + 1)) (may_leave s.counting)) → EachSince moment left_since old (moved s new end pending room) (Same old)
  cut_since end pending moments =
      let whole = leaves_more moment left_since s.counting new (PartAfter (Shortened (s.end + 1)) (may_leave s.counting)) Whole moments (λ d from. cut_whole from.0 d from.1 from.2) in
      subst (λ (o : State D). EachSince moment left_since o (moved s new end pending room) (Same o)) is
      (each_since_same seen may_leave moment left_since reads_now only_now s was_ready new whole)

  cut_adds : (end : ℕ) (pending : Pending) → LeavesOnly moment left_since s.counting new (PartAfter (Shortened (s.end + 1)) (may_leave s.counting)) → Adds moment left_since old (moved s new end pending room) (Shows (stored seen old))
  cut_adds end pending moments =
      let adds = leaves_adds moment left_since s.counting new (PartAfter (Shortened (s.end + 1)) (may_leave s.counting)) (Shows (stored seen s) s.second) moments
      (λ d from. is_shows seen may_leave moment left_since reads_now only_now s was_ready d (cut_whole from.0 d from.1 from.2)) in
      subst (λ (o : State D). Adds moment left_since o (moved s new end pending room) (Shows (stored seen o))) is
      (adds_of moment left_since s (moved s new end pending room) (Shows (stored seen s)) (adds_counting moment left_since s.second s.counting s.other new (Shows (stored seen s)) adds))

  pub cut_failed : Shortened (s.end + 1) (seen s.counting) (seen new) → Follows (Shortened (s.end + 1)) (may_leave s.counting) (may_leave new)
      → LeavesOnly moment left_since s.counting new (PartAfter (Shortened (s.end + 1)) (may_leave s.counting)) → Exit seen may_leave moment left_since old (moved s new s.end Unopened room) (Same old) (Shows (stored seen old))
  cut_failed part follows moments = record {
    sound = sound_unopened seen may_leave moment left_since reads_now only_now s was_ready new room (cut_images follows);
    now = now_same seen may_leave moment left_since reads_now only_now s was_ready new (cut_now part) ∙ ap (stored seen) is;
    since = cut_since s.end Unopened moments;
    adds = cut_adds s.end Unopened moments;
  }

  pub cut_done : Shortened (s.end + 1) (seen s.counting) (seen new) → Only (seen new) (may_leave new)
      → LeavesOnly moment left_since s.counting new (PartAfter (Shortened (s.end + 1)) (may_leave s.counting)) → Exit seen may_leave moment left_since old (moved s new s.end Nothing room) (Same old) (Shows (stored seen old))
  cut_done part only moments = record {
    sound = sound_nothing seen may_leave moment left_since reads_now only_now s was_ready new room s.end was_ready.list (cut_now part) only;
    now = now_same seen may_leave moment left_since reads_now only_now s was_ready new (cut_now part) ∙ ap (stored seen) is;
    since = cut_since s.end Nothing moments;
    adds = cut_adds s.end Nothing moments;
  }

  pub cut_durable : Shortened (s.end + 1) (seen s.counting) (seen new) → Only (seen new) (may_leave new) → EachImage may_leave (moved s new s.end Nothing room) (Same old)
  cut_durable part only =
      subst (λ (o : State D). EachImage may_leave (moved s new s.end Nothing room) (Same o)) is
      (each_same seen may_leave moment left_since reads_now only_now s was_ready new (λ d now. subst Whole (sym (only d now)) (cut_now part)))

  -- A record.
  module _ (payload : List ℕ) where
    abbrev OrMore : State D → Result Counted DiskPlace → Type 0
    OrMore o pair = (pair ≡ stored seen o) ⊎ (pair ≡ with_record payload (stored seen o))

    abbrev Held : List ℕ → Type 0
    Held c = Either seen may_leave moment left_since reads_now only_now s was_ready payload c

    abbrev ShowsEither : State D → Bool → List ℕ → Type 0
    ShowsEither o second c = Shows (stored seen o) second c ⊎ Shows (with_record payload (stored seen o)) second c

    held_shows : (c : List ℕ) → Held c → ShowsEither s s.second c
    held_shows c (inl whole) = inl (is_shows seen may_leave moment left_since reads_now only_now s was_ready c whole)
    held_shows c (inr more) = inr (has_shows seen may_leave moment left_since reads_now only_now s was_ready payload c more)

    record_adds : (counting : D) (end : ℕ) (pending : Pending) → LeavesOnly moment left_since s.counting counting Held → Adds moment left_since old (moved s counting end pending room) (ShowsEither old)
    record_adds counting end pending moments =
        let adds = leaves_adds moment left_since s.counting counting Held (ShowsEither s s.second) moments held_shows in
        subst (λ (o : State D). Adds moment left_since o (moved s counting end pending room) (ShowsEither o)) is
        (adds_of moment left_since s (moved s counting end pending room) (ShowsEither s) (adds_counting moment left_since s.second s.counting s.other counting (ShowsEither s) adds))

    record_since : (counting : D) (end : ℕ) (pending : Pending) → LeavesOnly moment left_since s.counting counting Held → EachSince moment left_since old (moved s counting end pending room) (OrMore old)
    record_since counting end pending moments =
        subst (λ (o : State D). EachSince moment left_since o (moved s counting end pending room) (OrMore o)) is
        (each_since seen may_leave moment left_since reads_now only_now s was_ready payload counting moments)

    module _ (piece : List ℕ) (is_piece : piece ≡ to_be_bytes w32 (length payload) ++ (payload ++ 0 ∷ [])) (mid : D)
        (moments : LeavesOnly moment left_since s.counting mid (PartAfter (Torn (s.end + 1) (length piece)) (may_leave s.counting))) where
      behind_whole : (c d : List ℕ) → may_leave s.counting c → Torn (s.end + 1) (length piece) c d → Whole d
      behind_whole c d now torn = whole_torn s.generation s.start s.end was_ready.list (length piece) c d (was_ready.counting c now) torn

      behind_moments : LeavesOnly moment left_since s.counting mid Whole
      behind_moments = leaves_more moment left_since s.counting mid (PartAfter (Torn (s.end + 1) (length piece)) (may_leave s.counting)) Whole moments (λ d from. behind_whole from.0 d from.1 from.2)

      behind_held : LeavesOnly moment left_since s.counting mid Held
      behind_held = leaves_more moment left_since s.counting mid Whole Held behind_moments (λ d whole. inl whole)

      -- it fails before the gate byte
      pub unopened_same : Torn (s.end + 1) (length piece) (seen s.counting) (seen mid) → stored seen (moved s mid s.end Unopened room) ≡ stored seen old
      unopened_same part = now_same seen may_leave moment left_since reads_now only_now s was_ready mid (behind_whole (seen s.counting) (seen mid) (reads_now s.counting) part) ∙ ap (stored seen) is

      pub append_unopened : Torn (s.end + 1) (length piece) (seen s.counting) (seen mid) → Follows (Torn (s.end + 1) (length piece)) (may_leave s.counting) (may_leave mid)
          → Exit seen may_leave moment left_since old (moved s mid s.end Unopened room) (OrMore old) (ShowsEither old)
      append_unopened part follows = record {
        sound = sound_unopened seen may_leave moment left_since reads_now only_now s was_ready mid room (λ d now. let from = follows d now in behind_whole from.0 d from.1 from.2);
        now = inl (unopened_same part);
        since = record_since mid s.end Unopened behind_held;
        adds = record_adds mid s.end Unopened behind_held;
      }

      -- it comes to the gate byte
      module _ (small : length payload ≤ 8388608) (made : seen mid ≡ written (s.end + 1) piece (seen s.counting)) (only : Only (seen mid) (may_leave mid))
          (gate_moves : LeavesOnly moment left_since mid new (PartAfter (Torn s.end 1) (may_leave mid))) (count : ℕ) (is_count : count ≡ length piece) where
        abbrev end : ℕ
        end = s.end + count

        is_end : end ≡ s.end + 5 + length payload
        is_end =
            let four : length (to_be_bytes w32 (length payload)) ≡ 4 = refl in
            omega (arith, is_count, ap length is_piece, length-append (to_be_bytes w32 (length payload)) (payload ++ 0 ∷ []), length-append payload (0 ∷ []), four)

        is_staged : Staged seen may_leave moment left_since reads_now only_now s was_ready payload mid (seen mid)
        is_staged =
            staged seen may_leave moment left_since reads_now only_now s was_ready payload mid (omega (arith, small))
            (made ∙ ap (λ (l : List ℕ). written (s.end + 1) l (seen s.counting)) is_piece)

        gate_held : LeavesOnly moment left_since s.counting new Held
        gate_held = gate_moments seen may_leave moment left_since reads_now only_now s was_ready payload mid is_staged only new behind_moments gate_moves

        pub append_at_gate : Follows (Torn s.end 1) (may_leave mid) (may_leave new) → Exit seen may_leave moment left_since old (moved s new s.end (Record end) room) (OrMore old) (ShowsEither old)
        append_at_gate follows =
            let images = gate_images seen may_leave moment left_since reads_now only_now s was_ready payload mid is_staged only new follows in
            record {
              sound = sound_record seen may_leave moment left_since reads_now only_now s was_ready new room payload end is_end images;
              now = subst (λ (o : State D). OrMore o (stored seen (moved s new s.end (Record end) room))) is
                  (is_or_has seen may_leave moment left_since reads_now only_now s was_ready payload new
                  (staged_is_either seen may_leave moment left_since reads_now only_now s was_ready payload mid is_staged only new (seen new) (images (seen new) (reads_now new))));
              since = record_since new s.end (Record end) gate_held;
              adds = record_adds new s.end (Record end) gate_held;
            }

        pub gate_which : Follows (Torn s.end 1) (may_leave mid) (may_leave new)
            → stored seen (moved s new s.end (Record end) room) ≡ which payload (has_record (Record end) (stored seen (moved s new s.end (Record end) room))) (stored seen old)
        gate_which follows =
            which_is payload s.second s.generation s.start s.end end was_ready.list (stored seen old) (stored seen (moved s new s.end (Record end) room))
            (ap (stored seen) (sym is) ∙ stored_is seen may_leave moment left_since reads_now only_now s was_ready) is_end (append_at_gate follows).now

        -- it is done
        module _ (gate_made : seen new ≡ written s.end (1 ∷ []) (seen mid)) (only_new : Only (seen new) (may_leave new)) where
          has : Has seen may_leave moment left_since reads_now only_now s was_ready payload (seen new)
          has = gate_opened seen may_leave moment left_since reads_now only_now s was_ready payload mid is_staged only new gate_made

          pub appended : stored seen (moved s new end Nothing room) ≡ with_record payload (stored seen old)
          appended = now_has seen may_leave moment left_since reads_now only_now s was_ready payload new has ∙ ap (λ (o : State D). with_record payload (stored seen o)) is

          pub append_durable : EachImage may_leave (moved s new end Nothing room) (λ pair. pair ≡ stored seen (moved s new end Nothing room))
          append_durable = each_has seen may_leave moment left_since reads_now only_now s was_ready payload new has only_new

          pub append_done : Exit seen may_leave moment left_since old (moved s new end Nothing room) (OrMore old) (ShowsEither old)
          append_done = record {
            sound = sound_nothing seen may_leave moment left_since reads_now only_now s was_ready new room end (was_ready.list ++ payload ∷ [])
                (subst (λ (n : ℕ). IsWhole s.generation s.start n (was_ready.list ++ payload ∷ []) (seen new)) (sym is_end) has) only_new;
            now = inr appended;
            since = record_since new end Nothing gate_held;
            adds = record_adds new end Nothing gate_held;
          }
