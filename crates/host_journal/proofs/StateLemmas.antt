-- A journal's calls, from what they leave of the disk that counts.
use Rattle.std.proofs.Common.{◌≡◌, ◌⊎◌, inl, inr, ⊎_elim, ℕ, ◌+◌, ◌<◌, ◌^◌, Bool, true, false, if◌then◌else◌, List, [], ◌∷◌, ◌++◌, length, Result, refl, sym, ◌∙◌, ap, subst}
use Rattle.std.specs.Int.{w32, to_be_bytes}
use Rattle.ps_disks.specs.Disk.{written, Torn, Follows, Only, LeavesOnly}
use Rattle.host_journal.specs.Calls.{PartAfter}
use Rattle.host_journal.specs.Moments.{Shows}
use Rattle.host_journal.specs.Pair.{pair_of}
use Rattle.host_journal.specs.State.{State, is_ready, pair_in, stored, with_record, IsAside, IsBelow, IsWhole, IsStaged, Counting, Beside, IsSound}
use Rattle.host_journal.specs.declared.pending.Pending.{Pending}
use Rattle.host_journal.specs.declared.pending.Pending.TheVariants.{Nothing, Unopened, Record, Snapshot}
use Rattle.host_journal.specs.declared.reading.Counted.{Counted}
use Rattle.host_journal.specs.declared.reading.DiskPlace.{DiskPlace}
use Rattle.host_journal.proofs.AppendLemmas.{whole_torn, staged_written, staged_torn, staged_either, opened}
use Rattle.host_journal.proofs.CallLemmas.{leaves_on, leaves_more}
use Rattle.host_journal.proofs.HeadLemmas.{aside_below}
use Rattle.host_journal.proofs.PairLemmas.{counts_as, pair_whole, whole_shows}

-- Which disk is the first.
abbrev pub stored_of : {D : Type 0} → (D → List ℕ) → Bool → D → D → Result Counted DiskPlace
stored_of seen second counting other = pair_of (seen (if second then other else counting)) (seen (if second then counting else other))

pub stored_in : {D : Type 0} (seen : D → List ℕ) (second : Bool) (counting other : D) → stored_of seen second counting other ≡ pair_in second (seen counting) (seen other)
stored_in seen false counting other = refl
stored_in seen true counting other = refl

abbrev pub Since_of : {D : Type 0} → (D → ℕ) → (D → ℕ → List ℕ → Type 0) → Bool → D → D → D → D → (Result Counted DiskPlace → Type 0) → Type 0
Since_of moment left_since second counting other counting_new other_new P =
    (c d : List ℕ) → left_since (if second then other_new else counting_new) (moment (if second then other else counting)) c
    → left_since (if second then counting_new else other_new) (moment (if second then counting else other)) d → P (pair_of c d)

pub since_in : {D : Type 0} (moment : D → ℕ) (left_since : D → ℕ → List ℕ → Type 0) (second : Bool) (counting other counting_new other_new : D) (P : Result Counted DiskPlace → Type 0)
    → ((c d : List ℕ) → left_since counting_new (moment counting) c → left_since other_new (moment other) d → P (pair_in second c d)) → Since_of moment left_since second counting other counting_new other_new P
since_in moment left_since false counting other counting_new other_new P each = each
since_in moment left_since true counting other counting_new other_new P each = λ c d left left_other. each d c left_other left

abbrev pub Images_of : {D : Type 0} → (D → List ℕ → Type 0) → Bool → D → D → (Result Counted DiskPlace → Type 0) → Type 0
Images_of may_leave second counting other P = (c d : List ℕ) → may_leave (if second then other else counting) c → may_leave (if second then counting else other) d → P (pair_of c d)

pub images_in : {D : Type 0} (may_leave : D → List ℕ → Type 0) (second : Bool) (counting other : D) (P : Result Counted DiskPlace → Type 0)
    → ((c d : List ℕ) → may_leave counting c → may_leave other d → P (pair_in second c d)) → Images_of may_leave second counting other P
images_in may_leave false counting other P each = each
images_in may_leave true counting other P each = λ c d now now_other. each d c now_other now

-- a journal whose last call was Ok
pub record Ready {D : Type 0} (seen : D → List ℕ) (may_leave : D → List ℕ → Type 0) (s : State D) : Type 0 where
  pub list : List (List ℕ)
  pub counting : (c : List ℕ) → may_leave s.counting c → IsWhole s.generation s.start s.end list c
  pub other : (d : List ℕ) → may_leave s.other d → IsAside s.second s.generation s.shut d
  pub fixed : Only (seen s.counting) (may_leave s.counting)
  pub fixed_other : Only (seen s.other) (may_leave s.other)

module _ {D : Type 0} (seen : D → List ℕ) (may_leave : D → List ℕ → Type 0) (moment : D → ℕ) (left_since : D → ℕ → List ℕ → Type 0)
    (reads_now : (disk : D) → may_leave disk (seen disk)) (only_now : (disk : D) (c : List ℕ) → left_since disk (moment disk) c → may_leave disk c) where
  ready_by : (s : State D) (p : Pending) → s.pending ≡ p → is_ready p ≡ true → IsSound seen may_leave s → Ready seen may_leave s
  ready_by s Nothing is ready_now sound =
      let fixed = sound.fixed (ap is_ready is) in
      record {
        list = sound.list;
        counting = λ c now. subst (λ (q : Pending). Counting s sound.list q c) is (sound.counting c now);
        other = λ d now. subst (λ (q : Pending). Beside s q d) is (sound.other d now);
        fixed = fixed.0;
        fixed_other = fixed.1;
      }
  ready_by s Unopened is ready_now sound = absurd (cc ready_now)
  ready_by s (Record next) is ready_now sound = absurd (cc ready_now)
  ready_by s (Snapshot start) is ready_now sound = absurd (cc ready_now)

  pub ready : (s : State D) → is_ready s.pending ≡ true → IsSound seen may_leave s → Ready seen may_leave s
  ready s ready_now sound = ready_by s s.pending refl ready_now sound

  module _ (s : State D) (at : Ready seen may_leave s) where
    below : (d : List ℕ) → may_leave s.other d → IsBelow s.second s.generation d
    below d now = aside_below s.second s.generation s.shut d (at.other d now)

    -- what the disks stand for
    pub stored_is : stored seen s ≡ counts_as s.second s.generation s.start s.end at.list
    stored_is = stored_in seen s.second s.counting s.other ∙ pair_whole s.second s.generation s.start s.end at.list (seen s.counting) (seen s.other) (at.counting (seen s.counting) (reads_now s.counting)) (below (seen s.other) (reads_now s.other))

    abbrev pub Is : List ℕ → Type 0
    Is c = IsWhole s.generation s.start s.end at.list c

    pub is_shows : (c : List ℕ) → Is c → Shows (stored seen s) s.second c
    is_shows c whole = subst (λ (p : Result Counted DiskPlace). Shows p s.second c) (sym stored_is) (whole_shows s.second s.generation s.start s.end at.list c whole)

    -- the same as it was
    pub same_pair : (c d : List ℕ) → Is c → may_leave s.other d → pair_in s.second c d ≡ stored seen s
    same_pair c d whole now = pair_whole s.second s.generation s.start s.end at.list c d whole (below d now) ∙ sym stored_is

    module _ (payload : List ℕ) where
      abbrev pub next : ℕ
      next = s.end + 5 + length payload

      abbrev pub Has : List ℕ → Type 0
      Has c = IsWhole s.generation s.start next (at.list ++ payload ∷ []) c

      pub has_shows : (c : List ℕ) → Has c → Shows (with_record payload (stored seen s)) s.second c
      has_shows c whole = subst (λ (p : Result Counted DiskPlace). Shows (with_record payload p) s.second c) (sym stored_is) (whole_shows s.second s.generation s.start next (at.list ++ payload ∷ []) c whole)

      -- with the record
      pub more_pair : (c d : List ℕ) → Has c → may_leave s.other d → pair_in s.second c d ≡ with_record payload (stored seen s)
      more_pair c d whole now = pair_whole s.second s.generation s.start next (at.list ++ payload ∷ []) c d whole (below d now) ∙ sym (ap (with_record payload) stored_is)

      abbrev pub Either : List ℕ → Type 0
      Either c = Is c ⊎ Has c

      pub either_pair : (c d : List ℕ) → Either c → may_leave s.other d → (pair_in s.second c d ≡ stored seen s) ⊎ (pair_in s.second c d ≡ with_record payload (stored seen s))
      either_pair c d (inl is) now = inl (same_pair c d is now)
      either_pair c d (inr has) now = inr (more_pair c d has now)

      module _ (mid : D) where
        abbrev size : ℕ
        size = length (to_be_bytes w32 (length payload) ++ (payload ++ 0 ∷ []))

        -- the first write, any part of it
        pub torn_images : Follows (Torn (s.end + 1) size) (may_leave s.counting) (may_leave mid) → (c : List ℕ) → may_leave mid c → Is c
        torn_images follows c now = let from = follows c now in whole_torn s.generation s.start s.end at.list size from.0 c (at.counting from.0 from.1) from.2

        pub torn_moments : LeavesOnly moment left_since s.counting mid (PartAfter (Torn (s.end + 1) size) (may_leave s.counting)) → LeavesOnly moment left_since s.counting mid Is
        torn_moments moments =
            leaves_more moment left_since s.counting mid (PartAfter (Torn (s.end + 1) size) (may_leave s.counting)) Is moments
            (λ c from. whole_torn s.generation s.start s.end at.list size from.0 c (at.counting from.0 from.1) from.2)

        abbrev pub Staged : List ℕ → Type 0
        Staged c = IsStaged s.generation s.start s.end next at.list payload c

        -- the record stands behind its gate byte
        pub staged : length payload < 2 ^ 32 → seen mid ≡ written (s.end + 1) (to_be_bytes w32 (length payload) ++ (payload ++ 0 ∷ [])) (seen s.counting) → Staged (seen mid)
        staged small is = staged_written s.generation s.start s.end at.list payload (seen s.counting) (seen mid) (at.counting (seen s.counting) (reads_now s.counting)) small is

        module _ (is_staged : Staged (seen mid)) (only : Only (seen mid) (may_leave mid)) (new : D) where
          gate_part : (c : List ℕ) → PartAfter (Torn s.end 1) (may_leave mid) c → Staged c
          gate_part c from =
              let stood : Staged from.0 = subst Staged (sym (only from.0 from.1)) is_staged in
              staged_torn s.generation s.start s.end at.list next payload from.0 c stood from.2

          -- the write of the gate byte, any part of it
          pub gate_images : Follows (Torn s.end 1) (may_leave mid) (may_leave new) → (c : List ℕ) → may_leave new c → Staged c
          gate_images follows c now = gate_part c (follows c now)

          pub staged_is_either : (c : List ℕ) → Staged c → Either c
          staged_is_either c stood = staged_either s.generation s.start s.end at.list next payload c stood

          pub gate_moments : LeavesOnly moment left_since s.counting mid Is → LeavesOnly moment left_since mid new (PartAfter (Torn s.end 1) (may_leave mid)) → LeavesOnly moment left_since s.counting new Either
          gate_moments one two =
              leaves_on seen may_leave moment left_since s.counting mid new Either (PartAfter (Torn s.end 1) (may_leave mid))
              (leaves_more moment left_since s.counting mid Is Either one (λ c is. inl is)) two (λ c from. staged_is_either c (gate_part c from))

          pub gate_opened : seen new ≡ written s.end (1 ∷ []) (seen mid) → Has (seen new)
          gate_opened is = opened s.generation s.start s.end at.list next payload (seen mid) (seen new) is_staged is

      -- of the other disk nothing changes
      pub each_since : (new : D) → LeavesOnly moment left_since s.counting new Either
          → Since_of moment left_since s.second s.counting s.other new s.other (λ pair. (pair ≡ stored seen s) ⊎ (pair ≡ with_record payload (stored seen s)))
      each_since new moments =
          since_in moment left_since s.second s.counting s.other new s.other (λ pair. (pair ≡ stored seen s) ⊎ (pair ≡ with_record payload (stored seen s)))
          (λ c d left left_other. either_pair c d (moments.each c left) (only_now s.other d left_other))

      pub is_or_has : (new : D) → Either (seen new) → (stored_of seen s.second new s.other ≡ stored seen s) ⊎ (stored_of seen s.second new s.other ≡ with_record payload (stored seen s))
      is_or_has new either =
          let first = stored_in seen s.second new s.other in
          ⊎_elim (λ is. inl (first ∙ is)) (λ has. inr (first ∙ has)) (either_pair (seen new) (seen s.other) either (reads_now s.other))

      pub now_has : (new : D) → Has (seen new) → stored_of seen s.second new s.other ≡ with_record payload (stored seen s)
      now_has new has = stored_in seen s.second new s.other ∙ more_pair (seen new) (seen s.other) has (reads_now s.other)

      pub each_has : (new : D) → Has (seen new) → Only (seen new) (may_leave new) → Images_of may_leave s.second new s.other (λ pair. pair ≡ stored_of seen s.second new s.other)
      each_has new has only =
          images_in may_leave s.second new s.other (λ pair. pair ≡ stored_of seen s.second new s.other)
          (λ c d now now_other. more_pair c d (subst Has (sym (only c now)) has) now_other ∙ sym (now_has new has))

    pub each_since_same : (new : D) → LeavesOnly moment left_since s.counting new Is → Since_of moment left_since s.second s.counting s.other new s.other (λ pair. pair ≡ stored seen s)
    each_since_same new moments =
        since_in moment left_since s.second s.counting s.other new s.other (λ pair. pair ≡ stored seen s) (λ c d left left_other. same_pair c d (moments.each c left) (only_now s.other d left_other))

    pub now_same : (new : D) → Is (seen new) → stored_of seen s.second new s.other ≡ stored seen s
    now_same new is = stored_in seen s.second new s.other ∙ same_pair (seen new) (seen s.other) is (reads_now s.other)

    pub each_same : (new : D) → ((c : List ℕ) → may_leave new c → Is c) → Images_of may_leave s.second new s.other (λ pair. pair ≡ stored seen s)
    each_same new images = images_in may_leave s.second new s.other (λ pair. pair ≡ stored seen s) (λ c d now now_other. same_pair c d (images c now) now_other)

    -- What holds after each exit.
    pub sound_unopened : (mid : D) (room : ℕ) → ((c : List ℕ) → may_leave mid c → Is c)
        → IsSound seen may_leave (record { counting = mid; other = s.other; second = s.second; generation = s.generation; start = s.start; end = s.end; shut = s.shut; pending = Unopened; room = room })
    sound_unopened mid room images = record {
      list = at.list;
      counting = images;
      other = at.other;
      fixed = λ ready_now. absurd (cc ready_now);
    }

    pub sound_record : (new : D) (room : ℕ) (payload : List ℕ) (end : ℕ) → end ≡ next payload → ((c : List ℕ) → may_leave new c → IsStaged s.generation s.start s.end (next payload) at.list payload c)
        → IsSound seen may_leave (record { counting = new; other = s.other; second = s.second; generation = s.generation; start = s.start; end = s.end; shut = s.shut; pending = Record end; room = room })
    sound_record new room payload end is images = record {
      list = at.list;
      counting = λ c now. (payload, subst (λ (n : ℕ). IsStaged s.generation s.start s.end n at.list payload c) (sym is) (images c now));
      other = at.other;
      fixed = λ ready_now. absurd (cc ready_now);
    }

    pub sound_nothing : (new : D) (room end : ℕ) (list : List (List ℕ)) → IsWhole s.generation s.start end list (seen new) → Only (seen new) (may_leave new)
        → IsSound seen may_leave (record { counting = new; other = s.other; second = s.second; generation = s.generation; start = s.start; end = end; shut = s.shut; pending = Nothing; room = room })
    sound_nothing new room end list whole only = record {
      list = list;
      counting = λ c now. subst (λ (b : List ℕ). IsWhole s.generation s.start end list b) (sym (only c now)) whole;
      other = at.other;
      fixed = λ _. (only, at.fixed_other);
    }
