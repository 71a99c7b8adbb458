-- What the disks of a kept machine stand for where a call of theirs failed.
use Rattle.std.proofs.Common.{◌≡◌, ◌⊎◌, ℕ, suc, zero, ◌+◌, ◌-◌, ◌<◌, ◌≤◌, ◌^◌, Bool, true, false, not, inl, inr, if◌then◌else◌, List, [], ◌∷◌, ◌++◌, length, take, Option, None, Some, IfSome, Result, Ok, Err, option_map, refl, sym, ◌∙◌, ap, subst, arith, length-append, length-take}
use Rattle.std.specs.Prelude.{nat_lt}
use Rattle.std.specs.Int.{w32, to_be_bytes}
use Rattle.std.proofs.lemmas.Bool.{cases_lt}
use Rattle.std.proofs.lemmas.Bool.Decides.{nat_tests}
use Rattle.std.proofs.lemmas.List.{take_all}
use Rattle.ps_disks.specs.Disk.{Torn, done_by, written}
use Rattle.ps_disks.specs.History.{History, LeftSince, bytes_now, effect, replayed}
use Rattle.ps_disks.specs.Images.{bytes_are_image, only_image, written_is_torn}
use Rattle.ps_disks.specs.MemoryDisk.{DiskState}
use Rattle.ps_disks.specs.Run.{IsArmed}
use Rattle.ps_disks.specs.declared.disk.DiskCall.{DiskCall}
use Rattle.ps_disks.specs.declared.disk.DiskCall.TheVariants.{Sync}
use Rattle.ps_disks.specs.declared.history.LoggedCall.{LoggedCall}
use Rattle.ps_disks.proofs.DiskLemmas.{torn_front}
use Rattle.host_journal.specs.Pair.{gates_at, pair_of}
use Rattle.host_journal.specs.State.{IsAside, IsBelow, IsClosed, IsImage, IsSound, IsWhole, State, append_calls, closing, first_disk, has_record, image_bytes, is_ready, pair_in, second_disk, snapshot_calls, snapshot_of, stored, which}
use Rattle.host_journal.specs.declared.reading.Counted.{Counted}
use Rattle.host_journal.specs.declared.reading.DiskPlace.{DiskPlace}
use Rattle.host_journal.proofs.AppendLemmas.{opened, staged_written, whole_torn}
use Rattle.host_journal.proofs.HeadLemmas.{aside_below, closed_same}
use Rattle.host_journal.proofs.PairLemmas.{counts_as, pair_whole}
use Rattle.host_journal.proofs.SnapshotLemmas.{close_written, image_opened, image_written, older_now}
use Rattle.host_journal.proofs.StateLemmas.{Ready, ready, stored_is}
use Rattle.host_journal.proofs.TurnLemmas.{turned_in}
use Rattle.machine_keep.specs.Calls.{PairCalls, all_on, first_calls, kept_calls, second_calls, sync_calls}
use Rattle.machine_keep.specs.Course.{IsBehindRecord, IsDue, Leaves}
use Rattle.machine_keep.specs.Faulted.{BrokenInMemory, Faulted, left_now, seen_on, state_before, wanted_calls}
use Rattle.machine_keep.specs.Kept.{Kept, StandsExcept, StandsFor, after_step}
use Rattle.machine_keep.specs.Stopped.{StopsAt, are_too_far, noted_as, with_calls}
use Rattle.machine_keep.proofs.KeepLemmas.{with_step}
use Rattle.machine_keep.proofs.StoppedLemmas.{stopped_at}

-- ---- one disk
-- the bytes after these calls, all of them done
abbrev made_of : List DiskCall → List ℕ → List ℕ
made_of [] bytes = bytes
made_of (c ∷ calls) bytes = made_of calls (done_by c bytes)

replayed_on : (bytes : List ℕ) (one two : List LoggedCall) → replayed bytes (one ++ two) ≡ replayed (replayed bytes one) two
replayed_on bytes [] two = refl
replayed_on bytes (l ∷ one) two = replayed_on (effect l bytes) one two

-- a call that failed did nothing
replayed_failed : (bytes : List ℕ) (failed : List DiskCall) → replayed bytes (noted_as false failed) ≡ bytes
replayed_failed bytes [] = refl
replayed_failed bytes (c ∷ failed) = replayed_failed bytes failed

replayed_done : (bytes : List ℕ) (done failed : List DiskCall) → replayed bytes (noted_as true done ++ noted_as false failed) ≡ made_of done bytes
replayed_done bytes [] failed = replayed_failed bytes failed
replayed_done bytes (c ∷ done) failed = replayed_done (done_by c bytes) done failed

bytes_after : (h now : History) (done failed : List DiskCall) → now ≡ with_calls h done failed → bytes_now now ≡ made_of done (bytes_now h)
bytes_after h now done failed is = ap bytes_now is ∙ (replayed_on h.start h.log (noted_as true done ++ noted_as false failed) ∙ replayed_done (bytes_now h) done failed)

-- ---- both, from their bytes
-- after these calls, where the one that counts read c, and the other d
abbrev pair_after : Bool → PairCalls → List ℕ → List ℕ → Result Counted DiskPlace
pair_after second calls c d = pair_of (made_of (first_calls calls) (if second then d else c)) (made_of (second_calls calls) (if second then c else d))

module _ (generation start end : ℕ) (list : List (List ℕ)) (payload c : List ℕ) (small : length payload < 2 ^ 32) (whole : IsWhole generation start end list c) where
  abbrev pub piece : List ℕ
  piece = to_be_bytes w32 (length payload) ++ (payload ++ 0 ∷ [])

  abbrev pub next : ℕ
  next = end + 5 + length payload

  -- with the record behind its gate byte, and with the gate byte opened
  abbrev pub put : List ℕ
  put = written (end + 1) piece c

  abbrev pub gated : List ℕ
  gated = written end (1 ∷ []) put

  pub is_put : IsWhole generation start end list put
  is_put = whole_torn generation start end list (length piece) c put whole (written_is_torn (end + 1) piece c)

  pub has_it : IsWhole generation start next (list ++ payload ∷ []) gated
  has_it = opened generation start end list next payload put gated (staged_written generation start end list payload c put whole small refl) refl

  module _ (second : Bool) (d : List ℕ) (below : IsBelow second generation d) where
    without : pair_in second c d ≡ counts_as second generation start end list
    without = pair_whole second generation start end list c d whole below

    staged : pair_in second put d ≡ counts_as second generation start end list
    staged = pair_whole second generation start end list put d is_put below

    with_it : pair_in second gated d ≡ counts_as second generation start next (list ++ payload ∷ [])
    with_it = pair_whole second generation start next (list ++ payload ∷ []) gated d has_it below

  -- behind none, one, two or three calls of the record
  in_record : (second : Bool) (tail : PairCalls) (d : List ℕ) → IsBelow second generation d → (made : ℕ) → made < 4
      → pair_after second (take made (all_on second (append_calls end payload) ++ tail)) c d ≡ which payload (nat_lt 3 (made + 1)) (counts_as second generation start end list)
  in_record false tail d below zero few = without false d below
  in_record false tail d below (suc zero) few = staged false d below
  in_record false tail d below (suc (suc zero)) few = staged false d below
  in_record false tail d below (suc (suc (suc zero))) few = with_it false d below
  in_record false tail d below (suc (suc (suc (suc made)))) few = absurd (omega (arith, few))
  in_record true tail d below zero few = without true d below
  in_record true tail d below (suc zero) few = staged true d below
  in_record true tail d below (suc (suc zero)) few = staged true d below
  in_record true tail d below (suc (suc (suc zero))) few = with_it true d below
  in_record true tail d below (suc (suc (suc (suc made)))) few = absurd (omega (arith, few))

  -- the other disk, as its calls leave it
  module _ (second shut : Bool) (image d : List ℕ) (aside : IsAside second generation shut d) where
    abbrev pub closed : List ℕ
    closed = written 8 (closing shut) d

    abbrev pub cut : List ℕ
    cut = take 9 closed

    abbrev pub filled : List ℕ
    filled = written 9 (image_bytes (generation + 1) image) cut

    pub is_closed : IsClosed closed
    is_closed = close_written second generation shut d closed aside refl

    pub cut_long : length cut ≡ 9
    cut_long = omega (arith, length-take 9 closed, is_closed.has_gate)

    pub is_cut : IsClosed cut
    is_cut = closed_same closed cut is_closed (take_all 9 cut (omega (arith, cut_long))) (omega (arith, cut_long))

    filled_torn : Torn 9 (length (image_bytes (generation + 1) image)) cut filled
    filled_torn = written_is_torn 9 (image_bytes (generation + 1) image) cut

    pub is_filled : IsClosed filled
    is_filled =
        closed_same cut filled is_cut (torn_front 9 9 (length (image_bytes (generation + 1) image)) cut filled filled_torn (omega arith) (omega (arith, cut_long)))
        (omega (arith, filled_torn.no_shorter, cut_long))

    pub is_turned : generation + 1 < 2 ^ 64 → length image < 2 ^ 32 → pair_in second gated (written 8 (1 ∷ []) filled) ≡ counts_as (not second) (generation + 1) (gates_at image) (gates_at image) (image ∷ [])
    is_turned fits small_image =
        let holds : IsImage (generation + 1) (gates_at image) image filled = image_written (generation + 1) image fits small_image closed filled is_closed refl in
        let counts = image_opened (generation + 1) (gates_at image) image filled (written 8 (1 ∷ []) filled) holds refl in
        turned_in second gated (written 8 (1 ∷ []) filled)
        ∙ pair_whole (not second) (generation + 1) (gates_at image) (gates_at image) (image ∷ []) (written 8 (1 ∷ []) filled) gated counts
        (aside_below (not second) (generation + 1) false gated (older_now second generation start next (list ++ payload ∷ []) gated has_it))

  abbrev all_calls : Bool → Bool → List ℕ → PairCalls
  all_calls second shut image = all_on second (append_calls end payload) ++ all_on (not second) (snapshot_calls shut (generation + 1) image)

  -- behind the four of the record, and up to five of the snapshot
  in_snapshot : (second shut : Bool) (image d : List ℕ) → IsAside second generation shut d → (made : ℕ) → 4 ≤ made → made < 10
      → pair_after second (take made (all_calls second shut image)) c d ≡ which payload (nat_lt 3 (made + 1)) (counts_as second generation start end list)
  in_snapshot false shut image d aside zero some few = absurd (omega (arith, some))
  in_snapshot false shut image d aside (suc zero) some few = absurd (omega (arith, some))
  in_snapshot false shut image d aside (suc (suc zero)) some few = absurd (omega (arith, some))
  in_snapshot false shut image d aside (suc (suc (suc zero))) some few = absurd (omega (arith, some))
  in_snapshot false shut image d aside (suc (suc (suc (suc zero)))) some few = with_it false d (aside_below false generation shut d aside)
  in_snapshot false shut image d aside (suc (suc (suc (suc (suc zero))))) some few = with_it false (closed false shut image d aside) (inl (is_closed false shut image d aside))
  in_snapshot false shut image d aside (suc (suc (suc (suc (suc (suc zero)))))) some few = with_it false (closed false shut image d aside) (inl (is_closed false shut image d aside))
  in_snapshot false shut image d aside (suc (suc (suc (suc (suc (suc (suc zero))))))) some few = with_it false (cut false shut image d aside) (inl (is_cut false shut image d aside))
  in_snapshot false shut image d aside (suc (suc (suc (suc (suc (suc (suc (suc zero)))))))) some few = with_it false (filled false shut image d aside) (inl (is_filled false shut image d aside))
  in_snapshot false shut image d aside (suc (suc (suc (suc (suc (suc (suc (suc (suc zero))))))))) some few = with_it false (filled false shut image d aside) (inl (is_filled false shut image d aside))
  in_snapshot false shut image d aside (suc (suc (suc (suc (suc (suc (suc (suc (suc (suc made)))))))))) some few = absurd (omega (arith, few))
  in_snapshot true shut image d aside zero some few = absurd (omega (arith, some))
  in_snapshot true shut image d aside (suc zero) some few = absurd (omega (arith, some))
  in_snapshot true shut image d aside (suc (suc zero)) some few = absurd (omega (arith, some))
  in_snapshot true shut image d aside (suc (suc (suc zero))) some few = absurd (omega (arith, some))
  in_snapshot true shut image d aside (suc (suc (suc (suc zero)))) some few = with_it true d (aside_below true generation shut d aside)
  in_snapshot true shut image d aside (suc (suc (suc (suc (suc zero))))) some few = with_it true (closed true shut image d aside) (inl (is_closed true shut image d aside))
  in_snapshot true shut image d aside (suc (suc (suc (suc (suc (suc zero)))))) some few = with_it true (closed true shut image d aside) (inl (is_closed true shut image d aside))
  in_snapshot true shut image d aside (suc (suc (suc (suc (suc (suc (suc zero))))))) some few = with_it true (cut true shut image d aside) (inl (is_cut true shut image d aside))
  in_snapshot true shut image d aside (suc (suc (suc (suc (suc (suc (suc (suc zero)))))))) some few = with_it true (filled true shut image d aside) (inl (is_filled true shut image d aside))
  in_snapshot true shut image d aside (suc (suc (suc (suc (suc (suc (suc (suc (suc zero))))))))) some few = with_it true (filled true shut image d aside) (inl (is_filled true shut image d aside))
  in_snapshot true shut image d aside (suc (suc (suc (suc (suc (suc (suc (suc (suc (suc made)))))))))) some few = absurd (omega (arith, few))

  -- behind six of the snapshot
  behind_gate : (second shut : Bool) (image d : List ℕ) → IsAside second generation shut d → generation + 1 < 2 ^ 64 → length image < 2 ^ 32
      → pair_after second (take 10 (all_calls second shut image)) c d ≡ counts_as (not second) (generation + 1) (gates_at image) (gates_at image) (image ∷ [])
  behind_gate false shut image d aside fits small_image = is_turned false shut image d aside fits small_image
  behind_gate true shut image d aside fits small_image = is_turned true shut image d aside fits small_image

-- ---- a step over a journal whose last call met no fault
abbrev moment_of : DiskState → ℕ
moment_of d = length d.history.log

abbrev left_from : DiskState → ℕ → List ℕ → Type 0
left_from d t c = LeftSince d.history t c

pub seen_first : (s : State DiskState) → seen_on (first_disk s) ≡ (if s.second then seen_on s.other else seen_on s.counting)
seen_first s = at s.second
  where
    at : (b : Bool) → seen_on (if b then s.other else s.counting) ≡ (if b then seen_on s.other else seen_on s.counting)
    at true = refl
    at false = refl

pub seen_second : (s : State DiskState) → seen_on (second_disk s) ≡ (if s.second then seen_on s.counting else seen_on s.other)
seen_second s = at s.second
  where
    at : (b : Bool) → seen_on (if b then s.counting else s.other) ≡ (if b then seen_on s.counting else seen_on s.other)
    at true = refl
    at false = refl

module _ (s : State DiskState) (is_ready_now : is_ready s.pending ≡ true) (sound : IsSound seen_on left_now s) (payload : List ℕ) (small : length payload < 2 ^ 32) where
  pub at : Ready seen_on left_now s
  at = ready seen_on left_now moment_of left_from (λ d. bytes_are_image d.history) (λ d b left. only_image d.history b left) s is_ready_now sound

  pub is_whole : IsWhole s.generation s.start s.end at.list (seen_on s.counting)
  is_whole = at.counting (seen_on s.counting) (bytes_are_image s.counting.history)

  pub is_aside : IsAside s.second s.generation s.shut (seen_on s.other)
  is_aside = at.other (seen_on s.other) (bytes_are_image s.other.history)

  pub is_stored : stored seen_on s ≡ counts_as s.second s.generation s.start s.end at.list
  is_stored = stored_is seen_on left_now moment_of left_from (λ d. bytes_are_image d.history) (λ d b left. only_image d.history b left) s at

  abbrev after_calls : PairCalls → Result Counted DiskPlace
  after_calls calls = pair_of (made_of (first_calls calls) (seen_on (first_disk s))) (made_of (second_calls calls) (seen_on (second_disk s)))

  in_order : (calls : PairCalls) → after_calls calls ≡ pair_after s.second calls (seen_on s.counting) (seen_on s.other)
  in_order calls =
      ap (λ (b : List ℕ). pair_of (made_of (first_calls calls) b) (made_of (second_calls calls) (seen_on (second_disk s)))) (seen_first s)
      ∙ ap (λ (b : List ℕ). pair_of (made_of (first_calls calls) (if s.second then seen_on s.other else seen_on s.counting)) (made_of (second_calls calls) b)) (seen_second s)

  laid : (image : Option (List ℕ)) (made : ℕ) → made < length (kept_calls s (Some payload) image) → IsBehindRecord image made → made < 10
      → after_calls (take made (kept_calls s (Some payload) image)) ≡ which payload (nat_lt 3 (made + 1)) (stored seen_on s)
  laid None made few behind most =
      in_order (take made (kept_calls s (Some payload) None))
      ∙ (in_record s.generation s.start s.end at.list payload (seen_on s.counting) small is_whole s.second [] (seen_on s.other) (aside_below s.second s.generation s.shut (seen_on s.other) is_aside) made few
      ∙ ap (which payload (nat_lt 3 (made + 1))) (sym is_stored))
  laid (Some image) made few behind most =
      in_order (take made (kept_calls s (Some payload) (Some image)))
      ∙ (in_snapshot s.generation s.start s.end at.list payload (seen_on s.counting) small is_whole s.second s.shut image (seen_on s.other) is_aside made behind most
      ∙ ap (which payload (nat_lt 3 (made + 1))) (sym is_stored))

  laid_turned : (image : List ℕ) (made : ℕ) → made ≡ 10 → s.generation + 1 < 2 ^ 64 → length image < 2 ^ 32 → after_calls (take made (kept_calls s (Some payload) (Some image))) ≡ snapshot_of image s
  laid_turned image made is fits small_image =
      ap (λ (n : ℕ). after_calls (take n (kept_calls s (Some payload) (Some image)))) is
      ∙ (in_order (take 10 (kept_calls s (Some payload) (Some image)))
      ∙ behind_gate s.generation s.start s.end at.list payload (seen_on s.counting) small is_whole s.second s.shut image (seen_on s.other) is_aside fits small_image)

-- ---- what is left of a step
-- syncs before it leave the bytes
synced_first : (ready_now : Bool) (made : ℕ) (calls : PairCalls) (bytes : List ℕ) → length (sync_calls ready_now) ≤ made
    → made_of (first_calls (take ((made + 1) - 1) (sync_calls ready_now ++ calls))) bytes ≡ made_of (first_calls (take (made - length (sync_calls ready_now)) calls)) bytes
synced_first true made calls bytes some =
    let same : (made + 1) - 1 ≡ made - 0 = omega arith in
    ap (λ (n : ℕ). made_of (first_calls (take n calls)) bytes) same
synced_first false zero calls bytes some = absurd (omega (arith, some))
synced_first false (suc zero) calls bytes some = absurd (omega (arith, some))
synced_first false (suc (suc made)) calls bytes some =
    let one : (suc (suc made) + 1) - 1 ≡ suc (suc made) = omega arith in
    let two : made ≡ suc (suc made) - 2 = omega arith in
    ap (λ (n : ℕ). made_of (first_calls (take n ((false, Sync) ∷ (true, Sync) ∷ calls))) bytes) one ∙ ap (λ (n : ℕ). made_of (first_calls (take n calls)) bytes) two

synced_second : (ready_now : Bool) (made : ℕ) (calls : PairCalls) (bytes : List ℕ) → length (sync_calls ready_now) ≤ made
    → made_of (second_calls (take ((made + 1) - 1) (sync_calls ready_now ++ calls))) bytes ≡ made_of (second_calls (take (made - length (sync_calls ready_now)) calls)) bytes
synced_second true made calls bytes some =
    let same : (made + 1) - 1 ≡ made - 0 = omega arith in
    ap (λ (n : ℕ). made_of (second_calls (take n calls)) bytes) same
synced_second false zero calls bytes some = absurd (omega (arith, some))
synced_second false (suc zero) calls bytes some = absurd (omega (arith, some))
synced_second false (suc (suc made)) calls bytes some =
    let one : (suc (suc made) + 1) - 1 ≡ suc (suc made) = omega arith in
    let two : made ≡ suc (suc made) - 2 = omega arith in
    ap (λ (n : ℕ). made_of (second_calls (take n ((false, Sync) ∷ (true, Sync) ∷ calls))) bytes) one ∙ ap (λ (n : ℕ). made_of (second_calls (take n calls)) bytes) two

-- with the record or without it
abbrev end_of : Result Counted DiskPlace → ℕ
end_of (Ok k) = k.end
end_of (Err place) = 0

which_one : (payload : List ℕ) (k : Counted) (a b : Bool) → which payload a (Ok k) ≡ which payload b (Ok k) → a ≡ b
which_one payload k true true same = refl
which_one payload k false false same = refl
which_one payload k true false same = let ends : k.end + 5 + length payload ≡ k.end = ap end_of same in absurd (omega (arith, ends))
which_one payload k false true same = let ends : k.end ≡ k.end + 5 + length payload = ap end_of same in absurd (omega (arith, ends))

late_test : (made : ℕ) → 10 ≤ made → nat_lt 3 (made + 1) ≡ true
late_test made late = grind (arith, nat_tests)

-- which call failed tells whether it was in the record or in the snapshot
module _ {S T : Type 0} (after : S → T → S) (s now : S) (step unsure : Option T) (place : State DiskState) (payload : List ℕ) (made : ℕ) where
  left_early : (image : Option (List ℕ)) → IsBehindRecord image made → Leaves after s step image now unsure → made < 4 → (now ≡ s) × (unsure ≡ step)
  left_early None behind left few = left
  left_early (Some image) behind left few = absurd (omega (arith, behind, few))

  left_late : (image : Option (List ℕ)) → made < length (kept_calls place (Some payload) image) → Leaves after s step image now unsure → 4 ≤ made → (now ≡ after_step after s step) × (unsure ≡ None)
  left_late None few left some = let four : made < 4 = few in absurd (omega (arith, four, some))
  left_late (Some image) few left some = left

module _ {M S C R T : Type 0} (state : M → S) (stands : List (List ℕ) → S → Type 0) (bytes : T → List ℕ) (answers : S → C → R → Option T → Type 0) (follows : S → T → Type 0) (after : S → T → S)
    (more : (list : List (List ℕ)) (s : S) (step : T) → stands list s → follows s step → stands (list ++ bytes step ∷ []) (after s step))
    (old new : Kept M DiskState T) (call : C) (broken : BrokenInMemory state stands bytes answers follows after old new call) (first second : ℕ)
    (armed_one : IsArmed (first_disk old.journal) first) (armed_two : IsArmed (second_disk old.journal) second) (fed_one : (first_disk new.journal).starved ≡ false) (fed_two : (second_disk new.journal).starved ≡ false)
    (near : are_too_far (wanted_calls state stands bytes answers follows after old new call broken) ≡ false) where
  abbrev before : S
  before = state_before state stands bytes answers follows after old new call broken

  abbrev place : State DiskState
  place = broken.unkept.place

  abbrev syncs : ℕ
  syncs = length (sync_calls (is_ready old.journal.pending))

  abbrev all_made : ℕ
  all_made = length broken.unkept.told.made

  abbrev made : ℕ
  made = all_made - syncs

  stops : StopsAt first second old.journal new.journal (wanted_calls state stands bytes answers follows after old new call broken) (all_made + 1)
  stops = stopped_at old.journal new.journal (wanted_calls state stands bytes answers follows after old new call broken) first second armed_one armed_two broken.unkept.told fed_one fed_two near

  few : made < length (kept_calls place (option_map bytes broken.unkept.step) broken.unkept.image)
  few =
      let most : all_made + 1 ≤ length (sync_calls (is_ready old.journal.pending) ++ kept_calls place (option_map bytes broken.unkept.step) broken.unkept.image) = stops.most in
      omega (arith, most, broken.synced, length-append (sync_calls (is_ready old.journal.pending)) (kept_calls place (option_map bytes broken.unkept.step) broken.unkept.image))

  read : stored seen_on place ≡ stored seen_on old.journal
  read = ap (λ (l : List ℕ). pair_of l (seen_on (second_disk place))) (broken.read tt).0 ∙ ap (pair_of (seen_on (first_disk old.journal))) (broken.read tt).1

  module _ (step : T) (is_step : broken.unkept.step ≡ Some step) where
    abbrev payload : List ℕ
    payload = bytes step

    abbrev kept : PairCalls
    kept = kept_calls place (Some payload) broken.unkept.image

    is_kept : kept_calls place (option_map bytes broken.unkept.step) broken.unkept.image ≡ kept
    is_kept = ap (λ (o : Option T). kept_calls place (option_map bytes o) broken.unkept.image) is_step

    few_kept : made < length kept
    few_kept = subst (λ (l : PairCalls). made < length l) is_kept few

    first_bytes : seen_on (first_disk new.journal) ≡ made_of (first_calls (take made kept)) (seen_on (first_disk place))
    first_bytes =
        bytes_after (first_disk old.journal).history (first_disk new.journal).history _ _ stops.first_history
        ∙ (synced_first (is_ready old.journal.pending) all_made (kept_calls place (option_map bytes broken.unkept.step) broken.unkept.image) (seen_on (first_disk old.journal)) broken.synced
        ∙ (ap (λ (l : PairCalls). made_of (first_calls (take made l)) (seen_on (first_disk old.journal))) is_kept
        ∙ ap (made_of (first_calls (take made kept))) (sym (broken.read tt).0)))

    second_bytes : seen_on (second_disk new.journal) ≡ made_of (second_calls (take made kept)) (seen_on (second_disk place))
    second_bytes =
        bytes_after (second_disk old.journal).history (second_disk new.journal).history _ _ stops.second_history
        ∙ (synced_second (is_ready old.journal.pending) all_made (kept_calls place (option_map bytes broken.unkept.step) broken.unkept.image) (seen_on (second_disk old.journal)) broken.synced
        ∙ (ap (λ (l : PairCalls). made_of (second_calls (take made l)) (seen_on (second_disk old.journal))) is_kept
        ∙ ap (made_of (second_calls (take made kept))) (sym (broken.read tt).1)))

    is_now : stored seen_on new.journal ≡ pair_of (made_of (first_calls (take made kept)) (seen_on (first_disk place))) (made_of (second_calls (take made kept)) (seen_on (second_disk place)))
    is_now = ap (λ (l : List ℕ). pair_of l (seen_on (second_disk new.journal))) first_bytes ∙ ap (pair_of (made_of (first_calls (take made kept)) (seen_on (first_disk place)))) second_bytes

    short : length payload ≤ 8_388_608
    short = subst (λ (o : Option T). IfSome o (λ t. length (bytes t) ≤ 8_388_608)) is_step broken.short

    small : length payload < 2 ^ 32
    small = omega (arith, short)

    can : follows before step
    can = subst (λ (o : Option T). IfSome o (λ t. follows before t)) is_step broken.unkept.may

    stored_so : made < 10 → stored seen_on new.journal ≡ which payload (nat_lt 3 (made + 1)) (stored seen_on old.journal)
    stored_so most =
        is_now
        ∙ (laid place broken.unkept.found.ready (broken.sound tt) payload small broken.unkept.image made few_kept broken.behind most
        ∙ ap (which payload (nat_lt 3 (made + 1))) read)

    turned_so : 10 ≤ made → (image : List ℕ) → broken.unkept.image ≡ Some image → length image < 2 ^ 32 → place.generation + 1 < 2 ^ 64 → stored seen_on new.journal ≡ snapshot_of image place
    turned_so late image is small_image fits =
        let size : made < length (kept_calls place (Some payload) (Some image)) = subst (λ (o : Option (List ℕ)). made < length (kept_calls place (Some payload) o)) is few_kept in
        let eleven : made < 11 = size in
        let ten : made ≡ 10 = omega (arith, eleven, late) in
        subst (λ (o : Option (List ℕ)). stored seen_on new.journal ≡ pair_of (made_of (first_calls (take made (kept_calls place (Some payload) o))) (seen_on (first_disk place))) (made_of (second_calls (take made (kept_calls place (Some payload) o))) (seen_on (second_disk place)))) is is_now
        ∙ laid_turned place broken.unkept.found.ready (broken.sound tt) payload small image made ten fits small_image

    -- with the record or without it
    stands_which : (b : Bool) → StandsFor stands (if b then after before step else before) (which payload b (stored seen_on old.journal))
    stands_which true = with_step stands bytes follows after more before step (stored seen_on old.journal) can (broken.stood tt)
    stands_which false = broken.stood tt

    early_so : made < 4 → (state new.machine ≡ before) × (new.unsure ≡ Some step)
    early_so early = let left = left_early after before (state new.machine) broken.unkept.step new.unsure place payload made broken.unkept.image broken.behind broken.unkept.left early in (left.0, left.1 ∙ is_step)

    late_so : 4 ≤ made → (state new.machine ≡ after before step) × (new.unsure ≡ None)
    late_so late =
        let left = left_late after before (state new.machine) broken.unkept.step new.unsure place payload made broken.unkept.image few_kept broken.unkept.left late in
        (left.0 ∙ ap (after_step after before) is_step, left.1)

    is_counted : stored seen_on old.journal ≡ counts_as place.second place.generation place.start place.end (at place broken.unkept.found.ready (broken.sound tt) payload small).list
    is_counted = sym read ∙ is_stored place broken.unkept.found.ready (broken.sound tt) payload small

    record_so : made < 4 → has_record new.journal.pending (stored seen_on new.journal) ≡ nat_lt 3 (made + 1)
    record_so early =
        let stood = has_record new.journal.pending (stored seen_on new.journal) in
        let found = subst (λ (o : Option T). IfSome o (λ t. stored seen_on new.journal ≡ which (bytes t) stood (stored seen_on old.journal))) (early_so early).1 (broken.found tt) in
        let both : which payload stood (stored seen_on old.journal) ≡ which payload (nat_lt 3 (made + 1)) (stored seen_on old.journal) = sym found ∙ stored_so (omega (arith, early)) in
        which_one payload _ stood (nat_lt 3 (made + 1)) (sym (ap (which payload stood) is_counted) ∙ (both ∙ ap (which payload (nat_lt 3 (made + 1))) is_counted))

    late_stands : (o : Option T) → new.unsure ≡ o → o ≡ None → StandsExcept stands bytes (state new.machine) new.journal.pending (stored seen_on new.journal) new.unsure → StandsFor stands (state new.machine) (stored seen_on new.journal)
    late_stands None is none except_unsure = subst (StandsExcept stands bytes (state new.machine) new.journal.pending (stored seen_on new.journal)) is except_unsure
    late_stands (Some t) is none except_unsure = absurd (cc none)

    stands_so : (b : Bool) → (made < 10) ⊎ (10 ≤ made) → b ≡ nat_lt 3 (made + 1) → StandsExcept stands bytes (state new.machine) new.journal.pending (stored seen_on new.journal) new.unsure → StandsFor stands (if b then after before step else before) (stored seen_on new.journal)
    stands_so b (inl most) is except_unsure =
        subst (StandsFor stands (if b then after before step else before)) (sym (stored_so most ∙ ap (λ (x : Bool). which payload x (stored seen_on old.journal)) (sym is))) (stands_which b)
    stands_so b (inr late) is except_unsure =
        let yes : nat_lt 3 (made + 1) ≡ true = late_test made late in
        let left = late_so (omega (arith, late)) in
        subst (λ (x : Bool). StandsFor stands (if x then after before step else before) (stored seen_on new.journal)) (sym (is ∙ yes))
        (subst (λ (s : S). StandsFor stands s (stored seen_on new.journal)) left.0 (late_stands new.unsure refl left.1 except_unsure))

    near_or_far : (made < 10) ⊎ (10 ≤ made)
    near_or_far = cases_lt made 10

    faulted_so : StandsExcept stands bytes (state new.machine) new.journal.pending (stored seen_on new.journal) new.unsure → Faulted state stands bytes answers follows after first second old new call broken
    faulted_so except_unsure = record {
      step = step;
      is_step = is_step;
      number = made + 1;
      least = omega arith;
      place = stops.place ∙ ap Some at_number;
      unsure = λ early. let left = early_so (omega (arith, early)) in (left.0, left.1, record_so (omega (arith, early)));
      taken = λ late. late_so (omega (arith, late));
      stands_for = stands_so (nat_lt 3 (made + 1)) near_or_far refl except_unsure;
      reads_as = λ most. stored_so (omega (arith, most));
      turned = λ late image is small_image fits. turned_so (omega (arith, late)) image is small_image fits;
    }
      where
        at_number : all_made + 1 ≡ syncs + (made + 1)
        at_number = omega (arith, broken.synced)

  -- a step that met a fault makes a change
  pub faulted : StandsExcept stands bytes (state new.machine) new.journal.pending (stored seen_on new.journal) new.unsure → Faulted state stands bytes answers follows after first second old new call broken
  faulted except_unsure = by_step broken.unkept.step refl
    where
      none_made : (image : Option (List ℕ)) → IsDue stands (after_step after before None) place None image → length (kept_calls place None image) ≡ 0
      none_made None due = refl
      none_made (Some image) due = absurd due

      by_step : (o : Option T) → broken.unkept.step ≡ o → Faulted state stands bytes answers follows after first second old new call broken
      by_step (Some step) is = faulted_so step is except_unsure
      by_step None is =
          let none = none_made broken.unkept.image (subst (λ (o : Option T). IsDue stands (after_step after before o) place (option_map bytes o) broken.unkept.image) is broken.unkept.due) in
          let some : made < length (kept_calls place None broken.unkept.image) = subst (λ (o : Option T). made < length (kept_calls place (option_map bytes o) broken.unkept.image)) is few in
          let nothing : made < 0 = subst (λ (n : ℕ). made < n) none some in
          absurd (omega (arith, nothing))
