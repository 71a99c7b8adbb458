-- What a crash leaves of the disks of a kept machine where a call of theirs failed.
use Rattle.std.proofs.Common.{◌≡◌, inl, ℕ, suc, zero, ◌+◌, ◌-◌, ◌/◌, ◌<◌, ◌≤◌, ◌^◌, Bool, true, false, not, if◌then◌else◌, List, [], ◌∷◌, ◌++◌, length, take, drop, Option, None, Some, IfSome, Result, option_map, refl, sym, ◌∙◌, ap, subst, arith, length-take, length-append}
use Rattle.std.proofs.lemmas.List.{drop-drop}
use Rattle.ps_disks.specs.Disk.{Only, PartOf, Torn as TornBy, written}
use Rattle.ps_disks.specs.History.{ArePartsOf, History, IsImage, MayMake, Standing, after_call, after_calls, bytes_now, effect, fixes, half_done_by, half_replayed, image_bytes, replayed, standing}
use Rattle.ps_disks.specs.Images.{bytes_stand, done_is_part, nothing_is_part, replayed-push, replayed_are_parts, written_is_torn}
use Rattle.ps_disks.specs.MemoryDisk.{DiskState}
use Rattle.ps_disks.specs.Run.{IsArmed}
use Rattle.ps_disks.specs.declared.disk.DiskCall.{DiskCall}
use Rattle.ps_disks.specs.declared.disk.DiskCall.TheVariants.{Cut, Sync, Write}
use Rattle.ps_disks.specs.declared.history.LoggedCall.{LoggedCall}
use Rattle.ps_disks.specs.declared.image.Image.{Image}
use Rattle.ps_disks.specs.declared.image.Image.TheVariants.{New, Old, Torn}
use Rattle.ps_disks.proofs.DiskLemmas.{torn_front}
use Rattle.host_journal.specs.Crash.{is_new}
use Rattle.host_journal.specs.Pair.{gates_at, pair_of}
use Rattle.host_journal.specs.State.{IsAside, IsBelow, IsClosed, IsSound, IsWhole, State, append_calls, closing, first_disk, image_bytes as bytes_of_image, is_ready, pair_in, second_disk, snapshot_calls, snapshot_of, stored, which}
use Rattle.host_journal.specs.declared.reading.Counted.{Counted}
use Rattle.host_journal.specs.declared.reading.DiskPlace.{DiskPlace}
use Rattle.host_journal.proofs.AppendLemmas.{whole_torn}
use Rattle.host_journal.proofs.HeadLemmas.{aside_below, closed_same}
use Rattle.host_journal.proofs.PairLemmas.{counts_as, pair_whole}
use Rattle.machine_keep.specs.Calls.{PairCalls, all_on, first_calls, kept_calls, second_calls, sync_calls}
use Rattle.machine_keep.specs.Course.{IsBehindRecord}
use Rattle.machine_keep.specs.FaultLeft.{IsWithinReach, LeftAgain, LeftStill, keeps_faulted, left_of_fault, unsynced_image, turns_faulted}
use Rattle.machine_keep.specs.Faulted.{BrokenInMemory, Faulted, left_now, seen_on, wanted_calls}
use Rattle.machine_keep.specs.Kept.{Kept}
use Rattle.machine_keep.specs.Stopped.{IsStopped, StopsAt, are_too_far, noted_as, with_calls}
use Rattle.machine_keep.proofs.FaultedLemmas.{at, closed, cut, cut_long, filled, gated, has_it, is_aside, is_closed, is_cut, is_filled, is_put, is_stored, is_turned, is_whole, piece, put, seen_first, seen_second}
use Rattle.machine_keep.proofs.StoppedLemmas.{stopped_at}

-- ---- each image of a disk is one that a crash may leave
half_is_torn : (place : ℕ) (bytes old : List ℕ) → TornBy place (length bytes) old (written place (take (length bytes / 2) bytes) old)
half_is_torn place bytes old =
    let half = take (length bytes / 2) bytes in
    let torn = written_is_torn place half old in
    let m = length half in
    let rest = length bytes - m in
    let new = written place half old in
    let more : place + m + rest ≡ place + length bytes = omega (arith, length-take (length bytes / 2) bytes) in
    record {
      before = torn.before;
      after = sym (ap (λ (k : ℕ). drop k new) more) ∙ sym (drop-drop rest (place + m) new) ∙ ap (drop rest) torn.after ∙ drop-drop rest (place + m) old ∙ ap (λ (k : ℕ). drop k old) more;
      no_shorter = torn.no_shorter;
      nothing = λ none. torn.nothing (omega (arith, none, length-take (length bytes / 2) bytes));
    }

half_is_part : (call : DiskCall) (bytes : List ℕ) → PartOf call bytes (half_done_by call bytes)
half_is_part (Write place piece_of) bytes = half_is_torn place piece_of bytes
half_is_part (Cut len) bytes = done_is_part (Cut len) bytes
half_is_part Sync bytes = refl

abbrev half_effect : LoggedCall → List ℕ → List ℕ
half_effect l bytes = if l.done then half_done_by l.call bytes else bytes

half_may_be : (done : Bool) (call : DiskCall) (bytes : List ℕ) → MayMake done call bytes (if done then half_done_by call bytes else bytes)
half_may_be true call bytes = half_is_part call bytes
half_may_be false call bytes = refl

nothing_may_be : (done : Bool) (call : DiskCall) (bytes : List ℕ) → MayMake done call bytes bytes
nothing_may_be true call bytes = nothing_is_part call bytes
nothing_may_be false call bytes = refl

half_replayed_are_parts : (bytes : List ℕ) (log : List LoggedCall) → ArePartsOf bytes log (half_replayed bytes log)
half_replayed_are_parts bytes [] = refl
half_replayed_are_parts bytes (l ∷ log) = (half_effect l bytes, half_may_be l.done l.call bytes, half_replayed_are_parts (half_effect l bytes) log)

dropped_are_parts : (bytes : List ℕ) (log : List LoggedCall) → ArePartsOf bytes log bytes
dropped_are_parts bytes [] = refl
dropped_are_parts bytes (l ∷ log) = (bytes, nothing_may_be l.done l.call bytes, dropped_are_parts bytes log)

pub is_image : (image : Image) (h : History) → IsImage h (image_bytes image h)
is_image Old h = dropped_are_parts (standing h).fixed (standing h).since
is_image New h = replayed_are_parts (standing h).fixed (standing h).since
is_image Torn h = half_replayed_are_parts (standing h).fixed (standing h).since

-- a disk whose images are all what it reads
abbrev IsSettled : History → Type 0
IsSettled h = (image : Image) → image_bytes image h ≡ bytes_now h

settled : (h : History) → Only (bytes_now h) (IsImage h) → IsSettled h
settled h only image = only (image_bytes image h) (is_image image h)

-- ---- the images of a disk after more calls
-- what a call that fixes nothing makes of an image
abbrev pushed : Image → LoggedCall → List ℕ → List ℕ
pushed Old l bytes = bytes
pushed New l bytes = effect l bytes
pushed Torn l bytes = half_effect l bytes

-- a sync that was done makes each the one that keeps all
abbrev after_one : (Image → List ℕ) → LoggedCall → Image → List ℕ
after_one f l image = if fixes l then f New else pushed image l (f image)

abbrev imaged : (Image → List ℕ) → List LoggedCall → Image → List ℕ
imaged f [] = f
imaged f (l ∷ log) = imaged (after_one f l) log

one_same : (f g : Image → List ℕ) → ((i : Image) → f i ≡ g i) → (l : LoggedCall) (i : Image) → after_one f l i ≡ after_one g l i
one_same f g same l i = by (fixes l)
  where
    by : (b : Bool) → (if b then f New else pushed i l (f i)) ≡ (if b then g New else pushed i l (g i))
    by true = same New
    by false = ap (pushed i l) (same i)

imaged_same : (f g : Image → List ℕ) → ((i : Image) → f i ≡ g i) → (log : List LoggedCall) (i : Image) → imaged f log i ≡ imaged g log i
imaged_same f g same [] i = same i
imaged_same f g same (l ∷ log) i = imaged_same (after_one f l) (after_one g l) (λ j. one_same f g same l j) log i

abbrev image_of : Image → Standing → List ℕ
image_of Old s = s.fixed
image_of New s = replayed s.fixed s.since
image_of Torn s = half_replayed s.fixed s.since

half_push : (bytes : List ℕ) (log : List LoggedCall) (l : LoggedCall) → half_replayed bytes (log ++ l ∷ []) ≡ half_effect l (half_replayed bytes log)
half_push bytes [] l = refl
half_push bytes (k ∷ log) l = half_push (half_effect k bytes) log l

one_more : (image : Image) (s : Standing) (l : LoggedCall) → image_of image (after_call s l) ≡ after_one (λ i. image_of i s) l image
one_more image s l = by image (fixes l)
  where
    by : (i : Image) (b : Bool) → image_of i (if b then record { fixed = replayed s.fixed s.since; since = [] } else record { fixed = s.fixed; since = s.since ++ l ∷ [] }) ≡ (if b then replayed s.fixed s.since else pushed i l (image_of i s))
    by Old true = refl
    by New true = refl
    by Torn true = refl
    by Old false = refl
    by New false = replayed-push s.fixed s.since l
    by Torn false = half_push s.fixed s.since l

all_more : (image : Image) (s : Standing) (log : List LoggedCall) → image_of image (after_calls s log) ≡ imaged (λ i. image_of i s) log image
all_more image s [] = refl
all_more image s (l ∷ log) = all_more image (after_call s l) log ∙ imaged_same (λ i. image_of i (after_call s l)) (after_one (λ i. image_of i s) l) (λ i. one_more i s l) log image

calls_on : (s : Standing) (one two : List LoggedCall) → after_calls s (one ++ two) ≡ after_calls (after_calls s one) two
calls_on s [] two = refl
calls_on s (l ∷ one) two = calls_on (after_call s l) one two

image_stands : (image : Image) (h : History) → image_bytes image h ≡ image_of image (standing h)
image_stands Old h = refl
image_stands New h = refl
image_stands Torn h = refl

images_after : (image : Image) (h now : History) (done failed : List DiskCall) → now ≡ with_calls h done failed → image_bytes image now ≡ imaged (λ i. image_bytes i h) (noted_as true done ++ noted_as false failed) image
images_after image h now done failed is =
    let log = noted_as true done ++ noted_as false failed in
    ap (image_bytes image) is ∙ (image_stands image (with_calls h done failed) ∙ (ap (image_of image) (calls_on (record { fixed = h.start; since = [] }) h.log log) ∙ (all_more image (standing h) log
    ∙ imaged_same (λ i. image_of i (standing h)) (λ i. image_bytes i h) (λ i. sym (image_stands i h)) log image)))

new_image : (h : History) → image_bytes New h ≡ bytes_now h
new_image h = sym (bytes_stand h)

-- ---- a step that was stopped, whatever came before
-- the images of a disk that read these bytes once it was settled
abbrev images_of : List ℕ → List DiskCall → List DiskCall → Image → List ℕ
images_of bytes done failed = imaged (λ i. bytes) (noted_as true done ++ noted_as false failed)

-- the calls up to the one that failed, and that one, behind the syncs
module _ (h : History) (image : Image) where
  settled_so : (done failed : List DiskCall) → IsSettled h → imaged (λ i. image_bytes i h) (noted_as true done ++ noted_as false failed) image ≡ images_of (bytes_now h) done failed image
  settled_so done failed is = imaged_same (λ i. image_bytes i h) (λ i. bytes_now h) is (noted_as true done ++ noted_as false failed) image

  synced_so : (done failed : List DiskCall) → imaged (λ i. image_bytes i h) (noted_as true (Sync ∷ done) ++ noted_as false failed) image ≡ images_of (bytes_now h) done failed image
  synced_so done failed = imaged_same (λ i. image_bytes New h) (λ i. bytes_now h) (λ i. new_image h) (noted_as true done ++ noted_as false failed) image

  -- of one of the two disks, whose calls these are
  module _ (own : PairCalls → List DiskCall) (syncs : (calls : PairCalls) → own ((false, Sync) ∷ (true, Sync) ∷ calls) ≡ Sync ∷ own calls) where
    abbrev stopped_in : PairCalls → ℕ → List ℕ
    stopped_in calls n = imaged (λ i. image_bytes i h) (noted_as true (own (take n calls)) ++ noted_as false (own (take 1 (drop n calls)))) image

    behind : (ready_now : Bool) (all : ℕ) (calls : PairCalls) → length (sync_calls ready_now) ≤ all → (ready_now ≡ true → IsSettled h)
        → stopped_in (sync_calls ready_now ++ calls) ((all + 1) - 1)
        ≡ images_of (bytes_now h) (own (take (all - length (sync_calls ready_now)) calls)) (own (take 1 (drop (all - length (sync_calls ready_now)) calls))) image
    behind true all calls some is =
        let same : (all + 1) - 1 ≡ all - 0 = omega arith in
        ap (stopped_in calls) same ∙ settled_so (own (take (all - 0) calls)) (own (take 1 (drop (all - 0) calls))) (is refl)
    behind false zero calls some is = absurd (omega (arith, some))
    behind false (suc zero) calls some is = absurd (omega (arith, some))
    behind false (suc (suc n)) calls some is =
        let one : (suc (suc n) + 1) - 1 ≡ suc (suc n) = omega arith in
        let two : n ≡ suc (suc n) - 2 = omega arith in
        ap (stopped_in ((false, Sync) ∷ (true, Sync) ∷ calls)) one
        ∙ (ap (λ (cs : List DiskCall). imaged (λ i. image_bytes i h) (noted_as true cs ++ noted_as false (own (take 1 (drop n calls)))) image) (syncs (take n calls))
        ∙ (synced_so (own (take n calls)) (own (take 1 (drop n calls)))
        ∙ ap (λ (m : ℕ). images_of (bytes_now h) (own (take m calls)) (own (take 1 (drop m calls))) image) two))

-- ---- what the two stand for, from their bytes
module _ (generation start end : ℕ) (list : List (List ℕ)) (payload c : List ℕ) (small : length payload < 2 ^ 32) (whole : IsWhole generation start end list c) where
  -- with the record, or without it
  abbrev Has : Bool → List ℕ → Type 0
  Has true bytes = IsWhole generation start (end + 5 + length payload) (list ++ payload ∷ []) bytes
  Has false bytes = IsWhole generation start end list bytes

  without : (second : Bool) → Result Counted DiskPlace
  without second = counts_as second generation start end list

  pair_has : (kept second : Bool) (bytes d : List ℕ) → Has kept bytes → IsBelow second generation d → pair_in second bytes d ≡ which payload kept (counts_as second generation start end list)
  pair_has true second bytes d has below = pair_whole second generation start (end + 5 + length payload) (list ++ payload ∷ []) bytes d has below
  pair_has false second bytes d has below = pair_whole second generation start end list bytes d has below

  abbrev put_it : List ℕ
  put_it = put generation start end list payload c small whole

  abbrev gated_it : List ℕ
  gated_it = gated generation start end list payload c small whole

  abbrev piece_it : List ℕ
  piece_it = piece generation start end list payload c small whole

  is_put_it : IsWhole generation start end list put_it
  is_put_it = is_put generation start end list payload c small whole

  has_record_now : IsWhole generation start (end + 5 + length payload) (list ++ payload ∷ []) gated_it
  has_record_now = has_it generation start end list payload c small whole

  -- the disk that counts, where this many calls of the record were made, and the next one failed
  abbrev counting_image : ℕ → Image → List ℕ
  counting_image made = images_of c (take made (append_calls end payload)) (take 1 (drop made (append_calls end payload)))

  is_counting : (made : ℕ) → made < 4 → (image : Image) → Has (keeps_faulted (made + 1) image) (counting_image made image)
  is_counting zero few Old = whole
  is_counting zero few New = whole
  is_counting zero few Torn = whole
  is_counting (suc zero) few Old = whole
  is_counting (suc zero) few New = is_put_it
  is_counting (suc zero) few Torn =
      let half = take (length piece_it / 2) piece_it in
      whole_torn generation start end list (length half) c (written (end + 1) half c) whole (written_is_torn (end + 1) half c)
  is_counting (suc (suc zero)) few Old = is_put_it
  is_counting (suc (suc zero)) few New = is_put_it
  is_counting (suc (suc zero)) few Torn = is_put_it
  is_counting (suc (suc (suc zero))) few Old = is_put_it
  is_counting (suc (suc (suc zero))) few New = has_record_now
  is_counting (suc (suc (suc zero))) few Torn = is_put_it
  is_counting (suc (suc (suc (suc made)))) few image = absurd (omega (arith, few))

  -- the other one, of the snapshot
  module _ (second shut : Bool) (image d : List ℕ) (aside : IsAside second generation shut d) where
    abbrev closed_it : List ℕ
    closed_it = closed generation start end list payload c small whole second shut image d aside

    abbrev cut_it : List ℕ
    cut_it = cut generation start end list payload c small whole second shut image d aside

    abbrev filled_it : List ℕ
    filled_it = filled generation start end list payload c small whole second shut image d aside

    abbrev other_image : ℕ → Image → List ℕ
    other_image made = images_of d (take made (snapshot_calls shut (generation + 1) image)) (take 1 (drop made (snapshot_calls shut (generation + 1) image)))

    is_closed_it : IsClosed closed_it
    is_closed_it = is_closed generation start end list payload c small whole second shut image d aside

    is_cut_it : IsClosed cut_it
    is_cut_it = is_cut generation start end list payload c small whole second shut image d aside

    is_filled_it : IsClosed filled_it
    is_filled_it = is_filled generation start end list payload c small whole second shut image d aside

    is_half : IsClosed (written 9 (take (length (bytes_of_image (generation + 1) image) / 2) (bytes_of_image (generation + 1) image)) cut_it)
    is_half =
        let half = take (length (bytes_of_image (generation + 1) image) / 2) (bytes_of_image (generation + 1) image) in
        let torn = written_is_torn 9 half cut_it in
        let nine : length cut_it ≡ 9 = cut_long generation start end list payload c small whole second shut image d aside in
        closed_same cut_it (written 9 half cut_it) is_cut_it (torn_front 9 9 (length half) cut_it (written 9 half cut_it) torn (omega arith) (omega (arith, nine))) (omega (arith, torn.no_shorter, nine))

    -- half of the write that closes a head gate byte is none
    half_closing : (b : Bool) → written 8 (take (length (closing b) / 2) (closing b)) d ≡ d
    half_closing true = refl
    half_closing false = refl

    beside : IsBelow second generation d
    beside = aside_below second generation shut d aside

    is_beside : (made : ℕ) → made < 6 → (i : Image) → IsBelow second generation (other_image made i)
    is_beside zero few Old = beside
    is_beside zero few New = beside
    is_beside zero few Torn = beside
    is_beside (suc zero) few Old = beside
    is_beside (suc zero) few New = inl is_closed_it
    is_beside (suc zero) few Torn = subst (IsBelow second generation) (sym (half_closing shut)) beside
    is_beside (suc (suc zero)) few Old = inl is_closed_it
    is_beside (suc (suc zero)) few New = inl is_closed_it
    is_beside (suc (suc zero)) few Torn = inl is_closed_it
    is_beside (suc (suc (suc zero))) few Old = inl is_closed_it
    is_beside (suc (suc (suc zero))) few New = inl is_cut_it
    is_beside (suc (suc (suc zero))) few Torn = inl is_cut_it
    is_beside (suc (suc (suc (suc zero)))) few Old = inl is_closed_it
    is_beside (suc (suc (suc (suc zero)))) few New = inl is_filled_it
    is_beside (suc (suc (suc (suc zero)))) few Torn = inl is_half
    is_beside (suc (suc (suc (suc (suc zero))))) few Old = inl is_filled_it
    is_beside (suc (suc (suc (suc (suc zero))))) few New = inl is_filled_it
    is_beside (suc (suc (suc (suc (suc zero))))) few Torn = inl is_filled_it
    is_beside (suc (suc (suc (suc (suc (suc made)))))) few i = absurd (omega (arith, few))

    -- behind the write of its head gate byte
    at_head : (i : Image) → generation + 1 < 2 ^ 64 → length image < 2 ^ 32
        → pair_in second gated_it (other_image 6 i) ≡ (if is_new i then counts_as (not second) (generation + 1) (gates_at image) (gates_at image) (image ∷ []) else which payload true (counts_as second generation start end list))
    at_head Old fits small_image = pair_has true second gated_it filled_it has_record_now (inl is_filled_it)
    at_head New fits small_image = is_turned generation start end list payload c small whole second shut image d aside fits small_image
    at_head Torn fits small_image = pair_has true second gated_it filled_it has_record_now (inl is_filled_it)

  -- the two in their order, where this many calls of a step were made, and the next one failed
  abbrev pair_left : Bool → ℕ → PairCalls → List ℕ → Image → Image → Result Counted DiskPlace
  pair_left second made calls d one two =
      pair_of (images_of (if second then d else c) (first_calls (take made calls)) (first_calls (take 1 (drop made calls))) one)
      (images_of (if second then c else d) (second_calls (take made calls)) (second_calls (take 1 (drop made calls))) two)

  in_record_left : (second : Bool) (d : List ℕ) → IsBelow second generation d → (made : ℕ) → made < 4 → (one two : Image)
      → pair_left second made (all_on second (append_calls end payload) ++ []) d one two
      ≡ which payload (keeps_faulted (made + 1) (unsynced_image (made + 1) second one two)) (counts_as second generation start end list)
  in_record_left false d below zero few one two = pair_has (keeps_faulted 1 one) false (counting_image 0 one) d (is_counting 0 few one) below
  in_record_left false d below (suc zero) few one two = pair_has (keeps_faulted 2 one) false (counting_image 1 one) d (is_counting 1 few one) below
  in_record_left false d below (suc (suc zero)) few one two = pair_has (keeps_faulted 3 one) false (counting_image 2 one) d (is_counting 2 few one) below
  in_record_left false d below (suc (suc (suc zero))) few one two = pair_has (keeps_faulted 4 one) false (counting_image 3 one) d (is_counting 3 few one) below
  in_record_left false d below (suc (suc (suc (suc made)))) few one two = absurd (omega (arith, few))
  in_record_left true d below zero few one two = pair_has (keeps_faulted 1 two) true (counting_image 0 two) d (is_counting 0 few two) below
  in_record_left true d below (suc zero) few one two = pair_has (keeps_faulted 2 two) true (counting_image 1 two) d (is_counting 1 few two) below
  in_record_left true d below (suc (suc zero)) few one two = pair_has (keeps_faulted 3 two) true (counting_image 2 two) d (is_counting 2 few two) below
  in_record_left true d below (suc (suc (suc zero))) few one two = pair_has (keeps_faulted 4 two) true (counting_image 3 two) d (is_counting 3 few two) below
  in_record_left true d below (suc (suc (suc (suc made)))) few one two = absurd (omega (arith, few))

  in_snapshot_left : (second shut : Bool) (image d : List ℕ) → IsAside second generation shut d → (made : ℕ) → 4 ≤ made → made < 11 → (10 ≤ made → (length image < 2 ^ 32) × (generation + 1 < 2 ^ 64)) → (one two : Image)
      → pair_left second made (all_on second (append_calls end payload) ++ all_on (not second) (snapshot_calls shut (generation + 1) image)) d one two
      ≡ (if turns_faulted (made + 1) (unsynced_image (made + 1) second one two) then counts_as (not second) (generation + 1) (gates_at image) (gates_at image) (image ∷ [])
      else which payload (keeps_faulted (made + 1) (unsynced_image (made + 1) second one two)) (counts_as second generation start end list))
  in_snapshot_left false shut image d aside zero some few reach one two = absurd (omega (arith, some))
  in_snapshot_left false shut image d aside (suc zero) some few reach one two = absurd (omega (arith, some))
  in_snapshot_left false shut image d aside (suc (suc zero)) some few reach one two = absurd (omega (arith, some))
  in_snapshot_left false shut image d aside (suc (suc (suc zero))) some few reach one two = absurd (omega (arith, some))
  in_snapshot_left false shut image d aside (suc (suc (suc (suc zero)))) some few reach one two = pair_has true false gated_it (other_image false shut image d aside 0 two) has_record_now (is_beside false shut image d aside 0 (omega arith) two)
  in_snapshot_left false shut image d aside (suc (suc (suc (suc (suc zero))))) some few reach one two = pair_has true false gated_it (other_image false shut image d aside 1 two) has_record_now (is_beside false shut image d aside 1 (omega arith) two)
  in_snapshot_left false shut image d aside (suc (suc (suc (suc (suc (suc zero)))))) some few reach one two = pair_has true false gated_it (other_image false shut image d aside 2 two) has_record_now (is_beside false shut image d aside 2 (omega arith) two)
  in_snapshot_left false shut image d aside (suc (suc (suc (suc (suc (suc (suc zero))))))) some few reach one two = pair_has true false gated_it (other_image false shut image d aside 3 two) has_record_now (is_beside false shut image d aside 3 (omega arith) two)
  in_snapshot_left false shut image d aside (suc (suc (suc (suc (suc (suc (suc (suc zero)))))))) some few reach one two = pair_has true false gated_it (other_image false shut image d aside 4 two) has_record_now (is_beside false shut image d aside 4 (omega arith) two)
  in_snapshot_left false shut image d aside (suc (suc (suc (suc (suc (suc (suc (suc (suc zero))))))))) some few reach one two = pair_has true false gated_it (other_image false shut image d aside 5 two) has_record_now (is_beside false shut image d aside 5 (omega arith) two)
  in_snapshot_left false shut image d aside (suc (suc (suc (suc (suc (suc (suc (suc (suc (suc zero)))))))))) some few reach one two = let fits = reach (omega arith) in at_head false shut image d aside two fits.1 fits.0
  in_snapshot_left false shut image d aside (suc (suc (suc (suc (suc (suc (suc (suc (suc (suc (suc made))))))))))) some few reach one two = absurd (omega (arith, few))
  in_snapshot_left true shut image d aside zero some few reach one two = absurd (omega (arith, some))
  in_snapshot_left true shut image d aside (suc zero) some few reach one two = absurd (omega (arith, some))
  in_snapshot_left true shut image d aside (suc (suc zero)) some few reach one two = absurd (omega (arith, some))
  in_snapshot_left true shut image d aside (suc (suc (suc zero))) some few reach one two = absurd (omega (arith, some))
  in_snapshot_left true shut image d aside (suc (suc (suc (suc zero)))) some few reach one two = pair_has true true gated_it (other_image true shut image d aside 0 one) has_record_now (is_beside true shut image d aside 0 (omega arith) one)
  in_snapshot_left true shut image d aside (suc (suc (suc (suc (suc zero))))) some few reach one two = pair_has true true gated_it (other_image true shut image d aside 1 one) has_record_now (is_beside true shut image d aside 1 (omega arith) one)
  in_snapshot_left true shut image d aside (suc (suc (suc (suc (suc (suc zero)))))) some few reach one two = pair_has true true gated_it (other_image true shut image d aside 2 one) has_record_now (is_beside true shut image d aside 2 (omega arith) one)
  in_snapshot_left true shut image d aside (suc (suc (suc (suc (suc (suc (suc zero))))))) some few reach one two = pair_has true true gated_it (other_image true shut image d aside 3 one) has_record_now (is_beside true shut image d aside 3 (omega arith) one)
  in_snapshot_left true shut image d aside (suc (suc (suc (suc (suc (suc (suc (suc zero)))))))) some few reach one two = pair_has true true gated_it (other_image true shut image d aside 4 one) has_record_now (is_beside true shut image d aside 4 (omega arith) one)
  in_snapshot_left true shut image d aside (suc (suc (suc (suc (suc (suc (suc (suc (suc zero))))))))) some few reach one two = pair_has true true gated_it (other_image true shut image d aside 5 one) has_record_now (is_beside true shut image d aside 5 (omega arith) one)
  in_snapshot_left true shut image d aside (suc (suc (suc (suc (suc (suc (suc (suc (suc (suc zero)))))))))) some few reach one two = let fits = reach (omega arith) in at_head true shut image d aside one fits.1 fits.0
  in_snapshot_left true shut image d aside (suc (suc (suc (suc (suc (suc (suc (suc (suc (suc (suc made))))))))))) some few reach one two = absurd (omega (arith, few))

-- ---- a step over a journal whose last call met no fault
module _ (s : State DiskState) (ready_now : is_ready s.pending ≡ true) (sound : IsSound seen_on left_now s) where
  settled_first : (payload : List ℕ) → length payload < 2 ^ 32 → IsSettled (first_disk s).history
  settled_first payload small = by s.second
    where
      by : (b : Bool) → IsSettled (if b then s.other else s.counting).history
      by true = settled s.other.history (at s ready_now sound payload small).fixed_other
      by false = settled s.counting.history (at s ready_now sound payload small).fixed

  settled_second : (payload : List ℕ) → length payload < 2 ^ 32 → IsSettled (second_disk s).history
  settled_second payload small = by s.second
    where
      by : (b : Bool) → IsSettled (if b then s.counting else s.other).history
      by true = settled s.counting.history (at s ready_now sound payload small).fixed
      by false = settled s.other.history (at s ready_now sound payload small).fixed_other

  module _ (payload : List ℕ) (small : length payload < 2 ^ 32) where
    abbrev left_after : ℕ → PairCalls → Image → Image → Result Counted DiskPlace
    left_after made calls one two =
        pair_of (images_of (seen_on (first_disk s)) (first_calls (take made calls)) (first_calls (take 1 (drop made calls))) one)
        (images_of (seen_on (second_disk s)) (second_calls (take made calls)) (second_calls (take 1 (drop made calls))) two)

    abbrev list_now : List (List ℕ)
    list_now = (at s ready_now sound payload small).list

    whole_now : IsWhole s.generation s.start s.end list_now (seen_on s.counting)
    whole_now = is_whole s ready_now sound payload small

    stored_now : counts_as s.second s.generation s.start s.end list_now ≡ stored seen_on s
    stored_now = sym (is_stored s ready_now sound payload small)

    in_order_left : (made : ℕ) (calls : PairCalls) (one two : Image) → left_after made calls one two ≡ pair_left s.generation s.start s.end list_now payload (seen_on s.counting) small whole_now s.second made calls (seen_on s.other) one two
    in_order_left made calls one two =
        ap (λ (b : List ℕ). pair_of (images_of b (first_calls (take made calls)) (first_calls (take 1 (drop made calls))) one) (images_of (seen_on (second_disk s)) (second_calls (take made calls)) (second_calls (take 1 (drop made calls))) two)) (seen_first s)
        ∙ ap (λ (b : List ℕ). pair_of (images_of (if s.second then seen_on s.other else seen_on s.counting) (first_calls (take made calls)) (first_calls (take 1 (drop made calls))) one) (images_of b (second_calls (take made calls)) (second_calls (take 1 (drop made calls))) two)) (seen_second s)

    laid_left : (snapshot : Option (List ℕ)) (made : ℕ) → made < length (kept_calls s (Some payload) snapshot) → IsBehindRecord snapshot made → IsWithinReach (made + 1) s.generation snapshot → (one two : Image)
        → left_after made (kept_calls s (Some payload) snapshot) one two ≡ left_of_fault (stored seen_on s) s payload snapshot (made + 1) (unsynced_image (made + 1) s.second one two)
    laid_left None made few behind reach one two =
        in_order_left made (kept_calls s (Some payload) None) one two
        ∙ (in_record_left s.generation s.start s.end list_now payload (seen_on s.counting) small whole_now s.second (seen_on s.other) (aside_below s.second s.generation s.shut (seen_on s.other) (is_aside s ready_now sound payload small)) made few one two
        ∙ ap (which payload (keeps_faulted (made + 1) (unsynced_image (made + 1) s.second one two))) stored_now)
    laid_left (Some image) made few behind reach one two =
        in_order_left made (kept_calls s (Some payload) (Some image)) one two
        ∙ (in_snapshot_left s.generation s.start s.end list_now payload (seen_on s.counting) small whole_now s.second s.shut image (seen_on s.other) (is_aside s ready_now sound payload small) made behind few (λ late. reach (omega (arith, late))) one two
        ∙ ap (λ (p : Result Counted DiskPlace). if turns_faulted (made + 1) (unsynced_image (made + 1) s.second one two) then snapshot_of image s else which payload (keeps_faulted (made + 1) (unsynced_image (made + 1) s.second one two)) p) stored_now)

-- ---- what is left of a step
module _ {M S C R T : Type 0} (state : M → S) (stands : List (List ℕ) → S → Type 0) (bytes : T → List ℕ) (answers : S → C → R → Option T → Type 0) (follows : S → T → Type 0) (after : S → T → S)
    (old new : Kept M DiskState T) (call : C) (broken : BrokenInMemory state stands bytes answers follows after old new call) (first second : ℕ) (faulted : Faulted state stands bytes answers follows after first second old new call broken)
    (armed_one : IsArmed (first_disk old.journal) first) (armed_two : IsArmed (second_disk old.journal) second) (fed_one : (first_disk new.journal).starved ≡ false) (fed_two : (second_disk new.journal).starved ≡ false)
    (near : are_too_far (wanted_calls state stands bytes answers follows after old new call broken) ≡ false) where
  abbrev place : State DiskState
  place = broken.unkept.place

  abbrev all_made : ℕ
  all_made = length broken.unkept.told.made

  abbrev syncs : PairCalls
  syncs = sync_calls (is_ready old.journal.pending)

  abbrev made : ℕ
  made = all_made - length syncs

  abbrev payload : List ℕ
  payload = bytes faulted.step

  abbrev kept : PairCalls
  kept = kept_calls place (Some payload) broken.unkept.image

  stops : StopsAt first second old.journal new.journal (wanted_calls state stands bytes answers follows after old new call broken) (all_made + 1)
  stops = stopped_at old.journal new.journal (wanted_calls state stands bytes answers follows after old new call broken) first second armed_one armed_two broken.unkept.told fed_one fed_two near

  same_number : (a b : ℕ) → Some a ≡ Some b → a ≡ b
  same_number a b is = cc is

  is_number : made + 1 ≡ faulted.number
  is_number =
      let both : all_made + 1 ≡ length syncs + faulted.number = same_number (all_made + 1) (length syncs + faulted.number) (sym stops.place ∙ faulted.place) in
      omega (arith, both, broken.synced)

  is_kept : wanted_calls state stands bytes answers follows after old new call broken ≡ syncs ++ kept
  is_kept = ap (λ (o : Option T). syncs ++ kept_calls place (option_map bytes o) broken.unkept.image) faulted.is_step

  few : made < length kept
  few =
      let most : all_made + 1 ≤ length (syncs ++ kept) = subst (λ (l : PairCalls). all_made + 1 ≤ length l) is_kept stops.most in
      omega (arith, most, broken.synced, length-append syncs kept)

  short : length payload ≤ 8_388_608
  short = subst (λ (o : Option T). IfSome o (λ t. length (bytes t) ≤ 8_388_608)) faulted.is_step broken.short

  small : length payload < 2 ^ 32
  small = omega (arith, short)

  read : stored seen_on place ≡ stored seen_on old.journal
  read = ap (λ (l : List ℕ). pair_of l (seen_on (second_disk place))) (broken.read tt).0 ∙ ap (pair_of (seen_on (first_disk old.journal))) (broken.read tt).1

  settled_one : is_ready old.journal.pending ≡ true → IsSettled (first_disk old.journal).history
  settled_one ready_now = subst (λ (s : State DiskState). IsSettled (first_disk s).history) (broken.unkept.found.same ready_now) (settled_first place broken.unkept.found.ready (broken.sound tt) payload small)

  settled_two : is_ready old.journal.pending ≡ true → IsSettled (second_disk old.journal).history
  settled_two ready_now = subst (λ (s : State DiskState). IsSettled (second_disk s).history) (broken.unkept.found.same ready_now) (settled_second place broken.unkept.found.ready (broken.sound tt) payload small)

  first_left : (image : Image) → image_bytes image (first_disk new.journal).history ≡ images_of (seen_on (first_disk place)) (first_calls (take made kept)) (first_calls (take 1 (drop made kept))) image
  first_left image =
      let h = (first_disk old.journal).history in
      images_after image h (first_disk new.journal).history _ _ stops.first_history
      ∙ (ap (λ (l : PairCalls). imaged (λ i. image_bytes i h) (noted_as true (first_calls (take ((all_made + 1) - 1) l)) ++ noted_as false (first_calls (take 1 (drop ((all_made + 1) - 1) l)))) image) is_kept
      ∙ (behind h image first_calls (λ calls. refl) (is_ready old.journal.pending) all_made kept broken.synced settled_one
      ∙ ap (λ (b : List ℕ). images_of b (first_calls (take made kept)) (first_calls (take 1 (drop made kept))) image) (sym (broken.read tt).0)))

  second_left : (image : Image) → image_bytes image (second_disk new.journal).history ≡ images_of (seen_on (second_disk place)) (second_calls (take made kept)) (second_calls (take 1 (drop made kept))) image
  second_left image =
      let h = (second_disk old.journal).history in
      images_after image h (second_disk new.journal).history _ _ stops.second_history
      ∙ (ap (λ (l : PairCalls). imaged (λ i. image_bytes i h) (noted_as true (second_calls (take ((all_made + 1) - 1) l)) ++ noted_as false (second_calls (take 1 (drop ((all_made + 1) - 1) l)))) image) is_kept
      ∙ (behind h image second_calls (λ calls. refl) (is_ready old.journal.pending) all_made kept broken.synced settled_two
      ∙ ap (λ (b : List ℕ). images_of b (second_calls (take made kept)) (second_calls (take 1 (drop made kept))) image) (sym (broken.read tt).1)))

  module _ (reach : IsWithinReach faulted.number place.generation broken.unkept.image) where
    each_left : (one two : Image) → pair_of (image_bytes one (first_disk new.journal).history) (image_bytes two (second_disk new.journal).history)
        ≡ left_of_fault (stored seen_on old.journal) place payload broken.unkept.image faulted.number (unsynced_image faulted.number place.second one two)
    each_left one two =
        ap (λ (l : List ℕ). pair_of l (image_bytes two (second_disk new.journal).history)) (first_left one)
        ∙ (ap (pair_of (images_of (seen_on (first_disk place)) (first_calls (take made kept)) (first_calls (take 1 (drop made kept))) one)) (second_left two)
        ∙ (laid_left place broken.unkept.found.ready (broken.sound tt) payload small broken.unkept.image made few broken.behind (subst (λ (n : ℕ). IsWithinReach n place.generation broken.unkept.image) (sym is_number) reach) one two
        ∙ (ap (λ (n : ℕ). left_of_fault (stored seen_on place) place payload broken.unkept.image n (unsynced_image n place.second one two)) is_number
        ∙ ap (λ (p : Result Counted DiskPlace). left_of_fault p place payload broken.unkept.image faulted.number (unsynced_image faulted.number place.second one two)) read)))

    pub left_again : LeftAgain state stands bytes answers follows after first second old new call broken faulted
    left_again = record {
      images = each_left;
      synced = λ image. ap (λ (l : List ℕ). pair_of l (image_bytes image (second_disk new.journal).history)) (sym (new_image (first_disk new.journal).history)) ∙ each_left New image;
    }

-- ---- a sync that failed
failed_sync : (f : Image → List ℕ) (image : Image) → imaged f (record { call = Sync; done = false } ∷ []) image ≡ f image
failed_sync f Old = refl
failed_sync f New = refl
failed_sync f Torn = refl

module _ (old new : State DiskState) (first second : ℕ) (armed_one : IsArmed (first_disk old) first) (armed_two : IsArmed (second_disk old) second) (fed_one : (first_disk new).starved ≡ false) (fed_two : (second_disk new).starved ≡ false) where
  still_at : (n : ℕ) → n < 2 → StopsAt first second old new (sync_calls false) (n + 1) → LeftStill first second old new
  still_at zero few stops = record {
    number = 1;
    place = stops.place;
    first_image = λ image. images_after image (first_disk old).history (first_disk new).history [] (Sync ∷ []) stops.first_history ∙ failed_sync (λ i. image_bytes i (first_disk old).history) image;
    second_image = λ image. images_after image (second_disk old).history (second_disk new).history [] [] stops.second_history;
  }
  still_at (suc zero) few stops = record {
    number = 2;
    place = stops.place;
    first_image = λ image. images_after image (first_disk old).history (first_disk new).history (Sync ∷ []) [] stops.first_history ∙ new_image (first_disk old).history;
    second_image = λ image. images_after image (second_disk old).history (second_disk new).history [] (Sync ∷ []) stops.second_history ∙ failed_sync (λ i. image_bytes i (second_disk old).history) image;
  }
  still_at (suc (suc n)) few stops = absurd (omega (arith, few))

  still_of : (ready_now : Bool) → IsStopped old new (sync_calls ready_now) → LeftStill first second old new
  still_of true stopped = absurd (omega (arith, ap length stopped.split, length-append stopped.made (stopped.last ∷ stopped.rest)))
  still_of false stopped =
      let stops = stopped_at old new (sync_calls false) first second armed_one armed_two stopped fed_one fed_two refl in
      let most : length stopped.made + 1 ≤ 2 = stops.most in
      still_at (length stopped.made) (omega (arith, most)) stops

  pub left_still : IsStopped old new (sync_calls (is_ready old.pending)) → LeftStill first second old new
  left_still stopped = still_of (is_ready old.pending) stopped
