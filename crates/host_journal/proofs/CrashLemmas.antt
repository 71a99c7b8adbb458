-- An append or a snapshot that a crash stops: what an image keeps of the write of a gate byte, and what the disks stand for then.
use Rattle.std.proofs.Common.{◌≡◌, ◌⊎◌, inl, inr, ℕ, ◌+◌, ◌<◌, ◌≤◌, ◌^◌, Bool, true, false, not, if◌then◌else◌, List, [], ◌∷◌, ◌++◌, length, take, Result, Ok, Err, refl, sym, ◌∙◌, ap, subst, arith}
use Rattle.std.specs.Prelude.{◌&&◌, ◌||◌, nat_lt, OnOk}
use Rattle.std.specs.Int.{w32, to_be_bytes}
use Rattle.std.proofs.lemmas.Bool.{cases_lt}
use Rattle.std.proofs.lemmas.Bool.Decides.{nat_tests}
use Rattle.ps_disks.specs.Disk.{Torn, written}
use Rattle.ps_disks.specs.History.{History, Standing, after_call, after_calls, bytes_now, half_replayed, image_bytes, replayed, standing, with_call}
use Rattle.ps_disks.specs.MemoryDisk.{DiskState, Makes, after_made}
use Rattle.ps_disks.specs.Images.{bytes_stand, written_is_torn}
use Rattle.ps_disks.specs.declared.disk.DiskCall.TheVariants.{Sync, Write}
use Rattle.ps_disks.specs.declared.history.LoggedCall.{LoggedCall}
use Rattle.ps_disks.specs.declared.image.Image.{Image}
use Rattle.ps_disks.specs.declared.image.Image.TheVariants.{New, Old, Torn as torn_image}
use Rattle.host_journal.specs.Calls.{KeepsHead, PartAfter}
use Rattle.host_journal.specs.Crash.{is_new, opens_gate, opens_head}
use Rattle.host_journal.specs.Pair.{gates_at, pair_of}
use Rattle.host_journal.specs.State.{IsAside, IsSound, IsWhole, State, closing, image_bytes as bytes_of_image, is_ready, pair_in, snapshot_of, stored, which}
use Rattle.host_journal.proofs.AppendLemmas.{opened, staged_written, whole_torn}
use Rattle.host_journal.proofs.HeadLemmas.{aside_below}
use Rattle.host_journal.proofs.PairLemmas.{counts_as, pair_whole}
use Rattle.host_journal.proofs.RestLemmas.{keeps_then, keeps_torn}
use Rattle.host_journal.proofs.SnapshotLemmas.{close_torn, close_written, image_opened, image_written, kept_closed, older_now}
use Rattle.host_journal.proofs.StateLemmas.{Ready, more_pair, ready, same_pair, stored_in, stored_is}
use Rattle.host_journal.proofs.TurnLemmas.{turned_in}

-- one call more
stands-push : (s : Standing) (log : List LoggedCall) (l : LoggedCall) → after_calls s (log ++ l ∷ []) ≡ after_call (after_calls s log) l
stands-push s [] l = refl
stands-push s (k ∷ log) l = stands-push (after_call s k) log l

abbrev gate_byte : ℕ → LoggedCall
gate_byte at = record { call = Write at (1 ∷ []); done = true }

-- a sync that was done, and then the write of a gate byte
pub gate_stands : (h : History) (bytes : List ℕ) (at : ℕ) → bytes_now h ≡ bytes → standing (with_call (with_call h Sync true) (Write at (1 ∷ [])) true) ≡ record { fixed = bytes; since = gate_byte at ∷ [] }
gate_stands h bytes at is =
    let made : LoggedCall = record { call = Sync; done = true } in
    let start : Standing = record { fixed = h.start; since = [] } in
    stands-push start (h.log ++ made ∷ []) (gate_byte at) ∙ ap (λ (s : Standing). after_call s (gate_byte at)) (stands-push start h.log made)
    ∙ ap (λ (b : List ℕ). record { fixed = b; since = gate_byte at ∷ [] }) (sym (bytes_stand h) ∙ is)

-- the image that keeps all has the gate byte, and the others have not: half of a gate byte is none
module _ (h : History) (bytes : List ℕ) (at : ℕ) (stands : standing h ≡ record { fixed = bytes; since = gate_byte at ∷ [] }) where
  pub gate_closed : (image : Image) → is_new image ≡ false → image_bytes image h ≡ bytes
  gate_closed Old closed = ap (λ (s : Standing). s.fixed) stands
  gate_closed New closed = absurd (cc closed)
  gate_closed torn_image closed = ap (λ (s : Standing). half_replayed s.fixed s.since) stands

  pub gate_open : (image : Image) → is_new image ≡ true → image_bytes image h ≡ written at (1 ∷ []) bytes
  gate_open Old whole = absurd (cc whole)
  gate_open New whole = ap (λ (s : Standing). replayed s.fixed s.since) stands
  gate_open torn_image whole = absurd (cc whole)

-- so after the first three calls of an append
pub gate_written : {E : Type 0} (at : ℕ) (bytes : List ℕ) (behind synced now : DiskState) (result : Result (Unit {0}) E) → bytes_now behind.history ≡ bytes → synced ≡ after_made behind Sync true → Makes (Write at (1 ∷ [])) synced now result
    → OnOk result (standing now.history ≡ record { fixed = bytes; since = gate_byte at ∷ [] })
gate_written at bytes behind synced now (Ok u) is made makes =
    ap (λ (d : DiskState). standing d.history) (makes.1 ∙ ap (λ (d : DiskState). after_made d (Write at (1 ∷ [])) true) made) ∙ gate_stands behind.history bytes at is
gate_written at bytes behind synced now (Err e) is made makes = tt

-- from the third call on only the image decides
pub shut_late : (stop : ℕ) (image : Image) → 2 < stop → opens_gate stop image ≡ false → is_new image ≡ false
shut_late stop image late shut =
    let yes : nat_lt 2 stop ≡ true = grind (arith, nat_tests) in
    sym (ap (λ (b : Bool). b && is_new image) yes) ∙ shut

-- What the disks stand for, where the one that counts was torn behind its gate byte, or has the record and the open gate byte before it.
module _ {D : Type 0} (seen : D → List ℕ) (may_leave : D → List ℕ → Type 0) (moment : D → ℕ) (left_since : D → ℕ → List ℕ → Type 0)
    (reads_now : (disk : D) → may_leave disk (seen disk)) (only_now : (disk : D) (c : List ℕ) → left_since disk (moment disk) c → may_leave disk c)
    (s old : State D) (view : s ≡ old) (ready_now : is_ready old.pending ≡ true) (sound : IsSound seen may_leave s)
    (payload piece : List ℕ) (is : piece ≡ to_be_bytes w32 (length payload) ++ (payload ++ 0 ∷ [])) (small : length payload < 2 ^ 32)
    (counting_was other_was counting other : D) (same : counting_was ≡ old.counting) (same_other : other_was ≡ old.other) (beside : may_leave other_was (seen other)) where
  at : Ready seen may_leave s
  at = ready seen may_leave moment left_since reads_now only_now s (ap (λ (o : State D). is_ready o.pending) view ∙ ready_now) sound

  beside_it : may_leave s.other (seen other)
  beside_it = subst (λ (d : D). may_leave d (seen other)) (same_other ∙ sym (ap (λ (o : State D). o.other) view)) beside

  is_counting : counting_was ≡ s.counting
  is_counting = same ∙ sym (ap (λ (o : State D). o.counting) view)

  in_place : (opens : Bool) → (opens ≡ false → PartAfter (Torn (s.end + 1) (length piece)) (may_leave counting_was) (seen counting))
      → (opens ≡ true → seen counting ≡ written s.end (1 ∷ []) (written (s.end + 1) piece (seen counting_was))) → pair_in s.second (seen counting) (seen other) ≡ which payload opens (stored seen s)
  in_place false shut whole =
      let part = shut refl in
      let was = at.counting part.0 (subst (λ (d : D). may_leave d part.0) is_counting part.1) in
      same_pair seen may_leave moment left_since reads_now only_now s at (seen counting) (seen other) (whole_torn s.generation s.start s.end at.list (length piece) part.0 (seen counting) was part.2) beside_it
  in_place true shut whole =
      let put = written (s.end + 1) piece (seen s.counting) in
      let staged = staged_written s.generation s.start s.end at.list payload (seen s.counting) put (at.counting (seen s.counting) (reads_now s.counting)) small (ap (λ (l : List ℕ). written (s.end + 1) l (seen s.counting)) is) in
      let with_gate : seen counting ≡ written s.end (1 ∷ []) put = whole refl ∙ ap (λ (d : D). written s.end (1 ∷ []) (written (s.end + 1) piece (seen d))) is_counting in
      more_pair seen may_leave moment left_since reads_now only_now s at payload (seen counting) (seen other) (opened s.generation s.start s.end at.list (s.end + 5 + length payload) payload put (seen counting) staged with_gate) beside_it

  pub stopped : (first second : D) → first ≡ (if s.second then other else counting) → second ≡ (if s.second then counting else other)
      → (opens : Bool) → (opens ≡ false → PartAfter (Torn (s.end + 1) (length piece)) (may_leave counting_was) (seen counting))
      → (opens ≡ true → seen counting ≡ written s.end (1 ∷ []) (written (s.end + 1) piece (seen counting_was))) → pair_of (seen first) (seen second) ≡ which payload opens (stored seen old)
  stopped first second one two opens shut whole =
      ap (λ (d : D). pair_of (seen d) (seen second)) one ∙ ap (λ (d : D). pair_of (seen (if s.second then other else counting)) (seen d)) two
      ∙ stored_in seen s.second counting other ∙ in_place opens shut whole ∙ ap (λ (o : State D). which payload opens (stored seen o)) view

-- ---- a snapshot
-- from the sixth call on only the image decides, up to the seventh
first_false : (a b : Bool) → a || b ≡ false → a ≡ false
first_false false b none = refl
first_false true b none = absurd (cc none)

pub head_shut : (stop : ℕ) (image : Image) → 5 < stop → opens_head stop image ≡ false → is_new image ≡ false
head_shut stop image late shut =
    let yes : nat_lt 5 stop ≡ true = grind (arith, nat_tests) in
    sym (ap (λ (b : Bool). b && is_new image) yes) ∙ first_false (nat_lt 5 stop && is_new image) (nat_lt 7 stop) shut

-- behind a piece that was written behind a head the head is the same
pub head_written : (closed cut piece left : List ℕ) → KeepsHead closed cut → left ≡ written 9 piece cut → KeepsHead closed left
head_written closed cut piece left keeps is = keeps_then closed cut left keeps (keeps_torn (length piece) cut left (subst (Torn 9 (length piece) cut) (sym is) (written_is_torn 9 piece cut)))

-- What the disks stand for, where the other one was closed or not, or has an image and its open head gate byte.
module _ (second shut : Bool) (generation start end : ℕ) (list : List (List ℕ)) (image c d left : List ℕ) (fits : generation + 1 < 2 ^ 64) (small : length image < 2 ^ 32)
    (whole : IsWhole generation start end list c) (aside : IsAside second generation shut d) where
  abbrev closed : List ℕ
  closed = written 8 (closing shut) d

  beside_torn : Torn 8 (length (closing shut)) d left → pair_in second c left ≡ counts_as second generation start end list
  beside_torn torn = pair_whole second generation start end list c left whole (aside_below second generation shut left (close_torn second generation shut d left aside torn))

  beside_closed : KeepsHead closed left → pair_in second c left ≡ counts_as second generation start end list
  beside_closed keeps = pair_whole second generation start end list c left whole (inl (kept_closed closed left (close_written second generation shut d closed aside refl) keeps))

  now_counts : left ≡ written 8 (1 ∷ []) (written 9 (bytes_of_image (generation + 1) image) (take 9 closed)) → pair_in second c left ≡ counts_as (not second) (generation + 1) (gates_at image) (gates_at image) (image ∷ [])
  now_counts is =
      let filled = written 9 (bytes_of_image (generation + 1) image) (take 9 closed) in
      let holds = image_written (generation + 1) image fits small closed filled (close_written second generation shut d closed aside refl) refl in
      turned_in second c left
      ∙ pair_whole (not second) (generation + 1) (gates_at image) (gates_at image) (image ∷ []) left c (image_opened (generation + 1) (gates_at image) image filled left holds is)
      (aside_below (not second) (generation + 1) false c (older_now second generation start end list c whole))

module _ {D : Type 0} (seen : D → List ℕ) (may_leave : D → List ℕ → Type 0) (moment : D → ℕ) (left_since : D → ℕ → List ℕ → Type 0)
    (reads_now : (disk : D) → may_leave disk (seen disk)) (only_now : (disk : D) (c : List ℕ) → left_since disk (moment disk) c → may_leave disk c)
    (s old : State D) (view : s ≡ old) (ready_now : is_ready old.pending ≡ true) (sound : IsSound seen may_leave s)
    (image piece : List ℕ) (is : piece ≡ bytes_of_image (s.generation + 1) image) (fits : s.generation + 1 < 2 ^ 64) (small : length image < 2 ^ 32)
    (counting_was other_was counting other : D) (same : counting_was ≡ old.counting) (same_other : other_was ≡ old.other) (kept : may_leave counting_was (seen counting)) where
  at_rest : Ready seen may_leave s
  at_rest = ready seen may_leave moment left_since reads_now only_now s (ap (λ (o : State D). is_ready o.pending) view ∙ ready_now) sound

  is_stored : counts_as s.second s.generation s.start s.end at_rest.list ≡ stored seen old
  is_stored = sym (stored_is seen may_leave moment left_since reads_now only_now s at_rest) ∙ ap (stored seen) view

  is_whole : IsWhole s.generation s.start s.end at_rest.list (seen counting)
  is_whole = at_rest.counting (seen counting) (subst (λ (d : D). may_leave d (seen counting)) (same ∙ sym (ap (λ (o : State D). o.counting) view)) kept)

  is_other : other_was ≡ s.other
  is_other = same_other ∙ sym (ap (λ (o : State D). o.other) view)

  is_aside : (d : List ℕ) → may_leave other_was d → IsAside s.second s.generation s.shut d
  is_aside d now = at_rest.other d (subst (λ (x : D). may_leave x d) is_other now)

  in_turn : (stop : ℕ) (opens : Bool) → (2 < stop) ⊎ (stop ≤ 2)
      → (stop ≤ 2 → PartAfter (Torn 8 (length (closing s.shut))) (may_leave other_was) (seen other))
      → (2 < stop → opens ≡ false → KeepsHead (written 8 (closing s.shut) (seen other_was)) (seen other))
      → (opens ≡ true → seen other ≡ written 8 (1 ∷ []) (written 9 piece (take 9 (written 8 (closing s.shut) (seen other_was)))))
      → pair_in s.second (seen counting) (seen other) ≡ (if opens then snapshot_of image old else stored seen old)
  in_turn stop false (inr early) before shut_so opened_so =
      let part = before early in
      beside_torn s.second s.shut s.generation s.start s.end at_rest.list image (seen counting) part.0 (seen other) fits small is_whole (is_aside part.0 part.1) part.2 ∙ is_stored
  in_turn stop false (inl late) before shut_so opened_so =
      beside_closed s.second s.shut s.generation s.start s.end at_rest.list image (seen counting) (seen other_was) (seen other) fits small is_whole (is_aside (seen other_was) (reads_now other_was)) (shut_so late refl) ∙ is_stored
  in_turn stop true when before shut_so opened_so =
      now_counts s.second s.shut s.generation s.start s.end at_rest.list image (seen counting) (seen other_was) (seen other) fits small is_whole (is_aside (seen other_was) (reads_now other_was))
      (opened_so refl ∙ ap (λ (p : List ℕ). written 8 (1 ∷ []) (written 9 p (take 9 (written 8 (closing s.shut) (seen other_was))))) is)
      ∙ ap (snapshot_of image) view

  pub turned : (first second : D) → first ≡ (if s.second then other else counting) → second ≡ (if s.second then counting else other) → (stop : ℕ) (opens : Bool)
      → (stop ≤ 2 → PartAfter (Torn 8 (length (closing s.shut))) (may_leave other_was) (seen other))
      → (2 < stop → opens ≡ false → KeepsHead (written 8 (closing s.shut) (seen other_was)) (seen other))
      → (opens ≡ true → seen other ≡ written 8 (1 ∷ []) (written 9 piece (take 9 (written 8 (closing s.shut) (seen other_was)))))
      → pair_of (seen first) (seen second) ≡ (if opens then snapshot_of image old else stored seen old)
  turned first second one two stop opens before shut_so opened_so =
      ap (λ (d : D). pair_of (seen d) (seen second)) one ∙ ap (λ (d : D). pair_of (seen (if s.second then other else counting)) (seen d)) two
      ∙ stored_in seen s.second counting other ∙ in_turn stop opens (cases_lt 2 stop) before shut_so opened_so
