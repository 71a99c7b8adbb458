-- A snapshot, from what its calls leave of the disk that doesn't count.
use Rattle.std.proofs.Common.{◌≡◌, ◌⊎◌, inl, inr, ⊎_elim, ℕ, ◌+◌, ◌<◌, ◌^◌, Bool, true, false, not, if◌then◌else◌, List, [], ◌∷◌, length, take, Result, refl, sym, ◌∙◌, ap, subst}
use Rattle.ps_disks.specs.Disk.{written, Torn, Follows, Only, LeavesOnly}
use Rattle.host_journal.specs.Calls.{PartAfter, KeepsHead}
use Rattle.host_journal.specs.Moments.{Shows, LiesBeside, AddsOnly, Adds}
use Rattle.host_journal.specs.Pair.{gates_at, pair_of}
use Rattle.host_journal.specs.State.{State, pair_in, stored, snapshot_of, image_bytes, closing, EachImage, EachSince, IsClosed, IsAside, IsBelow, IsWhole, IsImage, IsSound}
use Rattle.host_journal.specs.declared.pending.Pending.{Pending}
use Rattle.host_journal.specs.declared.pending.Pending.TheVariants.{Nothing, Unopened, Snapshot}
use Rattle.host_journal.specs.declared.reading.Counted.{Counted}
use Rattle.host_journal.specs.declared.reading.DiskPlace.{DiskPlace}
use Rattle.host_journal.proofs.AddsLemmas.{leaves_adds, adds_other, adds_turned, adds_of}
use Rattle.host_journal.proofs.CallLemmas.{leaves_on, leaves_more}
use Rattle.host_journal.proofs.HeadLemmas.{aside_below}
use Rattle.host_journal.proofs.PairLemmas.{counts_as, pair_whole, whole_shows}
use Rattle.host_journal.proofs.SnapshotLemmas.{close_torn, close_written, kept_closed, image_written, image_torn, image_either, image_opened, older_now}
use Rattle.host_journal.proofs.StateLemmas.{stored_in, Since_of, since_in, Ready, stored_is}
use Rattle.host_journal.proofs.TakenLemmas.{Fixed, fixed_counts, fixed_durable}

pub turned_in : (second : Bool) (c d : List ℕ) → pair_in second c d ≡ pair_in (not second) d c
turned_in false c d = refl
turned_in true c d = refl

not_twice : (s : Bool) → s ≡ not (not s)
not_twice false = refl
not_twice true = refl

-- the disks have changed places
abbrev Turned_of : {D : Type 0} → (D → ℕ) → (D → ℕ → List ℕ → Type 0) → Bool → D → D → D → D → (Result Counted DiskPlace → Type 0) → Type 0
Turned_of moment left_since second counting other counting_new other_new P =
    (c d : List ℕ) → left_since (if not second then counting_new else other_new) (moment (if second then other else counting)) c
    → left_since (if not second then other_new else counting_new) (moment (if second then counting else other)) d → P (pair_of c d)

turned_since : {D : Type 0} (moment : D → ℕ) (left_since : D → ℕ → List ℕ → Type 0) (second : Bool) (counting other counting_new other_new : D) (P : Result Counted DiskPlace → Type 0)
    → Since_of moment left_since second counting other counting_new other_new P → Turned_of moment left_since second counting other counting_new other_new P
turned_since moment left_since false counting other counting_new other_new P each = each
turned_since moment left_since true counting other counting_new other_new P each = each

module _ {D : Type 0} (seen : D → List ℕ) (may_leave : D → List ℕ → Type 0) (moment : D → ℕ) (left_since : D → ℕ → List ℕ → Type 0)
    (reads_now : (disk : D) → may_leave disk (seen disk)) (only_now : (disk : D) (c : List ℕ) → left_since disk (moment disk) c → may_leave disk c)
    (s : State D) (at : Ready seen may_leave s) (image : List ℕ) where
  abbrev pub Below : List ℕ → Type 0
  Below d = IsBelow s.second s.generation d

  abbrev pub Aside : List ℕ → Type 0
  Aside d = IsAside s.second s.generation s.shut d

  abbrev pub Holds : List ℕ → Type 0
  Holds d = IsImage (s.generation + 1) (gates_at image) image d

  abbrev pub Counts : List ℕ → Type 0
  Counts d = IsWhole (s.generation + 1) (gates_at image) (gates_at image) (image ∷ []) d

  abbrev pub Either : List ℕ → Type 0
  Either d = Below d ⊎ Counts d

  abbrev size : ℕ
  size = length {A = ℕ} (closing s.shut)

  -- The head gate byte is closed.
  module _ (shut : D) where
    close_part : (c : List ℕ) → PartAfter (Torn 8 size) (may_leave s.other) c → Aside c
    close_part c from = close_torn s.second s.generation s.shut from.0 c (at.other from.0 from.1) from.2

    pub close_images : Follows (Torn 8 size) (may_leave s.other) (may_leave shut) → (c : List ℕ) → may_leave shut c → Aside c
    close_images follows c now = close_part c (follows c now)

    pub close_moments : LeavesOnly moment left_since s.other shut (PartAfter (Torn 8 size) (may_leave s.other)) → LeavesOnly moment left_since s.other shut Below
    close_moments moments =
        leaves_more moment left_since s.other shut (PartAfter (Torn 8 size) (may_leave s.other)) Below moments (λ c from. aside_below s.second s.generation s.shut c (close_part c from))

    pub closed : seen shut ≡ written 8 (closing s.shut) (seen s.other) → IsClosed (seen shut)
    closed is = close_written s.second s.generation s.shut (seen s.other) (seen shut) (at.other (seen s.other) (reads_now s.other)) is

    -- The image is written behind it.
    module _ (is_closed : IsClosed (seen shut)) (only : Only (seen shut) (may_leave shut)) (so_far : LeavesOnly moment left_since s.other shut Below) (put : D) where
      rest_part : (c : List ℕ) → PartAfter KeepsHead (may_leave shut) c → IsClosed c
      rest_part c from = kept_closed from.0 c (subst IsClosed (sym (only from.0 from.1)) is_closed) from.2

      pub rest_images : Follows KeepsHead (may_leave shut) (may_leave put) → (c : List ℕ) → may_leave put c → IsClosed c
      rest_images follows c now = rest_part c (follows c now)

      pub rest_moments : LeavesOnly moment left_since shut put (PartAfter KeepsHead (may_leave shut)) → LeavesOnly moment left_since s.other put Below
      rest_moments moments =
          leaves_on seen may_leave moment left_since s.other shut put Below (PartAfter KeepsHead (may_leave shut)) so_far moments (λ c from. inl (rest_part c from))

      pub image_put : s.generation + 1 < 2 ^ 64 → length image < 2 ^ 32 → seen put ≡ written 9 (image_bytes (s.generation + 1) image) (take 9 (seen shut)) → Holds (seen put)
      image_put fits small is = image_written (s.generation + 1) image fits small (seen shut) (seen put) is_closed is

  -- The head gate byte is opened.
  module _ (put : D) (is_image : Holds (seen put)) (only : Only (seen put) (may_leave put)) (so_far : LeavesOnly moment left_since s.other put Below) (new : D) where
    gate_part : (c : List ℕ) → PartAfter (Torn 8 1) (may_leave put) c → Holds c
    gate_part c from = image_torn (s.generation + 1) (gates_at image) image from.0 c (subst Holds (sym (only from.0 from.1)) is_image) from.2

    pub gate_images : Follows (Torn 8 1) (may_leave put) (may_leave new) → (c : List ℕ) → may_leave new c → Holds c
    gate_images follows c now = gate_part c (follows c now)

    pub holds_either : (c : List ℕ) → Holds c → Either c
    holds_either c holds = ⊎_elim (λ closed. inl (inl closed)) (λ whole. inr whole) (image_either (s.generation + 1) (gates_at image) image c holds)

    pub gate_moments : LeavesOnly moment left_since put new (PartAfter (Torn 8 1) (may_leave put)) → LeavesOnly moment left_since s.other new Either
    gate_moments moments =
        leaves_on seen may_leave moment left_since s.other put new Either (PartAfter (Torn 8 1) (may_leave put))
        (leaves_more moment left_since s.other put Below Either so_far (λ c below. inl below)) moments (λ c from. holds_either c (gate_part c from))

    pub gate_opened : seen new ≡ written 8 (1 ∷ []) (seen put) → Counts (seen new)
    gate_opened is = image_opened (s.generation + 1) (gates_at image) image (seen put) (seen new) is_image is

  -- What the two stand for.
  module _ (old : State D) (is : s ≡ old) where
    abbrev pub OneOrOther : Result Counted DiskPlace → Type 0
    OneOrOther pair = (pair ≡ stored seen old) ⊎ (pair ≡ snapshot_of image old)

    below_pair : (c d : List ℕ) → may_leave s.counting c → Below d → pair_in s.second c d ≡ stored seen old
    below_pair c d now below =
        pair_whole s.second s.generation s.start s.end at.list c d (at.counting c now) below
        ∙ sym (stored_is seen may_leave moment left_since reads_now only_now s at) ∙ ap (stored seen) is

    counts_pair : (c d : List ℕ) → may_leave s.counting c → Counts d → pair_in s.second c d ≡ snapshot_of image old
    counts_pair c d now counts =
        turned_in s.second c d
        ∙ pair_whole (not s.second) (s.generation + 1) (gates_at image) (gates_at image) (image ∷ []) d c counts
        (aside_below (not s.second) (s.generation + 1) false c (older_now s.second s.generation s.start s.end at.list c (at.counting c now)))
        ∙ ap (snapshot_of image) is

    either_pair : (c d : List ℕ) → may_leave s.counting c → Either d → OneOrOther (pair_in s.second c d)
    either_pair c d now (inl below) = inl (below_pair c d now below)
    either_pair c d now (inr counts) = inr (counts_pair c d now counts)

    each_since : (new : D) → LeavesOnly moment left_since s.other new Either → Since_of moment left_since s.second s.counting s.other s.counting new OneOrOther
    each_since new moments =
        since_in moment left_since s.second s.counting s.other s.counting new OneOrOther
        (λ c d left left_other. either_pair c d (only_now s.counting c left) (moments.each d left_other))

    -- What is new.
    abbrev pub Added : State D → Bool → List ℕ → Type 0
    Added o second d = LiesBeside (stored seen o) second d ⊎ Shows (snapshot_of image o) second d

    either_added : (d : List ℕ) → Either d → Added s (not s.second) d
    either_added d (inl below) =
        inl (subst (λ (p : Result Counted DiskPlace). LiesBeside p (not s.second) d) (sym (stored_is seen may_leave moment left_since reads_now only_now s at)) (not_twice s.second, below))
    either_added d (inr counts) = inr (whole_shows (not s.second) (s.generation + 1) (gates_at image) (gates_at image) (image ∷ []) d counts)

    added_by : (new : D) → LeavesOnly moment left_since s.other new Either → AddsOnly moment left_since s.other new (Added s (not s.second))
    added_by new moments = leaves_adds moment left_since s.other new Either (Added s (not s.second)) moments either_added

    -- The disk that counts stays the same.
    module _ (other : D) (shut : Bool) (pending : Pending) (room : ℕ) where
      abbrev kept : State D
      kept = record { counting = s.counting; other = other; second = s.second; generation = s.generation; start = s.start; end = s.end; shut = shut; pending = pending; room = room }

      pub kept_since : LeavesOnly moment left_since s.other other Either → EachSince moment left_since old kept OneOrOther
      kept_since moments = subst (λ (o : State D). EachSince moment left_since o kept OneOrOther) is (each_since other moments)

      pub kept_adds : LeavesOnly moment left_since s.other other Either → Adds moment left_since old kept (Added old)
      kept_adds moments =
          subst (λ (o : State D). Adds moment left_since o kept (Added o)) is
          (adds_of moment left_since s kept (Added s) (adds_other moment left_since s.second s.counting s.other other (Added s) (added_by other moments)))

      pub kept_adds_below : LeavesOnly moment left_since s.other other Below → Adds moment left_since old kept (Added old)
      kept_adds_below moments = kept_adds (leaves_more moment left_since s.other other Below Either moments (λ c below. inl below))

      pub kept_since_below : LeavesOnly moment left_since s.other other Below → EachSince moment left_since old kept OneOrOther
      kept_since_below moments = kept_since (leaves_more moment left_since s.other other Below Either moments (λ c below. inl below))

      pub kept_stored : Either (seen other) → OneOrOther (stored seen kept)
      kept_stored either =
          let order = stored_in seen s.second s.counting other in
          ⊎_elim (λ one. inl (order ∙ one)) (λ two. inr (order ∙ two)) (either_pair (seen s.counting) (seen other) (reads_now s.counting) either)

    -- They have changed places.
    module _ (new x y : D) (is_new : x ≡ new) (is_counting : y ≡ s.counting) (start : ℕ) (is_start : start ≡ gates_at image) (room : ℕ) where
      abbrev turned : D → D → State D
      turned a b = record { counting = a; other = b; second = not s.second; generation = s.generation + 1; start = start; end = start; shut = false; pending = Nothing; room = room }

      moved : (P : State D → Type 0) → P (turned new s.counting) → P (turned x y)
      moved P p = subst (λ (a : D). P (turned a y)) (sym is_new) (subst (λ (b : D). P (turned new b)) (sym is_counting) p)

      pub turned_each : LeavesOnly moment left_since s.other new Either → EachSince moment left_since old (turned x y) OneOrOther
      turned_each moments =
          moved (λ (now : State D). EachSince moment left_since old now OneOrOther)
          (subst (λ (o : State D). EachSince moment left_since o (turned new s.counting) OneOrOther) is
          (turned_since moment left_since s.second s.counting s.other s.counting new OneOrOther (each_since new moments)))

      pub turned_adds : LeavesOnly moment left_since s.other new Either → Adds moment left_since old (turned x y) (Added old)
      turned_adds moments =
          moved (λ (now : State D). Adds moment left_since old now (Added old))
          (subst (λ (o : State D). Adds moment left_since o (turned new s.counting) (Added o)) is
          (adds_of moment left_since s (turned new s.counting) (Added s)
          (adds_turned moment left_since s.second s.counting s.other s.counting new (Added s) (adds_other moment left_since s.second s.counting s.other new (Added s) (added_by new moments)))))

      pub turned_fixed : Counts (seen new) → Only (seen new) (may_leave new) → Fixed seen may_leave (turned x y) (image ∷ [])
      turned_fixed counts only = moved (λ (now : State D). Fixed seen may_leave now (image ∷ [])) (record {
        whole = subst (λ (n : ℕ). IsWhole (s.generation + 1) n n (image ∷ []) (seen new)) (sym is_start) counts;
        aside = older_now s.second s.generation s.start s.end at.list (seen s.counting) (at.counting (seen s.counting) (reads_now s.counting));
        only = only;
        only_other = at.fixed;
      })

      pub turned_counts : Fixed seen may_leave (turned x y) (image ∷ []) → stored seen (turned x y) ≡ snapshot_of image old
      turned_counts fixed =
          fixed_counts seen may_leave (turned x y) (image ∷ []) fixed ∙ ap (λ (n : ℕ). counts_as (not s.second) (s.generation + 1) n n (image ∷ [])) is_start ∙ ap (snapshot_of image) is

      pub turned_durable : Fixed seen may_leave (turned x y) (image ∷ []) → EachImage may_leave (turned x y) (λ pair. pair ≡ snapshot_of image old)
      turned_durable fixed c d now now_other = fixed_durable seen may_leave (turned x y) (image ∷ []) fixed c d now now_other ∙ turned_counts fixed

  -- What holds after each exit.
  abbrev beside : D → Bool → Pending → ℕ → State D
  beside other shut pending room = record { counting = s.counting; other = other; second = s.second; generation = s.generation; start = s.start; end = s.end; shut = shut; pending = pending; room = room }

  pub sound_closing : (other : D) (room : ℕ) → ((c : List ℕ) → may_leave other c → Aside c) → IsSound seen may_leave (beside other s.shut Unopened room)
  sound_closing other room images = record { list = at.list; counting = at.counting; other = images; fixed = λ ready_now. absurd (cc ready_now) }

  pub sound_closed : (other : D) (room : ℕ) → ((c : List ℕ) → may_leave other c → IsClosed c) → IsSound seen may_leave (beside other true Unopened room)
  sound_closed other room images = record { list = at.list; counting = at.counting; other = images; fixed = λ ready_now. absurd (cc ready_now) }

  pub sound_held : (other : D) (start room : ℕ) → start ≡ gates_at image → ((c : List ℕ) → may_leave other c → Holds c) → IsSound seen may_leave (beside other true (Snapshot start) room)
  sound_held other start room is images = record {
    list = at.list;
    counting = at.counting;
    other = λ c now. (refl, (image, subst (λ (n : ℕ). IsImage (s.generation + 1) n image c) (sym is) (images c now)));
    fixed = λ ready_now. absurd (cc ready_now);
  }
