-- The course of a call of a kept machine, from the clauses of the journal's calls.
use Rattle.std.proofs.Common.{◌≡◌, inl, inr, ℕ, ◌+◌, ◌-◌, ◌^◌, ◌<◌, ◌≤◌, Bool, true, false, not, if◌then◌else◌, List, [], ◌∷◌, ◌++◌, length, ap, refl, sym, subst, arith, ◌∙◌}
use Rattle.std.specs.Prelude.{IfOk, Option, Some, None, Result, Ok, Err}
use Rattle.ps_ports.specs.Causes.{raised}
use Rattle.ps_disks.specs.declared.disk.DiskCall.{DiskCall}
use Rattle.ps_disks.specs.declared.disk.DiskCall.TheVariants.{Sync}
use Rattle.host_journal.specs.State.{State, IsAt, KeepsPlace, SameButRoom, append_calls, first_disk, has_record, is_ready, opened_as, second_disk, snapshot_calls, stored}
use Rattle.host_journal.specs.Told.{TellsAll, TellsFirst, TellsSyncs}
use Rattle.host_journal.specs.declared.pending.Pending.{Pending}
use Rattle.host_journal.specs.declared.pending.Pending.TheVariants.{Nothing, Unopened, Record, Snapshot}
use Rattle.host_journal.specs.declared.reading.Counted.{Counted}
use Rattle.host_journal.specs.declared.reading.DiskPlace.{DiskPlace}
use Rattle.machine_keep.specs.Calls.{MakesPair, PairCalls, TellsIn, TellsPair, TellsSome, TellsSomeIn, all_on, image_calls, kept_calls, record_calls, sync_calls}
use Rattle.machine_keep.specs.Course.{IsFound, IsInForm, IsRead, IsRewritten, IsShortened, IsSnapshotOf, IsTurned, Moves, Opened, Shortens, Unwritten, is_many_with}
use Rattle.machine_keep.specs.Kept.{Kept, StandsFor, is_many}
use Rattle.machine_keep.proofs.CallLemmas.{some_early, some_later, some_on, some_other, tells_both, tells_counting, tells_none, tells_other}

-- ---- the calls of the journal
swapped : {D : Type 0} (side : Bool) (a b : D) → (if not side then a else b) ≡ (if side then b else a)
swapped false a b = refl
swapped true a b = refl

module _ {D : Type 0} (told : D → Option (List DiskCall)) where
  -- calls on the disk that counts, after which it still does
  module _ (old new : State D) (kept : KeepsPlace old new) (same : new.other ≡ old.other) where
    first_so : first_disk new ≡ (if old.second then old.other else new.counting)
    first_so = ap (λ (b : Bool). if b then new.other else new.counting) kept.second ∙ ap (λ (d : D). if old.second then d else new.counting) same

    second_so : second_disk new ≡ (if old.second then new.counting else old.other)
    second_so = ap (λ (b : Bool). if b then new.counting else new.other) kept.second ∙ ap (λ (d : D). if old.second then new.counting else d) same

    pub counting_told : (calls : List DiskCall) → TellsAll (told old.counting) (told new.counting) calls → TellsIn told old new (all_on old.second calls)
    counting_told calls all =
        subst (λ (d : D). TellsPair told (first_disk old) (second_disk old) d (second_disk new) (all_on old.second calls)) (sym first_so)
        (subst (λ (d : D). TellsPair told (first_disk old) (second_disk old) (if old.second then old.other else new.counting) d (all_on old.second calls)) (sym second_so)
        (tells_counting told old.second old.counting old.other new.counting calls all))

  -- a snapshot, after room was made for it
  module _ (old mid new : State D) (image : List ℕ) (same : SameButRoom old mid) where
    abbrev Images : List DiskCall
    Images = snapshot_calls old.shut (old.generation + 1) image

    pub turned_told : TellsAll (told mid.other) (told new.counting) (snapshot_calls mid.shut (mid.generation + 1) image) → new.other ≡ mid.counting → new.second ≡ not mid.second → TellsIn told old new (image_calls old (Some image))
    turned_told all other side =
        let all_old : TellsAll (told old.other) (told new.counting) Images = subst (λ (m : State D). TellsAll (told m.other) (told new.counting) (snapshot_calls m.shut (m.generation + 1) image)) same all in
        let was : new.other ≡ old.counting = other ∙ ap (λ (m : State D). m.counting) same in
        let turned : new.second ≡ not old.second = side ∙ ap (λ (m : State D). not m.second) same in
        let one : first_disk new ≡ (if old.second then new.counting else old.counting) =
        ap (λ (b : Bool). if b then new.other else new.counting) turned ∙ (ap (λ (d : D). if not old.second then d else new.counting) was ∙ swapped old.second old.counting new.counting) in
        let two : second_disk new ≡ (if old.second then old.counting else new.counting) =
        ap (λ (b : Bool). if b then new.counting else new.other) turned ∙ (ap (λ (d : D). if not old.second then new.counting else d) was ∙ swapped old.second new.counting old.counting) in
        subst (λ (d : D). TellsPair told (first_disk old) (second_disk old) d (second_disk new) (all_on (not old.second) Images)) (sym one)
        (subst (λ (d : D). TellsPair told (first_disk old) (second_disk old) (if old.second then new.counting else old.counting) d (all_on (not old.second) Images)) (sym two)
        (tells_other told old.second old.counting old.other new.counting Images all_old))

    pub turned_place : new.second ≡ not mid.second → new.generation ≡ mid.generation + 1 → new.start ≡ 21 + length image → new.end ≡ new.start → IsTurned image old new
    turned_place side next start end = record {
      second = side ∙ ap (λ (m : State D). not m.second) same;
      generation = next ∙ ap (λ (m : State D). m.generation + 1) same;
      start = start;
      end = end;
    }

  -- only room was made
  pub room_told : (old new : State D) → SameButRoom old new → TellsIn told old new []
  room_told old new same = subst (λ (s : State D). TellsPair told (first_disk old) (second_disk old) (first_disk s) (second_disk s) []) (sym same) (tells_none told (first_disk old) (second_disk old))

  pub synced_and_room : (old mid new : State D) (calls : PairCalls) → SameButRoom mid new → TellsIn told old mid calls → TellsIn told old new calls
  synced_and_room old mid new calls same all = subst (λ (s : State D). TellsPair told (first_disk old) (second_disk old) (first_disk s) (second_disk s) calls) (sym same) all

-- up to a fault
module _ {D : Type 0} (told : D → Option (List DiskCall)) (faults : D → ℕ) (calls_advance : D → D → Type 0) (calls_advance_refl : (disk : D) → calls_advance disk disk) (calls_advance_trans : (a b c : D) → calls_advance a b → calls_advance b c → calls_advance a c) where
  pub counting_some : (old new : State D) → KeepsPlace old new → new.other ≡ old.other → (calls : List DiskCall) → TellsFirst told faults calls_advance old.counting new.counting calls → TellsSomeIn told faults calls_advance old new (all_on old.second calls)
  counting_some old new kept same calls some =
      subst (λ (d : D). TellsSome told faults calls_advance (first_disk old) (second_disk old) d (second_disk new) (all_on old.second calls)) (sym (first_so told old new kept same))
      (subst (λ (d : D). TellsSome told faults calls_advance (first_disk old) (second_disk old) (if old.second then old.other else new.counting) d (all_on old.second calls)) (sym (second_so told old new kept same))
      (some_on told faults calls_advance calls_advance_refl calls_advance_trans old.second old.counting old.other new.counting calls some))

  -- in a snapshot, after room was made for it
  pub turned_some : (old mid new : State D) (image : List ℕ) → SameButRoom old mid → TellsFirst told faults calls_advance mid.other new.other (snapshot_calls mid.shut (mid.generation + 1) image) → new.counting ≡ mid.counting → new.second ≡ mid.second
      → TellsSomeIn told faults calls_advance old new (image_calls old (Some image))
  turned_some old mid new image same first counting side =
      let calls = snapshot_calls old.shut (old.generation + 1) image in
      let first_old : TellsFirst told faults calls_advance old.other new.other calls = subst (λ (m : State D). TellsFirst told faults calls_advance m.other new.other (snapshot_calls m.shut (m.generation + 1) image)) same first in
      let was : new.counting ≡ old.counting = counting ∙ ap (λ (m : State D). m.counting) same in
      let is : new.second ≡ old.second = side ∙ ap (λ (m : State D). m.second) same in
      let one : first_disk new ≡ (if old.second then new.other else old.counting) = ap (λ (b : Bool). if b then new.other else new.counting) is ∙ ap (λ (d : D). if old.second then new.other else d) was in
      let two : second_disk new ≡ (if old.second then old.counting else new.other) = ap (λ (b : Bool). if b then new.counting else new.other) is ∙ ap (λ (d : D). if old.second then d else new.other) was in
      subst (λ (d : D). TellsSome told faults calls_advance (first_disk old) (second_disk old) d (second_disk new) (all_on (not old.second) calls)) (sym one)
      (subst (λ (d : D). TellsSome told faults calls_advance (first_disk old) (second_disk old) (if old.second then new.other else old.counting) d (all_on (not old.second) calls)) (sym two)
      (some_other told faults calls_advance calls_advance_refl calls_advance_trans old.second old.counting old.other new.other calls first_old))

  -- in the syncs of both disks, or a read behind one
  pub syncs_some : (first second first_now second_now : D) → TellsSyncs told faults calls_advance first second first_now second_now → TellsSome told faults calls_advance first second first_now second_now (sync_calls false)
  syncs_some first second first_now second_now (inl one) =
      subst (λ (d : D). TellsSome told faults calls_advance first second first_now d (sync_calls false)) (sym one.1)
      (some_early told faults calls_advance calls_advance_refl calls_advance_trans first second first_now second ((false, Sync) ∷ []) ((true, Sync) ∷ []) (some_on told faults calls_advance calls_advance_refl calls_advance_trans false first second first_now (Sync ∷ []) one.0))
  syncs_some first second first_now second_now (inr two) = record {
    made = (false, Sync) ∷ [];
    last = (true, Sync);
    rest = [];
    split = refl;
    first_mid = two.mid;
    second_mid = second;
    before = record { told = (two.before.told, (tells_none told first second).1); no_fault = (two.before.no_fault, refl); calls_advance = (two.before.calls_advance, calls_advance_refl second) };
    told = (subst (λ (o : Option (List DiskCall)). TellsAll (told two.mid) o []) (sym two.still) (tells_none told two.mid second).0, two.told);
    rose = two.rose;
    calls_advance = (two.calls_advance_one, two.calls_advance_other);
  }

-- ---- what is found
not_itself : (b : Bool) → b ≡ not b → ⊥
not_itself false is = cc
not_itself true is = cc

no_record : (pending : Pending) (pair : Result Counted DiskPlace) → is_ready pending ≡ true → false ≡ has_record pending pair
no_record Nothing pair ready = refl
no_record Unopened pair ready = cc
no_record (Record next) pair ready = cc
no_record (Snapshot start) pair ready = cc

module _ {D : Type 0} (premise : Type 0) (seen : D → List ℕ) where
  pub found_ready : (old : State D) → is_ready old.pending ≡ true → (premise → IsAt old (stored seen old)) → IsFound premise seen old false old
  found_ready old ready at = record {
    same = λ _. refl;
    ready = ready;
    at = at;
    stands = λ _. no_record old.pending (stored seen old) ready;
    shut = (λ _. refl, λ is. absurd (not_itself old.second is));
  }

-- ---- a record, and a snapshot behind it
image_same : {D : Type 0} (a b : State D) (image : Option (List ℕ)) → a.second ≡ b.second → a.shut ≡ b.shut → a.generation ≡ b.generation → image_calls a image ≡ image_calls b image
image_same a b None second shut generation = refl
image_same a b (Some image) second shut generation = rw (second, shut, generation) refl

pub images_same : {D : Type 0} (old mid turned : State D) → SameButRoom old mid → KeepsPlace mid turned → (image : Option (List ℕ)) → image_calls turned image ≡ image_calls old image
images_same {D} old mid turned same kept image = image_same turned old image (kept.second ∙ ap (λ (m : State D). m.second) same) (kept.shut ∙ ap (λ (m : State D). m.shut) same) (kept.generation ∙ ap (λ (m : State D). m.generation) same)

pub kept_told : {D : Type 0} (told : D → Option (List DiskCall)) (old mid : State D) → SameButRoom old mid → (payload : List ℕ) (turned new : State D) → KeepsPlace mid turned → TellsIn told mid turned (record_calls mid (Some payload))
    → (image : Option (List ℕ)) → TellsIn told turned new (image_calls turned image) → TellsIn told old new (kept_calls old (Some payload) image)
kept_told {D} told old mid same payload turned new kept all image more =
    tells_both told (first_disk old) (second_disk old) (first_disk turned) (second_disk turned) (first_disk new) (second_disk new) (record_calls old (Some payload)) (image_calls old image)
    (subst (λ (m : State D). TellsPair told (first_disk m) (second_disk m) (first_disk turned) (second_disk turned) (record_calls m (Some payload))) same all)
    (subst (TellsPair told (first_disk turned) (second_disk turned) (first_disk new) (second_disk new)) (images_same old mid turned same kept image) more)

four_on : (second : Bool) (end : ℕ) (payload : List ℕ) (rest : PairCalls) → 4 ≤ length (all_on second (append_calls end payload) ++ rest)
four_on second end payload rest = omega arith

-- a fault was met in the record, or in the snapshot behind it
module _ {D : Type 0} (told : D → Option (List DiskCall)) (faults : D → ℕ) (calls_advance : D → D → Type 0) (calls_advance_refl : (disk : D) → calls_advance disk disk) (calls_advance_trans : (a b c : D) → calls_advance a b → calls_advance b c → calls_advance a c)
    (old mid : State D) (same : SameButRoom old mid) (payload : List ℕ) where
  pub kept_early : (new : State D) → TellsSomeIn told faults calls_advance mid new (record_calls mid (Some payload)) → TellsSomeIn told faults calls_advance old new (kept_calls old (Some payload) None)
  kept_early new some =
      some_early told faults calls_advance calls_advance_refl calls_advance_trans (first_disk old) (second_disk old) (first_disk new) (second_disk new) (record_calls old (Some payload)) []
      (subst (λ (m : State D). TellsSome told faults calls_advance (first_disk m) (second_disk m) (first_disk new) (second_disk new) (record_calls m (Some payload))) same some)

  abbrev pub kept_late : (turned new : State D) → KeepsPlace mid turned → MakesPair told faults calls_advance (first_disk mid) (second_disk mid) (first_disk turned) (second_disk turned) (record_calls mid (Some payload))
      → (image : List ℕ) → TellsSomeIn told faults calls_advance turned new (image_calls turned (Some image)) → TellsSomeIn told faults calls_advance old new (kept_calls old (Some payload) (Some image))
  kept_late turned new kept all image more =
      some_later told faults calls_advance calls_advance_refl calls_advance_trans (first_disk old) (second_disk old) (first_disk turned) (second_disk turned) (first_disk new) (second_disk new) (record_calls old (Some payload)) (image_calls old (Some image))
      (subst (λ (m : State D). MakesPair told faults calls_advance (first_disk m) (second_disk m) (first_disk turned) (second_disk turned) (record_calls m (Some payload))) same all)
      (subst (TellsSome told faults calls_advance (first_disk turned) (second_disk turned) (first_disk new) (second_disk new)) (images_same old mid turned same kept (Some image)) more)

  -- behind the record
  pub late_behind : (turned new : State D) (kept : KeepsPlace mid turned) (all : MakesPair told faults calls_advance (first_disk mid) (second_disk mid) (first_disk turned) (second_disk turned) (record_calls mid (Some payload)))
      → (image : List ℕ) (more : TellsSomeIn told faults calls_advance turned new (image_calls turned (Some image))) → 4 ≤ length (kept_late turned new kept all image more).made
  late_behind turned new kept all image more =
      four_on old.second old.end payload (subst (TellsSome told faults calls_advance (first_disk turned) (second_disk turned) (first_disk new) (second_disk new)) (images_same old mid turned same kept (Some image)) more).made

module _ {D : Type 0} (old mid turned : State D) (same : SameButRoom old mid) (payload : List ℕ) (kept : KeepsPlace mid turned) (longer : turned.end ≡ mid.end + 5 + length payload) where
  start_same : turned.start ≡ old.start
  start_same = kept.start ∙ ap (λ (m : State D). m.start) same

  end_same : turned.end ≡ old.end + 5 + length payload
  end_same = longer ∙ ap (λ (m : State D). m.end + 5 + length payload) same

  pub many_same : is_many (turned.end - turned.start) (turned.start - 21) ≡ is_many_with old payload
  many_same = rw (end_same, start_same) refl

  pub snapshot_same : {S : Type 0} (stands : List (List ℕ) → S → Type 0) (s : S) (image : List ℕ) → IsSnapshotOf stands s turned.generation image → IsSnapshotOf stands s old.generation image
  snapshot_same stands s image is = (is.0, is.1, subst (λ (n : ℕ). n + 1 < 2 ^ 64) (kept.generation ∙ ap (λ (m : State D). m.generation) same) is.2)

  pub kept_moves : {S : Type 0} (stands : List (List ℕ) → S → Type 0) (s : S) (off off_now : ℕ) (new : State D) (image : Option (List ℕ)) → IsShortened stands s off off_now turned image new → Moves old (Some payload) image new
  kept_moves stands s off off_now new None short = record {
    second = ap (λ (m : State D). m.second) short.1 ∙ (kept.second ∙ ap (λ (m : State D). m.second) same);
    generation = ap (λ (m : State D). m.generation) short.1 ∙ (kept.generation ∙ ap (λ (m : State D). m.generation) same);
    start = ap (λ (m : State D). m.start) short.1 ∙ start_same;
    shut = ap (λ (m : State D). m.shut) short.1 ∙ (kept.shut ∙ ap (λ (m : State D). m.shut) same);
    end = ap (λ (m : State D). m.end) short.1 ∙ end_same;
  }
  kept_moves stands s off off_now new (Some image) short = record {
    second = short.3.second ∙ ap not (kept.second ∙ ap (λ (m : State D). m.second) same);
    generation = short.3.generation ∙ ap (λ (n : ℕ). n + 1) (kept.generation ∙ ap (λ (m : State D). m.generation) same);
    start = short.3.start;
    end = short.3.end;
  }

  pub kept_short : {S : Type 0} (stands : List (List ℕ) → S → Type 0) (s : S) (off off_now : ℕ) (new : State D) (image : Option (List ℕ)) → IsShortened stands s off off_now turned image new → Shortens stands s off off_now old (Some payload) image
  kept_short stands s off off_now new None short = short.0 ∙ ap (λ (b : Bool). if b then raised off else off) many_same
  kept_short stands s off off_now new (Some image) short = (sym many_same ∙ short.0, snapshot_same stands s image short.1, short.2)

-- the records were found to be many
pub turned_many : {M D T : Type 0} (k now : Kept M D T) (found : Bool) → k ≡ now → found ≡ is_many (now.journal.end - now.journal.start) (now.journal.start - 21) → found ≡ true → is_many (k.journal.end - k.journal.start) (k.journal.start - 21) ≡ true
turned_many {M = M} {D = D} {T = T} k now found same is test = ap (λ (x : Kept M D T). is_many (x.journal.end - x.journal.start) (x.journal.start - 21)) same ∙ (sym is ∙ test)

-- ---- an opening
pub ok_more : {A E : Type 0} (P R : A → Type 0) → ((a : A) → P a → R a) → (r : Result A E) → IfOk r P → IfOk r R
ok_more P R f (Ok a) p = f a p
ok_more P R f (Err e) p = tt

pub read_at : {D : Type 0} (s : State D) (list : List (List ℕ)) (pair : Result Counted DiskPlace) → pair ≡ opened_as s list → IsAt s pair
read_at s list pair is = subst (IsAt s) (sym is) (refl, refl, refl, refl)

module _ {D S : Type 0} (premise : Type 0) (seen : D → List ℕ) (told : D → Option (List DiskCall)) (stands : List (List ℕ) → S → Type 0) (first second : D) (journal : State D)
    (read : IsRead premise seen first second journal) (one : TellsAll (told first) (told (first_disk journal)) (Sync ∷ [])) (two : TellsAll (told second) (told (second_disk journal)) (Sync ∷ [])) where
  pub opened_so : (s : S) (now : State D) → (image : Option (List ℕ)) × IsRewritten stands s journal image now × TellsIn told journal now (image_calls journal image) → Opened premise seen told stands first second s now
  opened_so s now made = record {
    place = journal;
    read = read;
    image = made.0;
    rewritten = made.1;
    told = tells_both told first second (first_disk journal) (second_disk journal) (first_disk now) (second_disk now) (sync_calls false) (image_calls journal made.0) (one, two) made.2;
  }

-- a fault was met in the snapshot that an opening makes
pub unwritten_so : {D S : Type 0} (premise : Type 0) (seen : D → List ℕ) (told : D → Option (List DiskCall)) (faults : D → ℕ) (calls_advance : D → D → Type 0) (calls_advance_refl : (disk : D) → calls_advance disk disk) (calls_advance_trans : (a b c : D) → calls_advance a b → calls_advance b c → calls_advance a c) (stands : List (List ℕ) → S → Type 0) (first second : D) (journal : State D)
    → IsRead premise seen first second journal → MakesPair told faults calls_advance first second (first_disk journal) (second_disk journal) (sync_calls false) → (first_now second_now : D)
    → (s : S) × (image : List ℕ) × stands (image ∷ []) s × TellsSome told faults calls_advance (first_disk journal) (second_disk journal) first_now second_now (image_calls journal (Some image)) → Unwritten premise seen told faults calls_advance stands first second first_now second_now
unwritten_so premise seen told faults calls_advance calls_advance_refl calls_advance_trans stands first second journal read synced first_now second_now met = record {
  place = journal;
  read = read;
  state = met.0;
  image = met.1;
  alone = met.2;
  told = some_later told faults calls_advance calls_advance_refl calls_advance_trans first second (first_disk journal) (second_disk journal) first_now second_now (sync_calls false) (image_calls journal (Some met.1)) synced met.3;
}

-- or it was refused, and nothing was written
pub refused_so : {D : Type 0} (told : D → Option (List DiskCall)) (first second first_mid second_mid first_now second_now : D) → TellsPair told first second first_mid second_mid (sync_calls false) → (first_now ≡ first_mid) × (second_now ≡ second_mid)
    → TellsPair told first second first_now second_now (sync_calls false)
refused_so {D} told first second first_mid second_mid first_now second_now synced same = (
  subst (λ (d : D). TellsAll (told first) (told d) (Sync ∷ [])) (sym same.0) synced.0,
  subst (λ (d : D). TellsAll (told second) (told d) (Sync ∷ [])) (sym same.1) synced.1,
)

-- ---- the form of a list, by the disk that counts once its machine is opened
not_other : (b : Bool) → b ≡ not b → ⊥
not_other false is = cc is
not_other true is = cc is

abbrev second_in : Result Counted DiskPlace → Bool
second_in (Ok k) = k.second
second_in (Err place) = false

module _ {S : Type 0} (stands stood : List (List ℕ) → S → Type 0) (s : S) where
  pub form_turned : (before now : Bool) (pair : Result Counted DiskPlace) → now ≡ not before → StandsFor stood s pair → IsInForm stands stood s before now pair
  form_turned before now pair turned it = (λ same. absurd (not_other before (sym same ∙ turned)), λ other. it)

  pub form_same : (before : Bool) (pair : Result Counted DiskPlace) → StandsFor stands s pair → IsInForm stands stood s before before pair
  form_same before pair it = (λ same. it, λ other. absurd (not_other before other))

  -- as the disks are read
  pub form_read : {D : Type 0} (journal : State D) (list : List (List ℕ)) (pair : Result Counted DiskPlace) → pair ≡ opened_as journal list → (now : Bool) → IsInForm stands stood s journal.second now pair
      → (read : Counted) → pair ≡ Ok read → IsInForm stands stood s read.second now pair
  form_read journal list pair is now form read is_read = subst (λ (b : Bool). IsInForm stands stood s b now pair) (ap second_in (sym is ∙ is_read)) form
