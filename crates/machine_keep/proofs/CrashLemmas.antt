-- What the disks stand for where a crash stops a step.
use Rattle.std.proofs.Common.{◌≡◌, ℕ, ◌+◌, ◌-◌, ◌<◌, ◌≤◌, Bool, false, true, not, if◌then◌else◌, List, [], ◌∷◌, ◌++◌, Option, None, Some, Result, Ok, length, refl, sym, ◌∙◌, ap, subst, arith}
use Rattle.std.specs.Prelude.{◌||◌, nat_lt}
use Rattle.std.proofs.lemmas.Bool.Decides.{nat_tests}
use Rattle.ps_disks.specs.History.{History, bytes_now, image_bytes}
use Rattle.ps_disks.specs.Images.{bytes_stand}
use Rattle.ps_disks.specs.MemoryDisk.{DiskState}
use Rattle.ps_disks.specs.declared.image.Image.{Image}
use Rattle.ps_disks.specs.declared.image.Image.TheVariants.{New, Old, Torn}
use Rattle.host_journal.specs.Crash.{is_new, opens_gate, opens_head}
use Rattle.host_journal.specs.Pair.{gates_at}
use Rattle.host_journal.specs.State.{KeepsPlace, SameButRoom, State, snapshot_of, stored, which, with_record}
use Rattle.host_journal.specs.declared.reading.Counted.{Counted}
use Rattle.host_journal.specs.declared.reading.DiskPlace.{DiskPlace}
use Rattle.machine_keep.specs.Course.{is_many_with}
use Rattle.machine_keep.specs.Crash.{IsSnapshotBehind, IsSnapshotFor, LeftExactly, keeps_step, left_of_snapshot, left_of_step}
use Rattle.machine_keep.specs.Faulted.{seen_on}
use Rattle.machine_keep.specs.Kept.{StandsFor, is_many}
use Rattle.machine_keep.proofs.KeepLemmas.{with_step}

-- a step that stops at its fifth call or later is kept, and one that stops earlier where its gate byte is open
late_or : (a b : Bool) → b ≡ true → a || b ≡ true
late_or true b is = refl
late_or false b is = is

early_or : (a b : Bool) → b ≡ false → a || b ≡ a
early_or true b is = refl
early_or false b is = is

pub kept_late : (stop : ℕ) (image : Image) → 4 < stop → keeps_step stop image ≡ true
kept_late stop image late =
    let yes : nat_lt 4 stop ≡ true = grind (arith, nat_tests) in
    late_or (opens_gate stop image) (nat_lt 4 stop) yes

pub kept_early : (stop : ℕ) (image : Image) → stop ≤ 4 → keeps_step stop image ≡ opens_gate stop image
kept_early stop image early =
    let no : nat_lt 4 stop ≡ false = grind (arith, nat_tests) in
    early_or (opens_gate stop image) (nat_lt 4 stop) no

-- a step without changes, kept or not
pub kept_either : {S : Type 0} (P : S → Type 0) (s : S) (kept : Bool) → P s → P (if kept then s else s)
kept_either P s true is = is
kept_either P s false is = is

-- with the record or without it
module _ {S T : Type 0} (stands : List (List ℕ) → S → Type 0) (bytes : T → List ℕ) (follows : S → T → Type 0) (after : S → T → S)
    (more : (list : List (List ℕ)) (s : S) (step : T) → stands list s → follows s step → stands (list ++ bytes step ∷ []) (after s step)) where
  pub with_which : (s : S) (step : T) (payload : List ℕ) (pair before : Result Counted DiskPlace) (kept opens : Bool) → payload ≡ bytes step → kept ≡ opens → pair ≡ which payload opens before → follows s step → StandsFor stands s before
      → StandsFor stands (if kept then after s step else s) pair
  with_which s step payload pair before true true is same found can stood =
      subst (StandsFor stands (after s step)) (sym (found ∙ ap (λ (b : List ℕ). which b true before) is)) (with_step stands bytes follows after more s step before can stood)
  with_which s step payload pair before false false is same found can stood = subst (StandsFor stands s) (sym found) stood
  with_which s step payload pair before true false is same found can stood = absurd (cc same)
  with_which s step payload pair before false true is same found can stood = absurd (cc same)

-- ---- exactly which list
-- a snapshot that may be made counts, or the disks stand for what they stood for
module _ {S : Type 0} (stands : List (List ℕ) → S → Type 0) (s : S) (image : List ℕ) (pair : Result Counted DiskPlace) (old mid : State DiskState) where
  pub stands_turned : (opens : Bool) → SameButRoom old mid → stands (image ∷ []) s → StandsFor stands s (stored seen_on old)
      → pair ≡ (if opens then snapshot_of image mid else stored seen_on mid) → StandsFor stands s pair
  stands_turned true same alone stood is = subst (StandsFor stands s) (sym is) alone
  stands_turned false same alone stood is = subst (StandsFor stands s) (sym (is ∙ ap (stored seen_on) same)) stood

pub left_turned : (image : List ℕ) (pair : Result Counted DiskPlace) (old mid : State DiskState) (opens : Bool) → SameButRoom old mid → pair ≡ (if opens then snapshot_of image mid else stored seen_on mid) → pair ≡ (if opens then snapshot_of image old else stored seen_on old)
left_turned image pair old mid opens same is = is ∙ ap (λ (s : State DiskState). if opens then snapshot_of image s else stored seen_on s) same

-- a step whose record was made sure of, once there was room for it, and then a snapshot, or none
module _ {S : Type 0} (stands : List (List ℕ) → S → Type 0) (s : S) (payload : List ℕ) (old begun mid : State DiskState) (same : SameButRoom old begun) (kept : KeepsPlace begun mid) (end : mid.end ≡ begun.end + 5 + length payload) where
  is_second : mid.second ≡ old.second
  is_second = kept.second ∙ ap (λ (j : State DiskState). j.second) same

  is_generation : mid.generation ≡ old.generation
  is_generation = kept.generation ∙ ap (λ (j : State DiskState). j.generation) same

  is_start : mid.start ≡ old.start
  is_start = kept.start ∙ ap (λ (j : State DiskState). j.start) same

  is_end : mid.end ≡ old.end + 5 + length payload
  is_end = end ∙ ap (λ (j : State DiskState). j.end + 5 + length payload) same

  many_too : is_many (mid.end - mid.start) (mid.start - 21) ≡ is_many_with old payload
  many_too = ap (λ (n : ℕ). is_many (n - mid.start) (mid.start - 21)) is_end ∙ ap (λ (n : ℕ). is_many (old.end + 5 + length payload - n) (n - 21)) is_start

  behind_record : (snapshot : Option (List ℕ)) → IsSnapshotFor stands s mid.generation (is_many (mid.end - mid.start) (mid.start - 21)) snapshot → IsSnapshotBehind stands s old (Some payload) snapshot
  behind_record snapshot due = subst (λ (n : ℕ). IsSnapshotFor stands s n (is_many_with old payload) snapshot) is_generation (subst (λ (b : Bool). IsSnapshotFor stands s mid.generation b snapshot) many_too due)

  turned_too : (image : List ℕ) → snapshot_of image mid ≡ snapshot_of image old
  turned_too image =
      ap (λ (b : Bool). Ok (record { second = not b; generation = mid.generation + 1; start = gates_at image; end = gates_at image; list = image ∷ [] })) is_second
      ∙ ap (λ (n : ℕ). Ok (record { second = not old.second; generation = n + 1; start = gates_at image; end = gates_at image; list = image ∷ [] })) is_generation

  module _ (stop : ℕ) (image : Image) (late : 4 < stop) (stood : stored seen_on mid ≡ with_record payload (stored seen_on begun)) where
    is_stored : stored seen_on mid ≡ which payload (keeps_step stop image) (stored seen_on old)
    is_stored = stood ∙ (ap (λ (j : State DiskState). with_record payload (stored seen_on j)) same ∙ sym (ap (λ (b : Bool). which payload b (stored seen_on old)) (kept_late stop image late)))

    is_left : (snapshot : Option (List ℕ)) (pair : Result Counted DiskPlace) → pair ≡ left_of_snapshot seen_on mid snapshot (stop - 4) image → pair ≡ left_of_step seen_on old (Some payload) snapshot stop image
    is_left None pair left = left ∙ is_stored
    is_left (Some bytes) pair left =
        left ∙ (ap (λ (p : Result Counted DiskPlace). if opens_head (stop - 4) image then p else stored seen_on mid) (turned_too bytes)
        ∙ ap (λ (p : Result Counted DiskPlace). if opens_head (stop - 4) image then snapshot_of bytes old else p) is_stored)

    pub left_late : (now : S) → now ≡ s → (pair : Result Counted DiskPlace)
        → (snapshot : Option (List ℕ)) × IsSnapshotFor stands now mid.generation (is_many (mid.end - mid.start) (mid.start - 21)) snapshot × (pair ≡ left_of_snapshot seen_on mid snapshot (stop - 4) image)
        → (snapshot : Option (List ℕ)) × (4 < stop → IsSnapshotBehind stands s old (Some payload) snapshot) × (pair ≡ left_of_step seen_on old (Some payload) snapshot stop image)
    left_late now is pair left = (
      left.0,
      (λ behind. behind_record left.0 (subst (λ (x : S). IsSnapshotFor stands x mid.generation (is_many (mid.end - mid.start) (mid.start - 21)) left.0) is left.1)),
      is_left left.0 pair left.2,
    )

-- one that stops in its record
pub left_early : {S : Type 0} (stands : List (List ℕ) → S → Type 0) (s : S) (stop : ℕ) (image : Image) (payload : List ℕ) (old : State DiskState) (pair : Result Counted DiskPlace) → stop ≤ 4 → pair ≡ which payload (opens_gate stop image) (stored seen_on old)
    → (snapshot : Option (List ℕ)) × (4 < stop → IsSnapshotBehind stands s old (Some payload) snapshot) × (pair ≡ left_of_step seen_on old (Some payload) snapshot stop image)
left_early stands s stop image payload old pair early left =
    (None, (λ behind. absurd (omega (arith, behind, early))), left ∙ sym (ap (λ (b : Bool). which payload b (stored seen_on old)) (kept_early stop image early)))

-- a step without changes
pub left_none : {S C R T : Type 0} (stands : List (List ℕ) → S → Type 0) (bytes : T → List ℕ) (answers : S → C → R → Option T → Type 0) (follows : S → T → Type 0) (after : S → T → S) (s : S) (place : State DiskState) (call : C) (stop : ℕ) (image : Image) (pair : Result Counted DiskPlace) (reply : R)
    → answers s call reply None → StandsFor stands s pair → pair ≡ stored seen_on place → LeftExactly seen_on stands bytes answers follows after s place call stop image pair
left_none stands bytes answers follows after s place call stop image pair reply answered stood left = record {
  reply = reply;
  step = None;
  answered = answered;
  may = tt;
  kept = kept_either (λ x. StandsFor stands x pair) s (keeps_step stop image) stood;
  snapshot = None;
  due = λ behind. refl;
  left = left;
}

-- the image that keeps all is what a disk reads
pub new_reads : (image : Image) (h : History) → is_new image ≡ true → image_bytes image h ≡ bytes_now h
new_reads Old h is = absurd (cc is)
new_reads New h is = sym (bytes_stand h)
new_reads Torn h is = absurd (cc is)

-- behind the first sync, and before it
pub reads_so : (image : Image) (synced : Bool) (h : History) (bytes : List ℕ) → is_new image ≡ true → bytes ≡ (if synced then bytes_now h else image_bytes image h) → bytes ≡ bytes_now h
reads_so image true h bytes is reads = reads
reads_so image false h bytes is reads = reads ∙ new_reads image h is
