-- What the disks of a machine that is opened may have left, also where a call of it follows.
use Rattle.std.specs.Prelude.{◌≡◌, ◌⊎◌, ℕ, false, true, List, Result}
use Rattle.host_journal.specs.Moments.{AddsOnly, LeftIn, LiesBeside}
use Rattle.host_journal.specs.Pair.{pair_of}
use Rattle.host_journal.specs.State.{State, first_disk, second_disk, stored}
use Rattle.host_journal.specs.declared.reading.Counted.{Counted}
use Rattle.host_journal.specs.declared.reading.DiskPlace.{DiskPlace}
use Rattle.machine_keep.specs.Kept.{IsMade, StandsEither, StandsFor}

-- a crash could have left these bytes of a disk that reads others: the disk's next sync undoes them
abbrev pub IsUndone : {D : Type 0} → (D → List ℕ) → (D → List ℕ → Type 0) → D → List ℕ → Type 0
IsUndone seen may_leave disk c = may_leave disk c × (c ≡ seen disk → ⊥)

-- Of what was left of two disks since they were handed in, each at a moment of its own: the first sync of one of the two disks undoes it, or both together have P.
abbrev pub EachUnlessUndone : {D : Type 0} → (D → List ℕ) → (D → List ℕ → Type 0) → (D → ℕ) → (D → ℕ → List ℕ → Type 0) → D → D → D → D → (List ℕ → List ℕ → Type 0) → Type 0
EachUnlessUndone seen may_leave moment left_since first second first_now second_now P =
    (c d : List ℕ) → left_since first_now (moment first) c → left_since second_now (moment second) d → (IsUndone seen may_leave first c ⊎ IsUndone seen may_leave second d) ⊎ P c d

-- what both stand for is what they stood for, or both that and these stand for one state
abbrev pub StandsAsBefore : {S : Type 0} → (List (List ℕ) → S → Type 0) → (List (List ℕ) → S → Type 0) → Result Counted DiskPlace → Result Counted DiskPlace → Type 0
StandsAsBefore {S} stands stood from pair = (pair ≡ from) ⊎ ((s : S) × (StandsEither stands stood s from × StandsEither stands stood s pair))

-- What an opening that gave a machine in this state adds to each disk, whatever earlier moment one counts from; and what the disks then stand for.
pub record IsBegun {D S : Type 0} (seen : D → List ℕ) (moment : D → ℕ) (left_since : D → ℕ → List ℕ → Type 0) (stands : List (List ℕ) → S → Type 0) (first second : D) (s : S) (now : State D) : Type 0 where
  pub adds_first : AddsOnly moment left_since first (first_disk now) (LeftIn (pair_of (seen first) (seen second)) (IsMade stands (pair_of (seen first) (seen second)) s) false)
  pub adds_second : AddsOnly moment left_since second (second_disk now) (LeftIn (pair_of (seen first) (seen second)) (IsMade stands (pair_of (seen first) (seen second)) s) true)
  pub at : (stored seen now ≡ pair_of (seen first) (seen second)) ⊎ IsMade stands (pair_of (seen first) (seen second)) s (stored seen now)

-- Of two disks that read these bytes one as it lies beside the one that counts in the first of these pairs; and the other, written since, as it lies beside that of the second. Neither counts.
abbrev pub AreBetween : List ℕ → List ℕ → Result Counted DiskPlace → Result Counted DiskPlace → List ℕ → List ℕ → Type 0
AreBetween first second from made c d =
    (LiesBeside from false c × (LiesBeside made true d × (d ≡ second → ⊥))) ⊎ ((LiesBeside made false c × (c ≡ first → ⊥)) × LiesBeside from true d)

module _ {D S : Type 0} (seen : D → List ℕ) (may_leave : D → List ℕ → Type 0) (moment : D → ℕ) (left_since : D → ℕ → List ℕ → Type 0) (goes : D → D → Type 0) (stands stood : List (List ℕ) → S → Type 0) where
  -- Two disks that stood for this state, since they were handed in: an opening, and a call that may make this pair stand for the later one.
  pub record StandsThrough (first second : D) (s later : S) (first_now second_now : D) : Type 0 where
    -- as the opening gave its machine
    pub mid : State D
    pub opened : goes first (first_disk mid) × goes second (second_disk mid)
    pub called : goes (first_disk mid) first_now × goes (second_disk mid) second_now
    -- until then
    pub until : EachUnlessUndone seen may_leave moment left_since first second (first_disk mid) (second_disk mid) (λ c d. StandsEither stands stood s (pair_of c d))
    -- from then on
    pub since : (c d : List ℕ) → left_since first_now (moment (first_disk mid)) c → left_since second_now (moment (second_disk mid)) d → StandsFor stands s (pair_of c d) ⊎ StandsFor stands later (pair_of c d)
    -- And of the whole: one of two images may be left in the snapshot of the opening, and the other in one of the call.
    pub whole : EachUnlessUndone seen may_leave moment left_since first second first_now second_now
        (λ c d. (StandsEither stands stood s (pair_of c d) ⊎ StandsFor stands later (pair_of c d)) ⊎ AreBetween (seen first) (seen second) (pair_of (seen first) (seen second)) (stored seen mid) c d)
