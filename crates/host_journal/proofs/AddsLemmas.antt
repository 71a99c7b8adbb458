-- What a call adds to what a crash may leave of the disk that counts and of the other, in the order of the pair.
use Rattle.std.proofs.Common.{◌≤◌, inl, inr, ⊎_elim, ℕ, Bool, true, false, not, if◌then◌else◌, List, Result, arith}
use Rattle.ps_disks.specs.Disk.{LeavesOnly}
use Rattle.host_journal.specs.Moments.{AddsOnly, Adds}
use Rattle.host_journal.specs.State.{State, EachImage, EachSince, first_disk, second_disk}
use Rattle.host_journal.specs.declared.reading.Counted.{Counted}
use Rattle.host_journal.specs.declared.reading.DiskPlace.{DiskPlace}

module _ {D : Type 0} (moment : D → ℕ) (left_since : D → ℕ → List ℕ → Type 0) where
  -- a disk that no call was made on
  pub adds_none : (d : D) (Q : List ℕ → Type 0) → AddsOnly moment left_since d d Q
  adds_none d Q = record { later = omega arith; each = λ t c le left. inl left }

  pub leaves_adds : (old new : D) (P Q : List ℕ → Type 0) → LeavesOnly moment left_since old new P → ((c : List ℕ) → P c → Q c) → AddsOnly moment left_since old new Q
  leaves_adds old new P Q leaves more = record { later = leaves.later; each = λ t c le left. ⊎_elim (λ past. inl past) (λ p. inr (more c p)) (leaves.before t c le left) }

  -- of both, in the order of the pair
  abbrev Both : Bool → D → D → D → D → (Bool → List ℕ → Type 0) → Type 0
  Both second counting other counting_new other_new Q =
      AddsOnly moment left_since (if second then other else counting) (if second then other_new else counting_new) (Q false)
      × AddsOnly moment left_since (if second then counting else other) (if second then counting_new else other_new) (Q true)

  pub adds_counting : (second : Bool) (counting other new : D) (Q : Bool → List ℕ → Type 0) → AddsOnly moment left_since counting new (Q second) → Both second counting other new other Q
  adds_counting false counting other new Q adds = (adds, adds_none other (Q true))
  adds_counting true counting other new Q adds = (adds_none other (Q false), adds)

  pub adds_other : (second : Bool) (counting other new : D) (Q : Bool → List ℕ → Type 0) → AddsOnly moment left_since other new (Q (not second)) → Both second counting other counting new Q
  adds_other false counting other new Q adds = (adds_none counting (Q false), adds)
  adds_other true counting other new Q adds = (adds, adds_none counting (Q true))

  abbrev Turned : Bool → D → D → D → D → (Bool → List ℕ → Type 0) → Type 0
  Turned second counting other counting_new other_new Q =
      AddsOnly moment left_since (if second then other else counting) (if not second then counting_new else other_new) (Q false)
      × AddsOnly moment left_since (if second then counting else other) (if not second then other_new else counting_new) (Q true)

  pub adds_turned : (second : Bool) (counting other counting_new other_new : D) (Q : Bool → List ℕ → Type 0) → Both second counting other counting_new other_new Q → Turned second counting other counting_new other_new Q
  adds_turned false counting other counting_new other_new Q both = both
  adds_turned true counting other counting_new other_new Q both = both

  pub adds_of : (old new : State D) (Q : Bool → List ℕ → Type 0) → AddsOnly moment left_since (first_disk old) (first_disk new) (Q false) × AddsOnly moment left_since (second_disk old) (second_disk new) (Q true) → Adds moment left_since old new Q
  adds_of old new Q both = record { first = both.0; second = both.1 }

  -- what is left now is left since the call began
  pub since_now : (may_leave : D → List ℕ → Type 0) (counts_now : (disk : D) (t : ℕ) (c : List ℕ) → t ≤ moment disk → may_leave disk c → left_since disk t c)
      (old new : State D) (Q : Bool → List ℕ → Type 0) (P : Result Counted DiskPlace → Type 0) → Adds moment left_since old new Q → EachSince moment left_since old new P → EachImage may_leave new P
  since_now may_leave counts_now old new Q P adds since c d now now_too =
      since c d (counts_now (first_disk new) (moment (first_disk old)) c adds.first.later now) (counts_now (second_disk new) (moment (second_disk old)) d adds.second.later now_too)
