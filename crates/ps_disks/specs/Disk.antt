-- What the calls of a disk do to its bytes, and what a crash may leave of them between two syncs.
use Rattle.std.specs.Prelude.{◌≡◌, ◌⊎◌, ℕ, ◌+◌, ◌-◌, ◌^◌, ◌<◌, ◌≤◌, min, List, [], ◌∷◌, ◌++◌, length, take, drop, replicate, Option, IfSome, Some, Result, OnErr, OnOk}
use Rattle.ps_ports.specs.Causes.{Rose, raised}
use Rattle.ps_disks.specs.declared.disk.DiskCall.{DiskCall}
use Rattle.ps_disks.specs.declared.disk.DiskCall.TheVariants.{Write, Cut, Sync}

-- n bytes from this place on came to the front of the buffer, and none only at the end of the file
pub record ReadsAt (file : List ℕ) (at : ℕ) (buf : List ℕ) (n : ℕ) : Type 0 where
  pub bytes : take n buf ≡ take n (drop at file)
  pub within : n ≤ length file - at
  pub end : n ≡ 0 → 0 < length buf → length file ≤ at

-- the file with these bytes at this place; a gap before them has zeros, and an empty piece changes nothing
abbrev pub written : ℕ → List ℕ → List ℕ → List ℕ
written at [] old = old
written at (b ∷ bytes) old = take at old ++ replicate (at - length old) 0 ++ (b ∷ bytes) ++ drop (at + length (b ∷ bytes)) old

-- after any part of a write of n bytes: any bytes in its range and past the old end, the same elsewhere; none change nothing
pub record Torn (at n : ℕ) (old new : List ℕ) : Type 0 where
  pub before : take (min at (length old)) new ≡ take at old
  pub after : drop (at + n) new ≡ drop (at + n) old
  pub no_shorter : length old ≤ length new
  pub nothing : n ≡ 0 → new ≡ old

-- after any part of a cut to n bytes: some length between
pub record Shortened (n : ℕ) (old new : List ℕ) : Type 0 where
  pub front : take (length new) old ≡ new
  pub no_shorter : min n (length old) ≤ length new

-- what the call makes of the bytes
abbrev pub done_by : DiskCall → List ℕ → List ℕ
done_by (Write at bytes) old = written at bytes old
done_by (Cut len) old = take len old
done_by Sync old = old

-- what any part of the call may make of them
abbrev pub PartOf : DiskCall → List ℕ → List ℕ → Type 0
PartOf (Write at bytes) old new = Torn at (length bytes) old new
PartOf (Cut len) old new = Shortened len old new
PartOf Sync old new = new ≡ old

-- each new image is an old image after a step
abbrev pub Follows : (List ℕ → List ℕ → Type 0) → (List ℕ → Type 0) → (List ℕ → Type 0) → Type 0
Follows step old new = (c : List ℕ) → new c → (d : List ℕ) × old d × step d c

-- each new image is an old image
abbrev pub NoMore : (List ℕ → Type 0) → (List ℕ → Type 0) → Type 0
NoMore old new = (c : List ℕ) → new c → old c

-- a crash leaves these bytes and nothing else
abbrev pub Only : List ℕ → (List ℕ → Type 0) → Type 0
Only bytes images = (c : List ℕ) → images c → c ≡ bytes

-- each image has fewer than 2^64 bytes
abbrev pub AreBounded : (List ℕ → Type 0) → Type 0
AreBounded images = (c : List ℕ) → images c → length c < 2 ^ 64

-- Time goes on: a crash since t might have left what it might have left before, or what it may leave now.
pub record Elapses (before now : ℕ) (past since : ℕ → List ℕ → Type 0) (images : List ℕ → Type 0) : Type 0 where
  pub later : before ≤ now
  pub nothing_else : (t : ℕ) (c : List ℕ) → t ≤ before → since t c → past t c ⊎ images c
  pub keeps : (t : ℕ) (c : List ℕ) → t ≤ before → past t c → since t c

-- A crash at any moment since old leaves bytes that have P.
pub record LeavesOnly {D : Type 0} (moment : D → ℕ) (left_since : D → ℕ → List ℕ → Type 0) (old new : D) (P : List ℕ → Type 0) : Type 0 where
  pub later : moment old ≤ moment new
  pub each : (c : List ℕ) → left_since new (moment old) c → P c
  -- for a run that began earlier
  pub before : (t : ℕ) (c : List ℕ) → t ≤ moment old → left_since new t c → left_since old t c ⊎ P c

-- the count of faults rises exactly where the call fails, and by one
pub record CountsFault {T E : Type 0} (before now : ℕ) (result : Result T E) : Type 0 where
  pub later : before ≤ now
  pub ok : OnOk result (now ≡ before)
  pub failed : OnErr result (Rose before now)
  pub one : OnErr result (now ≡ raised before)

-- where the disk tells its calls it told those before, and this is the one call more
abbrev pub Tells : Option (List DiskCall) → Option (List DiskCall) → DiskCall → Type 0
Tells old now call = IfSome now (λ calls. (before : List DiskCall) × (old ≡ Some before) × (calls ≡ before ++ call ∷ []))
