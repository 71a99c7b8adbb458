-- The calls of a disk in memory, and the images that they leave.
use Rattle.std.specs.Prelude.{◌≡◌, ℕ, ◌+◌, ◌/◌, ◌^◌, ◌<◌, ◌≤◌, ⊤, Bool, true, false, if◌then◌else◌, IsTrue, List, [], ◌∷◌, ◌++◌, length, map, min, take}
use Rattle.ps_disks.specs.Disk.{written, done_by, PartOf}
use Rattle.ps_disks.specs.declared.disk.DiskCall.{DiskCall}
use Rattle.ps_disks.specs.declared.disk.DiskCall.TheVariants.{Write, Cut, Sync}
use Rattle.ps_disks.specs.declared.history.LoggedCall.{LoggedCall}
use Rattle.ps_disks.specs.declared.history.RecentCall.{RecentCall}
use Rattle.ps_disks.specs.declared.image.Image.{Image}
use Rattle.ps_disks.specs.declared.image.Image.TheVariants.{Old, New, Torn}

-- the bytes that a disk was made with, and its writes, cuts and syncs since
pub record History : Type 0 where
  pub start : List ℕ
  pub log : List LoggedCall

-- with one more call
abbrev pub with_call : History → DiskCall → Bool → History
with_call h call done = record { start = h.start; log = h.log ++ record { call = call; done = done } ∷ [] }

-- as it was after so many calls
abbrev pub first_calls : ℕ → History → History
first_calls n h = record { start = h.start; log = take n h.log }

-- what a call made of the bytes: one that failed did nothing
abbrev pub effect : LoggedCall → List ℕ → List ℕ
effect l bytes = if l.done then done_by l.call bytes else bytes

-- the bytes after these calls
abbrev pub replayed : List ℕ → List LoggedCall → List ℕ
replayed bytes [] = bytes
replayed bytes (l ∷ log) = replayed (effect l bytes) log

-- what a read gives
abbrev pub bytes_now : History → List ℕ
bytes_now h = replayed h.start h.log

-- the first half of a write, rounded down, and a cut whole
abbrev pub half_done_by : DiskCall → List ℕ → List ℕ
half_done_by (Write at bytes) old = written at (take (length bytes / 2) bytes) old
half_done_by (Cut len) old = take len old
half_done_by Sync old = old

-- the bytes after these calls, each write by half
abbrev pub half_replayed : List ℕ → List LoggedCall → List ℕ
half_replayed bytes [] = bytes
half_replayed bytes (l ∷ log) = half_replayed (if l.done then half_done_by l.call bytes else bytes) log

-- the bytes that the last sync fixed, and the calls after it
pub record Standing : Type 0 where
  pub fixed : List ℕ
  pub since : List LoggedCall

abbrev pub is_sync : DiskCall → Bool
is_sync (Write at bytes) = false
is_sync (Cut len) = false
is_sync Sync = true

-- a sync that was done
abbrev pub fixes : LoggedCall → Bool
fixes l = if l.done then is_sync l.call else false

-- after one more call: a sync that was done fixes what the calls before it made
abbrev pub after_call : Standing → LoggedCall → Standing
after_call s l =
    if fixes l
    then record { fixed = replayed s.fixed s.since; since = [] }
    else record { fixed = s.fixed; since = s.since ++ l ∷ [] }

abbrev pub after_calls : Standing → List LoggedCall → Standing
after_calls s [] = s
after_calls s (l ∷ log) = after_calls (after_call s l) log

-- what a disk begins with is fixed
abbrev pub standing : History → Standing
standing h = after_calls (record { fixed = h.start; since = [] }) h.log

-- what any part of a call may have made of the bytes
abbrev pub MayMake : Bool → DiskCall → List ℕ → List ℕ → Type 0
MayMake true call old new = PartOf call old new
MayMake false call old new = new ≡ old

-- what any parts of these calls may have made of the bytes
abbrev pub ArePartsOf : List ℕ → List LoggedCall → List ℕ → Type 0
ArePartsOf bytes [] c = c ≡ bytes
ArePartsOf bytes (l ∷ log) c = (d : List ℕ) × MayMake l.done l.call bytes d × ArePartsOf d log c

-- what a crash may leave: parts of the calls since the last sync
abbrev pub IsImage : History → List ℕ → Type 0
IsImage h c = ArePartsOf (standing h).fixed (standing h).since c

-- what a crash after t calls or later might have left
abbrev pub LeftSince : History → ℕ → List ℕ → Type 0
LeftSince h t c = (k : ℕ) × (t ≤ k) × (k ≤ length h.log) × IsImage (first_calls k h) c

-- the bytes of each image
abbrev pub image_bytes : Image → History → List ℕ
image_bytes Old h = (standing h).fixed
image_bytes New h = replayed (standing h).fixed (standing h).since
image_bytes Torn h = half_replayed (standing h).fixed (standing h).since

-- a write ends at 2^64 - 1 or before
abbrev pub EndsInReach : DiskCall → Type 0
EndsInReach (Write at bytes) = at + length bytes < 2 ^ 64
EndsInReach (Cut len) = ⊤
EndsInReach Sync = ⊤

-- each write that was done does
abbrev pub AllEndInReach : List LoggedCall → Type 0
AllEndInReach [] = ⊤
AllEndInReach (l ∷ log) = (IsTrue l.done → EndsInReach l.call) × AllEndInReach log

-- ---- undoing calls
-- from which place on a call changes so many bytes
abbrev pub changed_from : DiskCall → ℕ → ℕ
changed_from (Write at bytes) len = min at len
changed_from (Cut left) len = min left len
changed_from Sync len = len

abbrev pub taken_from : LoggedCall → ℕ → ℕ
taken_from l len = if l.done then changed_from l.call len else len

-- before which place it changes or takes so many bytes
abbrev pub changed_until : DiskCall → ℕ → ℕ
changed_until (Write at bytes) len = min (at + length bytes) len
changed_until (Cut left) len = len
changed_until Sync len = len

abbrev pub taken_until : LoggedCall → ℕ → ℕ
taken_until l len = if l.done then changed_until l.call len else len

abbrev pub undone_one : RecentCall → List ℕ → List ℕ
undone_one r bytes = take r.len (written r.at r.piece.items bytes)

-- the last of these calls first
abbrev pub undone : List RecentCall → List ℕ → List ℕ
undone [] bytes = bytes
undone (r ∷ recent) bytes = undone_one r (undone recent bytes)

-- these are the calls since the last sync, and undone they leave what it fixed
abbrev pub IsStanding : History → List RecentCall → List ℕ → Type 0
IsStanding h recent bytes = standing h ≡ record { fixed = undone recent bytes; since = map (λ r. r.logged) recent }

-- the bytes of each image, behind these calls since the last sync
abbrev pub left_by : Image → List RecentCall → List ℕ → List ℕ
left_by Old recent bytes = undone recent bytes
left_by New recent bytes = bytes
left_by Torn recent bytes = half_replayed (undone recent bytes) (map (λ r. r.logged) recent)
