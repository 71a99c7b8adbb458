-- That a disk in memory keeps the laws of a disk. Proved here, since an `impl` cites them.
use Rattle.std.specs.Prelude.{◌≡◌, ℕ, ◌+◌, ◌-◌, ◌≤◌, min, Bool, true, false, List, [], ◌∷◌, ◌++◌, length, take, drop, replicate, refl}
use Rattle.std.proofs.Common.{◌∙◌, sym, ap, subst, arith, length-append, length-take, length-drop, append_assoc}
use Rattle.std.proofs.lemmas.List.{length-replicate, take_all, take_at, take_min, drop_at}
use Rattle.ps_disks.specs.Disk.{written, Torn, done_by, PartOf}
use Rattle.ps_disks.specs.History.{History, Standing, effect, replayed, bytes_now, after_call, after_calls, standing, MayMake, ArePartsOf, IsImage, LeftSince, first_calls}
use Rattle.ps_disks.specs.declared.disk.DiskCall.{DiskCall}
use Rattle.ps_disks.specs.declared.disk.DiskCall.TheVariants.{Write, Cut, Sync}
use Rattle.ps_disks.specs.declared.history.LoggedCall.{LoggedCall}

-- the front of the bytes and a gap, up to the place
abbrev front : ℕ → List ℕ → List ℕ
front at bytes = take at bytes ++ replicate (at - length bytes) 0

length-front : (at : ℕ) (bytes : List ℕ) → length (front at bytes) ≡ at
length-front at bytes = omega (arith, length-append (take at bytes) (replicate (at - length bytes) 0), length-take at bytes, length-replicate {A = ℕ} (at - length bytes) 0)

-- a write that was done is a part of itself
pub written_is_torn : (at : ℕ) (piece bytes : List ℕ) → Torn at (length piece) bytes (written at piece bytes)
written_is_torn at [] bytes = record { before = take_min at bytes; after = refl; no_shorter = omega arith; nothing = λ none. refl }
written_is_torn at (b ∷ piece) bytes =
    let n = length (b ∷ piece) in
    let past = drop (at + n) bytes in
    let size : length (front at bytes ++ b ∷ piece) ≡ at + n = omega (arith, length-append (front at bytes) (b ∷ piece), length-front at bytes) in
    let split : written at (b ∷ piece) bytes ≡ take at bytes ++ (replicate (at - length bytes) 0 ++ (b ∷ piece) ++ past) =
    ap (λ (l : List ℕ). l ++ past) (append_assoc (take at bytes) (replicate (at - length bytes) 0) (b ∷ piece)) ∙ append_assoc (take at bytes) (replicate (at - length bytes) 0 ++ b ∷ piece) past in
    record {
      before = ap (take (min at (length bytes))) split ∙ take_at (take at bytes) (replicate (at - length bytes) 0 ++ (b ∷ piece) ++ past) (min at (length bytes)) (length-take at bytes);
      after = drop_at (front at bytes ++ b ∷ piece) past (at + n) size;
      no_shorter = omega (arith, length-append (front at bytes ++ b ∷ piece) past, size, length-drop (at + n) bytes);
      nothing = λ none. absurd (omega (arith, none));
    }

-- so is any call
pub done_is_part : (call : DiskCall) (bytes : List ℕ) → PartOf call bytes (done_by call bytes)
done_is_part (Write at piece) bytes = written_is_torn at piece bytes
done_is_part (Cut len) bytes = record { front = taken; no_shorter = omega (arith, length-take len bytes) }
  where
    taken : take (length (take len bytes)) bytes ≡ take len bytes
    taken = ap (λ n. take n bytes) (length-take len bytes) ∙ take_min len bytes
done_is_part Sync bytes = refl

-- and nothing at all
pub nothing_is_part : (call : DiskCall) (bytes : List ℕ) → PartOf call bytes bytes
nothing_is_part (Write at piece) bytes = record { before = take_min at bytes; after = refl; no_shorter = omega arith; nothing = λ none. refl }
nothing_is_part (Cut len) bytes = record { front = take_all (length bytes) bytes (omega arith); no_shorter = omega arith }
nothing_is_part Sync bytes = refl

effect_may_be : (done : Bool) (call : DiskCall) (bytes : List ℕ) → MayMake done call bytes (effect (record { call = call; done = done }) bytes)
effect_may_be true call bytes = done_is_part call bytes
effect_may_be false call bytes = refl

pub replayed_are_parts : (bytes : List ℕ) (log : List LoggedCall) → ArePartsOf bytes log (replayed bytes log)
replayed_are_parts bytes [] = refl
replayed_are_parts bytes (l ∷ log) = (effect l bytes, effect_may_be l.done l.call bytes, replayed_are_parts (effect l bytes) log)

pub replayed-push : (bytes : List ℕ) (log : List LoggedCall) (l : LoggedCall) → replayed bytes (log ++ l ∷ []) ≡ effect l (replayed bytes log)
replayed-push bytes [] l = refl
replayed-push bytes (k ∷ log) l = replayed-push (effect k bytes) log l

-- a standing gives the same bytes after one more call
stands-call : (s : Standing) (call : DiskCall) (done : Bool) (l : LoggedCall) → l ≡ record { call = call; done = done } → effect l (replayed s.fixed s.since) ≡ replayed (after_call s l).fixed (after_call s l).since
stands-call s call false l is = subst (λ l. effect l (replayed s.fixed s.since) ≡ replayed (after_call s l).fixed (after_call s l).since) (sym is) (sym (replayed-push s.fixed s.since (record { call = call; done = false })))
stands-call s (Write at piece) true l is = subst (λ l. effect l (replayed s.fixed s.since) ≡ replayed (after_call s l).fixed (after_call s l).since) (sym is) (sym (replayed-push s.fixed s.since (record { call = Write at piece; done = true })))
stands-call s (Cut len) true l is = subst (λ l. effect l (replayed s.fixed s.since) ≡ replayed (after_call s l).fixed (after_call s l).since) (sym is) (sym (replayed-push s.fixed s.since (record { call = Cut len; done = true })))
stands-call s Sync true l is = subst (λ l. effect l (replayed s.fixed s.since) ≡ replayed (after_call s l).fixed (after_call s l).since) (sym is) refl

stands : (s : Standing) (log : List LoggedCall) → replayed (replayed s.fixed s.since) log ≡ replayed (after_calls s log).fixed (after_calls s log).since
stands s [] = refl
stands s (l ∷ log) = ap (λ bytes. replayed bytes log) (stands-call s l.call l.done l refl) ∙ stands (after_call s l) log

-- what a read gives is what the last sync fixed and the calls since made
pub bytes_stand : (h : History) → bytes_now h ≡ replayed (standing h).fixed (standing h).since
bytes_stand h = stands (record { fixed = h.start; since = [] }) h.log

-- what a read gives is an image
pub bytes_are_image : (h : History) → IsImage h (bytes_now h)
bytes_are_image h = subst (IsImage h) (sym (bytes_stand h)) (replayed_are_parts (standing h).fixed (standing h).since)

all_calls : (h : History) (n : ℕ) → length h.log ≤ n → first_calls n h ≡ h
all_calls h n le = ap (λ log. record { start = h.start; log = log }) (take_all n h.log le)

pub image_counts : (h : History) (t : ℕ) (c : List ℕ) → t ≤ length h.log → IsImage h c → LeftSince h t c
image_counts h t c le image = (length h.log, le, omega arith, subst (λ past. IsImage past c) (sym (all_calls h (length h.log) (omega arith))) image)

pub only_image : (h : History) (c : List ℕ) → LeftSince h (length h.log) c → IsImage h c
only_image h c left = subst (λ past. IsImage past c) (all_calls h left.0 left.1) left.3
