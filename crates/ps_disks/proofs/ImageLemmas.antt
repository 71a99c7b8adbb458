-- The images of a disk in memory after one more call.
use Rattle.std.proofs.Common.{◌≡◌, ℕ, ◌+◌, ◌-◌, ◌/◌, ◌^◌, ◌<◌, Bool, true, false, if◌then◌else◌, IsTrue, List, [], ◌∷◌, ◌++◌, length, take, drop, refl, sym, ◌∙◌, ap, subst, arith, length-take, length-drop}
use Rattle.std.proofs.lemmas.List.{drop-drop}
use Rattle.ps_disks.specs.Disk.{written, Torn, PartOf, Follows, Only, AreBounded}
use Rattle.ps_disks.specs.History.{History, Standing, with_call, fixes, effect, replayed, bytes_now, half_done_by, half_replayed, after_call, after_calls, standing, MayMake, ArePartsOf, IsImage, image_bytes, EndsInReach, AllEndInReach}
use Rattle.ps_disks.specs.Images.{written_is_torn, done_is_part, nothing_is_part, replayed_are_parts, replayed-push, bytes_stand}
use Rattle.ps_disks.specs.declared.disk.DiskCall.{DiskCall}
use Rattle.ps_disks.specs.declared.disk.DiskCall.TheVariants.{Write, Cut, Sync}
use Rattle.ps_disks.specs.declared.history.LoggedCall.{LoggedCall}
use Rattle.ps_disks.specs.declared.image.Image.{Image}
use Rattle.ps_disks.specs.declared.image.Image.TheVariants.{Old, New, Torn as torn_image}

after_calls-push : (s : Standing) (log : List LoggedCall) (l : LoggedCall) → after_calls s (log ++ l ∷ []) ≡ after_call (after_calls s log) l
after_calls-push s [] l = refl
after_calls-push s (k ∷ log) l = after_calls-push (after_call s k) log l

pub standing-push : (h : History) (call : DiskCall) (done : Bool) → standing (with_call h call done) ≡ after_call (standing h) (record { call = call; done = done })
standing-push h call done = after_calls-push (record { fixed = h.start; since = [] }) h.log (record { call = call; done = done })

parts-push : (bytes : List ℕ) (log : List LoggedCall) (l : LoggedCall) (c : List ℕ) → ArePartsOf bytes (log ++ l ∷ []) c → (d : List ℕ) × ArePartsOf bytes log d × MayMake l.done l.call d c
parts-push bytes [] l c parts = (bytes, refl, subst (λ d. MayMake l.done l.call bytes d) (sym parts.2) parts.1)
parts-push bytes (k ∷ log) l c parts =
    let rest = parts-push parts.0 log l c parts.2 in
    (rest.0, (parts.0, parts.1, rest.1), rest.2)

-- each image after a call is an image before it, after a part of the call
follows-standing : (s : Standing) (call : DiskCall) (done : Bool) (c : List ℕ)
    → ArePartsOf (after_call s (record { call = call; done = done })).fixed (after_call s (record { call = call; done = done })).since c
    → (d : List ℕ) × ArePartsOf s.fixed s.since d × PartOf call d c
follows-standing s call false c image =
    let split = parts-push s.fixed s.since (record { call = call; done = false }) c image in
    (c, subst (ArePartsOf s.fixed s.since) (sym split.2) split.1, nothing_is_part call c)
follows-standing s (Write at piece) true c image = parts-push s.fixed s.since (record { call = Write at piece; done = true }) c image
follows-standing s (Cut len) true c image = parts-push s.fixed s.since (record { call = Cut len; done = true }) c image
follows-standing s Sync true c image = (c, subst (ArePartsOf s.fixed s.since) (sym image) (replayed_are_parts s.fixed s.since), refl)

pub call_follows : (h : History) (call : DiskCall) (done : Bool) → Follows (PartOf call) (IsImage h) (IsImage (with_call h call done))
call_follows h call done c image = follows-standing (standing h) call done c (subst (λ s. ArePartsOf s.fixed s.since c) (standing-push h call done) image)

-- after a sync that was done there is one image
pub sync_fixes : (h : History) → Only (bytes_now h) (IsImage (with_call h Sync true))
sync_fixes h c image = subst (λ s. ArePartsOf s.fixed s.since c) (standing-push h Sync true) image ∙ sym (bytes_stand h)

-- a call that failed left the bytes
pub bytes_now-push : (h : History) (call : DiskCall) (done : Bool) → bytes_now (with_call h call done) ≡ effect (record { call = call; done = done }) (bytes_now h)
bytes_now-push h call done = replayed-push h.start h.log (record { call = call; done = done })

pub bytes_part : (h : History) (call : DiskCall) (done : Bool) → PartOf call (bytes_now h) (bytes_now (with_call h call done))
bytes_part h call true = subst (PartOf call (bytes_now h)) (sym (bytes_now-push h call true)) (done_is_part call (bytes_now h))
bytes_part h call false = subst (PartOf call (bytes_now h)) (sym (bytes_now-push h call false)) (nothing_is_part call (bytes_now h))

-- Sizes.

all_in_reach-push : (log : List LoggedCall) (l : LoggedCall) → AllEndInReach log → (IsTrue l.done → EndsInReach l.call) → AllEndInReach (log ++ l ∷ [])
all_in_reach-push [] l all one = (one, tt)
all_in_reach-push (k ∷ log) l all one = (all.0, all_in_reach-push log l all.1 one)

pub in_reach-more : (h : History) (call : DiskCall) (done : Bool) → AllEndInReach h.log → (IsTrue done → EndsInReach call) → AllEndInReach (with_call h call done).log
in_reach-more h call done all one = all_in_reach-push h.log (record { call = call; done = done }) all one

part_size : (call : DiskCall) (old new : List ℕ) → EndsInReach call → length old < 2 ^ 64 → PartOf call old new → length new < 2 ^ 64
part_size (Write at piece) old new reach few part = omega (arith, reach, few, ap length part.after, length-drop (at + length piece) old, length-drop (at + length piece) new)
part_size (Cut len) old new reach few part = omega (arith, few, ap length part.front, length-take (length new) old)
part_size Sync old new reach few part = omega (arith, few, ap length part)

made_size : (done : Bool) (call : DiskCall) (old new : List ℕ) → (IsTrue done → EndsInReach call) → length old < 2 ^ 64 → MayMake done call old new → length new < 2 ^ 64
made_size true call old new reach few part = part_size call old new (reach refl) few part
made_size false call old new reach few part = omega (arith, few, ap length part)

parts_size : (bytes : List ℕ) (log : List LoggedCall) (c : List ℕ) → length bytes < 2 ^ 64 → AllEndInReach log → ArePartsOf bytes log c → length c < 2 ^ 64
parts_size bytes [] c few reach parts = omega (arith, few, ap length parts)
parts_size bytes (l ∷ log) c few reach parts = parts_size parts.0 log c (made_size l.done l.call bytes parts.0 reach.0 few parts.1) reach.1 parts.2

pub record HasSize (s : Standing) : Type 0 where
  pub fixed : length s.fixed < 2 ^ 64
  pub since : AllEndInReach s.since

call_size : (b : Bool) (s : Standing) (l : LoggedCall) → fixes l ≡ b → HasSize s → (IsTrue l.done → EndsInReach l.call) → HasSize (after_call s l)
call_size true s l fix size reach =
    subst (λ b. HasSize (if b then record { fixed = replayed s.fixed s.since; since = [] } else record { fixed = s.fixed; since = s.since ++ l ∷ [] })) (sym fix)
    (record { fixed = parts_size s.fixed s.since (replayed s.fixed s.since) size.fixed size.since (replayed_are_parts s.fixed s.since); since = tt })
call_size false s l no_fix size reach =
    subst (λ b. HasSize (if b then record { fixed = replayed s.fixed s.since; since = [] } else record { fixed = s.fixed; since = s.since ++ l ∷ [] })) (sym no_fix)
    (record { fixed = size.fixed; since = all_in_reach-push s.since l size.since reach })

calls_size : (s : Standing) (log : List LoggedCall) → HasSize s → AllEndInReach log → HasSize (after_calls s log)
calls_size s [] size reach = size
calls_size s (l ∷ log) size reach = calls_size (after_call s l) log (call_size (fixes l) s l refl size reach.0) reach.1

pub images_size : (h : History) → length h.start < 2 ^ 64 → AllEndInReach h.log → AreBounded (IsImage h)
images_size h few reach c image =
    let size = calls_size (record { fixed = h.start; since = [] }) h.log (record { fixed = few; since = tt }) reach in
    parts_size (standing h).fixed (standing h).since c size.fixed size.since image

-- Each of the three images is one.

half_is_torn : (at : ℕ) (piece bytes : List ℕ) → Torn at (length piece) bytes (written at (take (length piece / 2) piece) bytes)
half_is_torn at piece bytes =
    let half = take (length piece / 2) piece in
    let torn = written_is_torn at half bytes in
    let m = length half in
    let rest = length piece - m in
    let new = written at half bytes in
    let more : at + m + rest ≡ at + length piece = omega (arith, length-take (length piece / 2) piece) in
    record {
      before = torn.before;
      after = sym (ap (λ (k : ℕ). drop k new) more) ∙ sym (drop-drop rest (at + m) new) ∙ ap (drop rest) torn.after ∙ drop-drop rest (at + m) bytes ∙ ap (λ (k : ℕ). drop k bytes) more;
      no_shorter = torn.no_shorter;
      nothing = λ none. torn.nothing (omega (arith, none, length-take (length piece / 2) piece));
    }

half_is_part : (call : DiskCall) (bytes : List ℕ) → PartOf call bytes (half_done_by call bytes)
half_is_part (Write at piece) bytes = half_is_torn at piece bytes
half_is_part (Cut len) bytes = done_is_part (Cut len) bytes
half_is_part Sync bytes = refl

half_may_be : (done : Bool) (call : DiskCall) (bytes : List ℕ) → MayMake done call bytes (if done then half_done_by call bytes else bytes)
half_may_be true call bytes = half_is_part call bytes
half_may_be false call bytes = refl

nothing_may_be : (done : Bool) (call : DiskCall) (bytes : List ℕ) → MayMake done call bytes bytes
nothing_may_be true call bytes = nothing_is_part call bytes
nothing_may_be false call bytes = refl

half_replayed_are_parts : (bytes : List ℕ) (log : List LoggedCall) → ArePartsOf bytes log (half_replayed bytes log)
half_replayed_are_parts bytes [] = refl
half_replayed_are_parts bytes (l ∷ log) =
    let half = if l.done then half_done_by l.call bytes else bytes in
    (half, half_may_be l.done l.call bytes, half_replayed_are_parts half log)

dropped_are_parts : (bytes : List ℕ) (log : List LoggedCall) → ArePartsOf bytes log bytes
dropped_are_parts bytes [] = refl
dropped_are_parts bytes (l ∷ log) = (bytes, nothing_may_be l.done l.call bytes, dropped_are_parts bytes log)

pub image_is_image : (image : Image) (h : History) → IsImage h (image_bytes image h)
image_is_image Old h = dropped_are_parts (standing h).fixed (standing h).since
image_is_image New h = replayed_are_parts (standing h).fixed (standing h).since
image_is_image torn_image h = half_replayed_are_parts (standing h).fixed (standing h).since
