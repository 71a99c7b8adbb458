-- Calls since the last sync, each with what undoes it.
use Rattle.std.proofs.Common.{◌≡◌, ℕ, ◌+◌, ◌-◌, ◌<◌, ◌≤◌, ◌⊎◌, inl, inr, List, [], ◌∷◌, ◌++◌, length, map, min, get_or, take, drop, true, false, if◌then◌else◌, refl, sym, ◌∙◌, ap, arith, length-take, length-drop, take-append-drop}
use Rattle.std.proofs.lemmas.List.{take_all, take_at, take_min, take_more}
use Rattle.std.proofs.lemmas.Bool.{cases_lt}
use Rattle.std.proofs.Math.Seq.{take-add}
use Rattle.ps_disks.specs.Disk.{written}
use Rattle.ps_disks.specs.History.{History, IsStanding, Standing, bytes_now, effect, fixes, half_replayed, image_bytes, left_by, replayed, standing, taken_from, taken_until, undone, undone_one, with_call}
use Rattle.ps_disks.specs.Images.{bytes_stand, written_is_torn}
use Rattle.ps_disks.proofs.DiskLemmas.{written_within}
use Rattle.ps_disks.proofs.ImageLemmas.{standing-push}
use Rattle.ps_disks.specs.declared.disk.DiskCall.{DiskCall}
use Rattle.ps_disks.specs.declared.disk.DiskCall.TheVariants.{Write, Cut, Sync}
use Rattle.ps_disks.specs.declared.history.LoggedCall.{LoggedCall}
use Rattle.ps_disks.specs.declared.history.RecentCall.{RecentCall}
use Rattle.ps_disks.specs.declared.image.Image.{Image}
use Rattle.ps_disks.specs.declared.image.Image.TheVariants.{Old, New, Torn as torn_image}

-- bytes that differ from others in a part alone are these again once the part of these is written over it
restored : (m e : ℕ) (old new : List ℕ) → m ≤ e → e ≤ length old → m ≤ length new → take m new ≡ take m old → (e < length old → drop e new ≡ drop e old)
    → take (length old) (written m (take (e - m) (drop m old)) new) ≡ old
restored m e old new ordered within room front back =
    let piece : List ℕ = take (e - m) (drop m old) in
    let size : length piece ≡ e - m = omega (arith, length-take (e - m) (drop m old), length-drop m old, ordered, within) in
    let end : m + length piece ≡ e = omega (arith, size, ordered) in
    let split : written m piece new ≡ take e old ++ drop e new =
    written_within m piece new room
    ∙ ap (λ l. l ++ piece ++ drop (m + length piece) new) front
    ∙ ap (λ n. take m old ++ piece ++ drop n new) end
    ∙ ap (λ l. l ++ drop e new) (sym (take-add m (e - m) old) ∙ ap (λ n. take n old) (omega (arith, ordered))) in
    ap (take (length old)) split ∙ go (cases_lt e (length old))
  where
    go : (e < length old) ⊎ (length old ≤ e) → take (length old) (take e old ++ drop e new) ≡ old
    go (inl less) = ap (λ l. take (length old) (take e old ++ l)) (back less) ∙ ap (take (length old)) (take-append-drop e old) ∙ take_all (length old) old (omega arith)
    go (inr all) = ap (λ l. take (length old) (l ++ drop e new)) (take_all e old all) ∙ take_at old (drop e new) (length old) refl

-- the bytes before a call
undone_call : (done : _) (call : DiskCall) (bytes : List ℕ)
    → let l : LoggedCall = record { call = call; done = done } in
    let m = taken_from l (length bytes) in
    take (length bytes) (written m (take (taken_until l (length bytes) - m) (drop m bytes)) (effect l bytes)) ≡ bytes
undone_call false call bytes = restored (length bytes) (length bytes) bytes bytes (omega arith) (omega arith) (omega arith) refl (λ less. refl)
undone_call true (Write at piece) bytes =
    let torn = written_is_torn at piece bytes in
    let new = written at piece bytes in
    let e = min (at + length piece) (length bytes) in
    restored (min at (length bytes)) e bytes new (omega arith) (omega arith) (omega (arith, torn.no_shorter)) (torn.before ∙ sym (take_min at bytes))
    (λ less. let is : e ≡ at + length piece = omega (arith, less) in ap (λ n. drop n new) is ∙ torn.after ∙ ap (λ n. drop n bytes) (sym is))
undone_call true (Cut left) bytes =
    let m = min left (length bytes) in
    let short : length (take m bytes) ≤ m = omega (arith, length-take m bytes) in
    restored m (length bytes) bytes (take left bytes) (omega arith) (omega arith) (omega (arith, length-take left bytes)) (ap (take m) (sym (take_min left bytes)) ∙ take_all m (take m bytes) short) (λ less. absurd (omega (arith, less)))
undone_call true Sync bytes = restored (length bytes) (length bytes) bytes bytes (omega arith) (omega arith) (omega arith) refl (λ less. refl)

undone-push : (recent : List RecentCall) (r : RecentCall) (bytes : List ℕ) → undone (recent ++ r ∷ []) bytes ≡ undone recent (undone_one r bytes)
undone-push [] r bytes = refl
undone-push (k ∷ recent) r bytes = ap (undone_one k) (undone-push recent r bytes)

-- one call more, with what undoes it
pub undone_more : (recent : List RecentCall) (r : RecentCall) (before after : List ℕ)
    → r.at ≡ taken_from r.logged (length before) → r.len ≡ length before → r.piece.items ≡ take (taken_until r.logged (length before) - r.at) (drop r.at before) → after ≡ effect r.logged before
    → undone (recent ++ r ∷ []) after ≡ undone recent before
undone_more recent r before after at len piece made =
    let one : undone_one r after ≡ before =
    (λ i. take (len i) (written (at i) (piece i) (made i)))
    ∙ ap (λ (n : ℕ). take (length before) (written (taken_from r.logged (length before)) (take (taken_until r.logged (length before) - n) (drop n before)) (effect r.logged before))) at
    ∙ undone_call r.logged.done r.logged.call before in
    undone-push recent r after ∙ ap (undone recent) one

-- undoing the last of the first so many is undoing these
pub undone_back : (recent : List RecentCall) (left : ℕ) (r : RecentCall) (bytes : List ℕ) → 0 < left → left ≤ length recent → r ≡ get_or recent (left - 1) r
    → undone (take (left - 1) recent) (undone_one r bytes) ≡ undone (take left recent) bytes
undone_back recent left r bytes some within is =
    let more : left - 1 + 1 ≡ left = omega (arith, some) in
    let front : take left recent ≡ take (left - 1) recent ++ r ∷ [] =
    ap (λ (n : ℕ). take n recent) (sym more) ∙ take_more recent (left - 1) r (omega (arith, some, within)) ∙ ap (λ (k : RecentCall). take (left - 1) recent ++ k ∷ []) (sym is) in
    sym (ap (λ (l : List RecentCall). undone l bytes) front ∙ undone-push (take (left - 1) recent) r bytes)

-- a sync that was done leaves no call to undo
pub stands_fixed : (h : History) (call : DiskCall) (done : _) (bytes : List ℕ)
    → fixes (record { call = call; done = done }) ≡ true → bytes_now h ≡ bytes → IsStanding (with_call h call done) [] bytes
stands_fixed h call done bytes fix now =
    standing-push h call done
    ∙ ap (λ b. if b then record { fixed = replayed (standing h).fixed (standing h).since; since = [] } else record { fixed = (standing h).fixed; since = (standing h).since ++ record { call = call; done = done } ∷ [] }) fix
    ∙ ap (λ (fixed : List ℕ). record { fixed = fixed; since = [] }) (sym (bytes_stand h) ∙ now)

-- any other call is one more
pub stands_logged : (h : History) (call : DiskCall) (done : _) (recent more : List RecentCall) (before after : List ℕ)
    → fixes (record { call = call; done = done }) ≡ false → IsStanding h recent before
    → map (λ (k : RecentCall). k.logged) more ≡ map (λ (k : RecentCall). k.logged) recent ++ record { call = call; done = done } ∷ []
    → undone more after ≡ undone recent before → IsStanding (with_call h call done) more after
stands_logged h call done recent more before after no_fix stands since undoes =
    standing-push h call done
    ∙ ap (λ b. if b then record { fixed = replayed (standing h).fixed (standing h).since; since = [] } else record { fixed = (standing h).fixed; since = (standing h).since ++ record { call = call; done = done } ∷ [] }) no_fix
    ∙ ap (λ (s : Standing). record { fixed = s.fixed; since = s.since ++ record { call = call; done = done } ∷ [] }) stands
    ∙ (λ i. record { fixed = sym undoes i; since = sym since i })

-- a sync changes no bytes
pub fixed_effect : (done : _) (call : DiskCall) (bytes : List ℕ) → fixes (record { call = call; done = done }) ≡ true → effect (record { call = call; done = done }) bytes ≡ bytes
fixed_effect false call bytes fix = refl
fixed_effect true (Write at piece) bytes fix = absurd (cc fix)
fixed_effect true (Cut left) bytes fix = absurd (cc fix)
fixed_effect true Sync bytes fix = refl

-- what the calls since the last sync leave of each image
pub left_image : (image : Image) (h : History) (recent : List RecentCall) (bytes : List ℕ) → IsStanding h recent bytes → bytes_now h ≡ bytes → left_by image recent bytes ≡ image_bytes image h
left_image Old h recent bytes stands now = sym (ap (λ (s : Standing). s.fixed) stands)
left_image New h recent bytes stands now = sym now ∙ bytes_stand h
left_image torn_image h recent bytes stands now = sym (ap (λ (s : Standing). half_replayed s.fixed s.since) stands)
