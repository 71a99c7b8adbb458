-- What a write, cut or sync of a disk in memory leaves.
use Rattle.std.proofs.Common.{◌≡◌, inl, inr, true, false, sym, ◌∙◌, ap, subst, Result, Ok, Err, OnOk}
use Rattle.ps_disks.specs.Disk.{done_by, PartOf, Follows, Only}
use Rattle.ps_disks.specs.History.{History, with_call, bytes_now, IsImage}
use Rattle.ps_disks.specs.MemoryDisk.{DiskState, Makes}
use Rattle.ps_disks.specs.Images.{nothing_is_part}
use Rattle.ps_disks.proofs.ImageLemmas.{call_follows, sync_fixes, bytes_now-push, bytes_part}
use Rattle.ps_disks.specs.declared.disk.DiskCall.{DiskCall}
use Rattle.ps_disks.specs.declared.disk.DiskCall.TheVariants.{Sync}

module _ {E : Type 0} (call : DiskCall) (old new : DiskState) (result : Result (Unit {0}) E) where
  -- there is one more call, done or not, or nothing is changed
  history_after : (P : History → Type 0) → ((done : _) → P (with_call old.history call done)) → P old.history → (r : Result (Unit {0}) E) → Makes call old new r → P new.history
  history_after P made same (Ok u) makes = subst P (ap (λ s. s.history) (sym makes.1)) (made true)
  history_after P made same (Err e) (inl failed) = subst P (ap (λ s. s.history) (sym failed.1)) (made false)
  history_after P made same (Err e) (inr starved) = subst P (ap (λ s. s.history) (sym starved)) same

  pub makes_part : Makes call old new result → PartOf call (bytes_now old.history) (bytes_now new.history)
  makes_part = history_after (λ h. PartOf call (bytes_now old.history) (bytes_now h)) (bytes_part old.history call) (nothing_is_part call (bytes_now old.history)) result

  pub makes_follows : Makes call old new result → Follows (PartOf call) (IsImage old.history) (IsImage new.history)
  makes_follows = history_after (λ h. Follows (PartOf call) (IsImage old.history) (IsImage h)) (call_follows old.history call) (λ c image. (c, image, nothing_is_part call c)) result

  done_after : (r : Result (Unit {0}) E) → Makes call old new r → OnOk r (bytes_now new.history ≡ done_by call (bytes_now old.history))
  done_after (Ok u) makes = ap (λ s. bytes_now s.history) makes.1 ∙ bytes_now-push old.history call true
  done_after (Err e) makes = tt

  pub makes_done : Makes call old new result → OnOk result (bytes_now new.history ≡ done_by call (bytes_now old.history))
  makes_done = done_after result

-- after a sync that was done there is one image
pub sync_makes : {E : Type 0} (old new : DiskState) (result : Result (Unit {0}) E) → Makes Sync old new result → OnOk result (Only (bytes_now old.history) (IsImage new.history))
sync_makes old new (Ok u) makes = subst (λ s. Only (bytes_now old.history) (IsImage s.history)) (sym makes.1) (sync_fixes old.history)
sync_makes old new (Err e) makes = tt
