-- What a cut behind the head, and a write there, leave of a disk: its head.
use Rattle.std.proofs.Common.{ℕ, ◌≤◌, List, length, take, refl, sym, ◌∙◌, ap, arith}
use Rattle.std.proofs.lemmas.List.{take-take}
use Rattle.ps_disks.specs.Disk.{Torn, Shortened, Follows, NoMore, Elapses, LeavesOnly}
use Rattle.ps_disks.proofs.DiskLemmas.{torn_front, leaves_after_call}
use Rattle.host_journal.specs.Calls.{PartAfter, KeepsHead}
use Rattle.host_journal.proofs.CallLemmas.{after_part}

keeps_none : (c : List ℕ) → KeepsHead c c
keeps_none c long = (refl, long)

pub keeps_then : (a b c : List ℕ) → KeepsHead a b → KeepsHead b c → KeepsHead a c
keeps_then a b c one two long =
    let first = one long in
    let then = two first.1 in (then.0 ∙ first.0, then.1)

pub keeps_cut : (a b : List ℕ) → Shortened 9 a b → KeepsHead a b
keeps_cut a b cut long =
    let nine : 9 ≤ length b = omega (arith, cut.no_shorter, long) in
    (ap (take 9) (sym cut.front) ∙ take-take 9 (length b) a nine, nine)

pub keeps_torn : (n : ℕ) (a b : List ℕ) → Torn 9 n a b → KeepsHead a b
keeps_torn n a b torn long = (torn_front 9 9 n a b torn (omega arith) (omega (arith, long)), omega (arith, torn.no_shorter, long))

module _ {D : Type 0} (seen : D → List ℕ) (may_leave : D → List ℕ → Type 0) (moment : D → ℕ) (left_since : D → ℕ → List ℕ → Type 0)
    (old cut : D) (only : (c : List ℕ) → left_since old (moment old) c → may_leave old c)
    (cuts : Follows (Shortened 9) (may_leave old) (may_leave cut)) (time : Elapses (moment old) (moment cut) (left_since old) (left_since cut) (may_leave cut)) where
  cut_images : Follows KeepsHead (may_leave old) (may_leave cut)
  cut_images c now = let from = cuts c now in (from.0, from.1, keeps_cut from.0 c from.2)

  pub cut_moments : LeavesOnly moment left_since old cut (PartAfter KeepsHead (may_leave old))
  cut_moments = after_part seen may_leave moment left_since old cut KeepsHead keeps_none only cut_images time

  module _ (n : ℕ) (behind : D) (writes : Follows (Torn 9 n) (may_leave cut) (may_leave behind)) (time_write : Elapses (moment cut) (moment behind) (left_since cut) (left_since behind) (may_leave behind)) where
    pub behind_images : Follows KeepsHead (may_leave old) (may_leave behind)
    behind_images c now =
        let from = writes c now in
        let first = cut_images from.0 from.1 in
        (first.0, first.1, keeps_then first.0 from.0 c first.2 (keeps_torn n from.0 c from.2))

    pub behind_moments : LeavesOnly moment left_since old behind (PartAfter KeepsHead (may_leave old))
    behind_moments = leaves_after_call moment left_since old cut behind (PartAfter KeepsHead (may_leave old)) (may_leave behind) cut_moments time_write behind_images

    module _ (sure : D) (no_more : NoMore (may_leave behind) (may_leave sure)) (time_sync : Elapses (moment behind) (moment sure) (left_since behind) (left_since sure) (may_leave sure)) where
      pub sure_images : Follows KeepsHead (may_leave old) (may_leave sure)
      sure_images c now = behind_images c (no_more c now)

      pub sure_moments : LeavesOnly moment left_since old sure (PartAfter KeepsHead (may_leave old))
      sure_moments = leaves_after_call moment left_since old behind sure (PartAfter KeepsHead (may_leave old)) (may_leave sure) behind_moments time_sync sure_images
