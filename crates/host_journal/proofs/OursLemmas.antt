-- Whatever a crash leaves of a journal's disks stands for something, also after a call that failed.
use Rattle.std.proofs.Common.{inl, inr, ℕ, ◌+◌, false, not, List, [], ◌∷◌, ◌++◌, ◌∙◌}
use Rattle.host_journal.specs.State.{State, pair_in, EachImage, IsOurs, IsBelow, IsWhole, Counting, Beside, IsSound}
use Rattle.host_journal.specs.declared.pending.Pending.{Pending}
use Rattle.host_journal.specs.declared.pending.Pending.TheVariants.{Nothing, Unopened, Record, Snapshot}
use Rattle.host_journal.proofs.AppendLemmas.{staged_either}
use Rattle.host_journal.proofs.HeadLemmas.{aside_below}
use Rattle.host_journal.proofs.PairLemmas.{pair_whole}
use Rattle.host_journal.proofs.SnapshotLemmas.{image_either, older_now}
use Rattle.host_journal.proofs.StateLemmas.{images_in}
use Rattle.host_journal.proofs.TurnLemmas.{turned_in}

module _ {D : Type 0} (seen : D → List ℕ) (may_leave : D → List ℕ → Type 0) (s : State D) (sound : IsSound seen may_leave s) where
  counts : (end : ℕ) (list : List (List ℕ)) (c d : List ℕ) → IsWhole s.generation s.start end list c → IsBelow s.second s.generation d → IsOurs (pair_in s.second c d)
  counts end list c d whole below = (record { second = s.second; generation = s.generation; start = s.start; end = end; list = list }, pair_whole s.second s.generation s.start end list c d whole below)

  other_counts : (start : ℕ) (image c d : List ℕ) → IsWhole s.generation s.start s.end sound.list c → IsWhole (s.generation + 1) start start (image ∷ []) d → IsOurs (pair_in s.second c d)
  other_counts start image c d whole stands =
      let below = aside_below (not s.second) (s.generation + 1) false c (older_now s.second s.generation s.start s.end sound.list c whole) in (
        record { second = not s.second; generation = s.generation + 1; start = start; end = start; list = image ∷ [] },
        turned_in s.second c d ∙ pair_whole (not s.second) (s.generation + 1) start start (image ∷ []) d c stands below,
      )

  ours_by : (p : Pending) (c d : List ℕ) → Counting s sound.list p c → Beside s p d → IsOurs (pair_in s.second c d)
  ours_by Nothing c d whole aside = counts s.end sound.list c d whole (aside_below s.second s.generation s.shut d aside)
  ours_by Unopened c d whole aside = counts s.end sound.list c d whole (aside_below s.second s.generation s.shut d aside)
  ours_by (Record next) c d staged aside =
      let below = aside_below s.second s.generation s.shut d aside in
      elim (staged_either s.generation s.start s.end sound.list next staged.0 c staged.1) [
        | inl whole ↦ counts s.end sound.list c d whole below
        | inr whole ↦ counts next (sound.list ++ staged.0 ∷ []) c d whole below
      ]
  ours_by (Snapshot start) c d whole beside =
      let image = beside.1 in
      elim (image_either (s.generation + 1) start image.0 d image.1) [
        | inl closed ↦ counts s.end sound.list c d whole (inl closed)
        | inr stands ↦ other_counts start image.0 c d whole stands
      ]

  pub ours : EachImage may_leave s IsOurs
  ours = images_in may_leave s.second s.counting s.other IsOurs (λ c d now now_other. ours_by s.pending c d (sound.counting c now) (sound.other d now_other))
