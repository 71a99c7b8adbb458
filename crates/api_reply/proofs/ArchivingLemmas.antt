-- What is shown of archivers and their states, of which there may be more of the one than of the other.
use Rattle.std.proofs.Common.{◌≡◌, ◌∷◌, ◌≤◌, List, [], arith, drop, length, min, refl, suc, zero, ℕ}
use Rattle.archive_retry.specs.declared.state.ArchiveState.{ArchiveState}
use Rattle.api_reply.specs.Views.{archivings}

no_states : (archivers : List (List ℕ)) → archivings archivers [] ≡ []
no_states [] = refl
no_states (a ∷ archivers) = refl

-- behind the end of one of both nothing is left
pub archivings_end : (i : ℕ) (archivers : List (List ℕ)) (states : List ArchiveState) → min (length archivers) (length states) ≤ i → archivings (drop i archivers) (drop i states) ≡ []
archivings_end zero [] states past = refl
archivings_end zero (a ∷ archivers) [] past = refl
archivings_end zero (a ∷ archivers) (s ∷ states) past = absurd (omega (arith, past))
archivings_end (suc i) [] states past = refl
archivings_end (suc i) (a ∷ archivers) [] past = no_states (drop i archivers)
archivings_end (suc i) (a ∷ archivers) (s ∷ states) past = archivings_end i archivers states (omega (arith, past))
