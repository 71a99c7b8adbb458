-- States of archives, one after another and by their places.
use Rattle.std.proofs.Common.{◌≡◌, zero, suc, List, [], ◌∷◌, refl, subst}
use Rattle.archive_retry.specs.Bounds.{IsStateOf}
use Rattle.archive_retry.specs.declared.state.ArchiveState.{ArchiveState}
use Rattle.task_spec.specs.declared.task.Archive.{Archive}
use Rattle.book_check.specs.States.{AreEachStates, AreStates}

pub by_place : (archives : List Archive) (states : List ArchiveState) → AreEachStates archives states → AreStates archives states
by_place [] states each i a s at there = cc
by_place (x ∷ archives) [] each i a s at there = cc
by_place (x ∷ archives) (y ∷ states) each zero a s at there =
    let archive : x ≡ a = cc in
    let state : y ≡ s = cc in
    subst (λ z. IsStateOf z.policy s) archive (subst (λ z. IsStateOf x.policy z) state each.0)
by_place (x ∷ archives) (y ∷ states) each (suc i) a s at there = by_place archives states each.1 i a s at there

pub one_by_one : (archives : List Archive) (states : List ArchiveState) → AreStates archives states → AreEachStates archives states
one_by_one [] states are = tt
one_by_one (x ∷ archives) [] are = tt
one_by_one (x ∷ archives) (y ∷ states) are = (are 0 x y refl refl, one_by_one archives states (λ i a s at there. are (suc i) a s at there))
