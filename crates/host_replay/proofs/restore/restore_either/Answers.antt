use Rattle.std.specs.Prelude.{IfErr}
use Rattle.std.proofs.Common.{◌∷◌, ℕ, List, Result, false, subst, true}
use Rattle.host_book.specs.Host.{Host}
use Rattle.machine_keep.specs.Refusal.{IsFirstRefused}
use Rattle.host_replay.specs.Stands.{StandsAs}
use Rattle.host_replay.proofs.ListLemmas.{first_later}
use Rattle.host_replay.proofs.restore.restore_either.Goals as goal

-- the one that goes on longer
pub returns-in-Err-2-clause-first : goal.returns-in-Err-2-clause-first
returns-in-Err-2-clause-first c =
    let list : List (List ℕ) = c.args.snapshot.now ∷ c.args.records.now in
    let one = subst (λ (r : Result Host ℕ). IfErr r (IsFirstRefused (StandsAs true c.args.number) list)) c.in-Err.is c.in_ok-book.ensures.first in
    let two = subst (λ (r : Result Host ℕ). IfErr r (IsFirstRefused (StandsAs false c.args.number) list)) c.in-Err-2.is c.in_ok-book-in-Err.ensures.first in
    first_later c.args.number list c.in-Err.index c.in-Err-2.other c.later.result one two c.later.ensures.bound c.later.ensures.bound_too c.later.ensures.one
