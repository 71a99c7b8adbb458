use Rattle.std.specs.Prelude.{IfErr}
use Rattle.std.proofs.Common.{◌∷◌, ◌≡◌, ◌-◌, ℕ, List, Result, drop, get_or, length, subst, sym, take}
use Rattle.machine_keep.specs.Refusal.{IsFirstRefused}
use Rattle.host_replay.specs.Stands.{StandsFor}
use Rattle.host_replay.specs.declared.restore.Restored.{Restored}
use Rattle.host_replay.proofs.ListLemmas.{none_after, put_together}
use Rattle.host_replay.proofs.restore.restore.Goals as goal

pub returns-in-Ok-Err-clause-front : goal.returns-in-Ok-Err-clause-front
returns-in-Ok-Err-clause-front c = λ index e.
    let number = c.args.number in
    let list : List (List ℕ) = c.args.list.now in
    let snapshot : List ℕ = c.as_slice.result.now in
    let is : snapshot ≡ get_or list 0 snapshot = subst (λ (x : List ℕ). x ≡ get_or list 0 x) (sym c.as_slice.ensures) c.snapshot-item.is in
    let same : c.in-Ok-Err.index ≡ index = cc in
    let first = subst (λ (r : Result Restored ℕ). IfErr r (IsFirstRefused (StandsFor number) (snapshot ∷ take (length list - 1) (drop 1 list)))) c.in-Ok-Err.field-0-is c.in-Ok-Err.ensures.first in
    subst (λ (i : ℕ). IsFirstRefused (StandsFor number) list i) same (subst (λ (l : List (List ℕ)). IsFirstRefused (StandsFor number) l c.in-Ok-Err.index) (put_together list snapshot c.in-len1-up.len_at_least is) first)

pub returns-in-Ok-Err-clause-refused : goal.returns-in-Ok-Err-clause-refused
returns-in-Ok-Err-clause-refused c = λ index e.
    let first = returns-in-Ok-Err-clause-front c index e in
    (first.within, none_after c.args.number c.args.list.now index first)
