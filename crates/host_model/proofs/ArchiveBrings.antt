-- What an attempt at an archive brings is lawful.
use Rattle.std.specs.List.{AllByRecursion}
use Rattle.std.specs.Prelude.{◌++◌, IfSome, replicate}
use Rattle.std.proofs.Common.{◌+◌, ◌∷◌, ◌≡◌, ◌≤◌, [], arith, Bool, false, List, None, Option, refl, slice_get, Some, subst, suc, true, zero, ℕ}
use Rattle.std.proofs.lemmas.List.Elements.{recursion_from_All}
use Rattle.ps_time.specs.Numbers.{greatest_length, greatest_moment}
use Rattle.ps_time.specs.declared.key.RunKey.{RunKey}
use Rattle.archive_retry.specs.Bounds.{IsEntry, IsPolicy, IsStateOf}
use Rattle.archive_retry.specs.Retry.{counted, next_after, state_after, wait_after, written_out}
use Rattle.archive_retry.specs.declared.policy.Entry.{Entry}
use Rattle.archive_retry.specs.declared.policy.Policy.{Policy}
use Rattle.archive_retry.specs.declared.state.ArchiveState.{ArchiveState}
use Rattle.archive_retry.proofs.RetryLemmas.{next_lawful}
use Rattle.run_states.specs.LawfulRow.{IsDueInTime}
use Rattle.host_model.specs.Archives.{try_archive}
use Rattle.host_model.specs.Book.{Book}
use Rattle.host_model.specs.declared.config.Config.{Config}
use Rattle.host_model.proofs.Brings.{BringsLawful}
use Rattle.host_model.proofs.StepAlong.{tried_along}
use Rattle.host_model.proofs.StepGrown.{task_policy}
use Rattle.host_model.proofs.WalkLemmas.{AllAlong}

-- ---- the wait of a policy is at most the greatest length
same_wait : (n w : ℕ) (ws : List ℕ) (i x : ℕ) → w ≤ greatest_length → ((j y : ℕ) → slice_get ws j ≡ Some y → y ≤ greatest_length) → slice_get (replicate n w ++ ws) i ≡ Some x → x ≤ greatest_length
same_wait zero w ws i x short rest e = rest i x e
same_wait (suc n) w ws zero x short rest e = let is : w ≡ x = cc in subst (λ y. y ≤ greatest_length) is short
same_wait (suc n) w ws (suc i) x short rest e = same_wait n w ws i x short rest e

waits_short : (es : List Entry) → AllByRecursion IsEntry es → (i x : ℕ) → slice_get (written_out es) i ≡ Some x → x ≤ greatest_length
waits_short [] all i x e = cc
waits_short (entry ∷ es) all i x e = same_wait entry.attempts entry.wait (written_out es) i x all.0.short (waits_short es all.1) e

-- ---- the next attempt
next_short : (m : ℕ) (policy : Policy) (retry wait : Option ℕ) → m ≤ greatest_moment → IfSome retry (λ r. r ≤ greatest_length) → IfSome wait (λ w. w ≤ greatest_length) → IfSome (next_after m retry wait) (λ next. next ≤ greatest_moment + greatest_length)
next_short m policy None wait now low short = tt
next_short m policy (Some r) None now low short = tt
next_short m policy (Some r) (Some w) now low short = omega (arith, now, low, short)

wait_short : (policy : Policy) (tried : ℕ) → IsPolicy policy → IfSome (wait_after policy tried) (λ w. w ≤ greatest_length)
wait_short policy tried is = go (wait_after policy tried) refl
  where
    go : (o : Option ℕ) → wait_after policy tried ≡ o → IfSome o (λ w. w ≤ greatest_length)
    go None e = tt
    go (Some w) e = waits_short policy.entries (recursion_from_All IsEntry policy.entries is.entries) tried w e

-- an attempt leaves a state within bounds
after_lawful_state : (policy : Policy) (s : ArchiveState) (m : ℕ) (retry : Option ℕ) (good : Bool) → IsPolicy policy → m ≤ greatest_moment → IfSome retry (λ r. r ≤ greatest_length) →
    IsDueInTime (state_after policy s m retry good) × IsStateOf policy (state_after policy s m retry good)
after_lawful_state policy s m retry true is now low = (tt, tt)
after_lawful_state policy s m retry false is now low =
    let bound : IfSome (next_after m retry (wait_after policy s.tried)) (λ next. next ≤ greatest_moment + greatest_length) = next_short m policy retry (wait_after policy s.tried) now low (wait_short policy s.tried is) in
    (bound, next_lawful policy s.tried (counted s.tried) m retry (omega arith) bound)

module _ (c : Config) (m : ℕ) (b : Book) where
  pub tried_brings : (k : RunKey) (index : ℕ) (good : Bool) (retry : Option ℕ) → IfSome retry (λ r. r ≤ greatest_length) → AllAlong (BringsLawful c.number m) m b (try_archive b m k index good retry).list
  tried_brings k index good retry low = tried_along (BringsLawful c.number m) m c b k index good retry (λ r s a found state archive due now lawful.
      let policy : IsPolicy a.policy = task_policy b.moment b.tasks k index a lawful.tasks archive in
      let both = after_lawful_state a.policy s m retry good policy (subst (λ n. n ≤ greatest_moment) now lawful.moment) low in
      (both.0, λ other at. let same : a ≡ other = cc in subst (λ x. IsStateOf x.policy (state_after a.policy s m retry good)) same both.1))
