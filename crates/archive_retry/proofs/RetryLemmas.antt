-- The waits of a policy written out.
use Rattle.std.proofs.Common.{◌≡◌, ℕ, zero, suc, ◌+◌, ◌-◌, ◌<◌, ◌≤◌, List, [], ◌∷◌, ◌++◌, length, drop, get_or, Option, Some, None, IfSome, refl, add-one, drop-cons, length-append, arith}
use Rattle.std.proofs.lemmas.List.{length-replicate}
use Rattle.std.proofs.lemmas.List.Sums.{sum_by-cons}
use Rattle.std.proofs.lemmas.Option.{slice_get_within}
use Rattle.std.proofs.Math.ListN.{replicate}
use Rattle.std.specs.List.{slice_get, sum_by}
use Rattle.ps_time.specs.Numbers.{greatest_length, greatest_moment}
use Rattle.archive_retry.specs.declared.policy.Entry.{Entry}
use Rattle.archive_retry.specs.declared.policy.Policy.{Policy}
use Rattle.archive_retry.specs.Retry.{written_out, attempts_of, wait_after, next_after}

-- the first entry's wait stands at the first places
pub wait_here : (n w : ℕ) (ws : List ℕ) (i : ℕ) → i < n → slice_get (replicate n w ++ ws) i ≡ Some w
wait_here zero w ws i lt = absurd (omega arith)
wait_here (suc n) w ws zero lt = refl
wait_here (suc n) w ws (suc i) lt = wait_here n w ws i (omega arith)

-- and those of the others after them
pub wait_past : (n w : ℕ) (ws : List ℕ) (i : ℕ) → n ≤ i → slice_get (replicate n w ++ ws) i ≡ slice_get ws (i - n)
wait_past zero w ws i le = let e : i - 0 ≡ i = omega arith in rw e refl
wait_past (suc n) w ws zero le = absurd (omega arith)
wait_past (suc n) w ws (suc i) le = let e : suc i - suc n ≡ i - n = omega arith in rw e (wait_past n w ws i (omega arith))

-- the wait where the entry at a place has attempts left for it
pub wait_at : (es : List Entry) (i left : ℕ) (d : Entry) → i < length es → left < (get_or es i d).attempts → slice_get (written_out (drop i es)) left ≡ Some (get_or es i d).wait
wait_at es i left d within lt = rw (drop-cons es i d within) (wait_here (get_or es i d).attempts (get_or es i d).wait (written_out (drop (suc i) es)) left lt)

-- and where it is spent
pub wait_after_it : (es : List Entry) (i left : ℕ) (d : Entry) → i < length es → (get_or es i d).attempts ≤ left → slice_get (written_out (drop i es)) left ≡ slice_get (written_out (drop (i + 1) es)) (left - (get_or es i d).attempts)
wait_after_it es i left d within le = rw (add-one, drop-cons es i d within) (wait_past (get_or es i d).attempts (get_or es i d).wait (written_out (drop (suc i) es)) left le)

-- written out it has as many waits as attempts
pub written_length : (es : List Entry) → length (written_out es) ≡ sum_by (λ e. e.attempts) es
written_length [] = refl
written_length (e ∷ es) =
    omega (arith, length-append (replicate e.attempts e.wait) (written_out es), length-replicate e.attempts e.wait, written_length es, sum_by-cons (λ (e : Entry). e.attempts) e es)

-- the state that an attempt leaves
pub next_lawful : (policy : Policy) (tried count m : ℕ) (retry : Option ℕ) → count ≤ tried + 1 → IfSome (next_after m retry (wait_after policy tried)) (λ next. next ≤ greatest_moment + greatest_length)
    → IfSome (next_after m retry (wait_after policy tried)) (λ next. (next ≤ greatest_moment + greatest_length) × (count ≤ attempts_of policy))
next_lawful policy tried count m None more bound = tt
next_lawful policy tried count m (Some r) more bound = by_wait (wait_after policy tried) refl bound
  where
    by_wait : (o : Option ℕ) → wait_after policy tried ≡ o → IfSome (next_after m (Some r) o) (λ next. next ≤ greatest_moment + greatest_length)
        → IfSome (next_after m (Some r) o) (λ next. (next ≤ greatest_moment + greatest_length) × (count ≤ attempts_of policy))
    by_wait None is bound = tt
    by_wait (Some w) is bound = (bound, omega (arith, more, written_length policy.entries, slice_get_within (written_out policy.entries) tried w is))
