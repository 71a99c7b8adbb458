-- The next multiple is the least from now on.
use Rattle.std.proofs.Common.{◌≡◌, ℕ, ◌+◌, ◌*◌, ◌/◌, ◌%◌, ◌<◌, ◌≤◌, true, false, cond, eqb, refl, ◌∙◌, arith, ⊎_elim}
use native.Mathlib.Nat.{mul-mod_left}
use Rattle.std.proofs.Math.Nat.{mul-le-mul_left, mul_comm}
use Rattle.std.proofs.lemmas.Bool.{cases_lt}
use Rattle.std.proofs.lemmas.Bool.Decides.{nat_tests}
use Rattle.ps_time.specs.Start.{next_multiple}

past_is : (step now : ℕ) → 0 < step → (now / step + 1) * step ≡ step * (now / step) + step
past_is step now some = mul_comm (now / step + 1) step ∙ omega arith

pub next_multiple_multiple : (step now : ℕ) → 0 < step → next_multiple step now % step ≡ 0
next_multiple_multiple step now some =
    elim (eqb (now % step) 0) as (λ b. eqb (now % step) 0 ≡ b → cond b now ((now / step + 1) * step) % step ≡ 0) [
      | true ↦ λ is. grind (arith, nat_tests)
      | false ↦ λ is. mul-mod_left (now / step + 1) step
    ] refl

pub next_multiple_from : (step now : ℕ) → 0 < step → now ≤ next_multiple step now
next_multiple_from step now some =
    elim (eqb (now % step) 0) as (λ b. now ≤ cond b now ((now / step + 1) * step)) [
      | true ↦ omega arith
      | false ↦ omega (arith, past_is step now some)
    ]

pub next_multiple_least : (step now other : ℕ) → 0 < step → other % step ≡ 0 → now ≤ other → next_multiple step now ≤ other
next_multiple_least step now other some multiple later =
    elim (eqb (now % step) 0) as (λ b. eqb (now % step) 0 ≡ b → cond b now ((now / step + 1) * step) ≤ other) [
      | true ↦ λ is. later
      | false ↦ λ is. let inside : 0 < now % step = grind (arith, nat_tests) in
          ⊎_elim
          (λ below. let next : now / step + 1 ≤ other / step = omega arith in
          let low : step * (now / step + 1) ≤ step * (other / step) = mul-le-mul_left step next in omega (arith, low, past_is step now some))
          (λ above. let high : step * (other / step) ≤ step * (now / step) = mul-le-mul_left step above in absurd (omega (arith, high)))
          (cases_lt (now / step) (other / step))
    ] refl
