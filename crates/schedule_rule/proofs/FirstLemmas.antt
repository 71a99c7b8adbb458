-- The first number for which a test holds is the least.
use Rattle.std.proofs.Common.{◌≡◌, ℕ, zero, suc, ◌+◌, ◌≤◌, ◌<◌, Bool, true, false, Option, Some, None, if◌then◌else◌, IsNone, IfSome, inl, inr, refl, sym, ap, ◌∙◌, arith}
use Rattle.std.proofs.lemmas.Bool.{cases_lt}
use Rattle.schedule_rule.specs.Rule.{first_from, IsLeast, HoldsNowhere}

steps : (test : ℕ → Bool) (n more : ℕ) (b : Bool) → test n ≡ b → first_from test n (suc more) ≡ (if b then Some n else first_from test (suc n) more)
unfolding first_from
steps test n more true is = rw (first_from, is) refl
steps test n more false is = rw (first_from, is) refl

none_from : (test : ℕ → Bool) (n more : ℕ) → HoldsNowhere test → first_from test n more ≡ None
unfolding first_from
none_from test n zero nowhere = refl
none_from test n (suc more) nowhere = steps test n more false (nowhere n) ∙ none_from test (suc n) more nowhere

-- the search ends here, or goes on below k
some_next : (test : ℕ → Bool) (n more k : ℕ) (b : Bool) → n ≤ k → IsLeast test k → (suc n ≤ k → first_from test (suc n) more ≡ Some k) → test n ≡ b → first_from test n (suc more) ≡ Some k
some_next test n more k true order least later is =
    let back : k ≤ n = least.least n is in
    let same : n ≡ k = omega arith in
    steps test n more true is ∙ ap Some same
some_next test n more k false order least later is =
    steps test n more false is ∙ later (elim (cases_lt n k) [ inl below ↦ omega arith | inr back ↦ let same : n ≡ k = omega arith in absurd (let both : true ≡ false = sym least.holds ∙ sym (ap test same) ∙ is in cc) ])

some_from : (test : ℕ → Bool) (n more k : ℕ) → n ≤ k → k < n + more → IsLeast test k → first_from test n more ≡ Some k
some_from test n zero k order room least = absurd (omega arith)
some_from test n (suc more) k order room least = some_next test n more k (test n) order least (λ below. some_from test (suc n) more k below (omega arith) least) refl

pub found : (test : ℕ → Bool) (count : ℕ) (r : Option ℕ) → IfSome r (λ k. k < count) → IfSome r (IsLeast test) → (IsNone r → HoldsNowhere test) → r ≡ first_from test 0 count
found test count None small least none = sym (none_from test 0 count (none refl))
found test count (Some k) small least none = sym (some_from test 0 count k (omega arith) (omega (arith, small)) least)
