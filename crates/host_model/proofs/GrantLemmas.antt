-- What it means that limits permit a run: of their applications, by the first that decides.
use Rattle.std.proofs.Common.{◌≡◌, ◌↔◌, ℕ, ℤ, zero, suc, ◌+◌, ◌<◌, Bool, true, false, cond, List, [], ◌∷◌, Option, Some, None, IsFalse, slice_get, refl, sym, ap, subst, ◌∙◌, arith}
use Rattle.std.specs.Prelude.{int_lt}
use Rattle.ps_time.specs.Span.{Span}
use Rattle.ps_time.specs.declared.asker.Asker.{Asker}
use Rattle.ps_time.specs.declared.asker.Verdict.{Verdict}
use Rattle.ps_time.specs.declared.asker.Verdict.TheVariants.{Permitted, Stopped, Exhausted, AboveCeiling}
use Rattle.plugin_core.specs.declared.test_spec.TestSpec.{TestSpec}
use Rattle.limit_apply.specs.Application.{passes}
use Rattle.limit_apply.specs.Limits.{LimitsConfig as Limits, below_ceiling, ceiling_of, first_verdict, holds_at, permits_of, verdict_at, written_from}
use Rattle.limit_apply.specs.declared.application.Application.{Application}
use Rattle.host_model.specs.Granting.{Grants}

-- what an application with these tests adds to the list of those that take part
abbrev added : Bool → Bool → Bool → ℕ → List (ℕ × Option Verdict) → List (ℕ × Option Verdict)
added part passed stop n rest = cond part ((n, cond passed (Some (Permitted n)) (cond stop (Some (Stopped n)) None)) ∷ rest) rest

module _ (l : Limits) (asker : Asker) (test : TestSpec) (interval : Span) where
  abbrev takes_part : Application → Bool
  takes_part a = holds_at l asker a.classifier

  abbrev does_pass : Application → Bool
  does_pass a = passes l.limits test (Some interval) a

  abbrev verdict : ℕ → List Application → Verdict
  verdict n xs = first_verdict (written_from l asker test (Some interval) n xs)

  -- the application at this place of the list decides, and permits
  record Decides (xs : List Application) (at : ℕ) : Type 0 where
    application : Application
    there : slice_get xs at ≡ Some application
    part : takes_part application ≡ true
    passed : does_pass application ≡ true
    undecided : (j : ℕ) (a : Application) → j < at → slice_get xs j ≡ Some a → takes_part a ≡ true → (does_pass a ≡ false) × (a.stop_on_failure ≡ false)

  -- one that doesn't decide stands before
  later : (a : Application) (xs : List Application) (at : ℕ) → (takes_part a ≡ true → (does_pass a ≡ false) × (a.stop_on_failure ≡ false)) → Decides xs at → Decides (a ∷ xs) (suc at)
  later a xs at silent d = record {
    application = d.application;
    there = d.there;
    part = d.part;
    passed = d.passed;
    undecided = λ j x. before j x;
  }
    where
      before : (j : ℕ) (x : Application) → j < suc at → slice_get (a ∷ xs) j ≡ Some x → takes_part x ≡ true → (does_pass x ≡ false) × (x.stop_on_failure ≡ false)
      before zero x low e part =
          let same : a ≡ x = cc in
          subst (λ z. takes_part z ≡ true → (does_pass z ≡ false) × (z.stop_on_failure ≡ false)) same silent part
      before (suc j) x low e part = d.undecided j x (omega (arith, low)) e part

  to_decides : (xs : List Application) (n index : ℕ) → verdict n xs ≡ Permitted index → (at : ℕ) × (index ≡ n + at) × Decides xs at
  to_decides [] n index e = cc
  to_decides (a ∷ xs) n index e = go (takes_part a) (does_pass a) a.stop_on_failure refl refl refl e (to_decides xs (n + 1) index)
    where
      rest : List (ℕ × Option Verdict)
      rest = written_from l asker test (Some interval) (n + 1) xs

      on : (takes_part a ≡ true → (does_pass a ≡ false) × (a.stop_on_failure ≡ false)) → ((at : ℕ) × (index ≡ n + 1 + at) × Decides xs at) → (at : ℕ) × (index ≡ n + at) × Decides (a ∷ xs) at
      on silent x = (suc x.0, omega (arith, x.1), later a xs x.0 silent x.2)

      go : (part passed stop : Bool) → takes_part a ≡ part → does_pass a ≡ passed → a.stop_on_failure ≡ stop → first_verdict (added part passed stop n rest) ≡ Permitted index →
          (first_verdict rest ≡ Permitted index → (at : ℕ) × (index ≡ n + 1 + at) × Decides xs at) → (at : ℕ) × (index ≡ n + at) × Decides (a ∷ xs) at
      go false passed stop f g h is ih = on (λ part. let never : true ≡ false = sym part ∙ f in cc) (ih is)
      go true true stop f g h is ih =
          let same : n ≡ index = cc in
          (zero, omega (arith, same), record { application = a; there = refl; part = f; passed = g; undecided = λ j x low. absurd (omega (arith, low)) })
      go true false true f g h is ih = cc
      go true false false f g h is ih = on (λ part. (g, h)) (ih is)

  of_behind : (a : Application) (xs : List Application) (at : ℕ) → Decides (a ∷ xs) (suc at) → Decides xs at
  of_behind a xs at d = record { application = d.application; there = d.there; part = d.part; passed = d.passed; undecided = λ j x low. d.undecided (suc j) x (omega (arith, low)) }

  of_decides : (xs : List Application) (at n : ℕ) → Decides xs at → verdict n xs ≡ Permitted (n + at)
  of_decides [] at n d = let there = d.there in cc
  of_decides (a ∷ xs) zero n d =
      let there = d.there in
      let same : d.application ≡ a = cc in
      go (takes_part a) (does_pass a) (sym (ap takes_part same) ∙ d.part) (sym (ap does_pass same) ∙ d.passed)
    where
      rest : List (ℕ × Option Verdict)
      rest = written_from l asker test (Some interval) (n + 1) xs

      go : (part passed : Bool) → part ≡ true → passed ≡ true → first_verdict (added part passed a.stop_on_failure n rest) ≡ Permitted (n + 0)
      go true true f g = ap Permitted (omega arith)
      go true false f g = cc
      go false passed f g = cc
  of_decides (a ∷ xs) (suc at) n d = go (takes_part a) (does_pass a) a.stop_on_failure refl refl refl (of_decides xs at (n + 1) (of_behind a xs at d) ∙ ap Permitted (omega arith))
    where
      rest : List (ℕ × Option Verdict)
      rest = written_from l asker test (Some interval) (n + 1) xs

      silent : takes_part a ≡ true → (does_pass a ≡ false) × (a.stop_on_failure ≡ false)
      silent part = d.undecided 0 a (omega arith) refl part

      go : (part passed stop : Bool) → takes_part a ≡ part → does_pass a ≡ passed → a.stop_on_failure ≡ stop → first_verdict rest ≡ Permitted (n + suc at) → first_verdict (added part passed stop n rest) ≡ Permitted (n + suc at)
      go false passed stop f g h next = next
      go true true stop f g h next = let never : true ≡ false = sym g ∙ (silent f).0 in cc
      go true false true f g h next = let never : true ≡ false = sym h ∙ (silent f).1 in cc
      go true false false f g h next = next

  -- ---- with the ceiling
  module _ (priority : ℤ) (index : ℕ) where
    below_is : (v : Verdict) → (below_ceiling l asker priority v ≡ Permitted index) ↔ ((v ≡ Permitted index) × IsFalse (int_lt (ceiling_of l asker) priority))
    below_is (Permitted i) = ((λ e. to (int_lt (ceiling_of l asker) priority) refl e), (λ x. of (int_lt (ceiling_of l asker) priority) x.1 x.0))
      where
        to : (b : Bool) → int_lt (ceiling_of l asker) priority ≡ b → cond b (AboveCeiling (ceiling_of l asker)) (Permitted i) ≡ Permitted index → (Permitted i ≡ Permitted index) × IsFalse (int_lt (ceiling_of l asker) priority)
        to true f e = cc
        to false f e = (e, f)

        of : (b : Bool) → b ≡ false → Permitted i ≡ Permitted index → cond b (AboveCeiling (ceiling_of l asker)) (Permitted i) ≡ Permitted index
        of true f e = cc
        of false f e = e
    below_is (Stopped i) = ((λ e. cc), (λ x. x.0))
    below_is Exhausted = ((λ e. cc), (λ x. x.0))
    below_is (AboveCeiling ceiling) = ((λ e. cc), (λ x. x.0))

    to_grants : permits_of l asker test interval priority ≡ Permitted index → Grants l asker test interval priority index
    to_grants e =
        let below = (below_is (verdict_at l asker test (Some interval))).0 e in
        let x = to_decides l.applications 0 index below.0 in
        let same : x.0 ≡ index = omega (arith, x.1) in
        let d : Decides l.applications index = subst (Decides l.applications) same x.2 in
        record { application = d.application; there = d.there; part = d.part; passed = d.passed; undecided = d.undecided; below = below.1 }

    of_grants : Grants l asker test interval priority index → permits_of l asker test interval priority ≡ Permitted index
    of_grants g =
        let d : Decides l.applications index = record { application = g.application; there = g.there; part = g.part; passed = g.passed; undecided = g.undecided } in
        let same : 0 + index ≡ index = omega arith in
        (below_is (verdict_at l asker test (Some interval))).1 (of_decides l.applications index 0 d ∙ ap Permitted same, g.below)

    -- the verdict permits, by this application, exactly where it grants the run
    pub granted_exactly : (permits_of l asker test interval priority ≡ Permitted index) ↔ Grants l asker test interval priority index
    granted_exactly = (to_grants, of_grants)
