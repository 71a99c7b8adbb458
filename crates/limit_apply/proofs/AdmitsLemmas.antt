-- Before there is a run, no ceiling is looked at.
use Rattle.std.proofs.Common.{◌≡◌, ◌≢◌, ℕ, ◌+◌, ℤ, sym, ◌∙◌, Bool, true, false, cond, List, [], ◌∷◌, Option, Some, None, is_none, ◌&&◌}
use Rattle.std.specs.Option.{unwrap_or}
use Rattle.ps_time.specs.Span.{Span}
use Rattle.ps_time.specs.declared.asker.Asker.{Asker}
use Rattle.ps_time.specs.declared.asker.Verdict.{Verdict}
use Rattle.ps_time.specs.declared.asker.Verdict.TheVariants.{Permitted, Stopped, AboveCeiling}
use Rattle.plugin_core.specs.declared.test_spec.TestSpec.{TestSpec}
use Rattle.limit_apply.specs.Application.{cites_run, passes, decided}
use Rattle.limit_apply.specs.Limits.{LimitsConfig, holds_at, written_from, first_verdict, admits_of}
use Rattle.limit_apply.specs.declared.application.Application.{Application}

module _ (config : LimitsConfig) (asker : Asker) (test : TestSpec) (run : Option Span) (ceiling : ℤ) where
  -- neither of the two that an application decides is that, nor is what comes after it
  one_of : (index : ℕ) (cites pass stop : Bool) (later : Verdict) → later ≢ AboveCeiling ceiling
      → unwrap_or (cond cites (Some (Permitted index)) (cond pass (Some (Permitted index)) (cond stop (Some (Stopped index)) None))) later ≢ AboveCeiling ceiling
  one_of index true pass stop later other is = absurd cc
  one_of index false true stop later other is = absurd cc
  one_of index false false true later other is = absurd cc
  one_of index false false false later other is = other is

  first_other : (index : ℕ) (applications : List Application) → first_verdict (written_from config asker test run index applications) ≢ AboveCeiling ceiling
  first_other index [] is = absurd cc
  first_other index (a ∷ others) is =
      let rest = written_from config asker test run (index + 1) others in
      let cases = elim (holds_at config asker a.classifier) as (λ t. first_verdict (cond t ((index, decided config.limits test run index a) ∷ rest) rest) ≢ AboveCeiling ceiling) [
        | true ↦ one_of index (is_none run && cites_run config.limits a) (passes config.limits test run a) a.stop_on_failure _ (first_other (index + 1) others)
        | false ↦ first_other (index + 1) others
      ] in
      cases is

pub never_above : (verdict : Verdict) (config : LimitsConfig) (asker : Asker) (test : TestSpec) (ceiling : ℤ) → verdict ≡ admits_of config asker test → verdict ≢ AboveCeiling ceiling
never_above verdict config asker test ceiling is above = first_other config asker test None ceiling 0 config.applications (sym is ∙ above)
